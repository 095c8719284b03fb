-- What the kind of a refused reading says of the octets.
use Rattle.std.proofs.Common.{◌≡◌, refl, sym, ap, subst, ℕ, Bool, List, length, ◌⊎◌, inl, inr, Result, Err, arith}
use Rattle.std.specs.Prelude.{IfErr}
use Rattle.rasn_types.specs.Bits.{Bits, unpack}
use Rattle.rasn_types.specs.Variants.{variant_of}
use Rattle.rasn_types.specs.Values.{Value}
use Rattle.rasn_types.specs.declared.types.Codec.{Codec}
use Rattle.rasn_schema.specs.Schemas.{Schema}
use Rattle.rasn_traits.specs.Calls.{Refuses}
use Rattle.per_core.specs.Ends.{AreOver, IsWhy, kind_of}
use Rattle.rasn_constraints.specs.Bounds.{count_of, number_of}
use Rattle.per_core.specs.declared.ends.Surplus.{Surplus}
use Rattle.per_core.specs.declared.ends.Surplus.TheVariants.{Missing, NonzeroOctet, NonzeroSpareBits, ExtraOctets}
use Rattle.per_decoding.specs.Rules.{decoder_rules}
use Rattle.per_decoding.specs.State.{State, noting}
use Rattle.per_decoding.specs.Faults.{IsOf, refusal}
use Rattle.per_core.specs.declared.decode_error.DecodeError.{DecodeError}
use Rattle.per_core.specs.declared.decode_error.DecodeErrorKind.{DecodeErrorKind}
use Rattle.per_core.specs.declared.decode_error.DecodeErrorKind.TheVariants.{Incomplete, ParserFail}
use Rattle.per_core.specs.declared.decode_error.DecodeErrorKind.TheVariants.{UnexpectedExtraData, AlreadyFailed}
use Rattle.per_core.specs.declared.decode_error.DecodeErrorKind.TheVariants.{OutOfMemory}
use Rattle.rasn_per.specs.Kinds.{IsInFront, IsInOctetsBy, IsUnended, IsWithoutRemainder, IsRemainder, IsWhyNone}
use Rattle.rasn_per.specs.Calls.{reading}
use Rattle.rasn_per.proofs.Decoded.{fresh, Ended, so}

-- two words of a number are the number
counted : (n : ℕ) → number_of (count_of n) ≡ n
counted n = omega arith

module _ (a : Codec) (strict : Bool) (schema : ℕ → Schema) (octets : List ℕ) where
  of_fresh : (k : DecodeErrorKind) → IsOf k (schema 128) (fresh a strict octets) → IsInOctetsBy (reading strict (variant_of a)) schema octets k
  of_fresh AlreadyFailed h = absurd (cc)
  of_fresh (UnexpectedExtraData n) h = inr h
  of_fresh (Incomplete n) h = inr h
  of_fresh (ParserFail cause) h = inr h
  of_fresh OutOfMemory h = tt
  of_fresh _ h = h

  of_fresh_front : (k : DecodeErrorKind) → IsOf k (schema 128) (fresh a strict octets) → IsInFront (reading strict (variant_of a)) schema octets k
  of_fresh_front AlreadyFailed h = absurd (cc)
  of_fresh_front (Incomplete n) h = inr h
  of_fresh_front (ParserFail cause) h = inr h
  of_fresh_front OutOfMemory h = tt
  of_fresh_front _ h = h

  named_so : {T : Type 0} (P : DecodeErrorKind → Type 0) → ((k : DecodeErrorKind) → IsOf k (schema 128) (fresh a strict octets) → P k) → P OutOfMemory
      → (result : Result T DecodeError) (f : DecodeError) (s : State) → s ≡ fresh a strict octets → result ≡ Err f
      → ((f ≡ refusal OutOfMemory s) ⊎ Refuses (decoder_rules.spells (schema s.levels)) (decoder_rules.fault (schema s.levels)) f s) → IfErr result (λ e. P e.kind)
  named_so P so room result f s e g h = rw g (go h)
    where
      go : (f ≡ refusal OutOfMemory s) ⊎ Refuses (decoder_rules.spells (schema s.levels)) (decoder_rules.fault (schema s.levels)) f s → P f.kind
      go (inl m) = subst P (sym (ap (λ (z : DecodeError). z.kind) m)) room
      go (inr r) = so f.kind (subst (λ (z : State). IsOf f.kind (schema z.levels) (noting z)) e r.stands.stands)

  -- the kind of a refusal of the fresh decoder
  pub named : {T : Type 0} (result : Result T DecodeError) (f : DecodeError) (s : State) → s ≡ fresh a strict octets → result ≡ Err f
      → ((f ≡ refusal OutOfMemory s) ⊎ Refuses (decoder_rules.spells (schema s.levels)) (decoder_rules.fault (schema s.levels)) f s) → IfErr result (λ e. IsInOctetsBy (reading strict (variant_of a)) schema octets e.kind)
  named = named_so (λ k. IsInOctetsBy (reading strict (variant_of a)) schema octets k) of_fresh tt

  -- and what it says of a front
  pub named_front : {T : Type 0} (result : Result T DecodeError) (f : DecodeError) (s : State) → s ≡ fresh a strict octets → result ≡ Err f
      → ((f ≡ refusal OutOfMemory s) ⊎ Refuses (decoder_rules.spells (schema s.levels)) (decoder_rules.fault (schema s.levels)) f s) → IfErr result (λ e. IsInFront (reading strict (variant_of a)) schema octets e.kind)
  named_front = named_so (λ k. IsInFront (reading strict (variant_of a)) schema octets k) of_fresh_front tt

  -- the kind where no octets are after what was read
  without : (why : Surplus) (left : ℕ) (v : Value) (s t : State) → s ≡ fresh a strict octets → decoder_rules.spells (schema s.levels) s v t → left ≡ length t.bits
      → ((rest : List ℕ) → IsRemainder left octets rest → ⊥) → IsWhyNone left octets why → IsWithoutRemainder (reading strict (variant_of a)) schema octets why
  without why left v s t e h l none w = record {
    value = v;
    left = t.bits;
    read = (subst (λ z. decoder_rules.spells (schema z.levels) z v t) e h).took;
    is_why = subst (λ m. IsWhyNone m octets why) l w;
    none = subst (λ m. (rest : List ℕ) → IsRemainder m octets rest → ⊥) l none;
  }

  pub named_none : (why : Surplus) (left : ℕ) (v : Value) (s t : State) → s ≡ fresh a strict octets → decoder_rules.spells (schema s.levels) s v t → left ≡ length t.bits
      → ((rest : List ℕ) → IsRemainder left octets rest → ⊥) → IsWhyNone left octets why → IsInFront (reading strict (variant_of a)) schema octets (kind_of why)
  named_none (Missing n) left v s t e h l none w = inl (Missing n, refl, without (Missing n) left v s t e h l none w)
  named_none NonzeroOctet left v s t e h l none w = inl (NonzeroOctet, refl, without NonzeroOctet left v s t e h l none w)
  named_none NonzeroSpareBits left v s t e h l none w = absurd w
  named_none (ExtraOctets n) left v s t e h l none w = absurd w

  is_unended : (why : Surplus) (v : Value) (s t : State) (b : Bits) → s ≡ fresh a strict octets → decoder_rules.spells (schema s.levels) s v t
      → Ended a strict schema octets (λ l n. IsWhy strict l n why) t b → IsUnended (reading strict (variant_of a)) schema octets why
  is_unended why v s t b e h d = record {
    value = v;
    left = t.bits;
    read = (subst (λ z. decoder_rules.spells (schema z.levels) z v t) e h).took;
    is_why = so a strict schema octets (λ l m. IsWhy strict l m why) t b d;
  }

  -- the kind of a reading that doesn't end as it has to
  pub named_surplus : (surplus : Surplus) (v : Value) (s t : State) (b : Bits) → s ≡ fresh a strict octets → decoder_rules.spells (schema s.levels) s v t
      → Ended a strict schema octets (λ l n. IsWhy strict l n surplus) t b → IsInOctetsBy (reading strict (variant_of a)) schema octets (kind_of surplus)
  named_surplus (Missing n) v s t b e h d = inl (Missing n, refl, is_unended (Missing n) v s t b e h d)
  named_surplus NonzeroOctet v s t b e h d = inl (NonzeroOctet, refl, is_unended NonzeroOctet v s t b e h d)
  named_surplus NonzeroSpareBits v s t b e h d = inl (NonzeroSpareBits, refl, is_unended NonzeroSpareBits v s t b e h d)
  named_surplus (ExtraOctets n) v s t b e h d = inl (record {
    value = v;
    left = t.bits;
    read = (subst (λ z. decoder_rules.spells (schema z.levels) z v t) e h).took;
    are_over = subst (λ m. AreOver t.bits (length (unpack octets)) m) (sym (counted n)) (so a strict schema octets (λ l m. IsWhy strict l m (ExtraOctets n)) t b d).0;
    zeros = (so a strict schema octets (λ l m. IsWhy strict l m (ExtraOctets n)) t b d).1;
  })
