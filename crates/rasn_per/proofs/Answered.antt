-- How a fresh decoder's reading of all octets ended is what the octets are read as, or why they are not.
use Rattle.std.specs.Borrow.{Bor}
use Rattle.std.proofs.Common.{◌≡◌, subst, length, ap, ◌∙◌, ℕ, Bool, false, List, ◌⊎◌, inl, inr, Result, Ok, Err}
use Rattle.rasn_types.specs.Bits.{Bits, AreOctets}
use Rattle.rasn_types.specs.Values.{Value}
use Rattle.rasn_types.specs.declared.types.Codec.{Codec}
use Rattle.rasn_schema.specs.Schemas.{Schema}
use Rattle.rasn_traits.specs.Calls.{Refuses}
use Rattle.per_core.specs.Ends.{Ends, IsWhy, kind_of}
use Rattle.per_core.specs.declared.ends.Surplus.{Surplus}
use Rattle.per_decoding.specs.Rules.{decoder_rules}
use Rattle.per_decoding.specs.State.{State}
use Rattle.per_decoding.specs.Faults.{refusal}
use Rattle.per_core.specs.declared.decode_error.DecodeError.{DecodeError}
use Rattle.per_core.specs.declared.decode_error.DecodeErrorKind.TheVariants.{OutOfMemory}
use Rattle.rasn_per.specs.Calls.{DecodedBy, DecodedFront}
use Rattle.rasn_per.specs.Kinds.{IsRemainder, IsWhyNone}
use Rattle.rasn_per.proofs.Decoded.{fresh, Ended, decoded, refused, unended, decoded_front, refused_front, unended_front}
use Rattle.rasn_per.proofs.Named.{named, named_surplus, named_front, named_none}

module _ {T : Type 0} (a : Codec) (strict : Bool) (schema : ℕ → Schema) (value : T → Value) (octets : List ℕ) (s : State) (begun : s ≡ fresh a strict octets) where
  -- a value was read, and the octets end after it
  pub read : (x : T) (t : State) (b : Bits) → AreOctets octets → decoder_rules.spells (schema s.levels) s (value x) t → Ended a strict schema octets (Ends strict) t b → DecodedBy strict a schema value octets (Ok x)
  read x t b o h d = record {
    ok = decoded a strict schema octets (value x) s t b begun o h d;
    err = tt;
    kind = tt;
    variant = tt;
  }

  pub of_codec : (f : DecodeError) → (f ≡ refusal OutOfMemory s) ⊎ Refuses (decoder_rules.spells (schema s.levels)) (decoder_rules.fault (schema s.levels)) f s → f.codec ≡ s.codec
  of_codec f (inl m) = ap (λ (z : DecodeError). z.codec) m
  of_codec f (inr r) = r.stands.codec

  -- nothing was read
  pub unread : (result : Result T DecodeError) (f : DecodeError) → result ≡ Err f
      → ((f ≡ refusal OutOfMemory s) ⊎ Refuses (decoder_rules.spells (schema s.levels)) (decoder_rules.fault (schema s.levels)) f s) → DecodedBy strict a schema value octets result
  unread result f g h = record {
    ok = rw g tt;
    err = refused a strict schema octets result f s begun g h;
    kind = named a strict schema octets result f s begun g h;
    variant = rw g (of_codec f h ∙ ap (λ (z : State). z.codec) begun);
  }

  -- a value was read, and the octets don't end after it
  pub surplus : (why : Surplus) (f : DecodeError) (e : Codec) (x : T) (t : State) (b : Bits) → f ≡ record { kind = kind_of why; codec = e } → e ≡ t.codec → decoder_rules.spells (schema s.levels) s (value x) t
      → Ended a strict schema octets (λ l n. Ends strict l n → ⊥) t b → Ended a strict schema octets (λ l n. IsWhy strict l n why) t b → DecodedBy strict a schema value octets (Err f)
  surplus why f e x t b i c h d w = rw i (record {
    ok = tt;
    err = λ n. unended a strict schema octets (value x) s t b begun h d;
    kind = named_surplus a strict schema octets why (value x) s t b begun h w;
    variant = c ∙ ap (λ (z : State). z.codec) h.same ∙ ap (λ (z : State). z.codec) begun;
  })

module _ {T : Type 0} (a : Codec) (schema : ℕ → Schema) (value : T → Value) (octets : List ℕ) (s : State) (begun : s ≡ fresh a false octets) where
  -- a value was read, and octets are after it
  pub read_front : (x : T) (rest : Bor (List ℕ)) (t : State) (left : ℕ) → left ≡ length t.bits → decoder_rules.spells (schema s.levels) s (value x) t → IsRemainder left octets rest.now → DecodedFront a schema value octets (Ok (x, rest))
  read_front x rest t left l h d = record {
    ok = decoded_front a schema octets (value x) s t rest.now begun h (subst (λ n. IsRemainder n octets rest.now) l d);
    err = tt;
    kind = tt;
    variant = tt;
  }

  -- nothing was read
  pub unread_front : (result : Result (T × Bor (List ℕ)) DecodeError) (f : DecodeError) → result ≡ Err f
      → ((f ≡ refusal OutOfMemory s) ⊎ Refuses (decoder_rules.spells (schema s.levels)) (decoder_rules.fault (schema s.levels)) f s) → DecodedFront a schema value octets result
  unread_front result f g h = record {
    ok = rw g tt;
    err = refused_front a schema octets result f s begun g h;
    kind = named_front a false schema octets result f s begun g h;
    variant = rw g (of_codec a false schema value octets s begun f h ∙ ap (λ (z : State). z.codec) begun);
  }

  -- a value was read, and no octets are after it
  pub none_after : (why : Surplus) (f : DecodeError) (e : Codec) (x : T) (t : State) (left : ℕ) → left ≡ length t.bits → f ≡ record { kind = kind_of why; codec = e } → e ≡ t.codec
      → decoder_rules.spells (schema s.levels) s (value x) t → ((rest : List ℕ) → IsRemainder left octets rest → ⊥) → IsWhyNone left octets why → DecodedFront a schema value octets (Err f)
  none_after why f e x t left l i c h none w = rw i (record {
    ok = tt;
    err = λ n. unended_front a schema octets (value x) s t begun h (subst (λ n. (rest : List ℕ) → IsRemainder n octets rest → ⊥) l none);
    kind = named_none a false schema octets why left (value x) s t begun h l none w;
    variant = c ∙ ap (λ (z : State). z.codec) h.same ∙ ap (λ (z : State). z.codec) begun;
  })
