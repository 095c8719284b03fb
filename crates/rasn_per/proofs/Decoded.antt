-- What a fresh decoder reads, and how the reading ends, is what octets are read as.
use Rattle.std.proofs.Common.{◌≡◌, ◌≢◌, refl, sym, ap, ◌∙◌, subst, ℕ, Bool, false, List, ◌⊎◌, inl, inr, ◌%◌, ◌*◌, ◌≤◌, length, length-append, arith, Result, Err}
use Rattle.std.specs.Prelude.{IfErr}
use Rattle.rasn_types.specs.Bits.{Bits, AreOctets, unpack}
use Rattle.rasn_types.specs.Variants.{variant_of}
use Rattle.rasn_types.specs.declared.types.Codec.{Codec}
use Rattle.rasn_types.specs.Values.{Value}
use Rattle.rasn_types.proofs.Bits.{length-unpack}
use Rattle.rasn_schema.specs.Schemas.{Schema}
use Rattle.rasn_traits.specs.Calls.{Refuses}
use Rattle.per_core.specs.Basic.{fills, front}
use Rattle.per_core.specs.Ends.{Ends}
use Rattle.per_core.proofs.Readings.{one_reading}
use Rattle.per_core.proofs.TakenInTurn.{took_agree}
use Rattle.per_core.proofs.Laws.{one_value, one_front}
use Rattle.per_core.proofs.Filling.{fills_read, fills_back}
use Rattle.per_decoding.proofs.Scoping.Spelled.{spelled}
use Rattle.per_decoding.specs.Rules.{decoder_rules}
use Rattle.per_decoding.specs.State.{State, Options, from_octet, with_bits, fresh as from_input}
use Rattle.per_decoding.specs.Faults.{refusal}
use Rattle.per_core.specs.declared.decode_error.DecodeError.{DecodeError}
use Rattle.per_core.specs.declared.decode_error.DecodeErrorKind.TheVariants.{OutOfMemory}
use Rattle.rasn_per.specs.Calls.{reading, basically, AreReadBy, AreUnreadBy, BeginWith, BeginWithNone}
use Rattle.rasn_per.specs.Kinds.{IsRemainder}
use Rattle.rasn_per.proofs.Fronts.{front_read, front_back}

-- a decoder that has just begun with octets, given as bits
abbrev pub begin : Bits → Options → State
begin bits options = from_input (from_octet bits) options

-- the same, by what it was told
abbrev pub fresh : Codec → Bool → List ℕ → State
fresh a strict octets = begin (unpack octets) (record { codec = a; levels = 128; zero_padding = strict })

pub begun : (o : Options) (octets : List ℕ) (b : Bits) (s : State) → s ≡ begin b o → o.levels ≡ 128 → b ≡ unpack octets → s ≡ fresh o.codec o.zero_padding octets
begun o octets b s e f g =
    e ∙ ap (λ (n : ℕ). begin b (record { codec = o.codec; levels = n; zero_padding = o.zero_padding })) f
    ∙ ap (λ (z : Bits). begin z (record { codec = o.codec; levels = 128; zero_padding = o.zero_padding })) g

pub begun_basically : (o : Options) (octets : List ℕ) (b : Bits) (s : State) → s ≡ begin b o → o.levels ≡ 128 → o.zero_padding ≡ false → b ≡ unpack octets → s ≡ fresh o.codec false octets
begun_basically o octets b s e f h g = begun o octets b s e f g ∙ ap (λ (z : Bool). fresh o.codec z octets) h

pub full_octets : (octets : List ℕ) (b : Bits) (n : ℕ) → b ≡ unpack octets → n ≡ length b → n % 8 ≡ 0
full_octets octets b n e f =
    let l : n ≡ 8 * length octets = f ∙ ap length e ∙ length-unpack octets in omega arith

module _ (a : Codec) (strict : Bool) (schema : ℕ → Schema) (octets : List ℕ) where
  -- how the reading of all octets ended, as its calls say it
  pub record Ended (end : Bits → ℕ → Type 0) (t : State) (b : Bits) : Type 0 where
    pub left : Bits
    pub total : ℕ
    pub ends : end left total
    pub left_is : left ≡ t.bits
    pub total_is : total ≡ length b
    pub all : b ≡ unpack octets

  pub so : (end : Bits → ℕ → Type 0) (t : State) (b : Bits) → Ended end t b → end t.bits (length (unpack octets))
  so end t b h = subst (λ z. end t.bits z) (h.total_is ∙ ap length h.all) (subst (λ z. end z h.total) h.left_is h.ends)

  pub decoded : (v : Value) (s t : State) (b : Bits) → s ≡ fresh a strict octets → AreOctets octets → decoder_rules.spells (schema s.levels) s v t → Ended (Ends strict) t b → AreReadBy (reading strict (variant_of a)) schema v octets
  decoded v s t b e o h d = record { are_read = r; only = λ w x. one_value (reading strict (variant_of a)) (schema 128) w v octets x r }
    where
      r : fills (reading strict (variant_of a)) (schema 128) v octets
      r = fills_read (reading strict (variant_of a)) (schema 128) v octets t.bits o (subst (λ z. decoder_rules.spells (schema z.levels) z v t) e h).took (so (Ends strict) t b d)

  -- where the decoder reads nothing, the octets are read as nothing
  unread : ((v : Value) (t : State) → decoder_rules.spells (schema 128) (fresh a strict octets) v t → ⊥) → AreUnreadBy (reading strict (variant_of a)) schema octets
  unread none v x =
      let k = fills_back (reading strict (variant_of a)) (schema 128) v octets x in
      none v (with_bits (fresh a strict octets) k.0) (spelled refl k.1 refl)

  pub refused_so : {T : Type 0} (X : Type 0) → (((v : Value) (t : State) → decoder_rules.spells (schema 128) (fresh a strict octets) v t → ⊥) → X) → (result : Result T DecodeError) (f : DecodeError) (s : State)
      → s ≡ fresh a strict octets → result ≡ Err f
      → ((f ≡ refusal OutOfMemory s) ⊎ Refuses (decoder_rules.spells (schema s.levels)) (decoder_rules.fault (schema s.levels)) f s) → IfErr result (λ e. e.kind ≢ OutOfMemory → X)
  refused_so X so result f s e g h = rw g (λ n. go n h)
    where
      go : f.kind ≢ OutOfMemory → ((f ≡ refusal OutOfMemory s) ⊎ Refuses (decoder_rules.spells (schema s.levels)) (decoder_rules.fault (schema s.levels)) f s) → X
      go n (inl m) = absurd (n (ap (λ (z : DecodeError). z.kind) m))
      go n (inr r) = so (λ v t k. (subst (λ z. (v : Value) (t : State) → decoder_rules.spells (schema z.levels) z v t → ⊥) e r.nothing) v t k)

  pub refused : {T : Type 0} (result : Result T DecodeError) (f : DecodeError) (s : State) → s ≡ fresh a strict octets → result ≡ Err f
      → ((f ≡ refusal OutOfMemory s) ⊎ Refuses (decoder_rules.spells (schema s.levels)) (decoder_rules.fault (schema s.levels)) f s) → IfErr result (λ e. e.kind ≢ OutOfMemory → AreUnreadBy (reading strict (variant_of a)) schema octets)
  refused = refused_so (AreUnreadBy (reading strict (variant_of a)) schema octets) unread

  -- nor are they where what was read doesn't end so
  pub unended : (v : Value) (s t : State) (b : Bits) → s ≡ fresh a strict octets → decoder_rules.spells (schema s.levels) s v t → Ended (λ l n. Ends strict l n → ⊥) t b → AreUnreadBy (reading strict (variant_of a)) schema octets
  unended v s t b e h d w x =
      let k = fills_back (reading strict (variant_of a)) (schema 128) w octets x in
      let g = (subst (λ z. decoder_rules.spells (schema z.levels) z v t) e h).took in
      let m = took_agree (one_reading (reading strict (variant_of a)) (schema 128) v w) g k.1 in
      so (λ l n. Ends strict l n → ⊥) t b d (subst (λ z. Ends strict z (length (unpack octets))) (sym m.1) k.2)

module _ (a : Codec) (schema : ℕ → Schema) (octets : List ℕ) where
  -- where the decoder reads nothing, the octets begin with nothing
  none_begun : ((v : Value) (t : State) → decoder_rules.spells (schema 128) (fresh a false octets) v t → ⊥) → BeginWithNone (variant_of a) schema octets
  none_begun none v rest x =
      let k = front_back (variant_of a) (schema 128) v octets rest x in
      none v (with_bits (fresh a false octets) k.0) (spelled refl k.1 refl)

  pub refused_front : {T : Type 0} (result : Result T DecodeError) (f : DecodeError) (s : State) → s ≡ fresh a false octets → result ≡ Err f
      → ((f ≡ refusal OutOfMemory s) ⊎ Refuses (decoder_rules.spells (schema s.levels)) (decoder_rules.fault (schema s.levels)) f s) → IfErr result (λ e. e.kind ≢ OutOfMemory → BeginWithNone (variant_of a) schema octets)
  refused_front = refused_so a false schema octets (BeginWithNone (variant_of a) schema octets) none_begun

  -- what was read, and the octets after it
  pub decoded_front : (v : Value) (s t : State) (rest : List ℕ) → s ≡ fresh a false octets → decoder_rules.spells (schema s.levels) s v t → IsRemainder (length t.bits) octets rest → BeginWith (variant_of a) schema v octets rest
  decoded_front v s t rest e h d = record { are_read = r; only = λ w after x. one_front (basically (variant_of a)) (schema 128) w v octets after rest x r }
    where
      r : front (basically (variant_of a)) (schema 128) v octets rest
      r = front_read (variant_of a) (schema 128) v octets rest t.bits (subst (λ z. decoder_rules.spells (schema z.levels) z v t) e h).took d

  -- they begin with nothing where no octets are after what was read
  pub unended_front : (v : Value) (s t : State) → s ≡ fresh a false octets → decoder_rules.spells (schema s.levels) s v t → ((rest : List ℕ) → IsRemainder (length t.bits) octets rest → ⊥) → BeginWithNone (variant_of a) schema octets
  unended_front v s t e h none w rest x =
      let k = front_back (variant_of a) (schema 128) w octets rest x in
      let g = (subst (λ z. decoder_rules.spells (schema z.levels) z v t) e h).took in
      let m = took_agree (one_reading (basically (variant_of a)) (schema 128) v w) g k.1 in
      none rest (subst (λ z. IsRemainder (length z) octets rest) (sym m.1) k.2)

  -- as many bits are left as the octets have, at most
  pub left_within : (v : Value) (s t : State) → s ≡ fresh a false octets → decoder_rules.spells (schema s.levels) s v t → length t.bits ≤ 8 * length octets
  left_within v s t e h =
      let g = (subst (λ z. decoder_rules.spells (schema z.levels) z v t) e h).took in
      omega (arith, ap length g.joins, length-append g.front t.bits, length-unpack octets)
