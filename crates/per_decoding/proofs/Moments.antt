-- Identifiers and times (X.691 24 and 30).
use Rattle.std.proofs.Common.{◌≡◌, ◌∙◌, ℕ, Bool, List, true, false, sym, ap, refl}
use Rattle.rasn_types.specs.Alphabets.{char_width, visible}
use Rattle.rasn_types.specs.Bits.{Bits}
use Rattle.rasn_types.specs.Contents.{TimeKind, is_identifier, is_time}
use Rattle.rasn_types.specs.Values.{characters}
use Rattle.rasn_constraints.specs.Bounds.{any_size}
use Rattle.rasn_schema.specs.Schemas.{Schema}
use Rattle.per_core.specs.Basic.{Octets, String, basic, basic_in}
use Rattle.per_core.specs.Spellings.{Settings, Took, NoneIn}
use Rattle.per_core.proofs.LengthForms.{same_octets}
use Rattle.per_core.proofs.Readings.{one_reading}
use Rattle.per_core.proofs.TakenInTurn.{took_map, took_agree}
use Rattle.per_core.specs.BitFieldFaults.{IsOfUnconstrained}
use Rattle.per_core.specs.TimeFaults.{IsNoObject, IsNoTime, IsOfIdentifier, IsOfTime}
use Rattle.per_decoding.specs.Times.{identifier_form, time_form}
use Rattle.per_core.specs.SizeFaults.{IsOfString}
use Rattle.per_core.specs.declared.decode_error.DecodeErrorKind.{DecodeErrorKind}
use Rattle.per_core.specs.declared.decode_error.DecodeErrorKind.TheVariants.{Below}
use Rattle.per_read.proofs.Fields.{when_took}
use Rattle.per_read.proofs.OfFields.{counted_items_tested, unconstrained_tested}
use Rattle.per_core.specs.declared.items.Item.TheVariants.{Character}

-- a test fails where what it asks for isn't answered
pub fails_unless : (b : Bool) → (b ≡ true → false ≡ true) → b ≡ false
fails_unless true h = sym (h refl)
fails_unless false h = refl

module _ (a : Settings) where
  -- what a kind says of the octets of an identifier
  pub octets_identifier : (s : Bits) (k : DecodeErrorKind) → IsOfUnconstrained a 8 s k → IsOfIdentifier a s k
  octets_identifier s Below h = absurd (unconstrained_tested Below h)
  octets_identifier s _ h = h

  pub none_of_identifier : {s : Bits} → NoneIn (Octets a) s → NoneIn (identifier_form a) s
  none_of_identifier none os t b = none os t (when_took b).1

  pub identifier_took : {os : List ℕ} {s t : Bits} → is_identifier os ≡ true → Took (Octets a os) s t → Took (identifier_form a os) s t
  identifier_took e b = took_map (λ p c h. (e, h)) b

  pub no_object : (os : List ℕ) {s t : Bits} → Took (Octets a os) s t → is_identifier os ≡ false → IsNoObject a s × NoneIn (identifier_form a) s
  no_object os {s} {t} b e = (
    record { octets = os; rest = t; took = b; no_object = e },
    λ xs u c.
        let q = when_took c in
        let i : xs ≡ os = (took_agree (same_octets a xs os) q.1 b).0 in
        let j : true ≡ false = sym q.0 ∙ ap is_identifier i ∙ e in cc,
  )

  visible_string : (cs : List ℕ) {s t : Bits} → Took (String a visible any_size false cs) s t → Took (basic a (Schema.char_string visible any_size false) (characters cs)) s t
  unfolding basic_in
  visible_string cs b = took_map (λ p c i. record { of = cs; is = refl; spelled = i }) b

  one_text : (xs cs : List ℕ) {s t u : Bits} → Took (String a visible any_size false xs) s u → Took (String a visible any_size false cs) s t → xs ≡ cs
  one_text xs cs b c =
      let e : characters xs ≡ characters cs = (took_agree (one_reading a (Schema.char_string visible any_size false) (characters xs) (characters cs)) (visible_string xs b) (visible_string cs c)).0 in cc

  module _ (kind : TimeKind) where
    pub time_kind : (s : Bits) (k : DecodeErrorKind) → IsOfString a visible any_size false s k → IsOfTime a kind s k
    time_kind s Below h = absurd (counted_items_tested a any_size false (Character (char_width a.variant visible)) s Below h)
    time_kind s _ h = h

    pub none_of_time : {s : Bits} → NoneIn (String a visible any_size false) s → NoneIn (time_form a kind) s
    none_of_time none cs t b = none cs t (when_took b).1

    pub time_took : {cs : List ℕ} {s t : Bits} → is_time kind cs ≡ true → Took (String a visible any_size false cs) s t → Took (time_form a kind cs) s t
    time_took e b = took_map (λ p c h. (e, h)) b

    pub no_time : (cs : List ℕ) {s t : Bits} → Took (String a visible any_size false cs) s t → is_time kind cs ≡ false → IsNoTime a kind s × NoneIn (time_form a kind) s
    no_time cs {s} {t} b e = (
      record { text = cs; rest = t; took = b; no_time = e },
      λ xs u c.
          let q = when_took c in
          let i : xs ≡ cs = one_text xs cs q.1 b in
          let j : true ≡ false = sym q.0 ∙ ap (is_time kind) i ∙ e in cc,
    )
