-- What the calls of strings read, and why they refuse (X.691 16, 17, 30).
use Rattle.std.proofs.Common.{ℕ, Bool, List, refl}
use Rattle.rasn_types.specs.Bits.{Bits}
use Rattle.rasn_types.specs.Contents.{is_text, utf8, other}
use Rattle.rasn_types.specs.Values.{octets, bits, characters}
use Rattle.rasn_constraints.specs.Bounds.{Size}
use Rattle.rasn_schema.specs.Schemas
use Rattle.per_core.specs.Basic.{basic, basic_in, Octets, Counted, String, Proper, octet, bit}
use Rattle.per_core.specs.Counts.{octet_items, bit_items}
use Rattle.per_core.specs.Spellings.{Settings, Took, NoneIn}
use Rattle.per_core.proofs.TakenInTurn.{took_map}
use Rattle.per_core.specs.BitFieldFaults.{IsOfUnconstrained}
use Rattle.per_read.specs.Kinds.{Faulty}
use Rattle.per_core.specs.SizeFaults.{IsOfItems, IsOfString, IsOfText}
use Rattle.per_core.specs.declared.items.Item.TheVariants.{Octet, Bit}
use Rattle.per_core.specs.declared.decode_error.DecodeErrorKind.{DecodeErrorKind}
use Rattle.per_read.proofs.Refusals.{faulty_map}
use Rattle.per_read.proofs.Texts.{octets_text}
use Rattle.per_core.specs.ReadingFaults.{IsAt}

module _ (a : Settings) where
  -- octets of a type that isn't known
  pub reads_any : (os : List ℕ) {s t : Bits} → Took (Octets a os) s t → Took (basic a Schemas.any (octets os)) s t
  unfolding basic_in
  reads_any os b = took_map (λ p c i. record { of = os; is = refl; spelled = i }) b

  pub faulty_any : (s : Bits) (k : DecodeErrorKind) → Faulty (IsOfUnconstrained a 8 s) (NoneIn (Octets a) s) k → Faulty (IsAt a Schemas.any s) (NoneIn (basic a Schemas.any) s) k
  unfolding basic_in
  faulty_any s k = faulty_map k (λ h. h) (λ none v t b. none b.spelled.of t (record { front = b.front; joins = b.joins; spelled = b.spelled.spelled }))

  -- GeneralString, GraphicString, TeletexString
  pub reads_other : (os : List ℕ) {s t : Bits} → Took (Octets a os) s t → Took (basic a (Schemas.text other) (octets os)) s t
  unfolding basic_in is_text
  reads_other os b = took_map (λ p c i. record { of = os; is = refl; spelled = (refl, i) }) b

  pub faulty_other : (s : Bits) (k : DecodeErrorKind) → Faulty (IsOfUnconstrained a 8 s) (NoneIn (Octets a) s) k → Faulty (IsAt a (Schemas.text other) s) (NoneIn (basic a (Schemas.text other)) s) k
  unfolding basic_in
  faulty_other s k = faulty_map k (octets_text a other s k) (λ none v t b. none b.spelled.of t (record { front = b.front; joins = b.joins; spelled = b.spelled.spelled.1 }))

  -- UTF8String
  pub reads_utf8 : (os : List ℕ) {s t : Bits} → Took (Proper (is_text utf8) (Octets a) os) s t → Took (basic a (Schemas.text utf8) (octets os)) s t
  unfolding basic_in
  reads_utf8 os b = took_map (λ p c i. record { of = os; is = refl; spelled = i }) b

  pub faulty_utf8 : (s : Bits) (k : DecodeErrorKind) → Faulty (IsOfText a utf8 s) (NoneIn (Proper (is_text utf8) (Octets a)) s) k → Faulty (IsAt a (Schemas.text utf8) s) (NoneIn (basic a (Schemas.text utf8)) s) k
  unfolding basic_in
  faulty_utf8 s k = faulty_map k (λ h. h) (λ none v t b. none b.spelled.of t (record { front = b.front; joins = b.joins; spelled = b.spelled.spelled }))

  module _ (size : Size) (mark : Bool) where
    -- OCTET STRING
    pub reads_octets : (os : List ℕ) {s t : Bits} → Took (Counted a size mark octet_items octet os) s t → Took (basic a (Schemas.octet_string size mark) (octets os)) s t
    unfolding basic_in
    reads_octets os b = took_map (λ p c i. record { of = os; is = refl; spelled = i }) b

    pub faulty_octets : (s : Bits) (k : DecodeErrorKind) → Faulty (IsOfItems a size mark Octet s) (NoneIn (Counted a size mark octet_items octet) s) k
        → Faulty (IsAt a (Schemas.octet_string size mark) s) (NoneIn (basic a (Schemas.octet_string size mark)) s) k
    unfolding basic_in
    faulty_octets s k = faulty_map k (λ h. h) (λ none v t b. none b.spelled.of t (record { front = b.front; joins = b.joins; spelled = b.spelled.spelled }))

    -- BIT STRING
    pub reads_bits : (named : Bool) (bs : Bits) {s t : Bits} → Took (Counted a size mark bit_items bit bs) s t → Took (basic a (Schemas.bit_string size mark named) (bits bs)) s t
    unfolding basic_in
    reads_bits named bs b = took_map (λ p c i. record { of = bs; is = refl; spelled = i }) b

    pub faulty_bits : (named : Bool) (s : Bits) (k : DecodeErrorKind) → Faulty (IsOfItems a size mark Bit s) (NoneIn (Counted a size mark bit_items bit) s) k
        → Faulty (IsAt a (Schemas.bit_string size mark named) s) (NoneIn (basic a (Schemas.bit_string size mark named)) s) k
    unfolding basic_in
    faulty_bits named s k = faulty_map k (λ h. h) (λ none v t b. none b.spelled.of t (record { front = b.front; joins = b.joins; spelled = b.spelled.spelled }))

    -- the strings of known multiplier
    module _ (alphabet : List ℕ) where
      pub reads_characters : (cs : List ℕ) {s t : Bits} → Took (String a alphabet size mark cs) s t → Took (basic a (Schemas.char_string alphabet size mark) (characters cs)) s t
      unfolding basic_in
      reads_characters cs b = took_map (λ p c i. record { of = cs; is = refl; spelled = i }) b

      pub faulty_characters : (s : Bits) (k : DecodeErrorKind) → Faulty (IsOfString a alphabet size mark s) (NoneIn (String a alphabet size mark) s) k
          → Faulty (IsAt a (Schemas.char_string alphabet size mark) s) (NoneIn (basic a (Schemas.char_string alphabet size mark)) s) k
      unfolding basic_in
      faulty_characters s k = faulty_map k (λ h. h) (λ none v t b. none b.spelled.of t (record { front = b.front; joins = b.joins; spelled = b.spelled.spelled }))
