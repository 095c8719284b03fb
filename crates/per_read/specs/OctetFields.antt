-- Numbers in few octets, which are read as one field (X.691 11.3, 11.4).
use Rattle.std.specs.Prelude.{◌≡◌, ◌<◌, ◌≤◌, ℕ, List, length, Option, Some, None, Result, IfOk, IfErr}
use Rattle.rasn_types.specs.Bits.{Bits, unsigned}
use Rattle.per_core.specs.Basic.{Octets, OneByOne, octet}
use Rattle.per_core.specs.Spellings.{Settings, BitField, Then, Took, NoneIn}
use Rattle.per_core.specs.Writers.{pad}
use Rattle.per_core.specs.BitFieldFaults.{IsOfUnconstrained}
use Rattle.per_read.specs.ReaderState.{ReaderState, settings_of}
use Rattle.per_core.specs.declared.decode_error.DecodeErrorKind.{DecodeErrorKind}
use Rattle.per_read.specs.declared.octet_fields.OctetField.{OctetField}

-- the octets of a field, from 1 to 16
pub record AreOctetsOf (octets : List ℕ) (f : OctetField) : Type 0 where
  pub count : length octets ≡ f.count
  pub some : 0 < f.count
  pub few : f.count ≤ 16
  pub means : unsigned octets ≡ f.number

-- the octets that a field has were read
pub record TookOctetField (a : Settings) (f : OctetField) (s t : Bits) : Type 0 where
  pub octets : List ℕ
  pub are : AreOctetsOf octets f
  pub took : Took (Octets a octets) s t

-- where there is no field, nothing was read
abbrev pub OfOctetField : Settings → Bits → Bits → Option OctetField → Type 0
OfOctetField a s t None = t ≡ s
OfOctetField a s t (Some f) = TookOctetField a f s t

-- X.691 11.9.3.6: from 1 to 6 octets after their count in one octet, which no padding precedes
pub record AtOnce (a : Settings) (octets : List ℕ) (p : ℕ) (bits : Bits) : Type 0 where
  pub unpadded : pad a.variant p ≡ 0
  pub some : 0 < length octets
  pub few : length octets ≤ 6
  pub spelled : Then (BitField 8 (length octets)) (OneByOne octet octets) p bits

-- A call that takes few octets after an unconstrained length.
pub record TakesOctetField (x : ReaderState) (result : Result (Option OctetField) DecodeErrorKind)
    (y : ReaderState) : Type 0 where
  pub ok : IfOk result (OfOctetField (settings_of x) x.bits y.bits)
  pub err : IfErr result (λ k. IsOfUnconstrained (settings_of x) 8 x.bits k × NoneIn (Octets (settings_of x)) x.bits)
  pub kept : y.options ≡ x.options
