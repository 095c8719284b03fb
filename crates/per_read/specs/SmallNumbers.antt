-- Numbers without sign that are read octet by octet, and normally small numbers (X.691 11.6, 11.7).
use Rattle.std.specs.Prelude.{◌≡◌, ◌<◌, ◌≤◌, ◌*◌, ◌^◌, ℕ, true, List, Option, Some, None, length, Result, OnOk, IfErr}
use Rattle.rasn_types.specs.Bits.{Bits, unsigned}
use Rattle.per_core.specs.Basic.{OneByOne, octet}
use Rattle.per_core.specs.Spellings.{Settings, Took}
use Rattle.per_read.specs.Items.{TookItems}
use Rattle.per_core.specs.BitFieldFaults.{IsOfBitField, IsOfMarked, IsOfUnconstrained}
use Rattle.per_read.specs.ReaderState.{ReaderState}
use Rattle.per_core.specs.declared.decode_error.DecodeErrorKind.{DecodeErrorKind}
use Rattle.per_core.specs.declared.decode_error.DecodeErrorKind.TheVariants.{UnexpectedEmptyInput}
use Rattle.per_core.specs.NumberFaults.{empty_form}

-- X.691 11.3: a number is what octets mean without sign; none stands for one past 64 bits
abbrev pub Means : Option ℕ → List ℕ → Type 0
Means None octets = 2 ^ 64 ≤ unsigned octets
Means (Some n) octets = n ≡ unsigned octets

-- X.691 11.3: a number is what octets mean without sign, whatever number it began with
abbrev pub MeansSince : Option ℕ → Option ℕ → List ℕ → Type 0
MeansSince start number octets = Means number octets

-- A call that takes n octets with no length, and appends them to a number. It takes no memory.
pub record AppendsOctets (n : ℕ) (before : Option ℕ) (x : ReaderState) (result : Result (Unit {0}) DecodeErrorKind)
    (after : Option ℕ) (y : ReaderState) : Type 0 where
  pub ok : OnOk result (TookItems MeansSince (OneByOne octet) n before after x.bits y.bits)
  pub err : IfErr result (λ k. IsOfBitField (8 * n) x.bits k × (length x.bits < 8 * n))
  pub kept : y.options ≡ x.options

-- a fact about the number that was read; none stands for one past 64 bits
abbrev pub OfIndex : (ℕ → Type 0) → Option ℕ → Type 0
OfIndex P (Some n) = P n
OfIndex P None = (n : ℕ) × (2 ^ 64 ≤ n) × P n

-- what a kind says of a normally small number
abbrev pub IsOfSmall : Settings → Bits → DecodeErrorKind → Type 0
IsOfSmall a s UnexpectedEmptyInput = (t : Bits) × Took (empty_form a) s t
IsOfSmall a s k = IsOfMarked true (IsOfBitField 6) (IsOfUnconstrained a 8) s k
