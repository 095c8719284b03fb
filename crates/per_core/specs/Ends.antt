-- Where a complete encoding ends, seen from the bits that are left, and why they end none (ITU-T X.691, 11.1 and 11.2).
-- `strict` says whether spare bits must be zero.
use Rattle.std.specs.Prelude.{◌≡◌, ◌/◌, ◌%◌, ◌<◌, ◌⊎◌, Bool, false, length, take, replicate, ℕ, suc, ◌≢◌, ◌+◌, ◌≤◌}
use Rattle.std.specs.Prelude.{true}
use Rattle.rasn_types.specs.Bits.{Bits, number_of}
use Rattle.rasn_constraints.specs.Bounds.{count_of}
use Rattle.per_core.specs.Spellings.{ZeroIf, Settings}
use Rattle.per_core.specs.declared.ends.Surplus.{Surplus}
use Rattle.per_core.specs.declared.ends.Surplus.TheVariants.{Missing, NonzeroOctet, NonzeroSpareBits, ExtraOctets}
use Rattle.per_core.specs.declared.decode_error.DecodeErrorKind.{DecodeErrorKind}
use Rattle.per_core.specs.declared.decode_error.DecodeErrorKind.TheVariants.{Incomplete, ParserFail}
use Rattle.per_core.specs.declared.decode_error.DecodeErrorKind.TheVariants.{UnexpectedExtraData}
use Rattle.per_core.specs.declared.decode_error.ParserFailCause.TheVariants.{NonzeroEmptyValue, NonzeroPadding}

-- X.691 11.1: of n bits fewer than eight are left after a value of some bits, or all, which are eight zero bits,
-- after one of none
abbrev pub Ends : Bool → Bits → ℕ → Type 0
Ends strict left n = ((length left < 8) × (length left < n) × ZeroIf strict left)
    ⊎ ((length left ≡ n) × (left ≡ replicate 8 false))

-- the spare bits, up to the next octet
abbrev pub spare : Bits → Bits
spare left = take (length left % 8) left

-- whole octets that are left over, after a value of some bits, or of none, which has taken one
abbrev pub AreOver : Bits → ℕ → ℕ → Type 0
AreOver left n octets = (0 < octets) × (((length left < n) × (octets ≡ length left / 8))
    ⊎ ((length left ≡ n) × (suc octets ≡ length left / 8)))

-- spare bits aren't zero, which they must be
abbrev pub IsOfSpare : Bool → Bits → Surplus → Type 0
IsOfSpare strict left NonzeroSpareBits = (strict ≡ true) × (number_of (spare left) ≢ 0)
IsOfSpare strict left why = ⊥

-- why they don't end so; octets are left over only behind spare bits that are as they have to be
abbrev pub IsWhy : Bool → Bits → ℕ → Surplus → Type 0
IsWhy strict left n (Missing bits) = (length left ≡ n) × (0 < bits) × (length left + bits ≡ 8)
IsWhy strict left n NonzeroOctet = (length left ≡ n) × (8 ≤ n) × (number_of (take 8 left) ≢ 0)
IsWhy strict left n NonzeroSpareBits = (strict ≡ true) × (length left < n) × (number_of (spare left) ≢ 0)
IsWhy strict left n (ExtraOctets octets) = AreOver left n octets × ZeroIf strict (spare left)

-- the kind of a refusal that says why
abbrev pub kind_of : Surplus → DecodeErrorKind
kind_of (Missing bits) = Incomplete (count_of bits)
kind_of NonzeroOctet = ParserFail NonzeroEmptyValue
kind_of NonzeroSpareBits = ParserFail NonzeroPadding
kind_of (ExtraOctets octets) = UnexpectedExtraData (count_of octets)

-- why bits don't end a complete encoding, as a kind says it
pub record IsOfEnd (a : Settings) (left : Bits) (n : ℕ) (k : DecodeErrorKind) : Type 0 where
  pub why : Surplus
  pub names : k ≡ kind_of why
  pub is_why : IsWhy a.strict left n why
