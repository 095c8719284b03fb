-- The fault that a refused reading names, where it is in the octets.
use Rattle.std.specs.Prelude.{◌≡◌, ◌-◌, ◌*◌, ◌/◌, ◌<◌, ◌⊎◌, ◌∷◌, ℕ, List, [], length, drop}
use Rattle.rasn_types.specs.Bits.{unpack, Bits}
use Rattle.rasn_types.specs.Values.{Value}
use Rattle.rasn_constraints.specs.Bounds.{number_of}
use Rattle.rasn_schema.specs.Schemas.{Schema}
use Rattle.per_core.specs.Basic.{basic}
use Rattle.per_core.specs.Ends.{AreOver, spare, IsWhy, kind_of}
use Rattle.per_core.specs.Spellings.{Settings, ZeroIf, Took}
use Rattle.per_core.specs.ReadingFaults.{IsInBits}
use Rattle.per_core.specs.declared.ends.Surplus.{Surplus}
use Rattle.per_core.specs.declared.ends.Surplus.TheVariants.{Missing, NonzeroOctet}
use Rattle.per_core.specs.declared.decode_error.DecodeErrorKind.{DecodeErrorKind}
use Rattle.per_core.specs.declared.decode_error.DecodeErrorKind.TheVariants.{Incomplete, ParserFail}
use Rattle.per_core.specs.declared.decode_error.DecodeErrorKind.TheVariants.{UnexpectedExtraData, OutOfMemory}

-- X.691 11.1: they are the whole octets of the bits that are left; after a value of no bits all but one octet, which
-- is zero
abbrev pub IsRemainder : ℕ → List ℕ → List ℕ → Type 0
IsRemainder left octets rest =
    ((left < 8 * length octets) × (rest ≡ drop (length octets - left / 8) octets))
    ⊎ ((left ≡ 8 * length octets) × (octets ≡ 0 ∷ rest))

-- why there are none: the octet of a value of no bits is missing, or isn't zero
abbrev pub IsWhyNone : ℕ → List ℕ → Surplus → Type 0
IsWhyNone left octets (Missing bits) = (octets ≡ []) × (bits ≡ 8)
IsWhyNone left octets NonzeroOctet = (left ≡ 8 * length octets) × (0 < length octets)
IsWhyNone left octets _ = ⊥

-- X.691 11.1: after what spells a value, and spare bits as they have to be, whole octets are left over
pub record LeaveOver (a : Settings) (schema : ℕ → Schema) (octets : List ℕ) (over : ℕ) : Type 0 where
  pub value : Value
  pub left : Bits
  pub read : Took (basic a (schema 128) value) (unpack octets) left
  pub are_over : AreOver left (length (unpack octets)) over
  pub zeros : ZeroIf a.strict (spare left)

-- X.691 11.1: after what spells a value bits are left that don't end a complete encoding, for this reason
pub record IsUnended (a : Settings) (schema : ℕ → Schema) (octets : List ℕ) (why : Surplus) : Type 0 where
  pub value : Value
  pub left : Bits
  pub read : Took (basic a (schema 128) value) (unpack octets) left
  pub is_why : IsWhy a.strict left (length (unpack octets)) why

-- X.691 11.1: after what spells a value no octets may follow, for this reason
pub record IsWithoutRemainder (a : Settings) (schema : ℕ → Schema) (octets : List ℕ) (why : Surplus) : Type 0 where
  pub value : Value
  pub left : Bits
  pub read : Took (basic a (schema 128) value) (unpack octets) left
  pub is_why : IsWhyNone (length left) octets why
  pub none : (rest : List ℕ) → IsRemainder (length left) octets rest → ⊥

-- a kind names a reason of which this holds
abbrev pub Names : (Surplus → Type 0) → DecodeErrorKind → Type 0
Names holds k = (why : Surplus) × (k ≡ kind_of why) × holds why

-- What a kind says of the octets, or of their front, as a type's schema reads them within 128 levels. That octets end
-- early, or aren't as they have to be, is said of the end of an encoding, and else of the field in them that ends
-- early, of which so many bits are missing, or that isn't as it has to be.
abbrev pub IsInFront : Settings → (ℕ → Schema) → List ℕ → DecodeErrorKind → Type 0
IsInFront a schema octets (Incomplete missing) = Names (IsWithoutRemainder a schema octets) (Incomplete missing)
    ⊎ IsInBits a (Incomplete missing) (schema 128) (unpack octets)
IsInFront a schema octets (ParserFail cause) = Names (IsWithoutRemainder a schema octets) (ParserFail cause)
    ⊎ IsInBits a (ParserFail cause) (schema 128) (unpack octets)
IsInFront a schema octets OutOfMemory = Unit {0}
IsInFront a schema octets k = IsInBits a k (schema 128) (unpack octets)

-- What a kind says of the octets, as a type's schema reads them within 128 levels, where all of them have to be read:
-- octets are left over after the value, or after one whose octets an open type or an OCTET STRING contains; the
-- bits after the value don't end an encoding; or a fault is in the value.
abbrev pub IsInOctetsBy : Settings → (ℕ → Schema) → List ℕ → DecodeErrorKind → Type 0
IsInOctetsBy a schema octets (UnexpectedExtraData over) = LeaveOver a schema octets (number_of over)
    ⊎ IsInBits a (UnexpectedExtraData over) (schema 128) (unpack octets)
IsInOctetsBy a schema octets (Incomplete missing) = Names (IsUnended a schema octets) (Incomplete missing)
    ⊎ IsInBits a (Incomplete missing) (schema 128) (unpack octets)
IsInOctetsBy a schema octets (ParserFail cause) = Names (IsUnended a schema octets) (ParserFail cause)
    ⊎ IsInBits a (ParserFail cause) (schema 128) (unpack octets)
IsInOctetsBy a schema octets k = IsInFront a schema octets k
