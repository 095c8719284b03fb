-- Additions and the bitmap in front of them as they are read, those that the schema doesn't know, and what a refusal
-- says of these (ITU-T X.691, 19.7 to 19.9).
use Rattle.std.specs.Prelude.{◌≡◌, ◌⊎◌, ◌+◌, ℕ, true, false, List, Bool, [], ◌∷◌, Option, Some, None}
use Rattle.std.specs.Iterator.{YieldsFirst}
use Rattle.rasn_types.specs.Bits.{Bits}
use Rattle.rasn_types.specs.Values.{Value}
use Rattle.rasn_schema.specs.Schemas.{Presence, Schema}
use Rattle.per_core.specs.Basic.{Open, Unknown, Holds, IsLeftOut, OpenOf, Rule, basic, IsBitmap}
use Rattle.per_core.specs.Spellings.{Settings, Spelling, BitField, Took, When, exactly}
use Rattle.per_core.specs.BitFieldFaults.{Behind, IsOfBitField, IsOfMarked, IsOfUnconstrained, Says}
use Rattle.per_core.specs.Lengths.{LengthOf}
use Rattle.per_core.specs.declared.decode_error.DecodeErrorKind.TheVariants.{ParserFail}
use Rattle.per_core.specs.declared.decode_error.ParserFailCause.TheVariants.{EmptyBitmap}
use Rattle.per_core.specs.declared.lengths.Length.TheVariants.{Last}

-- X.691 11.2: an open type of any octets
abbrev pub skipped_open : Settings → Unit {0} → Spelling
skipped_open a u = Open a (λ octets. Unit {0})

-- of a bitmap after its length less one in six bits
abbrev pub IsOfSmallBitmap : Says
IsOfSmallBitmap s k = IsOfBitField 6 s k ⊎ ((more : ℕ) × Behind (BitField 6 more) (IsOfBitField (more + 1)) s k)

-- of a bitmap after an unconstrained length, or in that this counts no bits
abbrev pub IsOfLargeBitmap : Settings → Says
IsOfLargeBitmap a s k = IsOfUnconstrained a 1 s k
    ⊎ ((k ≡ ParserFail EmptyBitmap) × (t : Bits) × Took (LengthOf a (Last 0)) s t)

-- X.691 19.7, 19.8, 11.9.3.4: of a bitmap
abbrev pub IsOfBitmap : Settings → Says
IsOfBitmap a = IsOfMarked true IsOfSmallBitmap (IsOfLargeBitmap a)

-- X.691 19.9: of the additions after those of the schema, by their presence bits
abbrev pub IsOfUnknown : List Bool → Settings → Says
IsOfUnknown [] a s k = ⊥
IsOfUnknown (false ∷ flags) a s k = IsOfUnknown flags a s k
IsOfUnknown (true ∷ flags) a s k = IsOfUnconstrained a 8 s k ⊎ Behind (skipped_open a tt) (IsOfUnknown flags a) s k

-- X.691 19.9: the additions after those of the schema, by their presence bits
abbrev pub skipped_unknown : List Bool → Settings → Unit {0} → Spelling
skipped_unknown flags a u = Unknown a flags

-- X.691 19.7 to 19.9: one addition, as its bit in the bitmap says; one past the end of the bitmap is left out
abbrev pub Addition : Settings → Rule → Option Value → Option Bool → Spelling
Addition a r s (Some true) = Holds s (OpenOf a r.spells)
Addition a r s (Some false) = When (IsLeftOut r.presence s) (exactly [])
Addition a r s None = When (IsLeftOut r.presence s) (exactly [])

-- the next bit of a bitmap, and those after it; none past the end
abbrev pub NextFlag : List Bool → Option Bool → List Bool → Type 0
NextFlag = YieldsFirst (λ bits. bits)

-- how an addition of a schema is spelled
abbrev pub rule_of : Settings → Presence → Schema → Rule
rule_of a p c = record { presence = p; spells = basic a c }

-- What is still to be read of the bitmap of an open record's additions (X.691 19.7 to 19.9): all of it, which is
-- after the root components; or the presence bits that are left. There are none without an extension marker, nor
-- after an extension bit 0.
pub data Extension : Type 0 where
  ahead : Extension
  shown : List Bool → Extension

-- X.691 19.1: what an extension bit says of the bitmap
abbrev pub extension_of : Bool → Extension
extension_of true = ahead
extension_of false = shown []

-- X.691 19.7, 19.8: the presence bits that are still to be read, where the bitmap is still ahead after the bits of it
abbrev pub Shown : Settings → Extension → List Bool → Spelling
Shown a ahead flags = IsBitmap a flags
Shown a (shown old) flags = When (flags ≡ old) (exactly [])
