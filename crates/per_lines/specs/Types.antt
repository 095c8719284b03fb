-- Types that go by names.
use Rattle.std.specs.Prelude.{ℕ, List, [], codes, ◌∷◌}
use Rattle.rasn_below.specs.Types.{Schema, sequence_at}
use Rattle.per_lines.specs.Recoding.{schema_of as sample_schema}
use Rattle.per_lines.specs.Words.{type_word}
use Rattle.cam.specs.CamPduDescriptions.{cam_lists}
use Rattle.per_lines.specs.declared.arguments.TypeName.TheVariants.{Boolean, Null, Integer, UpTo65535, FromMinusOne}
use Rattle.per_lines.specs.declared.arguments.TypeName.TheVariants.{Natural, ZeroTo65536, OneToTenExtensible, Four}
use Rattle.per_lines.specs.declared.arguments.TypeName.TheVariants.{Seven, OneDefault, ShortVisible, LettersAToE}
use Rattle.per_lines.specs.declared.arguments.TypeName.TheVariants.{BitString, OctetString, OnlyX, Items, Byte}
use Rattle.per_lines.specs.declared.arguments.TypeName.TheVariants.{MaybeEmpty, Nested, Nest, Deep, Bytes, Nulls}
use Rattle.per_lines.specs.declared.arguments.TypeName.TheVariants.{NullList, Elements, Outer1, Outer2, Outer3}
use Rattle.per_lines.specs.declared.arguments.TypeName.TheVariants.{Grouped, NoneNeeded, OneNeeded, AddedDefault}
use Rattle.per_lines.specs.declared.arguments.TypeName.TheVariants.{Outers1, Outers3, BeforeNest, AddedNest, Grouped1}
use Rattle.per_lines.specs.declared.arguments.TypeName.TheVariants.{Grouped2, OneColor, TwoColors, DefaultOuter1}
use Rattle.per_lines.specs.declared.arguments.TypeName.TheVariants.{DefaultOuter3, OneAlternative, TwoAlternatives}
use Rattle.per_lines.specs.declared.arguments.TypeName.TheVariants.{Alternatives, Many, Bag, UtcTime, Connect, Set}
use Rattle.per_lines.specs.declared.arguments.TypeName.TheVariants.{SetOptional, SetChoice, Date, DatedNest, Spare}
use Rattle.per_lines.specs.declared.arguments.TypeName.TheVariants.{Pick, Picked, Signals}
use Rattle.per_lines.specs.declared.types.NamedType.{NamedType}
use Rattle.per_lines.specs.declared.types.NamedType.TheVariants.{Cam, Sample}

abbrev pub word_of : NamedType → List ℕ
word_of (Sample t) = type_word t
word_of Cam = codes "CAM"

-- each type at its place, from 0 on
abbrev pub types : List NamedType
types =
    Sample Boolean ∷ Sample Null ∷ Sample Integer ∷ Sample UpTo65535 ∷ Sample FromMinusOne ∷ Sample Natural ∷
    Sample ZeroTo65536 ∷ Sample OneToTenExtensible ∷ Sample Four ∷ Sample Seven ∷ Sample OneDefault ∷
    Sample ShortVisible ∷ Sample LettersAToE ∷ Sample BitString ∷ Sample OctetString ∷ Sample OnlyX ∷
    Sample Items ∷ Sample Byte ∷ Sample MaybeEmpty ∷ Sample Nested ∷ Sample Nest ∷ Sample Deep ∷ Sample Bytes ∷
    Sample Nulls ∷ Sample NullList ∷ Sample Elements ∷ Sample Outer1 ∷ Sample Outer2 ∷ Sample Outer3 ∷
    Sample Grouped ∷ Sample NoneNeeded ∷ Sample OneNeeded ∷ Sample AddedDefault ∷ Sample Outers1 ∷ Sample Outers3 ∷
    Sample BeforeNest ∷ Sample AddedNest ∷ Sample Grouped1 ∷ Sample Grouped2 ∷ Sample OneColor ∷ Sample TwoColors ∷
    Sample DefaultOuter1 ∷ Sample DefaultOuter3 ∷ Sample OneAlternative ∷ Sample TwoAlternatives ∷
    Sample Alternatives ∷ Sample Many ∷ Sample Bag ∷ Sample UtcTime ∷ Sample Connect ∷ Sample Set ∷
    Sample SetOptional ∷ Sample SetChoice ∷ Sample Date ∷ Sample DatedNest ∷ Sample Spare ∷ Sample Pick ∷
    Sample Picked ∷ Sample Signals ∷ Cam ∷ []

-- the schema of a type
abbrev pub schema_of : NamedType → ℕ → Schema
schema_of (Sample t) = sample_schema t
schema_of Cam = sequence_at cam_lists
