-- The words after the program's name.
use Rattle.std.specs.Prelude.{ℕ, List, [], ◌∷◌, String, codes, map, string_bytes}
use Rattle.line_replies.specs.Codecs.{codec_word}
use Rattle.per_lines.specs.declared.arguments.TypeName.{TypeName}
use Rattle.per_lines.specs.declared.arguments.TypeName.TheVariants.{Boolean, Null, Integer, UpTo65535, FromMinusOne}
use Rattle.per_lines.specs.declared.arguments.TypeName.TheVariants.{Natural, ZeroTo65536, OneToTenExtensible, Four}
use Rattle.per_lines.specs.declared.arguments.TypeName.TheVariants.{Seven, OneDefault, ShortVisible, LettersAToE}
use Rattle.per_lines.specs.declared.arguments.TypeName.TheVariants.{BitString, OctetString, OnlyX, Items, Byte}
use Rattle.per_lines.specs.declared.arguments.TypeName.TheVariants.{MaybeEmpty, Nested, Nest, Deep, Bytes, Nulls}
use Rattle.per_lines.specs.declared.arguments.TypeName.TheVariants.{NullList, Elements, Outer1, Outer2, Outer3, Grouped}
use Rattle.per_lines.specs.declared.arguments.TypeName.TheVariants.{NoneNeeded, OneNeeded, AddedDefault, Outers1}
use Rattle.per_lines.specs.declared.arguments.TypeName.TheVariants.{Outers3, BeforeNest, AddedNest, Grouped1, Grouped2}
use Rattle.per_lines.specs.declared.arguments.TypeName.TheVariants.{OneColor, TwoColors, DefaultOuter1, DefaultOuter3}
use Rattle.per_lines.specs.declared.arguments.TypeName.TheVariants.{OneAlternative, TwoAlternatives, Alternatives, Many}
use Rattle.per_lines.specs.declared.arguments.TypeName.TheVariants.{Bag, UtcTime, Connect, Set, SetOptional, SetChoice}
use Rattle.per_lines.specs.declared.arguments.TypeName.TheVariants.{Date, DatedNest, Spare, Pick, Picked, Signals}
use Rattle.per_lines.specs.declared.arguments.Form.{Form}
use Rattle.per_lines.specs.declared.arguments.Form.TheVariants.{OneLine, Lines, Zero, As}
use Rattle.per_lines.specs.declared.arguments.Arguments.{Arguments}

-- words by their octets
abbrev pub words : {Z : Type 0} → List (String Z) → List (List ℕ)
words arguments = map string_bytes arguments

abbrev pub type_word : TypeName → List ℕ
type_word Boolean = codes "boolean"
type_word Null = codes "null"
type_word Integer = codes "integer"
type_word UpTo65535 = codes "upto"
type_word FromMinusOne = codes "from"
type_word Natural = codes "natural"
type_word ZeroTo65536 = codes "i65536"
type_word OneToTenExtensible = codes "iext"
type_word Four = codes "four"
type_word Seven = codes "seven"
type_word OneDefault = codes "default"
type_word ShortVisible = codes "vis"
type_word LettersAToE = codes "five"
type_word BitString = codes "bits"
type_word OctetString = codes "octets"
type_word OnlyX = codes "onlyx"
type_word Items = codes "items"
type_word Byte = codes "byte"
type_word MaybeEmpty = codes "empty"
type_word Nested = codes "nested"
type_word Nest = codes "nest"
type_word Deep = codes "deep"
type_word Bytes = codes "bytes"
type_word Nulls = codes "nulls"
type_word NullList = codes "nulllist"
type_word Elements = codes "elements"
type_word Outer1 = codes "outer1"
type_word Outer2 = codes "outer2"
type_word Outer3 = codes "outer3"
type_word Grouped = codes "group"
type_word NoneNeeded = codes "need0"
type_word OneNeeded = codes "need"
type_word AddedDefault = codes "addd"
type_word Outers1 = codes "rel1"
type_word Outers3 = codes "rel3"
type_word BeforeNest = codes "dv1"
type_word AddedNest = codes "dv2"
type_word Grouped1 = codes "grp1"
type_word Grouped2 = codes "grp2"
type_word OneColor = codes "col1"
type_word TwoColors = codes "col2"
type_word DefaultOuter1 = codes "def1"
type_word DefaultOuter3 = codes "def3"
type_word OneAlternative = codes "alt1"
type_word TwoAlternatives = codes "alt2"
type_word Alternatives = codes "alternatives"
type_word Many = codes "many"
type_word Bag = codes "bag"
type_word UtcTime = codes "utc"
type_word Connect = codes "connect"
type_word Set = codes "set"
type_word SetOptional = codes "setopt"
type_word SetChoice = codes "setchoice"
type_word Date = codes "date"
type_word DatedNest = codes "dnest"
type_word Spare = codes "spare"
type_word Pick = codes "pick"
type_word Picked = codes "picked"
type_word Signals = codes "signals"

-- nothing, `lines`, `zero`, or `as` and another type
abbrev pub form_words : Form → List (List ℕ)
form_words OneLine = []
form_words Lines = codes "lines" ∷ []
form_words Zero = codes "zero" ∷ []
form_words (As other) = codes "as" ∷ type_word other ∷ []

-- a codec, a type and a form
abbrev pub words_of : Arguments → List (List ℕ)
words_of a = codec_word a.codec ∷ type_word a.type_name ∷ form_words a.form
