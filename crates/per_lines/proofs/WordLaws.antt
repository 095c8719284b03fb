-- The words after the program's name ask for one thing.
use Rattle.std.proofs.Common.{◌≡◌, refl, sym, ap, ◌∙◌, ℕ, if◌then◌else◌, List, [], ◌∷◌, Option, Some, None}
use Rattle.std.proofs.lemmas.Option.{same_Some}
use Rattle.std.specs.Prelude.{option_map, codes}
use Rattle.std.specs.Str.{bytes_eq}
use Rattle.per_core.specs.Rows.{Codec, Aper, Uper}
use Rattle.per_lines.specs.declared.arguments.TypeName.{TypeName}
use Rattle.per_lines.specs.declared.arguments.TypeName.TheVariants.{Boolean, Null, Integer, UpTo65535, FromMinusOne, Natural, ZeroTo65536, OneToTenExtensible, Four, Seven, OneDefault, ShortVisible, LettersAToE, BitString, OctetString, OnlyX, Items, Byte, MaybeEmpty, Nested, Nest, Deep, Bytes, Nulls, NullList, Elements, Outer1, Outer2, Outer3, Grouped, NoneNeeded, OneNeeded, AddedDefault, Outers1, Outers3, BeforeNest, AddedNest, Grouped1, Grouped2, OneColor, TwoColors, DefaultOuter1, DefaultOuter3, OneAlternative, TwoAlternatives, Alternatives, Many, Bag, UtcTime, Connect, Set, SetOptional, SetChoice, Date, DatedNest, Spare, Pick, Picked, Signals}
use Rattle.per_lines.specs.declared.arguments.Form.{Form}
use Rattle.per_lines.specs.declared.arguments.Form.TheVariants.{OneLine, Lines, Zero, As}
use Rattle.per_lines.specs.declared.arguments.Arguments.{Arguments}
use Rattle.line_replies.specs.Codecs.{codec_word}
use Rattle.per_lines.specs.Words.{type_word, form_words, words_of}
use Rattle.per_lines.specs.Answers.{AskFor}

-- the types that the program knows
abbrev all_types : List TypeName
all_types = Boolean ∷ Null ∷ Integer ∷ UpTo65535 ∷ FromMinusOne ∷ Natural ∷ ZeroTo65536 ∷ OneToTenExtensible ∷ Four ∷ Seven ∷ OneDefault
    ∷ ShortVisible ∷ LettersAToE ∷ BitString ∷ OctetString ∷ OnlyX ∷ Items
    ∷ Byte ∷ MaybeEmpty ∷ Nested ∷ Nest ∷ Deep ∷ Bytes ∷ Nulls ∷ NullList ∷ Elements
    ∷ Outer1 ∷ Outer2 ∷ Outer3 ∷ Grouped ∷ NoneNeeded ∷ OneNeeded ∷ AddedDefault ∷ Outers1 ∷ Outers3 ∷ BeforeNest ∷ AddedNest
    ∷ Grouped1 ∷ Grouped2 ∷ OneColor ∷ TwoColors ∷ DefaultOuter1 ∷ DefaultOuter3 ∷ OneAlternative ∷ TwoAlternatives ∷ Alternatives ∷ Many
    ∷ Bag ∷ UtcTime ∷ Connect ∷ Set ∷ SetOptional ∷ SetChoice ∷ Date ∷ DatedNest ∷ Spare ∷ Pick ∷ Picked ∷ Signals ∷ []

-- the first of some things that a word names
abbrev named : {X : Type 0} → (X → List ℕ) → List ℕ → List X → Option X
named word w [] = None
named word w (x ∷ xs) = if bytes_eq w (word x) then Some x else named word w xs

abbrev codec_of : List (List ℕ) → Option Codec
codec_of (v ∷ ws) = named codec_word v (Aper ∷ Uper ∷ [])
codec_of _ = None

codec_of-words : (c : Codec) (ws : List (List ℕ)) → codec_of (codec_word c ∷ ws) ≡ Some c
codec_of-words Aper ws = refl
codec_of-words Uper ws = refl

type_of-word : (t : TypeName) → named type_word (type_word t) all_types ≡ Some t
type_of-word Boolean = refl
type_of-word Null = refl
type_of-word Integer = refl
type_of-word UpTo65535 = refl
type_of-word FromMinusOne = refl
type_of-word Natural = refl
type_of-word ZeroTo65536 = refl
type_of-word OneToTenExtensible = refl
type_of-word Four = refl
type_of-word Seven = refl
type_of-word OneDefault = refl
type_of-word ShortVisible = refl
type_of-word LettersAToE = refl
type_of-word BitString = refl
type_of-word OctetString = refl
type_of-word OnlyX = refl
type_of-word Items = refl
type_of-word Byte = refl
type_of-word MaybeEmpty = refl
type_of-word Nested = refl
type_of-word Nest = refl
type_of-word Deep = refl
type_of-word Bytes = refl
type_of-word Nulls = refl
type_of-word NullList = refl
type_of-word Elements = refl
type_of-word Outer1 = refl
type_of-word Outer2 = refl
type_of-word Outer3 = refl
type_of-word Grouped = refl
type_of-word NoneNeeded = refl
type_of-word OneNeeded = refl
type_of-word AddedDefault = refl
type_of-word Outers1 = refl
type_of-word Outers3 = refl
type_of-word BeforeNest = refl
type_of-word AddedNest = refl
type_of-word Grouped1 = refl
type_of-word Grouped2 = refl
type_of-word OneColor = refl
type_of-word TwoColors = refl
type_of-word DefaultOuter1 = refl
type_of-word DefaultOuter3 = refl
type_of-word OneAlternative = refl
type_of-word TwoAlternatives = refl
type_of-word Alternatives = refl
type_of-word Many = refl
type_of-word Bag = refl
type_of-word UtcTime = refl
type_of-word Connect = refl
type_of-word Set = refl
type_of-word SetOptional = refl
type_of-word SetChoice = refl
type_of-word Date = refl
type_of-word DatedNest = refl
type_of-word Spare = refl
type_of-word Pick = refl
type_of-word Picked = refl
type_of-word Signals = refl

abbrev type_of : List (List ℕ) → Option TypeName
type_of (v ∷ w ∷ ws) = named type_word w all_types
type_of _ = None

-- the word of a form of one word
abbrev form_word : Form → List ℕ
form_word Zero = codes "zero"
form_word _ = codes "lines"

abbrev form_of : List (List ℕ) → Option Form
form_of (v ∷ w ∷ []) = Some OneLine
form_of (v ∷ w ∷ x ∷ []) = named form_word x (Lines ∷ Zero ∷ [])
form_of (v ∷ w ∷ x ∷ y ∷ ws) = option_map As (named type_word y all_types)
form_of _ = None

form_of-words : (v w : List ℕ) (f : Form) → form_of (v ∷ w ∷ form_words f) ≡ Some f
form_of-words v w OneLine = refl
form_of-words v w Lines = refl
form_of-words v w Zero = refl
form_of-words v w (As t) = ap (option_map As) (type_of-word t)

same_codec : (a b : Arguments) → words_of a ≡ words_of b → a.codec ≡ b.codec
same_codec a b e = same_Some a.codec b.codec
    (sym (codec_of-words a.codec (type_word a.type_name ∷ form_words a.form)) ∙ ap codec_of e
    ∙ codec_of-words b.codec (type_word b.type_name ∷ form_words b.form))

same_type : (a b : Arguments) → words_of a ≡ words_of b → a.type_name ≡ b.type_name
same_type a b e = same_Some a.type_name b.type_name (sym (type_of-word a.type_name) ∙ ap type_of e ∙ type_of-word b.type_name)

same_form : (a b : Arguments) → words_of a ≡ words_of b → a.form ≡ b.form
same_form a b e = same_Some a.form b.form
    (sym (form_of-words (codec_word a.codec) (type_word a.type_name) a.form) ∙ ap form_of e
    ∙ form_of-words (codec_word b.codec) (type_word b.type_name) b.form)

same_parts : (a b : Arguments) → a.codec ≡ b.codec → a.type_name ≡ b.type_name → a.form ≡ b.form → a ≡ b
same_parts a b c t f =
    let make : Codec → TypeName → Form → Arguments = λ x y z. record { codec = x; type_name = y; form = z } in
    ap (λ (x : Codec). make x a.type_name a.form) c ∙ ap (λ (y : TypeName). make b.codec y a.form) t
    ∙ ap (λ (z : Form). make b.codec b.type_name z) f

pub asks : (words : List (List ℕ)) (a : Arguments) → words ≡ words_of a → AskFor words a
asks words a e = record {
  asked = e;
  only = λ b e2. let same = sym e2 ∙ e in same_parts b a (same_codec b a same) (same_type b a same) (same_form b a same);
}
