-- What the calls answer.
use Rattle.std.specs.Prelude.{ℕ, ◌≡◌, ◌≢◌, ◌<◌, ◌≤◌, take, drop, List, length, slice_get, Some, None, Result, Ok, Err}
use Rattle.per_core.specs.Rows.{Codec}
use Rattle.per_lines.specs.declared.types.NamedType.{NamedType}
use Rattle.per_lines.specs.declared.arguments.Padding.{Padding}
use Rattle.line_replies.specs.declared.fault.Fault.{Fault}
use Rattle.line_replies.specs.declared.fault.Fault.TheVariants as Faults
use Rattle.per_lines.specs.Types.{schema_of, types}
use Rattle.per_lines.specs.Showing.{AreShown, HasNoText}
use Rattle.per_lines.specs.Recoding.{Recodes, IsRefusal, reader_of}
use Rattle.per_c.specs.declared.refusal.Refusal.{Refusal}
use Rattle.per_c.specs.declared.refusal.Refusal.TheVariants.{OutOfMemory, UnknownOptions, UnknownType, NoRoom}
use Rattle.per_c.specs.declared.refusal.Refusal.TheVariants.{Decode, Encode, Json}
use Rattle.rasn_jer.specs.declared.error.EncodeError.{EncodeError}
use Rattle.per_c.specs.Numbers.{options_number, code_of}

-- the numbers ask for this
pub record AskFor (options number : ℕ) (codec : Codec) (padding : Padding) (t : NamedType) : Type 0 where
  pub options_are : options ≡ options_number codec padding
  pub is_type : slice_get types number ≡ Some t

-- octets are read as one value of the type that is asked for, whose canonical octets these are
pub record AreRecoded (options number : ℕ) (octets canonical : List ℕ) : Type 0 where
  pub codec : Codec
  pub padding : Padding
  pub type_name : NamedType
  pub asked : AskFor options number codec padding type_name
  pub recodes : Recodes (reader_of codec padding) (schema_of type_name) octets canonical

-- the octets, or the value that they spell, are refused by the type that is asked for
pub record AreFaulty (options number : ℕ) (octets : List ℕ) (fault : Fault) : Type 0 where
  pub codec : Codec
  pub padding : Padding
  pub type_name : NamedType
  pub asked : AskFor options number codec padding type_name
  pub refused : IsRefusal (reader_of codec padding) (schema_of type_name) octets fault

-- why octets are not recoded
abbrev pub IsRefused : ℕ → ℕ → List ℕ → Refusal → Type 0
IsRefused options number octets OutOfMemory = Unit {0}
IsRefused options number octets UnknownOptions = (codec : Codec) (padding : Padding)
    → options ≢ options_number codec padding
IsRefused options number octets UnknownType = slice_get types number ≡ None
IsRefused options number octets NoRoom = ⊥
IsRefused options number octets (Decode kind) = AreFaulty options number octets (Faults.Decode kind)
IsRefused options number octets (Encode kind) = AreFaulty options number octets (Faults.Encode kind)
IsRefused options number octets _ = ⊥

-- the code is that of a refusal that stands
abbrev pub IsRefusedBy : ℕ → ℕ → List ℕ → ℕ → Type 0
IsRefusedBy options number octets code =
    (refusal : Refusal) × IsRefused options number octets refusal × (code ≡ code_of refusal)

-- a text is the JSON of the one value of the type that is asked for, as which octets are read
pub record IsJson (options number : ℕ) (octets text : List ℕ) : Type 0 where
  pub codec : Codec
  pub padding : Padding
  pub type_name : NamedType
  pub asked : AskFor options number codec padding type_name
  pub shown : AreShown (reader_of codec padding) (schema_of type_name) octets text

-- the value of the type that is asked for, as which octets are read, has no JSON
pub record IsTextless (options number : ℕ) (octets : List ℕ) (e : EncodeError) : Type 0 where
  pub codec : Codec
  pub padding : Padding
  pub type_name : NamedType
  pub asked : AskFor options number codec padding type_name
  pub unshown : HasNoText (reader_of codec padding) (schema_of type_name) octets e

-- why octets have no JSON
abbrev pub HasNoJson : ℕ → ℕ → List ℕ → Refusal → Type 0
HasNoJson options number octets (Encode kind) = ⊥
HasNoJson options number octets (Json e) = IsTextless options number octets e
HasNoJson options number octets refusal = IsRefused options number octets refusal

-- octets are put in the front of a room, which stays as it was after them, and how many they are is written
pub record ArePut (octets before after : List ℕ) (written : ℕ) : Type 0 where
  pub count : written ≡ length octets
  pub fits : written ≤ length before
  pub front : take written after ≡ octets
  pub behind : drop written after ≡ drop written before

-- octets of which this holds are put in a room
pub record Puts (are : List ℕ → Type 0) (before after : List ℕ) (written : ℕ) : Type 0 where
  pub octets : List ℕ
  pub answered : are octets
  pub put : ArePut octets before after written

-- octets of which this holds are more than there is room for, and how many they are is written
pub record LacksRoom (are : List ℕ → Type 0) (room written : ℕ) : Type 0 where
  pub octets : List ℕ
  pub answered : are octets
  pub count : written ≡ length octets
  pub lacks : room < written

-- why no octets are put in a room
abbrev pub IsUnput : (List ℕ → Type 0) → (Refusal → Type 0) → ℕ → ℕ → Refusal → Type 0
IsUnput are refused room written NoRoom = LacksRoom are room written
IsUnput are refused room written refusal = refused refusal × (written ≡ 0)

-- the code is that of a reason that stands
abbrev pub IsUnputBy : (List ℕ → Type 0) → (Refusal → Type 0) → ℕ → ℕ → ℕ → Type 0
IsUnputBy are refused room written code =
    (refusal : Refusal) × IsUnput are refused room written refusal × (code ≡ code_of refusal)

-- an answer is put in a room
abbrev pub IsAnswerPut : {T : Type 0} → (T → List ℕ) → Result T Refusal → List ℕ → List ℕ → ℕ → Type 0
IsAnswerPut items (Ok t) before after written = ArePut (items t) before after written
IsAnswerPut items (Err refusal) before after written = ⊥

-- the code tells why an answer isn't put: it has more octets than there is room for, or there is none
abbrev pub IsAnswerUnput : {T : Type 0} → (T → List ℕ) → Result T Refusal → ℕ → ℕ → ℕ → Type 0
IsAnswerUnput items (Ok t) room written code =
    (written ≡ length (items t)) × (room < written) × (code ≡ code_of NoRoom)
IsAnswerUnput items (Err refusal) room written code = (written ≡ 0) × (code ≡ code_of refusal)
