-- What messages are answered with, by a table of types.
use Rattle.std.specs.Prelude.{ℕ, ◌≡◌, ◌≢◌, ◌≤◌, ◌⊎◌, true, false, List, [], None, drop, length, take}
use Rattle.json.specs.Json.{max_depth}
use Rattle.rasn_schema.specs.Normal.{AtDepths, normal}
use Rattle.rasn_schema.specs.Schemas.{Schema}
use Rattle.rasn_dynamic.specs.Types.{schema_at}
use Rattle.rasn_dynamic.specs.Values.{levels_of, value_of}
use Rattle.rasn_dynamic.specs.declared.types.Types.{Types}
use Rattle.rasn_dynamic.specs.declared.values.Value.{Value}
use Rattle.rasn_dynamic_jer.specs.Puts.{IsJsonText}
use Rattle.rasn_dynamic_jer.specs.Shown.{json_at}
use Rattle.rasn_dynamic_jer.specs.FromJson.{IsNoText, IsTextOf}
use Rattle.per_core.specs.Rows.{Codec, variant_of}
use Rattle.per_dynamic.specs.OpenTypes.{IsUntaken, Takes}
use Rattle.per_dynamic.specs.declared.open_types.OpenTypeError.{OpenTypeError}
use Rattle.per_dynamic.specs.declared.open_types.OpenTypeError.TheVariants as Open
use Rattle.rasn_per.specs.Calls.{AreBytes, AreReadBy, AreUnreadBy, basically, BeginWith, BeginWithNone, HasNoBytes}
use Rattle.rasn_per.specs.Kinds.{IsInFront, IsInOctetsBy}
use Rattle.per_core.specs.declared.decode_error.DecodeErrorKind.{DecodeErrorKind}
use Rattle.per_core.specs.declared.decode_error.DecodeErrorKind.TheVariants as Decoding
use Rattle.per_core.specs.WritingFaults.{IsInValue}
use Rattle.per_core.specs.declared.encode_error.EncodeErrorKind.{EncodeErrorKind}
use Rattle.per_core.specs.declared.encode_error.EncodeErrorKind.TheVariants as Encoding
use Rattle.per_messages.specs.Remarks.{remarks_at, Told}
use Rattle.per_messages.specs.declared.error.MessageError.{MessageError}
use Rattle.per_messages.specs.declared.error.MessageError.TheVariants.{Decode, Encode, NoJson, OtherType, FromJson}

-- a type of a table
abbrev pub type_at : Types → ℕ → ℕ → Schema
type_at types place = schema_at types.kinds.items place

-- octets are read as this value of a type and no other, with padding of any value
abbrev pub AreRead : Types → Codec → ℕ → List ℕ → Value → Type 0
AreRead types codec place octets value =
    AreReadBy (basically (variant_of codec)) (type_at types place) (value_of value) octets

-- octets are a value's canonical ones
abbrev pub AreWritten : Types → Codec → ℕ → Value → List ℕ → Type 0
AreWritten types codec place value octets =
    AreBytes (variant_of codec) (type_at types place) (levels_of value) (value_of value) octets

-- the octets of open types are read as values, or these are written as octets
abbrev pub IsOpened : Types → Codec → ℕ → Value → Value → Type 0
IsOpened types codec place = Takes (record { codec = codec; reads = true }) types.kinds.items 128 place

abbrev pub IsClosed : Types → Codec → ℕ → Value → Value → Type 0
IsClosed types codec place = Takes (record { codec = codec; reads = false }) types.kinds.items 128 place

-- a value has no canonical octets, and the fault that a kind names is in it
pub record IsUnencoded (types : Types) (codec : Codec) (place : ℕ) (value : Value) (kind : EncodeErrorKind)
    : Type 0 where
  pub no_bytes : HasNoBytes (variant_of codec) (type_at types place) (levels_of value) (value_of value)
  pub is_faulty : AtDepths (type_at types place) (levels_of value) (λ s. IsInValue kind s (normal s (value_of value)))

-- the canonical octets of the one value that octets spell
pub record AreRecoded (types : Types) (codec : Codec) (place : ℕ) (octets canonical : List ℕ) : Type 0 where
  pub value : Value
  pub is_read : AreRead types codec place octets value
  pub is_written : AreWritten types codec place value canonical

-- octets spell no value, and what the kind says is in them
pub record AreUnread (types : Types) (codec : Codec) (place : ℕ) (octets : List ℕ) (kind : DecodeErrorKind)
    : Type 0 where
  pub unread : kind ≢ Decoding.OutOfMemory → AreUnreadBy (basically (variant_of codec)) (type_at types place) octets
  pub is_faulty : IsInOctetsBy (basically (variant_of codec)) (type_at types place) octets kind

-- octets spell a value that has no canonical ones
pub record AreUnencoded (types : Types) (codec : Codec) (place : ℕ) (octets : List ℕ) (kind : EncodeErrorKind)
    : Type 0 where
  pub value : Value
  pub is_read : AreRead types codec place octets value
  pub unencoded : IsUnencoded types codec place value kind

-- why octets are not recoded: they spell no value, or one without canonical octets
abbrev pub AreRefused : Types → Codec → ℕ → List ℕ → MessageError → Type 0
AreRefused types codec place octets (Decode kind) = AreUnread types codec place octets kind
AreRefused types codec place octets (Encode kind) = kind ≢ Encoding.OutOfMemory
    → AreUnencoded types codec place octets kind
AreRefused types codec place octets e = ⊥

-- the one value that octets spell, with its open types read
pub record AreOpened (types : Types) (codec : Codec) (place : ℕ) (octets : List ℕ) (opened : Value) : Type 0 where
  pub value : Value
  pub is_read : AreRead types codec place octets value
  pub is_opened : IsOpened types codec place value opened

-- the JSON of the one value that octets spell, with the octets of its open types
pub record IsShownClosed (types : Types) (codec : Codec) (place : ℕ) (octets text : List ℕ) : Type 0 where
  pub value : Value
  pub is_read : AreRead types codec place octets value
  pub is_json : IsJsonText (json_at types.kinds.items max_depth place value) text

-- the JSON of a value whose open types are read, or where that has none, of the one that octets spell
abbrev pub IsJsonOf : Types → Codec → ℕ → List ℕ → Value → List ℕ → Type 0
IsJsonOf types codec place octets opened text =
    IsJsonText (json_at types.kinds.items max_depth place opened) text
    ⊎ ((json_at types.kinds.items max_depth place opened ≡ None) × IsShownClosed types codec place octets text)

-- the JSON of the one value that octets spell, with its open types read; or where that has none, with their octets
pub record AreShown (types : Types) (codec : Codec) (place : ℕ) (octets text : List ℕ) : Type 0 where
  pub opened : Value
  pub is_opened : AreOpened types codec place octets opened
  pub is_json : IsJsonOf types codec place octets opened text

-- the same, and where that value departs from the object sets of its open types
pub record AreChecked (types : Types) (codec : Codec) (place : ℕ) (octets text : List ℕ) (remarks : List Told)
    : Type 0 where
  pub opened : Value
  pub is_opened : AreOpened types codec place octets opened
  pub is_json : IsJsonOf types codec place octets opened text
  pub are_remarks : remarks ≡ remarks_at types.kinds.items 128 [] place opened

-- octets spell a value that has no JSON
pub record AreWithoutJson (types : Types) (codec : Codec) (place : ℕ) (octets : List ℕ) : Type 0 where
  pub value : Value
  pub is_read : AreRead types codec place octets value
  pub no_json : json_at types.kinds.items max_depth place value ≡ None

-- why octets are not shown: they spell no value, or one that has no JSON
abbrev pub AreUnshown : Types → Codec → ℕ → List ℕ → MessageError → Type 0
AreUnshown types codec place octets (Decode kind) = AreUnread types codec place octets kind
AreUnshown types codec place octets NoJson = AreWithoutJson types codec place octets
AreUnshown types codec place octets e = ⊥

-- the canonical octets of the value that a text tells
pub record IsMade (types : Types) (codec : Codec) (place : ℕ) (text canonical : List ℕ) : Type 0 where
  pub value : Value
  pub closed : Value
  pub told : IsTextOf types.kinds.items place text value
  pub is_closed : IsClosed types codec place value closed
  pub is_written : AreWritten types codec place closed canonical

-- a text tells a value without canonical octets
pub record IsUnwritten (types : Types) (codec : Codec) (place : ℕ) (text : List ℕ) (kind : EncodeErrorKind)
    : Type 0 where
  pub value : Value
  pub closed : Value
  pub told : IsTextOf types.kinds.items place text value
  pub is_closed : IsClosed types codec place value closed
  pub unencoded : IsUnencoded types codec place closed kind

-- a text tells a value whose open types aren't written
pub record IsUnclosed (types : Types) (codec : Codec) (place : ℕ) (text : List ℕ) (e : OpenTypeError) : Type 0 where
  pub value : Value
  pub told : IsTextOf types.kinds.items place text value
  pub untaken : IsUntaken (record { codec = codec; reads = false }) types.kinds.items e

-- why a text makes no octets: it tells no value, or one without canonical octets
abbrev pub IsUnmade : Types → Codec → ℕ → List ℕ → MessageError → Type 0
IsUnmade types codec place text (FromJson e) = IsNoText types.kinds.items place text e
IsUnmade types codec place text (Encode kind) = kind ≢ Encoding.OutOfMemory
    → IsUnwritten types codec place text kind ⊎ IsUnclosed types codec place text (Open.Encode kind)
IsUnmade types codec place text OtherType = IsUnclosed types codec place text Open.OtherType
IsUnmade types codec place text e = ⊥

-- octets begin with the encoding of one value, which so many of them are, and with no other encoding
pub record IsFirst (types : Types) (codec : Codec) (place : ℕ) (octets : List ℕ) (count : ℕ) : Type 0 where
  pub value : Value
  pub within : count ≤ length octets
  pub is_read : AreRead types codec place (take count octets) value
  pub only : BeginWith (variant_of codec) (type_at types place) (value_of value) octets (drop count octets)

-- octets begin with the encoding of no value, and what the kind says is in them
pub record BeginWithoutFirst (types : Types) (codec : Codec) (place : ℕ) (octets : List ℕ) (kind : DecodeErrorKind)
    : Type 0 where
  pub none : kind ≢ Decoding.OutOfMemory → BeginWithNone (variant_of codec) (type_at types place) octets
  pub is_faulty : IsInFront (basically (variant_of codec)) (type_at types place) octets kind

-- why octets begin with no encoding
abbrev pub AreWithoutFirst : Types → Codec → ℕ → List ℕ → MessageError → Type 0
AreWithoutFirst types codec place octets (Decode kind) = BeginWithoutFirst types codec place octets kind
AreWithoutFirst types codec place octets e = ⊥
