-- What the calls over tables of types answer.
use Rattle.std.specs.Prelude.{ℕ, ◌≡◌, ◌≢◌, ◌≤◌, ◌⊎◌, true, false, List, [], length, Option, Some, None}
use Rattle.std.specs.Prelude.{IfSome, string_bytes}
use Rattle.std.specs.Arc.{arc_value}
use Rattle.std.specs.Option.{unwrap_or}
use Rattle.std.specs.Str.{IsUtf8}
use Rattle.std.specs.declared.alloc.Global.{Global}
use Rattle.std.specs.declared.boxed.Box.{Box}
use Rattle.rasn_schema.specs.Lawful.{IsLawfulType}
use Rattle.rasn_dynamic.specs.Names.{place_of}
use Rattle.rasn_dynamic.specs.Types.{schema_at}
use Rattle.rasn_dynamic.specs.declared.types.Types.{Types}
use Rattle.rasn_dynamic.specs.declared.values.Value.{Value}
use Rattle.rasn_dynamic_jer.specs.FromJson.{IsTextOf}
use Rattle.schema_file.specs.Lines.{IsLineOf}
use Rattle.per_core.specs.Rows.{Codec}
use Rattle.per_lines.specs.declared.arguments.Padding.TheVariants as Paddings
use Rattle.per_messages.specs.Messages.{AreRecoded, AreRefused, AreShown, AreUnshown, AreWithoutFirst, IsFirst}
use Rattle.per_messages.specs.Messages.{IsMade, IsUnmade}
use Rattle.per_messages.specs.Paths.{IsFaultOf}
use Rattle.per_messages.specs.declared.error.MessageError.{MessageError}
use Rattle.per_messages.specs.declared.located.Fault.{Fault}
use Rattle.per_c.specs.Answers.{Puts}
use Rattle.per_c.specs.Numbers.{code_of, message_refusal, options_number}
use Rattle.per_c.specs.declared.handle.Table.{Table}
use Rattle.per_c.specs.declared.refusal.Refusal.{Refusal}
use Rattle.per_c.specs.declared.refusal.Refusal.TheVariants.{AlreadyLoaded, BadSchema, NoRoom, NoTypes, OutOfMemory}
use Rattle.per_c.specs.declared.refusal.Refusal.TheVariants.{UnknownOptions, UnknownType}
use Rattle.per_c.specs.declared.tables.PerTypes.{PerTypes}
use Rattle.per_c.specs.declared.tables.Task.{Task}
use Rattle.per_c.specs.declared.tables.Task.TheVariants.{FromJson, Recode, ToJson}

-- a handle holds a table, or none
abbrev pub Holds : PerTypes → Option Table → Type 0
Holds h None = (h.is_loaded ≡ false) × (h.handle.table ≡ None)
Holds h (Some t) = (h.is_loaded ≡ true) × (h.handle.table ≡ Some t)

-- a handle says whether it holds one
abbrev pub IsHandle : PerTypes → Type 0
IsHandle h = Holds h h.handle.table

-- the table of a handle, where it holds one
abbrev pub IsTable : Option Table → Option (Box Table Global) → Type 0
IsTable None None = Unit {0}
IsTable (Some t) (Some b) = b.value ≡ t
IsTable _ _ = ⊥

-- each type of a table is lawful
abbrev pub IsLawfulTable : Table → Type 0
IsLawfulTable t = (place : ℕ) → IsLawfulType (schema_at (arc_value t.types).kinds.items place)

-- a handle holds a table whose types are lawful
pub record IsLoaded (h : PerTypes) : Type 0 where
  pub table : Table
  pub holds : Holds h (Some table)
  pub lawful : IsLawfulTable table

-- what is answered, by the type at a place of a table
abbrev pub Answers : Task → Types → Codec → ℕ → List ℕ → List ℕ → Type 0
Answers Recode = AreRecoded
Answers ToJson = AreShown
Answers FromJson = IsMade

-- and what is refused
abbrev pub Refuses : Task → Types → Codec → ℕ → List ℕ → MessageError → Type 0
Refuses Recode = AreRefused
Refuses ToJson = AreUnshown
Refuses FromJson = IsUnmade

-- memory ran out, or the message is refused
abbrev pub IsRefusal : (MessageError → Type 0) → Refusal → Type 0
IsRefusal refuses refusal = (refusal ≡ OutOfMemory) ⊎ ((e : MessageError) × (refusal ≡ message_refusal e) × refuses e)

-- it is so by the table that is held, in the variant that a number asks for
pub record IsByHeld (held : Option Table) (options : ℕ) (so : Types → Codec → Type 0) : Type 0 where
  pub table : Table
  pub codec : Codec
  pub is_held : held ≡ Some table
  pub options_are : options ≡ options_number codec Paddings.Any
  pub is_so : so (arc_value table.types) codec

-- why a message has no answer: no variant is asked for, no table is held, or that refuses the message
abbrev pub IsNoAnswer : Option Table → ℕ → (Types → Codec → MessageError → Type 0) → Refusal → Type 0
IsNoAnswer held options refuses UnknownOptions = (codec : Codec) → options ≢ options_number codec Paddings.Any
IsNoAnswer held options refuses NoTypes = held ≡ None
IsNoAnswer held options refuses NoRoom = ⊥
IsNoAnswer held options refuses r = IsByHeld held options (λ types codec. IsRefusal (refuses types codec) r)

-- the answer by the table that is held, and why there is none
abbrev pub IsAnswered : Task → Option Table → ℕ → ℕ → List ℕ → List ℕ → Type 0
IsAnswered task held options place given answer =
    IsByHeld held options (λ types codec. Answers task types codec place given answer)

abbrev pub IsUnanswered : Task → Option Table → ℕ → ℕ → List ℕ → Refusal → Type 0
IsUnanswered task held options place given =
    IsNoAnswer held options (λ types codec. Refuses task types codec place given)

-- octets begin with an encoding of so many octets, and why they begin with none
abbrev pub IsFirstOf : Option Table → ℕ → ℕ → List ℕ → ℕ → Type 0
IsFirstOf held options place octets count =
    IsByHeld held options (λ types codec. IsFirst types codec place octets count)

abbrev pub IsUnfirst : Option Table → ℕ → ℕ → List ℕ → Refusal → Type 0
IsUnfirst held options place octets =
    IsNoAnswer held options (λ types codec. AreWithoutFirst types codec place octets)

-- why it isn't told where octets are refused: no variant is asked for, no table is held, or memory ran out
abbrev pub IsUnlocated : Option Table → ℕ → Refusal → Type 0
IsUnlocated held options UnknownOptions = (codec : Codec) → options ≢ options_number codec Paddings.Any
IsUnlocated held options NoTypes = held ≡ None
IsUnlocated held options OutOfMemory = Unit {0}
IsUnlocated held options _ = ⊥

-- a text tells a value of the table that is held; or none, and the path leads to a part of it, or it is no JSON
abbrev pub IsTextFaultBy : Types → ℕ → List ℕ → Option Fault → Type 0
IsTextFaultBy types place text None = (value : Value) × IsTextOf types.kinds.items place text value
IsTextFaultBy types place text (Some fault) = IsFaultOf types.kinds.items place text fault
    × IfSome fault.octet (λ n. n ≤ length text)

pub record IsTextFault (held : Option Table) (place : ℕ) (text : List ℕ) (fault : Option Fault) : Type 0 where
  pub table : Table
  pub is_held : held ≡ Some table
  pub is_fault : IsTextFaultBy (arc_value table.types) place text fault

-- the path to where a text is refused; empty where it isn't
abbrev pub path_of : Option Fault → List ℕ
path_of None = []
path_of (Some fault) = string_bytes fault.path

abbrev pub IsPathOf : Option Table → ℕ → List ℕ → List ℕ → Type 0
IsPathOf held place text path = (fault : Option Fault) × IsTextFault held place text fault × (path ≡ path_of fault)

-- how many octets are in front of where a text stops to be JSON; all of them where it is JSON
abbrev pub octet_of : List ℕ → Option Fault → ℕ
octet_of text None = length text
octet_of text (Some fault) = unwrap_or fault.octet (length text)

-- that path is put in a room, and where the text stops to be JSON is told of the same fault
pub record IsPut (held : Option Table) (place : ℕ) (text before after : List ℕ) (written octet : ℕ) : Type 0 where
  pub fault : Option Fault
  pub is_fault : IsTextFault held place text fault
  pub is_put : Puts (λ path. path ≡ path_of fault) before after written
  pub is_octet : octet ≡ octet_of text fault

-- why it isn't told where a text is refused: no table is held, or memory ran out
abbrev pub IsUntold : Option Table → Refusal → Type 0
IsUntold held NoTypes = held ≡ None
IsUntold held OutOfMemory = Unit {0}
IsUntold held _ = ⊥

-- the type of a name is at a place of the table that is held
pub record IsFound (held : Option Table) (name : List ℕ) (place : ℕ) : Type 0 where
  pub table : Table
  pub is_held : held ≡ Some table
  pub stands : place_of (arc_value table.types).names.items name ≡ Some place

-- why a name has no place: none is held, or that has no such name
abbrev pub IsUnfound : Option Table → List ℕ → Refusal → Type 0
IsUnfound held name NoTypes = held ≡ None
IsUnfound held name UnknownType = (table : Table) × (held ≡ Some table)
    × (IsUtf8 name → place_of (arc_value table.types).names.items name ≡ None)
IsUnfound held name _ = ⊥

-- why a text isn't loaded: the handle holds a table, a line is wrong, or memory ran out
abbrev pub IsUnloaded : Option Table → List ℕ → ℕ → Refusal → Type 0
IsUnloaded held text line AlreadyLoaded = (table : Table) × (held ≡ Some table) × (line ≡ 0)
IsUnloaded held text line BadSchema = IsLineOf text line
IsUnloaded held text line OutOfMemory = line ≡ 0
IsUnloaded held text line _ = ⊥

-- why a table isn't shared: none is held, the other handle holds one, or memory ran out
abbrev pub IsUnshared : Option Table → Option Table → Refusal → Type 0
IsUnshared held other NoTypes = held ≡ None
IsUnshared held other AlreadyLoaded = (table : Table) × (other ≡ Some table)
IsUnshared held other OutOfMemory = Unit {0}
IsUnshared held other _ = ⊥

-- the code is that of a reason that stands
abbrev pub IsBy : (Refusal → Type 0) → ℕ → Type 0
IsBy stands code = (refusal : Refusal) × stands refusal × (code ≡ code_of refusal)
