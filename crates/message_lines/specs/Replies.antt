-- What lines of messages are replied, by a table of types.
use Rattle.std.specs.Prelude.{ℕ, ◌≡◌, ◌≤◌, ◌*◌, ◌==◌, ◌⊎◌, if◌then◌else◌, Bool, true, false, List, [], ◌∷◌, ◌++◌}
use Rattle.std.specs.Prelude.{length}
use Rattle.std.specs.Prelude.{Option, Some, None}
use Rattle.std.specs.Prelude.{IfSome, IsSomeAnd, codes, decimal, string_bytes}
use Rattle.std.specs.List.{list_all}
use Rattle.std.specs.Char.{is_ascii_whitespace}
use Rattle.std.specs.Io.KnownBytes.{Appends}
use Rattle.hex.specs.Hex.{encode_lower}
use Rattle.line_replies.specs.Layouts.{IsLaidOut}
use Rattle.line_replies.specs.declared.layout.Layout.{Layout}
use Rattle.per_dynamic.specs.declared.located.RefusedAt.{RefusedAt}
use Rattle.per_messages.specs.Errors.{from_json_name, name_of}
use Rattle.per_messages.specs.Messages.{AreChecked, AreShown, AreUnshown, IsMade, IsUnmade}
use Rattle.per_messages.specs.Paths.{IsFaultOf}
use Rattle.per_messages.specs.Remarks.{Told as Remarked}
use Rattle.per_messages.specs.declared.error.MessageError.{MessageError}
use Rattle.per_messages.specs.declared.error.MessageError.TheVariants as Of
use Rattle.per_messages.specs.declared.located.Fault.{Fault as JsonFault}
use Rattle.rasn_dynamic_jer.specs.declared.from_json_error.FromJsonError.{FromJsonError}
use Rattle.rasn_dynamic_jer.specs.declared.from_json_error.FromJsonError.TheVariants as Told
use Rattle.message_lines.specs.Columns.{column_of, text_of}
use Rattle.message_lines.specs.Digits.{octets_in}
use Rattle.message_lines.specs.Remarks.{at_path, IsJsonWith}
use Rattle.message_lines.specs.declared.replies.Messages.{Messages}
use Rattle.message_lines.specs.declared.replies.Refusal.{Refusal}
use Rattle.message_lines.specs.declared.replies.Refusal.TheVariants.{Blank, BadHexadecimal, Message, Json, OutOfMemory}
use Rattle.message_lines.specs.declared.replies.Task.{Task}
use Rattle.message_lines.specs.declared.replies.Task.TheVariants.{Show, Check, Make}

-- a message's JSON in a layout, and after it the remarks on the one value that octets spell
abbrev pub IsCheckedText : Messages → Layout → List ℕ → List ℕ → Type 0
IsCheckedText m layout octets answer = (json : List ℕ) × (remarks : List Remarked)
    × AreChecked m.types.now m.codec m.place octets json remarks × IsJsonWith layout json remarks answer

-- a text of hexadecimal is shown: the JSON of the one value that its octets spell, in a layout; with remarks on it; or
-- a text of JSON is made: the canonical octets of the value that it tells, in lower-case hexadecimal
abbrev pub IsAnswerTo : Task → Messages → List ℕ → List ℕ → Type 0
IsAnswerTo (Show layout) m text answer = (octets json : List ℕ) × (octets_in text ≡ Some octets)
    × AreShown m.types.now m.codec m.place octets json × IsLaidOut layout json answer
IsAnswerTo (Check layout) m text answer = (octets : List ℕ) × (octets_in text ≡ Some octets)
    × IsCheckedText m layout octets answer
IsAnswerTo Make m text answer =
    (octets : List ℕ) × IsMade m.types.now m.codec m.place text octets × (answer ≡ encode_lower octets)

-- the answer, with a line feed
abbrev pub IsAnswer : Messages → List ℕ → List ℕ → Type 0
IsAnswer m text reply = (answer : List ℕ) × IsAnswerTo m.task m text answer × (reply ≡ answer ++ 10 ∷ [])

-- where octets are refused: at one of them, or at their end; where they aren't, there is no such place
abbrev pub IsPlaced : List ℕ → MessageError → Option RefusedAt → Type 0
IsPlaced octets (Of.Decode kind) at = IsSomeAnd at (λ p. (p.bits ≡ 8 * length octets) × (p.bit ≤ p.bits))
IsPlaced octets e at = at ≡ None

-- why a text of hexadecimal isn't shown
abbrev pub IsUnshownText : Messages → List ℕ → Refusal → Type 0
IsUnshownText m text (BadHexadecimal column) = octets_in text ≡ None
IsUnshownText m text (Message e at) = (octets : List ℕ) × (octets_in text ≡ Some octets)
    × AreUnshown m.types.now m.codec m.place octets e × IsPlaced octets e at
IsUnshownText m text r = ⊥

-- why a text of JSON isn't made
abbrev pub IsUnmadeText : Messages → List ℕ → Refusal → Type 0
IsUnmadeText m text (Message e at) = IsUnmade m.types.now m.codec m.place text e × (at ≡ None)
IsUnmadeText m text (Json fault) = IsUnmade m.types.now m.codec m.place text (Of.FromJson fault.error)
    × IsFaultOf m.types.now.kinds.items m.place text fault
IsUnmadeText m text r = ⊥

-- why a text has no answer
abbrev pub IsRefusedBy : Task → Messages → List ℕ → Refusal → Type 0
IsRefusedBy (Show layout) = IsUnshownText
IsRefusedBy (Check layout) = IsUnshownText
IsRefusedBy Make = IsUnmadeText

-- the same, or the text has no message: it is all white space
abbrev pub IsRefusedText : Messages → List ℕ → Refusal → Type 0
IsRefusedText m text Blank = list_all is_ascii_whitespace text ≡ true
IsRefusedText m text r = IsRefusedBy m.task m text r

-- the number of a bit among those of all octets
abbrev pub bit_text : RefusedAt → List ℕ
bit_text p = codes "bit " ++ (decimal p.bit ++ (codes " of " ++ decimal p.bits))

-- the path of a place, where it isn't that of the whole message, and its bit
abbrev pub place_text : RefusedAt → List ℕ
place_text p =
    if length (string_bytes p.path) == 0 then bit_text p else string_bytes p.path ++ (codes ", " ++ bit_text p)

-- where a text of JSON is refused: at an octet, or at a path
abbrev pub fault_place : Option ℕ → List ℕ → List ℕ
fault_place (Some octet) path = codes " at octet " ++ decimal octet
fault_place None path = at_path path

-- why a text of JSON is refused, and where
abbrev pub fault_text : JsonFault → List ℕ
fault_text fault = from_json_name fault.error ++ fault_place fault.octet (string_bytes fault.path)

-- what is said of a refusal; of a message the name of its error, and where its octets are refused, if they are
abbrev pub refusal_text : Refusal → List ℕ
refusal_text Blank = codes "blank line"
refusal_text (BadHexadecimal column) = codes "bad hexadecimal at column " ++ decimal column
refusal_text (Message e None) = name_of e
refusal_text (Message e (Some p)) = name_of e ++ (codes " at " ++ place_text p)
refusal_text (Json fault) = fault_text fault
refusal_text OutOfMemory = codes "OutOfMemory"

-- `! `, why a line has no answer, and a line feed
abbrev pub refusal_line : Refusal → List ℕ
refusal_line refusal = codes "! " ++ refusal_text refusal ++ 10 ∷ []

-- why a message has no answer
abbrev pub message_refusal : MessageError → Refusal
message_refusal Of.OutOfMemory = OutOfMemory
message_refusal e = Message e None

-- the refusal of a fault of JSON, by its error
abbrev pub fault_refusal : FromJsonError → JsonFault → Refusal
fault_refusal Told.OutOfMemory fault = OutOfMemory
fault_refusal e fault = Json fault

-- the refusal of a text of JSON of which no octets are made: memory ran out, or with where it is refused, if it tells
-- no value
abbrev pub IsRefusalOfText : Messages → List ℕ → MessageError → Refusal → Type 0
IsRefusalOfText m text (Of.FromJson e) r = (r ≡ OutOfMemory) ⊎ (r ≡ Message (Of.FromJson e) None)
    ⊎ ((fault : JsonFault) × (r ≡ Json fault) × IsUnmade m.types.now m.codec m.place text (Of.FromJson fault.error)
    × IsFaultOf m.types.now.kinds.items m.place text fault)
IsRefusalOfText m text e r = r ≡ message_refusal e

-- the refusal of an error of octets, with where they are refused, if they are
abbrev pub IsRefusalOf : List ℕ → MessageError → Refusal → Type 0
IsRefusalOf octets Of.OutOfMemory r = r ≡ OutOfMemory
IsRefusalOf octets e r = (at : Option RefusedAt) × IsPlaced octets e at × (r ≡ Message e at)

-- what is replied to the text of a line: its answer; or, where it is refused, why it has none
abbrev pub IsTextReply : Messages → Bool → List ℕ → List ℕ → Type 0
IsTextReply m false text told = IsAnswer m text told
IsTextReply m true text told = (r : Refusal) × IsRefusedText m text r × (told ≡ refusal_line r)

-- The reply to a line that is refused, or to one that isn't: its first column, where one is asked for, and the reply to
-- the rest.
pub record Replied (m : Messages) (is_refused : Bool) (line reply : List ℕ) : Type 0 where
  pub told : List ℕ
  pub is_reply : IsTextReply m is_refused (text_of m.has_column line) told
  pub written : reply ≡ column_of m.has_column line ++ told

-- the reply to a line
abbrev pub IsReply : Messages → List ℕ → List ℕ → Type 0
IsReply m line reply = (is_refused : Bool) × Replied m is_refused line reply

-- the reply to a line, which isn't refused where no line is
abbrev pub IsReplyWhere : Bool → Messages → List ℕ → List ℕ → Type 0
IsReplyWhere false m = Replied m false
IsReplyWhere true m = IsReply m

-- the answer is the JSON of the one value that octets spell, in a layout, with a line feed
pub record IsShown (m : Messages) (layout : Layout) (octets answer : List ℕ) : Type 0 where
  pub json : List ℕ
  pub laid : List ℕ
  pub shown : AreShown m.types.now m.codec m.place octets json
  pub is_laid : IsLaidOut layout json laid
  pub written : answer ≡ laid ++ 10 ∷ []

-- the same with the remarks on the value
pub record IsChecked (m : Messages) (layout : Layout) (octets answer : List ℕ) : Type 0 where
  pub text : List ℕ
  pub checked : IsCheckedText m layout octets text
  pub written : answer ≡ text ++ 10 ∷ []

-- one or the other
abbrev pub IsPrinted : Bool → Messages → Layout → List ℕ → List ℕ → Type 0
IsPrinted false = IsShown
IsPrinted true = IsChecked

-- an output got the answer to the octets of an input, and nothing else
pub record PrintsShown (m : Messages) (layout : Layout) (is_checked : Bool) (input before after : Option (List ℕ))
    : Type 0 where
  pub octets : List ℕ
  pub answer : List ℕ
  pub are_all : IfSome input (λ all. octets ≡ all)
  pub shown : IsPrinted is_checked m layout octets answer
  pub printed : Appends before after answer
