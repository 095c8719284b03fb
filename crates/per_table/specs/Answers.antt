-- What the program replies to a line, by a table of types.
use Rattle.std.specs.Prelude.{ℕ, ◌≡◌, ◌≢◌, ◌⊎◌, List, [], ◌∷◌, ◌++◌, None, Ok}
use Rattle.hex.specs.Hex.{decode_of, encode_lower}
use Rattle.rasn_dynamic.specs.Names.{place_of}
use Rattle.rasn_dynamic.specs.declared.types.Types.{Types}
use Rattle.per_core.specs.Rows.{Codec}
use Rattle.per_messages.specs.Messages.{AreRecoded, AreRefused, AreShown, AreUnshown, IsMade, IsUnmade}
use Rattle.per_messages.specs.declared.error.MessageError.{MessageError}
use Rattle.per_table.specs.Refusals.{refusal_of}
use Rattle.per_table.specs.Requests.{IsRequest, IsRequestOf}
use Rattle.per_table.specs.declared.refusal.Refusal.{Refusal}
use Rattle.per_table.specs.declared.refusal.Refusal.TheVariants.{WrongRequest, UnknownType, BadHexadecimal, Message}
use Rattle.per_table.specs.declared.refusal.Refusal.TheVariants.{OutOfMemory}
use Rattle.per_table.specs.declared.task.Task.{Task}
use Rattle.per_table.specs.declared.task.Task.TheVariants.{Recode, Show, Make}

-- the answer is canonical octets in lower-case hexadecimal
pub record IsInDigits (answers : List ℕ → Type 0) (answer : List ℕ) : Type 0 where
  pub canonical : List ℕ
  pub are_canonical : answers canonical
  pub written : answer ≡ encode_lower canonical

-- this is so of the octets of digits
pub record AreDigits (holds : List ℕ → Type 0) (digits : List ℕ) : Type 0 where
  pub octets : List ℕ
  pub hexadecimal : decode_of digits ≡ Ok octets
  pub are : holds octets

-- the answer to a text: canonical octets of the octets of digits, their JSON, or the canonical octets of JSON
abbrev pub IsAnswerTo : Task → Types → Codec → ℕ → List ℕ → List ℕ → Type 0
IsAnswerTo Recode types codec place text answer =
    AreDigits (λ octets. IsInDigits (AreRecoded types codec place octets) answer) text
IsAnswerTo Show types codec place text answer = AreDigits (λ octets. AreShown types codec place octets answer) text
IsAnswerTo Make types codec place text answer = IsInDigits (IsMade types codec place text) answer

-- the answer to a line, with a line feed
pub record IsAnswer (task : Task) (types : Types) (line reply : List ℕ) : Type 0 where
  pub codec : Codec
  pub place : ℕ
  pub text : List ℕ
  pub answer : List ℕ
  pub is_request : IsRequestOf types line codec place text
  pub is_answer : IsAnswerTo task types codec place text answer
  pub ended : reply ≡ answer ++ 10 ∷ []

-- why a message has no answer
abbrev pub IsRefusedMessage : (MessageError → Type 0) → Refusal → Type 0
IsRefusedMessage refuses (Message e) = refuses e
IsRefusedMessage refuses r = ⊥

-- what is wrong with digits, or with their octets
abbrev pub AreDigitsRefused : (List ℕ → MessageError → Type 0) → List ℕ → Refusal → Type 0
AreDigitsRefused refuses digits BadHexadecimal = (octets : List ℕ) → decode_of digits ≢ Ok octets
AreDigitsRefused refuses digits r = AreDigits (λ octets. IsRefusedMessage (refuses octets) r) digits

-- why a text has no answer
abbrev pub IsRefusedText : Task → Types → Codec → ℕ → List ℕ → Refusal → Type 0
IsRefusedText Recode types codec place text = AreDigitsRefused (AreRefused types codec place) text
IsRefusedText Show types codec place text = AreDigitsRefused (AreUnshown types codec place) text
IsRefusedText Make types codec place text = IsRefusedMessage (IsUnmade types codec place text)

-- the text of a line is refused by the type that it names
pub record IsTurnedDown (task : Task) (types : Types) (line : List ℕ) (refusal : Refusal) : Type 0 where
  pub codec : Codec
  pub place : ℕ
  pub text : List ℕ
  pub is_request : IsRequestOf types line codec place text
  pub refused : IsRefusedText task types codec place text refusal

-- Why a line has no answer: it is no request, or the table has no type with its name, or its text is refused
abbrev pub IsUnanswered : Task → Types → List ℕ → Refusal → Type 0
IsUnanswered task types line WrongRequest = (codec : Codec) (name text : List ℕ) → IsRequest line codec name text → ⊥
IsUnanswered task types line UnknownType = (codec : Codec) × (name : List ℕ) × (text : List ℕ)
    × IsRequest line codec name text × (place_of types.names.items name ≡ None)
IsUnanswered task types line OutOfMemory = ⊥
IsUnanswered task types line r = IsTurnedDown task types line r

-- the reply to a line: its answer, or why it has none
abbrev pub IsReply : Task → Types → List ℕ → List ℕ → Type 0
IsReply task types line reply = IsAnswer task types line reply
    ⊎ ((refusal : Refusal) × IsUnanswered task types line refusal × (reply ≡ refusal_of refusal))
