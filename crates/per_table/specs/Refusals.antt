-- What is said of a refusal.
use Rattle.std.specs.Prelude.{ℕ, List, [], ◌∷◌, ◌++◌, codes}
use Rattle.hex.specs.declared.error.FromHexError.{FromHexError}
use Rattle.hex.specs.declared.error.FromHexError.TheVariants as Hexadecimal
use Rattle.per_messages.specs.Errors.{name_of}
use Rattle.per_messages.specs.declared.error.MessageError.{MessageError}
use Rattle.per_messages.specs.declared.error.MessageError.TheVariants as Of
use Rattle.per_table.specs.declared.refusal.Refusal.{Refusal}
use Rattle.per_table.specs.declared.refusal.Refusal.TheVariants.{WrongRequest, UnknownType, BadHexadecimal, Message}
use Rattle.per_table.specs.declared.refusal.Refusal.TheVariants.{OutOfMemory}

-- what is said of a refusal
abbrev pub text_of : Refusal → List ℕ
text_of WrongRequest = codes "not (aper|uper) MODULE.TYPE TEXT"
text_of UnknownType = codes "no such type"
text_of BadHexadecimal = codes "bad hexadecimal"
text_of (Message error) = name_of error
text_of OutOfMemory = codes "OutOfMemory"

-- `! `, why a line has no answer, and a line feed
abbrev pub refusal_of : Refusal → List ℕ
refusal_of refusal = codes "! " ++ text_of refusal ++ 10 ∷ []

-- why digits are not taken as hexadecimal
abbrev pub hexadecimal_refusal : FromHexError → Refusal
hexadecimal_refusal Hexadecimal.OutOfMemory = OutOfMemory
hexadecimal_refusal _ = BadHexadecimal

-- why a message has no answer
abbrev pub message_refusal : MessageError → Refusal
message_refusal Of.OutOfMemory = OutOfMemory
message_refusal e = Message e
