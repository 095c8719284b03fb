-- What the program says of a fault, and the status that it ends with.
use Rattle.std.specs.Prelude.{ℕ, ◌≡◌, List, ◌++◌, Option, Result, OnOk, codes}
use Rattle.std.specs.Io.KnownBytes.{Appends}
use Rattle.per_core.specs.ReadingNames.{name_of as decode_name}
use Rattle.per_core.specs.WritingNames.{name_of as encode_name}
use Rattle.std.specs.declared.io.ErrorKind.{ErrorKind}
use Rattle.std.specs.declared.io.ErrorKind.TheVariants as Kinds
use Rattle.hex.specs.declared.error.FromHexError.{FromHexError}
use Rattle.hex.specs.declared.error.FromHexError.TheVariants as Errors
use Rattle.line_replies.specs.declared.fault.Fault.{Fault}
use Rattle.line_replies.specs.declared.fault.Fault.TheVariants.{WrongArguments, CannotRead, BadHexadecimal, Decode}
use Rattle.line_replies.specs.declared.fault.Fault.TheVariants.{Encode, CannotWrite, OutOfMemory}

-- what is said of a fault
abbrev pub text_of : Fault → List ℕ
text_of WrongArguments = codes "usage: per_check (aper|uper) TYPE [lines | zero | as TYPE]"
text_of CannotRead = codes "cannot read input"
text_of BadHexadecimal = codes "bad hexadecimal"
text_of (Decode kind) = decode_name kind
text_of (Encode kind) = encode_name kind
text_of CannotWrite = codes "cannot write output"
text_of OutOfMemory = codes "OutOfMemory"

-- a writer got these octets, and nothing else; where writing failed, a front of them
abbrev pub AppendsFront : Option (List ℕ) → Option (List ℕ) → List ℕ → Type 0
AppendsFront before after octets = (front rest : List ℕ) × (octets ≡ front ++ rest) × Appends before after front

-- a writer got these octets where writing answered Ok, else a front of them, and nothing else
pub record IsWritten {E : Type 0} (result : Result (Unit {0}) E) (before after : Option (List ℕ)) (octets : List ℕ)
    : Type 0 where
  pub whole : OnOk result (Appends before after octets)
  pub front : AppendsFront before after octets

-- 1: octets or a value are refused, or memory ran out; 2: the program can't do its work
abbrev pub status_of : Fault → ℕ
status_of WrongArguments = 2
status_of CannotRead = 2
status_of BadHexadecimal = 2
status_of (Decode kind) = 1
status_of (Encode kind) = 1
status_of CannotWrite = 2
status_of OutOfMemory = 1

-- the fault of an error of a reader or a writer
abbrev pub io_fault : ErrorKind → Fault → Fault
io_fault Kinds.OutOfMemory other = OutOfMemory
io_fault _ other = other

-- the fault of a line that is not taken as hexadecimal
abbrev pub hexadecimal_fault : FromHexError → Fault
hexadecimal_fault Errors.OutOfMemory = OutOfMemory
hexadecimal_fault _ = BadHexadecimal
