-- What the program says of a fault, and the status that it ends with.
use Rattle.std.specs.Prelude.{ℕ, ◌≡◌, ◌⊎◌, List, [], ◌∷◌, ◌++◌, Option, codes}
use Rattle.line_replies.specs.Faults.{AppendsFront}
use Rattle.line_replies.specs.Faults.{status_of as lines_status, text_of as lines_text}
use Rattle.line_replies.specs.declared.fault.Fault.{Fault as TheFault}
use Rattle.line_replies.specs.declared.fault.Fault.TheVariants as Faults
use Rattle.per_core.specs.ReadingNames.{name_of as decode_name}
use Rattle.rasn_jer.specs.Names.{name_of as encode_name}
use Rattle.per_lines.specs.declared.show_fault.Fault.{Fault}
use Rattle.per_lines.specs.declared.show_fault.Fault.TheVariants.{WrongArguments, UnknownType, Decode, Encode, OfLines}

-- what is said of a fault but its place and the nearest type
abbrev pub front_of : Fault → List ℕ
front_of WrongArguments = codes "usage: per_show (aper|uper) TYPE [lines] [--pretty] | per_show --help"
front_of (UnknownType nearest) = codes "unknown type; the nearest is "
front_of (Decode refusal) = decode_name refusal.kind
front_of (Encode e) = encode_name e
front_of (OfLines fault) = lines_text fault

-- what is said of a fault but its place
abbrev pub text_of : Fault → List ℕ
text_of (UnknownType nearest) = front_of (UnknownType nearest) ++ nearest.now
text_of fault = front_of fault

-- what is said of a fault: behind the name of a refusal stands its place, of which it isn't said how it is spelled
abbrev pub IsToldAs : Fault → List ℕ → Type 0
IsToldAs (Decode refusal) told = (place : List ℕ) × (told ≡ decode_name refusal.kind ++ place)
IsToldAs fault told = told ≡ text_of fault

-- a writer got a line that says a fault, of it no more than its front where memory ran out; where writing failed, a
-- front of that line
abbrev pub Tells : Fault → Option (List ℕ) → Option (List ℕ) → Type 0
Tells fault before after = (told : List ℕ) × (IsToldAs fault told ⊎ (told ≡ front_of fault))
    × AppendsFront before after (told ++ 10 ∷ [])

-- 1: octets or a value are refused, or memory ran out; 2: the program can't do its work
abbrev pub status_of : Fault → ℕ
status_of WrongArguments = 2
status_of (UnknownType nearest) = 2
status_of (Decode refusal) = 1
status_of (Encode e) = 1
status_of (OfLines fault) = lines_status fault

-- a fault of per_lines; wrong arguments are those of this program
abbrev pub of_lines : TheFault → Fault
of_lines Faults.WrongArguments = WrongArguments
of_lines fault = OfLines fault
