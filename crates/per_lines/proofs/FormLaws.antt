-- What each form prints, and how it ends, by the words that ask for it.
use Rattle.std.proofs.Common.{◌≡◌, inr, sym, subst, ℕ, List, Option, Result, Ok, Err, OnOk, IfErr}
use Rattle.per_lines.specs.declared.arguments.Form.{Form}
use Rattle.per_lines.specs.declared.arguments.Form.TheVariants.{OneLine, Lines, Zero, As}
use Rattle.per_lines.specs.declared.arguments.Arguments.{Arguments}
use Rattle.line_replies.specs.declared.fault.Fault.{Fault}
use Rattle.line_replies.specs.declared.fault.Fault.TheVariants.{WrongArguments, CannotRead, BadHexadecimal, Decode, Encode, CannotWrite, OutOfMemory}
use Rattle.per_lines.specs.Words.{words_of}
use Rattle.per_lines.specs.Answers.{Prints, PrintsIn, Ends, EndsAnswer, EndsIn, IsAnswer}
use Rattle.line_replies.specs.Faults.{io_fault}
use Rattle.line_replies.specs.Printing.{BreaksAnswer}
use Rattle.std.specs.declared.io.ErrorKind.{ErrorKind}
use Rattle.std.specs.declared.io.ErrorKind.TheVariants as Kinds
use Rattle.per_lines.proofs.WordLaws.{asks}

pub prints_in : {X : Type 0} (words : List (List ℕ)) (a : Arguments) (form : Form) (input before after : Option (List ℕ)) (r : Result X Fault) →
    words ≡ words_of a → a.form ≡ form → OnOk r (PrintsIn form a input before after) → OnOk r (Prints words input before after)
prints_in words a form input before after (Ok _) e f x = record {
  arguments = a;
  ask = asks words a e;
  prints = subst (λ g. PrintsIn g a input before after) (sym f) x;
}
prints_in words a form input before after (Err _) e f x = tt

ends : (words : List (List ℕ)) (a : Arguments) (form : Form) (input before after : Option (List ℕ)) (fault : Fault) →
    words ≡ words_of a → a.form ≡ form → EndsIn form a input before after fault → Ends words input before after fault
ends words a OneLine input before after WrongArguments e f x = elim x [ ]
ends words a Lines input before after WrongArguments e f x = elim x [ ]
ends words a Zero input before after WrongArguments e f x = elim x [ ]
ends words a (As _) input before after WrongArguments e f x = elim x [ ]
ends words a form input before after CannotRead e f x =
    (a, asks words a e, subst (λ g. EndsIn g a input before after CannotRead) (sym f) x)
ends words a form input before after BadHexadecimal e f x =
    (a, asks words a e, subst (λ g. EndsIn g a input before after BadHexadecimal) (sym f) x)
ends words a form input before after (Decode kind) e f x =
    (a, asks words a e, subst (λ g. EndsIn g a input before after (Decode kind)) (sym f) x)
ends words a form input before after (Encode kind) e f x =
    (a, asks words a e, subst (λ g. EndsIn g a input before after (Encode kind)) (sym f) x)
ends words a form input before after CannotWrite e f x =
    (a, asks words a e, subst (λ g. EndsIn g a input before after CannotWrite) (sym f) x)
ends words a form input before after OutOfMemory e f x =
    (a, asks words a e, subst (λ g. EndsIn g a input before after OutOfMemory) (sym f) x)

pub ends_in : {X : Type 0} (words : List (List ℕ)) (a : Arguments) (form : Form) (input before after : Option (List ℕ)) (r : Result X Fault) →
    words ≡ words_of a → a.form ≡ form → IfErr r (EndsIn form a input before after) → IfErr r (Ends words input before after)
ends_in words a form input before after (Ok _) e f x = tt
ends_in words a form input before after (Err fault) e f x = ends words a form input before after fault e f x

-- writing the answer failed
pub ends_written : (a : Arguments) (k : ErrorKind) (input before after : Option (List ℕ)) →
    BreaksAnswer (IsAnswer a) input before after → EndsAnswer a input before after (io_fault k CannotWrite)
ends_written a Kinds.OutOfMemory input before after x = inr x
ends_written a _ input before after x = x
