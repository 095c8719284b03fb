use Rattle.std.proofs.Common.{◌≡◌, ◌⊎◌, inl, inr, List, ℕ, Option, rules}
use Rattle.std.proofs.KnownBytes.{Keeps-refl}
use Rattle.std.proofs.lemmas.Result.{err_from_is_err_and}
use Rattle.line_replies.specs.Lines.{IsLineOf}
use Rattle.line_replies.specs.declared.fault.Fault.TheVariants as Lines
use Rattle.per_lines.specs.Ends.{EndsAnswer}
use Rattle.per_lines.specs.ShownLines.{IsUnanswered}
use Rattle.per_lines.specs.declared.show_arguments.Showing.{Showing}
use Rattle.per_lines.specs.declared.show_fault.Fault.{Fault}
use Rattle.per_lines.specs.declared.show_fault.Fault.TheVariants.{WrongArguments, UnknownType, Decode, Encode, OfLines}
use Rattle.per_lines.proofs.show_run.print_answer.Goals as goal

-- why a line has no answer is why none is printed, and nothing was printed then
unanswered : (a : Showing) (input output : Option (List ℕ)) (line : List ℕ) (f : Fault) → IsLineOf input line
    → IsUnanswered a line f → EndsAnswer a input output output f
unanswered a input output line WrongArguments l u = ((line, l, u), Keeps-refl output)
unanswered a input output line (UnknownType nearest) l u = ((line, l, u), Keeps-refl output)
unanswered a input output line (Decode refusal) l u = ((line, l, u), Keeps-refl output)
unanswered a input output line (Encode error) l u = ((line, l, u), Keeps-refl output)
unanswered a input output line (OfLines Lines.WrongArguments) l u = ((line, l, u), Keeps-refl output)
unanswered a input output line (OfLines Lines.CannotRead) l u = Keeps-refl output
unanswered a input output line (OfLines Lines.BadHexadecimal) l u = ((line, l, u), Keeps-refl output)
unanswered a input output line (OfLines (Lines.Decode kind)) l u = ((line, l, u), Keeps-refl output)
unanswered a input output line (OfLines (Lines.Encode kind)) l u = ((line, l, u), Keeps-refl output)
unanswered a input output line (OfLines Lines.CannotWrite) l u = tt
unanswered a input output line (OfLines Lines.OutOfMemory) l u = tt

pub returns-in_err-text-clause-err : goal.returns-in_err-text-clause-err
returns-in_err-text-clause-err g c =
    let p = err_from_is_err_and c.from_residual-in_err-text.result c.from_residual-in_err-text.ensures.1 in
    rw (p.1, p.2) (elim c.in_err-text.ensures.err [
      | inl u ↦ unanswered c.args.showing _ _ c.as_slice.result.now c.in_err-text.field-0.0 (search rules) u
      | inr e ↦ rw e tt
    ])
