-- Why the program doesn't print what its words ask for, and what its output got by then.
use Rattle.std.specs.Prelude.{ℕ, ◌≡◌, ⊤, List, Option}
use Rattle.std.specs.Io.KnownBytes.{Keeps}
use Rattle.line_replies.specs.Lines.{IsLineOf}
use Rattle.line_replies.specs.Printing.{EndsReplies}
use Rattle.line_replies.specs.declared.fault.Fault.TheVariants.{CannotRead, CannotWrite, OutOfMemory}
use Rattle.per_lines.specs.Requests.{AskForNothing, request_words}
use Rattle.per_lines.specs.ShownLines.{IsReply, IsUnanswered}
use Rattle.per_lines.specs.declared.show_arguments.Extent.{Extent}
use Rattle.per_lines.specs.declared.show_arguments.Extent.TheVariants.{AllLines, FirstLine}
use Rattle.per_lines.specs.declared.show_arguments.Request.TheVariants.{Show}
use Rattle.per_lines.specs.declared.show_arguments.Showing.{Showing}
use Rattle.per_lines.specs.declared.show_fault.Fault.{Fault}
use Rattle.per_lines.specs.declared.show_fault.Fault.TheVariants.{WrongArguments, UnknownType, OfLines}

-- what words may be refused by: that they ask for nothing, or want of memory
abbrev pub IsOfWords : List (List ℕ) → Fault → Type 0
IsOfWords words WrongArguments = AskForNothing words
IsOfWords words (UnknownType nearest) = AskForNothing words
IsOfWords words (OfLines OutOfMemory) = ⊤
IsOfWords words _ = ⊥

-- what writing may be refused by
abbrev pub IsOfOutput : Fault → Type 0
IsOfOutput (OfLines CannotWrite) = ⊤
IsOfOutput (OfLines OutOfMemory) = ⊤
IsOfOutput _ = ⊥

-- why the line of an input has no answer that is printed
abbrev pub EndsAnswer : Showing → Option (List ℕ) → Option (List ℕ) → Option (List ℕ) → Fault → Type 0
EndsAnswer a input before after (OfLines CannotRead) = Keeps before after
EndsAnswer a input before after (OfLines CannotWrite) = ⊤
EndsAnswer a input before after (OfLines OutOfMemory) = ⊤
EndsAnswer a input before after fault =
    ((line : List ℕ) × IsLineOf input line × IsUnanswered a line fault) × Keeps before after

-- why not all lines of an input get their replies
abbrev pub EndsLines : Showing → Option (List ℕ) → Option (List ℕ) → Option (List ℕ) → Fault → Type 0
EndsLines a input before after (OfLines fault) = EndsReplies (IsReply a) input before after fault
EndsLines a input before after _ = ⊥

abbrev pub EndsIn : Extent → Showing → Option (List ℕ) → Option (List ℕ) → Option (List ℕ) → Fault → Type 0
EndsIn AllLines a input before after fault = EndsLines a input before after fault
EndsIn FirstLine a input before after fault = EndsAnswer a input before after fault

-- a fault comes only where it stands, and the output got this by then
abbrev pub Ends : List (List ℕ) → Option (List ℕ) → Option (List ℕ) → Option (List ℕ) → Fault → Type 0
Ends words input before after WrongArguments = AskForNothing words × Keeps before after
Ends words input before after (UnknownType nearest) = AskForNothing words × Keeps before after
Ends words input before after (OfLines CannotWrite) = ⊤
Ends words input before after (OfLines OutOfMemory) = ⊤
Ends words input before after fault =
    (a : Showing) × (words ≡ request_words (Show a)) × EndsIn a.extent a input before after fault
