-- What the program prints for its words and its input.
use Rattle.std.specs.Prelude.{ℕ, ◌≡◌, List, [], Option}
use Rattle.std.specs.Io.KnownBytes.{Appends}
use Rattle.line_replies.specs.Printing.{PrintsAnswer, PrintsReplies}
use Rattle.per_lines.specs.Requests.{request_words}
use Rattle.per_lines.specs.ShownLines.{IsAnswer, IsReply}
use Rattle.per_lines.specs.declared.show_arguments.Extent.{Extent}
use Rattle.per_lines.specs.declared.show_arguments.Extent.TheVariants.{AllLines, FirstLine}
use Rattle.per_lines.specs.declared.show_arguments.Request.{Request}
use Rattle.per_lines.specs.declared.show_arguments.Request.TheVariants.{Help, Show}
use Rattle.per_lines.specs.declared.show_arguments.Showing.{Showing}

-- the answer to the first line, or the replies to all
abbrev pub PrintsIn : Extent → Showing → Option (List ℕ) → Option (List ℕ) → Option (List ℕ) → Type 0
PrintsIn AllLines a input before after = PrintsReplies (IsReply a) input [] before after
PrintsIn FirstLine a input before after = PrintsAnswer (IsAnswer a) input before after

-- what a request asks for is printed; of its help it isn't said which text
abbrev pub PrintsFor : Request → Option (List ℕ) → Option (List ℕ) → Option (List ℕ) → Type 0
PrintsFor Help input before after = (text : List ℕ) × Appends before after text
PrintsFor (Show a) input before after = PrintsIn a.extent a input before after

-- an output got what the words and the input ask for, and nothing else
pub record Prints (words : List (List ℕ)) (input before after : Option (List ℕ)) : Type 0 where
  pub request : Request
  pub asked : words ≡ request_words request
  pub prints : PrintsFor request input before after
