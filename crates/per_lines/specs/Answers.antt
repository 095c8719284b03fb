-- What the program answers to its words and its input.
use Rattle.std.specs.Prelude.{ℕ, ◌≡◌, ◌≢◌, ◌⊎◌, List, [], ◌∷◌, ◌++◌, Option, Ok, codes}
use Rattle.std.specs.Io.KnownBytes.{Keeps}
use Rattle.per_core.specs.Rows.{variant_of}
use Rattle.hex.specs.Hex.{decode_of, encode_lower}
use Rattle.per_lines.specs.declared.arguments.Form.{Form}
use Rattle.per_lines.specs.declared.arguments.Form.TheVariants.{OneLine, Lines, Zero, As}
use Rattle.per_lines.specs.declared.arguments.Arguments.{Arguments}
use Rattle.line_replies.specs.declared.fault.Fault.{Fault}
use Rattle.line_replies.specs.declared.fault.Fault.TheVariants.{WrongArguments, CannotRead, BadHexadecimal, Decode}
use Rattle.line_replies.specs.declared.fault.Fault.TheVariants.{Encode, CannotWrite, OutOfMemory}
use Rattle.per_lines.specs.Words.{words_of}
use Rattle.line_replies.specs.Faults.{text_of}
use Rattle.line_replies.specs.Lines.{IsLineOf}
use Rattle.line_replies.specs.Printing.{BreaksAnswer, PrintsAnswer, PrintsReplies, EndsReplies}
use Rattle.per_lines.specs.Recoding.{Converts, IsUnconverted}

-- the words ask for nothing that the program can do
abbrev pub AreUnknown : List (List ℕ) → Type 0
AreUnknown words = (a : Arguments) → words ≢ words_of a

-- the words ask for this, and for nothing else
pub record AskFor (words : List (List ℕ)) (a : Arguments) : Type 0 where
  pub asked : words ≡ words_of a
  pub only : (b : Arguments) → words ≡ words_of b → b ≡ a

-- The text is the answer to a line: the canonical octets that its octets are converted to, in lower-case hexadecimal,
-- and a line feed.
pub record Answers (a : Arguments) (line text : List ℕ) : Type 0 where
  pub octets : List ℕ
  pub canonical : List ℕ
  pub hexadecimal : decode_of line ≡ Ok octets
  pub converted : Converts (variant_of a.codec) a.type_name a.form octets canonical
  pub is_text : text ≡ encode_lower canonical ++ 10 ∷ []

-- the text is the answer to a line, and there is no other
pub record IsAnswer (a : Arguments) (line text : List ℕ) : Type 0 where
  pub answers : Answers a line text
  pub only : (other : List ℕ) → Answers a line other → other ≡ text

-- the octets of a line are refused, or what they are written as
pub record AreRefused (a : Arguments) (line : List ℕ) (fault : Fault) : Type 0 where
  pub octets : List ℕ
  pub hexadecimal : decode_of line ≡ Ok octets
  pub refused : IsUnconverted (variant_of a.codec) a.type_name a.form octets fault

-- why a line has no answer: it is not pairs of hexadecimal digits, or its octets are refused
abbrev pub IsUnanswered : Arguments → List ℕ → Fault → Type 0
IsUnanswered a line BadHexadecimal = (octets : List ℕ) → decode_of line ≢ Ok octets
IsUnanswered a line (Decode kind) = AreRefused a line (Decode kind)
IsUnanswered a line (Encode kind) = AreRefused a line (Encode kind)
IsUnanswered a line _ = ⊥

-- `! `, why a line has no answer, and a line feed
abbrev pub refusal_of : Fault → List ℕ
refusal_of fault = codes "! " ++ text_of fault ++ 10 ∷ []

-- the text is the reply to a line: its answer, or why it has none
abbrev pub IsReply : Arguments → List ℕ → List ℕ → Type 0
IsReply a line text = IsAnswer a line text ⊎ ((fault : Fault) × IsUnanswered a line fault × (text ≡ refusal_of fault))

abbrev pub PrintsIn : Form → Arguments → Option (List ℕ) → Option (List ℕ) → Option (List ℕ) → Type 0
PrintsIn OneLine a input before after = PrintsAnswer (IsAnswer a) input before after
PrintsIn Lines a input before after = PrintsReplies (IsReply a) input [] before after
PrintsIn Zero a input before after = PrintsAnswer (IsAnswer a) input before after
PrintsIn (As other) a input before after = PrintsAnswer (IsAnswer a) input before after

-- an output got what the words and the input ask for, and nothing else
pub record Prints (words : List (List ℕ)) (input before after : Option (List ℕ)) : Type 0 where
  pub arguments : Arguments
  pub ask : AskFor words arguments
  pub prints : PrintsIn arguments.form arguments input before after

-- Why an input's one line is not answered, and what the output got by then: nothing, or a front of the answer where
-- writing failed, also for want of memory. Reading may fail at any input, and memory may run out.
abbrev pub EndsAnswer : Arguments → Option (List ℕ) → Option (List ℕ) → Option (List ℕ) → Fault → Type 0
EndsAnswer a input before after WrongArguments = ⊥
EndsAnswer a input before after CannotRead = Keeps before after
EndsAnswer a input before after CannotWrite = BreaksAnswer (IsAnswer a) input before after
EndsAnswer a input before after OutOfMemory = Keeps before after ⊎ BreaksAnswer (IsAnswer a) input before after
EndsAnswer a input before after fault = ((line : List ℕ) × IsLineOf input line × IsUnanswered a line fault)
    × Keeps before after

abbrev pub EndsIn : Form → Arguments → Option (List ℕ) → Option (List ℕ) → Option (List ℕ) → Fault → Type 0
EndsIn OneLine a input before after fault = EndsAnswer a input before after fault
EndsIn Lines a input before after fault = EndsReplies (IsReply a) input before after fault
EndsIn Zero a input before after fault = EndsAnswer a input before after fault
EndsIn (As other) a input before after fault = EndsAnswer a input before after fault

-- a fault comes only where it stands, and the output got this by then
abbrev pub Ends : List (List ℕ) → Option (List ℕ) → Option (List ℕ) → Option (List ℕ) → Fault → Type 0
Ends words input before after WrongArguments = AreUnknown words × Keeps before after
Ends words input before after fault = (a : Arguments) × AskFor words a × EndsIn a.form a input before after fault
