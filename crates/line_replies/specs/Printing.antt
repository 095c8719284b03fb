-- What an output gets for the lines of an input, by a relation of lines and texts: the answers or the replies to them.
use Rattle.std.specs.Prelude.{ℕ, ◌≡◌, ◌≢◌, Bool, true, false, List, [], ◌∷◌, ◌++◌, Option, IfSome, IsSomeAnd}
use Rattle.std.specs.Io.KnownBytes.{Appends, Keeps, IsAtEnd}
use Rattle.line_replies.specs.declared.fault.Fault.{Fault}
use Rattle.line_replies.specs.declared.fault.Fault.TheVariants.{CannotRead, CannotWrite, OutOfMemory}
use Rattle.line_replies.specs.Faults.{AppendsFront}
use Rattle.line_replies.specs.Lines.{IsLineOf, lines_of, TakesLine}

-- an output got the answer to the line of an input, and nothing else
pub record PrintsAnswer (IsAnswer : List ℕ → List ℕ → Type 0) (input before after : Option (List ℕ)) : Type 0 where
  pub line : List ℕ
  pub text : List ℕ
  pub is_line : IsLineOf input line
  pub is_answer : IsAnswer line text
  pub printed : Appends before after text

-- writing failed: an output got a front of the answer to the line of an input, and nothing else
pub record BreaksAnswer (IsAnswer : List ℕ → List ℕ → Type 0) (input before after : Option (List ℕ)) : Type 0 where
  pub line : List ℕ
  pub text : List ℕ
  pub is_line : IsLineOf input line
  pub is_answer : IsAnswer line text
  pub printed : AppendsFront before after text

-- the octets are the replies to some lines, one after another
abbrev pub AreReplies : (List ℕ → List ℕ → Type 0) → List (List ℕ) → List ℕ → Type 0
AreReplies IsReply [] octets = octets ≡ []
AreReplies IsReply (line ∷ lines) octets =
    (text rest : List ℕ) × IsReply line text × AreReplies IsReply lines rest × (octets ≡ text ++ rest)

-- an output got the replies to the lines of an input but for these last ones, and nothing else
pub record PrintsReplies (IsReply : List ℕ → List ℕ → Type 0) (input : Option (List ℕ)) (last : List (List ℕ))
    (before after : Option (List ℕ)) : Type 0 where
  pub lines : List (List ℕ)
  pub texts : List ℕ
  pub first : IfSome input (λ octets. lines_of octets ≡ lines ++ last)
  pub are_replies : AreReplies IsReply lines texts
  pub printed : Appends before after texts

-- an output got a front of the replies to the first lines of an input, and nothing else
pub record BreaksReplies (IsReply : List ℕ → List ℕ → Type 0) (input before after : Option (List ℕ)) : Type 0 where
  pub lines : List (List ℕ)
  pub last : List (List ℕ)
  pub texts : List ℕ
  pub first : IfSome input (λ octets. lines_of octets ≡ lines ++ last)
  pub are_replies : AreReplies IsReply lines texts
  pub printed : AppendsFront before after texts

-- Why not all lines of an input get their replies, and what the output got by then: no line ends the others' turns.
abbrev pub EndsReplies : (List ℕ → List ℕ → Type 0) → Option (List ℕ) → Option (List ℕ) → Option (List ℕ) → Fault
    → Type 0
EndsReplies IsReply input before after CannotRead =
    (last : List (List ℕ)) × PrintsReplies IsReply input last before after
EndsReplies IsReply input before after CannotWrite = BreaksReplies IsReply input before after
EndsReplies IsReply input before after OutOfMemory = BreaksReplies IsReply input before after
EndsReplies IsReply input before after _ = ⊥

-- the next line of an input was taken, and its reply printed
pub record PrintsNext (IsReply : List ℕ → List ℕ → Type 0) (input rest before after : Option (List ℕ)) : Type 0 where
  pub line : List ℕ
  pub text : List ℕ
  pub takes : TakesLine input rest line
  pub is_reply : IsReply line text
  pub printed : Appends before after text

-- what one turn does: where the input has a line, its reply is printed
abbrev pub TakesTurn : (List ℕ → List ℕ → Type 0) → Bool → Option (List ℕ) → Option (List ℕ) → Option (List ℕ)
    → Option (List ℕ) → Type 0
TakesTurn IsReply true input rest before after = PrintsNext IsReply input rest before after
TakesTurn IsReply false input rest before after = IsAtEnd input × Keeps before after

-- the first lines of an input were taken, this is left of it, and an output got their replies, and nothing else
pub record HasReplied (IsReply : List ℕ → List ℕ → Type 0) (input rest before after : Option (List ℕ)) : Type 0 where
  pub lines : List (List ℕ)
  pub texts : List ℕ
  pub first : IfSome input (λ octets. IsSomeAnd rest (λ left. lines_of octets ≡ lines ++ lines_of left))
  pub are_replies : AreReplies IsReply lines texts
  pub printed : Appends before after texts

-- what some turns do: they take at least one line, and an output gets the replies to all that they take; where there
-- are no more lines, it has got those to all
abbrev pub TakesTurns : (List ℕ → List ℕ → Type 0) → Bool → Option (List ℕ) → Option (List ℕ) → Option (List ℕ)
    → Option (List ℕ) → Type 0
TakesTurns IsReply true input rest before after =
    (replied : HasReplied IsReply input rest before after) × (replied.lines ≢ [])
TakesTurns IsReply false input rest before after = PrintsReplies IsReply input [] before after

-- why a turn fails, and what the output got by then
abbrev pub EndsTurn : Option (List ℕ) → Option (List ℕ) → Fault → Type 0
EndsTurn before after CannotRead = Keeps before after
EndsTurn before after OutOfMemory = Keeps before after
EndsTurn before after _ = ⊥
