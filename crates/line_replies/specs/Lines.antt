-- The lines of an input.
use Rattle.std.specs.Prelude.{ℕ, ◌≡◌, ◌≢◌, List, [], ◌∷◌, ◌==◌, if◌then◌else◌, Option, Some, IfSome, map}
use Rattle.std.specs.Io.BufRead.{first_piece, strip_last, drop_through}

-- the octets before the first line feed, or all, without a carriage return at their end
abbrev pub line_of : List ℕ → List ℕ
line_of input = strip_last 13 (first_piece 10 input)

-- the line of an input, where its octets are known
abbrev pub IsLineOf : Option (List ℕ) → List ℕ → Type 0
IsLineOf input line = IfSome input (λ octets. line ≡ line_of octets)

-- pieces, the first of which has one more octet in front
abbrev pub onto_first : ℕ → List (List ℕ) → List (List ℕ)
onto_first x [] = (x ∷ []) ∷ []
onto_first x (piece ∷ pieces) = (x ∷ piece) ∷ pieces

-- what is between line feeds; an end directly after a line feed adds nothing
abbrev pub pieces_of : List ℕ → List (List ℕ)
pieces_of [] = []
pieces_of (x ∷ xs) = if x == 10 then [] ∷ pieces_of xs else onto_first x (pieces_of xs)

-- all lines of an input, each without a carriage return at its end
abbrev pub lines_of : List ℕ → List (List ℕ)
lines_of input = map (strip_last 13) (pieces_of input)

-- an input has a line, the first one is this, and that is what is left of the input after it
pub record TakesLine (input rest : Option (List ℕ)) (line : List ℕ) : Type 0 where
  pub some : IfSome input (λ octets. octets ≢ [])
  pub is_line : IsLineOf input line
  pub left : IfSome input (λ octets. rest ≡ Some (drop_through 10 octets))
