-- The lines of a text.
use Rattle.std.specs.Prelude.{ℕ, ◌==◌, ◌+◌, ◌≤◌, List}
use Rattle.std.specs.List.{count_by}

-- how many line feeds a text has
abbrev pub line_feeds : List ℕ → ℕ
line_feeds text = count_by (λ octet. octet == 10) text

-- the number of one of so many lines, from 1
pub record IsAmong (lines number : ℕ) : Type 0 where
  pub from_one : 1 ≤ number
  pub to_last : number ≤ lines

-- the number of a line of a text: of one that ends with a line feed, or of what is after the last one
abbrev pub IsLineOf : List ℕ → ℕ → Type 0
IsLineOf text number = IsAmong (line_feeds text + 1) number
