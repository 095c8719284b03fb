-- The first column of a line, and lines without a message.
use Rattle.std.specs.Prelude.{ℕ, ◌+◌, ◌==◌, ◌||◌, Bool, true, false, List, length, take, drop, Option, Some, None}
use Rattle.std.specs.Prelude.{position}

-- a blank or a tab
abbrev pub is_blank : ℕ → Bool
is_blank c = c == 32 || c == 9

-- after an index in a line, or at the line's end
abbrev pub behind : List ℕ → Option ℕ → ℕ
behind line None = length line
behind line (Some k) = k + 1

-- where a line's first column ends, with the first blank or tab, where one is asked for
abbrev pub column_end : Bool → List ℕ → ℕ
column_end false line = 0
column_end true line = behind line (position is_blank line)

-- a line's first column, where one is asked for
abbrev pub column_of : Bool → List ℕ → List ℕ
column_of has_column line = take (column_end has_column line) line

-- what is after it
abbrev pub text_of : Bool → List ℕ → List ℕ
text_of has_column line = drop (column_end has_column line) line
