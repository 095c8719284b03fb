-- The name that is nearest to a word.
use Rattle.std.specs.Prelude.{ℕ, ◌≡◌, ◌≤◌, ◌<◌, List, [], length, get_or, map, nat_eq}
use Rattle.std.specs.Char.{to_ascii_lowercase}
use Rattle.std.specs.Str.{chars}
use Rattle.strsim.specs.Edits.{levenshtein_row}

-- the characters of a text, its letters in lower case
abbrev pub lowered : List ℕ → List ℕ
lowered text = chars (map to_ascii_lowercase text)

-- the fewest insertions, deletions and replacements of characters, in any case, that make one text of another
abbrev pub edits : List ℕ → List ℕ → ℕ
edits a b = levenshtein_row nat_eq (lowered a) (lowered b) (length (lowered b))

-- no name is nearer to a word than the one at a place
pub record IsNearest (names : List (List ℕ)) (word : List ℕ) (best : ℕ) : Type 0 where
  pub within : best < length names
  pub fewest : (i : ℕ) → i < length names → edits (get_or names best []) word ≤ edits (get_or names i []) word

-- a name that no other is nearer than to a word
pub record IsNearestName (names : List (List ℕ)) (word name : List ℕ) : Type 0 where
  pub best : ℕ
  pub is_nearest : IsNearest names word best
  pub found : name ≡ get_or names best []
