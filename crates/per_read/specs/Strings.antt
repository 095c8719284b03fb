-- Characters and texts as they are read (X.691 30).
use Rattle.std.specs.Prelude.{◌≡◌, ◌<◌, ℕ, Bool, true, false, List, map, Some, slice_index_or}
use Rattle.rasn_types.specs.Alphabets.{Alphabet, char_code, has}
use Rattle.per_core.specs.SizeFaults.{HasUnknown}

-- the characters of the codes from 0 on, 0 where one is not known
pub record AreKnown (a : Alphabet) (known : List ℕ) : Type 0 where
  pub code : (i : ℕ) → 0 < slice_index_or known i 0 → char_code a.variant a.characters (slice_index_or known i 0)
      ≡ Some i
  pub permitted : (i : ℕ) → 0 < slice_index_or known i 0 → has a.characters (slice_index_or known i 0) ≡ true

-- codes are those of characters, or one of them has none
abbrev pub AreRead : Alphabet → Bool → List ℕ → List ℕ → Type 0
AreRead a false characters codes = map (char_code a.variant a.characters) characters ≡ map Some codes
AreRead a true characters codes = HasUnknown a.variant a.characters codes
