-- Characters of a text that a string type doesn't have.
use Rattle.std.specs.Prelude.{ℕ, ◌≡◌, true, false, List, take, Some, slice_get}
use Rattle.rasn_types.specs.Alphabets.{has, has_all}

-- the first character of a text that isn't one of a type's, and its index
abbrev pub IsFirstForeign : List ℕ → List ℕ → ℕ → ℕ → Type 0
IsFirstForeign own text character index = (slice_get text index ≡ Some character)
    × ((has own character ≡ false) × (has_all own (take index text) ≡ true))
