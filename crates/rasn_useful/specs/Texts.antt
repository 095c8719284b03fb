-- The texts of OBJECT IDENTIFIERs.
use Rattle.std.specs.Prelude.{◌≡◌, ◌≢◌, ℕ, ◌^◌, nat_lt, ◌==◌, List, map, length, slice_index}
use Rattle.std.specs.Prelude.{Bool, true, not, ◌&&◌, ◌||◌}
use Rattle.std.specs.Fmt.{decimal}
use Rattle.std.specs.List.{list_all, slice_split}

-- what is in a text between its full stops
abbrev pub numbers_in : List ℕ → List (List ℕ)
numbers_in text = slice_split (λ c. c == 46) text

-- whether each number is below 2 ^ 32
abbrev pub are_held : List ℕ → Bool
are_held arcs = list_all (λ arc. nat_lt arc (2 ^ 32)) arcs

-- no arcs have this text
abbrev pub HasNoArcs : List ℕ → Type 0
HasNoArcs text = (arcs : List ℕ) → are_held arcs ≡ true → map decimal arcs ≢ numbers_in text

-- X.680 12.8: whether a text is something, begins with no sign, and with no zero unless it is that alone
abbrev pub begins_well : List ℕ → Bool
begins_well text = nat_lt 0 (length text) &&
    (not (slice_index text 0 == 43) && (not (slice_index text 0 == 48) || length text == 1))
