use Rattle.std.proofs.Common.{◌≡◌, ◌≤◌, ◌<◌, ℕ, [], length, map, get_or}
use Rattle.per_lines.specs.Types.{word_of}
use Rattle.per_lines.specs.Nearest.{edits}
use Rattle.per_lines.proofs.show_names.place_of_nearest.Given as goal

-- none of the names so far is nearer than the best one, which is that far
abbrev pub invariant-loop-place : goal.invariant-loop-place
invariant-loop-place l = (l.best < length l.fn.types)
    × (l.fewest ≡ edits (get_or (map word_of l.fn.types) l.best []) l.fn.word)
    × ((i : ℕ) → i < l.place → l.fewest ≤ edits (get_or (map word_of l.fn.types) i []) l.fn.word)
