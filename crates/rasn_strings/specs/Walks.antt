-- Walks over ascending numbers.
use Rattle.std.specs.Prelude.{ℕ, ◌+◌, Bool, true, ◌&&◌, if◌then◌else◌, nat_le, nat_lt, List, [], ◌∷◌}

-- ascending numbers without those below n
abbrev pub from_on : ℕ → List ℕ → List ℕ
from_on n [] = []
from_on n (x ∷ xs) = if nat_lt x n then from_on n xs else x ∷ xs

-- whether numbers ascend strictly from n on
abbrev pub rises_from : ℕ → List ℕ → Bool
rises_from n [] = true
rises_from n (x ∷ xs) = nat_le n x && rises_from (x + 1) xs
