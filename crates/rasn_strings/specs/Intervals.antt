-- Alphabets as intervals of characters (this project's choice).
use Rattle.std.specs.Prelude.{ℕ, ◌+◌, ◌-◌, ◌^◌, Bool, true, nat_le, nat_lt, ◌&&◌, List, [], ◌∷◌, ◌++◌}
use Rattle.rasn_types.specs.Alphabets.{interval_of}
use Rattle.rasn_strings.specs.declared.intervals.Interval.{Interval}

-- the characters from the first to the last, both included
abbrev pub characters_of : Interval → List ℕ
characters_of i = interval_of (i.last + 1 - i.first) i.first

-- the characters of intervals, one interval after another
abbrev pub expand : List Interval → List ℕ
expand [] = []
expand (i ∷ is) = characters_of i ++ expand is

-- whether each interval has a character, and all characters ascend from n on and are below 2 ^ 16
abbrev pub ascend_from : ℕ → List Interval → Bool
ascend_from n [] = true
ascend_from n (i ∷ is) = nat_le n i.first && (nat_le i.first i.last &&
    (nat_lt i.last (2 ^ 16) && ascend_from (i.last + 1) is))

-- whether each of some characters is within an interval
abbrev pub all_within : Interval → List ℕ → Bool
all_within i [] = true
all_within i (c ∷ cs) = (nat_le i.first c && nat_le c i.last) && all_within i cs
