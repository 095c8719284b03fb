-- SET { b [1] INTEGER, a [0] BOOLEAN }
use Rattle.std.specs.Prelude.{ℕ, Bool, List, [], ◌∷◌, Option, Some, ℤ}
use Rattle.rasn_below.specs.Values.{Value, truth, whole}
use Rattle.rasn_below.specs.Components.{Component, any, at, boolean, i128, integer, parts_of, under}
use Rattle.rasn_below.specs.Types.{Parts}

abbrev pub set_pair : List Component
set_pair = under (at 1) (integer i128 any) ∷ under (at 0) boolean ∷ []

abbrev pub set_pair_parts : ℕ → Parts
set_pair_parts = parts_of set_pair

abbrev pub set_pair_contents : ℤ → Bool → List (Option Value)
set_pair_contents b a = Some (whole b) ∷ Some (truth a) ∷ []
