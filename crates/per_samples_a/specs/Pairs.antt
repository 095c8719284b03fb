-- SEQUENCE { a BOOLEAN, b INTEGER }
use Rattle.std.specs.Prelude.{ℕ, Bool, ℤ}
use Rattle.std.specs.Prelude.{List, [], ◌∷◌, Option, Some}
use Rattle.rasn_below.specs.Page.{Value, truth, whole, root_parts, automatic, boolean, integer, i128, any, TypeLists}
use Rattle.rasn_below.specs.Types.{Parts}

abbrev pub pair : TypeLists
pair = automatic (boolean ∷ integer i128 any ∷ [])

abbrev pub pair_parts : ℕ → Parts
pair_parts = root_parts pair

abbrev pub pair_contents : Bool → ℤ → List (Option Value)
pair_contents a b = Some (truth a) ∷ Some (whole b) ∷ []
