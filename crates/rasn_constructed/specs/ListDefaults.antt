-- Whether values are those of a default, one for one.
use Rattle.std.specs.Prelude.{◌≡◌, ℕ, Bool, true, false, ◌&&◌, List, [], ◌∷◌, map}
use Rattle.rasn_types.specs.Values.{Value, same}
use Rattle.rasn_schema.specs.Schemas.{Schema}
use Rattle.rasn_schema.specs.Normal.{normal, AtDepths}

-- whether two lists of values are one
abbrev pub are_same : List Value → List Value → Bool
are_same [] [] = true
are_same [] (w ∷ ws) = false
are_same (v ∷ vs) [] = false
are_same (v ∷ vs) (w ∷ ws) = same v w && are_same vs ws

-- a test of whether elements are those of a default: at each depth that holds them, their normal forms are these
pub record TellsElements (schema : ℕ → Schema) (k : ℕ) (vs ds : List Value) (b : Bool) : Type 0 where
  pub at : AtDepths schema k (λ s. b ≡ are_same (map (normal s) vs) ds)
