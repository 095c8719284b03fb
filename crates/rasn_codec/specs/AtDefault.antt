-- Whether a component is at its default.
use Rattle.std.specs.Prelude.{◌≡◌, ℕ, Bool, true, cond, ◌&&◌, List, [], ◌∷◌}
use Rattle.rasn_types.specs.Values.{Value, same}
use Rattle.rasn_schema.specs.Schemas.{Schema}
use Rattle.rasn_schema.specs.Normal.{normal, AtDepths}

-- a test of whether two values are one: at each depth that holds the first, its normal form is the second
abbrev pub TellsSame : (ℕ → Schema) → ℕ → Value → Value → Bool → Type 0
TellsSame schema k v d b = AtDepths schema k (λ s. b ≡ same (normal s v) d)

-- whether all characters are some of those that a test takes
abbrev pub are_all : (ℕ → Bool) → List ℕ → Bool
are_all takes [] = true
are_all takes (c ∷ cs) = takes c && are_all takes cs

-- the characters, where a test takes each, else none
abbrev pub kept : (ℕ → Bool) → List ℕ → List ℕ
kept takes cs = cond (are_all takes cs) cs []
