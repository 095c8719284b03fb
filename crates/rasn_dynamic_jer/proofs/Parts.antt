-- The parts of arrays and objects.
use Rattle.std.proofs.Common.{◌≡◌, refl, ap, ℕ, suc, Bool, ◌&&◌, List, [], ◌∷◌, map, length, Option, Some, None}
use Rattle.std.specs.Borrow.{Bor}
use Rattle.std.specs.List.{list_all}
use Rattle.rasn_types.specs.AllOf.{all_of, joined}
use Rattle.json.specs.Json.{Json}
use Rattle.json.specs.Strict.{keys}
use Rattle.json.specs.Value.{items_view, members_view, value_view}
use Rattle.json.specs.declared.value.Value.{Value as Tree}
use Rattle.rasn_dynamic_jer.specs.FromJson.{items_told}
use Rattle.rasn_types.specs.Values.{Value}

-- values by the items of an array
pub items_each : {A : Type 0} (f : Json → Option Value) (vs : List (Tree A)) → items_told f (items_view vs) ≡ all_of (λ x. f (value_view x)) vs
items_each f [] = refl
items_each f (v ∷ vs) = ap (joined (f (value_view v))) (items_each f vs)

-- a test of all names of members
pub keys_all : {A : Type 0} (test : List ℕ → Bool) (ms : List (Bor (List ℕ) × Tree A)) → list_all (λ m. test m.0.now) ms ≡ list_all test (keys (members_view ms))
keys_all test [] = refl
keys_all test (m ∷ ms) = ap (λ b. test m.0.now && b) (keys_all test ms)

-- how many members there are
pub keys_count : {A : Type 0} (ms : List (Bor (List ℕ) × Tree A)) → length (keys (members_view ms)) ≡ length ms
keys_count [] = refl
keys_count (m ∷ ms) = ap suc (keys_count ms)
