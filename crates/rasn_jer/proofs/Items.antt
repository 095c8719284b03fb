-- The numbers of items.
use Rattle.std.proofs.Common.{◌≡◌, ℕ, ◌+◌, ◌∙◌, sym, true, false, ap, arith, subst, Bool, List, Result}
use Rattle.std.specs.Prelude.{IfOk}
use Rattle.rasn_types.specs.Values.{Value, item, root, added}
use Rattle.rasn_schema.specs.Enumerations.{IsItemAt, is_added}
use Rattle.rasn_jer.proofs.Writing.{over_ok}
use Rattle.rasn_jer.specs.Names.{item_by, number_of_item}
use Rattle.rasn_jer.specs.Shown.{ShowsJson}

root_number : (r e : ℕ) (v : Value) (i : ℕ) → IsItemAt r e v i → is_added v ≡ false → 0 + i ≡ number_of_item r v
root_number r e (item root j) i h d = omega (arith, h.0)
root_number r e (item added j) i h d = absurd cc
root_number r e _ i h d = absurd h

added_number : (r e : ℕ) (v : Value) (i : ℕ) → IsItemAt r e v i → is_added v ≡ true → r + i ≡ number_of_item r v
added_number r e (item root j) i h d = absurd cc
added_number r e (item added j) i h d = ap (λ (k : ℕ). r + k) h.0
added_number r e _ i h d = absurd h

-- a text that shows an item by its place shows it by its number
pub root_shown : {T E : Type 0} (text : Result T E) (items : T → List ℕ) (names : List (List ℕ)) (r e : ℕ) (v : Value) (i : ℕ) (b : Bool) → IsItemAt r e v i → b ≡ is_added v → b ≡ false
    → IfOk text (λ t. ShowsJson (item_by names (0 + i)) (items t)) → IfOk text (λ t. ShowsJson (item_by names (number_of_item r v)) (items t))
root_shown text items names r e v i b h d f s =
    over_ok text s (λ t k. subst (λ (n : ℕ). ShowsJson (item_by names n) (items t)) (root_number r e v i h (sym d ∙ f)) k)

pub added_shown : {T E : Type 0} (text : Result T E) (items : T → List ℕ) (names : List (List ℕ)) (r e : ℕ) (v : Value) (k i : ℕ) (b : Bool) → IsItemAt r e v i → b ≡ is_added v → b ≡ true → k ≡ r
    → IfOk text (λ t. ShowsJson (item_by names (k + i)) (items t)) → IfOk text (λ t. ShowsJson (item_by names (number_of_item r v)) (items t))
added_shown text items names r e v k i b h d f c s =
    over_ok text s (λ t w. subst (λ (n : ℕ). ShowsJson (item_by names n) (items t)) (ap (λ (j : ℕ). j + i) c ∙ added_number r e v i h (sym d ∙ f)) w)
