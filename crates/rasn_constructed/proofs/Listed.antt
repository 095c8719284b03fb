-- Lists of values that are one, and the SEQUENCE OF that has them as its elements.
use Rattle.std.proofs.Common.{◌≡◌, refl, sym, ap, ◌∙◌, ℕ, zero, suc, ◌≤◌, Bool, List, [], ◌∷◌, map, length, eqb, arith}
use Rattle.std.specs.Bool.{Decides}
use Rattle.std.proofs.lemmas.Bool.{ne_eqb}
use Rattle.std.proofs.lemmas.Bool.Decides.{same_from_decides}
use Rattle.rasn_types.specs.Values.{Value, elements, as_values, values, same}
use Rattle.rasn_types.proofs.Values.{values-as_values}
use Rattle.rasn_constraints.specs.Bounds.{Size}
use Rattle.rasn_schema.specs.Schemas.{Schema}
use Rattle.rasn_schema.specs.Lists.{list_at}
use Rattle.rasn_schema.specs.Structures.{list_value}
use Rattle.rasn_schema.specs.Normal.{normal}
use Rattle.rasn_constructed.specs.ListDefaults.{are_same}
use Rattle.rasn_constructed.proofs.Equality.{same_decides, both_decide}

are_same_decides : (vs ws : List Value) → Decides (are_same vs ws) (vs ≡ ws)
are_same_decides [] [] = (λ e. refl, λ e. refl)
are_same_decides [] (w ∷ ws) = (λ e. absurd (cc), λ e. absurd (cc))
are_same_decides (v ∷ vs) [] = (λ e. absurd (cc), λ e. absurd (cc))
are_same_decides (v ∷ vs) (w ∷ ws) = both_decide (same v w) (are_same vs ws) (same_decides v w) (are_same_decides vs ws) (λ e f. cc) (λ e. (cc, cc))

list_one : (vs ws : List Value) → list_value vs ≡ list_value ws → vs ≡ ws
list_one vs ws e = let h : as_values vs ≡ as_values ws = cc in sym (values-as_values vs) ∙ ap values h ∙ values-as_values ws

same_lists : (vs ws : List Value) → are_same vs ws ≡ same (list_value vs) (list_value ws)
same_lists vs ws = let d = same_decides (list_value vs) (list_value ws) in
    same_from_decides _ _ (are_same_decides vs ws) (λ e. list_one vs ws (d.0 e), λ e. d.1 (ap list_value e))

-- of a SEQUENCE OF at a depth that holds it
pub told_list : (element : ℕ → Schema) (size : Size) (mark : Bool) (k : ℕ) (vs ds : List Value) (b : Bool)
    → ((n : ℕ) → k ≤ n → b ≡ are_same (map (normal (element n)) vs) ds) → (n : ℕ) → suc k ≤ n
    → b ≡ same (normal (list_at element size mark n) (list_value vs)) (list_value ds)
unfolding normal
told_list element size mark k vs ds b h zero le = absurd (omega arith)
told_list element size mark k vs ds b h (suc n) le = h n (omega arith) ∙ same_lists (map (normal (element n)) vs) ds
    ∙ ap (λ ws. same (list_value (map (normal (element n)) ws)) (list_value ds)) (sym (values-as_values vs))

-- of a list that is to have no elements
pub told_none : {A : Type 0} (value : A → Value) (s : Schema) (xs : List A) → eqb (length xs) 0 ≡ are_same (map (normal s) (map value xs)) []
told_none value s [] = refl
told_none value s (x ∷ xs) = ne_eqb (suc (length xs)) 0 (λ e. omega arith)
