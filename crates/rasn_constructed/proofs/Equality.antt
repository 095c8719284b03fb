-- A test of whether two values are one decides that they are.
use Rattle.std.proofs.Common.{◌≡◌, refl, Bool, true, false, ◌&&◌, ℕ, List, [], ◌∷◌}
use Rattle.std.specs.Bool.{Decides}
use Rattle.std.proofs.lemmas.Bool.{eq-eqb}
use Rattle.rasn_types.specs.Values.{Value, same, code, equal_lists}
use Rattle.rasn_types.proofs.Codes.{same_true}

equal_self : (xs : List ℕ) → equal_lists xs xs ≡ true
equal_self [] = refl
equal_self (x ∷ xs) = rw (eq-eqb x x refl) (equal_self xs)

same_self : (v : Value) → same v v ≡ true
unfolding same
same_self v = equal_self (code v)

pub same_decides : (v w : Value) → Decides (same v w) (v ≡ w)
same_decides v w = (same_true v w, λ e. rw e (same_self w))

-- two tests, one after the other
pub both_decide : {A : Type 0} {B : Type 0} {C : Type 0} (a b : Bool) → Decides a A → Decides b B → (A → B → C) → (C → A × B)
    → Decides (a && b) C
both_decide true b p q to of = (λ e. to (p.0 refl) (q.0 e), λ c. q.1 (of c).1)
both_decide false b p q to of = (λ e. absurd (cc), λ c. p.1 (of c).0)
