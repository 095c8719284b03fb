-- A character that isn't one of a type's.
use Rattle.std.proofs.Common.{◌≡◌, ◌∙◌, refl, ap, ℕ, zero, suc, Bool, true, false, ◌&&◌, List, [], ◌∷◌, Option, Some}
use Rattle.std.specs.Prelude.{slice_get}
use Rattle.rasn_types.specs.Alphabets.{has, has_all}

and_false : (a b : Bool) → b ≡ false → (a && b) ≡ false
and_false true b e = e
and_false false b e = refl

pub foreign_one : (own cs : List ℕ) (i c : ℕ) → slice_get cs i ≡ Some c → has own c ≡ false → has_all own cs ≡ false
foreign_one own [] i c e h = absurd cc
foreign_one own (d ∷ cs) zero c e h = let q : d ≡ c = cc in ap (λ b. b && has_all own cs) (ap (has own) q ∙ h)
foreign_one own (d ∷ cs) (suc i) c e h = and_false (has own d) (has_all own cs) (foreign_one own cs i c e h)
