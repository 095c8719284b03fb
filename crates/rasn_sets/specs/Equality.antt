-- Bags are equal where each member stands as often in the one as in the other (ITU-T X.680, 28).
use Rattle.std.specs.Prelude.{ℕ, suc, Bool, List, [], ◌∷◌, ◌&&◌, ◌==◌, if◌then◌else◌}
use Rattle.std.specs.List.{list_all}

-- how often a member is in a list
abbrev pub times : {K : Type 0} → (K → K → Bool) → K → List K → ℕ
times eq q [] = 0
times eq q (x ∷ xs) = if eq q x then suc (times eq q xs) else times eq q xs

-- whether each of these members is in the one list as often as in the other
abbrev pub stand_alike : {K : Type 0} → (K → K → Bool) → List K → List K → List K → Bool
stand_alike eq xs ys = list_all (λ q. times eq q xs == times eq q ys)

-- whether each member is in the one list as often as in the other
abbrev pub same_bag : {K : Type 0} → (K → K → Bool) → List K → List K → Bool
same_bag eq xs ys = stand_alike eq xs ys xs && stand_alike eq xs ys ys
