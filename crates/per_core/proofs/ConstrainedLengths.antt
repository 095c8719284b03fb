-- Which counts are written as constrained whole numbers (X.691 11.9.4.1).
use Rattle.std.proofs.Common.{◌≡◌, ◌∙◌, ◌<◌, ◌≤◌, ◌⊎◌, inl, inr, ℕ, ltb, Bool, true, false, cond, refl, sym, ap, arith, Option, Some, None}
use Rattle.std.proofs.lemmas.Bool.{cases_lt, lt-ltb, ltb-true}
use Rattle.per_core.specs.Counts.{constrained_between}

-- both bounds are there, and the upper one is below 65536
pub record IsConstrained (l u : Option ℕ) (lb ub : ℕ) : Type 0 where
  pub lower : l ≡ Some lb
  pub upper : u ≡ Some ub
  pub few : ub < 65536

pub constrained_is : (l u : Option ℕ) (lb ub : ℕ) → constrained_between l u ≡ Some (lb, ub) → IsConstrained l u lb ub
constrained_is None u lb ub e = absurd cc
constrained_is (Some l) None lb ub e = absurd cc
constrained_is (Some l) (Some u) lb ub e = go (ltb u 65536) refl e
  where
    go : (b : Bool) → ltb u 65536 ≡ b → cond {A = Option (ℕ × ℕ)} b (Some (l, u)) None ≡ Some (lb, ub) → IsConstrained (Some l) (Some u) lb ub
    go true h i =
        let bounds : ℕ × ℕ = (l, u) in
        let j : bounds ≡ (lb, ub) = cc in
        let k : u ≡ ub = ap (λ (z : ℕ × ℕ). z.1) j in
        record { lower = ap (λ (z : ℕ × ℕ). Some z.0) j; upper = ap Some k; few = omega (arith, ltb-true u 65536 h, k) }
    go false h i = absurd cc

-- or they aren't
abbrev pub IsFree : Option ℕ → Option ℕ → Type 0
IsFree None u = Unit {0}
IsFree (Some l) None = Unit {0}
IsFree (Some l) (Some u) = 65536 ≤ u

pub free_is : (l u : Option ℕ) → constrained_between l u ≡ None → IsFree l u
free_is None u e = tt
free_is (Some l) None e = tt
free_is (Some l) (Some u) e = go (cases_lt u 65536)
  where
    go : (u < 65536) ⊎ (65536 ≤ u) → 65536 ≤ u
    go (inl h) = let i : cond {A = Option (ℕ × ℕ)} true (Some (l, u)) None ≡ None = ap (λ b. cond {A = Option (ℕ × ℕ)} b (Some (l, u)) None) (sym (lt-ltb u 65536 h)) ∙ e in absurd cc
    go (inr h) = h
