-- Numbers that stand so far above a bound that no `i128` holds them.
use Rattle.std.proofs.Common.{◌≡◌, refl, subst, ℕ, suc, ◌+◌, ◌-◌, ◌^◌, ◌<◌, ◌≤◌, ◌⊎◌, arith, inl, inr, ℤ, pos, negsuc, ◌+ℤ◌, FitsSigned, le-leb}
use Rattle.std.proofs.lemmas.Bool.{cases_lt}
use Rattle.std.proofs.lemmas.Int.{ints}
use Rattle.std.specs.Int.{w128}
use Rattle.per_read.specs.Numbers.{IsAbove}

-- 2 ^ 128 and more above a number that an i128 holds
pub far_above : (l : ℤ) (o : ℕ) → FitsSigned w128 l → 2 ^ 128 ≤ o → (n : ℕ) × (2 ^ 127 ≤ n) × IsAbove l o (pos n)
far_above (pos l) o f h = (l + o, omega arith, (le-leb l (l + o) (omega arith), omega arith))
far_above (negsuc l) o f h = let k : l < 2 ^ 127 = f.sfits in (o - suc l, omega arith, (refl, omega arith))

-- and less, where their sum passes it
pub too_far_above : (l : ℤ) (o : ℕ) → FitsSigned w128 l → ¬ FitsSigned w128 (l +ℤ pos o) → (n : ℕ) × (2 ^ 127 ≤ n) × IsAbove l o (pos n)
too_far_above (pos l) o f h = elim (cases_lt (l + o) (2 ^ 127)) [
  | inl k ↦ absurd (h (record { sfits = k }))
  | inr k ↦ (l + o, k, (le-leb l (l + o) (omega arith), omega arith))
]
too_far_above (negsuc l) o f h = elim (cases_lt o (suc l + 2 ^ 127)) [
  | inl k ↦ absurd (h (small k (cases_lt l o)))
  | inr k ↦ (o - suc l, omega arith, (refl, omega arith))
]
  where
    small : o < suc l + 2 ^ 127 → (l < o) ⊎ (o ≤ l) → FitsSigned w128 (negsuc l +ℤ pos o)
    small k (inl x) = let e : pos (o - suc l) ≡ negsuc l +ℤ pos o = omega (arith, ints) in subst (λ z. FitsSigned w128 z) e (record { sfits = omega arith })
    small k (inr x) = let e : negsuc (l - o) ≡ negsuc l +ℤ pos o = omega (arith, ints) in
        let i : l < 2 ^ 127 = f.sfits in subst (λ z. FitsSigned w128 z) e (record { sfits = omega arith })
