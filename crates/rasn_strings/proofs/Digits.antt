-- Decimal digits.
use Rattle.std.proofs.Common.{◌≡◌, refl, sym, ap, ◌∙◌, ℕ, zero, suc, ◌+◌, ◌-◌, ◌*◌, ◌<◌, ◌≤◌, Bool, true, false, ◌&&◌, leb, List, [], ◌∷◌, length, take, get_or, arith, true≢false, leb-true}
use Rattle.std.proofs.lemmas.List.{drop_more}
use Rattle.rasn_types.specs.Contents.{are_digits, decimal_from, two}

pub both_left : (a b : Bool) → (a && b) ≡ true → a ≡ true
both_left true b e = refl
both_left false b e = e

pub both_right : (a b : Bool) → (a && b) ≡ true → b ≡ true
both_right true b e = e
both_right false b e = absurd (true≢false (sym e))

-- each of the characters is a digit
pub digit_at : (cs : List ℕ) (i : ℕ) → are_digits cs ≡ true → i < length cs → (48 ≤ get_or cs i 0) × (get_or cs i 0 ≤ 57)
digit_at [] i h l = absurd (omega arith)
digit_at (c ∷ cs) zero h l = (leb-true 48 c (both_left (leb 48 c) _ h), leb-true c 57 (both_left (leb c 57) _ (both_right (leb 48 c) _ h)))
digit_at (c ∷ cs) (suc i) h l = digit_at cs i (both_right (leb c 57) _ (both_right (leb 48 c) _ h)) (omega arith)

-- the number of two digits
pub two-is : (cs : List ℕ) (i : ℕ) → i + 2 ≤ length cs → two i cs ≡ 10 * (get_or cs i 0 - 48) + (get_or cs (i + 1) 0 - 48)
two-is cs i h = ap (λ xs. decimal_from 0 (take 2 xs)) (drop_more cs i 0 (omega arith) ∙ ap (λ xs. get_or cs i 0 ∷ xs) (drop_more cs (i + 1) 0 (omega arith))) ∙ omega arith
