-- Line feeds before and after the first one.
use Rattle.std.specs.Prelude.{◌≡◌, ℕ, suc, ◌+◌, ◌<◌, Bool, true, false, not, cond, List, [], ◌∷◌, length, drop}
use Rattle.std.specs.List.{after_first, count_by, position_or_len, prefix_len, sum_by}
use Rattle.std.proofs.Common.{◌∙◌, ap, arith, refl, rules, sym, subst}
use Rattle.std.proofs.lemmas.Grind.{common_steps}

-- the first element counts where it passes
count_by-cons : {X : Type 0} (p : X → Bool) (x : X) (xs : List X) → count_by p (x ∷ xs) ≡ cond (p x) 1 0 + count_by p xs
count_by-cons p x xs = grind (arith, common_steps)

-- where the first element passes, the others are after it
position_first : {X : Type 0} (p : X → Bool) (x : X) (xs : List X) → p x ≡ true → position_or_len p (x ∷ xs) ≡ 0
position_first p x xs e = rw e refl

position_later : {X : Type 0} (p : X → Bool) (x : X) (xs : List X) → p x ≡ false
    → position_or_len p (x ∷ xs) ≡ 1 + position_or_len p xs
position_later p x xs e = rw e refl

count_at : {X : Type 0} (p : X → Bool) (x : X) (xs : List X) (b : Bool) → p x ≡ b
    → (position_or_len p xs < length xs → count_by p xs ≡ count_by p (after_first p xs) + 1)
    → position_or_len p (x ∷ xs) < length (x ∷ xs) → count_by p (x ∷ xs) ≡ count_by p (after_first p (x ∷ xs)) + 1
count_at p x xs true e more h =
    let counted = count_by-cons p x xs in
    let one : ◌≡◌ {A = ℕ} (cond (p x) 1 0) 1 = ap (λ b. cond b 1 0) e in
    let behind : after_first p (x ∷ xs) ≡ xs = ap (λ n. drop (n + 1) (x ∷ xs)) (position_first p x xs e) in
    let same : count_by p (after_first p (x ∷ xs)) ≡ count_by p xs = ap (count_by p) behind in
    omega (arith, counted, one, same)
count_at p x xs false e more h =
    let counted = count_by-cons p x xs in
    let none : ◌≡◌ {A = ℕ} (cond (p x) 1 0) 0 = ap (λ b. cond b 1 0) e in
    let later = position_later p x xs e in
    let place : position_or_len p (x ∷ xs) + 1 ≡ suc (position_or_len p xs + 1) = omega (arith, later) in
    let behind : after_first p (x ∷ xs) ≡ after_first p xs = ap (λ n. drop n (x ∷ xs)) place in
    let same : count_by p (after_first p (x ∷ xs)) ≡ count_by p (after_first p xs) = ap (count_by p) behind in
    let is_found : position_or_len p xs < length xs = omega (arith, later, h) in
    omega (arith, counted, none, same, more is_found)

-- where an element passes, one more passes than after the first that does
pub count_by-after_first : {X : Type 0} (p : X → Bool) (xs : List X) → position_or_len p xs < length xs
    → count_by p xs ≡ count_by p (after_first p xs) + 1
count_by-after_first p [] h = omega arith
count_by-after_first p (x ∷ xs) h = count_at p x xs (p x) refl (count_by-after_first p xs) h

none_at : {X : Type 0} (p : X → Bool) (x : X) (xs : List X) (b : Bool) → p x ≡ b
    → (position_or_len p xs ≡ length xs → count_by p xs ≡ 0) → position_or_len p (x ∷ xs) ≡ length (x ∷ xs)
    → count_by p (x ∷ xs) ≡ 0
none_at p x xs true e more h = omega (arith, h, position_first p x xs e)
none_at p x xs false e more h =
    let counted = count_by-cons p x xs in
    let none : ◌≡◌ {A = ℕ} (cond (p x) 1 0) 0 = ap (λ b. cond b 1 0) e in
    let is_none : position_or_len p xs ≡ length xs = omega (arith, h, position_later p x xs e) in
    omega (arith, counted, none, more is_none)

-- where none is found, none passes
pub count_by-none : {X : Type 0} (p : X → Bool) (xs : List X) → position_or_len p xs ≡ length xs → count_by p xs ≡ 0
count_by-none p [] h = refl
count_by-none p (x ∷ xs) h = none_at p x xs (p x) refl (count_by-none p xs) h
