-- An array of which one place is written, and those before it are kept.
use Rattle.std.proofs.Common.{arith, ◌≡◌, refl, ap, ℕ, zero, suc, ◌<◌, List, [], ◌∷◌, length, take, drop, slice_set}

head_is : {A : Type 0} (x y : A) (xs ys : List A) → x ∷ xs ≡ y ∷ ys → x ≡ y
head_is x y xs ys e = cc

tail_is : {A : Type 0} (x y : A) (xs ys : List A) → x ∷ xs ≡ y ∷ ys → xs ≡ ys
tail_is x y xs ys e = cc

-- what is before the place is as it was
pub kept_before : {A : Type 0} (i : ℕ) (xs ys : List A) (a : A) → take (suc i) xs ≡ take (suc i) (slice_set ys i a) → take i xs ≡ take i ys
kept_before zero xs ys a e = refl
kept_before (suc i) [] [] a e = refl
kept_before (suc i) [] (y ∷ ys) a e = absurd cc
kept_before (suc i) (x ∷ xs) [] a e = absurd cc
kept_before (suc i) (x ∷ xs) (y ∷ ys) a e =
    let t = kept_before i xs ys a (tail_is x y (take (suc i) xs) (take (suc i) (slice_set ys i a)) e) in
    rw (head_is x y (take (suc i) xs) (take (suc i) (slice_set ys i a)) e, t) refl

-- and at the place stands what was written
pub read_there : {A : Type 0} (i : ℕ) (xs ys : List A) (a : A) → i < length ys → take (suc i) xs ≡ take (suc i) (slice_set ys i a) → drop i xs ≡ a ∷ drop (suc i) xs
read_there i xs [] a h e = absurd (omega (arith, h))
read_there zero [] (y ∷ ys) a h e = absurd cc
read_there zero (x ∷ xs) (y ∷ ys) a h e = ap (λ z. z ∷ xs) (head_is x a [] [] e)
read_there (suc i) [] (y ∷ ys) a h e = absurd cc
read_there (suc i) (x ∷ xs) (y ∷ ys) a h e = read_there i xs ys a (omega (arith, h)) (tail_is x y (take (suc i) xs) (take (suc i) (slice_set ys i a)) e)

-- nothing is after the last place
pub none_after : {A : Type 0} (xs : List A) → drop (length xs) xs ≡ []
none_after [] = refl
none_after (x ∷ xs) = none_after xs
