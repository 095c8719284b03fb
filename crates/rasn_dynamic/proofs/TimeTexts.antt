-- The text of a time has at most 25 characters, each an octet.
use Rattle.std.proofs.Common.{◌≡◌, refl, sym, ap, ◌∙◌, ℕ, zero, suc, ◌+◌, ◌<◌, ◌≤◌, Bool, true, false, cond, ◌&&◌, ◌||◌, not, ltb, leb, List, [], ◌∷◌, length, take, drop, get_or, arith, leb-true, lt-ltb, ltb-true, eqb-true, subst}
use Rattle.std.specs.Prelude.{nat_lt, nat_le, ◌==◌}
use Rattle.rasn_types.specs.Contents.{TimeKind, are_digits, ends_well, is_fraction, is_time, is_z}
use Rattle.rasn_schema.proofs.Places.{and_first, and_second}

-- at most so many characters, each an octet
abbrev few : ℕ → List ℕ → Bool
few n [] = true
few zero (c ∷ cs) = false
few (suc n) (c ∷ cs) = nat_lt c 256 && few n cs

few_more : (n c : ℕ) (cs : List ℕ) → c < 256 → few n cs ≡ true → few (suc n) (c ∷ cs) ≡ true
few_more n c cs l h = rw (lt-ltb c 256 l) h

few_digits : (n m : ℕ) (cs : List ℕ) → are_digits (take n cs) ≡ true → few m (drop n cs) ≡ true → few (n + m) cs ≡ true
few_digits zero m cs d h = subst (λ k. few k cs ≡ true) (let e : m ≡ 0 + m = omega arith in e) h
few_digits (suc n) m [] d h = refl
few_digits (suc n) m (c ∷ cs) d h =
    let rest : (nat_le c 57 && are_digits (take n cs)) ≡ true = and_second (nat_le 48 c) _ d in
    let l = leb-true c 57 (and_first (nat_le c 57) (are_digits (take n cs)) rest) in
    let behind = few_digits n m cs (and_second (nat_le c 57) (are_digits (take n cs)) rest) h in
    subst (λ k. few k (c ∷ cs) ≡ true) (let e : suc (n + m) ≡ suc n + m = omega arith in e) (few_more (n + m) c cs (omega (arith, l)) behind)

few_z : (n : ℕ) (cs : List ℕ) → is_z cs ≡ true → few (suc n) cs ≡ true
few_z n [] h = refl
few_z n (c ∷ []) h = let e : c ≡ 90 = eqb-true c 90 h in few_more n c [] (omega (arith, e)) refl
few_z n (c ∷ d ∷ cs) h = absurd cc

few_tail : (b z w : Bool) (n : ℕ) (cs : List ℕ) → (z ≡ true → few n cs ≡ true) → (w ≡ true → few n cs ≡ true) → ((b && z) || w) ≡ true → few n cs ≡ true
few_tail true true w n cs f g h = f refl
few_tail true false w n cs f g h = g h
few_tail false z w n cs f g h = g h

few_ends : (n : ℕ) (cs : List ℕ) → ends_well n cs ≡ true → few (suc n) cs ≡ true
few_ends n [] h = refl
few_ends zero (c ∷ cs) h = absurd cc
few_ends (suc n) (c ∷ cs) h =
    let rest : (nat_le c 57 && ((not (c == 48) && is_z cs) || ends_well n cs)) ≡ true = and_second (nat_le 48 c) _ h in
    let l = leb-true c 57 (and_first (nat_le c 57) ((not (c == 48) && is_z cs) || ends_well n cs) rest) in
    let behind = few_tail (not (c == 48)) (is_z cs) (ends_well n cs) (suc n) cs (few_z n cs) (few_ends n cs) (and_second (nat_le c 57) ((not (c == 48) && is_z cs) || ends_well n cs) rest) in
    few_more (suc n) c cs (omega (arith, l)) behind

few_point : (c : ℕ) (cs : List ℕ) (b w : Bool) → (c == 46) ≡ b → (w ≡ true → few 10 cs ≡ true) → (b && w) ≡ true → few 11 (c ∷ cs) ≡ true
few_point c cs true w e f h = let i : c ≡ 46 = eqb-true c 46 e in few_more 10 c cs (omega (arith, i)) (f h)
few_point c cs false w e f h = absurd cc

few_fraction : (cs : List ℕ) → is_fraction cs ≡ true → few 11 cs ≡ true
few_fraction [] h = refl
few_fraction (c ∷ cs) h =
    few_tail (c == 90) (is_z (c ∷ cs)) ((c == 46) && ends_well 9 cs) 11 (c ∷ cs) (few_z 10 (c ∷ cs)) (few_point c cs (c == 46) (ends_well 9 cs) refl (few_ends 9 cs)) h

time_few : (kind : TimeKind) (cs : List ℕ) → is_time kind cs ≡ true → few 25 cs ≡ true
unfolding is_time
time_few TimeKind.utc cs h =
    let rest = and_second (nat_le 12 (length cs)) _ h in
    few_digits 12 13 cs (and_first (are_digits (take 12 cs)) _ rest) (few_z 12 (drop 12 cs) (and_first (is_z (drop 12 cs)) _ (and_second (are_digits (take 12 cs)) _ rest)))
time_few TimeKind.generalized cs h =
    let rest = and_second (nat_le 14 (length cs)) _ h in
    few_digits 14 11 cs (and_first (are_digits (take 14 cs)) _ rest) (few_fraction (drop 14 cs) (and_first (is_fraction (drop 14 cs)) _ (and_second (are_digits (take 14 cs)) _ rest)))

few_count : (n : ℕ) (cs : List ℕ) → few n cs ≡ true → length cs ≤ n
few_count n [] h = omega arith
few_count zero (c ∷ cs) h = absurd cc
few_count (suc n) (c ∷ cs) h = let l = few_count n cs (and_second (nat_lt c 256) (few n cs) h) in omega (arith, l)

few_at : (n : ℕ) (cs : List ℕ) (i : ℕ) → few n cs ≡ true → i < length cs → get_or cs i 0 < 256
few_at n [] i h l = absurd (omega (arith, l))
few_at zero (c ∷ cs) i h l = absurd cc
few_at (suc n) (c ∷ cs) zero h l = ltb-true c 256 (and_first (nat_lt c 256) (few n cs) h)
few_at (suc n) (c ∷ cs) (suc i) h l = few_at n cs i (and_second (nat_lt c 256) (few n cs) h) (omega (arith, l))

-- characters that are too many, or of which one isn't an octet, are no text of a time
not_few : (kind : TimeKind) (cs : List ℕ) → (few 25 cs ≡ true → ⊥) → is_time kind cs ≡ false
not_few kind cs n = go (is_time kind cs) refl
  where
    go : (b : Bool) → is_time kind cs ≡ b → is_time kind cs ≡ false
    go true e = absurd (n (time_few kind cs e))
    go false e = e

pub too_many : (kind : TimeKind) (cs : List ℕ) → 25 < length cs → is_time kind cs ≡ false
too_many kind cs l = not_few kind cs (λ h. let m = few_count 25 cs h in absurd (omega (arith, l, m)))

pub no_octet : (kind : TimeKind) (cs : List ℕ) (i : ℕ) → i < length cs → 255 < get_or cs i 0 → is_time kind cs ≡ false
no_octet kind cs i l g = not_few kind cs (λ h. let m = few_at 25 cs i h l in absurd (omega (arith, g, m)))
