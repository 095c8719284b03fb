-- The characters MMDDhhmmss.
use Rattle.std.proofs.Common.{◌≡◌, refl, ap₂, ℕ, ◌+◌, ◌-◌, ◌*◌, ◌/◌, ◌%◌, ◌<◌, true, ◌&&◌, leb, List, [], ◌∷◌, ◌++◌, length, get_or, ℤ, pos, arith, leb-true, le-leb}
use Rattle.rasn_types.specs.Contents.{are_digits, decimal_from, is_moment}
use Rattle.jiff.specs.Types.{DateTime}
use Rattle.rasn_strings.specs.Moments.{two_digits, month_to_second, IsMomentOf}
use Rattle.rasn_strings.proofs.Calendar.{moment_lawful, day_small}
use Rattle.rasn_strings.proofs.Digits.{both_left, both_right}

-- ---- what is written are digits, and their number

pub are_digits-two : (n : ℕ) (cs : List ℕ) → are_digits (two_digits n ++ cs) ≡ are_digits cs
are_digits-two n cs = rw (le-leb 48 (48 + n / 10 % 10) (omega arith), le-leb (48 + n / 10 % 10) 57 (omega arith), le-leb 48 (48 + n % 10) (omega arith), le-leb (48 + n % 10) 57 (omega arith)) refl

pub number-two : (n : ℕ) → n < 100 → decimal_from 0 (two_digits n) ≡ n
number-two n h = let e : 10 * (10 * 0 + ((48 + n / 10 % 10) - 48)) + ((48 + n % 10) - 48) ≡ n = omega arith in e

-- ---- digits are what is written for their number

pub two_digits-number : (c d n : ℕ) (cs : List ℕ) → are_digits (c ∷ d ∷ cs) ≡ true → n ≡ decimal_from 0 (c ∷ d ∷ []) → two_digits n ≡ c ∷ d ∷ []
two_digits-number c d n cs h e = let i = leb-true 48 c (both_left (leb 48 c) _ h) in let j = leb-true c 57 (both_left (leb c 57) _ (both_right (leb 48 c) _ h)) in
    let r : (leb 48 d && (leb d 57 && are_digits cs)) ≡ true = both_right (leb c 57) _ (both_right (leb 48 c) _ h) in let k = leb-true 48 d (both_left (leb 48 d) _ r) in let l = leb-true d 57 (both_left (leb d 57) _ (both_right (leb 48 d) _ r)) in
    let f : n ≡ 10 * (10 * 0 + (c - 48)) + (d - 48) = e in
    ap₂ (λ (a b : ℕ). a ∷ b ∷ []) (let g : 48 + n / 10 % 10 ≡ c = omega arith in g) (let g : 48 + n % 10 ≡ d = omega arith in g)

pub digits_after : (c d : ℕ) (cs : List ℕ) → are_digits (c ∷ d ∷ cs) ≡ true → are_digits cs ≡ true
digits_after c d cs h = both_right (leb d 57) _ (both_right (leb 48 d) _ (both_right (leb c 57) _ (both_right (leb 48 c) _ h)))

-- ten digits are the characters of the moment that they name
pub characters_of : (a b c d e f g h i j : ℕ) (ns y : ℤ) (t : DateTime) → are_digits (a ∷ b ∷ c ∷ d ∷ e ∷ f ∷ g ∷ h ∷ i ∷ j ∷ []) ≡ true → IsMomentOf y (a ∷ b ∷ c ∷ d ∷ e ∷ f ∷ g ∷ h ∷ i ∷ j ∷ []) ns t →
    month_to_second t ≡ a ∷ b ∷ c ∷ d ∷ e ∷ f ∷ g ∷ h ∷ i ∷ j ∷ []
characters_of a b c d e f g h i j ns y t w m =
    ap₂ (λ xs ys. xs ++ ys) (two_digits-number a b t.date.month (c ∷ d ∷ e ∷ f ∷ g ∷ h ∷ i ∷ j ∷ []) w m.month_is)
    (ap₂ (λ xs ys. xs ++ ys) (two_digits-number c d t.date.day (e ∷ f ∷ g ∷ h ∷ i ∷ j ∷ []) w1 m.day_is)
    (ap₂ (λ xs ys. xs ++ ys) (two_digits-number e f t.time.hour (g ∷ h ∷ i ∷ j ∷ []) w2 m.hour_is)
    (ap₂ (λ xs ys. xs ++ ys) (two_digits-number g h t.time.minute (i ∷ j ∷ []) w3 m.minute_is) (two_digits-number i j t.time.second [] w4 m.second_is))))
  where
    w1 : are_digits (c ∷ d ∷ e ∷ f ∷ g ∷ h ∷ i ∷ j ∷ []) ≡ true
    w1 = digits_after a b (c ∷ d ∷ e ∷ f ∷ g ∷ h ∷ i ∷ j ∷ []) w

    w2 : are_digits (e ∷ f ∷ g ∷ h ∷ i ∷ j ∷ []) ≡ true
    w2 = digits_after c d (e ∷ f ∷ g ∷ h ∷ i ∷ j ∷ []) w1

    w3 : are_digits (g ∷ h ∷ i ∷ j ∷ []) ≡ true
    w3 = digits_after e f (g ∷ h ∷ i ∷ j ∷ []) w2

    w4 : are_digits (i ∷ j ∷ []) ≡ true
    w4 = digits_after g h (i ∷ j ∷ []) w3

-- a list of ten is its ten elements
pub ten : (xs : List ℕ) → length xs ≡ 10 → xs ≡ get_or xs 0 0 ∷ get_or xs 1 0 ∷ get_or xs 2 0 ∷ get_or xs 3 0 ∷ get_or xs 4 0 ∷ get_or xs 5 0 ∷ get_or xs 6 0 ∷ get_or xs 7 0 ∷ get_or xs 8 0 ∷ get_or xs 9 0 ∷ []
ten (a ∷ b ∷ c ∷ d ∷ e ∷ f ∷ g ∷ h ∷ i ∷ j ∷ []) l = refl
ten (a ∷ b ∷ c ∷ d ∷ e ∷ f ∷ g ∷ h ∷ i ∷ j ∷ k ∷ xs) l = absurd (omega arith)
ten [] l = absurd (omega arith)
ten (a ∷ []) l = absurd (omega arith)
ten (a ∷ b ∷ []) l = absurd (omega arith)
ten (a ∷ b ∷ c ∷ []) l = absurd (omega arith)
ten (a ∷ b ∷ c ∷ d ∷ []) l = absurd (omega arith)
ten (a ∷ b ∷ c ∷ d ∷ e ∷ []) l = absurd (omega arith)
ten (a ∷ b ∷ c ∷ d ∷ e ∷ f ∷ []) l = absurd (omega arith)
ten (a ∷ b ∷ c ∷ d ∷ e ∷ f ∷ g ∷ []) l = absurd (omega arith)
ten (a ∷ b ∷ c ∷ d ∷ e ∷ f ∷ g ∷ h ∷ []) l = absurd (omega arith)
ten (a ∷ b ∷ c ∷ d ∷ e ∷ f ∷ g ∷ h ∷ i ∷ []) l = absurd (omega arith)

-- the characters of a moment name it, whatever is behind
pub moment_named : (y : ℕ) (t : DateTime) (cs : List ℕ) → t.date.year ≡ pos y → is_moment y (month_to_second t ++ cs) ≡ true
moment_named y t cs e = rw (number-two t.date.month (let h = t.date.month_in in omega arith), number-two t.date.day (day_small t.date), number-two t.time.hour (let h = t.time.hour_in in omega arith), number-two t.time.minute (let h = t.time.minute_in in omega arith), number-two t.time.second (let h = t.time.second_in in omega arith)) (moment_lawful y t e)

-- the number of two digits is below 100
pub number_below : (c d : ℕ) (cs : List ℕ) → are_digits (c ∷ d ∷ cs) ≡ true → decimal_from 0 (c ∷ d ∷ []) < 100
number_below c d cs h = let j = leb-true c 57 (both_left (leb c 57) _ (both_right (leb 48 c) _ h)) in
    let r : (leb 48 d && (leb d 57 && are_digits cs)) ≡ true = both_right (leb c 57) _ (both_right (leb 48 c) _ h) in let l = leb-true d 57 (both_left (leb d 57) _ (both_right (leb 48 d) _ r)) in
    let f : 10 * (10 * 0 + (c - 48)) + (d - 48) < 100 = omega arith in f
