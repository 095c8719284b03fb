-- The texts of GeneralizedTime.
use Rattle.std.proofs.Common.{◌≡◌, ◌≢◌, refl, sym, ap, ap₂, ◌∙◌, subst, ℕ, zero, suc, ◌+◌, ◌-◌, ◌*◌, ◌/◌, ◌%◌, ◌^◌, ◌<◌, ◌≤◌, ◌⊎◌, inl, inr, Bool, true, false, cond, not, ◌&&◌, ◌||◌, eqb, leb, List, [], ◌∷◌, ◌++◌, length, take, drop, ℤ, pos, negsuc, ◌≤ℤ◌, ◌+ℤ◌, ◌*ℤ◌, to_z, of_z, w8, arith, true≢false, leb-true, le-leb, Option, Some, None, MatchOption}
use Rattle.std.proofs.lemmas.Bool.{ne_eqb, lt-leb}
use Rattle.std.proofs.lemmas.List.{take_all, take-append-drop, length-drop, length-take-le}
use Rattle.std.proofs.lemmas.Nat.{div-add-mod'}
use Rattle.std.proofs.lemmas.Int.{to_z-of_z}
use Rattle.std.specs.Int.{w16, w32}
use lib.IntN.{nat_abs}
use lib.Signed.{le_z, lt_z, mag, quot_z, rem_z}
use Rattle.rasn_types.specs.Contents.{TimeKind, are_digits, decimal_from, two, is_moment, is_z, ends_well, is_fraction, is_time, year_size}
use Rattle.jiff.specs.Types.{DateTime}
use Rattle.rasn_strings.specs.Moments.{two_digits, month_to_second, year_to_second, fraction_digits, fraction_text, is_generalized_moment, generalized_characters, generalized_text, IsMomentOf, IsFractionText, IsGeneralizedMomentOf, IsSameMoment}
use Rattle.rasn_strings.proofs.Calendar.{unpos, tested, back8}
use Rattle.rasn_strings.proofs.Fractions.{fraction_digits-zero, fraction_digits-step, digit_of, behind}
use Rattle.rasn_strings.proofs.Texts.{are_digits-two, two_digits-number, digits_after, characters_of, moment_named, number_below, ten}
use Rattle.rasn_strings.proofs.UtcTexts.{two_same, moments_same}

-- ---- fractions

or_true : (b : Bool) → (b || true) ≡ true
or_true true = refl
or_true false = refl

-- the digits of a fraction end well
ends_written : (p n : ℕ) → 0 < n → n < 10 ^ p → ends_well p (fraction_digits p n ++ 90 ∷ []) ≡ true
ends_written zero n h k = absurd (omega arith)
ends_written (suc p) n h k = subst (λ xs. ends_well (suc p) (xs ++ 90 ∷ []) ≡ true) (sym (fraction_digits-step (suc p) p n (λ e. omega arith) (omega arith)))
    (rw (le-leb 48 (48 + n / 10 ^ p) (omega arith), le-leb (48 + n / 10 ^ p) 57 (let i = digit_of p n k in omega arith)) (rest (n % 10 ^ p) refl (λ i. ends_written p (n % 10 ^ p) i (behind p n))))
  where
    some : n % 10 ^ p ≡ 0 → 48 + n / 10 ^ p ≡ 48 → ⊥
    some e f = let d : n / 10 ^ p ≡ 0 = omega arith in let i : 0 * 10 ^ p + 0 ≡ n = ap₂ (λ (a b : ℕ). a * 10 ^ p + b) (sym d) (sym e) ∙ div-add-mod' n (10 ^ p) in omega arith

    rest : (r : ℕ) → n % 10 ^ p ≡ r → (0 < r → ends_well p (fraction_digits p r ++ 90 ∷ []) ≡ true) → ((not (eqb (48 + n / 10 ^ p) 48) && is_z (fraction_digits p r ++ 90 ∷ [])) || ends_well p (fraction_digits p r ++ 90 ∷ [])) ≡ true
    rest zero e f = rw (ne_eqb (48 + n / 10 ^ p) 48 (some e), fraction_digits-zero p) refl
    rest (suc r) e f = rw (f (omega arith)) (or_true (not (eqb (48 + n / 10 ^ p) 48) && is_z (fraction_digits p (suc r) ++ 90 ∷ [])))

fraction_text-some : (n : ℕ) → n ≢ 0 → fraction_text n ≡ 46 ∷ fraction_digits 9 n
fraction_text-some n h = rw (ne_eqb n 0 h) refl

fraction_lawful : (n : ℕ) → n < 10 ^ 9 → is_fraction (fraction_text n ++ 90 ∷ []) ≡ true
fraction_lawful zero h = refl
fraction_lawful (suc n) h = subst (λ xs. is_fraction (xs ++ 90 ∷ []) ≡ true) (sym (fraction_text-some (suc n) (λ e. omega arith))) (ends_written 9 (suc n) (omega arith) h)

none_apart : (p n : ℕ) → n ≢ 0 → n < 10 ^ p → fraction_digits p n ++ 90 ∷ [] ≡ 90 ∷ [] → ⊥
none_apart zero n h k e = omega (arith, let z : n ≡ 0 = omega arith in h z)
none_apart (suc p) n h k e = let f : (48 + n / 10 ^ p) ∷ (fraction_digits p (n % 10 ^ p) ++ 90 ∷ []) ≡ 90 ∷ [] = ap (λ xs. xs ++ 90 ∷ []) (sym (fraction_digits-step (suc p) p n h (omega arith))) ∙ e in
    let g : 48 + n / 10 ^ p ≡ 90 = cc in let i = digit_of p n k in omega arith

-- a number has its digits to itself
digits_same : (p m n : ℕ) → m < 10 ^ p → n < 10 ^ p → fraction_digits p m ++ 90 ∷ [] ≡ fraction_digits p n ++ 90 ∷ [] → m ≡ n
digits_same zero m n h k e = omega arith
digits_same (suc p) zero zero h k e = refl
digits_same (suc p) zero (suc n) h k e = absurd (none_apart (suc p) (suc n) (λ i. omega arith) k (sym e ∙ ap (λ xs. xs ++ 90 ∷ []) (fraction_digits-zero (suc p))))
digits_same (suc p) (suc m) zero h k e = absurd (none_apart (suc p) (suc m) (λ i. omega arith) h (e ∙ ap (λ xs. xs ++ 90 ∷ []) (fraction_digits-zero (suc p))))
digits_same (suc p) (suc m) (suc n) h k e =
    let f : (48 + suc m / 10 ^ p) ∷ (fraction_digits p (suc m % 10 ^ p) ++ 90 ∷ []) ≡ (48 + suc n / 10 ^ p) ∷ (fraction_digits p (suc n % 10 ^ p) ++ 90 ∷ []) =
    ap (λ xs. xs ++ 90 ∷ []) (sym (fraction_digits-step (suc p) p (suc m) (λ i. omega arith) (omega arith))) ∙ e ∙ ap (λ xs. xs ++ 90 ∷ []) (fraction_digits-step (suc p) p (suc n) (λ i. omega arith) (omega arith)) in
    let g : 48 + suc m / 10 ^ p ≡ 48 + suc n / 10 ^ p = cc in
    let i : fraction_digits p (suc m % 10 ^ p) ++ 90 ∷ [] ≡ fraction_digits p (suc n % 10 ^ p) ++ 90 ∷ [] = cc in
    sym (div-add-mod' (suc m) (10 ^ p)) ∙ ap₂ (λ (a b : ℕ). a * 10 ^ p + b) (let j : suc m / 10 ^ p ≡ suc n / 10 ^ p = omega arith in j) (digits_same p (suc m % 10 ^ p) (suc n % 10 ^ p) (behind p (suc m)) (behind p (suc n)) i) ∙ div-add-mod' (suc n) (10 ^ p)

first_same : (a b : ℕ) (xs ys : List ℕ) → a ∷ xs ≡ b ∷ ys → (a ≡ b) × (xs ≡ ys)
first_same a b xs ys e = (let f : a ≡ b = cc in f, let f : xs ≡ ys = cc in f)

fraction_same : (m n : ℕ) → m < 10 ^ 9 → n < 10 ^ 9 → fraction_text m ++ 90 ∷ [] ≡ fraction_text n ++ 90 ∷ [] → m ≡ n
fraction_same zero zero h k e = refl
fraction_same zero (suc n) h k e = let f = first_same 90 46 [] (fraction_digits 9 (suc n) ++ 90 ∷ []) (e ∙ ap (λ xs. xs ++ 90 ∷ []) (fraction_text-some (suc n) (λ i. omega arith))) in let g = f.0 in absurd (omega arith)
fraction_same (suc m) zero h k e = let f = first_same 46 90 (fraction_digits 9 (suc m) ++ 90 ∷ []) [] (ap (λ xs. xs ++ 90 ∷ []) (sym (fraction_text-some (suc m) (λ i. omega arith))) ∙ e) in let g = f.0 in absurd (omega arith)
fraction_same (suc m) (suc n) h k e = digits_same 9 (suc m) (suc n) h k (first_same 46 46 _ _ (ap (λ xs. xs ++ 90 ∷ []) (sym (fraction_text-some (suc m) (λ i. omega arith))) ∙ e ∙ ap (λ xs. xs ++ 90 ∷ []) (fraction_text-some (suc n) (λ i. omega arith)))).1

-- ---- a text by its fourteen digits and what is after them

fourteen : (a b c d e f g h i j k l m n : ℕ) (rest : List ℕ) → is_time TimeKind.generalized (a ∷ b ∷ c ∷ d ∷ e ∷ f ∷ g ∷ h ∷ i ∷ j ∷ k ∷ l ∷ m ∷ n ∷ rest)
    ≡ (are_digits (a ∷ b ∷ c ∷ d ∷ e ∷ f ∷ g ∷ h ∷ i ∷ j ∷ k ∷ l ∷ m ∷ n ∷ []) && (is_fraction rest && is_moment (decimal_from 0 (a ∷ b ∷ c ∷ d ∷ [])) (e ∷ f ∷ g ∷ h ∷ i ∷ j ∷ k ∷ l ∷ m ∷ n ∷ [])))
unfolding is_time
fourteen a b c d e f g h i j k l m n rest = rw (le-leb 14 (length (a ∷ b ∷ c ∷ d ∷ e ∷ f ∷ g ∷ h ∷ i ∷ j ∷ k ∷ l ∷ m ∷ n ∷ rest)) (omega arith)) refl

pub by_digits : (ds rest : List ℕ) → length ds ≡ 14 → is_time TimeKind.generalized (ds ++ rest) ≡ (are_digits ds && (is_fraction rest && is_moment (decimal_from 0 (take 4 ds)) (drop 4 ds)))
by_digits [] rest l = absurd (omega arith)
by_digits (a ∷ []) rest l = absurd (omega arith)
by_digits (a ∷ b ∷ []) rest l = absurd (omega arith)
by_digits (a ∷ b ∷ c ∷ []) rest l = absurd (omega arith)
by_digits (a ∷ b ∷ c ∷ d ∷ ds) rest l = subst (λ xs. is_time TimeKind.generalized (a ∷ b ∷ c ∷ d ∷ (xs ++ rest)) ≡ (are_digits (a ∷ b ∷ c ∷ d ∷ xs) && (is_fraction rest && is_moment (decimal_from 0 (a ∷ b ∷ c ∷ d ∷ [])) xs))) (sym (ten ds (omega arith))) (fourteen a b c d _ _ _ _ _ _ _ _ _ _ rest)

-- ---- what is written is a text

four_number : (n : ℕ) → n ≤ 9999 → decimal_from 0 (two_digits (n / 100) ++ two_digits (n % 100)) ≡ n
four_number n h = let e : 10 * (10 * (10 * (10 * 0 + ((48 + n / 100 / 10 % 10) - 48)) + ((48 + n / 100 % 10) - 48)) + ((48 + n % 100 / 10 % 10) - 48)) + ((48 + n % 100 % 10) - 48) ≡ n = omega arith in e

-- the year of a moment that is held
held_year : (y : ℤ) → le_z (pos 0) y ≡ true → le_z y (pos 9999) ≡ true → (y ≡ pos (year_size y)) × (year_size y ≤ 9999)
held_year (pos n) h k = (refl, leb-true n 9999 k)
held_year (negsuc n) h k = absurd (true≢false (sym h))

year_held : (t : DateTime) → is_generalized_moment t ≡ true → (t.date.year ≡ pos (year_size t.date.year)) × (year_size t.date.year ≤ 9999)
year_held t h = held_year t.date.year h (tested t.date.year (pos 9999) t.date.year_in.1)

generalized_lawful : (t : DateTime) → is_generalized_moment t ≡ true → is_time TimeKind.generalized (generalized_characters t) ≡ true
generalized_lawful t h = by_digits (year_to_second t) (fraction_text t.time.subsec_nanosecond ++ 90 ∷ []) refl ∙ rw (digits, fraction_lawful t.time.subsec_nanosecond t.time.subsec_in, four_number (year_size t.date.year) (year_held t h).1) (moment_named (year_size t.date.year) t [] (year_held t h).0)
  where
    digits : are_digits (year_to_second t) ≡ true
    digits = are_digits-two (year_size t.date.year / 100) (two_digits (year_size t.date.year % 100) ++ month_to_second t) ∙ are_digits-two (year_size t.date.year % 100) (month_to_second t) ∙ are_digits-two t.date.month (two_digits t.date.day ++ two_digits t.time.hour ++ two_digits t.time.minute ++ two_digits t.time.second) ∙ are_digits-two t.date.day (two_digits t.time.hour ++ two_digits t.time.minute ++ two_digits t.time.second) ∙ are_digits-two t.time.hour (two_digits t.time.minute ++ two_digits t.time.second) ∙ are_digits-two t.time.minute (two_digits t.time.second) ∙ are_digits-two t.time.second []

pub is_time-generalized_text : (t : DateTime) → is_time TimeKind.generalized (generalized_text t) ≡ is_generalized_moment t
unfolding generalized_text is_time
is_time-generalized_text t = go (is_generalized_moment t) refl
  where
    go : (b : Bool) → is_generalized_moment t ≡ b → is_time TimeKind.generalized (cond b (generalized_characters t) []) ≡ b
    go true e = generalized_lawful t e
    go false e = refl

-- the text of a moment that is held
held_text : (t : DateTime) → is_generalized_moment t ≡ true → generalized_text t ≡ generalized_characters t
unfolding generalized_text
held_text t h = ap (λ b. cond b (generalized_characters t) []) h

-- ---- each moment has a text of its own

pub generalized_same : (t u : DateTime) → is_generalized_moment t ≡ true → is_generalized_moment u ≡ true → generalized_text t ≡ generalized_text u → IsSameMoment t u
generalized_same t u h k e = record {
  year_is = (year_held t h).0 ∙ ap pos same_year ∙ sym (year_held u k).0;
  month_is = m.0;
  day_is = m.1;
  hour_is = m.2;
  minute_is = m.3;
  second_is = m.4;
  fraction_is = fraction_same t.time.subsec_nanosecond u.time.subsec_nanosecond t.time.subsec_in u.time.subsec_in m.5;
}
  where
    after_month : DateTime → List ℕ
    after_month v = month_to_second v ++ fraction_text v.time.subsec_nanosecond ++ 90 ∷ []

    high : (year_size t.date.year / 100 ≡ year_size u.date.year / 100) × (two_digits (year_size t.date.year % 100) ++ after_month t ≡ two_digits (year_size u.date.year % 100) ++ after_month u)
    high = two_same (year_size t.date.year / 100) (year_size u.date.year / 100) (two_digits (year_size t.date.year % 100) ++ after_month t) (two_digits (year_size u.date.year % 100) ++ after_month u) (let i = (year_held t h).1 in omega arith) (let i = (year_held u k).1 in omega arith) (sym (held_text t h) ∙ e ∙ held_text u k)

    low : (year_size t.date.year % 100 ≡ year_size u.date.year % 100) × (after_month t ≡ after_month u)
    low = two_same (year_size t.date.year % 100) (year_size u.date.year % 100) (after_month t) (after_month u) (omega arith) (omega arith) high.1

    same_year : year_size t.date.year ≡ year_size u.date.year
    same_year = let i = high.0 in let j = low.0 in omega arith

    m : (t.date.month ≡ u.date.month) × (t.date.day ≡ u.date.day) × (t.time.hour ≡ u.time.hour) × (t.time.minute ≡ u.time.minute) × (t.time.second ≡ u.time.second) × (fraction_text t.time.subsec_nanosecond ++ 90 ∷ [] ≡ fraction_text u.time.subsec_nanosecond ++ 90 ∷ [])
    m = moments_same t u (fraction_text t.time.subsec_nanosecond ++ 90 ∷ []) (fraction_text u.time.subsec_nanosecond ++ 90 ∷ []) low.1

-- ---- a text is that of its moment

pub text_is : (t : DateTime) (n : ℕ) (cs : List ℕ) → 14 ≤ length cs → IsFractionText (take (length cs - 14) (drop 14 cs)) n → IsGeneralizedMomentOf (take 14 cs) n t → generalized_text t ≡ cs
text_is t n cs l f m = held_text t m.held ∙ ap₂ (λ (xs : List ℕ) (k : ℕ). xs ++ (fraction_text k ++ 90 ∷ [])) m.characters m.fraction_is ∙ ap (λ ys. take 14 cs ++ ys) (f.written ∙ take_all (length cs - 14) (drop 14 cs) (let a = length-drop 14 cs in omega arith)) ∙ take-append-drop 14 cs

-- the year of four digits
year_parts : (a b c d : ℕ) (cs : List ℕ) → are_digits (c ∷ d ∷ cs) ≡ true → (decimal_from 0 (a ∷ b ∷ c ∷ d ∷ []) / 100 ≡ decimal_from 0 (a ∷ b ∷ [])) × (decimal_from 0 (a ∷ b ∷ c ∷ d ∷ []) % 100 ≡ decimal_from 0 (c ∷ d ∷ []))
year_parts a b c d cs w = let h : 10 * (10 * 0 + (c - 48)) + (d - 48) < 100 = number_below c d cs w in
    ((let e : (10 * (10 * (10 * (10 * 0 + (a - 48)) + (b - 48)) + (c - 48)) + (d - 48)) / 100 ≡ 10 * (10 * 0 + (a - 48)) + (b - 48) = omega arith in e), (let e : (10 * (10 * (10 * (10 * 0 + (a - 48)) + (b - 48)) + (c - 48)) + (d - 48)) % 100 ≡ 10 * (10 * 0 + (c - 48)) + (d - 48) = omega arith in e))

pub digits_read : (r : Option DateTime) (ds : List ℕ) (n : ℕ) (y ns : ℤ) → length ds ≡ 14 → are_digits ds ≡ true → y ≡ pos (decimal_from 0 (take 4 ds)) → ns ≡ pos n →
    MatchOption r (is_moment (year_size y) (take (length ds - 4) (drop 4 ds)) ≡ false) (IsMomentOf y (take (length ds - 4) (drop 4 ds)) ns) → MatchOption r (is_moment (decimal_from 0 (take 4 ds)) (drop 4 ds) ≡ false) (IsGeneralizedMomentOf ds n)
digits_read r ds n y ns l w e f m = go r ds l w
    (subst (λ xs. MatchOption r (is_moment (decimal_from 0 (take 4 ds)) xs ≡ false) (IsMomentOf (pos (decimal_from 0 (take 4 ds))) xs (pos n))) (take_all (length ds - 4) (drop 4 ds) (let a = length-drop 4 ds in omega arith))
    (subst (λ z. MatchOption r (is_moment (decimal_from 0 (take 4 ds)) (take (length ds - 4) (drop 4 ds)) ≡ false) (IsMomentOf (pos (decimal_from 0 (take 4 ds))) (take (length ds - 4) (drop 4 ds)) z)) f
    (subst (λ z. MatchOption r (is_moment (year_size z) (take (length ds - 4) (drop 4 ds)) ≡ false) (IsMomentOf z (take (length ds - 4) (drop 4 ds)) ns)) e m)))
  where
    read : (t : DateTime) (a b c d : ℕ) (xs : List ℕ) → length xs ≡ 10 → are_digits (a ∷ b ∷ c ∷ d ∷ xs) ≡ true → IsMomentOf (pos (decimal_from 0 (a ∷ b ∷ c ∷ d ∷ []))) xs (pos n) t → IsGeneralizedMomentOf (a ∷ b ∷ c ∷ d ∷ xs) n t
    read t a b c d xs l w m = record {
      held = ap (λ z. le_z (pos 0) z) m.year_is ∙ le-leb 0 (decimal_from 0 (a ∷ b ∷ c ∷ d ∷ [])) (omega arith);
      characters = ap₂ (λ ys zs. ys ++ zs) (two_digits-number a b (year_size t.date.year / 100) (c ∷ d ∷ xs) w (ap (λ z. year_size z / 100) m.year_is ∙ (year_parts a b c d xs w2).0))
          (ap₂ (λ ys zs. ys ++ zs) (two_digits-number c d (year_size t.date.year % 100) xs w2 (ap (λ z. year_size z % 100) m.year_is ∙ (year_parts a b c d xs w2).1)) (behind xs l (digits_after c d xs w2) m));
      fraction_is = unpos t.time.subsec_nanosecond n m.fraction_is;
    }
      where
        w2 : are_digits (c ∷ d ∷ xs) ≡ true
        w2 = digits_after a b (c ∷ d ∷ xs) w

        behind : (xs : List ℕ) → length xs ≡ 10 → are_digits xs ≡ true → IsMomentOf (pos (decimal_from 0 (a ∷ b ∷ c ∷ d ∷ []))) xs (pos n) t → month_to_second t ≡ xs
        behind xs l = subst (λ ys. are_digits ys ≡ true → IsMomentOf (pos (decimal_from 0 (a ∷ b ∷ c ∷ d ∷ []))) ys (pos n) t → month_to_second t ≡ ys) (sym (ten xs l)) (λ w m. characters_of _ _ _ _ _ _ _ _ _ _ (pos n) (pos (decimal_from 0 (a ∷ b ∷ c ∷ d ∷ []))) t w m)

    go : (r : Option DateTime) (ds : List ℕ) → length ds ≡ 14 → are_digits ds ≡ true → MatchOption r (is_moment (decimal_from 0 (take 4 ds)) (drop 4 ds) ≡ false) (IsMomentOf (pos (decimal_from 0 (take 4 ds))) (drop 4 ds) (pos n)) →
        MatchOption r (is_moment (decimal_from 0 (take 4 ds)) (drop 4 ds) ≡ false) (IsGeneralizedMomentOf ds n)
    go None ds l w m = m
    go (Some t) [] l w m = absurd (omega arith)
    go (Some t) (a ∷ []) l w m = absurd (omega arith)
    go (Some t) (a ∷ b ∷ []) l w m = absurd (omega arith)
    go (Some t) (a ∷ b ∷ c ∷ []) l w m = absurd (omega arith)
    go (Some t) (a ∷ b ∷ c ∷ d ∷ xs) l w m = read t a b c d xs (omega arith) w m

-- ---- other texts

and_false : (b : Bool) → (b && false) ≡ false
and_false true = refl
and_false false = refl

pub not_digits : (cs : List ℕ) → (length cs < 14) ⊎ (are_digits (take 14 cs) ≡ false) → is_time TimeKind.generalized cs ≡ false
unfolding is_time
not_digits cs (inl h) = rw (lt-leb 14 (length cs) h) refl
not_digits cs (inr h) = rw h (and_false (leb 14 (length cs)))

split : (cs : List ℕ) → 14 ≤ length cs → is_time TimeKind.generalized cs ≡ (are_digits (take 14 cs) && (is_fraction (drop 14 cs) && is_moment (decimal_from 0 (take 4 (take 14 cs))) (drop 4 (take 14 cs))))
split cs l = ap (λ xs. is_time TimeKind.generalized xs) (sym (take-append-drop 14 cs)) ∙ by_digits (take 14 cs) (drop 14 cs) (length-take-le 14 cs l)

pub not_fraction : (cs : List ℕ) → 14 ≤ length cs → is_fraction (take (length cs - 14) (drop 14 cs)) ≡ false → is_time TimeKind.generalized cs ≡ false
not_fraction cs l h = split cs l ∙ rw (sym (ap is_fraction (take_all (length cs - 14) (drop 14 cs) (let a = length-drop 14 cs in omega arith))) ∙ h) (and_false (are_digits (take 14 cs)))

pub not_moment : (cs : List ℕ) → 14 ≤ length cs → is_moment (decimal_from 0 (take 4 (take 14 cs))) (drop 4 (take 14 cs)) ≡ false → is_time TimeKind.generalized cs ≡ false
not_moment cs l h = split cs l ∙ ap (λ b. are_digits (take 14 cs) && (is_fraction (drop 14 cs) && b)) h ∙ ap (λ b. are_digits (take 14 cs) && b) (and_false (is_fraction (drop 14 cs))) ∙ and_false (are_digits (take 14 cs))

-- ---- what the code finds

-- the year of two numbers of two digits, as it is summed up
sum_of : (m k : ℕ) (f h : ℤ) → m < 100 → k < 100 → f ≡ pos m → h ≡ pos k → to_z w16 (of_z w16 (to_z w16 (of_z w16 (pos 100 *ℤ to_z w16 (of_z w16 f))) +ℤ to_z w16 (of_z w16 h))) ≡ pos (100 * m + k)
sum_of m k f h i j e g = ap₂ (λ (x y : ℤ). to_z w16 (of_z w16 (to_z w16 (of_z w16 (pos 100 *ℤ x)) +ℤ y))) (ap (λ x. to_z w16 (of_z w16 x)) e ∙ to_z-of_z w16 (pos m) (record { sfits = omega arith })) (ap (λ x. to_z w16 (of_z w16 x)) g ∙ to_z-of_z w16 (pos k) (record { sfits = omega arith }))
    ∙ ap (λ (x : ℤ). to_z w16 (of_z w16 (x +ℤ pos k))) (to_z-of_z w16 (pos (100 * m)) (record { sfits = omega arith }))
    ∙ to_z-of_z w16 (pos (100 * m + k)) (record { sfits = omega arith })

pub four_sum : (x z f h : ℤ) (ds : List ℕ) → length ds ≡ 14 → are_digits ds ≡ true → x ≡ pos (two 0 ds) → z ≡ pos (two 2 ds) → f ≡ to_z w8 (of_z w8 x) → h ≡ to_z w8 (of_z w8 z) →
    to_z w16 (of_z w16 (to_z w16 (of_z w16 (pos 100 *ℤ to_z w16 (of_z w16 f))) +ℤ to_z w16 (of_z w16 h))) ≡ pos (decimal_from 0 (take 4 ds))
four_sum x z f h [] l w e g i j = absurd (omega arith)
four_sum x z f h (a ∷ []) l w e g i j = absurd (omega arith)
four_sum x z f h (a ∷ b ∷ []) l w e g i j = absurd (omega arith)
four_sum x z f h (a ∷ b ∷ c ∷ []) l w e g i j = absurd (omega arith)
four_sum x z f h (a ∷ b ∷ c ∷ d ∷ ds) l w e g i j = sum_of (decimal_from 0 (a ∷ b ∷ [])) (decimal_from 0 (c ∷ d ∷ [])) f h high low (small x f (decimal_from 0 (a ∷ b ∷ [])) high e i) (small z h (decimal_from 0 (c ∷ d ∷ [])) low g j)
    ∙ ap pos (let q : 100 * (10 * (10 * 0 + (a - 48)) + (b - 48)) + (10 * (10 * 0 + (c - 48)) + (d - 48)) ≡ 10 * (10 * (10 * (10 * 0 + (a - 48)) + (b - 48)) + (c - 48)) + (d - 48) = omega arith in q)
  where
    high : decimal_from 0 (a ∷ b ∷ []) < 100
    high = number_below a b (c ∷ d ∷ ds) w

    low : decimal_from 0 (c ∷ d ∷ []) < 100
    low = number_below c d ds (digits_after a b (c ∷ d ∷ ds) w)

    small : (x f : ℤ) (n : ℕ) → n < 100 → x ≡ pos n → f ≡ to_z w8 (of_z w8 x) → f ≡ pos n
    small x f n h e i = i ∙ ap (λ z. to_z w8 (of_z w8 z)) e ∙ back8 (pos n) (omega arith)

-- the two halves of a year that isn't negative
pub century : (y v : ℤ) → mag y < 32768 → y ≡ v → pos 0 ≤ℤ v → nat_abs (to_z w16 (of_z w16 (quot_z (to_z w16 (of_z w16 y)) (pos 100)))) ≡ year_size v / 100
century y (pos n) r e h = ap (λ z. nat_abs (to_z w16 (of_z w16 (quot_z z (pos 100))))) (to_z-of_z w16 y (record { sfits = r }) ∙ e) ∙ ap nat_abs (to_z-of_z w16 (pos (n / 100)) (record { sfits = let k : mag (pos n) < 32768 = subst (λ z. mag z < 32768) e r in omega arith }))
century y (negsuc n) r e h = absurd h.le

-- a year that isn't before 0
pub held_by : (y v : ℤ) → mag y < 32768 → lt_z (to_z w16 (of_z w16 y)) (pos 0) ≡ false → y ≡ v → le_z (pos 0) v ≡ true
held_by y v r l e = go v (subst (λ z. lt_z z (pos 0) ≡ false) (to_z-of_z w16 y (record { sfits = r }) ∙ e) l)
  where
    go : (z : ℤ) → lt_z z (pos 0) ≡ false → le_z (pos 0) z ≡ true
    go (pos n) l = le-leb 0 n (omega arith)
    go (negsuc n) l = absurd (true≢false l)

pub generalized_written : (items : List ℕ) (t m : DateTime) (y : ℤ) → m ≡ t → items ≡ generalized_characters m → mag y < 32768 → lt_z (to_z w16 (of_z w16 y)) (pos 0) ≡ false → y ≡ m.date.year → items ≡ generalized_text t
generalized_written items t m y e i r l f = i ∙ sym (held_text m (held_by y m.date.year r l f)) ∙ ap generalized_text e

pub within_century : (y v : ℤ) → mag y < 32768 → y ≡ v → pos 0 ≤ℤ v → nat_abs (to_z w16 (of_z w16 (rem_z (to_z w16 (of_z w16 y)) (pos 100)))) ≡ year_size v % 100
within_century y (pos n) r e h = ap (λ z. nat_abs (to_z w16 (of_z w16 (rem_z z (pos 100))))) (to_z-of_z w16 y (record { sfits = r }) ∙ e) ∙ ap nat_abs (to_z-of_z w16 (pos (n % 100)) (record { sfits = omega arith }))
within_century y (negsuc n) r e h = absurd h.le

pub fraction_back : (s : ℤ) (n : ℕ) → mag s < 2147483648 → s ≡ pos n → nat_abs (to_z w32 (of_z w32 s)) ≡ n
fraction_back s n r e = ap nat_abs (to_z-of_z w32 s (record { sfits = r }) ∙ e)

pub characters_written : (t : DateTime) (h l n : ℕ) → h ≡ year_size t.date.year / 100 → l ≡ year_size t.date.year % 100 → n ≡ t.time.subsec_nanosecond → two_digits h ++ (two_digits l ++ (month_to_second t ++ (fraction_text n ++ 90 ∷ []))) ≡ generalized_characters t
characters_written t h l n e f g = ap₂ (λ (x y : ℕ). two_digits x ++ (two_digits y ++ (month_to_second t ++ (fraction_text n ++ 90 ∷ [])))) e f ∙ ap (λ (x : ℕ). two_digits (year_size t.date.year / 100) ++ (two_digits (year_size t.date.year % 100) ++ (month_to_second t ++ (fraction_text x ++ 90 ∷ [])))) g
