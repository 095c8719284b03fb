-- What the text of a day tells.
use Rattle.std.proofs.Common.{◌≡◌, refl, sym, ap, ap₂, ◌∙◌, subst, inl, inr, ℕ, zero, suc, ◌+◌, ◌-◌, ◌*◌, ◌/◌, ◌%◌, ◌^◌, ◌<◌, ◌≤◌, ◌⊎◌, Bool, true, false, cond, ◌&&◌, ◌||◌, eqb, ltb, leb, ltb-true, ltb-false, List, [], ◌∷◌, ◌++◌, length, replicate, Option, Some, None, ℤ, pos, negsuc, arith, append_assoc, leb-true, length-append}
use Rattle.std.specs.Prelude.{decimal, nat_eq, nat_le, neg_ℤ, slice_get}
use Rattle.std.specs.Int.Signed.{le_z}
use Rattle.std.specs.Cmp.Lexicographic.{pointwise}
use Rattle.std.specs.Str.{bytes_eq}
use Rattle.std.proofs.lemmas.Bool.{and_from, and_parts, cases_lt, le-leb, ne_eqb}
use Rattle.std.proofs.lemmas.Fmt.{decimal_digit, decimal_step_wide}
use Rattle.std.proofs.lemmas.Slice.Eq.{bytes_eq-Decides}
use Rattle.rasn_types.specs.Contents.{days_in, is_date, leap, year_size}
use Rattle.rasn_types.specs.Values.{Value, day}
use Rattle.rasn_jer.specs.Strings.{day_text, year_text, zero_padded}
use Rattle.rasn_dynamic_jer.specs.Days.{date_told, day_shown, digit_of, four_shown, is_minus, month_shown, two_shown, year_shown}

-- ---- numbers of a width

-- the last digit
last_digit : (w n : ℕ) → 10 ≤ n → n < 10000 → zero_padded (1 + w) n ≡ zero_padded w (n / 10) ++ (48 + n % 10) ∷ []
last_digit w n h l =
    let ds = decimal (n / 10) in
    let e : decimal n ≡ ds ++ (48 + n % 10) ∷ [] = decimal_step_wide n h (omega (arith, l)) in
    let f : (1 + w) - length (ds ++ (48 + n % 10) ∷ []) ≡ w - length ds = omega (arith, length-append ds ((48 + n % 10) ∷ [])) in
    ap (λ xs. replicate ((1 + w) - length xs) 48 ++ xs) e
    ∙ ap (λ (k : ℕ). replicate k 48 ++ (ds ++ (48 + n % 10) ∷ [])) f
    ∙ sym (append_assoc (replicate (w - length ds) 48) ds ((48 + n % 10) ∷ []))

single : (n : ℕ) → n < 10 → (w : ℕ) → zero_padded w n ≡ replicate (w - 1) 48 ++ (48 + n) ∷ []
single n h w = ap (λ xs. replicate (w - length xs) 48 ++ xs) (decimal_digit n h)

tenth : (n : ℕ) → n < 10 → (w : ℕ) → zero_padded w (n / 10) ≡ replicate (w - 1) 48 ++ 48 ∷ []
tenth n h w = ap (λ (k : ℕ). zero_padded w k) (let e : n / 10 ≡ 0 = omega arith in e) ∙ single 0 (omega arith) w

same_digit : (n : ℕ) → n < 10 → 48 + n ≡ 48 + n % 10
same_digit n h = omega arith

step_two : (n : ℕ) → n < 10000 → zero_padded 2 n ≡ zero_padded 1 (n / 10) ++ (48 + n % 10) ∷ []
step_two n l = elim (cases_lt n 10) [
  | inl h ↦ single n h 2 ∙ ap (λ (c : ℕ). 48 ∷ c ∷ []) (same_digit n h) ∙ ap (λ xs. xs ++ (48 + n % 10) ∷ []) (sym (tenth n h 1))
  | inr h ↦ last_digit 1 n h l
]

step_three : (n : ℕ) → n < 10000 → zero_padded 3 n ≡ zero_padded 2 (n / 10) ++ (48 + n % 10) ∷ []
step_three n l = elim (cases_lt n 10) [
  | inl h ↦ single n h 3 ∙ ap (λ (c : ℕ). 48 ∷ 48 ∷ c ∷ []) (same_digit n h) ∙ ap (λ xs. xs ++ (48 + n % 10) ∷ []) (sym (tenth n h 2))
  | inr h ↦ last_digit 2 n h l
]

step_four : (n : ℕ) → n < 10000 → zero_padded 4 n ≡ zero_padded 3 (n / 10) ++ (48 + n % 10) ∷ []
step_four n l = elim (cases_lt n 10) [
  | inl h ↦ single n h 4 ∙ ap (λ (c : ℕ). 48 ∷ 48 ∷ 48 ∷ c ∷ []) (same_digit n h) ∙ ap (λ xs. xs ++ (48 + n % 10) ∷ []) (sym (tenth n h 3))
  | inr h ↦ last_digit 3 n h l
]

abbrev pair : ℕ → List ℕ
pair n = (48 + n / 10) ∷ (48 + n % 10) ∷ []

abbrev quad : ℕ → List ℕ
quad n = (48 + n / 10 / 10 / 10) ∷ (48 + n / 10 / 10 % 10) ∷ (48 + n / 10 % 10) ∷ (48 + n % 10) ∷ []

two_padded : (n : ℕ) → n < 100 → zero_padded 2 n ≡ pair n
two_padded n h = step_two n (omega (arith, h)) ∙ ap (λ xs. xs ++ (48 + n % 10) ∷ []) (single (n / 10) (omega (arith, h)) 1)

four_padded : (n : ℕ) → n < 10000 → zero_padded 4 n ≡ quad n
four_padded n h =
    step_four n h ∙ ap (λ xs. xs ++ (48 + n % 10) ∷ [])
    (step_three (n / 10) (omega (arith, h)) ∙ ap (λ xs. xs ++ (48 + n / 10 % 10) ∷ []) (two_padded (n / 10 / 10) (omega (arith, h))))

-- ---- digits are read back

digit_shown : (d : ℕ) → d < 10 → digit_of (Some (48 + d)) ≡ d
digit_shown d h = ap (λ (b : Bool). cond b (48 + d - 48) 0) (and_from _ _ (le-leb 48 (48 + d) (omega arith)) (le-leb (48 + d) 57 (omega (arith, h)))) ∙ omega arith

pair_shown : (n : ℕ) → n < 100 → 10 * digit_of (Some (48 + n / 10)) + digit_of (Some (48 + n % 10)) ≡ n
pair_shown n h =
    ap₂ (λ (a b : ℕ). 10 * a + b) (digit_shown (n / 10) (omega (arith, h))) (digit_shown (n % 10) (omega arith)) ∙ omega arith

quad_shown : (n : ℕ) → n < 10000 → 100 * (10 * digit_of (Some (48 + n / 10 / 10 / 10)) + digit_of (Some (48 + n / 10 / 10 % 10)))
    + (10 * digit_of (Some (48 + n / 10 % 10)) + digit_of (Some (48 + n % 10))) ≡ n
quad_shown n h =
    ap₂ (λ (a b : ℕ). 100 * a + b)
    (ap₂ (λ (a b : ℕ). 10 * a + b) (digit_shown (n / 10 / 10 / 10) (omega (arith, h))) (digit_shown (n / 10 / 10 % 10) (omega arith)))
    (ap₂ (λ (a b : ℕ). 10 * a + b) (digit_shown (n / 10 % 10) (omega arith)) (digit_shown (n % 10) (omega arith)))
    ∙ omega arith

-- ---- the text of a day

abbrev after_year : ℕ → ℕ → List ℕ
after_year m d = 45 ∷ (pair m ++ 45 ∷ pair d)

later_text : (n m d : ℕ) → n < 10000 → m < 100 → d < 100 → day_text (pos n) m d ≡ quad n ++ after_year m d
later_text n m d h i j = ap₂ (λ xs ys. xs ++ ys) (four_padded n h) (ap₂ (λ xs ys. 45 ∷ (xs ++ 45 ∷ ys)) (two_padded m i) (two_padded d j))

earlier_text : (n m d : ℕ) → suc n < 10000 → m < 100 → d < 100 → day_text (negsuc n) m d ≡ 45 ∷ (quad (suc n) ++ after_year m d)
earlier_text n m d h i j = ap₂ (λ xs ys. 45 ∷ (xs ++ ys)) (four_padded (suc n) h) (ap₂ (λ xs ys. 45 ∷ (xs ++ 45 ∷ ys)) (two_padded m i) (two_padded d j))

-- the text shows the day
record IsShown (y : ℤ) (m d : ℕ) (s : List ℕ) : Type 0 where
  year_is : year_shown s ≡ y
  month_is : month_shown s ≡ m
  day_is : day_shown s ≡ d

no_minus : (n : ℕ) → is_minus (Some (48 + n)) ≡ false
no_minus n = ne_eqb (48 + n) 45 (λ e. absurd (omega (arith, e)))

later_shown : (n m d : ℕ) → n < 10000 → m < 100 → d < 100 → IsShown (pos n) m d (quad n ++ after_year m d)
later_shown n m d h i j =
    let s = quad n ++ after_year m d in
    let q = no_minus (n / 10 / 10 / 10) in
    record {
      year_is = ap (λ (b : Bool). cond b (neg_ℤ (pos (four_shown s 1))) (pos (four_shown s 0))) q ∙ ap (λ (k : ℕ). pos k) (quad_shown n h);
      month_is = ap (λ (b : Bool). cond b (two_shown s 6) (two_shown s 5)) q ∙ pair_shown m i;
      day_is = ap (λ (b : Bool). cond b (two_shown s 9) (two_shown s 8)) q ∙ pair_shown d j;
    }

earlier_shown : (n m d : ℕ) → suc n < 10000 → m < 100 → d < 100 → IsShown (negsuc n) m d (45 ∷ (quad (suc n) ++ after_year m d))
earlier_shown n m d h i j = record {
  year_is = ap (λ (k : ℕ). neg_ℤ (pos k)) (quad_shown (suc n) h);
  month_is = pair_shown m i;
  day_is = pair_shown d j;
}

few_days : (a b c : Bool) → cond a (cond b 29 28) (cond c 30 31) ≤ 31
few_days true true c = omega arith
few_days true false c = omega arith
few_days false b true = omega arith
few_days false b false = omega arith

record IsNear (y : ℤ) (m d : ℕ) : Type 0 where
  months : m ≤ 12
  days : d ≤ 31
  early : le_z (negsuc 9998) y ≡ true
  late : le_z y (pos 9999) ≡ true

near : (y : ℤ) (m d : ℕ) → is_date y m d ≡ true → IsNear y m d
near y m d h =
    let low = le_z (negsuc 9998) y in
    let high = le_z y (pos 9999) in
    let few = nat_le d (days_in y m) in
    let a = and_parts (nat_le 1 m) (nat_le 1 d && (nat_le m 12 && (few && (low && high)))) h in
    let b = and_parts (nat_le 1 d) (nat_le m 12 && (few && (low && high))) a.1 in
    let c = and_parts (nat_le m 12) (few && (low && high)) b.1 in
    let e = and_parts few (low && high) c.1 in
    let f = and_parts low high e.1 in
    let j : d ≤ days_in y m = leb-true d (days_in y m) e.0 in
    let k : days_in y m ≤ 31 = few_days (eqb m 2) (leap (year_size y)) (eqb m 4 || eqb m 6 || eqb m 9 || eqb m 11) in
    record { months = leb-true m 12 c.0; days = omega (arith, j, k); early = f.0; late = f.1 }

shown : (y : ℤ) (m d : ℕ) → is_date y m d ≡ true → IsShown y m d (day_text y m d)
shown (pos n) m d h =
    let w = near (pos n) m d h in
    let i = w.months in
    let j = w.days in
    let l : n ≤ 9999 = leb-true n 9999 w.late in
    subst (λ (s : List ℕ). IsShown (pos n) m d s) (sym (later_text n m d (omega (arith, l)) (omega (arith, i)) (omega (arith, j)))) (later_shown n m d (omega (arith, l)) (omega (arith, i)) (omega (arith, j)))
shown (negsuc n) m d h =
    let w = near (negsuc n) m d h in
    let i = w.months in
    let j = w.days in
    let l : n ≤ 9998 = leb-true n 9998 w.early in
    subst (λ (s : List ℕ). IsShown (negsuc n) m d s) (sym (earlier_text n m d (omega (arith, l)) (omega (arith, i)) (omega (arith, j)))) (earlier_shown n m d (omega (arith, l)) (omega (arith, i)) (omega (arith, j)))

-- a day that characters may tell
abbrev day_by : List ℕ → ℤ → ℕ → ℕ → Option Value
day_by s y m d = cond (is_date y m d && pointwise nat_eq (day_text y m d) s) (Some (day y m d)) None

pub date_back : (y : ℤ) (m d : ℕ) → is_date y m d ≡ true → date_told (day_text y m d) ≡ Some (day y m d)
date_back y m d h =
    let s = day_text y m d in
    let w = shown y m d h in
    let same : bytes_eq s s ≡ true = (bytes_eq-Decides s s).1 refl in
    ap (λ (z : ℤ). day_by s z (month_shown s) (day_shown s)) w.year_is
    ∙ ap (λ (k : ℕ). day_by s y k (day_shown s)) w.month_is
    ∙ ap (λ (k : ℕ). day_by s y m k) w.day_is
    ∙ ap (λ (b : Bool). cond b (Some (day y m d)) None) (and_from (is_date y m d) (pointwise nat_eq s s) h same)
