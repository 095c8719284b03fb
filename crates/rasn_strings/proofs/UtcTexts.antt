-- The texts of UTCTime.
use Rattle.std.proofs.Common.{◌≡◌, ◌≢◌, refl, sym, ap, ap₂, ◌∙◌, subst, ℕ, ◌+◌, ◌-◌, ◌/◌, ◌%◌, ◌<◌, ◌≤◌, ◌⊎◌, inl, inr, Bool, true, false, cond, ◌&&◌, ltb, leb, List, [], ◌∷◌, ◌++◌, length, take, drop, get_or, ℤ, pos, negsuc, ◌+ℤ◌, to_z, of_z, w8, arith, true≢false, leb-true, le-leb, lt-ltb, eq-eqb, Option, Some, None, MatchOption}
use Rattle.std.proofs.lemmas.Bool.{cases_lt, le-ltb}
use Rattle.std.proofs.lemmas.List.{drop_more, drop_all, length-drop, take_all, take-append-drop}
use Rattle.std.proofs.lemmas.Int.{to_z-of_z}
use Rattle.std.specs.Int.{w16, w32}
use borrow.Author.Tests.{eqb-true, ltb-false}
use lib.Signed.{le_z, lt_z, mag}
use Rattle.rasn_types.specs.Contents.{TimeKind, are_digits, decimal_from, two, is_moment, is_z, is_time, year_size}
use Rattle.jiff.specs.Types.{DateTime}
use Rattle.rasn_strings.specs.Moments.{two_digits, month_to_second, is_utc_moment, utc_characters, utc_text, IsMomentOf, IsUtcMomentOf, IsSameMoment}
use Rattle.rasn_strings.proofs.Digits.{both_left, both_right}
use Rattle.rasn_strings.proofs.Calendar.{day_small, unpos, back8}
use Rattle.rasn_strings.proofs.Texts.{are_digits-two, number-two, two_digits-number, digits_after, characters_of, moment_named, number_below, ten}

-- the last character
abbrev zulu : List ℕ
zulu = 90 ∷ []

-- the year that two digits mean
abbrev pub year_of : ℕ → ℕ
year_of n = cond (ltb n 50) 2000 1900 + n

year-back : (y : ℕ) → 1950 ≤ y → y ≤ 2049 → year_of (y % 100) ≡ y
year-back y h k = elim (cases_lt (y % 100) 50) [
  | inl l ↦ rw (lt-ltb (y % 100) 50 l) (omega arith)
  | inr l ↦ rw (le-ltb (y % 100) 50 l) (omega arith)
]

year-in : (n : ℕ) → n < 100 → (1950 ≤ year_of n) × (year_of n ≤ 2049) × (year_of n % 100 ≡ n)
year-in n h = elim (cases_lt n 50) [
  | inl l ↦ rw (lt-ltb n 50 l) (omega arith, omega arith, omega arith)
  | inr l ↦ rw (le-ltb n 50 l) (omega arith, omega arith, omega arith)
]

-- ---- what is written is a text

-- the year of a moment that is held
held_year : (t : DateTime) (y : ℤ) → t.date.year ≡ y → is_utc_moment t ≡ true → (y ≡ pos (year_size y)) × (1950 ≤ year_size y) × (year_size y ≤ 2049)
held_year t (pos n) e h = (refl, leb-true 1950 n (both_left (leb 1950 n) _ years), leb-true n 2049 (both_right (leb 1950 n) _ years))
  where
    years : (leb 1950 n && leb n 2049) ≡ true
    years = subst (λ z. (le_z (pos 1950) z && le_z z (pos 2049)) ≡ true) e (both_left (le_z (pos 1950) t.date.year && le_z t.date.year (pos 2049)) _ h)
held_year t (negsuc n) e h = absurd (true≢false (sym (subst (λ z. (le_z (pos 1950) z && le_z z (pos 2049)) ≡ true) e (both_left (le_z (pos 1950) t.date.year && le_z t.date.year (pos 2049)) _ h))))

utc_lawful : (t : DateTime) → is_utc_moment t ≡ true → is_time TimeKind.utc (utc_characters t) ≡ true
unfolding is_time
utc_lawful t h = rw (digits, number-two (year_size t.date.year % 100) (omega arith), year-back (year_size t.date.year) y.1 y.2) (moment_named (year_size t.date.year) t (90 ∷ []) y.0)
  where
    y : (t.date.year ≡ pos (year_size t.date.year)) × (1950 ≤ year_size t.date.year) × (year_size t.date.year ≤ 2049)
    y = held_year t t.date.year refl h

    digits : are_digits (take 12 (utc_characters t)) ≡ true
    digits = are_digits-two (year_size t.date.year % 100) (month_to_second t) ∙ are_digits-two t.date.month (two_digits t.date.day ++ two_digits t.time.hour ++ two_digits t.time.minute ++ two_digits t.time.second) ∙ are_digits-two t.date.day (two_digits t.time.hour ++ two_digits t.time.minute ++ two_digits t.time.second) ∙ are_digits-two t.time.hour (two_digits t.time.minute ++ two_digits t.time.second) ∙ are_digits-two t.time.minute (two_digits t.time.second) ∙ are_digits-two t.time.second []

pub is_time-utc_text : (t : DateTime) → is_time TimeKind.utc (utc_text t) ≡ is_utc_moment t
unfolding utc_text is_time
is_time-utc_text t = go (is_utc_moment t) refl
  where
    go : (b : Bool) → is_utc_moment t ≡ b → is_time TimeKind.utc (cond b (utc_characters t) []) ≡ b
    go true e = utc_lawful t e
    go false e = refl

-- ---- each moment has a text of its own

pub two_same : (m n : ℕ) (cs ds : List ℕ) → m < 100 → n < 100 → two_digits m ++ cs ≡ two_digits n ++ ds → (m ≡ n) × (cs ≡ ds)
two_same m n cs ds h k e = let f : 48 + m / 10 % 10 ≡ 48 + n / 10 % 10 = cc in let g : 48 + m % 10 ≡ 48 + n % 10 = cc in let i : cs ≡ ds = cc in (omega arith, i)

pub moments_same : (t u : DateTime) (cs ds : List ℕ) → month_to_second t ++ cs ≡ month_to_second u ++ ds → (t.date.month ≡ u.date.month) × (t.date.day ≡ u.date.day) × (t.time.hour ≡ u.time.hour) × (t.time.minute ≡ u.time.minute) × (t.time.second ≡ u.time.second) × (cs ≡ ds)
moments_same t u cs ds e =
    let a = two_same t.date.month u.date.month (two_digits t.date.day ++ two_digits t.time.hour ++ two_digits t.time.minute ++ two_digits t.time.second ++ cs) (two_digits u.date.day ++ two_digits u.time.hour ++ two_digits u.time.minute ++ two_digits u.time.second ++ ds) (let h = t.date.month_in in omega arith) (let h = u.date.month_in in omega arith) e in
    let b = two_same t.date.day u.date.day (two_digits t.time.hour ++ two_digits t.time.minute ++ two_digits t.time.second ++ cs) (two_digits u.time.hour ++ two_digits u.time.minute ++ two_digits u.time.second ++ ds) (day_small t.date) (day_small u.date) a.1 in
    let c = two_same t.time.hour u.time.hour (two_digits t.time.minute ++ two_digits t.time.second ++ cs) (two_digits u.time.minute ++ two_digits u.time.second ++ ds) (let h = t.time.hour_in in omega arith) (let h = u.time.hour_in in omega arith) b.1 in
    let d = two_same t.time.minute u.time.minute (two_digits t.time.second ++ cs) (two_digits u.time.second ++ ds) (let h = t.time.minute_in in omega arith) (let h = u.time.minute_in in omega arith) c.1 in
    let f = two_same t.time.second u.time.second cs ds (let h = t.time.second_in in omega arith) (let h = u.time.second_in in omega arith) d.1 in
    (a.0, b.0, c.0, d.0, f.0, f.1)

pub utc_same : (t u : DateTime) → is_utc_moment t ≡ true → is_utc_moment u ≡ true → utc_text t ≡ utc_text u → IsSameMoment t u
unfolding utc_text
utc_same t u h k e = record {
  year_is = x.0 ∙ ap pos (sym (year-back (year_size t.date.year) x.1 x.2) ∙ ap year_of y.0 ∙ year-back (year_size u.date.year) z.1 z.2) ∙ sym z.0;
  month_is = m.0;
  day_is = m.1;
  hour_is = m.2;
  minute_is = m.3;
  second_is = m.4;
  fraction_is = eqb-true t.time.subsec_nanosecond 0 (both_right (le_z (pos 1950) t.date.year && le_z t.date.year (pos 2049)) _ h) ∙ sym (eqb-true u.time.subsec_nanosecond 0 (both_right (le_z (pos 1950) u.date.year && le_z u.date.year (pos 2049)) _ k));
}
  where
    x : (t.date.year ≡ pos (year_size t.date.year)) × (1950 ≤ year_size t.date.year) × (year_size t.date.year ≤ 2049)
    x = held_year t t.date.year refl h

    z : (u.date.year ≡ pos (year_size u.date.year)) × (1950 ≤ year_size u.date.year) × (year_size u.date.year ≤ 2049)
    z = held_year u u.date.year refl k

    written : (v : DateTime) → is_utc_moment v ≡ true → cond (is_utc_moment v) (utc_characters v) [] ≡ utc_characters v
    written v i = ap (λ b. cond b (utc_characters v) []) i

    y : (year_size t.date.year % 100 ≡ year_size u.date.year % 100) × (month_to_second t ++ 90 ∷ [] ≡ month_to_second u ++ 90 ∷ [])
    y = two_same (year_size t.date.year % 100) (year_size u.date.year % 100) (month_to_second t ++ 90 ∷ []) (month_to_second u ++ 90 ∷ []) (omega arith) (omega arith) (sym (written t h) ∙ e ∙ written u k)

    m : (t.date.month ≡ u.date.month) × (t.date.day ≡ u.date.day) × (t.time.hour ≡ u.time.hour) × (t.time.minute ≡ u.time.minute) × (t.time.second ≡ u.time.second) × (zulu ≡ zulu)
    m = moments_same t u (90 ∷ []) (90 ∷ []) y.1

-- ---- a text is that of its moment

-- twelve digits, by the year and the rest
utc_read : (a b c d e f g h i j k l : ℕ) (r : Option DateTime) → are_digits (a ∷ b ∷ c ∷ d ∷ e ∷ f ∷ g ∷ h ∷ i ∷ j ∷ k ∷ l ∷ []) ≡ true →
    MatchOption r (is_moment (year_of (decimal_from 0 (a ∷ b ∷ []))) (c ∷ d ∷ e ∷ f ∷ g ∷ h ∷ i ∷ j ∷ k ∷ l ∷ []) ≡ false) (IsMomentOf (pos (year_of (decimal_from 0 (a ∷ b ∷ [])))) (c ∷ d ∷ e ∷ f ∷ g ∷ h ∷ i ∷ j ∷ k ∷ l ∷ []) (pos 0)) →
    MatchOption r (is_time TimeKind.utc (a ∷ b ∷ c ∷ d ∷ e ∷ f ∷ g ∷ h ∷ i ∷ j ∷ k ∷ l ∷ 90 ∷ []) ≡ false) (IsUtcMomentOf (a ∷ b ∷ c ∷ d ∷ e ∷ f ∷ g ∷ h ∷ i ∷ j ∷ k ∷ l ∷ []))
unfolding is_time utc_text
utc_read a b c d e f g h i j k l None w m = rw (w, m) refl
utc_read a b c d e f g h i j k l (Some t) w m = record { held = held; written = sym (ap (λ x. cond x (utc_characters t) []) (sym held)) ∙ ap₂ (λ xs ys. xs ++ ys ++ 90 ∷ []) first (characters_of c d e f g h i j k l (pos 0) (pos (year_of (decimal_from 0 (a ∷ b ∷ [])))) t (digits_after a b (c ∷ d ∷ e ∷ f ∷ g ∷ h ∷ i ∷ j ∷ k ∷ l ∷ []) w) m) }
  where
    y : (1950 ≤ year_of (decimal_from 0 (a ∷ b ∷ []))) × (year_of (decimal_from 0 (a ∷ b ∷ [])) ≤ 2049) × (year_of (decimal_from 0 (a ∷ b ∷ [])) % 100 ≡ decimal_from 0 (a ∷ b ∷ []))
    y = year-in (decimal_from 0 (a ∷ b ∷ [])) (number_below a b (c ∷ d ∷ e ∷ f ∷ g ∷ h ∷ i ∷ j ∷ k ∷ l ∷ []) w)

    whole : t.time.subsec_nanosecond ≡ 0
    whole = unpos t.time.subsec_nanosecond 0 m.fraction_is

    years : (v : ℤ) (n : ℕ) → v ≡ pos n → 1950 ≤ n → n ≤ 2049 → (le_z (pos 1950) v && le_z v (pos 2049)) ≡ true
    years v n e o q = subst (λ z. (le_z (pos 1950) z && le_z z (pos 2049)) ≡ true) (sym e) (ap₂ (λ x z. x && z) (le-leb 1950 n o) (le-leb n 2049 q))

    held : is_utc_moment t ≡ true
    held = ap₂ (λ x z. x && z) (years t.date.year (year_of (decimal_from 0 (a ∷ b ∷ []))) m.year_is y.0 y.1) (eq-eqb t.time.subsec_nanosecond 0 whole)

    first : two_digits (year_size t.date.year % 100) ≡ a ∷ b ∷ []
    first = two_digits-number a b (year_size t.date.year % 100) (c ∷ d ∷ e ∷ f ∷ g ∷ h ∷ i ∷ j ∷ k ∷ l ∷ []) w (ap (λ v. year_size v % 100) m.year_is ∙ y.2)

-- a list of twelve is its twelve elements
twelve : (r : Option DateTime) (xs : List ℕ) → length xs ≡ 12 → are_digits xs ≡ true → MatchOption r (is_moment (year_of (two 0 xs)) (drop 2 xs) ≡ false) (IsMomentOf (pos (year_of (two 0 xs))) (drop 2 xs) (pos 0)) →
    MatchOption r (is_time TimeKind.utc (xs ++ 90 ∷ []) ≡ false) (IsUtcMomentOf xs)
twelve r [] l w m = absurd (omega arith)
twelve r (a ∷ []) l w m = absurd (omega arith)
twelve r (a ∷ b ∷ xs) l w m = subst (λ ys. Goal (a ∷ b ∷ ys)) (sym (ten xs (omega arith))) (λ v n. utc_read a b _ _ _ _ _ _ _ _ _ _ r v n) w m
  where
    Goal : List ℕ → Type 0
    Goal ys = are_digits ys ≡ true → MatchOption r (is_moment (year_of (two 0 ys)) (drop 2 ys) ≡ false) (IsMomentOf (pos (year_of (two 0 ys))) (drop 2 ys) (pos 0)) →
        MatchOption r (is_time TimeKind.utc (ys ++ 90 ∷ []) ≡ false) (IsUtcMomentOf ys)

pub utc_found : (r : Option DateTime) (ds : List ℕ) (y : ℤ) → length ds ≡ 12 → are_digits ds ≡ true → y ≡ pos (year_of (two 0 ds)) → MatchOption r (is_moment (year_size y) (drop 2 ds) ≡ false) (IsMomentOf y (drop 2 ds) (pos 0)) →
    MatchOption r (is_time TimeKind.utc (ds ++ 90 ∷ []) ≡ false) (IsUtcMomentOf ds)
utc_found r ds y l w e m = twelve r ds l w (subst (λ z. MatchOption r (is_moment (year_size z) (drop 2 ds) ≡ false) (IsMomentOf z (drop 2 ds) (pos 0))) e m)

-- ---- the form of a text

is_z-is : (cs : List ℕ) → is_z cs ≡ true → cs ≡ zulu
is_z-is [] h = absurd (true≢false (sym h))
is_z-is (c ∷ []) h = ap (λ (x : ℕ). x ∷ []) (eqb-true c 90 h)
is_z-is (c ∷ d ∷ cs) h = absurd (true≢false (sym h))

head_is : (c : ℕ) (cs : List ℕ) → c ∷ cs ≡ zulu → c ≡ 90
head_is c cs e = cc

pub not_utc : (cs : List ℕ) → (length cs ≢ 13) ⊎ ((get_or cs 12 0 ≢ 90) ⊎ (are_digits (take 12 cs) ≡ false)) → is_time TimeKind.utc cs ≡ false
unfolding is_time
not_utc cs s = go (is_time TimeKind.utc cs) refl
  where
    wrong : is_time TimeKind.utc cs ≡ true → (length cs ≢ 13) ⊎ ((get_or cs 12 0 ≢ 90) ⊎ (are_digits (take 12 cs) ≡ false)) → ⊥
    wrong e s =
        let l : 12 ≤ length cs = leb-true 12 (length cs) (both_left (leb 12 (length cs)) _ e) in
        let f = both_right (leb 12 (length cs)) _ e in
        let d : are_digits (take 12 cs) ≡ true = both_left (are_digits (take 12 cs)) _ f in
        let z : drop 12 cs ≡ zulu = is_z-is (drop 12 cs) (both_left (is_z (drop 12 cs)) _ (both_right (are_digits (take 12 cs)) _ f)) in
        let k : length cs ≡ 13 = let a : length (drop 12 cs) ≡ 1 = ap length z in let b = length-drop 12 cs in omega arith in
        let g : get_or cs 12 0 ≡ 90 = let a = drop_more cs 12 0 (omega arith) in head_is (get_or cs 12 0) (drop 13 cs) (sym a ∙ z) in
        elim s [
          | inl n ↦ n k
          | inr m ↦ (elim m [ inl n ↦ n g | inr n ↦ true≢false (sym d ∙ n) ])
        ]

    go : (b : Bool) → is_time TimeKind.utc cs ≡ b → is_time TimeKind.utc cs ≡ false
    go true e = absurd (wrong e s)
    go false e = e

-- thirteen characters, the last of them Z
pub with_z : (cs : List ℕ) → length cs ≡ 13 → get_or cs 12 0 ≡ 90 → take 12 cs ++ zulu ≡ cs
with_z cs l e = ap (λ xs. take 12 cs ++ xs) (sym (drop_more cs 12 0 (omega arith) ∙ ap₂ (λ (x : ℕ) xs. x ∷ xs) e (drop_all 13 cs (omega arith)))) ∙ take-append-drop 12 cs

-- ---- what the code finds

-- the year of two digits, as it is summed up
pub year_sum : (n bits : ℕ) (x f v : ℤ) → n < 100 → x ≡ pos n → f ≡ to_z w8 (of_z w8 x) → to_z w16 bits ≡ v → v ≡ pos (cond (ltb n 50) 2000 1900) → to_z w16 (of_z w16 (to_z w16 bits +ℤ to_z w16 (of_z w16 f))) ≡ pos (year_of n)
year_sum n bits x f v h e g i j = rw (i ∙ j, g, e, back8 (pos n) (omega arith), to_z-of_z w16 (pos n) (record { sfits = omega arith })) (to_z-of_z w16 (pos (year_of n)) (record { sfits = let k = year-in n h in let a = k.1 in omega arith }))

pub early : (n : ℕ) (x v : ℤ) → n < 100 → x ≡ pos n → lt_z (to_z w8 (of_z w8 x)) (pos 50) ≡ true → v ≡ pos 2000 → v ≡ pos (cond (ltb n 50) 2000 1900)
early n x v h e l i = rw (subst (λ z. lt_z z (pos 50) ≡ true) (ap (λ z. to_z w8 (of_z w8 z)) e ∙ back8 (pos n) (omega arith)) l) i

pub late : (n : ℕ) (x v : ℤ) → n < 100 → x ≡ pos n → lt_z (to_z w8 (of_z w8 x)) (pos 50) ≡ false → v ≡ pos 1900 → v ≡ pos (cond (ltb n 50) 2000 1900)
late n x v h e l i = rw (subst (λ z. lt_z z (pos 50) ≡ false) (ap (λ z. to_z w8 (of_z w8 z)) e ∙ back8 (pos n) (omega arith)) l) i

-- the slice of all but the first two digits
pub utc_found_in : (r : Option DateTime) (ds : List ℕ) (y : ℤ) → length ds ≡ 12 → are_digits ds ≡ true → y ≡ pos (year_of (two 0 ds)) →
    MatchOption r (is_moment (year_size y) (take (length ds - 2) (drop 2 ds)) ≡ false) (IsMomentOf y (take (length ds - 2) (drop 2 ds)) (pos 0)) → MatchOption r (is_time TimeKind.utc (ds ++ 90 ∷ []) ≡ false) (IsUtcMomentOf ds)
utc_found_in r ds y l w e m = utc_found r ds y l w e (subst (λ xs. MatchOption r (is_moment (year_size y) xs ≡ false) (IsMomentOf y xs (pos 0))) (take_all (length ds - 2) (drop 2 ds) (let a = length-drop 2 ds in omega arith)) m)

pub year_below : (ds : List ℕ) → length ds ≡ 12 → are_digits ds ≡ true → two 0 ds < 100
year_below [] l w = absurd (omega arith)
year_below (a ∷ []) l w = absurd (omega arith)
year_below (a ∷ b ∷ ds) l w = number_below a b ds w

-- a year that isn't before 1950 nor after 2049
held_by : (y : ℤ) → lt_z y (pos 1950) ≡ false → lt_z (pos 2049) y ≡ false → (le_z (pos 1950) y && le_z y (pos 2049)) ≡ true
held_by (pos n) l h = rw (le-leb 1950 n (ltb-false n 1950 l), le-leb n 2049 (ltb-false 2049 n h)) refl
held_by (negsuc n) l h = absurd (true≢false l)

pub utc_written : (items : List ℕ) (t m : DateTime) (y s : ℤ) → m ≡ t → items ≡ utc_characters m → mag y < 32768 → lt_z (to_z w16 (of_z w16 y)) (pos 1950) ≡ false → lt_z (pos 2049) (to_z w16 (of_z w16 y)) ≡ false → y ≡ m.date.year → mag s < 2147483648 → of_z w32 s ≡ 0 → s ≡ pos m.time.subsec_nanosecond → items ≡ utc_text t
unfolding utc_text
utc_written items t m y s e i r l h f q z g = i ∙ sym (ap (λ b. cond b (utc_characters m) []) held) ∙ ap (λ x. cond (is_utc_moment x) (utc_characters x) []) e
  where
    same : to_z w16 (of_z w16 y) ≡ m.date.year
    same = to_z-of_z w16 y (record { sfits = r }) ∙ f

    held : is_utc_moment m ≡ true
    held = ap₂ (λ a b. a && b) (held_by m.date.year (subst (λ v. lt_z v (pos 1950) ≡ false) same l) (subst (λ v. lt_z (pos 2049) v ≡ false) same h)) (eq-eqb m.time.subsec_nanosecond 0 (unpos _ _ (sym g ∙ sym (to_z-of_z w32 s (record { sfits = q })) ∙ ap (λ (n : ℕ). to_z w32 n) z)))
