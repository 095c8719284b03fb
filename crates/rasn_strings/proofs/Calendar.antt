-- Days of the calendar and moments, as jiff has them.
use Rattle.std.proofs.Common.{◌≡◌, refl, sym, ap, ◌∙◌, subst, ℕ, suc, ◌+◌, ◌<◌, ◌≤◌, Bool, true, false, cond, ◌&&◌, ◌||◌, eqb, ltb, leb, List, ℤ, pos, negsuc, ◌≤ℤ◌, arith, true≢false, leb-true, le-leb, lt-ltb, T, to_z, of_z, w8, Result, Ok, Err, IsOk, IfOk, MatchOption}
use Rattle.std.specs.Result.{result_ok}
use borrow.Author.Tests.{ltb-true}
use Rattle.std.proofs.lemmas.Int.{to_z-of_z}
use lib.Signed.{le_z, le_z_yes, mag}
use Rattle.rasn_types.specs.Contents.{leap, year_size, days_in, is_date, is_moment, two}
use Rattle.jiff.specs.Types.{Date, DateTime}
use Rattle.jiff.specs.Words.{IsDate, IsBetween, is_leap_year, days_in_month, IsYmd, IsTime, IsHms}
use Rattle.rasn_strings.specs.Moments.{IsMomentOf}
use Rattle.rasn_strings.proofs.Digits.{both_left, both_right}

pub is_true : (b : Bool) → T b → b ≡ true
is_true true t = refl
is_true false t = absurd t

-- a test that passed, as jiff's words have it, and back
at_most : (a b : ℤ) → le_z a b ≡ true → a ≤ℤ b
at_most a b e = le_z_yes (subst T (sym e) tt)

pub tested : (a b : ℤ) → a ≤ℤ b → le_z a b ≡ true
tested a b h = is_true (le_z a b) h.le

leap-is : (y : ℤ) → leap (year_size y) ≡ is_leap_year y
leap-is (pos n) = refl
leap-is (negsuc n) = ap leap (let e : n + 1 ≡ suc n = omega arith in e)

days_in-is : (y : ℤ) (m : ℕ) → days_in y m ≡ days_in_month y m
days_in-is y m = ap (λ b. cond (eqb m 2) (cond b 29 28) (cond (eqb m 4 || eqb m 6 || eqb m 9 || eqb m 11) 30 31)) (leap-is y)

pub date_is : (y : ℤ) (m d : ℕ) → is_date y m d ≡ true → IsDate y (pos m) (pos d)
date_is y m d e = ((at_most _ y (both_left _ _ e5), at_most y _ (both_right _ _ e5)), (at_most (pos 1) (pos m) (both_left (leb 1 m) _ e), at_most (pos m) (pos 12) (both_left (leb m 12) _ e3)), (at_most (pos 1) (pos d) (both_left (leb 1 d) _ e2), at_most (pos d) _ (ap (λ n. leb d n) (sym (days_in-is y m)) ∙ both_left (leb d (days_in y m)) _ e4)))
  where
    e2 : (leb 1 d && (leb m 12 && (leb d (days_in y m) && (le_z (negsuc 9998) y && le_z y (pos 9999))))) ≡ true
    e2 = both_right (leb 1 m) _ e

    e3 : (leb m 12 && (leb d (days_in y m) && (le_z (negsuc 9998) y && le_z y (pos 9999)))) ≡ true
    e3 = both_right (leb 1 d) _ e2

    e4 : (leb d (days_in y m) && (le_z (negsuc 9998) y && le_z y (pos 9999))) ≡ true
    e4 = both_right (leb m 12) _ e3

    e5 : (le_z (negsuc 9998) y && le_z y (pos 9999)) ≡ true
    e5 = both_right (leb d (days_in y m)) _ e4

pub is_date-true : (y : ℤ) (m d : ℕ) → IsDate y (pos m) (pos d) → is_date y m d ≡ true
is_date-true y m d h = rw (tested (pos 1) (pos m) h.1.0, tested (pos 1) (pos d) h.2.0, tested (pos m) (pos 12) h.1.1, ap (λ n. leb d n) (days_in-is y m) ∙ tested (pos d) (pos (days_in_month y m)) h.2.1, tested (negsuc 9998) y h.0.0, tested y (pos 9999) h.0.1) refl

pub is_date-false : (y : ℤ) (m d : ℕ) → (IsDate y (pos m) (pos d) → ⊥) → is_date y m d ≡ false
is_date-false y m d h = go (is_date y m d) refl
  where
    go : (b : Bool) → is_date y m d ≡ b → is_date y m d ≡ false
    go true e = absurd (h (date_is y m d e))
    go false e = e

pub unpos : (m n : ℕ) → pos m ≡ pos n → m ≡ n
unpos m n e = cc

pub date_refused : (y z mo da : ℤ) (m d : ℕ) → z ≡ y → mo ≡ pos m → da ≡ pos d → (IsDate z mo da → ⊥) → is_date y m d ≡ false
date_refused y z mo da m d e f g h = is_date-false y m d (λ i. h (rw (e, f, g) i))

-- the test of a moment by its numbers
abbrev is_clock : ℕ → ℕ → ℕ → ℕ → ℕ → ℕ → Bool
is_clock y mo d h mi s = is_date (pos y) mo d && (ltb h 24 && (ltb mi 60 && ltb s 60))

clock-true : (y mo d h mi s : ℕ) (ns : ℤ) → IsDate (pos y) (pos mo) (pos d) × IsTime (pos h) (pos mi) (pos s) ns → is_clock y mo d h mi s ≡ true
clock-true y mo d h mi s ns i = rw (is_date-true (pos y) mo d i.0, lt-ltb h 24 (below h 23 i.1.0), lt-ltb mi 60 (below mi 59 i.1.1), lt-ltb s 60 (below s 59 i.1.2)) refl
  where
    below : (a b : ℕ) → IsBetween (pos 0) (pos b) (pos a) → a < b + 1
    below a b j = let k : a ≤ b = leb-true a b (tested (pos a) (pos b) j.1) in omega arith

clock-is : (y mo d h mi s : ℕ) (ns : ℤ) → is_clock y mo d h mi s ≡ true → IsBetween (pos 0) (pos 999_999_999) ns → IsDate (pos y) (pos mo) (pos d) × IsTime (pos h) (pos mi) (pos s) ns
clock-is y mo d h mi s ns e f = (date_is (pos y) mo d (both_left (is_date (pos y) mo d) _ e), (between h 23 (both_left (ltb h 24) _ e1), between mi 59 (both_left (ltb mi 60) _ e2), between s 59 (both_right (ltb mi 60) _ e2), f))
  where
    e1 : (ltb h 24 && (ltb mi 60 && ltb s 60)) ≡ true
    e1 = both_right (is_date (pos y) mo d) _ e

    e2 : (ltb mi 60 && ltb s 60) ≡ true
    e2 = both_right (ltb h 24) _ e1

    between : (a b : ℕ) → ltb a (b + 1) ≡ true → IsBetween (pos 0) (pos b) (pos a)
    between a b j = (at_most (pos 0) (pos a) (le-leb 0 a (omega arith)), at_most (pos a) (pos b) (le-leb a b (let k : a < b + 1 = ltb-true a (b + 1) j in omega arith)))

pub back8 : (z : ℤ) → mag z < 128 → to_z w8 (of_z w8 z) ≡ z
back8 z h = to_z-of_z w8 z (record { sfits = h })

-- the moment that jiff has of these numbers, if there is one
pub moment_found : {E : Type 0} (y : ℕ) (cs : List ℕ) (ns yy mo d h mi s nn : ℤ) (r : Result DateTime E) → IsBetween (pos 0) (pos 999_999_999) ns → yy ≡ pos y → nn ≡ ns →
    mo ≡ pos (two 0 cs) → d ≡ pos (two 2 cs) → h ≡ pos (two 4 cs) → mi ≡ pos (two 6 cs) → s ≡ pos (two 8 cs) →
    (IsOk r → IsDate yy mo d × IsTime h mi s nn) × (IsDate yy mo d × IsTime h mi s nn → IsOk r) → IfOk r (λ t. IsYmd yy mo d t.date × IsHms h mi s nn t.time) →
    MatchOption (result_ok r) (is_moment y cs ≡ false) (IsMomentOf (pos y) cs ns)
moment_found y cs ns yy mo d h mi s nn (Ok t) f l o a b e g i j k = record {
  moment = clock-true y (two 0 cs) (two 2 cs) (two 4 cs) (two 6 cs) (two 8 cs) ns (rw (l, o, a, b, e, g, i) at (j.0 refl));
  year_is = k.0.0 ∙ l;
  month_is = unpos _ _ (k.0.1 ∙ a);
  day_is = unpos _ _ (k.0.2 ∙ b);
  hour_is = unpos _ _ (k.1.0 ∙ e);
  minute_is = unpos _ _ (k.1.1 ∙ g);
  second_is = unpos _ _ (k.1.2 ∙ i);
  fraction_is = k.1.3 ∙ o;
}
moment_found y cs ns yy mo d h mi s nn (Err x) f l o a b e g i j k = go (is_moment y cs) refl
  where
    go : (t : Bool) → is_moment y cs ≡ t → is_moment y cs ≡ false
    go true z = let q : IsOk {T = DateTime} (Err x) = j.1 (rw (l, o, a, b, e, g, i) (clock-is y (two 0 cs) (two 2 cs) (two 4 cs) (two 6 cs) (two 8 cs) ns z f)) in absurd (true≢false (sym q))
    go false z = z

-- a year that isn't negative is its size
pub size-is : (y : ℤ) → pos 0 ≤ℤ y → y ≡ pos (year_size y)
size-is (pos n) h = refl
size-is (negsuc n) h = absurd h.le

pub moment_found_of : {E : Type 0} (y : ℤ) (cs : List ℕ) (ns yy mo d h mi s nn : ℤ) (r : Result DateTime E) → pos 0 ≤ℤ y → IsBetween (pos 0) (pos 999_999_999) ns → yy ≡ y → nn ≡ ns →
    mo ≡ pos (two 0 cs) → d ≡ pos (two 2 cs) → h ≡ pos (two 4 cs) → mi ≡ pos (two 6 cs) → s ≡ pos (two 8 cs) →
    (IsOk r → IsDate yy mo d × IsTime h mi s nn) × (IsDate yy mo d × IsTime h mi s nn → IsOk r) → IfOk r (λ t. IsYmd yy mo d t.date × IsHms h mi s nn t.time) →
    MatchOption (result_ok r) (is_moment (year_size y) cs ≡ false) (IsMomentOf y cs ns)
moment_found_of (pos y) cs ns yy mo d h mi s nn r n f l o a b e g i j k = moment_found y cs ns yy mo d h mi s nn r f l o a b e g i j k
moment_found_of (negsuc y) cs ns yy mo d h mi s nn r n f l o a b e g i j k = absurd n.le

-- jiff's days and moments
pub date_lawful : (d : Date) → is_date d.year d.month d.day ≡ true
date_lawful d = is_date-true d.year d.month d.day (d.year_in, (at_most (pos 1) (pos d.month) (le-leb 1 d.month d.month_in.0), at_most (pos d.month) (pos 12) (le-leb d.month 12 d.month_in.1)), (at_most (pos 1) (pos d.day) (le-leb 1 d.day d.day_in.0), at_most (pos d.day) (pos (days_in_month d.year d.month)) (le-leb d.day (days_in_month d.year d.month) d.day_in.1)))

pub moment_lawful : (y : ℕ) (t : DateTime) → t.date.year ≡ pos y → (is_date (pos y) t.date.month t.date.day && (ltb t.time.hour 24 && (ltb t.time.minute 60 && ltb t.time.second 60))) ≡ true
moment_lawful y t e = rw (subst (λ z. is_date z t.date.month t.date.day ≡ true) e (date_lawful t.date), lt-ltb t.time.hour 24 t.time.hour_in, lt-ltb t.time.minute 60 t.time.minute_in, lt-ltb t.time.second 60 t.time.second_in) refl

pub day_small : (d : Date) → d.day < 100
day_small d = let h : d.day ≤ days_in_month d.year d.month = d.day_in.1 in let k = few (eqb d.month 2) (is_leap_year d.year) (eqb d.month 4 || eqb d.month 6 || eqb d.month 9 || eqb d.month 11) in omega arith
  where
    few : (a b c : Bool) → cond a (cond b 29 28) (cond c 30 31) ≤ 31
    few true true c = omega arith
    few true false c = omega arith
    few false b true = omega arith
    few false b false = omega arith
