-- Characters and dates as they are written.
use Rattle.std.proofs.Common.{◌≡◌, refl, ap, subst, ℕ, zero, suc, ◌+◌, ◌-◌, ◌^◌, ◌<◌, ◌≤◌, max, Bool, true, false, cond, leb, ltb, eqb, List, [], ◌∷◌, length, arith, Option, Some, None, ℤ, pos, negsuc, ltb-true, leb-true, eqb-true}
use lib.Signed.{le_z}
use Rattle.rasn_types.specs.Alphabets.{char_width, char_code, keep_own, index_of, more, greatest}
use Rattle.rasn_types.specs.Bits.{width}
use Rattle.rasn_types.specs.Contents.{is_date}
use Rattle.rasn_types.specs.Values.{day}
use Rattle.rasn_types.specs.Variants.{Variant, aligned, unaligned}
use Rattle.rasn_types.proofs.Bits.{wide_enough}
use Rattle.rasn_constraints.specs.Bounds.{Size}
use Rattle.per_core.specs.Basic.{Char, String, IsConstrainedWhole, YearIn, year_form, Year, IsDay, As}
use Rattle.per_core.specs.Canon.{char_writers, coded, date_of, year_writer, in_range, year_of}
use Rattle.per_core.specs.Counts.{char_items, counted, constrained_whole, number_under}
use Rattle.per_core.specs.Spellings.{Settings, BitField}
use Rattle.per_core.specs.Writers.{Writer, ◌▹◌}
use Rattle.per_core.proofs.Counting.{counted_within}
use Rattle.per_core.proofs.LengthForms.{and_left, and_right}
use Rattle.per_core.proofs.Numbers.{whole_in_octets}
use Rattle.per_core.proofs.WriterSpellings.{Within, refused_within, then_within, if_within, relax, field_within, bounded_within}

index_below : (ds : List ℕ) (c i : ℕ) → index_of c ds ≡ Some i → (i < length ds) × (c ≤ greatest ds)
index_below [] c i e = absurd (cc)
index_below (d ∷ ds) c i e = go (eqb c d) refl e (index_below ds c)
  where
    later : (o : Option ℕ) → more o ≡ Some i → ((j : ℕ) → o ≡ Some j → (j < length ds) × (c ≤ greatest ds)) → (i < suc (length ds)) × (c ≤ max d (greatest ds))
    later None e r = absurd (cc)
    later (Some j) e r = let u : 1 + j ≡ i = cc in let q = r j refl in let q0 : j < length ds = q.0 in let q1 : c ≤ greatest ds = q.1 in (omega arith, omega arith)

    go : (b : Bool) → eqb c d ≡ b → cond b (Some 0) (more (index_of c ds)) ≡ Some i → ((j : ℕ) → index_of c ds ≡ Some j → (j < length ds) × (c ≤ greatest ds)) → (i < suc (length ds)) × (c ≤ max d (greatest ds))
    go true h e r = let u : 0 ≡ i = cc in let v : c ≡ d = eqb-true c d h in (omega arith, omega arith)
    go false h e r = later (index_of c ds) e r

code_below : (a : Settings) (alphabet : List ℕ) (c k : ℕ) → char_code a.variant alphabet c ≡ Some k → k < 2 ^ char_width a.variant alphabet
unfolding char_code
code_below a alphabet c k e = go (ltb (greatest alphabet) (2 ^ char_width a.variant alphabet)) refl (index_of c alphabet) refl e
  where
    go : (own : Bool) → ltb (greatest alphabet) (2 ^ char_width a.variant alphabet) ≡ own → (o : Option ℕ) → index_of c alphabet ≡ o → keep_own own c o ≡ Some k → k < 2 ^ char_width a.variant alphabet
    go own h None i e = absurd (cc)
    go true h (Some j) i e = let u : c ≡ k = cc in let q = index_below alphabet c j i in let q1 : c ≤ greatest alphabet = q.1 in
        let g = ltb-true (greatest alphabet) (2 ^ char_width a.variant alphabet) h in omega arith
    go false h (Some j) i e = let u : j ≡ k = cc in let q = index_below alphabet c j i in let q0 : j < length alphabet = q.0 in let w = wide_enough a.variant alphabet in omega arith

char_within : (a : Settings) (alphabet : List ℕ) (c : ℕ) → Within (coded (char_width a.variant alphabet) (char_code a.variant alphabet c)) (Char a alphabet c)
char_within a alphabet c = go (char_code a.variant alphabet c) refl
  where
    go : (o : Option ℕ) → char_code a.variant alphabet c ≡ o → Within (coded (char_width a.variant alphabet) o) (Char a alphabet c)
    go None e = refused_within
    go (Some k) e = relax (λ p b x. record { index = k; is = e; spelled = x }) (field_within (char_width a.variant alphabet) k (code_below a alphabet c k e))

pub string_within : (a : Settings) (alphabet : List ℕ) (size : Size) (mark : Bool) (cs : List ℕ) →
    Within (counted a.variant size mark (char_items (char_width a.variant alphabet)) (char_writers a.variant alphabet cs)) (String a alphabet size mark cs)
unfolding char_writers
string_within a alphabet size mark cs = counted_within (λ c. coded (char_width a.variant alphabet) (char_code a.variant alphabet c)) (Char a alphabet) (char_within a alphabet) a size mark (char_items (char_width a.variant alphabet)) cs

-- dates
index_within : (a : Settings) (k : ℕ) → Within (constrained_whole a.variant 4 k) (BitField 2 k)
unfolding width
index_within a k = go a.variant a.strict
  where
    go : (v : Variant) (z : Bool) → Within (constrained_whole v 4 k) (BitField 2 k)
    go unaligned z = relax (λ p b x. x.spelled) (bounded_within (record { variant = unaligned; strict = z }) 4 k)
    go aligned z = relax (λ p b x. x.spelled) (bounded_within (record { variant = aligned; strict = z }) 4 k)

year_in : (a : Settings) (low n : ℕ) (y : ℤ) → le_z (pos low) y ≡ true → Within (constrained_whole a.variant n (year_of y - low)) (YearIn a low n y)
year_in a low n (pos y) h = relax (λ p b x. record { past = y - low; is = ap pos (let l = leb-true low y h in omega arith); spelled = x }) (bounded_within a n (y - low))
year_in a low n (negsuc y) h = absurd (cc)

year_within : (a : Settings) (y : ℤ) → Within (year_writer a.variant y) (Year a y)
unfolding year_writer number_under
year_within a y = first (in_range 2005 2020 y) refl
  where
    by : (k : ℕ) {w : Writer} → Within w (year_form a k y) → Within (constrained_whole a.variant 4 k ▹ w) (Year a y)
    by k h = relax (λ p b x. record { range = k; spelled = x }) (then_within (index_within a k) h)

    third : (t : Bool) → in_range 1749 2004 y ≡ t → Within (cond t (constrained_whole a.variant 4 2 ▹ constrained_whole a.variant 256 (year_of y - 1749)) (constrained_whole a.variant 4 3 ▹ number_under a.variant None None y)) (Year a y)
    third true e = by 2 (year_in a 1749 256 y (and_left (le_z (pos 1749) y) (le_z y (pos 2004)) e))
    third false e = by 3 (whole_in_octets a y)

    second : (t : Bool) → in_range 2021 2276 y ≡ t → Within (cond t (constrained_whole a.variant 4 1 ▹ constrained_whole a.variant 256 (year_of y - 2021)) (cond (in_range 1749 2004 y) (constrained_whole a.variant 4 2 ▹ constrained_whole a.variant 256 (year_of y - 1749)) (constrained_whole a.variant 4 3 ▹ number_under a.variant None None y))) (Year a y)
    second true e = by 1 (year_in a 2021 256 y (and_left (le_z (pos 2021) y) (le_z y (pos 2276)) e))
    second false e = third (in_range 1749 2004 y) refl

    first : (t : Bool) → in_range 2005 2020 y ≡ t → Within (cond t (constrained_whole a.variant 4 0 ▹ constrained_whole a.variant 16 (year_of y - 2005)) (cond (in_range 2021 2276 y) (constrained_whole a.variant 4 1 ▹ constrained_whole a.variant 256 (year_of y - 2021)) (cond (in_range 1749 2004 y) (constrained_whole a.variant 4 2 ▹ constrained_whole a.variant 256 (year_of y - 1749)) (constrained_whole a.variant 4 3 ▹ number_under a.variant None None y)))) (Year a y)
    first true e = by 0 (year_in a 2005 16 y (and_left (le_z (pos 2005) y) (le_z y (pos 2020)) e))
    first false e = second (in_range 2021 2276 y) refl

pub day_within : (a : Settings) (y : ℤ) (m d : ℕ) → Within (date_of a.variant y m d) (As (λ (x : ℤ × ℕ × ℕ). day x.0 (suc x.1) (suc x.2)) (IsDay a) (day y m d))
unfolding date_of
day_within a y zero d = refused_within
day_within a y (suc m) zero = if_within (is_date y (suc m) 0) (λ e. absurd (let f : false ≡ true = and_right (leb 1 (suc m)) false e in cc))
day_within a y (suc m) (suc d) = if_within (is_date y (suc m) (suc d)) (λ e. relax (λ p b x. record { of = (y, m, d); is = refl; spelled = record { is_day = e; spelled = x } })
    (then_within (year_within a y) (then_within (subst (λ (n : ℕ). Within (constrained_whole a.variant 12 n) (IsConstrainedWhole a 12 m)) (omega arith) (bounded_within a 12 m)) (subst (λ (n : ℕ). Within (constrained_whole a.variant 31 n) (IsConstrainedWhole a 31 d)) (omega arith) (bounded_within a 31 d)))))
