-- Years, months and days as they are read (X.691 32).
use lib.Signed.{le_z}
use Rattle.std.proofs.Common.{◌≡◌, refl, sym, ap, ap₂, ◌∙◌, subst, ℕ, zero, suc, ◌+◌, ◌-◌, ◌<◌, ◌≤◌, Bool, true, false, ◌&&◌, leb-true, le-leb, arith, true≢false, Option, Some, ℤ, pos, negsuc, inl, inr}
use Rattle.rasn_types.specs.Bits.{Bits, width}
use Rattle.rasn_types.specs.Contents.{is_date}
use Rattle.rasn_types.specs.Values.{Value, day}
use Rattle.rasn_types.specs.Variants.{Variant, aligned, unaligned}
use Rattle.rasn_constraints.specs.Bounds.{Bounds, between, holds, unbounded, lower_of, upper_of, value_of}
use Rattle.rasn_constraints.specs.Ranges.{unsigned_range}
use Rattle.std.specs.Prelude.{Result, Ok, Err, IfOk}
use Rattle.rasn_schema.specs.Schemas.{Schema}
use Rattle.per_core.specs.Basic.{IsConstrainedWhole, IsNumberOf, Year, YearIn, basic, basic_in, constrained_by, constrained_form, year_form}
use Rattle.per_core.specs.Spellings.{Settings, BitField, Then, Took, NoneIn}
use Rattle.per_core.proofs.SpellingsAgree.{Agree, field_agree, never_agree, then_agree, weaken}
use Rattle.per_core.proofs.LengthForms.{and_left, and_right, bounded_agree}
use Rattle.per_core.proofs.TakenInTurn.{then_took, took_agree, took_map, took_then}
use Rattle.per_core.proofs.Unique.{in_whole_agree}
use Rattle.per_core.specs.BitFieldFaults.{IsOfBitField}
use Rattle.per_read.specs.Kinds.{Faulty, IsTested}
use Rattle.per_core.specs.NumberFaults.{IsEmpty, IsOfConstrained, IsOfNumber, IsOutside, IsUnheld, under_bounds}
use Rattle.per_core.specs.NumberFaults.{within_bounds}
use Rattle.per_core.specs.declared.decode_error.DecodeErrorKind.{DecodeErrorKind}
use Rattle.per_core.specs.declared.decode_error.DecodeErrorKind.TheVariants.{IntegerOverflow, InvalidDate}
use Rattle.per_core.specs.declared.decode_error.DecodeErrorKind.TheVariants.{UnexpectedEmptyInput}
use Rattle.per_core.specs.declared.decode_error.DecodeErrorKind.TheVariants.{ValueConstraintNotSatisfied}
use Rattle.per_read.proofs.Calls.{of_short}
use Rattle.per_read.proofs.Fields.{field_below, when_took}
use Rattle.per_read.proofs.OfFields.{constrained_tested, unconstrained_tested}
use Rattle.per_read.proofs.Refusals.{faulty_map}
use Rattle.per_core.specs.TimeFaults.{IsOfDate, IsOfYearField, IsOfYearIn, no_day_in_month, no_month, numbers_form}
use Rattle.per_decoding.specs.Years
use Rattle.per_decoding.specs.Years.{IsOfYear}
use Rattle.per_core.proofs.Fits.{fits_small}
use Rattle.per_decoding.proofs.NumbersWithin.{number_within}

-- a number under both bounds is one of so many
module _ (a : Settings) (l u n : ℕ) (range : Bounds) where
  abbrev Bounded : ℤ → Bits → Bits → Type 0
  Bounded z s t = Took (IsNumberOf a (between (pos l) (pos u)) false range z) s t

  pub one_of : (z : ℤ) {s t : Bits} → u - l + 1 ≡ n → Bounded z s t → (k : ℕ) × (z ≡ pos (l + k)) × Took (IsConstrainedWhole a n k) s t
  one_of (pos v) e b =
      let h = leb-true l v (and_left (le_z (pos l) (pos v)) (le_z (pos v) (pos u)) b.spelled.spelled.within) in
      (v - l, ap pos (let i : v ≡ l + (v - l) = omega (arith, h) in i), took_map (λ p c x. subst (λ (m : ℕ). IsConstrainedWhole a m (v - l) p c) e x.spelled.spelled.1) b)
  one_of (negsuc v) e b = absurd (let h : false ≡ true = b.spelled.spelled.within in cc)

  pub of_one : (k : ℕ) {s t : Bits} → u - l + 1 ≡ n → l ≤ u → u < 65536 → holds range (pos (l + k)) ≡ true → Took (IsConstrainedWhole a n k) s t → Bounded (pos (l + k)) s t
  of_one k e o i r b =
      let below : k < n = b.spelled.below in
      let least : le_z (pos l) (pos (l + k)) ≡ true = le-leb l (l + k) (omega arith) in
      let most : le_z (pos (l + k)) (pos u) ≡ true = le-leb (l + k) u (omega (arith, below, e, o)) in
      let within : holds (between (pos l) (pos u)) (pos (l + k)) ≡ true = ap₂ (λ b c. b && c) least most in
      let fits = fits_small (l + k) (omega (arith, below, e, o, i)) in
      let back : l + k - l ≡ k = omega arith in
      took_map (λ p c x. record {
        in_range = r;
        spelled = record {
          within = within;
          spelled = (fits, subst (λ (m : ℕ). IsConstrainedWhole a m (l + k - l) p c) (sym e) (subst (λ (m : ℕ). IsConstrainedWhole a n m p c) (sym back) x));
        };
      }) b

  pub none_of : {s : Bits} → u - l + 1 ≡ n → l ≤ u → u < 65536 → ((k : ℕ) → k < n → holds range (pos (l + k)) ≡ true) → NoneIn (IsNumberOf a (between (pos l) (pos u)) false range) s
      → NoneIn (IsConstrainedWhole a n) s
  none_of e o i r none k t b = none (pos (l + k)) t (of_one k e o i (r k b.spelled.below) b)

-- no number under both bounds has no octets
not_empty : (a : Settings) (l u : ℤ) (s : Bits) → IsEmpty a (between l u) false s → ⊥
not_empty a l u s h = h.took.spelled

-- a number between two others of 16 bits is one of a range that holds these
not_unheld : (a : Settings) (l u : ℕ) (range : Bounds) (s : Bits) → u < 65536 → ((v : ℕ) → v ≤ u → holds range (pos v) ≡ true) → IsUnheld a (between (pos l) (pos u)) false range s → ⊥
not_unheld a l u range s few held h = go h.number h.took h.none
  where
    go : (z : ℤ) → Took (within_bounds a (between (pos l) (pos u)) z) s h.rest → (Took (IsNumberOf a (between (pos l) (pos u)) false range z) s h.rest → ⊥) → ⊥
    go (pos v) b none =
        let w = when_took b in
        let most = leb-true v u (and_right (le_z (pos l) (pos v)) (le_z (pos v) (pos u)) w.0) in
        none (number_within a (between (pos l) (pos u)) range (pos v) w.1 (fits_small v (omega (arith, most, few))) w.0 (held v most))
    go (negsuc v) b none = let w : false ≡ true = (when_took b).0 in absurd cc

in_byte : (n : ℕ) → n ≤ 255 → (v : ℕ) → v ≤ n → holds (unsigned_range 8) (pos v) ≡ true
in_byte n i v h = ap₂ (λ b c. b && c) (le-leb 0 v (omega arith)) (le-leb v 255 (omega (arith, h, i)))

-- each code of a range of years is one of its years
full16 : (v : Variant) (a : Settings) (o : ℕ) {s t : Bits} → Took (constrained_by v a 16 o) s t → o < 16
unfolding width
full16 unaligned a o b = field_below b
full16 aligned a o b = field_below b

full256 : (v : Variant) (a : Settings) (o : ℕ) {s t : Bits} → Took (constrained_by v a 256 o) s t → o < 256
unfolding width
full256 unaligned a o b = field_below b
full256 aligned a o b = field_below (then_took b).2

not_outside : (a : Settings) (l u n : ℕ) (named low high : Option ℤ) (s : Bits) → u - l + 1 ≡ n → l ≤ u → ((o : ℕ) (t : Bits) → Took (constrained_form a n o) s t → o < n)
    → IsOutside a (between (pos l) (pos u)) false named low high s → ⊥
not_outside a l u n named low high s e o full h = go h.number h.outside h.took
  where
    go : (z : ℤ) → holds (between (pos l) (pos u)) z ≡ false → Took (under_bounds a (Some (pos l)) (Some (pos u)) z) s h.rest → ⊥
    go (pos v) out b =
        let w = when_took b in
        let least = leb-true l v w.0 in
        let few : v - l < n = full (v - l) h.rest (subst (λ (m : ℕ). Took (constrained_form a m (v - l)) s h.rest) e w.1) in
        let within : holds (between (pos l) (pos u)) (pos v) ≡ true = ap₂ (λ b c. b && c) w.0 (le-leb v u (omega (arith, least, few, e, o))) in
        true≢false (sym within ∙ out)
    go (negsuc v) out b = let w : false ≡ true = (when_took b).0 in absurd cc

-- one year is in bits
year_in_agree : (a : Settings) (low n : ℕ) (y z : ℤ) → Agree (y ≡ z) (YearIn a low n y) (YearIn a low n z)
year_in_agree a low n y z = record {
  agree = λ p b c s t u v e.
      let r = (bounded_agree a n u.past v.past).agree p b c s t u.spelled v.spelled e in
      (u.is ∙ ap (λ (k : ℕ). pos (low + k)) r.0 ∙ sym v.is, r.1);
}

year_form_agree : (a : Settings) (k : ℕ) (y z : ℤ) → Agree (y ≡ z) (year_form a k y) (year_form a k z)
year_form_agree a zero y z = year_in_agree a 2005 16 y z
year_form_agree a (suc zero) y z = year_in_agree a 2021 256 y z
year_form_agree a (suc (suc zero)) y z = year_in_agree a 1749 256 y z
year_form_agree a (suc (suc (suc zero))) y z = in_whole_agree a y z
year_form_agree a (suc (suc (suc (suc k)))) y z = never_agree

pub year_agree : (a : Settings) (y z : ℤ) → Agree (y ≡ z) (Year a y) (Year a z)
year_agree a y z = record {
  agree = λ p b c s t u v e.
      let w = then_agree (field_agree 2 u.range v.range) (λ l. subst (λ k. Agree (y ≡ z) (year_form a u.range y) (year_form a k z)) l (year_form_agree a u.range y z)) in
      let r = w.agree p b c s t u.spelled v.spelled e in (r.0.1, r.1);
}

-- what a kind says of a year, which tests show too
pub year_tested : (a : Settings) (s : Bits) (k : DecodeErrorKind) → IsOfYearField a s k → IsTested k
year_tested a s k (inl h) = of_short k h
year_tested a s k (inr (zero, (m, b, h))) = constrained_tested a 16 m k h
year_tested a s k (inr (suc zero, (m, b, h))) = constrained_tested a 256 m k h
year_tested a s k (inr (suc (suc zero), (m, b, h))) = constrained_tested a 256 m k h
year_tested a s k (inr (suc (suc (suc n)), (m, b, h))) = unconstrained_tested k h

-- a year by the index of its range
module _ (a : Settings) where
  year_of_range : (i : ℕ) (z : ℤ) {s m t : Bits} → Took (BitField 2 i) s m → Took (year_form a i z) m t → Took (Year a z) s t
  year_of_range i z b c = took_map (λ p d x. record { range = i; spelled = x }) (took_then b c)

  range_of_year : (z : ℤ) {s t : Bits} → Took (Year a z) s t → (i : ℕ) × (m : Bits) × Took (BitField 2 i) s m × Took (year_form a i z) m t
  range_of_year z {s} {t} b =
      let c : Took (Then (BitField 2 b.spelled.range) (year_form a b.spelled.range z)) s t = record { front = b.front; joins = b.joins; spelled = b.spelled.spelled } in
      let q = then_took c in (b.spelled.range, q.0, q.1, q.2)

  -- too few bits for an index, and what a kind says after it
  pub short_year : (s : Bits) (k : DecodeErrorKind) → IsOfBitField 2 s k → IsOfYear a s k
  short_year s UnexpectedEmptyInput h = absurd (let i : IsTested UnexpectedEmptyInput = of_short UnexpectedEmptyInput h in i)
  short_year s _ h = inl h

  pub no_index : {s : Bits} → NoneIn (BitField 2) s → NoneIn (Year a) s
  no_index none z t b = let q = range_of_year z b in none q.0 q.1 q.2

  no_year : (i : ℕ) {s m : Bits} → Took (BitField 2 i) s m → NoneIn (year_form a i) m → NoneIn (Year a) s
  no_year i {m = m} b none z t c =
      let q = range_of_year z c in
      let r = took_agree (field_agree 2 q.0 i) q.2 b in
      none z t (subst (λ (w : Bits). Took (year_form a i z) w t) r.1 (subst (λ (k : ℕ). Took (year_form a k z) q.1 t) r.0 q.3))

  -- a year of a range of n years, from l to u
  module _ (l u n : ℕ) (e : u - l + 1 ≡ n) (o : l ≤ u) (few : u < 65536) where
    year_took : (z : ℤ) {m t : Bits} → Took (IsNumberOf a (between (pos l) (pos u)) false unbounded z) m t → Took (YearIn a l n z) m t
    year_took z b = let q = one_of a l u n unbounded z e b in took_map (λ p c x. record { past = q.0; is = q.1; spelled = x }) q.2

    no_year_in : {m : Bits} → NoneIn (IsNumberOf a (between (pos l) (pos u)) false unbounded) m → NoneIn (YearIn a l n) m
    no_year_in none z t b = none_of a l u n unbounded e o few (λ k h. refl) none b.spelled.past t (record { front = b.front; joins = b.joins; spelled = b.spelled.spelled })

    year_kind : (i : ℕ) (s m : Bits) → Took (BitField 2 i) s m → ((k : DecodeErrorKind) → IsOfConstrained a n m k → IsOfYearIn a i m k) → ((p : ℕ) (t : Bits) → Took (constrained_form a n p) m t → p < n) → (k : DecodeErrorKind) → IsOfNumber a (between (pos l) (pos u)) false unbounded m k → IsOfYear a s k
    year_kind i s m b says full UnexpectedEmptyInput h = absurd (not_empty a (pos l) (pos u) m h)
    year_kind i s m b says full (ValueConstraintNotSatisfied told) h = absurd (not_outside a l u n (value_of told) (lower_of told) (upper_of told) m e o full h)
    year_kind i s m b says full (IntegerOverflow width) h = absurd (not_unheld a l u unbounded m few (λ v i. refl) h)
    year_kind i s m b says full k h = inr (i, (m, b, says k (subst (λ (c : ℕ). IsOfConstrained a c m k) e h)))

  -- no year between two others is there, for a reason
  abbrev NoYear : ℕ → ℕ → Bits → DecodeErrorKind → Type 0
  NoYear l u m k = Faulty (IsOfNumber a (between (pos l) (pos u)) false unbounded m) (NoneIn (IsNumberOf a (between (pos l) (pos u)) false unbounded) m) k

  pub first_year : (z : ℤ) {s m t : Bits} → Took (BitField 2 0) s m → Took (IsNumberOf a (between (pos 2005) (pos 2020)) false unbounded z) m t → Took (Year a z) s t
  first_year z b c = year_of_range 0 z b (year_took 2005 2020 16 refl (omega arith) (omega arith) z c)

  pub later_year : (z : ℤ) {s m t : Bits} → Took (BitField 2 1) s m → Took (IsNumberOf a (between (pos 2021) (pos 2276)) false unbounded z) m t → Took (Year a z) s t
  later_year z b c = year_of_range 1 z b (year_took 2021 2276 256 refl (omega arith) (omega arith) z c)

  pub earlier_year : (z : ℤ) {s m t : Bits} → Took (BitField 2 2) s m → Took (IsNumberOf a (between (pos 1749) (pos 2004)) false unbounded z) m t → Took (Year a z) s t
  earlier_year z b c = year_of_range 2 z b (year_took 1749 2004 256 refl (omega arith) (omega arith) z c)

  pub any_year : (z : ℤ) {s m t : Bits} → Took (BitField 2 3) s m → Took (IsNumberOf a unbounded false unbounded z) m t → Took (Year a z) s t
  any_year z b c = year_of_range 3 z b (took_map (λ p d x. x.spelled.spelled) c)

  pub no_first_year : {s m : Bits} (k : DecodeErrorKind) → Took (BitField 2 0) s m → NoYear 2005 2020 m k → Faulty (IsOfYear a s) (NoneIn (Year a) s) k
  no_first_year {s} {m} k b =
      faulty_map k (year_kind 2005 2020 16 refl (omega arith) (omega arith) 0 s m b (λ k h. h) (λ p t c. full16 a.variant a p c) k) (λ none. no_year 0 b (no_year_in 2005 2020 16 refl (omega arith) (omega arith) none))

  pub no_later_year : {s m : Bits} (k : DecodeErrorKind) → Took (BitField 2 1) s m → NoYear 2021 2276 m k → Faulty (IsOfYear a s) (NoneIn (Year a) s) k
  no_later_year {s} {m} k b =
      faulty_map k (year_kind 2021 2276 256 refl (omega arith) (omega arith) 1 s m b (λ k h. h) (λ p t c. full256 a.variant a p c) k) (λ none. no_year 1 b (no_year_in 2021 2276 256 refl (omega arith) (omega arith) none))

  pub no_earlier_year : {s m : Bits} (k : DecodeErrorKind) → Took (BitField 2 2) s m → NoYear 1749 2004 m k → Faulty (IsOfYear a s) (NoneIn (Year a) s) k
  no_earlier_year {s} {m} k b =
      faulty_map k (year_kind 1749 2004 256 refl (omega arith) (omega arith) 2 s m b (λ k h. h) (λ p t c. full256 a.variant a p c) k) (λ none. no_year 2 b (no_year_in 1749 2004 256 refl (omega arith) (omega arith) none))

  any_kind : {s m : Bits} (k : DecodeErrorKind) → Took (BitField 2 3) s m → IsOfNumber a unbounded false unbounded m k → IsOfYear a s k
  any_kind UnexpectedEmptyInput b h = record { rest = h.rest; took = took_then b h.took }
  any_kind (ValueConstraintNotSatisfied told) b h = absurd (let i : true ≡ false = h.outside in cc)
  any_kind (IntegerOverflow width) b h =
      absurd (h.none (took_map (λ p c x. record { in_range = refl; spelled = record { within = refl; spelled = x.1 } }) h.took))
  any_kind {m = m} _ b h = inr (3, (m, b, h))

  pub no_number_year : {s m : Bits} (k : DecodeErrorKind) → Took (BitField 2 3) s m → Faulty (IsOfNumber a unbounded false unbounded m) (NoneIn (IsNumberOf a unbounded false unbounded) m) k
      → Faulty (IsOfYear a s) (NoneIn (Year a) s) k
  no_number_year k b = faulty_map k (any_kind k b) (λ none. no_year 3 b (λ z t c. none z t (took_map (λ p d x. record { in_range = refl; spelled = record { within = refl; spelled = x } }) c)))

in_octet : (n : ℕ) → n < 255 → (k : ℕ) → k < n → holds (unsigned_range 8) (pos (1 + k)) ≡ true
in_octet n i k h = ap₂ (λ b c. b && c) (le-leb 0 (1 + k) (omega arith)) (le-leb (1 + k) 255 (omega (arith, h, i)))

from_one : (n : ℕ) → 1 + n ≡ suc n
from_one n = omega arith

-- a day is its year, its month and its day of the month
module _ (a : Settings) where
  -- what stands for a month and for a day of the month
  abbrev Month : ℤ → Bits → Bits → Type 0
  Month mo m n = Took (IsNumberOf a (between (pos 1) (pos 12)) false (unsigned_range 8) mo) m n

  abbrev Day : ℤ → Bits → Bits → Type 0
  Day da n t = Took (IsNumberOf a (between (pos 1) (pos 31)) false (unsigned_range 8) da) n t

  numbers_of : (v : Value) {s t : Bits} → Took (basic a Schema.date v) s t
      → (x : ℤ × ℕ × ℕ) × (v ≡ day x.0 (suc x.1) (suc x.2)) × (is_date x.0 (suc x.1) (suc x.2) ≡ true) × Took (numbers_form a x.0 x.1 x.2) s t
  unfolding basic_in
  numbers_of v b = let i = b.spelled in (i.of, i.is, i.spelled.is_day, record { front = b.front; joins = b.joins; spelled = i.spelled.spelled })

  day_of : (y : ℤ) (m d : ℕ) {s t : Bits} → is_date y (suc m) (suc d) ≡ true → Took (numbers_form a y m d) s t → Took (basic a Schema.date (day y (suc m) (suc d))) s t
  unfolding basic_in
  day_of y m d l b = took_map (λ p c x. record { of = (y, m, d); is = refl; spelled = record { is_day = l; spelled = x } }) b

  numbers_took : (y mo da : ℤ) {s m n t : Bits} → Took (Year a y) s m → Month mo m n → Day da n t
      → (j : ℕ) × (k : ℕ) × (mo ≡ pos (suc j)) × (da ≡ pos (suc k)) × Took (numbers_form a y j k) s t
  numbers_took y mo da by bm bd =
      let q = one_of a 1 12 12 (unsigned_range 8) mo refl bm in
      let r = one_of a 1 31 31 (unsigned_range 8) da refl bd in
      (q.0, r.0, q.1 ∙ ap pos (from_one q.0), r.1 ∙ ap pos (from_one r.0), took_then by (took_then q.2 r.2))

  pub no_years : {s : Bits} → NoneIn (Year a) s → NoneIn (basic a Schema.date) s
  no_years none v t b = let q = numbers_of v b in let r = then_took q.3 in none q.0.0 r.0 r.1

  pub year_fault : (s : Bits) (k : DecodeErrorKind) → IsOfYear a s k → IsOfDate a s k
  year_fault s InvalidDate h = absurd (year_tested a s InvalidDate h)
  year_fault s (ValueConstraintNotSatisfied told) h = absurd (year_tested a s (ValueConstraintNotSatisfied told) h)
  year_fault s UnexpectedEmptyInput h = h
  year_fault s _ h = inl h

  month_kind : (y : ℤ) {s m : Bits} (k : DecodeErrorKind) → Took (Year a y) s m → IsOfNumber a (between (pos 1) (pos 12)) false (unsigned_range 8) m k → IsOfDate a s k
  month_kind y {m = m} UnexpectedEmptyInput by h = absurd (not_empty a (pos 1) (pos 12) m h)
  month_kind y (ValueConstraintNotSatisfied told) by h = no_month y by h
  month_kind y {m = m} (IntegerOverflow width) by h = absurd (not_unheld a 1 12 (unsigned_range 8) m (omega arith) (in_byte 12 (omega arith)) h)
  month_kind y {m = m} InvalidDate by h = absurd (constrained_tested a 12 m InvalidDate h)
  month_kind y {m = m} _ by h = inr (inl (y, (m, by, h)))

  day_kind : (y : ℤ) (j : ℕ) {s m n : Bits} (k : DecodeErrorKind) → Took (Year a y) s m → Took (IsConstrainedWhole a 12 j) m n → IsOfNumber a (between (pos 1) (pos 31)) false (unsigned_range 8) n k → IsOfDate a s k
  day_kind y j {n = n} UnexpectedEmptyInput by bm h = absurd (not_empty a (pos 1) (pos 31) n h)
  day_kind y j (ValueConstraintNotSatisfied told) by bm h = no_day_in_month y j by bm h
  day_kind y j {n = n} (IntegerOverflow width) by bm h = absurd (not_unheld a 1 31 (unsigned_range 8) n (omega arith) (in_byte 31 (omega arith)) h)
  day_kind y j {n = n} InvalidDate by bm h = absurd (constrained_tested a 31 n InvalidDate h)
  day_kind y j {m = m} {n = n} _ by bm h = inr (inr (y, (m, by, (j, (n, bm, h)))))

  -- no month is after a year
  no_months : (y : ℤ) {s m : Bits} → Took (Year a y) s m → NoneIn (IsConstrainedWhole a 12) m → NoneIn (basic a Schema.date) s
  no_months y by none v t b =
      let q = numbers_of v b in
      let r = then_took q.3 in
      let e = (took_agree (year_agree a q.0.0 y) r.1 by).1 in
      let n = then_took r.2 in
      none q.0.1 n.0 (subst (λ (w : Bits). Took (IsConstrainedWhole a 12 q.0.1) w n.0) e n.1)

  -- no day is after a year and a month
  no_days : (y : ℤ) (j : ℕ) {s m n : Bits} → Took (Year a y) s m → Took (IsConstrainedWhole a 12 j) m n → NoneIn (IsConstrainedWhole a 31) n → NoneIn (basic a Schema.date) s
  no_days y j by bm none v t b =
      let q = numbers_of v b in
      let r = then_took q.3 in
      let e = (took_agree (year_agree a q.0.0 y) r.1 by).1 in
      let w = then_took r.2 in
      let f = (took_agree (bounded_agree a 12 q.0.1 j) (subst (λ (z : Bits). Took (IsConstrainedWhole a 12 q.0.1) z w.0) e w.1) bm).1 in
      none q.0.2 t (subst (λ (z : Bits). Took (IsConstrainedWhole a 31 q.0.2) z t) f w.2)

  pub month_fault : (y : ℤ) {s m : Bits} (k : DecodeErrorKind) → Took (Year a y) s m
      → Faulty (IsOfNumber a (between (pos 1) (pos 12)) false (unsigned_range 8) m) (NoneIn (IsNumberOf a (between (pos 1) (pos 12)) false (unsigned_range 8)) m) k
      → Faulty (IsOfDate a s) (NoneIn (basic a Schema.date) s) k
  month_fault y k by = faulty_map k (month_kind y k by) (λ none. no_months y by (none_of a 1 12 12 (unsigned_range 8) refl (omega arith) (omega arith) (in_octet 12 (omega arith)) none))

  pub day_fault : (y mo : ℤ) {s m n : Bits} (k : DecodeErrorKind) → Took (Year a y) s m → Month mo m n
      → Faulty (IsOfNumber a (between (pos 1) (pos 31)) false (unsigned_range 8) n) (NoneIn (IsNumberOf a (between (pos 1) (pos 31)) false (unsigned_range 8)) n) k
      → Faulty (IsOfDate a s) (NoneIn (basic a Schema.date) s) k
  day_fault y mo k by bm =
      let j = one_of a 1 12 12 (unsigned_range 8) mo refl bm in
      faulty_map k (day_kind y j.0 k by j.2) (λ none. no_days y j.0 by j.2 (none_of a 1 31 31 (unsigned_range 8) refl (omega arith) (omega arith) (in_octet 31 (omega arith)) none))

  numbers_agree : (y z : ℤ) (i j k l : ℕ) → Agree ((y ≡ z) × (i ≡ j) × (k ≡ l)) (numbers_form a y i k) (numbers_form a z j l)
  numbers_agree y z i j k l = weaken (λ h. (h.0, h.1.0, h.1.1)) (then_agree (year_agree a y z) (λ e. then_agree (bounded_agree a 12 i j) (λ f. bounded_agree a 31 k l)))

  -- only one day's numbers are there
  no_other_day : (y : ℤ) (j k : ℕ) {s t : Bits} → Took (numbers_form a y j k) s t → is_date y (suc j) (suc k) ≡ false → NoneIn (basic a Schema.date) s
  no_other_day y j k b none v u c =
      let q = numbers_of v c in
      let e = (took_agree (numbers_agree q.0.0 y q.0.1 j q.0.2 k) q.3 b).0 in
      let f : is_date q.0.0 (suc q.0.1) (suc q.0.2) ≡ is_date y (suc j) (suc k) = ap (λ z. is_date z (suc q.0.1) (suc q.0.2)) e.0 ∙ ap (λ (z : ℕ). is_date y (suc z) (suc q.0.2)) e.1
      ∙ ap (λ (z : ℕ). is_date y (suc j) (suc z)) e.2 in
      true≢false (sym q.2 ∙ f ∙ none)

  -- a year, a month and a day that were taken
  module _ (y : ℤ) (mo da : ℕ) {s m n t : Bits} (by : Took (Year a y) s m) (bm : Month (pos mo) m n) (bd : Day (pos da) n t) where
    taken : (j : ℕ) × (k : ℕ) × (mo ≡ suc j) × (da ≡ suc k) × Took (numbers_form a y j k) s t
    taken =
        let q = numbers_took y (pos mo) (pos da) by bm bd in
        let e : pos mo ≡ pos (suc q.0) = q.2 in
        let f : pos da ≡ pos (suc q.1) = q.3 in
        let g : mo ≡ suc q.0 = cc in
        let h : da ≡ suc q.1 = cc in
        (q.0, q.1, g, h, q.4)

    -- what holds of the numbers as they are counted from 0
    counted : (b : Bool) → is_date y mo da ≡ b → is_date y (suc taken.0) (suc taken.1) ≡ b
    counted b l = subst (λ (k : ℕ). is_date y (suc taken.0) k ≡ b) taken.3 (subst (λ (j : ℕ). is_date y j da ≡ b) taken.2 l)

    pub day_found : is_date y mo da ≡ true → Took (basic a Schema.date (day y mo da)) s t
    day_found l =
        subst (λ (j : ℕ). Took (basic a Schema.date (day y j da)) s t) (sym taken.2)
        (subst (λ (k : ℕ). Took (basic a Schema.date (day y (suc taken.0) k)) s t) (sym taken.3) (day_of y taken.0 taken.1 (counted true l) taken.4))

    pub known_found : {D : Type 0} (value : D → Value) (r : Result D DecodeErrorKind) → IfOk r (λ date. value date ≡ day y mo da)
        → IfOk r (λ date. is_date y mo da ≡ true) → IfOk r (λ date. Took (basic a Schema.date (value date)) s t)
    known_found value (Ok d) e l = subst (λ (v : Value). Took (basic a Schema.date v) s t) (sym e) (day_found l)
    known_found value (Err k) e l = tt

    pub no_day : (k : DecodeErrorKind) → Years.IsNoDay y mo da k → Faulty (IsOfDate a s) (NoneIn (basic a Schema.date) s) k
    no_day k (inl e) = inl e
    no_day k (inr h) =
        let none = counted false h.1 in
        let fault : IsOfDate a s InvalidDate = record { year = y; month = taken.0; day = taken.1; rest = t; took = taken.4; no_day = none } in
        inr (subst (λ (z : DecodeErrorKind). IsOfDate a s z) (sym h.0) fault, no_other_day y taken.0 taken.1 taken.4 none)
