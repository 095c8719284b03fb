-- A day of the calendar as it is written (X.691 32).
use lib.Signed.{le_z}
use Rattle.std.proofs.Common.{◌≡◌, sym, ap, ap₂, ◌∙◌, subst, ℕ, ◌+◌, ◌-◌, ◌<◌, Bool, true, false, cond, leb-true, arith, Some, None, ℤ, pos, negsuc}
use Rattle.std.specs.Prelude.{Result, Ok, Err}
use Rattle.std.proofs.Common.{inl}
use Rattle.rasn_types.specs.Variants.{variant_of, Variant}
use Rattle.rasn_types.specs.Contents.{is_date}
use Rattle.rasn_types.specs.Values.{day}
use Rattle.rasn_schema.specs.Schemas.{Schema}
use Rattle.rasn_traits.specs.Calls.{Written}
use Rattle.per_core.specs.Canon.{canon, date_of, in_range, year_of, year_writer}
use Rattle.per_core.specs.Counts.{constrained_whole, number_under}
use Rattle.per_core.specs.Writers.{Writer, ◌▹◌, written_if}
use Rattle.per_core.proofs.Fits.{fits_small}
use Rattle.per_core.proofs.LengthForms.{and_right}
use Rattle.per_core.specs.declared.encode_error.EncodeError.{EncodeError}
use Rattle.per_write.specs.Faults.{IsMemory}
use Rattle.per_write.specs.Rules.{encoder_rules}
use Rattle.per_write.specs.WriterState.{Puts, WriterState, StateAppends}
use Rattle.per_write.proofs.Writing.{wrote_then}
use Rattle.per_enc.specs.Dates.{put_within}

-- a number that is no more than 65535, under both bounds
under_both : (a : Variant) (l u v : ℕ) → v < 65536 → number_under a (Some (pos l)) (Some (pos u)) (pos v) ≡ constrained_whole a (u - l + 1) (v - l)
unfolding number_under
under_both a l u v h = ap (λ (b : Bool). written_if b (constrained_whole a (u - l + 1) (v - l))) (fits_small v h)

-- a year in one of the ranges
abbrev ranged : Variant → ℕ → ℕ → ℕ → ℤ → Writer
ranged a k low n y = constrained_whole a 4 k ▹ constrained_whole a n (year_of y - low)

ranged_is : (a : Variant) (k l u : ℕ) (y : ℤ) → k < 65536 → u < 65536 → in_range l u y ≡ true → put_within a (pos k) (pos l) (pos u) y ≡ ranged a (k - 0) l (u - l + 1) y
ranged_is a k l u (pos v) i j h =
    ap₂ (λ (f g : Writer). f ▹ g) (under_both a 0 3 k i) (under_both a l u v (omega (arith, j, leb-true v u (and_right (le_z (pos l) (pos v)) (le_z (pos v) (pos u)) h))))
ranged_is a k l u (negsuc v) i j h = absurd (cc)

abbrev as_number : Variant → ℤ → Writer
as_number a y = constrained_whole a 4 3 ▹ number_under a None None y

abbrev after_first : Variant → ℤ → Writer
after_first a y = cond (in_range 2021 2276 y) (ranged a 1 2021 256 y) (cond (in_range 1749 2004 y) (ranged a 2 1749 256 y) (as_number a y))

module _ (a : Variant) (y : ℤ) where
  pub in_first : in_range 2005 2020 y ≡ true → put_within a (pos 0) (pos 2005) (pos 2020) y ≡ year_writer a y
  unfolding year_writer
  in_first h = ranged_is a 0 2005 2020 y (omega arith) (omega arith) h ∙ ap (λ (b : Bool). cond b (ranged a 0 2005 16 y) (after_first a y)) (sym h)

  pub in_second : in_range 2005 2020 y ≡ false → in_range 2021 2276 y ≡ true → put_within a (pos 1) (pos 2021) (pos 2276) y ≡ year_writer a y
  unfolding year_writer
  in_second n h =
      ranged_is a 1 2021 2276 y (omega arith) (omega arith) h ∙ ap (λ (b : Bool). cond b (ranged a 1 2021 256 y) (cond (in_range 1749 2004 y) (ranged a 2 1749 256 y) (as_number a y))) (sym h)
      ∙ ap (λ (b : Bool). cond b (ranged a 0 2005 16 y) (after_first a y)) (sym n)

  pub in_third : in_range 2005 2020 y ≡ false → in_range 2021 2276 y ≡ false → in_range 1749 2004 y ≡ true → put_within a (pos 2) (pos 1749) (pos 2004) y ≡ year_writer a y
  unfolding year_writer
  in_third n m h =
      ranged_is a 2 1749 2004 y (omega arith) (omega arith) h ∙ ap (λ (b : Bool). cond b (ranged a 2 1749 256 y) (as_number a y)) (sym h)
      ∙ ap (λ (b : Bool). cond b (ranged a 1 2021 256 y) (cond (in_range 1749 2004 y) (ranged a 2 1749 256 y) (as_number a y))) (sym m)
      ∙ ap (λ (b : Bool). cond b (ranged a 0 2005 16 y) (after_first a y)) (sym n)

  pub in_none : in_range 2005 2020 y ≡ false → in_range 2021 2276 y ≡ false → in_range 1749 2004 y ≡ false
      → (number_under a (Some (pos 0)) (Some (pos 3)) (pos 3) ▹ number_under a None None y) ≡ year_writer a y
  unfolding year_writer
  in_none n m h =
      ap (λ (f : Writer). f ▹ number_under a None None y) (under_both a 0 3 3 (omega arith)) ∙ ap (λ (b : Bool). cond b (ranged a 2 1749 256 y) (as_number a y)) (sym h)
      ∙ ap (λ (b : Bool). cond b (ranged a 1 2021 256 y) (cond (in_range 1749 2004 y) (ranged a 2 1749 256 y) (as_number a y))) (sym m)
      ∙ ap (λ (b : Bool). cond b (ranged a 0 2005 16 y) (after_first a y)) (sym n)

-- the index of a range, and a year in it
pub wrote_within : (x m z : WriterState) (index first last year : ℤ) → StateAppends x (number_under (variant_of x.codec) (Some (pos 0)) (Some (pos 3)) index) m
    → StateAppends m (number_under (variant_of m.codec) (Some first) (Some last) year) z → StateAppends x (put_within (variant_of x.codec) index first last year) z
wrote_within x m z index first last year wi wy =
    wrote_then x m z _ _ wi (subst (λ c. StateAppends m (number_under (variant_of c) (Some first) (Some last) year) z) wi.same wy)

-- the last index, and a year as a number
pub wrote_number : (x m z : WriterState) (year : ℤ) → StateAppends x (number_under (variant_of x.codec) (Some (pos 0)) (Some (pos 3)) (pos 3)) m
    → StateAppends m (number_under (variant_of m.codec) None None year) z
    → StateAppends x (number_under (variant_of x.codec) (Some (pos 0)) (Some (pos 3)) (pos 3) ▹ number_under (variant_of x.codec) None None year) z
wrote_number x m z year wi wy = wrote_then x m z _ _ wi (subst (λ c. StateAppends m (number_under (variant_of c) None None year) z) wi.same wy)

-- a year, a month and a day, one after another
pub wrote_numbers : (x m n z : WriterState) (y : ℤ) (mo d : ℕ) → is_date y mo d ≡ true → mo < 65536 → d < 65536 → StateAppends x (year_writer (variant_of x.codec) y) m
    → StateAppends m (number_under (variant_of m.codec) (Some (pos 1)) (Some (pos 12)) (pos mo)) n → StateAppends n (number_under (variant_of n.codec) (Some (pos 1)) (Some (pos 31)) (pos d)) z
    → StateAppends x (date_of (variant_of x.codec) y mo d) z
unfolding date_of
wrote_numbers x m n z y mo d l h k wy wm wd =
    let a = variant_of x.codec in
    let month = ap (λ c. number_under (variant_of c) (Some (pos 1)) (Some (pos 12)) (pos mo)) wy.same ∙ under_both a 1 12 mo h in
    let days = ap (λ c. number_under (variant_of c) (Some (pos 1)) (Some (pos 31)) (pos d)) (wm.same ∙ wy.same) ∙ under_both a 1 31 d k in
    subst (λ (b : Bool). StateAppends x (written_if b (year_writer a y ▹ constrained_whole a 12 (mo - 1) ▹ constrained_whole a 31 (d - 1))) z) (sym l)
    (wrote_then x m z _ _ wy (wrote_then m n z _ _ (subst (λ (f : Writer). StateAppends m f n) month wm) (subst (λ (f : Writer). StateAppends n f z) days wd)))

-- what writes the numbers of a day writes the day
pub date_law : (x z : WriterState) (y : ℤ) (mo d : ℕ) (result : Result (Unit {0}) EncodeError) → Puts IsMemory (date_of (variant_of x.codec) y mo d) x result z
    → Written encoder_rules Schema.date (day y mo d) x result z
unfolding canon
date_law x z y mo d (Ok u) p = p.ok
date_law x z y mo d (Err e) p = inl p.err
