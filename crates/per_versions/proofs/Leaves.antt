-- What is read of a kind in which no schema stands is written.
use Rattle.std.proofs.Common.{◌≡◌, refl, sym, subst, ℕ, suc, ◌+◌, ◌-◌, ◌^◌, ◌<◌, ◌≤◌, Bool, true, false, cond, not, ◌&&◌, ◌||◌, leb, [], ◌∷◌, Option, Some, None, ℤ, pos, negsuc, arith, inl, inr, leb-true, lt-ltb}
use lib.Signed.{le_z}
use Rattle.rasn_types.specs.Bits.{Bits, octets_of_whole, whole_bits}
use Rattle.rasn_types.specs.Contents.{days_in, is_date}
use Rattle.rasn_types.specs.Values.{Side, root, added}
use Rattle.rasn_types.specs.Variants.{Variant}
use Rattle.rasn_types.proofs.Bits.{width_least}
use Rattle.rasn_types.proofs.Octets.{length-whole_bits}
use Rattle.rasn_constraints.specs.Bounds.{above, Bounds, fits_i128, holds, unbounded}
use Rattle.per_core.specs.Basic.{IsNumber, Item, Marked}
use Rattle.per_core.specs.Canon.{date_of, extension_bit, in_range, item_of, year_of, year_writer}
use Rattle.per_core.specs.Counts.{counted_octets, marked_form, number_form, number_under}
use Rattle.per_core.specs.Spellings.{Settings}
use Rattle.per_core.specs.Writers.{written_if, Writer}
use Rattle.per_core.proofs.LengthForms.{and_left, and_right}
use Rattle.per_core.specs.WritingFaults.{has_bound}
use Rattle.per_versions.specs.NumbersKept.{are_in_i128}
use Rattle.per_versions.proofs.Faultless.{in_i128}
use Rattle.per_versions.specs.Writable.{is_near, writes_numbers}
use Rattle.per_versions.proofs.Total.{few_bits_total, if_total, just_total, near_total, small_total, spelled_total, then_total, Total, whole_number_total, whole_total}

-- a writer by a test
cond_if : {f g : Writer} (t : Bool) → (t ≡ true → Total f) → (t ≡ false → Total g) → Total (cond t f g)
cond_if true h k = h refl
cond_if false h k = k refl

pub bit_total : (ext : Bool) → Total (extension_bit ext false)
bit_total true = just_total (false ∷ [])
bit_total false = just_total []

-- ---- whole numbers

-- the distance above a lower bound
apart : (l u z : ℤ) → le_z l z ≡ true → le_z z u ≡ true → above l z < above l u + 1
apart (pos l) (pos u) (pos z) h k = let i = leb-true l z h in let j = leb-true z u k in omega arith
apart (negsuc l) (pos u) (pos z) h k = let j = leb-true z u k in omega arith
apart (negsuc l) (pos u) (negsuc z) h k = omega arith
apart (negsuc l) (negsuc u) (negsuc z) h k = let i = leb-true z l h in let j = leb-true u z k in omega arith
apart (pos l) (negsuc u) (pos z) h k = absurd (cc)
apart (pos l) u (negsuc z) h k = absurd (cc)
apart (negsuc l) (negsuc u) (pos z) h k = absurd (cc)

near_above : (l z : ℤ) → le_z (negsuc (2 ^ 127 - 1)) l ≡ true → le_z z (pos (2 ^ 127 - 1)) ≡ true → le_z l z ≡ true → above l z < 2 ^ 129
near_above (pos l) (pos z) e f h = let j = leb-true z (2 ^ 127 - 1) f in omega arith
near_above (pos l) (negsuc z) e f h = omega arith
near_above (negsuc l) (pos z) e f h = let i = leb-true l (2 ^ 127 - 1) e in let j = leb-true z (2 ^ 127 - 1) f in omega arith
near_above (negsuc l) (negsuc z) e f h = let i = leb-true l (2 ^ 127 - 1) e in omega arith

-- a number within bounds, that was read after an extension bit
within_total : (c : Variant) (l u : Option ℤ) (z : ℤ) → Total (counted_octets c (whole_bits z)) → (has_bound (record { low = l; high = u }) ≡ true → fits_i128 z ≡ true) → is_near l ≡ true → holds (record { low = l; high = u }) z ≡ true → Total (number_under c l u z)
unfolding number_under
within_total c None None z t f n h = t
within_total c None (Some u) z t f n h = if_total (f refl) t
within_total c (Some l) None z t f n h =
    let i = f refl in
    if_total i (near_total c (above l z) (near_above l z n (and_right (le_z (negsuc (2 ^ 127 - 1)) z) (le_z z (pos (2 ^ 127 - 1))) i) (and_left (le_z l z) true h)))
within_total c (Some l) (Some u) z t f n h = if_total (f refl) (whole_number_total c (above l u + 1) (above l z) (apart l u z (and_left (le_z l z) (le_z z u) h) (and_right (le_z l z) (le_z z u) h)))

no_bound : (l u : Option ℤ) → has_bound (record { low = l; high = u }) ≡ false → is_near l ≡ true
no_bound None u e = refl
no_bound (Some l) u e = absurd (cc)

module _ (a : Settings) (c : Variant) where
  pub marked_total : (bounds : Bounds) (mark : Bool) (range : Bounds) (z : ℤ) (p : ℕ) (b : Bits) → writes_numbers bounds mark range ≡ true → holds range z ≡ true → Marked mark (IsNumber a bounds) (IsNumber a unbounded) z p b → Total (number_form c bounds mark z)
  unfolding number_form
  marked_total bounds false range z p b w r x = if_total x.within (spelled_total a c bounds.low bounds.high z p b x.spelled)
  marked_total bounds true range z p b w r (inl x) =
      let y = x.is_rest in
      let t = if_total y.within (spelled_total a c bounds.low bounds.high z _ x.rest y.spelled) in
      subst (λ k. Total (marked_form true k (written_if (holds bounds z) (number_under c bounds.low bounds.high z)) (counted_octets c (whole_bits z)))) (sym y.within) (then_total (just_total (false ∷ [])) t)
  marked_total bounds true range z p b w r (inr x) = go (holds bounds z) refl
    where
      whole : Total (counted_octets c (whole_bits z))
      whole = whole_total a c z _ x.rest x.is_rest.spelled

      kept : (t : Bool) → has_bound bounds ≡ t → (not t || (are_in_i128 bounds range && is_near bounds.low)) ≡ true → (has_bound bounds ≡ true → are_in_i128 bounds range ≡ true) × (is_near bounds.low ≡ true)
      kept true e k = (λ h. and_left (are_in_i128 bounds range) (is_near bounds.low) k, and_right (are_in_i128 bounds range) (is_near bounds.low) k)
      kept false e k = (λ h. absurd (cc), no_bound bounds.low bounds.high e)

      go : (t : Bool) → holds bounds z ≡ t → Total (marked_form true t (written_if t (number_under c bounds.low bounds.high z)) (counted_octets c (whole_bits z)))
      go true h =
          let k = kept (has_bound bounds) refl w in
          then_total (just_total (false ∷ [])) (within_total c bounds.low bounds.high z whole (λ e. in_i128 bounds range z (k.0 e) h r) k.1 h)
      go false h = then_total (just_total (true ∷ [])) whole

  -- ---- items
  pub item_total : (r e : ℕ) (ext : Bool) (d : Side) (i p : ℕ) (b : Bits) → Item a r e ext d i p b → Total (item_of c r e ext d i)
  unfolding item_of
  item_total r e ext root i p b x = then_total (bit_total ext) (whole_number_total c r i x.is_rest.below)
  item_total r e true added i p b x = then_total (just_total (true ∷ [])) (if_total (lt-ltb i e x.is_rest.known) (small_total a c i _ x.rest x.is_rest.spelled))
  item_total r e false added i p b x = absurd x.is_front

-- ---- dates
of_year : (lb ub : ℕ) (y : ℤ) → in_range lb ub y ≡ true → year_of y - lb < ub - lb + 1
of_year lb ub (pos n) e = let i = leb-true lb n (and_left (leb lb n) (leb n ub) e) in let j = leb-true n ub (and_right (leb lb n) (leb n ub) e) in omega arith
of_year lb ub (negsuc n) e = absurd (cc)

small_whole : (z : ℤ) → le_z (negsuc 9998) z ≡ true → le_z z (pos 9999) ≡ true → octets_of_whole z ≤ 2
unfolding octets_of_whole
small_whole (pos n) h k = let i = leb-true n 9999 k in let w = width_least (n + 1) 14 (omega arith) in omega arith
small_whole (negsuc n) h k = let i = leb-true n 9998 h in let w = width_least (n + 1) 14 (omega arith) in omega arith

year_total : (c : Variant) (y : ℤ) → le_z (negsuc 9998) y ≡ true → le_z y (pos 9999) ≡ true → Total (year_writer c y)
unfolding year_writer number_under
year_total c y h k = cond_if (in_range 2005 2020 y) (λ e. then_total (whole_number_total c 4 0 (omega arith)) (whole_number_total c 16 (year_of y - 2005) (let o = of_year 2005 2020 y e in omega arith)))
    (λ f. cond_if (in_range 2021 2276 y) (λ e. then_total (whole_number_total c 4 1 (omega arith)) (whole_number_total c 256 (year_of y - 2021) (let o = of_year 2021 2276 y e in omega arith)))
    (λ f. cond_if (in_range 1749 2004 y) (λ e. then_total (whole_number_total c 4 2 (omega arith)) (whole_number_total c 256 (year_of y - 1749) (let o = of_year 1749 2004 y e in omega arith)))
    (λ f. then_total (whole_number_total c 4 3 (omega arith)) (few_bits_total c (whole_bits y) (let s = small_whole y h k in let l = length-whole_bits y in omega arith)))))

pub date_total : (c : Variant) (y : ℤ) (m d : ℕ) → is_date y (suc m) (suc d) ≡ true → m < 12 → d < 31 → Total (date_of c y (suc m) (suc d))
unfolding date_of
date_total c y m d e h k = if_total e (then_total (year_total c y (and_left (le_z (negsuc 9998) y) (le_z y (pos 9999)) last) (and_right (le_z (negsuc 9998) y) (le_z y (pos 9999)) last))
    (then_total (whole_number_total c 12 (suc m - 1) (omega arith)) (whole_number_total c 31 (suc d - 1) (omega arith))))
  where
    last : (le_z (negsuc 9998) y && le_z y (pos 9999)) ≡ true
    last = and_right (leb (suc d) (days_in y (suc m))) _ (and_right (leb (suc m) 12) _ (and_right (leb 1 (suc d)) _ (and_right (leb 1 (suc m)) _ e)))
