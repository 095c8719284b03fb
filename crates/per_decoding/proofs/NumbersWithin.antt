-- Numbers within bounds are those that the bounds have written, and that are within them (X.691 13.2).
use lib.Signed.{le_z}
use Rattle.std.proofs.Common.{◌≡◌, ◌∙◌, refl, sym, ap, subst, ℕ, ◌+◌, ◌<◌, true, false, arith, Option, Some, None, ℤ, pos, negsuc, leb-true}
use Rattle.rasn_constraints.specs.Bounds.{holds, fits_i128, above, Bounds}
use Rattle.rasn_types.specs.Bits.{Bits, unsigned}
use Rattle.per_core.specs.Spellings.{Settings, Took}
use Rattle.per_core.specs.Basic.{IsSemiConstrainedWhole, IsNumberOf, number_spelling}
use Rattle.per_core.proofs.SpellingsAgree.{Agree, weaken, when_agree}
use Rattle.per_core.proofs.LengthForms.{and_left, and_right, same_octets, bounded_form_agree}
use Rattle.per_core.proofs.TakenInTurn.{took_map, took_agree}
use Rattle.per_core.proofs.Unique.{above_same, in_whole_agree}
use Rattle.per_core.specs.NumberFaults.{under_bounds}
use Rattle.per_decoding.specs.Integers.{AreSome}

-- bits stand for one number
natural_agree : (a : Settings) (n m : ℕ) → Agree (n ≡ m) (IsSemiConstrainedWhole a n) (IsSemiConstrainedWhole a m)
natural_agree a n m = record {
  agree = λ p b c s t x y e. let r = (same_octets a x.octets y.octets).agree p b c s t x.spelled y.spelled e in (sym x.means ∙ ap unsigned r.0 ∙ y.means, r.1);
}

under_agree : (a : Settings) (l u : Option ℤ) (z w : ℤ) → Agree (z ≡ w) (under_bounds a l u z) (under_bounds a l u w)
under_agree a None u z w = in_whole_agree a z w
under_agree a (Some l) None z w = when_agree (λ h k. weaken (above_same l z w h k) (natural_agree a (above l z) (above l w)))
under_agree a (Some l) (Some u) z w = when_agree (λ h k. weaken (above_same l z w h k) (bounded_form_agree a (above l u + 1) (above l z) (above l w)))

-- a number between two others is no farther from the lower one
no_farther : (l u z : ℤ) → le_z l z ≡ true → le_z z u ≡ true → above l z < above l u + 1
no_farther (pos l) (pos u) (pos z) h k = omega (arith, leb-true l z h, leb-true z u k)
no_farther (pos l) (negsuc u) (pos z) h k = absurd (cc)
no_farther (pos l) u (negsuc z) h k = absurd (cc)
no_farther (negsuc l) (pos u) (pos z) h k = omega (arith, leb-true z u k)
no_farther (negsuc l) (negsuc u) (pos z) h k = absurd (cc)
no_farther (negsuc l) (pos u) (negsuc z) h k = omega (arith, leb-true z l h)
no_farther (negsuc l) (negsuc u) (negsuc z) h k = omega (arith, leb-true z l h, leb-true u z k)

spelled_under : (a : Settings) (l u : Option ℤ) (z : ℤ) (p : ℕ) (b : Bits) → holds (record { low = l; high = u }) z ≡ true → fits_i128 z ≡ true → under_bounds a l u z p b → number_spelling a l u z p b
spelled_under a None None z p b h f x = x
spelled_under a None (Some u) z p b h f x = (f, x)
spelled_under a (Some l) None z p b h f x = (f, x.1)
spelled_under a (Some l) (Some u) z p b h f x = (f, record { below = no_farther l u z x.0 (and_right (le_z l z) (le_z z u) h); spelled = x.1 })

under_spelled : (a : Settings) (l u : Option ℤ) (z : ℤ) (p : ℕ) (b : Bits) → holds (record { low = l; high = u }) z ≡ true → number_spelling a l u z p b → under_bounds a l u z p b
under_spelled a None None z p b h x = x
under_spelled a None (Some u) z p b h x = x.1
under_spelled a (Some l) None z p b h x = (and_left (le_z l z) true h, x.1)
under_spelled a (Some l) (Some u) z p b h x = (and_left (le_z l z) (le_z z u) h, x.1.spelled)

-- a number under bounds fits an i128
spelled_fits : (a : Settings) (l u : Option ℤ) (z : ℤ) (p : ℕ) (b : Bits) → (l ≡ None → u ≡ None → ⊥) → number_spelling a l u z p b → fits_i128 z ≡ true
spelled_fits a None None z p b s x = absurd (s refl refl)
spelled_fits a None (Some u) z p b s x = x.0
spelled_fits a (Some l) None z p b s x = x.0
spelled_fits a (Some l) (Some u) z p b s x = x.0

module _ (a : Settings) (bounds range : Bounds) {s t : Bits} where
  pub number_within : (z : ℤ) → Took (under_bounds a bounds.low bounds.high z) s t → fits_i128 z ≡ true → holds bounds z ≡ true → holds range z ≡ true
      → Took (IsNumberOf a bounds false range z) s t
  number_within z b f h r =
      took_map (λ p c x. record { in_range = r; spelled = record { within = h; spelled = spelled_under a bounds.low bounds.high z p c h f x } }) b

  pub within_under : (z : ℤ) → Took (IsNumberOf a bounds false range z) s t → Took (under_bounds a bounds.low bounds.high z) s t
  within_under z b = took_map (λ p c x. under_spelled a bounds.low bounds.high z p c x.spelled.within x.spelled.spelled) b

  -- a number that is none of the type leaves no other
  pub no_other : AreSome bounds → (z : ℤ) → Took (under_bounds a bounds.low bounds.high z) s t → (fits_i128 z ≡ true → holds bounds z ≡ true → holds range z ≡ true → ⊥)
      → (w : ℤ) (u : Bits) → Took (IsNumberOf a bounds false range w) s u → ⊥
  no_other some z b none w u c =
      let x = c.spelled in
      let d : Took (under_bounds a bounds.low bounds.high w) s u = took_map (λ p e y. under_spelled a bounds.low bounds.high w p e y.spelled.within y.spelled.spelled) c in
      let e : w ≡ z = (took_agree (under_agree a bounds.low bounds.high w z) d b).0 in
      none (subst (λ y. fits_i128 y ≡ true) e (spelled_fits a bounds.low bounds.high w _ _ some x.spelled.spelled))
      (subst (λ y. holds bounds y ≡ true) e x.spelled.within) (subst (λ y. holds range y ≡ true) e x.in_range)
