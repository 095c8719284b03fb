-- A number that was read under bounds, and what was made of it.
use Rattle.std.proofs.Common.{◌≡◌, ◌∙◌, refl, sym, subst, inr, false, ℕ, ◌+◌, Option, Some, None, ℤ, pos, negsuc}
use Rattle.std.specs.Prelude.{option_map}
use Rattle.rasn_types.specs.Bits.{Bits}
use Rattle.rasn_constraints.specs.Bounds.{Bounds}
use Rattle.rasn_constraints.specs.Constraints.{start_of, end_of, bounds_of}
use Rattle.rasn_constraints.specs.declared.constraints.Bounded.{Bounded}
use Rattle.per_core.specs.Spellings.{Settings, Took, NoneIn}
use Rattle.per_core.specs.Basic.{IsNumberOf}
use Rattle.per_core.proofs.TakenInTurn.{took_map}
use Rattle.per_read.specs.Kinds.{Faulty}
use Rattle.per_read.specs.Numbers.{OfRead}
use Rattle.per_core.specs.NumberFaults.{IsOfNumber, IsOfForm, under_bounds}
use Rattle.per_decoding.specs.Integers.{OfEach, IsFit, IsMissed, Misfit, AreSome}
use Rattle.per_core.specs.declared.decode_error.DecodeErrorKind.{DecodeErrorKind}
use Rattle.per_core.specs.declared.decode_error.DecodeErrorKind.TheVariants.{ValueConstraintNotSatisfied}
use Rattle.per_core.specs.declared.decode_error.DecodeErrorKind.TheVariants.{IntegerOverflow, UnexpectedEmptyInput}
use Rattle.per_read.specs.declared.numbers.ReadNumber.{ReadNumber}
use Rattle.per_read.specs.declared.numbers.ReadNumber.TheVariants.{Held, Below, Above}
use Rattle.rasn_constraints.specs.Bounds.{above}
use Rattle.per_read.proofs.OfFields.{constrained_tested, unconstrained_tested}
use Rattle.per_decoding.proofs.NumbersWithin.{number_within, within_under, no_other}

-- the bounds that a constraint states
same_option : (o : Option ℤ) → o ≡ option_map (λ z. z) o
same_option None = refl
same_option (Some z) = refl

pub starts : (b : Bounded ℤ) {l : Option ℤ} → l ≡ start_of b → l ≡ (bounds_of b).low
starts b e = e ∙ same_option (start_of b)

pub ends : (b : Bounded ℤ) {u : Option ℤ} → u ≡ end_of b → u ≡ (bounds_of b).high
ends b e = e ∙ same_option (end_of b)

module _ (a : Settings) (bounds range : Bounds) (s t : Bits) {l u : Option ℤ} (el : l ≡ bounds.low) (eu : u ≡ bounds.high) where
  constrained_whole : (z : ℤ) → Took (under_bounds a l u z) s t → Took (under_bounds a bounds.low bounds.high z) s t
  constrained_whole z b = subst (λ y. Took (under_bounds a bounds.low y z) s t) eu (subst (λ y. Took (under_bounds a y u z) s t) el b)

  pub fit_number : (r : ReadNumber) → OfRead (λ z. Took (under_bounds a l u z) s t) r → (z : ℤ) → IsFit bounds range r z → Took (IsNumberOf a bounds false range z) s t
  fit_number r b z f = number_within a bounds range z (constrained_whole z (subst (λ y. OfRead (λ z. Took (under_bounds a l u z) s t) y) f.held b)) f.fits f.within f.in_range

  missed_in_bits : (w : ℕ) (k : DecodeErrorKind) (z : ℤ) → IsMissed bounds w k z → Took (under_bounds a bounds.low bounds.high z) s t → (Took (IsNumberOf a bounds false range z) s t → ⊥)
      → IsOfNumber a bounds false range s k
  missed_in_bits w (ValueConstraintNotSatisfied told) z h b other = record { number = z; rest = t; outside = h.0; is_named = h.1; is_low = h.2; is_high = h.3; took = b }
  missed_in_bits w (IntegerOverflow v) z h b other = record { number = z; rest = t; took = took_map (λ p c x. (h.0, x)) b; none = other }
  missed_in_bits w _ z h b other = absurd h

  pub misfit_faulty : AreSome bounds → (w : ℕ) (k : DecodeErrorKind) (r : ReadNumber) → OfRead (λ z. Took (under_bounds a l u z) s t) r → OfEach (Misfit bounds range w k) r
      → Faulty (IsOfNumber a bounds false range s) (NoneIn (IsNumberOf a bounds false range) s) k
  misfit_faulty some w k r b m = go r b m
    where
      one : (z : ℤ) → Took (under_bounds a l u z) s t → Misfit bounds range w k z → Faulty (IsOfNumber a bounds false range s) (NoneIn (IsNumberOf a bounds false range) s) k
      one z b m = let c = constrained_whole z b in let other = no_other a bounds range some z c m.none in inr (missed_in_bits w k z m.missed c (other z t), other)

      go : (r : ReadNumber) → OfRead (λ z. Took (under_bounds a l u z) s t) r → OfEach (Misfit bounds range w k) r → Faulty (IsOfNumber a bounds false range s) (NoneIn (IsNumberOf a bounds false range) s) k
      go (Held z) b m = one z b m
      go Below b m = one (negsuc b.0) b.2 (m b.0 b.1)
      go Above b m = one (pos b.0) b.2 (m b.0 b.1)

  -- a number that is no value leaves none
  pub misfit_none : AreSome bounds → (w : ℕ) (k : DecodeErrorKind) (r : ReadNumber) → OfRead (λ z. Took (under_bounds a l u z) s t) r → OfEach (Misfit bounds range w k) r
      → NoneIn (IsNumberOf a bounds false range) s
  misfit_none some w k r b m = go r b m
    where
      one : (z : ℤ) → Took (under_bounds a l u z) s t → Misfit bounds range w k z → NoneIn (IsNumberOf a bounds false range) s
      one z b m = no_other a bounds range some z (constrained_whole z b) m.none

      go : (r : ReadNumber) → OfRead (λ z. Took (under_bounds a l u z) s t) r → OfEach (Misfit bounds range w k) r → NoneIn (IsNumberOf a bounds false range) s
      go (Held z) b m = one z b m
      go Below b m = one (negsuc b.0) b.2 (m b.0 b.1)
      go Above b m = one (pos b.0) b.2 (m b.0 b.1)

pub no_number : (a : Settings) (bounds range : Bounds) (s : Bits) {l u : Option ℤ} → l ≡ bounds.low → u ≡ bounds.high → ((z : ℤ) (v : Bits) → Took (under_bounds a l u z) s v → ⊥)
    → (z : ℤ) (v : Bits) → Took (IsNumberOf a bounds false range z) s v → ⊥
no_number a bounds range s {l} {u} el eu none z v b =
    let c = within_under a bounds range z b in
    none z v (subst (λ y. Took (under_bounds a l y z) s v) (sym eu) (subst (λ y. Took (under_bounds a y bounds.high z) s v) (sym el) c))

-- a kind of a number as its bounds have it written is one of a number under them
pub form_number : (a : Settings) (bounds range : Bounds) (s : Bits) {l u : Option ℤ} → l ≡ bounds.low → u ≡ bounds.high → (k : DecodeErrorKind) → IsOfForm a l u s k → IsOfNumber a bounds false range s k
form_number a bounds range s {u = u} el eu k h = go bounds.low bounds.high k (subst (λ y. IsOfForm a bounds.low y s k) eu (subst (λ y. IsOfForm a y u s k) el h))
  where
    go : (l u : Option ℤ) (k : DecodeErrorKind) → IsOfForm a l u s k → IsOfNumber a (record { low = l; high = u }) false range s k
    go None u UnexpectedEmptyInput h = record { rest = h.0; took = h.1 }
    go None u (ValueConstraintNotSatisfied told) h = absurd (unconstrained_tested (ValueConstraintNotSatisfied told) h)
    go None u (IntegerOverflow width) h = absurd (unconstrained_tested (IntegerOverflow width) h)
    go None u _ h = h
    go (Some l) None UnexpectedEmptyInput h = record { rest = h.0; took = h.1 }
    go (Some l) None (ValueConstraintNotSatisfied told) h = absurd (unconstrained_tested (ValueConstraintNotSatisfied told) h)
    go (Some l) None (IntegerOverflow width) h = absurd (unconstrained_tested (IntegerOverflow width) h)
    go (Some l) None _ h = h
    go (Some l) (Some u) UnexpectedEmptyInput h = absurd (constrained_tested a (above l u + 1) s UnexpectedEmptyInput h)
    go (Some l) (Some u) (ValueConstraintNotSatisfied told) h = absurd (constrained_tested a (above l u + 1) s (ValueConstraintNotSatisfied told) h)
    go (Some l) (Some u) (IntegerOverflow width) h = absurd (constrained_tested a (above l u + 1) s (IntegerOverflow width) h)
    go (Some l) (Some u) _ h = h
