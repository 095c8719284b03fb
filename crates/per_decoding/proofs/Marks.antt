-- An extensible constraint's bit, and the number after it (X.691 13.1).
use Rattle.std.proofs.Common.{◌≡◌, ◌∷◌, true, false, [], inl, inr, ℤ}
use Rattle.rasn_types.specs.Bits.{Bits}
use Rattle.rasn_constraints.specs.Bounds.{Bounds, unbounded}
use Rattle.per_core.specs.Spellings.{Settings, never, Took, NoneIn}
use Rattle.per_core.specs.Basic.{IsNumber, IsNumberOf, IsUnconstrainedWhole}
use Rattle.per_core.proofs.TakenInTurn.{took_map}
use Rattle.per_core.specs.BitFieldFaults.{IsOfBitField, IsOfUnconstrained}
use Rattle.per_read.specs.Kinds.{Faulty, IsTested}
use Rattle.per_core.specs.NumberFaults.{IsOfForm, IsOfNumber, IsOfOctets, no_octets, under_bounds, within_bounds}
use Rattle.per_core.specs.declared.decode_error.DecodeErrorKind.{DecodeErrorKind}
use Rattle.per_core.specs.declared.decode_error.DecodeErrorKind.TheVariants.{IntegerOverflow, UnexpectedEmptyInput}
use Rattle.per_core.specs.declared.decode_error.DecodeErrorKind.TheVariants.{ValueConstraintNotSatisfied}
use Rattle.per_read.proofs.Calls.{of_short}
use Rattle.per_read.proofs.OfFields.{in_marked, past_marked, unconstrained_tested}
use Rattle.per_read.proofs.Refusals.{faulty_map}
use Rattle.per_read.proofs.Marked.{mark_in, mark_past, in_mark, past_mark, no_mark}

module _ (a : Settings) (bounds range : Bounds) {s m : Bits} where
  -- a bit 0 and a number within bounds
  pub in_root : s ≡ false ∷ m → (z : ℤ) (t : Bits) → Took (IsNumberOf a bounds false range z) m t → Took (IsNumberOf a bounds true range z) s t
  in_root e z t b =
      let w : Took (IsNumber a bounds z) m t = took_map (λ p c x. x.spelled) b in
      took_map (λ p c x. record { in_range = b.spelled.in_range; spelled = x }) (mark_in (IsNumber a bounds) (IsNumber a unbounded) e z t w)

  -- a bit 1 and any number
  pub past_root : s ≡ true ∷ m → (z : ℤ) (t : Bits) → Took (IsNumberOf a unbounded false range z) m t → Took (IsNumberOf a bounds true range z) s t
  past_root e z t b =
      let w : Took (IsNumber a unbounded z) m t = took_map (λ p c x. x.spelled) b in
      took_map (λ p c x. record { in_range = b.spelled.in_range; spelled = x }) (mark_past (IsNumber a bounds) (IsNumber a unbounded) e z t w)

  root_back : s ≡ false ∷ m → (z : ℤ) (t : Bits) → Took (IsNumberOf a bounds true range z) s t → Took (IsNumberOf a bounds false range z) m t
  root_back e z t b =
      took_map (λ p c x. record { in_range = b.spelled.in_range; spelled = x })
      (in_mark (IsNumber a bounds) (IsNumber a unbounded) e z t (record { front = b.front; joins = b.joins; spelled = b.spelled.spelled }))

  past_back : s ≡ true ∷ m → (z : ℤ) (t : Bits) → Took (IsNumberOf a bounds true range z) s t → Took (IsNumberOf a unbounded false range z) m t
  past_back e z t b =
      took_map (λ p c x. record { in_range = b.spelled.in_range; spelled = x })
      (past_mark (IsNumber a bounds) (IsNumber a unbounded) e z t (record { front = b.front; joins = b.joins; spelled = b.spelled.spelled }))

  -- a fault after the bit is one of the whole
  root_kind : (k : DecodeErrorKind) → s ≡ false ∷ m → IsOfNumber a bounds false range m k → IsOfNumber a bounds true range s k
  root_kind UnexpectedEmptyInput e h = record { rest = h.rest; took = mark_in (no_octets a) (λ b. no_octets a unbounded) e bounds h.rest h.took }
  root_kind (ValueConstraintNotSatisfied told) e h = record {
    number = h.number;
    rest = h.rest;
    outside = h.outside;
    is_named = h.is_named;
    is_low = h.is_low;
    is_high = h.is_high;
    took = mark_in (under_bounds a bounds.low bounds.high) (λ z. never) e h.number h.rest h.took;
  }
  root_kind (IntegerOverflow width) e h = record {
    number = h.number;
    rest = h.rest;
    took = mark_in (within_bounds a bounds) (IsUnconstrainedWhole a) e h.number h.rest h.took;
    none = λ b. h.none (root_back e h.number h.rest b);
  }
  root_kind k e h = in_marked (IsOfForm a bounds.low bounds.high) (IsOfOctets a) k e h

  past_kind : (k : DecodeErrorKind) → s ≡ true ∷ m → IsOfNumber a unbounded false range m k → IsOfNumber a bounds true range s k
  past_kind UnexpectedEmptyInput e h = record { rest = h.rest; took = mark_past (no_octets a) (λ b. no_octets a unbounded) e bounds h.rest h.took }
  past_kind (ValueConstraintNotSatisfied told) e h = let i : true ≡ false = h.outside in absurd (cc)
  past_kind (IntegerOverflow width) e h = record {
    number = h.number;
    rest = h.rest;
    took = mark_past (within_bounds a bounds) (IsUnconstrainedWhole a) e h.number h.rest (took_map (λ p c x. x.1) h.took);
    none = λ b. h.none (past_back e h.number h.rest b);
  }
  past_kind k e h = past_marked (IsOfForm a bounds.low bounds.high) (IsOfOctets a) k e h

  pub faulty_root : (k : DecodeErrorKind) → s ≡ false ∷ m → Faulty (IsOfNumber a bounds false range m) (NoneIn (IsNumberOf a bounds false range) m) k
      → Faulty (IsOfNumber a bounds true range s) (NoneIn (IsNumberOf a bounds true range) s) k
  faulty_root k e = faulty_map k (root_kind k e) (λ none z t b. none z t (root_back e z t b))

  pub faulty_past : (k : DecodeErrorKind) → s ≡ true ∷ m → Faulty (IsOfNumber a unbounded false range m) (NoneIn (IsNumberOf a unbounded false range) m) k
      → Faulty (IsOfNumber a bounds true range s) (NoneIn (IsNumberOf a bounds true range) s) k
  faulty_past k e = faulty_map k (past_kind k e) (λ none z t b. none z t (past_back e z t b))

-- what a kind says of the octets of a number without bounds
pub octets_number_said : (a : Settings) (range : Bounds) (s : Bits) (k : DecodeErrorKind) → IsOfUnconstrained a 8 s k → IsOfNumber a unbounded false range s k
octets_number_said a range s UnexpectedEmptyInput h = absurd (let i : IsTested UnexpectedEmptyInput = unconstrained_tested UnexpectedEmptyInput h in i)
octets_number_said a range s (ValueConstraintNotSatisfied told) h = absurd (let i : IsTested (ValueConstraintNotSatisfied told) = unconstrained_tested (ValueConstraintNotSatisfied told) h in i)
octets_number_said a range s (IntegerOverflow width) h = absurd (let i : IsTested (IntegerOverflow width) = unconstrained_tested (IntegerOverflow width) h in i)
octets_number_said a range s _ h = h

-- and where there is no bit, there is no number
bit_number : (a : Settings) (bounds range : Bounds) (s : Bits) (k : DecodeErrorKind) → IsOfBitField 1 s k → IsOfNumber a bounds true range s k
bit_number a bounds range s UnexpectedEmptyInput h = absurd (let i : IsTested UnexpectedEmptyInput = of_short UnexpectedEmptyInput h in i)
bit_number a bounds range s (ValueConstraintNotSatisfied told) h = absurd (let i : IsTested (ValueConstraintNotSatisfied told) = of_short (ValueConstraintNotSatisfied told) h in i)
bit_number a bounds range s (IntegerOverflow width) h = absurd (let i : IsTested (IntegerOverflow width) = of_short (IntegerOverflow width) h in i)
bit_number a bounds range s _ h = inl h

pub no_bit : (a : Settings) (bounds range : Bounds) {s : Bits} (k : DecodeErrorKind) → IsOfBitField 1 s k × (s ≡ []) → Faulty (IsOfNumber a bounds true range s) (NoneIn (IsNumberOf a bounds true range) s) k
no_bit a bounds range {s} k h = inr (
  bit_number a bounds range s k h.0,
  λ z t b. no_mark (IsNumber a bounds) (IsNumber a unbounded) h.1 z t (record { front = b.front; joins = b.joins; spelled = b.spelled.spelled }),
)
