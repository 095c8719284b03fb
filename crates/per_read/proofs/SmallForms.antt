-- Normally small numbers, seen from the bits that are left (X.691 11.6).
use Rattle.std.proofs.Common.{◌≡◌, ◌⊎◌, ◌&&◌, ap, subst, ℕ, ◌-◌, ◌^◌, ◌<◌, Bool, true, false, [], ◌∷◌, arith, inl, inr, le-leb, pos}
use Rattle.rasn_types.specs.Bits.{Bits}
use Rattle.rasn_constraints.specs.Bounds.{fits_i128}
use Rattle.per_core.specs.Basic.{IsNumber, IsSemiConstrainedWhole, Small, at_least_zero}
use Rattle.per_core.specs.Spellings.{Settings, Then, exactly, BitField, Took}
use Rattle.per_core.proofs.TakenInTurn.{took_then, then_took, took_map}
use Rattle.per_core.specs.BitFieldFaults.{IsOfBitField, IsOfMarked, IsOfUnconstrained}
use Rattle.per_core.specs.NumberFaults.{IsOfOctets, small_form}
use Rattle.per_read.specs.SmallNumbers.{IsOfSmall}
use Rattle.per_core.specs.declared.decode_error.DecodeErrorKind.{DecodeErrorKind}
use Rattle.per_core.specs.declared.decode_error.DecodeErrorKind.TheVariants.{UnexpectedEmptyInput}
use Rattle.per_read.proofs.Calls.{of_short}
use Rattle.per_read.proofs.Fields.{either_took}
use Rattle.per_read.proofs.Marked.{after_bit}
use Rattle.per_read.proofs.OfFields.{marked_tested, past_marked, unconstrained_tested}

-- what a kind says of a field of one
pub field_small : (a : Settings) (s : Bits) (k : DecodeErrorKind) → IsOfMarked true (IsOfBitField 6) (IsOfUnconstrained a 8) s k → IsOfSmall a s k
field_small a s UnexpectedEmptyInput h = absurd (marked_tested (IsOfBitField 6) (IsOfUnconstrained a 8) true s UnexpectedEmptyInput (λ t x. of_short UnexpectedEmptyInput x) (λ t x. unconstrained_tested UnexpectedEmptyInput x) h)
field_small a s _ h = h

-- the octets of a large form
pub octets_small : (a : Settings) (s m : Bits) (k : DecodeErrorKind) → s ≡ true ∷ m → IsOfOctets a m k → IsOfSmall a s k
octets_small a s m UnexpectedEmptyInput e h = (h.0, after_bit true e h.0 h.1)
octets_small a s m k e h = past_marked (IsOfBitField 6) (IsOfUnconstrained a 8) k e h

-- a number that 64 bits hold is within an i128
fits_small : (i : ℕ) → i < 2 ^ 64 → fits_i128 (pos i) ≡ true
fits_small i h = le-leb i (2 ^ 127 - 1) (omega arith)

not_negative : (a : Settings) (i p : ℕ) (b : Bits) → i < 2 ^ 64 → IsSemiConstrainedWhole a i p b → IsNumber a at_least_zero (pos i) p b
not_negative a i p b h x = record {
  within = ap (λ (c : Bool). c && true) (le-leb 0 i (omega arith));
  spelled = (fits_small i h, subst (λ (n : ℕ). IsSemiConstrainedWhole a n p b) {x = i} {y = i - 0} (omega arith) x);
}

natural : (a : Settings) (i p : ℕ) (b : Bits) → IsNumber a at_least_zero (pos i) p b → IsSemiConstrainedWhole a i p b
natural a i p b x = subst (λ (n : ℕ). IsSemiConstrainedWhole a n p b) {x = i - 0} {y = i} (omega arith) x.spelled.1

pub small_took : (a : Settings) (i : ℕ) {m t : Bits} → i < 2 ^ 64 → Took (small_form a i) m t → Took (Small a i) m t
small_took a i {m} {t} h b = go (either_took b)
  where
    go : Took (Then (exactly (false ∷ [])) (BitField 6 i)) m t ⊎ Took (Then (exactly (true ∷ [])) (IsSemiConstrainedWhole a i)) m t → Took (Small a i) m t
    go (inl d) = record { front = d.front; joins = d.joins; spelled = inl d.spelled }
    go (inr d) =
        let q = then_took d in
        let w : Took (Then (exactly (true ∷ [])) (IsNumber a at_least_zero (pos i))) m t = took_then q.1 (took_map (λ p c x. not_negative a i p c h x) q.2) in
        record { front = w.front; joins = w.joins; spelled = inr w.spelled }

pub took_small : (a : Settings) (i : ℕ) {m t : Bits} → Took (Small a i) m t → Took (small_form a i) m t
took_small a i {m} {t} b = go (either_took b)
  where
    go : Took (Then (exactly (false ∷ [])) (BitField 6 i)) m t ⊎ Took (Then (exactly (true ∷ [])) (IsNumber a at_least_zero (pos i))) m t → Took (small_form a i) m t
    go (inl d) = record { front = d.front; joins = d.joins; spelled = inl d.spelled }
    go (inr d) =
        let q = then_took d in
        let w : Took (Then (exactly (true ∷ [])) (IsSemiConstrainedWhole a i)) m t = took_then q.1 (took_map (λ p c x. natural a i p c x) q.2) in
        record { front = w.front; joins = w.joins; spelled = inr w.spelled }
