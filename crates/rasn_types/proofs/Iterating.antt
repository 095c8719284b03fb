-- One bit after another.
use Rattle.std.proofs.Common.{◌≡◌, refl, sym, ap, ◌∙◌, subst, ℕ, zero, suc, ◌+◌, ◌-◌, ◌<◌, Bool, [], ◌∷◌, length, drop, Option, slice_get, arith}
use Rattle.std.specs.Iterator.{YieldsFirst}
use Rattle.rasn_types.specs.Bits.{Bits}

next_bit : (bs : Bits) (i : ℕ) (r : Option Bool) → i < length bs → r ≡ slice_get bs i → YieldsFirst {S = Bits} {A = Bool} (λ s. s) (drop i bs) r (drop (suc i) bs)
next_bit [] i r l e = absurd (omega arith)
next_bit (b ∷ bs) zero r l e = subst (λ o. YieldsFirst {S = Bits} {A = Bool} (λ s. s) (b ∷ bs) o bs) (sym e) refl
next_bit (b ∷ bs) (suc i) r l e = next_bit bs i r (omega arith) e

-- the first of the bits from an index on is that at the index
pub iterated : (bs left : Bits) (i : ℕ) (r : Option Bool) → drop i bs ≡ left → i < length bs → r ≡ slice_get bs (i + 1 - 1) →
    YieldsFirst {S = Bits} {A = Bool} (λ s. s) left r (drop (i + 1) bs)
iterated bs left i r d l e =
    subst (λ s. YieldsFirst {S = Bits} {A = Bool} (λ t. t) s r (drop (i + 1) bs)) d
    (subst (λ (k : ℕ). YieldsFirst {S = Bits} {A = Bool} (λ t. t) (drop i bs) r (drop k bs)) next (next_bit bs i r l (e ∙ ap (λ (k : ℕ). slice_get bs k) here)))
  where
    next : suc i ≡ i + 1
    next = omega arith

    here : i + 1 - 1 ≡ i
    here = omega arith
