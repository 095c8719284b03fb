-- The spare bits after a value.
use Rattle.std.proofs.Common.{◌≡◌, ◌<◌, inl, inr, ◌∙◌, ap, subst, ℕ, Bool, false, length, take, take_all, arith, mod-eq_of_lt, replicate}
use Rattle.rasn_types.specs.Bits.{Bits, number_of}
use Rattle.rasn_types.proofs.Packing.{number-zeros}
use Rattle.per_core.specs.Ends.{Ends, spare, IsOfSpare}
use Rattle.per_core.specs.Spellings.{ZeroIf}
use Rattle.per_core.specs.declared.ends.Surplus.{Surplus}
use Rattle.per_core.specs.declared.ends.Surplus.TheVariants.{Missing, NonzeroOctet, NonzeroSpareBits, ExtraOctets}
use Rattle.per_core.proofs.WriterSpellings.{zero_if}
use Rattle.per_core.proofs.Zeros.{zeros}

-- of fewer than eight bits all are spare
all_spare : (left : Bits) → length left < 8 → spare left ≡ left
all_spare left h = ap (λ (n : ℕ). take n left) (mod-eq_of_lt h) ∙ take_all (length left) left (omega arith)

-- spare bits that mean 0 are as they have to be
pub zero_spare : (strict : Bool) (left : Bits) → number_of (spare left) ≡ 0 → ZeroIf strict (spare left)
zero_spare strict left h = zero_if strict (spare left) (zeros (spare left) h)

-- where they aren't, no complete encoding ends
pub no_spare : (strict : Bool) (left : Bits) (n : ℕ) (why : Surplus) → length left < n → IsOfSpare strict left why → Ends strict left n → ⊥
no_spare strict left n (Missing k) l h e = absurd h
no_spare strict left n NonzeroOctet l h e = absurd h
no_spare strict left n (ExtraOctets k) l h e = absurd h
no_spare strict left n NonzeroSpareBits l h (inr y) = absurd (omega (arith, l, y.0))
no_spare strict left n NonzeroSpareBits l h (inl y) =
    let z : left ≡ replicate (length left) false = subst (λ b. ZeroIf b left) h.0 y.2 in
    h.1 (ap number_of (all_spare left y.0 ∙ z) ∙ number-zeros (length left))
