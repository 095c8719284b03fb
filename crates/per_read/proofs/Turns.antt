-- Presence bits, one after another.
use Rattle.std.proofs.Common.{◌≡◌, ◌<◌, ◌≤◌, refl, sym, ap, ◌∙◌, subst, ℕ, zero, suc, ◌+◌, true, false, nat_eq, [], ◌∷◌, ◌++◌, length, take, drop, Some, arith}
use Rattle.std.specs.Prelude.{slice_get}
use Rattle.rasn_types.specs.Bits.{Bits, number_of}
use Rattle.per_core.specs.AdditionFaults.{NextFlag}

-- one bit
pub one_bit : (s front t : Bits) (n : ℕ) → s ≡ front ++ t → length front ≡ 1 → n ≡ number_of (take 1 front) → NextFlag s (Some (nat_eq n 1)) t
one_bit s [] t n e l m = absurd (omega arith)
one_bit s (b ∷ c ∷ front) t n e l m = absurd (omega arith)
one_bit s (true ∷ []) t n e l m = e ∙ ap (λ z. nat_eq z 1 ∷ t) (sym m)
one_bit s (false ∷ []) t n e l m = e ∙ ap (λ z. nat_eq z 1 ∷ t) (sym m)

-- a bit at an index
after_bit_at : (bits : Bits) (i : ℕ) → i < length bits → NextFlag (drop i bits) (slice_get bits i) (drop (suc i) bits)
after_bit_at [] i l = absurd (omega arith)
after_bit_at (b ∷ bits) zero l = refl
after_bit_at (b ∷ bits) (suc i) l = after_bit_at bits i (omega arith)

pub bit_at : (bits : Bits) (i : ℕ) → i < length bits → NextFlag (drop i bits) (slice_get bits i) (drop (i + 1) bits)
bit_at bits i l = let e : suc i ≡ i + 1 = omega arith in subst (λ (n : ℕ). NextFlag (drop i bits) (slice_get bits i) (drop n bits)) e (after_bit_at bits i l)

pub none_at : (bits : Bits) (i : ℕ) → length bits ≤ i → drop i bits ≡ []
none_at [] zero l = refl
none_at [] (suc i) l = refl
none_at (b ∷ bits) zero l = absurd (omega arith)
none_at (b ∷ bits) (suc i) l = none_at bits i (omega arith)
