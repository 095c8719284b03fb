-- What a word of the first 56 bits says of fields in front, whichever bits stand in place of those that aren't left.
use Rattle.std.proofs.Common.{◌≡◌, ◌∙◌, ◌<◌, ◌≤◌, ◌+◌, ◌-◌, ◌/◌, ◌^◌, sym, ap, subst, arith, refl, ℕ, true, false, inl, ◌∷◌, ◌++◌, length, take, length-append, mod-eq_of_lt}
use Rattle.std.proofs.lemmas.List.{take_at, take-take}
use Rattle.std.proofs.lemmas.Nat.{shr_below, shr-shr}
use Rattle.rasn_types.specs.Bits.{Bits, number_of, to_bits}
use Rattle.rasn_types.proofs.Bits.{length-to_bits, number-to_bits, to_bits-split}
use Rattle.per_core.specs.Basic.{LastCount}
use Rattle.per_core.specs.Spellings.{Took}
use Rattle.per_read.proofs.Counts.{long_count}

-- the high 56 bits of a word begin as the bits do
pub record BeginsAs (w : ℕ) (s : Bits) : Type 0 where
  pub bits : take (length s) (to_bits 56 (w / 2 ^ 8)) ≡ take 56 s
  pub below : w < 2 ^ 64

-- the same of bits under another name
pub begins_as : {w : ℕ} {r s : Bits} → r ≡ s → take (length r) (to_bits 56 (w / 2 ^ 8)) ≡ take 56 r → w < 2 ^ 64 → BeginsAs w s
begins_as {w} e b h = record { bits = subst (λ t. take (length t) (to_bits 56 (w / 2 ^ 8)) ≡ take 56 t) e b; below = h }

front_below : {w : ℕ} {s : Bits} (k : ℕ) → BeginsAs w s → k ≤ 56 → w / 2 ^ (64 - k) < 2 ^ k
front_below {w} k b h = shr_below w k (64 - k) (subst (λ (n : ℕ). w < 2 ^ n) (let i : 64 ≡ k + (64 - k) = omega arith in i) b.below)

module _ {w : ℕ} {s : Bits} (f t : Bits) (b : BeginsAs w s) (joins : s ≡ f ++ t) where
  pub front_is : (k : ℕ) → length f ≡ k → k ≤ 56 → f ≡ to_bits k (w / 2 ^ (64 - k))
  front_is k e h = sym (take_at f t k e) ∙ ap (take k) (sym joins) ∙ sym (take-take k 56 s h) ∙ ap (take k) (sym b.bits)
      ∙ take-take k (length s) (to_bits 56 (w / 2 ^ 8)) (omega (arith, ap length joins, length-append f t, e))
      ∙ ap (λ (n : ℕ). take k (to_bits n (w / 2 ^ 8))) (let i : 56 ≡ k + (56 - k) = omega arith in i) ∙ ap (take k) (to_bits-split k (56 - k) (w / 2 ^ 8))
      ∙ take_at (to_bits k (w / 2 ^ 8 / 2 ^ (56 - k))) (to_bits (56 - k) (w / 2 ^ 8)) k (length-to_bits k (w / 2 ^ 8 / 2 ^ (56 - k)))
      ∙ ap (to_bits k) (shr-shr w 8 (56 - k) ∙ ap (λ (n : ℕ). w / 2 ^ n) (let i : 8 + (56 - k) ≡ 64 - k = omega arith in i))

  pub front_number : (k : ℕ) → length f ≡ k → k ≤ 56 → number_of f ≡ w / 2 ^ (64 - k)
  front_number k e h = ap number_of (front_is k e h) ∙ number-to_bits k (w / 2 ^ (64 - k)) ∙ mod-eq_of_lt (front_below k b h)

  -- X.691 11.9.3.6
  pub short_last : length f ≡ 8 → w / 2 ^ 56 < 128 → Took (LastCount (w / 2 ^ 56)) s t
  short_last e h = record { front = f; joins = joins; spelled = inl (h, record { wide = e; means = front_number 8 e (omega arith) }) }

  -- X.691 11.9.3.7
  pub long_last : length f ≡ 16 → w / 2 ^ 62 ≡ 2 → Took (LastCount (w / 2 ^ 48 - 32768)) s t
  long_last e h = subst (λ bs. Took (LastCount (w / 2 ^ 48 - 32768)) bs t) (sym (joins ∙ ap (λ bs. bs ++ t) parts)) (long_count (record {
    front = to_bits 14 (w / 2 ^ 48);
    joins = refl;
    spelled = record { wide = length-to_bits 14 (w / 2 ^ 48); means = number-to_bits 14 (w / 2 ^ 48) ∙ omega (arith, h) };
  }))
    where
      high : w / 2 ^ 48 / 2 ^ 14 ≡ 2
      high = omega (arith, h)

      parts : f ≡ true ∷ false ∷ to_bits 14 (w / 2 ^ 48)
      parts = front_is 16 e (omega arith) ∙ to_bits-split 2 14 (w / 2 ^ 48) ∙ ap (λ (n : ℕ). to_bits 2 n ++ to_bits 14 (w / 2 ^ 48)) high
