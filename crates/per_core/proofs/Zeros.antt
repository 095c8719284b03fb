-- Bits that mean 0 are zeros.
use Rattle.std.proofs.Common.{◌≡◌, refl, ap, true, false, [], ◌∷◌, length, replicate, arith, pow_pos}
use Rattle.rasn_types.specs.Bits.{Bits, number_of}

pub zeros : (bs : Bits) → number_of bs ≡ 0 → bs ≡ replicate (length bs) false
zeros [] h = refl
zeros (true ∷ bs) h = absurd (omega (arith, h, pow_pos (length bs)))
zeros (false ∷ bs) h = ap (λ z. false ∷ z) (zeros bs (omega (arith, h)))
