-- Numbers that an i128 holds.
use Rattle.std.proofs.Common.{◌≡◌, ℕ, ◌-◌, ◌^◌, ◌<◌, true, le-leb, arith, pos}
use Rattle.rasn_constraints.specs.Bounds.{fits_i128}

pub fits_small : (n : ℕ) → n < 65536 → fits_i128 (pos n) ≡ true
fits_small n h = le-leb n (2 ^ 127 - 1) (omega (arith, h))
