-- Widths by leading zero bits.
use Rattle.std.proofs.Common.{◌≡◌, ◌∙◌, sym, ℕ, ◌+◌, ◌-◌, ◌<◌, ◌^◌, arith}
use Rattle.std.proofs.lemmas.Nat.{leading_length}
use lib.Count.{count_leading_zeros}
use Rattle.rasn_types.specs.Bits.{width}
use Rattle.rasn_types.proofs.Bits.{width_is}

-- X.691 11.5.6: the width of the numbers from 0 to m
pub width_of_last : (m : ℕ) → m < 2 ^ 128 → 128 - count_leading_zeros 128 m ≡ width (m + 1)
width_of_last m h =
    let d = leading_length 128 m h in
    let w : width (m + 1) ≡ d.0 = width_is m d.0 d.2 d.3 in
    let l : count_leading_zeros 128 m + d.0 ≡ 128 = d.1 in
    let e : 128 - count_leading_zeros 128 m ≡ d.0 = omega arith in
    e ∙ sym w
