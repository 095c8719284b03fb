use Rattle.std.proofs.Common.{◌+◌, ◌≤◌, ◌^◌, ◌∙◌, ℕ, ap, arith}
use Rattle.rasn_types.specs.Bits.{width}
use Rattle.rasn_types.proofs.Bits.{width_least}
use Rattle.per_pieces.proofs.numbers.push_in_fewest_bits.Goals as goal

pub push_field-requires : goal.push_field-requires
push_field-requires g c =
    let below : c.from.result + 1 ≤ 2 ^ 56 = omega (arith, c.from.ensures) in
    omega (arith, c.width_to-width.ensures.width, width_least (c.from.result + 1) 56 below)

pub returns-then-greatest : goal.returns-then-greatest
returns-then-greatest g c =
    rw (c.width_to-width.ensures.width ∙ ap (λ (n : ℕ). width (n + 1)) c.from.ensures) at c.push_field.ensures

pub returns : goal.returns
returns g c = rw c.width_to.ensures.width at c.push_bits.ensures.ok
