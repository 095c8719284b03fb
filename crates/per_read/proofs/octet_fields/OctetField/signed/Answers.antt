use Rattle.std.proofs.Common.{◌∙◌, ◌-◌, ◌*◌, arith, pow_pos}
use Rattle.std.specs.Int.{w128}
use Rattle.std.proofs.lemmas.Int.{to_z_pos}
use Rattle.per_read.proofs.ReadAsField.{few_below, half_is, negative_is, signed_natural, twice_half}
use Rattle.per_read.proofs.octet_fields.OctetField.signed.Goals as goal

pub overflow_cast-result : goal.overflow_cast-result
overflow_cast-result c =
    let h = half_is c.requires.1 in
    record { sfits = omega (arith, h.0, h.1, c.if-self-half.true) }

pub overflow_sub-result-else-self-half-2 : goal.overflow_sub-result-else-self-half-2
overflow_sub-result-else-self-half-2 c =
    let h = half_is c.requires.1 in
    omega (arith, h.0, few_below c.requires.1, twice_half c.requires.1, c.if-self-half.false)

pub overflow_cast-result-else-self-half : goal.overflow_cast-result-else-self-half
overflow_cast-result-else-self-half c =
    let h = half_is c.requires.1 in
    record { sfits = omega (arith, h.0, h.1, pow_pos (8 * c.args.self.now.count - 1)) }

pub returns-then-self-half : goal.returns-then-self-half
returns-then-self-half c os a =
    let h = half_is a in
    to_z_pos w128 c.args.self.now.number (omega (arith, h.0, h.1, c.if-self-half.true)) ∙ signed_natural a (omega (arith, h.0, c.if-self-half.true))

pub returns-else-self-half : goal.returns-else-self-half
returns-else-self-half c os a =
    let h = half_is a in
    negative_is a _ h.0 (omega (arith, h.0, h.1)) (omega (arith, h.0, pow_pos (8 * c.args.self.now.count - 1))) (omega (arith, c.if-self-half.false))
