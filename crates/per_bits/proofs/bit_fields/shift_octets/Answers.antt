use Rattle.std.proofs.Common.{◌∙◌, ◌+◌, ◌^◌, ◌<◌, ◌++◌, ℕ, ap₂, drop, take, arith, rules}
use Rattle.rasn_types.specs.Bits.{to_bits}
use Rattle.per_bits.proofs.Shifts.{pair_bits, shift_more}
use Rattle.per_bits.proofs.bit_fields.shift_octets.Goals as goal

pub loop-index-preserved : goal.loop-index-preserved
loop-index-preserved c =
    let i = c.loop-index.index in
    let high : c.from.result < 2 ^ 8 = omega (arith, c.type_inv.from i) in
    let low : c.from-in-loop-index.result < 2 ^ 8 = omega (arith, c.type_inv.from (i + 1)) in
    let octet = pair_bits c.args.skip c.from.result c.from-in-loop-index.result c.requires.few high low
    ∙ ap₂ (λ (x y : ℕ). take 8 (drop c.args.skip (to_bits 8 x ++ to_bits 8 y))) c.from.ensures c.from-in-loop-index.ensures in
    record {
      same = search rules;
      bits = shift_more c.args.skip i _ c.loop-index.octets c.args.from.now c.requires.few (omega (arith, c.loop-index-test.true)) (omega (arith, c.loop-index-test.true, c.loop-index.invariant.same))
          octet c.loop-index.invariant.bits;
    }
