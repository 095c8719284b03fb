use Rattle.std.proofs.Common.{◌+◌, drop, refl, take, arith}
use Rattle.rasn_types.specs.Bits.{unpack}
use Rattle.per_bits.proofs.Loops.{wide_done, wide_more, within_more}
use Rattle.per_bits.proofs.bit_fields.read_wide_field.Goals as goal

pub loop-left-preserved : goal.loop-left-preserved
loop-left-preserved c =
    let m = wide_more c.min-width.result c.loop-left.gone c.loop-left.left c.args.count c.loop-left.value c.from.result (c.loop-left.gone + c.min-width.result) _ c.loop-left.rest.now (take c.args.count (drop c.args.skip (unpack c.args.octets.now)))
    (omega arith) c.loop-left.invariant.fewer c.requires.few refl c.loop-left.invariant.below (rw c.from.ensures c.read_field.ensures.below) (rw c.from.ensures c.read_field.ensures.bits) c.loop-left.invariant.bits refl in
    record {
      fewer = omega arith;
      within = within_more c.loop-left.gone c.loop-left.left c.min-width.result (c.loop-left.gone + c.min-width.result) c.loop-left.rest.now c.loop-left.invariant.within (omega arith) refl;
      below = m.0;
      bits = m.1;
    }

pub returns : goal.returns
returns c = wide_done c.loop-left.left c.args.count c.loop-left.value (drop c.loop-left.gone (unpack c.loop-left.rest.now)) (take c.args.count (drop c.args.skip (unpack c.args.octets.now))) (omega arith) c.loop-left.invariant.below c.loop-left.invariant.bits
