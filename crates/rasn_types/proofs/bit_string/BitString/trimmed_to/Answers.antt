use Rattle.std.proofs.Common.{◌^◌, ◌-◌, ◌<◌, ◌≤◌, arith, length}
use Rattle.rasn_types.specs.Bits.{trimmed}
use Rattle.rasn_types.proofs.Trimming.{packed_enough, filled_first, filled_few, filled_next, filled_last}
use Rattle.rasn_types.proofs.bit_string.BitString.trimmed_to.Goals as goal

pub from_octets-requires : goal.from_octets-requires
from_octets-requires c = packed_enough c.trimmed_len-len.result c.args.self.now c.as_octets.result.now c.trimmed_len-len.ensures c.as_octets.ensures.octets

pub loop-init : goal.loop-init
loop-init c = record {
  few = omega arith;
  filled = filled_first c.trimmed_len-len.result c.args.self.now c.in_ok-bits.bits c.as_octets.result.now c.trimmed_len-len.ensures c.as_octets.ensures.bits c.in_ok-bits.ensures;
}

pub push-requires : goal.push-requires
push-requires c =
    let l : length (trimmed c.args.self.now) ≤ c.loop.counter = omega (arith, c.trimmed_len-len.ensures, c.loop.auto.counter) in
    let m : c.loop.counter < 2 ^ 64 - 1 = omega (arith, c.loop-test.true, c.ranges.least.fits) in
    let r : length c.loop.bits < 2 ^ 64 - 1 = filled_few c.loop.counter (2 ^ 64 - 1) (trimmed c.args.self.now) c.loop.bits l m c.loop.invariant.filled in
    r

pub loop-preserved : goal.loop-preserved
loop-preserved c =
    let l : length (trimmed c.args.self.now) ≤ c.loop.counter = omega (arith, c.trimmed_len-len.ensures, c.loop.auto.counter) in
    record {
      few = omega (arith, c.loop-test.true);
      filled = filled_next c.loop.counter (trimmed c.args.self.now) c.loop.bits c.push.new.self l c.loop.invariant.filled c.in_ok-push.ensures.ok;
    }

pub returns : goal.returns
returns c = filled_last c.loop.counter c.args.least c.trimmed_len-len.result (trimmed c.args.self.now) c.loop.bits c.trimmed_len-len.ensures c.loop.auto.counter c.loop-test.false c.loop.invariant.few c.loop.invariant.filled
