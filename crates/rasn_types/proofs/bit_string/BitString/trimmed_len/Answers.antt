use Rattle.std.proofs.Common.{arith, rules}
use Rattle.rasn_types.proofs.Trimming.{zero_passed, one_stops}
use Rattle.rasn_types.proofs.bit_string.BitString.trimmed_len.Goals as goal

pub loop-len-preserved : goal.loop-len-preserved
loop-len-preserved c = record {
  few = (let f = c.loop-len.invariant.few in omega arith);
  same = zero_passed c.loop-len.len c.args.self.now c.is_set.result (omega (arith, c.loop-len-test.true)) c.loop-len.invariant.few c.is_set.ensures (search (rules, c.if-not-is_set.true)) c.loop-len.invariant.same;
}

pub returns-else-not-is_set : goal.returns-else-not-is_set
returns-else-not-is_set c = one_stops c.loop-len.len c.args.self.now c.is_set.result (omega (arith, c.loop-len-test.true)) c.loop-len.invariant.few c.is_set.ensures (search (rules, c.if-not-is_set.false)) c.loop-len.invariant.same
