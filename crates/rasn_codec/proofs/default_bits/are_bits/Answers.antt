use Rattle.rasn_codec.proofs.SameValues.{next_bit, other_bit}
use Rattle.rasn_codec.proofs.default_bits.are_bits.Goals as goal

pub returns-then-is_set-bit : goal.returns-then-is_set-bit
returns-then-is_set-bit c = let h = c.loop-index.invariant in other_bit _ _ _ _ _ h.1 c.loop-index-test.true c.is_set.ensures c.if-is_set-bit.true h.0

pub loop-index-preserved : goal.loop-index-preserved
loop-index-preserved c = let h = c.loop-index.invariant in (next_bit _ _ _ _ _ h.1 c.loop-index-test.true c.is_set.ensures c.if-is_set-bit.false h.0, h.1)
