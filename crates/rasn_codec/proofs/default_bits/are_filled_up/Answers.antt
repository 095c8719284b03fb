use Rattle.std.proofs.Common.{◌∙◌}
use Rattle.rasn_codec.proofs.Named.{filled_bit}
use Rattle.rasn_codec.proofs.SameValues.{next_bit, other_bit}
use Rattle.rasn_codec.proofs.default_bits.are_filled_up.Goals as goal

pub returns-then-is_set-bit : goal.returns-then-is_set-bit
returns-then-is_set-bit c =
    let h = c.loop-place.invariant in
    other_bit _ _ _ _ _ h.1 c.loop-place-test.true (c.is_set.ensures ∙ filled_bit c.args.least c.loop-place.place c.args.string.now) c.if-is_set-bit.true h.0

pub loop-place-preserved : goal.loop-place-preserved
loop-place-preserved c =
    let h = c.loop-place.invariant in
    (next_bit _ _ _ _ _ h.1 c.loop-place-test.true (c.is_set.ensures ∙ filled_bit c.args.least c.loop-place.place c.args.string.now) c.if-is_set-bit.false h.0, h.1)
