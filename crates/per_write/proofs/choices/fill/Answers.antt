use Rattle.std.proofs.Common.{◌∙◌, ap, arith}
use Rattle.per_pieces.specs.Pieces.{Pieces}
use Rattle.per_write.proofs.Filling.{bit_filled}
use Rattle.per_write.proofs.choices.fill.Goals as goal

pub loop-left-preserved : goal.loop-left-preserved
loop-left-preserved g c = record {
  filled = bit_filled c.args.place c.args.width c.args.number c.args.pieces.now.list c.loop-left.pieces.list c.set.new.self.list c.loop-left.left c.loop-left.next c.pow-weight.result c.loop-left-test.true c.pow-weight.ensures c.loop-left.invariant.filled (ap (λ (x : Pieces). x.list) c.set.ensures);
  same = ap (λ (x : Pieces). x.placed) c.set.ensures ∙ c.loop-left.invariant.same;
  few = omega arith;
  there = omega arith;
}
