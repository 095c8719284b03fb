use Rattle.std.proofs.Common.{arith}
use Rattle.per_pieces.proofs.Zeros.{further_zeros, no_zeros}
use Rattle.per_pieces.proofs.Pieces.push_many_zeros.Goals as goal

pub loop-left-init : goal.loop-left-init
loop-left-init g c = record { written = no_zeros c.args.self.now c.args.count; within = omega arith }

pub loop-left-preserved : goal.loop-left-preserved
loop-left-preserved g c = record {
  written = further_zeros c.args.self.now c.loop-left.self c.push_few_zeros.new.self c.args.count c.loop-left.left c.min-width.result c.loop-left.invariant.within (omega (arith, c.min-width.ensures))
      c.loop-left.invariant.written c.in_ok-push_few_zeros.ensures;
  within = omega arith;
}
