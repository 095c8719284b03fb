use Rattle.std.proofs.Common.{arith}
use Rattle.rasn_types.proofs.Iterating.{iterated}
use Rattle.rasn_types.proofs.bit_string.BitIterIterator.next.Goals as goal

pub returns-clause-steps : goal.returns-clause-steps
returns-clause-steps c = iterated c.self.inside.bits.now c.args.self.now c.self.inside.index c.get.result c.self.view_is (omega arith) c.get.ensures
