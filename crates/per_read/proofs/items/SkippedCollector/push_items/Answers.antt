use Rattle.per_read.proofs.OneByOne.{octets_skipped}
use Rattle.per_read.proofs.items.SkippedCollector.push_items.Goals as goal

pub returns-clause-ok : goal.returns-clause-ok
returns-clause-ok c = octets_skipped c.args.self.now c.args.self.now c.args._many c.args._bits.bits c.requires.bits
