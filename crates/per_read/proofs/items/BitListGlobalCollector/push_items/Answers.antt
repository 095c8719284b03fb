use Rattle.per_read.proofs.OneByOne.{bits_gathered}
use Rattle.per_read.proofs.items.BitListGlobalCollector.push_items.Goals as goal

pub returns-clause-ok : goal.returns-clause-ok
returns-clause-ok c = bits_gathered c.args.self.now c.push_reader.new.self c.args._many c.args.bits.bits c.requires.bits c.in_ok-push_reader.ensures.ok
