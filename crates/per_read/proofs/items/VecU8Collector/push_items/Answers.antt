use Rattle.per_read.proofs.OneByOne.{octets_gathered}
use Rattle.per_read.proofs.items.VecU8Collector.push_items.Goals as goal

pub returns-clause-ok : goal.returns-clause-ok
returns-clause-ok c = octets_gathered c.args.self.now c.append_octets.new.octets c.args._many c.args.bits.bits c.requires.bits c.in_ok-append_octets.ensures.ok
