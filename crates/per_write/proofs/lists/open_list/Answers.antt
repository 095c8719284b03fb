use Rattle.std.proofs.Common.{rules}
use Rattle.per_write.proofs.Elements.{list_law}
use Rattle.per_write.proofs.lists.open_list.Goals as goal

pub returns : goal.returns
returns g c = record { law = rw c.size.ensures at (list_law _ _ c.args.count c.args.writer.now c.begin_list.new.writer c.begin_list.result c.begin_list.ensures); behaves = search rules }
