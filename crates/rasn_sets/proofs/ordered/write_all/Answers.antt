use Rattle.rasn_record.proofs.BothWritten.{fields_written_as}
use Rattle.rasn_sets.proofs.ordered.write_all.Goals as goal

pub returns : goal.returns
returns g c = fields_written_as c.requires.components c.requires.additions c.requires.values c.requires.added c.requires.depth c.cells_and_additions.ensures
