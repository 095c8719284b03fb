use Rattle.rasn_record.proofs.BothRead.{fields_taken_as}
use Rattle.rasn_sets.proofs.ordered.read_all.Goals as goal

pub returns : goal.returns
returns g c = fields_taken_as c.requires.components c.requires.additions c.cells_and_additions.ensures
