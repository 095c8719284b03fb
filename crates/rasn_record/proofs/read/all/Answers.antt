use Rattle.rasn_record.proofs.BothRead.{fields_taken_as}
use Rattle.rasn_record.proofs.read.all.Goals as goal

pub returns : goal.returns
returns g c = fields_taken_as c.requires.components c.requires.additions (rw (c.root.ensures) at c.cells_and_additions.ensures)
