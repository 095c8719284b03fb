use Rattle.per_pieces.proofs.Marking.{settled_plain}
use Rattle.per_pieces.proofs.Pieces.into_placed.Goals as goal

pub returns-in-None : goal.returns-in-None
returns-in-None g c = settled_plain c.args.self c.self.inside.marks c.self.inside.bits c.self.view_is c.in-None.is
