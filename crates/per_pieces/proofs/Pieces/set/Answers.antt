use Rattle.std.proofs.Common.{◌∙◌, ap}
use Rattle.per_pieces.specs.Pieces.{Pieces, with_bit}
use Rattle.per_pieces.proofs.Marking.{pieces_set}
use Rattle.per_pieces.proofs.Pieces.set.Goals as goal

pub returns : goal.returns
returns g c =
    pieces_set c.self.inside.marks c.self.inside.bits c.set.new.self c.args.place c.args.bit c.set.ensures ∙ ap (λ (x : Pieces). with_bit x c.args.place c.args.bit) c.self.view_is
