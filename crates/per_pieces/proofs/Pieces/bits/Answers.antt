use Rattle.std.proofs.Common.{◌∙◌, ap, sym}
use Rattle.per_pieces.specs.Pieces.{Pieces, bits_of}
use Rattle.per_pieces.specs.MarkPositions.{places_of}
use Rattle.per_pieces.proofs.Marking.{bits_of_marked}
use Rattle.per_pieces.proofs.Pieces.bits.Goals as goal

pub returns : goal.returns
returns g c = sym (bits_of_marked 0 (places_of c.self.inside.marks) c.self.inside.bits) ∙ ap (λ (x : Pieces). bits_of x.list) c.self.view_is
