use Rattle.std.proofs.Common.{◌∙◌, ap, sym, length}
use Rattle.per_pieces.specs.Pieces.{Pieces, bit_count}
use Rattle.per_pieces.specs.MarkPositions.{places_of}
use Rattle.per_pieces.proofs.Marking.{bits_of_marked}
use Rattle.per_pieces.proofs.Pieces.len.Goals as goal

pub returns : goal.returns
returns g c = c.len.ensures ∙ ap length (sym (bits_of_marked 0 (places_of c.self.inside.marks) c.self.inside.bits)) ∙ ap (λ (x : Pieces). bit_count x.list) c.self.view_is
