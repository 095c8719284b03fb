use Rattle.per_pieces.specs.MarkPositions.{marked}
use Rattle.per_pieces.proofs.Marking.{settled_alone}
use Rattle.per_pieces.proofs.place_marked.Goals as goal

pub returns : goal.returns
returns g c =
    settled_alone c.from_bits-all.result c.push_marked.new.self c.all.inside.marks c.new.result c.all.inside.bits (marked 0 c.args.marks.now c.args.bits.now) c.new.ensures c.from_bits-all.ensures c.in_ok-push_marked.ensures c.all.view_is
