use Rattle.std.proofs.Common.{◌∙◌, ap}
use Rattle.std.proofs.lemmas.Result.{on_ok_weaker}
use Rattle.per_bits.specs.Octets.{low_bits_of}
use Rattle.per_pieces.specs.Pieces.{Pieces, with_bits}
use Rattle.per_pieces.specs.MarkPositions.{places_of}
use Rattle.per_pieces.proofs.Marking.{grown, pieces_bits}
use Rattle.per_pieces.proofs.Placed.{appends_bits}
use Rattle.per_pieces.proofs.Pieces.push_low_bits.Goals as goal

pub invariant_of-self : goal.invariant_of-self
invariant_of-self g c = grown (places_of c.self.inside.marks) c.self.inside.bits c.push_low_bits.new.self (low_bits_of c.args.width c.args.octets.now) c.push_low_bits.result c.self.invariant c.push_low_bits.ensures.ok c.push_low_bits.ensures.err

pub returns : goal.returns
returns g c =
    let bits = low_bits_of c.args.width c.args.octets.now in
    on_ok_weaker _ (λ e. appends_bits c.args.self.now _ bits (pieces_bits c.self.inside.marks c.self.inside.bits c.push_low_bits.new.self bits c.self.invariant e ∙ ap (λ (x : Pieces). with_bits x bits) c.self.view_is)) c.push_low_bits.ensures.ok
