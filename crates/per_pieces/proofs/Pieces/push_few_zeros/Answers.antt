use Rattle.std.proofs.Common.{◌∙◌, ap, false, replicate}
use Rattle.std.proofs.lemmas.Result.{on_ok_weaker}
use Rattle.per_pieces.specs.Pieces.{Pieces, with_bits}
use Rattle.per_pieces.specs.MarkPositions.{places_of}
use Rattle.per_pieces.proofs.Marking.{grown, pieces_bits}
use Rattle.per_pieces.proofs.Pieces.push_few_zeros.Goals as goal

pub invariant_of-self : goal.invariant_of-self
invariant_of-self g c = grown (places_of c.self.inside.marks) c.self.inside.bits c.push_zeros.new.self (replicate c.args.count false) c.push_zeros.result c.self.invariant c.push_zeros.ensures.ok c.push_zeros.ensures.err

pub returns : goal.returns
returns g c =
    on_ok_weaker _ (λ e. pieces_bits c.self.inside.marks c.self.inside.bits c.push_zeros.new.self (replicate c.args.count false) c.self.invariant e ∙ ap (λ (x : Pieces). with_bits x (replicate c.args.count false)) c.self.view_is) c.push_zeros.ensures.ok
