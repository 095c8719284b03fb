use Rattle.std.proofs.Common.{◌∙◌, ap}
use Rattle.std.proofs.lemmas.Result.{on_ok_weaker}
use Rattle.rasn_types.specs.Bits.{to_bits}
use Rattle.per_pieces.specs.Pieces.{Pieces, with_bits}
use Rattle.per_pieces.specs.MarkPositions.{places_of}
use Rattle.per_pieces.proofs.Marking.{grown, pieces_bits}
use Rattle.per_pieces.proofs.Pieces.push_field.Goals as goal

pub invariant_of-self : goal.invariant_of-self
invariant_of-self g c = grown (places_of c.self.inside.marks) c.self.inside.bits c.push_field.new.self (to_bits c.args.width c.args.number) c.push_field.result c.self.invariant c.push_field.ensures.ok c.push_field.ensures.err

pub returns : goal.returns
returns g c =
    on_ok_weaker _ (λ e. pieces_bits c.self.inside.marks c.self.inside.bits c.push_field.new.self (to_bits c.args.width c.args.number) c.self.invariant e ∙ ap (λ (x : Pieces). with_bits x (to_bits c.args.width c.args.number)) c.self.view_is) c.push_field.ensures.ok
