use Rattle.std.proofs.Common.{◌∙◌, ap}
use Rattle.rasn_types.specs.Bits.{to_bits}
use Rattle.std.proofs.lemmas.Result.{on_ok_weaker}
use Rattle.per_pieces.specs.Pieces.{Pieces, with_bits}
use Rattle.per_pieces.specs.MarkPositions.{places_of}
use Rattle.per_pieces.proofs.Marking.{grown, pieces_bits}
use Rattle.per_pieces.proofs.Placed.{appends_bits}
use Rattle.per_pieces.proofs.Pieces.push_bits.Goals as goal

pub invariant_of-self : goal.invariant_of-self
invariant_of-self g c = grown (places_of c.self.inside.marks) c.self.inside.bits c.push_bits.new.self (to_bits c.args.width c.args.number) c.push_bits.result c.self.invariant c.push_bits.ensures.ok c.push_bits.ensures.err

pub returns : goal.returns
returns g c = record {
  ok = on_ok_weaker _ (λ e. pieces_bits c.self.inside.marks c.self.inside.bits c.push_bits.new.self (to_bits c.args.width c.args.number) c.self.invariant e ∙ ap (λ (x : Pieces). with_bits x (to_bits c.args.width c.args.number)) c.self.view_is) c.push_bits.ensures.ok;
  appends = on_ok_weaker _ (λ e. appends_bits c.args.self.now _ (to_bits c.args.width c.args.number) (pieces_bits c.self.inside.marks c.self.inside.bits c.push_bits.new.self (to_bits c.args.width c.args.number) c.self.invariant e ∙ ap (λ (x : Pieces). with_bits x (to_bits c.args.width c.args.number)) c.self.view_is)) c.push_bits.ensures.ok;
}
