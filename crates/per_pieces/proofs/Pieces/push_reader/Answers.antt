use Rattle.std.proofs.Common.{◌∙◌, ap}
use Rattle.std.proofs.lemmas.Result.{on_ok_weaker}
use Rattle.per_pieces.specs.Pieces.{Pieces, with_bits}
use Rattle.per_pieces.specs.MarkPositions.{places_of}
use Rattle.per_pieces.proofs.Marking.{grown, pieces_bits}
use Rattle.per_pieces.proofs.Placed.{appends_bits}
use Rattle.per_pieces.proofs.Pieces.push_reader.Goals as goal

pub invariant_of-self : goal.invariant_of-self
invariant_of-self g c = grown (places_of c.self.inside.marks) c.self.inside.bits c.push_reader.new.self c.args.reader.now.bits c.push_reader.result c.self.invariant c.push_reader.ensures.ok c.push_reader.ensures.err

pub returns : goal.returns
returns g c = record {
  ok = on_ok_weaker _ (λ e. pieces_bits c.self.inside.marks c.self.inside.bits c.push_reader.new.self c.args.reader.now.bits c.self.invariant e ∙ ap (λ (x : Pieces). with_bits x c.args.reader.now.bits) c.self.view_is) c.push_reader.ensures.ok;
  appends = on_ok_weaker _ (λ e. appends_bits c.args.self.now _ c.args.reader.now.bits (pieces_bits c.self.inside.marks c.self.inside.bits c.push_reader.new.self c.args.reader.now.bits c.self.invariant e ∙ ap (λ (x : Pieces). with_bits x c.args.reader.now.bits) c.self.view_is)) c.push_reader.ensures.ok;
}
