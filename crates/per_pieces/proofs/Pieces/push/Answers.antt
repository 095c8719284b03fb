use Rattle.std.proofs.Common.{◌∙◌, ap, [], ◌∷◌}
use Rattle.std.proofs.lemmas.Result.{on_ok_weaker}
use Rattle.per_pieces.specs.Pieces.{Pieces, with_bits}
use Rattle.per_pieces.specs.MarkPositions.{places_of}
use Rattle.per_pieces.proofs.Marking.{grown, pieces_bits}
use Rattle.per_pieces.proofs.Placed.{appends_bits}
use Rattle.per_pieces.proofs.Pieces.push.Goals as goal

pub invariant_of-self : goal.invariant_of-self
invariant_of-self g c = grown (places_of c.self.inside.marks) c.self.inside.bits c.push.new.self (c.args.bit ∷ []) c.push.result c.self.invariant c.push.ensures.ok c.push.ensures.err

pub returns : goal.returns
returns g c = record {
  ok = on_ok_weaker _ (λ e. pieces_bits c.self.inside.marks c.self.inside.bits c.push.new.self (c.args.bit ∷ []) c.self.invariant e ∙ ap (λ (x : Pieces). with_bits x (c.args.bit ∷ [])) c.self.view_is) c.push.ensures.ok;
  appends = on_ok_weaker _ (λ e. appends_bits c.args.self.now _ (c.args.bit ∷ []) (pieces_bits c.self.inside.marks c.self.inside.bits c.push.new.self (c.args.bit ∷ []) c.self.invariant e ∙ ap (λ (x : Pieces). with_bits x (c.args.bit ∷ [])) c.self.view_is)) c.push.ensures.ok;
}
