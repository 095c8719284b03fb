use Rattle.std.proofs.Common.{ap, ◌∙◌}
use Rattle.rasn_jer.proofs.Choosing.{group_at, group_closed}
use Rattle.rasn_jer.proofs.Writing.{unrefused_behaves}
use Rattle.rasn_schema.specs.Lawful.{is_group_schema}
use Rattle.rasn_jer.proofs.Turns.{one_untimely}
use Rattle.rasn_jer.proofs.encoder.EncoderEncoder.close_group.Goals as goal

pub returns-in-Ok : goal.returns-in-Ok
returns-in-Ok g c =
    let C = g.C.Constructed in
    let schema = g.C.AsnType.schema g.C.AsnType.CONSTRAINTS in
    record {
      law = λ x i n v h w. group_closed (schema n) v x i c.args.self.now c.leave.new.self c.args.addition c.in-Ok.inner c.add_all.result c.add_all.new.self
          (ap (λ f. is_group_schema (f n)) (g.met.C.AdditionGroup.is_sequence g.C.AsnType.CONSTRAINTS) ∙ group_at C.parts C.additions C.IS_EXTENSIBLE n)
          h w c.in-Ok.ensures.left.2 c.in-Ok.ensures.left.3 (λ gs e. c.add_all.ensures.added gs (c.text.ensures ∙ e));
      untimely = λ x i h. one_untimely i c.args.self.now _ h.opened.within (λ t u. absurd (c.in-Ok.ensures.lacks t u));
      behaves = unrefused_behaves c.args.self.now c.add_all.new.self c.add_all.result c.in-Ok.ensures.left.0 c.add_all.ensures.behaves.fails;
    }
