use Rattle.std.proofs.Common.{◌≡◌, subst, List, ℕ}
use Rattle.std.specs.Prelude.{IfOk}
use Rattle.rasn_jer.proofs.Choosing.{choice_closed}
use Rattle.rasn_jer.proofs.Writing.{over_ok, unrefused_behaves}
use Rattle.rasn_schema.specs.Choices.{is_extensible}
use Rattle.rasn_jer.specs.Texts.{enclosed, member_text}
use Rattle.rasn_jer.proofs.Turns.{one_untimely}
use Rattle.rasn_jer.proofs.encoder.EncoderEncoder.close_choice.Goals as goal

pub returns-in-Ok : goal.returns-in-Ok
returns-in-Ok g c =
    let C = g.C.Choice in
    let named : IfOk c.chosen_member-text.result (λ t. (name : List ℕ) × (t.items ≡ enclosed 123 (member_text name c.text.result.now) 125)) = over_ok c.chosen_member-text.result c.chosen_member-text.ensures (λ t h. (h.0, h.2)) in
    record {
      law = λ x i n d k s v h p a w. choice_closed (C.alternatives n) (C.added n) (is_extensible C.EXTENDED_VARIANTS) d k s v x i c.args.self.now c.leave.new.self c.args.outside.0 c.in-Ok.inner c.chosen_member-text.result (λ t. t.items) c.write.result c.write.new.self h a w
          c.in-Ok.ensures.left.2 c.in-Ok.ensures.left.3 (subst (λ (l : List ℕ). IfOk c.chosen_member-text.result (λ t. (name : List ℕ) × (t.items ≡ enclosed 123 (member_text name l) 125))) c.text.ensures named) c.write.ensures;
      unknown = λ e f. absurd (c.has_alternative-is_known.ensures.some c.if-not-is_known.false e f);
      untimely = λ x i n d k h f. one_untimely i c.args.self.now _ h.within (λ t u. absurd (c.in-Ok.ensures.lacks t u));
      behaves = unrefused_behaves c.args.self.now c.write.new.self c.write.result c.in-Ok.ensures.left.0 c.write.ensures.behaves.fails;
    }
