use Rattle.std.proofs.Common.{◌≡◌, subst, List, ℕ, Ok, Err}
use Rattle.std.specs.Prelude.{IfOk}
use Rattle.rasn_jer.proofs.Choosing.{alternative_closed, choice_unclosed}
use Rattle.rasn_jer.proofs.Writing.{over_ok, unrefused_behaves}
use Rattle.rasn_jer.specs.Texts.{enclosed, member_text}
use Rattle.rasn_jer.proofs.Turns.{one_untimely}
use Rattle.rasn_jer.proofs.encoder.EncoderEncoder.close_alternative.Goals as goal

pub returns-in-Ok : goal.returns-in-Ok
returns-in-Ok g c =
    let named : IfOk c.named_member-text.result (λ t. (name : List ℕ) × (t.items ≡ enclosed 123 (member_text name c.text.result.now) 125)) = over_ok c.named_member-text.result c.named_member-text.ensures (λ t h. (h.0, h.2)) in
    record {
      law = λ x i e d k s v h a w. alternative_closed e d k s v x i c.args.self.now c.leave.new.self c.args.outside.0 c.in-Ok.inner c.named_member-text.result (λ t. t.items) c.write.result c.write.new.self h a w
          c.in-Ok.ensures.left.2 c.in-Ok.ensures.left.3 (subst (λ (l : List ℕ). IfOk c.named_member-text.result (λ t. (name : List ℕ) × (t.items ≡ enclosed 123 (member_text name l) 125))) c.text.ensures named) c.write.ensures;
      untimely = λ x i e d k h. one_untimely i c.args.self.now _ h.within (λ t u. absurd (c.in-Ok.ensures.lacks t u));
      behaves = unrefused_behaves c.args.self.now c.write.new.self c.write.result c.in-Ok.ensures.left.0 c.write.ensures.behaves.fails;
    }

pub returns-in-Err : goal.returns-in-Err
returns-in-Err g c =
    let b = c.in-Err.ensures.behaves in
    record {
      law = λ x i e d k s v h a w. absurd (choice_unclosed s v i c.args.self.now c.in-Err.error h.within w c.in-Err.ensures.left);
      untimely = λ x i e d k h. one_untimely i c.args.self.now (Err c.in-Err.error) h.within c.in-Err.ensures.lacks;
      behaves = record { again = b.again; fails = b.fails; kept = b.kept };
    }
