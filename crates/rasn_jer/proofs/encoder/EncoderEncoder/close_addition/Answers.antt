use Rattle.std.proofs.Common.{◌≡◌, subst, List, ℕ}
use Rattle.rasn_jer.proofs.Choosing.{addition_closed}
use Rattle.rasn_jer.proofs.Writing.{unrefused_behaves}
use Rattle.rasn_jer.specs.Frames.{with_addition}
use Rattle.rasn_jer.specs.Rules.{AddedSo}
use Rattle.rasn_jer.proofs.Turns.{one_untimely}
use Rattle.rasn_jer.proofs.encoder.EncoderEncoder.close_addition.Goals as goal

pub returns-in-Ok : goal.returns-in-Ok
returns-in-Ok g c = record {
  law = λ x i s v h w. addition_closed s v x i c.args.self.now c.leave.new.self c.args.addition c.in-Ok.inner c.add.result c.add.new.self h w c.in-Ok.ensures.left.2 c.in-Ok.ensures.left.3
      (subst (λ (l : List ℕ). AddedSo (λ q. q ≡ with_addition c.leave.new.self.place l) c.leave.new.self c.add.result c.add.new.self) c.text.ensures c.add.ensures.added);
  untimely = λ x i h. one_untimely i c.args.self.now _ h.opened.within (λ t u. absurd (c.in-Ok.ensures.lacks t u));
  behaves = unrefused_behaves c.args.self.now c.add.new.self c.add.result c.in-Ok.ensures.left.0 c.add.ensures.behaves.fails;
}
