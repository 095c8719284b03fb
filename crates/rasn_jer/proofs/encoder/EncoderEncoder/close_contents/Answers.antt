use Rattle.std.proofs.Common.{Ok, Err}
use Rattle.rasn_jer.proofs.Choosing.{choice_unclosed}
use Rattle.rasn_jer.proofs.Contained.{contents_closed}
use Rattle.rasn_jer.proofs.Turns.{one_untimely}
use Rattle.rasn_jer.proofs.Writing.{unrefused_behaves}
use Rattle.rasn_jer.proofs.encoder.EncoderEncoder.close_contents.Goals as goal

pub returns-in-Ok : goal.returns-in-Ok
returns-in-Ok g c = record {
  law = λ x i s v h w. contents_closed s v x i c.args.self.now c.leave.new.self c.args.contents c.in-Ok.inner (Ok c.into_text-text.result) (λ t. t.items) c.write.result c.write.new.self h w
      c.in-Ok.ensures.left.2 c.in-Ok.ensures.left.3 c.into_text-text.ensures c.write.ensures;
  untimely = λ x i h. one_untimely i c.args.self.now _ h.within (λ t u. absurd (c.in-Ok.ensures.lacks t u));
  behaves = unrefused_behaves c.args.self.now c.write.new.self c.write.result c.in-Ok.ensures.left.0 c.write.ensures.behaves.fails;
}

pub returns-in-Err : goal.returns-in-Err
returns-in-Err g c =
    let b = c.in-Err.ensures.behaves in
    record {
      law = λ x i s v h w. absurd (choice_unclosed s v i c.args.self.now c.in-Err.error h.within w c.in-Err.ensures.left);
      untimely = λ x i h. one_untimely i c.args.self.now (Err c.in-Err.error) h.within c.in-Err.ensures.lacks;
      behaves = record { again = b.again; fails = b.fails; kept = b.kept };
    }
