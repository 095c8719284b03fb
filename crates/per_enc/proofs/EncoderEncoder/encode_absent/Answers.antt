use Rattle.std.proofs.Common.{refl}
use Rattle.std.proofs.lemmas.Result.{err_from_is_err_and}
use Rattle.rasn_schema.specs.Structures.{no_value}
use Rattle.per_enc.proofs.Presenting.{refuses_again}
use Rattle.per_enc.proofs.EncoderEncoder.encode_absent.Goals as goal

pub returns-in_err-check_unfailed : goal.returns-in_err-check_unfailed
returns-in_err-check_unfailed g c =
    let p = err_from_is_err_and c.from_residual.result c.from_residual.ensures.1 in
    rw (p.1, p.2, ← c.self.view_is) (record {
      law = λ s. refuses_again _ c.self.inside.writer s no_value c.in_err-check_unfailed.ensures.err c.in_err-check_unfailed.ensures.failed;
      behaves = record { again = λ q. c.in_err-check_unfailed.ensures.err; fails = c.in_err-check_unfailed.ensures.failed; kept = refl };
    })

pub returns : goal.returns
returns g c = rw (← c.self.view_is) (record {
  law = c.refuse_absent.ensures.law;
  behaves = record { again = c.refuse_absent.ensures.behaves.again; fails = c.refuse_absent.ensures.behaves.fails; kept = c.refuse_absent.ensures.behaves.kept };
})
