use Rattle.std.proofs.Common.{inr, refl}
use Rattle.std.proofs.lemmas.Result.{err_from_is_err_and}
use Rattle.per_enc.proofs.AroundSets.{addition_skipped}
use Rattle.per_enc.proofs.GivenAdditions.{skipped}
use Rattle.per_enc.proofs.Noting.{behaves_begun}
use Rattle.per_enc.proofs.EncoderEncoder.skip_addition.Goals as goal

pub returns : goal.returns
returns g c = rw (← c.self.view_is) (record {
  law = addition_skipped _ (record { writer = c.skip_addition.new.self; set = c.self.inside.set }) c.skip_addition.result refl (skipped c.self.inside.writer _ c.skip_addition.result c.skip_addition.ensures);
  behaves = behaves_begun c.in_ok-check_unfailed.ensures.ok c.skip_addition.ensures.fails c.skip_addition.ensures.kept;
})

pub returns-in_err-check_unfailed : goal.returns-in_err-check_unfailed
returns-in_err-check_unfailed g c =
    let p = err_from_is_err_and c.from_residual.result c.from_residual.ensures.1 in
    record {
      law = rw (p.1, p.2, ← c.self.view_is) (inr (inr (c.in_err-check_unfailed.ensures.err, c.in_err-check_unfailed.ensures.failed)));
      behaves = rw (p.1, p.2, ← c.self.view_is) (record { again = λ q. c.in_err-check_unfailed.ensures.err; fails = c.in_err-check_unfailed.ensures.failed; kept = refl });
    }
