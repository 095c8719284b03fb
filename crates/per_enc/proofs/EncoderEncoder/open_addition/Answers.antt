use Rattle.std.proofs.Common.{inl, inr, refl, Ok}
use Rattle.std.proofs.lemmas.Result.{err_from_is_err_and}
use Rattle.per_enc.proofs.AroundSets.{addition_opened}
use Rattle.per_enc.proofs.GivenAdditions.{opened}
use Rattle.per_enc.proofs.Noting.{behaves_begun}
use Rattle.per_enc.proofs.EncoderEncoder.open_addition.Goals as goal

pub returns : goal.returns
returns g c = rw (← c.self.view_is) (record {
  law = addition_opened (record { writer = c.self.inside.writer; set = c.self.inside.set }) (record { writer = c.open_addition.new.self; set = c.awaiting.result }) c.in_ok-open_type.open_type c.take-set.result c.take-set.ensures.value c.awaiting.ensures
      (opened c.self.inside.writer c.open_addition.new.self (Ok c.in_ok-open_type.open_type) c.in_ok-open_type.ensures);
  behaves = behaves_begun c.in_ok-check_unfailed.ensures.ok tt c.in_ok-open_type.ensures.kept;
})

pub returns-in_err-check_unfailed : goal.returns-in_err-check_unfailed
returns-in_err-check_unfailed g c =
    let p = err_from_is_err_and c.from_residual.result c.from_residual.ensures.1 in
    rw (p.1, p.2, ← c.self.view_is) (record {
      law = inr (inr (c.in_err-check_unfailed.ensures.err, c.in_err-check_unfailed.ensures.failed));
      behaves = record { again = λ q. c.in_err-check_unfailed.ensures.err; fails = c.in_err-check_unfailed.ensures.failed; kept = refl };
    })

pub returns-in_err-open_type : goal.returns-in_err-open_type
returns-in_err-open_type g c =
    let p = err_from_is_err_and c.from_residual-in_err-open_type.result c.from_residual-in_err-open_type.ensures.1 in
    rw (p.1, p.2, ← c.self.view_is) (record {
      law = elim c.in_err-open_type.ensures.err [ inl m ↦ inl m | inr s ↦ inr (inl s) ];
      behaves = behaves_begun c.in_ok-check_unfailed.ensures.ok c.in_err-open_type.ensures.fails c.in_err-open_type.ensures.kept;
    })
