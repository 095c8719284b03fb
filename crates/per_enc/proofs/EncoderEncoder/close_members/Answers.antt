use Rattle.std.proofs.Common.{refl, sym, ◌≡◌, ◌∙◌, true, false}
use Rattle.std.proofs.lemmas.Result.{err_from_is_err_and}
use Rattle.per_enc.specs.Rules.{noting}
use Rattle.per_enc.proofs.OpenBags.{bag_left}
use Rattle.per_enc.proofs.Noting.{behaves_begun, written_noted}
use Rattle.per_enc.proofs.EncoderEncoder.close_members.Goals as goal

pub returns : goal.returns
returns g c = record {
  law = rw (← c.self.view_is) (λ f x h. written_noted x (record { writer = c.close.new.writer; set = c.args.bag.1 }) _ _ c.close.result (c.close.ensures.law f (noting x).writer h.opened) h.waits);
  early = rw (← c.self.view_is) (λ f x v vs h. c.close.ensures.early f (noting x).writer v vs h.opened);
  behaves = rw (← c.self.view_is) (behaves_begun c.in_ok-check_unfailed.ensures.ok c.close.ensures.behaves.fails c.close.ensures.behaves.kept);
}

pub returns-in_err-check_unfailed : goal.returns-in_err-check_unfailed
returns-in_err-check_unfailed g c =
    let p = err_from_is_err_and c.from_residual.result c.from_residual.ensures.1 in
    record {
      law = rw (← c.self.view_is) (λ f x h. absurd (let d : true ≡ false = sym c.in_err-check_unfailed.ensures.failed ∙ bag_left f x _ c.args.bag _ h in cc));
      early = rw (← c.self.view_is) (λ f x v vs h. absurd (let d : true ≡ false = sym c.in_err-check_unfailed.ensures.failed ∙ bag_left f x _ c.args.bag _ h in cc));
      behaves = rw (p.1, p.2, ← c.self.view_is) (record { again = λ q. c.in_err-check_unfailed.ensures.err; fails = c.in_err-check_unfailed.ensures.failed; kept = refl });
    }
