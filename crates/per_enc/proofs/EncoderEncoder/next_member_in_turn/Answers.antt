use Rattle.std.proofs.Common.{refl, sym, ◌≡◌, ◌∙◌, true, false}
use Rattle.std.proofs.lemmas.Result.{err_from_is_err_and}
use Rattle.per_enc.specs.Rules.{noting}
use Rattle.per_enc.proofs.AroundSets.{member_awaited}
use Rattle.per_enc.proofs.OpenBags.{bag_left}
use Rattle.per_enc.proofs.Noting.{behaves_begun}
use Rattle.per_enc.proofs.EncoderEncoder.next_member_in_turn.Goals as goal

pub returns : goal.returns
returns g c = record {
  law = rw (← c.self.view_is) (λ f x v vs h. member_awaited f x v vs c.args.bag.now.0.0 c.next_member.new.self c.args.bag.now.0.1 c.args.bag.now.1 (record { writer = c.self.inside.writer; set = c.self.inside.set }) (record { writer = c.next_member.new.writer; set = c.self.inside.set }) c.next_member.result refl c.next_member.ensures.next h);
  late = rw (← c.self.view_is) (λ f x h. c.next_member.ensures.next.late f (noting x).writer h.opened);
  behaves = rw (← c.self.view_is) (behaves_begun c.in_ok-check_unfailed.ensures.ok c.next_member.ensures.next.behaves.fails c.next_member.ensures.next.behaves.kept);
}

pub returns-in_err-check_unfailed : goal.returns-in_err-check_unfailed
returns-in_err-check_unfailed g c =
    let p = err_from_is_err_and c.from_residual.result c.from_residual.ensures.1 in
    record {
      law = rw (← c.self.view_is) (λ f x v vs h. absurd (let d : true ≡ false = sym c.in_err-check_unfailed.ensures.failed ∙ bag_left f x _ c.args.bag.now _ h in cc));
      late = rw (← c.self.view_is) (λ f x h. absurd (let d : true ≡ false = sym c.in_err-check_unfailed.ensures.failed ∙ bag_left f x _ c.args.bag.now _ h in cc));
      behaves = rw (p.1, p.2, ← c.self.view_is) (record { again = λ q. c.in_err-check_unfailed.ensures.err; fails = c.in_err-check_unfailed.ensures.failed; kept = refl });
    }
