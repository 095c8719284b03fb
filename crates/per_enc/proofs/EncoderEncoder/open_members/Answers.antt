use Rattle.std.proofs.Common.{ap, inr, None, ◌∙◌, subst, Ok, Err}
use Rattle.std.proofs.lemmas.Result.{err_from_is_err_and}
use Rattle.rasn_schema.specs.Forms.{is_size_marked, size_of}
use Rattle.rasn_traits.specs.Bags.{BagOpened}
use Rattle.per_write.specs.Components.{Encoding}
use Rattle.per_enc.specs.Bags.{IsOpenBag}
use Rattle.per_write.specs.Rules.{encoder_rules}
use Rattle.per_enc.proofs.AroundSets.{bag_opened, bag_refused}
use Rattle.per_enc.proofs.Noting.{behaves_begun, behaves_refused, noting_codec}
use Rattle.per_enc.proofs.Presenting.{refuses_again}
use Rattle.per_enc.proofs.EncoderEncoder.open_members.Goals as goal

pub returns : goal.returns
returns g c =
    let m = c.self.view_is ∙ c.in_ok-set.ensures.inside in
    record {
      law = bag_opened (size_of c.args.constraints.now) (is_size_marked c.args.constraints.now) c.args.count c.args.self.now (record { writer = c.open.new.writer; set = c.self.inside.set }) c.in_ok-bag.bag None c.in_ok-set.set c.in_ok-set.ensures.waits (ap (λ (z : Encoding). z.set) m)
          (subst (λ (z : Encoding). BagOpened encoder_rules IsOpenBag (size_of c.args.constraints.now) (is_size_marked c.args.constraints.now) c.args.count z.writer (Ok c.in_ok-bag.bag) c.open.new.writer) m c.in_ok-bag.ensures.opens.law);
      behaves = behaves_begun c.in_ok-set.ensures.ok tt (c.in_ok-bag.ensures.opens.behaves.kept ∙ ap (λ (z : Encoding). z.writer.codec) m ∙ noting_codec c.args.self.now);
    }

pub returns-in_err-set : goal.returns-in_err-set
returns-in_err-set g c =
    let p = err_from_is_err_and c.from_residual.result c.from_residual.ensures.1 in
    rw (p.1, p.2) (record {
      law = inr (λ e vs n. refuses_again _ c.args.self.now.writer _ _ c.in_err-set.ensures.err c.in_err-set.ensures.failed);
      behaves = behaves_refused c.in_err-set.ensures.err c.in_err-set.ensures.failed c.in_err-set.ensures.stays;
    })

pub returns-in_err-bag : goal.returns-in_err-bag
returns-in_err-bag g c =
    let p = err_from_is_err_and c.from_residual-in_err-bag.result c.from_residual-in_err-bag.ensures.1 in
    let m = c.self.view_is ∙ c.in_ok-set.ensures.inside in
    rw (p.1, p.2) (record {
      law = bag_refused (size_of c.args.constraints.now) (is_size_marked c.args.constraints.now) c.args.count c.args.self.now _ c.open.new.writer (record { writer = c.open.new.writer; set = c.self.inside.set })
          (subst (λ (z : Encoding). BagOpened encoder_rules IsOpenBag (size_of c.args.constraints.now) (is_size_marked c.args.constraints.now) c.args.count z.writer (Err c.in_err-bag.field-0.0) c.open.new.writer) m c.in_err-bag.ensures.opens.law);
      behaves = behaves_begun c.in_ok-set.ensures.ok c.in_err-bag.ensures.opens.behaves.fails (c.in_err-bag.ensures.opens.behaves.kept ∙ ap (λ (z : Encoding). z.writer.codec) m ∙ noting_codec c.args.self.now);
    })
