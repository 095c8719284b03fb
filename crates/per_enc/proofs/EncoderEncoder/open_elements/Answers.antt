use Rattle.std.proofs.Common.{ap, inr, None, ◌∙◌, subst, Ok, Err}
use Rattle.std.proofs.lemmas.Result.{err_from_is_err_and}
use Rattle.rasn_schema.specs.Forms.{is_size_marked, size_of}
use Rattle.rasn_traits.specs.Lists.{ListOpened}
use Rattle.per_write.specs.Components.{Encoding}
use Rattle.per_write.specs.Lists.{IsOpenList}
use Rattle.per_write.specs.Rules.{encoder_rules}
use Rattle.per_enc.proofs.AroundSets.{list_opened, list_refused}
use Rattle.per_enc.proofs.Noting.{behaves_begun, behaves_refused, noting_codec}
use Rattle.per_enc.proofs.Presenting.{refuses_again}
use Rattle.per_enc.proofs.EncoderEncoder.open_elements.Goals as goal

pub returns : goal.returns
returns g c =
    let m = c.self.view_is ∙ c.in_ok-set.ensures.inside in
    record {
      law = list_opened (size_of c.args.constraints.now) (is_size_marked c.args.constraints.now) c.args.count c.args.self.now (record { writer = c.open_list.new.writer; set = c.self.inside.set }) c.in_ok-list.list None c.in_ok-set.set c.in_ok-set.ensures.waits (ap (λ (z : Encoding). z.set) m)
          (subst (λ (z : Encoding). ListOpened encoder_rules IsOpenList (size_of c.args.constraints.now) (is_size_marked c.args.constraints.now) c.args.count z.writer (Ok c.in_ok-list.list) c.open_list.new.writer) m c.in_ok-list.ensures.law);
      behaves = behaves_begun c.in_ok-set.ensures.ok tt (c.in_ok-list.ensures.behaves.kept ∙ ap (λ (z : Encoding). z.writer.codec) m ∙ noting_codec c.args.self.now);
    }

pub returns-in_err-set : goal.returns-in_err-set
returns-in_err-set g c =
    let p = err_from_is_err_and c.from_residual.result c.from_residual.ensures.1 in
    rw (p.1, p.2) (record {
      law = inr (λ e vs n. refuses_again _ c.args.self.now.writer _ _ c.in_err-set.ensures.err c.in_err-set.ensures.failed);
      behaves = behaves_refused c.in_err-set.ensures.err c.in_err-set.ensures.failed c.in_err-set.ensures.stays;
    })

pub returns-in_err-list : goal.returns-in_err-list
returns-in_err-list g c =
    let p = err_from_is_err_and c.from_residual-in_err-list.result c.from_residual-in_err-list.ensures.1 in
    let m = c.self.view_is ∙ c.in_ok-set.ensures.inside in
    rw (p.1, p.2) (record {
      law = list_refused (size_of c.args.constraints.now) (is_size_marked c.args.constraints.now) c.args.count c.args.self.now _ c.open_list.new.writer (record { writer = c.open_list.new.writer; set = c.self.inside.set })
          (subst (λ (z : Encoding). ListOpened encoder_rules IsOpenList (size_of c.args.constraints.now) (is_size_marked c.args.constraints.now) c.args.count z.writer (Err c.in_err-list.field-0.0) c.open_list.new.writer) m c.in_err-list.ensures.law);
      behaves = behaves_begun c.in_ok-set.ensures.ok c.in_err-list.ensures.behaves.fails (c.in_err-list.ensures.behaves.kept ∙ ap (λ (z : Encoding). z.writer.codec) m ∙ noting_codec c.args.self.now);
    })
