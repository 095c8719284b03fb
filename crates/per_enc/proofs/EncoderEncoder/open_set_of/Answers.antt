use Rattle.std.proofs.Common.{◌≡◌, ap, inr, ◌∙◌, subst, Ok, Err}
use Rattle.std.proofs.lemmas.Result.{err_from_is_err_and}
use Rattle.rasn_schema.specs.Forms.{is_size_marked, size_of}
use Rattle.rasn_traits.specs.Bags.{BagOpened}
use Rattle.per_write.specs.Components.{Encoding}
use Rattle.per_enc.specs.Bags.{IsOpenBag}
use Rattle.per_write.specs.Rules.{encoder_rules}
use Rattle.per_write.specs.WriterState.{WriterState}
use Rattle.per_enc.specs.Rules.{noting}
use Rattle.per_enc.specs.Scopes.{closed_off}
use Rattle.per_enc.proofs.ListsInTurn.{bag_awaits, bag_opened, bag_refused}
use Rattle.per_enc.proofs.Noting.{behaves_begun, behaves_refused, noting_codec}
use Rattle.per_enc.proofs.Presenting.{refuses_again}
use Rattle.per_enc.proofs.EncoderEncoder.open_set_of.Goals as goal

pub returns : goal.returns
returns g c =
    let m = c.self.view_is ∙ c.in_ok-set.ensures.inside in
    let off : c.enter_alternative-scope.new.self ≡ closed_off (noting c.args.self.now).writer = c.enter_alternative-scope.ensures.inside ∙ ap (λ (z : Encoding). closed_off z.writer) m in
    let h = subst (λ (z : WriterState). BagOpened encoder_rules IsOpenBag (size_of c.args.constraints.now) (is_size_marked c.args.constraints.now) c.args.count z (Ok c.in_ok-kept.kept) c.open.new.writer) off c.in_ok-kept.ensures.opens.law in
    record {
      opens = record {
        law = bag_opened (size_of c.args.constraints.now) (is_size_marked c.args.constraints.now) c.args.count c.args.self.now (record { writer = c.open.new.writer; set = c.in_list.result }) c.in_ok-kept.kept c.enter_alternative-scope.result c.in_ok-set.set
            (c.enter_alternative-scope.ensures.waits ∙ ap (λ (z : Encoding). z.writer.scope) m) c.in_ok-set.ensures.waits c.in_list.ensures h;
        behaves = behaves_begun c.in_ok-set.ensures.ok tt (c.in_ok-kept.ensures.opens.behaves.kept ∙ ap (λ (z : WriterState). z.codec) off ∙ noting_codec c.args.self.now);
      };
      counts = bag_awaits (size_of c.args.constraints.now) (is_size_marked c.args.constraints.now) c.args.count (noting c.args.self.now).writer (record { writer = c.open.new.writer; set = c.in_list.result }) c.in_ok-kept.kept c.in_ok-kept.ensures.none h c.in_list.ensures;
    }

pub returns-in_err-set : goal.returns-in_err-set
returns-in_err-set g c =
    let p = err_from_is_err_and c.from_residual.result c.from_residual.ensures.1 in
    rw (p.1, p.2) (record {
      opens = record {
        law = inr (λ e vs n. refuses_again _ c.args.self.now.writer _ _ c.in_err-set.ensures.err c.in_err-set.ensures.failed);
        behaves = behaves_refused c.in_err-set.ensures.err c.in_err-set.ensures.failed c.in_err-set.ensures.stays;
      };
      counts = tt;
    })

pub returns-in_err-kept : goal.returns-in_err-kept
returns-in_err-kept g c =
    let p = err_from_is_err_and c.from_residual-in_err-kept.result c.from_residual-in_err-kept.ensures.1 in
    let m = c.self.view_is ∙ c.in_ok-set.ensures.inside in
    let off : c.enter_alternative-scope.new.self ≡ closed_off (noting c.args.self.now).writer = c.enter_alternative-scope.ensures.inside ∙ ap (λ (z : Encoding). closed_off z.writer) m in
    rw (p.1, p.2) (record {
      opens = record {
        law = bag_refused (size_of c.args.constraints.now) (is_size_marked c.args.constraints.now) c.args.count c.args.self.now _ c.open.new.writer (record { writer = c.open.new.writer; set = c.self.inside.set })
            (subst (λ (z : WriterState). BagOpened encoder_rules IsOpenBag (size_of c.args.constraints.now) (is_size_marked c.args.constraints.now) c.args.count z (Err c.in_err-kept.field-0.0) c.open.new.writer) off c.in_err-kept.ensures.opens.law);
        behaves = behaves_begun c.in_ok-set.ensures.ok c.in_err-kept.ensures.opens.behaves.fails (c.in_err-kept.ensures.opens.behaves.kept ∙ ap (λ (z : WriterState). z.codec) off ∙ noting_codec c.args.self.now);
      };
      counts = tt;
    })
