use Rattle.std.proofs.Common.{ap, inl, inr, ◌∙◌, subst}
use Rattle.std.proofs.lemmas.Result.{err_from_is_err_and}
use Rattle.rasn_schema.specs.Schemas.{Schema}
use Rattle.per_write.specs.Components.{Encoding}
use Rattle.per_write.specs.Unplaced.{BeginsUnplaced}
use Rattle.per_enc.proofs.Contents.{contents_opened}
use Rattle.per_enc.proofs.Noting.{behaves_begun, behaves_refused, noting_codec}
use Rattle.per_enc.proofs.Presenting.{refuses_again}
use Rattle.per_enc.proofs.EncoderEncoder.open_contents.Goals as goal

pub returns : goal.returns
returns g c =
    let m = c.self.view_is ∙ c.in_ok-set.ensures.inside in
    record {
      law = contents_opened c.args.self.now (record { writer = c.open_unplaced.new.self; set = c.awaiting.result }) c.in_ok-waiting.waiting c.in_ok-set.set c.in_ok-set.ensures.waits c.awaiting.ensures
          (subst (λ (z : Encoding). BeginsUnplaced z.writer c.in_ok-waiting.waiting c.open_unplaced.new.self) m c.in_ok-waiting.ensures.ok);
      behaves = behaves_begun c.in_ok-set.ensures.ok tt (c.in_ok-waiting.ensures.kept ∙ ap (λ (z : Encoding). z.writer.codec) m ∙ noting_codec c.args.self.now);
    }

pub returns-in_err-set : goal.returns-in_err-set
returns-in_err-set g c =
    let p = err_from_is_err_and c.from_residual.result c.from_residual.ensures.1 in
    rw (p.1, p.2) (record {
      law = inr (λ s v. refuses_again _ c.args.self.now.writer (Schema.containing s) v c.in_err-set.ensures.err c.in_err-set.ensures.failed);
      behaves = behaves_refused c.in_err-set.ensures.err c.in_err-set.ensures.failed c.in_err-set.ensures.stays;
    })

pub returns-in_err-waiting : goal.returns-in_err-waiting
returns-in_err-waiting g c =
    let p = err_from_is_err_and c.from_residual-in_err-waiting.result c.from_residual-in_err-waiting.ensures.1 in
    let m = c.self.view_is ∙ c.in_ok-set.ensures.inside in
    let codec = ap (λ (z : Encoding). z.writer.codec) m ∙ noting_codec c.args.self.now in
    rw (p.1, p.2) (record {
      law = inl (record { kind_is = c.in_err-waiting.ensures.err.kind_is; codec_is = c.in_err-waiting.ensures.err.codec_is ∙ codec });
      behaves = behaves_begun c.in_ok-set.ensures.ok c.in_err-waiting.ensures.fails (c.in_err-waiting.ensures.kept ∙ codec);
    })
