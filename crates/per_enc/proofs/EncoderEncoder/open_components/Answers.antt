use Rattle.std.proofs.Common.{ap, inl, inr, ◌∙◌, length}
use Rattle.std.proofs.lemmas.Result.{err_from_is_err_and}
use Rattle.per_write.specs.Components.{Encoding}
use Rattle.per_enc.specs.Records.{after_marker}
use Rattle.per_enc.proofs.GivenAdditions.{shapes_counted}
use Rattle.per_enc.proofs.Noting.{behaves_begun, behaves_refused, noting_codec}
use Rattle.per_enc.proofs.Presenting.{refuses_again}
use Rattle.per_enc.proofs.SetCalls.{fields_counted, set_opened}
use Rattle.per_enc.proofs.EncoderEncoder.open_components.Goals as goal

pub returns : goal.returns
returns g c =
    let C = g.C.Constructed in
    let m = c.self.view_is ∙ c.in_ok-outer.ensures.inside in
    record {
      law = set_opened C.parts C.IS_EXTENSIBLE C.additions c.args.self.now _ c.open_record.new.self c.open_components.new.self c.in_ok-scope.scope c.in_ok-outer.outer c.in_ok-set.set c.len.result c.addition_count.result m c.in_ok-outer.ensures.waits c.in_ok-scope.ensures
          (λ n. c.addition_count.ensures ∙ ap (after_marker C.IS_EXTENSIBLE) (ap length (C.extends.described n) ∙ shapes_counted 0 (C.additions n)))
          c.in_ok-set.ensures (λ n. c.len.ensures ∙ ap length (c.FIELDS.ensures ∙ C.described n) ∙ fields_counted 0 (C.parts n)) C.extends.marked;
      behaves = behaves_begun c.in_ok-outer.ensures.ok tt (c.in_ok-set.ensures.kept ∙ c.in_ok-scope.ensures.kept ∙ ap (λ (z : Encoding). z.writer.codec) m ∙ noting_codec c.args.self.now);
    }

pub returns-in_err-outer : goal.returns-in_err-outer
returns-in_err-outer g c =
    let p = err_from_is_err_and c.from_residual.result c.from_residual.ensures.1 in
    rw (p.1, p.2) (record {
      law = inr (λ n v. refuses_again _ c.args.self.now.writer _ v c.in_err-outer.ensures.err c.in_err-outer.ensures.failed);
      behaves = behaves_refused c.in_err-outer.ensures.err c.in_err-outer.ensures.failed c.in_err-outer.ensures.stays;
    })

pub returns-in_err-scope : goal.returns-in_err-scope
returns-in_err-scope g c =
    let p = err_from_is_err_and c.from_residual-in_err-scope.result c.from_residual-in_err-scope.ensures.1 in
    let m = c.self.view_is ∙ c.in_ok-outer.ensures.inside in
    let codec = ap (λ (z : Encoding). z.writer.codec) m ∙ noting_codec c.args.self.now in
    rw (p.1, p.2) (record {
      law = inl (record { kind_is = c.in_err-scope.ensures.err.kind_is; codec_is = c.in_err-scope.ensures.err.codec_is ∙ codec });
      behaves = behaves_begun c.in_ok-outer.ensures.ok c.in_err-scope.ensures.fails (c.in_err-scope.ensures.kept ∙ codec);
    })

pub returns-in_err-set : goal.returns-in_err-set
returns-in_err-set g c =
    let p = err_from_is_err_and c.from_residual-in_err-set.result c.from_residual-in_err-set.ensures.1 in
    let m = c.self.view_is ∙ c.in_ok-outer.ensures.inside in
    let codec = c.in_ok-scope.ensures.kept ∙ ap (λ (z : Encoding). z.writer.codec) m ∙ noting_codec c.args.self.now in
    rw (p.1, p.2) (record {
      law = inl (record { kind_is = c.in_err-set.ensures.err.kind_is; codec_is = c.in_err-set.ensures.err.codec_is ∙ codec });
      behaves = behaves_begun c.in_ok-outer.ensures.ok c.in_err-set.ensures.fails (c.in_err-set.ensures.kept ∙ codec);
    })
