use Rattle.std.proofs.Common.{ap, inl, inr, ◌∙◌, subst, Ok}
use Rattle.std.proofs.lemmas.Result.{err_from_is_err_and}
use Rattle.rasn_schema.specs.Schemas.{listed}
use Rattle.rasn_traits.specs.Scopes.{OpenedToWrite}
use Rattle.per_write.specs.Components.{Encoding}
use Rattle.per_write.specs.Rules.{encoder_rules}
use Rattle.per_pieces.specs.Turns.{uncounted}
use Rattle.per_enc.specs.Records.{Opens}
use Rattle.per_enc.proofs.AroundSets.{sequence_opened}
use Rattle.per_enc.proofs.Counting.{counted_after, none_after}
use Rattle.per_enc.proofs.Noting.{behaves_begun, behaves_refused, noting_codec}
use Rattle.per_enc.proofs.Presenting.{refuses_again}
use Rattle.per_enc.proofs.Records.{opens_record}
use Rattle.per_enc.proofs.counted.EncoderCountedEncoder.open_fields_of.Goals as goal

pub returns : goal.returns
returns g c =
    let m = c.self.view_is ∙ c.in_ok-set.ensures.inside in
    let behaves = behaves_begun c.in_ok-set.ensures.ok tt (c.in_ok-fields.ensures.kept ∙ ap (λ (z : Encoding). z.writer.codec) m ∙ noting_codec c.args.self.now) in
    record {
      opened = λ ps marker adds k. record {
        law = sequence_opened (λ n. uncounted) ps marker adds c.args.self.now (record { writer = c.open_record.new.self; set = c.self.inside.set }) c.in_ok-fields.fields c.in_ok-set.set c.in_ok-set.ensures.waits (λ n. ap (λ (z : Encoding). z.set) m)
            (subst (λ (z : Encoding). OpenedToWrite encoder_rules Opens listed ps marker adds z.writer (Ok c.in_ok-fields.fields) c.open_record.new.self) m
            (opens_record ps marker adds _ _ c.self.inside.writer _ (Ok c.in_ok-fields.fields) k.bits_are
            (λ n. counted_after c.args.additions marker (adds n) k.marked (k.added_are n))
            (λ u n. none_after c.args.additions marker (adds n) k.marked (k.added_are n) u) c.in_ok-fields.ensures));
        behaves = behaves;
      };
      behaves = behaves;
    }

pub returns-in_err-set : goal.returns-in_err-set
returns-in_err-set g c =
    let p = err_from_is_err_and c.from_residual.result c.from_residual.ensures.1 in
    rw (p.1, p.2) (record {
      opened = λ ps marker adds k. record {
        law = inr (λ n v. refuses_again _ c.args.self.now.writer _ v c.in_err-set.ensures.err c.in_err-set.ensures.failed);
        behaves = behaves_refused c.in_err-set.ensures.err c.in_err-set.ensures.failed c.in_err-set.ensures.stays;
      };
      behaves = behaves_refused c.in_err-set.ensures.err c.in_err-set.ensures.failed c.in_err-set.ensures.stays;
    })

pub returns-in_err-fields : goal.returns-in_err-fields
returns-in_err-fields g c =
    let p = err_from_is_err_and c.from_residual-in_err-fields.result c.from_residual-in_err-fields.ensures.1 in
    let m = c.self.view_is ∙ c.in_ok-set.ensures.inside in
    let codec = ap (λ (z : Encoding). z.writer.codec) m ∙ noting_codec c.args.self.now in
    rw (p.1, p.2) (record {
      opened = λ ps marker adds k. record {
        law = inl (record { kind_is = c.in_err-fields.ensures.err.kind_is; codec_is = c.in_err-fields.ensures.err.codec_is ∙ codec });
        behaves = behaves_begun c.in_ok-set.ensures.ok c.in_err-fields.ensures.fails (c.in_err-fields.ensures.kept ∙ codec);
      };
      behaves = behaves_begun c.in_ok-set.ensures.ok c.in_err-fields.ensures.fails (c.in_err-fields.ensures.kept ∙ codec);
    })
