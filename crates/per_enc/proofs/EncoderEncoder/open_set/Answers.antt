use Rattle.std.proofs.Common.{ap, inl, inr, sym, ◌∙◌, subst, length, ℕ, Ok}
use Rattle.std.specs.Prelude.{count_by}
use Rattle.std.proofs.lemmas.Result.{err_from_is_err_and}
use Rattle.rasn_schema.specs.Orders.{canonised, canonised_at}
use Rattle.rasn_schema.specs.Fields.{may_be_absent}
use Rattle.rasn_schema.specs.Schemas.{count, listed}
use Rattle.rasn_schema.proofs.Canonised.{bits_ordered, count_ordered}
use Rattle.rasn_traits.specs.Scopes.{OpenedToWrite}
use Rattle.rasn_traits.proofs.Optionals.{bits_counted}
use Rattle.per_write.specs.Components.{Encoding}
use Rattle.per_write.specs.Rules.{encoder_rules}
use Rattle.per_pieces.specs.Turns.{awaits, counts}
use Rattle.per_enc.specs.Records.{after_marker, Opens}
use Rattle.per_enc.proofs.AroundSets.{sequence_opened}
use Rattle.per_enc.proofs.GivenAdditions.{shapes_counted}
use Rattle.per_enc.proofs.Noting.{behaves_begun, behaves_refused, noting_codec}
use Rattle.per_enc.proofs.Presenting.{refuses_again}
use Rattle.per_enc.proofs.Records.{opens_record}
use Rattle.per_enc.proofs.SetCalls.{fields_counted}
use Rattle.per_enc.proofs.EncoderEncoder.open_set.Goals as goal

pub returns : goal.returns
returns g c =
    let C = g.C.Constructed in
    let m = c.self.view_is ∙ c.in_ok-set.ensures.inside in
    record {
      law = sequence_opened (λ n. awaits (count (canonised (C.parts n)))) (canonised_at C.parts) C.IS_EXTENSIBLE C.additions c.args.self.now (record { writer = c.open_record.new.self; set = c.awaiting.result }) c.in_ok-scope.scope c.in_ok-set.set c.in_ok-set.ensures.waits (λ n. c.awaiting.ensures ∙ ap (λ (k : ℕ). counts (awaits k)) (c.len.ensures ∙ ap length (c.FIELDS-fields.ensures ∙ C.described n) ∙ fields_counted 0 (C.parts n) ∙ sym (count_ordered (C.parts n))))
          (subst (λ (z : Encoding). OpenedToWrite encoder_rules Opens listed (canonised_at C.parts) C.IS_EXTENSIBLE C.additions z.writer (Ok c.in_ok-scope.scope) c.open_record.new.self) m
          (opens_record (canonised_at C.parts) C.IS_EXTENSIBLE C.additions _ _ c.self.inside.writer _ (Ok c.in_ok-scope.scope)
          (λ n. c.number_of_optional_and_default_fields-bits.ensures ∙ ap (count_by may_be_absent) (c.FIELDS-fields.ensures ∙ C.described n) ∙ bits_counted 0 (C.parts n) ∙ sym (bits_ordered (C.parts n)))
          (λ n. c.addition_count-added.ensures ∙ ap (after_marker C.IS_EXTENSIBLE) (ap length (C.extends.described n) ∙ shapes_counted 0 (C.additions n))) C.extends.marked c.in_ok-scope.ensures));
      behaves = behaves_begun c.in_ok-set.ensures.ok tt (c.in_ok-scope.ensures.kept ∙ ap (λ (z : Encoding). z.writer.codec) m ∙ noting_codec c.args.self.now);
    }

pub returns-in_err-set : goal.returns-in_err-set
returns-in_err-set g c =
    let p = err_from_is_err_and c.from_residual.result c.from_residual.ensures.1 in
    rw (p.1, p.2) (record {
      law = inr (λ n v. refuses_again _ c.args.self.now.writer _ v c.in_err-set.ensures.err c.in_err-set.ensures.failed);
      behaves = behaves_refused c.in_err-set.ensures.err c.in_err-set.ensures.failed c.in_err-set.ensures.stays;
    })

pub returns-in_err-scope : goal.returns-in_err-scope
returns-in_err-scope g c =
    let p = err_from_is_err_and c.from_residual-in_err-scope.result c.from_residual-in_err-scope.ensures.1 in
    let m = c.self.view_is ∙ c.in_ok-set.ensures.inside in
    let codec = ap (λ (z : Encoding). z.writer.codec) m ∙ noting_codec c.args.self.now in
    rw (p.1, p.2) (record {
      law = inl (record { kind_is = c.in_err-scope.ensures.err.kind_is; codec_is = c.in_err-scope.ensures.err.codec_is ∙ codec });
      behaves = behaves_begun c.in_ok-set.ensures.ok c.in_err-scope.ensures.fails (c.in_err-scope.ensures.kept ∙ codec);
    })
