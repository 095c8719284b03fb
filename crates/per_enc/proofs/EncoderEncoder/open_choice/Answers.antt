use Rattle.std.proofs.Common.{ap, inl, inr, ◌∙◌, subst, Ok}
use Rattle.std.proofs.lemmas.Result.{err_from_is_err_and}
use Rattle.rasn_schema.specs.Choices.{choices_of}
use Rattle.rasn_schema.specs.Laws.Choices.{variants_counted}
use Rattle.rasn_traits.specs.Choices.{OpenedChoice}
use Rattle.per_write.specs.Components.{Encoding}
use Rattle.per_write.specs.Rules.{encoder_rules}
use Rattle.per_enc.specs.AlternativeCounts.{OpensChoice}
use Rattle.per_enc.proofs.AroundSets.{choice_opened}
use Rattle.per_enc.proofs.ChoiceScopes.{added_counted, opens_choice}
use Rattle.per_enc.proofs.Noting.{behaves_begun, behaves_refused, noting_codec}
use Rattle.per_enc.proofs.Presenting.{refuses_again}
use Rattle.per_enc.proofs.EncoderEncoder.open_choice.Goals as goal

pub returns : goal.returns
returns g c =
    let C = g.C.Choice in
    let m = c.self.view_is ∙ c.in_ok-set.ensures.inside in
    record {
      law = choice_opened (choices_of C.alternatives C.EXTENDED_VARIANTS C.added) c.args.self.now (record { writer = c.open_choice.new.writer; set = c.awaiting.result }) c.in_ok-choice.choice c.in_ok-set.set c.in_ok-set.ensures.waits c.awaiting.ensures
          (subst (λ (z : Encoding). OpenedChoice encoder_rules OpensChoice (choices_of C.alternatives C.EXTENDED_VARIANTS C.added) z.writer (Ok c.in_ok-choice.choice) c.open_choice.new.writer) m
          (opens_choice C.alternatives C.EXTENDED_VARIANTS C.added _ _ c.self.inside.writer _ (Ok c.in_ok-choice.choice)
          (λ n. c.len.ensures ∙ variants_counted (C.alternatives n) (c.VARIANTS.ensures ∙ C.described n))
          (λ n. c.added_count.ensures ∙ added_counted C.EXTENDED_VARIANTS (C.added n) (C.extends n)) c.in_ok-choice.ensures));
      behaves = behaves_begun c.in_ok-set.ensures.ok tt (c.in_ok-choice.ensures.kept ∙ ap (λ (z : Encoding). z.writer.codec) m ∙ noting_codec c.args.self.now);
    }

pub returns-in_err-set : goal.returns-in_err-set
returns-in_err-set g c =
    let p = err_from_is_err_and c.from_residual.result c.from_residual.ensures.1 in
    rw (p.1, p.2) (record {
      law = inr (λ n v. refuses_again _ c.args.self.now.writer _ v c.in_err-set.ensures.err c.in_err-set.ensures.failed);
      behaves = behaves_refused c.in_err-set.ensures.err c.in_err-set.ensures.failed c.in_err-set.ensures.stays;
    })

pub returns-in_err-choice : goal.returns-in_err-choice
returns-in_err-choice g c =
    let p = err_from_is_err_and c.from_residual-in_err-choice.result c.from_residual-in_err-choice.ensures.1 in
    let m = c.self.view_is ∙ c.in_ok-set.ensures.inside in
    let codec = ap (λ (z : Encoding). z.writer.codec) m ∙ noting_codec c.args.self.now in
    rw (p.1, p.2) (record {
      law = inl (record { kind_is = c.in_err-choice.ensures.err.kind_is; codec_is = c.in_err-choice.ensures.err.codec_is ∙ codec });
      behaves = behaves_begun c.in_ok-set.ensures.ok c.in_err-choice.ensures.fails (c.in_err-choice.ensures.kept ∙ codec);
    })
