use Rattle.per_c.proofs.Codes.{put_as, unput_by}
use Rattle.per_c.specs.Tables.{IsAnswered, IsUnanswered}
use Rattle.per_c.specs.declared.tables.Task.TheVariants.{Recode}
use Rattle.per_c.proofs.table_calls.per_recode_by.Goals as goal

pub returns-clause-answered : goal.returns-clause-answered
returns-clause-answered c = λ e. put_as (λ octets. octets.items) (IsAnswered Recode c.args.types.now.handle.table c.args.options c.args.place c.args.octets.now) c.answer-canonical.result _ _ _
    c.answer-canonical.ensures.ok (c.put_answer.ensures.answered e)

pub returns-clause-refused : goal.returns-clause-refused
returns-clause-refused c = λ n. unput_by (λ octets. octets.items) (IsAnswered Recode c.args.types.now.handle.table c.args.options c.args.place c.args.octets.now)
    (IsUnanswered Recode c.args.types.now.handle.table c.args.options c.args.place c.args.octets.now) c.answer-canonical.result _ _ _ (λ h. h) c.answer-canonical.ensures.ok c.answer-canonical.ensures.err (c.put_answer.ensures.refused n)
