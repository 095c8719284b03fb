use Rattle.per_c.proofs.Codes.{put_as, unput_by}
use Rattle.per_c.specs.Answers.{HasNoJson, IsJson}
use Rattle.per_c.proofs.calls.per_json.Goals as goal

pub returns-clause-answered : goal.returns-clause-answered
returns-clause-answered c = λ e. put_as (λ octets. octets.items) (IsJson c.args.options c.args.type_number c.args.octets.now) c.json-text.result _ _ _
    c.json-text.ensures.ok (c.put_answer.ensures.answered e)

pub returns-clause-refused : goal.returns-clause-refused
returns-clause-refused c = λ n. unput_by (λ octets. octets.items) (IsJson c.args.options c.args.type_number c.args.octets.now)
    (HasNoJson c.args.options c.args.type_number c.args.octets.now) c.json-text.result _ _ _ (λ h. h) c.json-text.ensures.ok c.json-text.ensures.err (c.put_answer.ensures.refused n)
