use Rattle.per_dynamic.proofs.Taking.{ok_as}
use Rattle.per_messages.proofs.calls.show.Goals as goal

pub returns-clause-ok : goal.returns-clause-ok
returns-clause-ok c =
    ok_as c.json_of.result (λ text h. record { opened = c.in_ok-opened.opened; is_opened = c.in_ok-opened.ensures.ok; is_json = h })
    c.json_of.ensures.ok
