use Rattle.lawful_types.proofs.OkAnswers.{then_all}
use Rattle.lawful_types.proofs.Presences.{same_default}
use Rattle.lawful_types.proofs.components.compare_presences.Goals as goal

pub returns-in-Default-Default : goal.returns-in-Default-Default
returns-in-Default-Default c =
    let h = c.in-Default-Default in
    then_all c.compare_defaults.result c.compare_defaults.ensures.same c.compare_defaults.ensures.newer_lawful c.compare_defaults.ensures.lawful
    (λ e l' l. same_default c.args.behind c.args.newer_kinds.now c.args.older_kinds.now c.args.newer.now c.args.older.now h.default h.old h.is-0 h.is-1 e l' l)
