use Rattle.lawful_types.proofs.OkAnswers.{then, then_both}
use Rattle.lawful_types.proofs.Parts.{list_newer, set_newer}
use Rattle.lawful_types.proofs.ContainingTypes.{date_newer, open_newer}
use Rattle.lawful_types.proofs.kinds.compare_plain.Goals as goal

pub returns-in-Date-Date-clause-newer : goal.returns-in-Date-Date-clause-newer
returns-in-Date-Date-clause-newer c = rw (c.in-Date-Date.is-0, c.in-Date-Date.is-1) (λ s' s n v. date_newer n)

pub returns-in-List-List-clause-newer : goal.returns-in-List-List-clause-newer
returns-in-List-List-clause-newer c =
    let k = c.in-List-List in
    then_both c.compare_elements.result c.compare_elements.ensures.size c.compare_elements.ensures.listed
    (λ z l. rw (k.is-0, k.is-1) (list_newer c.args.newer_kinds.now c.args.older_kinds.now c.compare_elements.new.pairs.items k.newer k.older k.size k.old_size z l))

pub returns-in-SetOf-SetOf-clause-newer : goal.returns-in-SetOf-SetOf-clause-newer
returns-in-SetOf-SetOf-clause-newer c =
    let k = c.in-SetOf-SetOf in let r = c.compare_elements-in-SetOf-SetOf in
    then_both r.result r.ensures.size r.ensures.listed
    (λ z l. rw (k.is-0, k.is-1) (set_newer c.args.newer_kinds.now c.args.older_kinds.now r.new.pairs.items k.newer k.older k.size k.old_size z l))

pub returns-in-Choice-Choice-clause-newer : goal.returns-in-Choice-Choice-clause-newer
returns-in-Choice-Choice-clause-newer c =
    let k = c.in-Choice-Choice in
    then c.compare_choices.result c.compare_choices.ensures.newer (λ h. rw (k.is-0, k.is-1) (h c.args.newer_kinds.now c.args.older_kinds.now))

pub returns-in_default-clause-newer : goal.returns-in_default-clause-newer
returns-in_default-clause-newer c =
    open_newer c.args.newer_kinds.now c.args.older_kinds.now c.args.pairs.now.items c.args.newer.now c.args.older.now (c.is_open.ensures c.if-is_open.true) (c.is_open-then-is_open.ensures c.if-is_open-2.true)
