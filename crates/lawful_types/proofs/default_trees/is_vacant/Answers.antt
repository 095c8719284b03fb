use Rattle.lawful_types.proofs.RightTrees.{no_record_idle, record_full, record_idle_told}
use Rattle.lawful_types.proofs.SameTrees.{fields_stated}
use Rattle.lawful_types.proofs.default_trees.is_vacant.Goals as goal

pub returns-then-not-root_idle : goal.returns-then-not-root_idle
returns-then-not-root_idle c = λ ts n.
    record_full c.args.record.now c.deref-root_tolds.result.now c.deref-added_tolds.result.now c.args.told.now c.are_idle-root_idle.result
    (rw c.root-components.ensures at c.are_idle-root_idle.ensures) c.if-not-root_idle.true
    (fields_stated c.in-Fields.root c.in-Fields.additions c.deref-root_tolds.result.now c.deref-added_tolds.result.now c.args.told.now c.deref-root_tolds.ensures.value c.deref-added_tolds.ensures.value c.in-Fields.is) ts n

pub returns-else-not-root_idle : goal.returns-else-not-root_idle
returns-else-not-root_idle c = λ ts n.
    record_idle_told c.args.record.now c.deref-root_tolds.result.now c.deref-added_tolds.result.now c.args.told.now c.are_idle-root_idle.result c.are_idle.result
    (rw c.root-components.ensures at c.are_idle-root_idle.ensures) c.if-not-root_idle.false (rw c.behind-behind.ensures at c.are_idle.ensures)
    (fields_stated c.in-Fields.root c.in-Fields.additions c.deref-root_tolds.result.now c.deref-added_tolds.result.now c.args.told.now c.deref-root_tolds.ensures.value c.deref-added_tolds.ensures.value c.in-Fields.is) ts n

pub returns-in_default : goal.returns-in_default
returns-in_default c = λ ts n. no_record_idle c.args.record.now c.args.told.now c.in_default.not-Fields ts n
