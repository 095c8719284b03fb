use Rattle.rasn_dynamic.proofs.SameDefaults.{added_root, root_added, same_added, same_root}
use Rattle.rasn_dynamic.proofs.defaults.are_same_place.Goals as goal

pub returns-in-Root-told : goal.returns-in-Root-told
returns-in-Root-told c = rw (c.in-Root.is, c.in-Root-told.is) (same_root c.in-Root.index c.in-Root-told.other)

pub returns-in-Added-told : goal.returns-in-Added-told
returns-in-Added-told c = rw (c.in-Root.is, c.in-Added-told.is) (root_added c.in-Root.index c.in-Added-told.field-0)

pub returns-in-Root-told-2 : goal.returns-in-Root-told-2
returns-in-Root-told-2 c = rw (c.in-Added.is, c.in-Root-told-2.is) (added_root c.in-Added.index c.in-Root-told-2.field-0)

pub returns-in-Added-told-2 : goal.returns-in-Added-told-2
returns-in-Added-told-2 c = rw (c.in-Added.is, c.in-Added-told-2.is) (same_added c.in-Added.index c.in-Added-told-2.other)
