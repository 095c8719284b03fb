use Rattle.std.proofs.Common.{sym}
use Rattle.rasn_constructed.proofs.Listed.{told_list}
use Rattle.rasn_constructed.proofs.lists.ElementsDefaultOfVec.stands_for.Goals as goal

pub returns : goal.returns
returns g c = record { at = told_list _ _ _ _ _ _ _ (rw (sym c.as_slice.ensures.value) c.stand_for.ensures.at.at) }
