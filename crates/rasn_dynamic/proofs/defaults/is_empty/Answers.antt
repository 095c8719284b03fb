use Rattle.std.proofs.Common.{◌∙◌}
use Rattle.rasn_dynamic.proofs.SameDefaults.{no_elements, same_empty}
use Rattle.rasn_dynamic.proofs.defaults.is_empty.Goals as goal

pub returns-in-Some : goal.returns-in-Some
returns-in-Some c = rw c.in-Some.ensures (c.is_empty.ensures ∙ same_empty c.in-Some.elements.now)

pub returns-in-None : goal.returns-in-None
returns-in-None c = no_elements _ c.in-None.ensures
