use Rattle.rasn_constructed.proofs.Listed.{told_none}
use Rattle.rasn_constructed.proofs.lists.NoElementsElementDefaults.stand_for.Goals as goal

pub returns : goal.returns
returns g c = record { at = record { at = λ n le. rw c.is_empty.ensures (told_none g.T.AsnType.value _ c.args.elements.now) } }
