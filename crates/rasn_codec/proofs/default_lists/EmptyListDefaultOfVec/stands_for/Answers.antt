use Rattle.std.proofs.Common.{arith}
use Rattle.rasn_codec.proofs.SameValues.{same_empty}
use Rattle.rasn_codec.proofs.default_lists.EmptyListDefaultOfVec.stands_for.Goals as goal

pub returns : goal.returns
returns g c = record { at = λ n le. rw (c.is_empty.ensures, c.as_slice.ensures.value) (same_empty g.T.AsnType.value _ _ _ c.args.component.now.items n (omega arith)) }
