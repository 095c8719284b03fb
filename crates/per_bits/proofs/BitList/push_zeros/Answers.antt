use Rattle.std.proofs.Common.{◌∙◌, ◌++◌, ap, arith, false, replicate}
use Rattle.per_bits.proofs.Readers.{filled_room, kept_by}
use Rattle.per_bits.proofs.Room.{zeros_taken}
use Rattle.per_bits.proofs.BitList.push_zeros.Goals as goal

pub invariant_of-self-2 : goal.invariant_of-self-2
invariant_of-self-2 g c = kept_by (zeros_taken c.in_ok-spare.ensures.ok (omega (arith, c.in_ok-spare.ensures.enough)))

pub returns-clause-ok : goal.returns-clause-ok
returns-clause-ok g c = filled_room (zeros_taken c.in_ok-spare.ensures.ok (omega (arith, c.in_ok-spare.ensures.enough))) ∙ ap (λ bs. bs ++ replicate c.args.count false) c.self.view_is
