use Rattle.per_enc.specs.Members.{writers_of}
use Rattle.per_enc.proofs.Opened.{Amidst}
use Rattle.per_enc.proofs.bags.put_members.Given as goal

abbrev pub invariant-loop-place : goal.invariant-loop-place
invariant-loop-place g l = Amidst (writers_of l.members) l.initial.list l.initial.writer l.place l.list l.writer
