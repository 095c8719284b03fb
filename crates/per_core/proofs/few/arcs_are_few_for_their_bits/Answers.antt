use Rattle.std.proofs.Common.{true}
use Rattle.per_core.proofs.ArcCounts
use Rattle.per_core.proofs.few.arcs_are_few_for_their_bits.Goals as goal

pub returns-clause-octets : goal.returns-clause-octets
returns-clause-octets c = ArcCounts.arcs_few

pub returns-clause-bits : goal.returns-clause-bits
returns-clause-bits c = λ a arcs p b h x. ArcCounts.arcs_few_for_bits a true arcs p b h x
