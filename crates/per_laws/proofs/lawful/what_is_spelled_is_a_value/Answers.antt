use Rattle.std.proofs.Common.{true}
use Rattle.per_laws.proofs.OfKind.{spelled_of_kind}
use Rattle.per_laws.proofs.lawful.what_is_spelled_is_a_value.Goals as goal

pub returns : goal.returns
returns c = λ a s v p b l k x. spelled_of_kind a true s v p b l k x
