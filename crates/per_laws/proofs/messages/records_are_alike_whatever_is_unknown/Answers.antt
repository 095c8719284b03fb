use Rattle.per_laws.proofs.Replaced.{replaced}
use Rattle.per_laws.proofs.messages.records_are_alike_whatever_is_unknown.Goals as goal

pub returns : goal.returns
returns c = λ a o ps adds more octets others v p known unknown again x m n y z. replaced a o ps adds more octets others v p known unknown again x m n y z
