use Rattle.per_laws.proofs.Sound.{front_the_same}
use Rattle.per_laws.proofs.messages.message_in_front_is_read_whatever_is_unknown.Goals as goal

pub returns : goal.returns
returns c = λ a s v octets others rest after k. front_the_same a s octets others k v rest after
