use Rattle.per_laws.proofs.Sound.{read_the_same}
use Rattle.per_laws.proofs.messages.whole_message_is_read_whatever_is_unknown.Goals as goal

pub returns : goal.returns
returns c = λ a s v octets others k. read_the_same a s octets others k v
