use Rattle.per_laws.proofs.Sound.{alike_itself}
use Rattle.per_laws.proofs.messages.what_is_read_is_alike_itself.Goals as goal

pub returns : goal.returns
returns c = alike_itself
