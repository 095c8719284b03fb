use Rattle.per_laws.proofs.Sound.{all_sound}
use Rattle.per_laws.proofs.messages.alike_spell_one_value_and_end_alike.Goals as goal

pub returns : goal.returns
returns c = λ a s v p bits others k. (all_sound a s v).both p bits others k
