use Rattle.std.proofs.Common.{refl}
use Rattle.per_core.specs.Canon.{bytes}
use Rattle.per_rows.proofs.lists.uper_characters_of_no_bits_in_fragments.Goals as goal

pub returns : goal.returns
unfolding bytes
returns c = refl
