use Rattle.std.proofs.Common.{refl}
use Rattle.per_core.specs.Canon.{bytes}
use Rattle.per_rows.proofs.lists.uper_list_of_bytes.Goals as goal

pub returns : goal.returns
unfolding bytes
returns c = refl
