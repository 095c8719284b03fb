use Rattle.std.proofs.Common.{refl}
use Rattle.per_core.specs.Canon.{bytes}
use Rattle.per_rows.proofs.lists.uper_nulls_in_fragments.Goals as goal

pub returns : goal.returns
unfolding bytes
returns c = refl
