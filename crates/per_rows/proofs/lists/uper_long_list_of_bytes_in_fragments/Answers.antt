use Rattle.std.proofs.Common.{refl, lit<}
use Rattle.per_core.specs.Canon.{canon}
use Rattle.per_rows.proofs.Long.{long_bytes}
use Rattle.per_rows.proofs.lists.uper_long_list_of_bytes_in_fragments.Goals as goal

pub returns : goal.returns
unfolding canon
returns c = long_bytes 99000 refl refl ((refl, (lit< tt, tt), (refl, (lit< tt, tt), (refl, (lit< tt, (lit< tt, tt)), tt)))) (lit< tt)
