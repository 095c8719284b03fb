use Rattle.std.proofs.Common.{refl}
use Rattle.per_core.specs.Canon.{bytes}
use Rattle.per_rows.proofs.lists.aper_bit_string_of_one_fragment.Goals as goal

pub returns : goal.returns
unfolding bytes
returns c = refl
