use Rattle.std.proofs.Common.{refl}
use Rattle.per_core.specs.Canon.{bytes}
use Rattle.per_rows.proofs.strings.uper_octet_string_takes_its_largest_fragment.Goals as goal

pub returns : goal.returns
unfolding bytes
returns c = refl
