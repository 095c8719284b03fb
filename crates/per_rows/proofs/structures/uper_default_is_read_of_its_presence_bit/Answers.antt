use Rattle.std.proofs.Common.{refl, [], ◌∷◌, pos}
use Rattle.rasn_types.specs.Values.{whole}
use Rattle.rasn_schema.specs.Normal.{normal}
use Rattle.per_core.specs.Canon.{bytes}
use Rattle.per_core.proofs.Laws
use Rattle.per_rows.specs.Build.{uper, with_all}
use Rattle.per_rows.specs.Samples.{with_default}
use Rattle.per_rows.proofs.structures.uper_default_is_read_of_its_presence_bit.Goals as goal

pub returns-clause-absent : goal.returns-clause-absent
unfolding bytes normal
returns-clause-absent c = Laws.written_is_read uper with_default (with_all (whole (pos 3) ∷ [])) (0x00 ∷ []) refl

pub returns-clause-there : goal.returns-clause-there
unfolding bytes normal
returns-clause-there c = Laws.written_is_read uper with_default (with_all (whole (pos 5) ∷ [])) (0xd0 ∷ []) refl
