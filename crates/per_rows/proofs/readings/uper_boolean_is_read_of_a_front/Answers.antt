use Rattle.std.proofs.Common.{refl, [], ◌∷◌, true}
use Rattle.rasn_types.specs.Values.{truth}
use Rattle.rasn_schema.specs.Schemas.{Schema}
use Rattle.per_core.specs.Canon.{bytes}
use Rattle.per_core.proofs.Laws
use Rattle.per_rows.specs.Build.{uper}
use Rattle.per_rows.proofs.readings.uper_boolean_is_read_of_a_front.Goals as goal

pub returns : goal.returns
unfolding bytes
returns c = (Laws.written_in_front uper Schema.boolean (truth true) (0x80 ∷ []) (0xaa ∷ 0xbb ∷ []) refl).0
