use Rattle.std.proofs.Common.{refl, [], ◌∷◌, true}
use Rattle.rasn_types.specs.Values.{truth, nothing, alternative, root}
use Rattle.per_core.specs.Canon.{bytes}
use Rattle.per_core.proofs.Laws
use Rattle.per_rows.specs.Build.{uper}
use Rattle.per_rows.specs.Samples.{x_y_or_z}
use Rattle.per_rows.proofs.Reading.{no_less}
use Rattle.per_rows.proofs.structures.uper_choice_is_read_of_its_index.Goals as goal

pub returns-clause-first : goal.returns-clause-first
unfolding bytes
returns-clause-first c = Laws.written_is_read uper x_y_or_z (alternative root 0 (truth true)) (0x20 ∷ []) refl

pub returns-clause-second_first : goal.returns-clause-second_first
unfolding bytes
returns-clause-second_first c = Laws.written_is_read uper x_y_or_z (alternative root 1 (alternative root 0 (truth true))) (0x50 ∷ []) refl

pub returns-clause-second_second : goal.returns-clause-second_second
unfolding bytes
returns-clause-second_second c = Laws.written_is_read uper x_y_or_z (alternative root 1 (alternative root 1 nothing)) (0x60 ∷ []) refl

pub returns-clause-third : goal.returns-clause-third
unfolding bytes
returns-clause-third c = Laws.written_is_read uper x_y_or_z (alternative root 2 nothing) (0x80 ∷ []) refl

pub returns-clause-no_octets : goal.returns-clause-no_octets
unfolding bytes
returns-clause-no_octets c v = no_less uper x_y_or_z (alternative root 2 nothing) v [] 0x80 [] refl
