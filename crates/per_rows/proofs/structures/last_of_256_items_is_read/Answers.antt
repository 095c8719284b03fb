use Rattle.std.proofs.Common.{refl, [], ◌∷◌, true}
use Rattle.rasn_types.specs.Values.{truth, item, root}
use Rattle.per_core.specs.Canon.{bytes}
use Rattle.per_core.proofs.Laws
use Rattle.per_rows.specs.Build.{uper, aper, with_all}
use Rattle.per_rows.specs.Samples.{with_item}
use Rattle.per_rows.proofs.Reading.{no_less}
use Rattle.per_rows.proofs.structures.last_of_256_items_is_read.Goals as goal

pub returns-clause-in_uper : goal.returns-clause-in_uper
unfolding bytes
returns-clause-in_uper c = Laws.written_is_read uper with_item (with_all (truth true ∷ item root 255 ∷ [])) (0xff ∷ 0x80 ∷ []) refl

pub returns-clause-in_aper : goal.returns-clause-in_aper
unfolding bytes
returns-clause-in_aper c = Laws.written_is_read aper with_item (with_all (truth true ∷ item root 255 ∷ [])) (0x80 ∷ 0xff ∷ []) refl

pub returns-clause-cut_off : goal.returns-clause-cut_off
unfolding bytes
returns-clause-cut_off c v = no_less uper with_item (with_all (truth true ∷ item root 255 ∷ [])) v (0xff ∷ []) 0x80 [] refl
