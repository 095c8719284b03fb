use Rattle.std.proofs.Common.{refl, [], ◌∷◌, replicate}
use Rattle.rasn_types.specs.Values.{nothing}
use Rattle.rasn_schema.specs.Schemas.{Schema}
use Rattle.per_core.specs.Canon.{bytes}
use Rattle.per_core.proofs.Laws
use Rattle.per_rows.specs.Build.{uper, aper, list, list_of, sized}
use Rattle.per_rows.proofs.structures.list_of_null_is_read_of_its_count.Goals as goal

pub returns-clause-in_uper : goal.returns-clause-in_uper
unfolding bytes
returns-clause-in_uper c = Laws.written_is_read uper (list_of Schema.null (sized 1 300)) (list (replicate 300 nothing)) (0x95 ∷ 0x80 ∷ []) refl

pub returns-clause-in_aper : goal.returns-clause-in_aper
unfolding bytes
returns-clause-in_aper c = Laws.written_is_read aper (list_of Schema.null (sized 1 300)) (list (replicate 300 nothing)) (0x01 ∷ 0x2b ∷ []) refl
