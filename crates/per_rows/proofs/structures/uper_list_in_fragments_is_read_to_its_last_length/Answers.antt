use Rattle.std.proofs.Common.{refl, [], ◌∷◌, replicate}
use Rattle.rasn_types.specs.Values.{nothing}
use Rattle.rasn_constraints.specs.Bounds.{any_size}
use Rattle.rasn_schema.specs.Schemas.{Schema}
use Rattle.per_core.specs.Canon.{bytes}
use Rattle.per_core.proofs.Laws
use Rattle.per_rows.specs.Build.{uper, list, list_of}
use Rattle.per_rows.proofs.Reading.{no_less}
use Rattle.per_rows.proofs.structures.uper_list_in_fragments_is_read_to_its_last_length.Goals as goal

pub returns-clause-all : goal.returns-clause-all
unfolding bytes
returns-clause-all c = Laws.written_is_read uper (list_of Schema.null any_size) (list (replicate 196608 nothing)) (0xc4 ∷ 0xc4 ∷ 0xc4 ∷ 0x00 ∷ []) refl

pub returns-clause-no_last_length : goal.returns-clause-no_last_length
unfolding bytes
returns-clause-no_last_length c v = no_less uper (list_of Schema.null any_size) (list (replicate 196608 nothing)) v (0xc4 ∷ 0xc4 ∷ 0xc4 ∷ []) 0x00 [] refl
