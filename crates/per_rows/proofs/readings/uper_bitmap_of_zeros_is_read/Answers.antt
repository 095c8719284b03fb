use Rattle.std.proofs.Common.{refl, lit<, [], ◌∷◌, true, false, Some, None}
use Rattle.rasn_types.specs.Values.{truth}
use Rattle.rasn_schema.specs.Schemas.{Schema, group, optional, no_parts}
use Rattle.per_core.specs.Basic.{basic_in, rules}
use Rattle.per_core.specs.Canon.{canon}
use Rattle.per_core.proofs.WriterSpellings.{just_within, when_within}
use Rattle.per_rows.specs.Build.{uper, numbered, all_required, octet_string, sized}
use Rattle.per_rows.specs.Samples.{inner}
use Rattle.per_rows.proofs.Reading.{filled, as_record, as_root, with_bitmap, two_booleans}
use Rattle.per_rows.proofs.readings.uper_bitmap_of_zeros_is_read.Goals as goal

pub returns-clause-unknown : goal.returns-clause-unknown
unfolding basic_in canon
returns-clause-unknown c =
    let ps = numbered 0 (all_required (Schema.boolean ∷ Schema.boolean ∷ [])) in
    filled uper (as_record uper ps no_parts true (Some (truth true) ∷ Some (truth false) ∷ []) []
    (with_bitmap uper (rules uper ps) [] (Some (truth true) ∷ Some (truth false) ∷ []) [] (false ∷ []) (lit< tt) (lit< tt) (two_booleans uper true false) (just_within [])))
    11 (0xc0 ∷ 0x00 ∷ []) refl (lit< tt) (lit< tt) tt

pub returns-clause-known : goal.returns-clause-known
unfolding basic_in canon
returns-clause-known c =
    let ps = numbered 0 (all_required (Schema.boolean ∷ Schema.boolean ∷ [])) in
    let adds = numbered 2 ((group, inner) ∷ (optional, octet_string (sized 3 3)) ∷ []) in
    filled uper (as_record uper ps adds true (Some (truth true) ∷ Some (truth false) ∷ []) (None ∷ None ∷ [])
    (with_bitmap uper (rules uper ps) (rules uper adds) (Some (truth true) ∷ Some (truth false) ∷ []) (None ∷ None ∷ []) (false ∷ []) (lit< tt) (lit< tt) (two_booleans uper true false)
    (when_within refl (when_within refl (just_within [])))))
    11 (0xc0 ∷ 0x00 ∷ []) refl (lit< tt) (lit< tt) tt

pub returns-clause-nothing_else : goal.returns-clause-nothing_else
unfolding basic_in canon
returns-clause-nothing_else c =
    filled uper (as_record uper no_parts no_parts true [] [] (with_bitmap uper [] [] [] [] (false ∷ []) (lit< tt) (lit< tt) (as_root [] [] [] (just_within []) (just_within [])) (just_within [])))
    9 (0x80 ∷ 0x00 ∷ []) refl (lit< tt) (lit< tt) tt
