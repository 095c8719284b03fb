use Rattle.std.proofs.Common.{refl, lit<, [], ◌∷◌, true, Some}
use Rattle.rasn_types.specs.Values.{truth}
use Rattle.rasn_schema.specs.Schemas.{Schema, no_parts}
use Rattle.per_core.specs.Basic.{basic_in, rules}
use Rattle.per_core.specs.Canon.{canon}
use Rattle.per_core.proofs.WriterSpellings.{just_within, then_within, when_within}
use Rattle.per_rows.specs.Build.{uper, zero_padded, numbered, all_required}
use Rattle.per_rows.proofs.Reading.{filled, as_record, as_root, in_place, with_bitmap, any_octets}
use Rattle.per_rows.proofs.readings.uper_skipped_addition_may_have_any_spare_bits.Goals as goal

pub returns-clause-zeros : goal.returns-clause-zeros
unfolding basic_in canon
returns-clause-zeros c =
    let ps = numbered 0 (all_required (Schema.boolean ∷ [])) in
    filled uper (as_record uper ps no_parts true (Some (truth true) ∷ []) [] (with_bitmap uper (rules uper ps) [] (Some (truth true) ∷ []) [] (true ∷ []) (lit< tt) (lit< tt)
    (as_root (rules uper ps) (Some (truth true) ∷ []) (true ∷ []) (then_within (when_within refl (just_within [])) (just_within [])) (then_within (in_place uper Schema.boolean (truth true)) (just_within [])))
    (then_within (any_octets uper (0x00 ∷ [])) (just_within []))))
    26 (0xc0 ∷ 0x40 ∷ 0x40 ∷ 0x00 ∷ []) refl (lit< tt) (lit< tt) tt

pub returns-clause-ones : goal.returns-clause-ones
unfolding basic_in canon
returns-clause-ones c =
    let a = zero_padded uper in
    let ps = numbered 0 (all_required (Schema.boolean ∷ [])) in
    filled a (as_record a ps no_parts true (Some (truth true) ∷ []) [] (with_bitmap a (rules a ps) [] (Some (truth true) ∷ []) [] (true ∷ []) (lit< tt) (lit< tt)
    (as_root (rules a ps) (Some (truth true) ∷ []) (true ∷ []) (then_within (when_within refl (just_within [])) (just_within [])) (then_within (in_place a Schema.boolean (truth true)) (just_within [])))
    (then_within (any_octets a (0x02 ∷ [])) (just_within []))))
    26 (0xc0 ∷ 0x40 ∷ 0x40 ∷ 0x80 ∷ []) refl (lit< tt) (lit< tt) refl
