use Rattle.std.proofs.Common.{refl, lit<, [], ◌∷◌, true, Some, None}
use Rattle.rasn_types.specs.Values.{truth}
use Rattle.rasn_schema.specs.Schemas.{Schema, optional, required, no_parts}
use Rattle.per_core.specs.Basic.{basic_in, rules}
use Rattle.per_core.specs.Canon.{canon}
use Rattle.per_core.proofs.WriterSpellings.{just_within, then_within, when_within}
use Rattle.per_rows.specs.Build.{uper, numbered}
use Rattle.per_rows.proofs.Reading.{filled, as_record, as_root, in_open, with_bitmap}
use Rattle.per_rows.proofs.readings.uper_short_bitmap_is_read.Goals as goal

pub returns : goal.returns
unfolding basic_in canon
returns c =
    let adds = numbered 0 ((required, Schema.boolean) ∷ (optional, Schema.boolean) ∷ []) in
    filled uper
    (as_record uper no_parts adds true [] (Some (truth true) ∷ None ∷ []) (with_bitmap uper [] (rules uper adds) [] (Some (truth true) ∷ None ∷ []) (true ∷ []) (lit< tt) (lit< tt)
    (as_root [] [] [] (just_within []) (just_within [])) (then_within (in_open uper Schema.boolean (truth true)) (when_within refl (just_within [])))))
    25 (0x80 ∷ 0x80 ∷ 0xc0 ∷ 0x00 ∷ []) refl (lit< tt) (lit< tt) tt
