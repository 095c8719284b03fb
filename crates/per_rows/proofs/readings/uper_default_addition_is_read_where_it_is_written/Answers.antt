use Rattle.std.proofs.Common.{refl, lit<, [], ◌∷◌, true, pos, Some}
use Rattle.rasn_types.specs.Values.{whole}
use Rattle.rasn_constraints.specs.Bounds.{between}
use Rattle.rasn_schema.specs.Schemas.{default, no_parts}
use Rattle.per_core.specs.Basic.{basic_in, rules}
use Rattle.per_core.specs.Canon.{canon}
use Rattle.per_core.proofs.WriterSpellings.{just_within, then_within}
use Rattle.per_rows.specs.Build.{uper, numbered, integer_in}
use Rattle.per_rows.proofs.Reading.{filled, as_record, as_root, in_open, with_bitmap}
use Rattle.per_rows.proofs.readings.uper_default_addition_is_read_where_it_is_written.Goals as goal

pub returns : goal.returns
unfolding basic_in canon
returns c =
    let s = integer_in (between (pos 0) (pos 7)) in
    let adds = numbered 0 ((default (whole (pos 3)), s) ∷ []) in
    filled uper
    (as_record uper no_parts adds true [] (Some (whole (pos 3)) ∷ []) (with_bitmap uper [] (rules uper adds) [] (Some (whole (pos 3)) ∷ []) (true ∷ []) (lit< tt) (lit< tt)
    (as_root [] [] [] (just_within []) (just_within [])) (then_within (in_open uper s (whole (pos 3))) (just_within []))))
    25 (0x80 ∷ 0x80 ∷ 0xb0 ∷ 0x00 ∷ []) refl (lit< tt) (lit< tt) tt
