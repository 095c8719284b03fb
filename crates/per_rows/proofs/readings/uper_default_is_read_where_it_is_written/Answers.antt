use Rattle.std.proofs.Common.{refl, lit<, [], ◌∷◌, pos, true, false, Some}
use Rattle.rasn_types.specs.Values.{whole}
use Rattle.rasn_constraints.specs.Bounds.{between}
use Rattle.rasn_schema.specs.Schemas.{default, no_parts}
use Rattle.per_core.specs.Basic.{basic_in, rules}
use Rattle.per_core.specs.Canon.{canon}
use Rattle.per_core.proofs.WriterSpellings.{just_within, then_within}
use Rattle.per_rows.specs.Build.{uper, numbered, integer_in}
use Rattle.per_rows.proofs.Reading.{filled, as_record, as_root, in_place}
use Rattle.per_rows.proofs.readings.uper_default_is_read_where_it_is_written.Goals as goal

pub returns : goal.returns
unfolding basic_in canon
returns c =
    let ps = numbered 0 ((default (whole (pos 3)), integer_in (between (pos 0) (pos 7))) ∷ []) in
    filled uper
    (as_record uper ps no_parts false (Some (whole (pos 3)) ∷ []) [] (then_within (as_root (rules uper ps) (Some (whole (pos 3)) ∷ []) (true ∷ [])
    (then_within (just_within (true ∷ [])) (just_within [])) (then_within (in_place uper (integer_in (between (pos 0) (pos 7))) (whole (pos 3))) (just_within []))) (just_within [])))
    4 (0xb0 ∷ []) refl (lit< tt) (lit< tt) tt
