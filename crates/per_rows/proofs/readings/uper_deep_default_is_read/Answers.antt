use Rattle.std.proofs.Common.{refl, lit<, [], ◌∷◌, false, Some}
use Rattle.rasn_schema.specs.Schemas.{default, no_parts}
use Rattle.per_core.specs.Basic.{basic_in, rules}
use Rattle.per_core.specs.Canon.{canon}
use Rattle.per_core.proofs.WriterSpellings.{just_within, then_within, when_within}
use Rattle.per_rows.specs.Build.{uper, numbered}
use Rattle.per_rows.specs.Samples.{nest, nested}
use Rattle.per_rows.proofs.Reading.{filled, as_record, as_root}
use Rattle.per_rows.proofs.readings.uper_deep_default_is_read.Goals as goal

pub returns : goal.returns
unfolding basic_in canon
returns c =
    let ps = numbered 0 ((default (nested 199), nest 127) ∷ []) in
    filled uper
    (as_record uper ps no_parts false (Some (nested 199) ∷ []) [] (then_within (as_root (rules uper ps) (Some (nested 199) ∷ []) (false ∷ [])
    (then_within (just_within (false ∷ [])) (just_within [])) (then_within (when_within refl (just_within [])) (just_within []))) (just_within [])))
    1 (0x00 ∷ []) refl (lit< tt) (lit< tt) tt
