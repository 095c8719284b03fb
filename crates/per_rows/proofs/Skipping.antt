-- SEQUENCE { a BOOLEAN, ... } with an addition that isn't known.
use Rattle.std.proofs.Common.{refl, lit<, ℕ, true, false, List, [], ◌∷◌, Some}
use Rattle.rasn_types.specs.Bits.{to_bits}
use Rattle.rasn_types.specs.Values.{truth}
use Rattle.rasn_schema.specs.Schemas.{Schema, no_parts}
use Rattle.per_core.specs.Basic.{basic, basic_in, rules}
use Rattle.per_core.specs.Canon.{canon}
use Rattle.per_core.specs.Counts.{unconstrained_octets}
use Rattle.per_core.specs.Spellings.{Settings}
use Rattle.per_core.specs.Writers.{Writer, just, ◌▹◌}
use Rattle.per_core.proofs.WriterSpellings.{Within, just_within, then_within, when_within}
use Rattle.per_rows.specs.Build.{numbered, all_required, extended}
use Rattle.per_rows.specs.Samples.{shallow_version}
use Rattle.per_rows.proofs.Reading.{as_record, as_root, in_place, with_bitmap, any_octets}

abbrev pub one_unknown : Settings → List ℕ → Writer
one_unknown a os = just (true ∷ []) ▹ (((just [] ▹ just []) ▹ (canon a.variant Schema.boolean (truth true) ▹ just []))
    ▹ ((just (false ∷ []) ▹ (just (to_bits 6 0) ▹ just (true ∷ []))) ▹ (unconstrained_octets a.variant os ▹ just [])))

pub unknown_within : (a : Settings) (os : List ℕ) → Within (one_unknown a os) (basic a shallow_version (extended (truth true ∷ []) []))
unfolding basic_in
unknown_within a os =
    let ps = numbered 0 (all_required (Schema.boolean ∷ [])) in
    as_record a ps no_parts true (Some (truth true) ∷ []) [] (with_bitmap a (rules a ps) [] (Some (truth true) ∷ []) [] (true ∷ []) (lit< tt) (lit< tt)
    (as_root (rules a ps) (Some (truth true) ∷ []) (true ∷ []) (then_within (when_within refl (just_within [])) (just_within [])) (then_within (in_place a Schema.boolean (truth true)) (just_within [])))
    (then_within (any_octets a os) (just_within [])))
