use Rattle.std.proofs.Common.{refl, lit<, [], ◌∷◌, true, false, Some}
use Rattle.rasn_types.specs.Values.{truth, octets}
use Rattle.rasn_schema.specs.Schemas.{Schema, group, no_parts}
use Rattle.per_core.specs.Basic.{basic_in, rules}
use Rattle.per_core.specs.Canon.{canon}
use Rattle.per_core.proofs.WriterSpellings.{just_within, then_within}
use Rattle.per_rows.specs.Build.{aper, numbered, all_required, with_all}
use Rattle.per_rows.specs.Samples.{inner}
use Rattle.per_rows.proofs.Reading.{filled, as_record, with_bitmap, two_booleans, any_octets, in_open}
use Rattle.per_rows.proofs.readings.aper_unknown_additions_are_skipped.Goals as goal

pub returns-clause-all : goal.returns-clause-all
unfolding basic_in canon
returns-clause-all c =
    let ps = numbered 0 (all_required (Schema.boolean ∷ Schema.boolean ∷ [])) in
    filled aper (as_record aper ps no_parts true (Some (truth true) ∷ Some (truth false) ∷ []) []
    (with_bitmap aper (rules aper ps) [] (Some (truth true) ∷ Some (truth false) ∷ []) [] (true ∷ true ∷ []) (lit< tt) (lit< tt) (two_booleans aper true false)
    (then_within (any_octets aper (0x80 ∷ 1 ∷ 2 ∷ 3 ∷ [])) (then_within (any_octets aper (7 ∷ 8 ∷ 9 ∷ [])) (just_within [])))))
    88 (0xc0 ∷ 0x70 ∷ 0x04 ∷ 0x80 ∷ 0x01 ∷ 0x02 ∷ 0x03 ∷ 0x03 ∷ 0x07 ∷ 0x08 ∷ 0x09 ∷ []) refl (lit< tt) (lit< tt) tt

pub returns-clause-last : goal.returns-clause-last
unfolding basic_in canon
returns-clause-last c =
    let ps = numbered 0 (all_required (Schema.boolean ∷ Schema.boolean ∷ [])) in
    let adds = numbered 2 ((group, inner) ∷ []) in
    let v = with_all (truth true ∷ octets (1 ∷ 2 ∷ 3 ∷ []) ∷ []) in
    filled aper (as_record aper ps adds true (Some (truth true) ∷ Some (truth false) ∷ []) (Some v ∷ [])
    (with_bitmap aper (rules aper ps) (rules aper adds) (Some (truth true) ∷ Some (truth false) ∷ []) (Some v ∷ []) (true ∷ true ∷ []) (lit< tt) (lit< tt) (two_booleans aper true false)
    (then_within (in_open aper inner v) (then_within (any_octets aper (7 ∷ 8 ∷ 9 ∷ [])) (just_within [])))))
    88 (0xc0 ∷ 0x70 ∷ 0x04 ∷ 0x80 ∷ 0x01 ∷ 0x02 ∷ 0x03 ∷ 0x03 ∷ 0x07 ∷ 0x08 ∷ 0x09 ∷ []) refl (lit< tt) (lit< tt) tt
