use Rattle.std.proofs.Common.{refl, lit<, [], ◌∷◌, true, false, Some}
use Rattle.rasn_types.specs.Values.{truth, octets}
use Rattle.rasn_schema.specs.Schemas.{Schema, group, optional, no_parts}
use Rattle.per_core.specs.Basic.{basic_in, rules}
use Rattle.per_core.specs.Canon.{canon}
use Rattle.per_core.proofs.WriterSpellings.{just_within, then_within}
use Rattle.per_rows.specs.Build.{aper, numbered, all_required, with_all, octet_string, sized}
use Rattle.per_rows.specs.Samples.{inner}
use Rattle.per_rows.proofs.Reading.{filled, as_record, with_large_bitmap, two_booleans, any_octets, in_open}
use Rattle.per_rows.proofs.readings.aper_bitmap_is_read_in_its_large_form.Goals as goal

pub returns-clause-known : goal.returns-clause-known
unfolding basic_in canon
returns-clause-known c =
    let ps = numbered 0 (all_required (Schema.boolean ∷ Schema.boolean ∷ [])) in
    let adds = numbered 2 ((group, inner) ∷ (optional, octet_string (sized 3 3)) ∷ []) in
    let v = with_all (truth true ∷ octets (1 ∷ 2 ∷ 3 ∷ []) ∷ []) in
    let xs = Some v ∷ Some (octets (7 ∷ 8 ∷ 9 ∷ [])) ∷ [] in
    filled aper (as_record aper ps adds true (Some (truth true) ∷ Some (truth false) ∷ []) xs
    (with_large_bitmap aper (rules aper ps) (rules aper adds) (Some (truth true) ∷ Some (truth false) ∷ []) xs (true ∷ true ∷ []) (lit< tt) (two_booleans aper true false)
    (then_within (in_open aper inner v) (then_within (in_open aper (octet_string (sized 3 3)) (octets (7 ∷ 8 ∷ 9 ∷ []))) (just_within [])))))
    96 (0xd0 ∷ 0x02 ∷ 0xc0 ∷ 0x04 ∷ 0x80 ∷ 0x01 ∷ 0x02 ∷ 0x03 ∷ 0x03 ∷ 0x07 ∷ 0x08 ∷ 0x09 ∷ []) refl (lit< tt) (lit< tt) tt

pub returns-clause-unknown : goal.returns-clause-unknown
unfolding basic_in canon
returns-clause-unknown c =
    let ps = numbered 0 (all_required (Schema.boolean ∷ Schema.boolean ∷ [])) in
    filled aper (as_record aper ps no_parts true (Some (truth true) ∷ Some (truth false) ∷ []) []
    (with_large_bitmap aper (rules aper ps) [] (Some (truth true) ∷ Some (truth false) ∷ []) [] (true ∷ true ∷ []) (lit< tt) (two_booleans aper true false)
    (then_within (any_octets aper (0x80 ∷ 1 ∷ 2 ∷ 3 ∷ [])) (then_within (any_octets aper (7 ∷ 8 ∷ 9 ∷ [])) (just_within [])))))
    96 (0xd0 ∷ 0x02 ∷ 0xc0 ∷ 0x04 ∷ 0x80 ∷ 0x01 ∷ 0x02 ∷ 0x03 ∷ 0x03 ∷ 0x07 ∷ 0x08 ∷ 0x09 ∷ []) refl (lit< tt) (lit< tt) tt
