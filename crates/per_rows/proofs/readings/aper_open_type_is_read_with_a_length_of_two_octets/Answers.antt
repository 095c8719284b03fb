use Rattle.std.proofs.Common.{refl, lit<, [], ◌∷◌, true, false, Some}
use Rattle.rasn_types.specs.Values.{truth, octets}
use Rattle.rasn_schema.specs.Schemas.{Schema, group, optional, no_parts}
use Rattle.per_core.specs.Basic.{basic_in, rules}
use Rattle.per_core.specs.Canon.{bytes, canon}
use Rattle.per_core.proofs.WriterSpellings.{relax, just_within, then_within}
use Rattle.per_core.proofs.Laws
use Rattle.per_rows.specs.Build.{aper, numbered, all_required, with_all, octet_string, sized}
use Rattle.per_rows.specs.Samples.{inner}
use Rattle.per_rows.proofs.Reading.{filled, as_record, with_bitmap, two_booleans, any_octets, in_open, in_two_octets}
use Rattle.per_rows.proofs.readings.aper_open_type_is_read_with_a_length_of_two_octets.Goals as goal

pub returns-clause-known : goal.returns-clause-known
unfolding basic_in bytes
returns-clause-known c =
    let ps = numbered 0 (all_required (Schema.boolean ∷ Schema.boolean ∷ [])) in
    let adds = numbered 2 ((group, inner) ∷ (optional, octet_string (sized 3 3)) ∷ []) in
    let v = with_all (truth true ∷ octets (1 ∷ 2 ∷ 3 ∷ []) ∷ []) in
    let xs = Some v ∷ Some (octets (7 ∷ 8 ∷ 9 ∷ [])) ∷ [] in
    let contents = relax (λ p b x. record { held = v; is = refl; spelled = record { octets = 0x80 ∷ 1 ∷ 2 ∷ 3 ∷ []; are = Laws.written_is_read aper inner v (0x80 ∷ 1 ∷ 2 ∷ 3 ∷ []) refl; spelled = x } })
    (in_two_octets aper (0x80 ∷ 1 ∷ 2 ∷ 3 ∷ []) refl (lit< tt)) in
    filled aper (as_record aper ps adds true (Some (truth true) ∷ Some (truth false) ∷ []) xs
    (with_bitmap aper (rules aper ps) (rules aper adds) (Some (truth true) ∷ Some (truth false) ∷ []) xs (true ∷ true ∷ []) (lit< tt) (lit< tt) (two_booleans aper true false)
    (then_within contents (then_within (in_open aper (octet_string (sized 3 3)) (octets (7 ∷ 8 ∷ 9 ∷ []))) (just_within [])))))
    96 (0xc0 ∷ 0x70 ∷ 0x80 ∷ 0x04 ∷ 0x80 ∷ 0x01 ∷ 0x02 ∷ 0x03 ∷ 0x03 ∷ 0x07 ∷ 0x08 ∷ 0x09 ∷ []) refl (lit< tt) (lit< tt) tt

pub returns-clause-unknown : goal.returns-clause-unknown
unfolding basic_in canon
returns-clause-unknown c =
    let ps = numbered 0 (all_required (Schema.boolean ∷ Schema.boolean ∷ [])) in
    let contents = relax (λ p b x. record { octets = 0x80 ∷ 1 ∷ 2 ∷ 3 ∷ []; are = tt; spelled = x }) (in_two_octets aper (0x80 ∷ 1 ∷ 2 ∷ 3 ∷ []) refl (lit< tt)) in
    filled aper (as_record aper ps no_parts true (Some (truth true) ∷ Some (truth false) ∷ []) []
    (with_bitmap aper (rules aper ps) [] (Some (truth true) ∷ Some (truth false) ∷ []) [] (true ∷ true ∷ []) (lit< tt) (lit< tt) (two_booleans aper true false)
    (then_within contents (then_within (any_octets aper (7 ∷ 8 ∷ 9 ∷ [])) (just_within [])))))
    96 (0xc0 ∷ 0x70 ∷ 0x80 ∷ 0x04 ∷ 0x80 ∷ 0x01 ∷ 0x02 ∷ 0x03 ∷ 0x03 ∷ 0x07 ∷ 0x08 ∷ 0x09 ∷ []) refl (lit< tt) (lit< tt) tt
