use Rattle.std.proofs.Common.{refl, lit<, [], ◌∷◌, true, false, Some, None}
use Rattle.rasn_types.specs.Values.{truth}
use Rattle.rasn_schema.specs.Schemas.{Schema, optional, group, no_parts}
use Rattle.per_core.specs.Basic.{basic_in, rules}
use Rattle.per_core.specs.Canon.{bytes, canon}
use Rattle.per_core.proofs.WriterSpellings.{relax, just_within, then_within, when_within}
use Rattle.per_core.proofs.Presenting.{octets_within}
use Rattle.per_core.proofs.Laws
use Rattle.per_rows.specs.Build.{uper, numbered, all_required, sequence_with, extended, record_with}
use Rattle.per_rows.specs.Samples.{with_group}
use Rattle.per_rows.proofs.Reading.{filled, as_record, as_root, in_place, with_bitmap}
use Rattle.per_rows.proofs.readings.uper_vacant_group_is_read_as_there.Goals as goal

-- its canonical form, where it isn't in normal form
pub returns-clause-zeros : goal.returns-clause-zeros
unfolding bytes
returns-clause-zeros c = Laws.written_is_read uper with_group (extended (truth true ∷ []) (Some (record_with (None ∷ [])) ∷ [])) (0xc0 ∷ 0x40 ∷ 0x40 ∷ 0x00 ∷ []) refl

pub returns-clause-spare : goal.returns-clause-spare
unfolding basic_in canon
returns-clause-spare c =
    let ps = numbered 0 (all_required (Schema.boolean ∷ [])) in
    let g = sequence_with ((optional, Schema.boolean) ∷ []) in
    let adds = numbered 1 ((group, g) ∷ []) in
    let v = record_with (None ∷ []) in
    let contents = relax (λ p b x. record {
      held = v;
      is = refl;
      spelled = record {
        octets = 0x02 ∷ [];
        spelled = x;
        are = filled uper (as_record uper (numbered 0 ((optional, Schema.boolean) ∷ [])) no_parts false (None ∷ []) []
            (then_within (as_root (rules uper (numbered 0 ((optional, Schema.boolean) ∷ []))) (None ∷ []) (false ∷ []) (then_within (just_within (false ∷ [])) (just_within [])) (then_within (when_within refl (just_within [])) (just_within []))) (just_within [])))
            1 (0x02 ∷ []) refl (lit< tt) (lit< tt) tt;
      };
    }) (octets_within uper (0x02 ∷ [])) in
    filled uper
    (as_record uper ps adds true (Some (truth true) ∷ []) (Some v ∷ []) (with_bitmap uper (rules uper ps) (rules uper adds) (Some (truth true) ∷ []) (Some v ∷ []) (true ∷ []) (lit< tt) (lit< tt)
    (as_root (rules uper ps) (Some (truth true) ∷ []) (true ∷ []) (then_within (when_within refl (just_within [])) (just_within [])) (then_within (in_place uper Schema.boolean (truth true)) (just_within [])))
    (then_within contents (just_within []))))
    26 (0xc0 ∷ 0x40 ∷ 0x40 ∷ 0x80 ∷ []) refl (lit< tt) (lit< tt) tt
