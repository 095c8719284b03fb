-- Types with a default of many levels: that one is a newer version of the other, and that octets without the default are read.
use Rattle.std.proofs.Common.{◌≡◌, ◌∙◌, inr, refl, sym, lit<, ℕ, zero, suc, Bool, true, false, List, [], ◌∷◌, pos, Option, Some, None}
use Rattle.rasn_types.specs.Values.{Value, whole, truth}
use Rattle.rasn_schema.specs.Schemas.{Schema, Parts, required, optional, default, no_parts}
use Rattle.per_core.specs.Basic.{Root, fills, fills_known, basic_in, rules, rules_in}
use Rattle.per_core.specs.Canon.{canon}
use Rattle.per_core.specs.Counts.{unconstrained_octets}
use Rattle.per_core.specs.Versions.{project, widen, IsWidened, Newer, NewerType, unchanged, newer_sequence, no_more, more_parts, also}
use Rattle.per_core.specs.Writers.{just, ◌▹◌}
use Rattle.per_core.proofs.Presenting.{octets_within}
use Rattle.per_core.proofs.WriterSpellings.{Within, relax, just_within, then_within, left_within, when_within}
use Rattle.per_rows.specs.Build.{uper, numbered, integer, extended}
use Rattle.per_rows.specs.Samples.{nest, nested}
use Rattle.per_rows.specs.DeepDefaults.{keyed, longer_keyed, flagged, deeply_flagged}
use Rattle.per_rows.proofs.Reading.{filled, few, as_record, as_root, in_place, with_bitmap}

-- Nest is a newer version of itself, in which each of its values is itself
nest_newer : (n : ℕ) → Newer (nest n) (nest n)
nest_newer zero = unchanged tt
nest_newer (suc n) = newer_sequence (also tt (nest_newer n) no_more) no_more

nested_widened : (n k : ℕ) → widen (nest n) (nest n) (nested k) ≡ Some (nested k)
unfolding widen
nested_widened zero k = refl
nested_widened (suc n) zero = refl
nested_widened (suc n) (suc k) = rw (nested_widened n k) refl

nested_projected : (n k : ℕ) → project (nest n) (nest n) (nested k) ≡ Some (nested k)
unfolding project
nested_projected zero k = refl
nested_projected (suc n) zero = refl
nested_projected (suc n) (suc k) = rw (nested_projected n k) refl

same_default : (n k : ℕ) → IsWidened (nest n) (nest n) (nested k) (nested k)
same_default n k = record { there = λ m. nested_widened n k; same = λ x e m. some_is x (nested k) (sym e ∙ nested_widened n k); valid = nested_projected n k }
  where
    some_is : (x y : Value) → ◌≡◌ {A = Option Value} (Some x) (Some y) → x ≡ y
    some_is x y e = cc

pub longer_is_newer : NewerType longer_keyed keyed
longer_is_newer zero = unchanged tt
longer_is_newer (suc n) = newer_sequence (also tt (unchanged tt) (also (same_default n 199) (nest_newer n) no_more)) more_parts

pub flagged_is_newer : NewerType deeply_flagged flagged
flagged_is_newer zero = unchanged tt
flagged_is_newer (suc n) = newer_sequence (also tt (unchanged tt) no_more) more_parts

-- k with a superfluous octet, and d left out
keyed_parts : ℕ → Parts
keyed_parts n = numbered 0 ((required, integer) ∷ (default (nested 199), nest n) ∷ [])

keyed_slots : List (Option Value)
keyed_slots = Some (whole (pos 5)) ∷ Some (nested 199) ∷ []

keyed_root : (n : ℕ) → Within ((just [] ▹ (just (false ∷ []) ▹ just [])) ▹ (unconstrained_octets uper.variant (0 ∷ 5 ∷ []) ▹ (just [] ▹ just []))) (Root (rules uper (keyed_parts n)) keyed_slots)
unfolding basic_in canon keyed_parts keyed_slots
keyed_root n = as_root (rules uper (keyed_parts n)) keyed_slots (true ∷ false ∷ []) (then_within (when_within refl (just_within [])) (then_within (just_within (false ∷ [])) (just_within [])))
    (then_within (relax (λ p b x. record { held = whole (pos 5); is = refl; spelled = record { of = pos 5; is = refl; spelled = record { in_range = refl; spelled = record { within = refl; spelled = record { octets = 0 ∷ 5 ∷ []; some = lit< tt; means = refl; spelled = x } } } } })
    (octets_within uper (0 ∷ 5 ∷ []))) (then_within (when_within refl (just_within [])) (just_within [])))

pub keyed_read : (n : ℕ) → fills uper (keyed (suc n)) (extended (whole (pos 5) ∷ nested 199 ∷ []) []) (0x00 ∷ 0x80 ∷ 0x01 ∷ 0x40 ∷ [])
unfolding basic_in canon keyed_parts keyed_slots
keyed_read n = filled uper
    (as_record uper (keyed_parts n) no_parts true keyed_slots [] (left_within (then_within (just_within (false ∷ [])) (then_within (keyed_root n) (just_within [])))))
    26 (0x00 ∷ 0x80 ∷ 0x01 ∷ 0x40 ∷ []) refl (lit< tt) (lit< tt) tt

pub longer_read : (n : ℕ) → fills uper (longer_keyed (suc n)) (extended (whole (pos 5) ∷ nested 199 ∷ []) (None ∷ [])) (0x00 ∷ 0x80 ∷ 0x01 ∷ 0x40 ∷ [])
unfolding basic_in canon keyed_parts keyed_slots
longer_read n = filled uper
    (as_record uper (keyed_parts n) (numbered 2 ((optional, Schema.boolean) ∷ [])) true keyed_slots (None ∷ []) (left_within (then_within (just_within (false ∷ [])) (then_within (keyed_root n) (when_within refl (just_within []))))))
    26 (0x00 ∷ 0x80 ∷ 0x01 ∷ 0x40 ∷ []) refl (lit< tt) (lit< tt) tt

-- a, and a bitmap without a one
flag_parts : Parts
flag_parts = numbered 0 ((required, Schema.boolean) ∷ [])

flag_root : (u : Bool) → Within ((just [] ▹ just []) ▹ (canon uper.variant Schema.boolean (truth true) ▹ just [])) (Root (rules_in uper u flag_parts) (Some (truth true) ∷ []))
unfolding basic_in flag_parts
flag_root u = as_root (rules_in uper u flag_parts) (Some (truth true) ∷ []) (true ∷ []) (then_within (when_within refl (just_within [])) (just_within []))
    (then_within (in_place uper Schema.boolean (truth true)) (just_within []))

pub flagged_read : (n : ℕ) → fills_known uper (flagged (suc n)) (extended (truth true ∷ []) []) (0xc0 ∷ 0x00 ∷ [])
unfolding basic_in canon flag_parts
flagged_read n = filled uper
    (relax (λ p b x. record { of = (Some (truth true) ∷ [], []); is = refl; spelled = inr (record { flags = false ∷ []; spelled = x }) })
    (then_within (just_within (true ∷ [])) (then_within (flag_root false) (then_within (few uper (false ∷ []) (lit< tt) (lit< tt)) (just_within [])))))
    10 (0xc0 ∷ 0x00 ∷ []) refl (lit< tt) (lit< tt) tt

pub deeply_flagged_read : (n : ℕ) → fills uper (deeply_flagged (suc n)) (extended (truth true ∷ []) (Some (nested 199) ∷ [])) (0xc0 ∷ 0x00 ∷ [])
unfolding basic_in canon flag_parts
deeply_flagged_read n =
    let adds = numbered 1 ((default (nested 199), nest n) ∷ []) in
    filled uper
    (as_record uper flag_parts adds true (Some (truth true) ∷ []) (Some (nested 199) ∷ [])
    (with_bitmap uper (rules uper flag_parts) (rules uper adds) (Some (truth true) ∷ []) (Some (nested 199) ∷ []) (false ∷ []) (lit< tt) (lit< tt) (flag_root true) (when_within refl (just_within []))))
    10 (0xc0 ∷ 0x00 ∷ []) refl (lit< tt) (lit< tt) tt
