-- No fault is in an addition group that holds nothing (ITU-T X.691, 19.9), and no member shows one.
use Rattle.std.specs.Prelude.{◌≡◌, Bool, true, false, ◌&&◌, not, List, [], ◌∷◌, Option, Some, refl}
use Rattle.std.proofs.Common.{◌∙◌, ap, sym}
use Rattle.rasn_types.specs.Values.{Value, same}
use Rattle.rasn_types.proofs.Values.{slots-as_slots}
use Rattle.rasn_schema.specs.Lawful.{is_group_schema}
use Rattle.rasn_schema.specs.Normal.{are_idle, is_idle, is_vacant}
use Rattle.rasn_schema.specs.Schemas.{Schema, Parts, no_parts, part, Presence, required, optional, group, default}
use Rattle.rasn_traits.specs.Additions.{addition_bit}
use Rattle.rasn_jer.specs.Rules.{fault_of}
use Rattle.rasn_jer.specs.Shown.{HasNoJson, is_real, is_absent, is_untimely, is_no_text, IsNull, is_null}
use Rattle.rasn_jer.specs.Shown.{HasPart, part_here, part_after, StandsIn, at_once, in_part, in_addition, in_set}
use Rattle.rasn_jer.specs.Shown.{in_element, in_member, in_contents, in_alternative}
use Rattle.rasn_jer.specs.declared.error.EncodeError.{EncodeError}
use Rattle.rasn_jer.specs.declared.error.EncodeError.TheVariants.{AlreadyFailed, NoJson, OutOfMemory, OutOfTurn}
use Rattle.rasn_jer.specs.declared.error.EncodeError.TheVariants.{VariantNotInChoice}

-- a part that is written isn't idle
pub written_busy : (q : Presence) (v : Value) → addition_bit q (Some v) ≡ Some true → is_idle q (Some v) ≡ false
unfolding is_idle
written_busy required v e = refl
written_busy optional v e = refl
written_busy group v e = refl
written_busy (default d) v e = busy (same v d) e
  where
    busy : (b : Bool) → Some (not b) ≡ Some true → b ≡ false
    busy true e = absurd cc
    busy false e = refl

and_nothing : (x : Bool) → (x && false) ≡ false
and_nothing true = refl
and_nothing false = refl

part_busy : (s : Schema) (v : Value) (ps : Parts) (rs : List (Option Value)) → HasPart s v ps rs
    → are_idle ps rs ≡ false
unfolding are_idle
part_busy s v no_parts rs h = elim h [ ]
part_busy s v (part t q c ps) [] h = elim h [ ]
part_busy s v (part t q c ps) (r ∷ rs) (part_after h) = ap (λ (b : Bool). is_idle q r && b)
    (part_busy s v ps rs h) ∙ and_nothing (is_idle q r)
part_busy s v (part t q c ps) (Some w ∷ rs) (part_here e) = ap (λ (b : Bool). b && are_idle ps rs) (written_busy q w e)

no_json : (s : Schema) (v : Value) → is_group_schema s ≡ true → is_vacant s v ≡ true → HasNoJson s v → ⊥
unfolding is_vacant
no_json s v g i is_real = absurd cc
no_json s v g i is_absent = absurd cc
no_json s v g i (is_untimely h) = absurd cc
no_json s v g i (is_no_text h) = absurd cc

no_null : (s : Schema) (v : Value) → is_group_schema s ≡ true → IsNull s v → ⊥
no_null s v g is_null = absurd cc

no_fault : (e : EncodeError) (s : Schema) (v : Value) → is_group_schema s ≡ true → is_vacant s v ≡ true
    → fault_of e s v → ⊥
no_fault NoJson s v g i h = no_json s v g i h
no_fault OutOfMemory s v g i h = no_null s v g h
no_fault OutOfTurn s v g i h = h
no_fault AlreadyFailed s v g i h = h
no_fault VariantNotInChoice s v g i h = h

pub none_in_vacant : (e : EncodeError) (s : Schema) (v : Value) → is_group_schema s ≡ true → is_vacant s v ≡ true
    → StandsIn (fault_of e) s v → ⊥
unfolding is_vacant
none_in_vacant e s v g i (at_once h) = no_fault e s v g i h
none_in_vacant e s v g i (in_part {ps = ps} {qs = qs} {rs = rs} xs h k) =
    let b : are_idle ps rs ≡ false = part_busy _ _ ps rs h in
    let e : (are_idle ps rs && are_idle qs xs) ≡ true = (rw (slots-as_slots rs, slots-as_slots xs) at i) in
    absurd (let t : (false && are_idle qs xs) ≡ true = ap (λ (c : Bool). c && are_idle qs xs) (sym b) ∙ e in cc)
none_in_vacant e s v g i (in_addition {ps = ps} {qs = qs} {xs = xs} rs h k) =
    let b : are_idle qs xs ≡ false = part_busy _ _ qs xs h in
    let e : (are_idle ps rs && are_idle qs xs) ≡ true = (rw (slots-as_slots rs, slots-as_slots xs) at i) in
    absurd (let t : false ≡ true = sym (and_nothing (are_idle ps rs)) ∙ ap (λ (c : Bool). are_idle ps rs && c)
    (sym b) ∙ e in cc)
none_in_vacant e s v g i (in_element h k) = absurd cc
none_in_vacant e s v g i (in_member h k) = absurd cc
none_in_vacant e s v g i (in_set rs xs k) = absurd cc
none_in_vacant e s v g i (in_contents k) = absurd cc
none_in_vacant e s v g i (in_alternative h k) = absurd cc
