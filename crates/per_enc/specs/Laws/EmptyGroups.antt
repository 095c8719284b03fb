-- No fault is in an addition group that holds nothing (ITU-T X.691, 19.9).
use Rattle.std.specs.Prelude.{◌≡◌, ℕ, Bool, true, false, ◌&&◌, not, List, [], ◌∷◌, Option, Some, None, ℤ, refl}
use Rattle.std.proofs.Common.{◌∙◌, ap, ap₂, sym, subst}
use Rattle.rasn_types.specs.Values.{Value, Slots, absent, fields, no_slots, same, slots, there}
use Rattle.rasn_types.proofs.Values.{slots-as_slots}
use Rattle.rasn_schema.specs.Structures.{no_value, all_may_be, may_be}
use Rattle.rasn_schema.specs.Lawful.{is_group_schema}
use Rattle.rasn_schema.specs.Normal.{are_idle, is_idle, is_vacant}
use Rattle.rasn_schema.specs.Schemas.{Schema, Parts, no_parts, part, Presence, required, optional, group, default}
use Rattle.rasn_schema.specs.Schemas.{by_tag, listed}
use Rattle.per_core.specs.Canon.{shown}
use Rattle.rasn_constraints.specs.Bounds.{value_of, lower_of, upper_of}
use Rattle.per_core.specs.declared.encode_error.EncodeErrorKind.{EncodeErrorKind}
use Rattle.per_core.specs.declared.encode_error.EncodeErrorKind.TheVariants.{SizeConstraintNotSatisfied}
use Rattle.per_core.specs.declared.encode_error.EncodeErrorKind.TheVariants.{ValueConstraintNotSatisfied}
use Rattle.per_core.specs.declared.encode_error.EncodeErrorKind.TheVariants.{AlphabetConstraintNotSatisfied}
use Rattle.per_core.specs.declared.encode_error.EncodeErrorKind.TheVariants.{IntegerTypeConversionFailed}
use Rattle.per_core.specs.declared.encode_error.EncodeErrorKind.TheVariants.{VariantNotInChoice, RealNotSupported}
use Rattle.per_core.specs.declared.encode_error.EncodeErrorKind.TheVariants.{TooManyAdditions, Below, AlreadyFailed}
use Rattle.per_core.specs.declared.encode_error.EncodeErrorKind.TheVariants.{OutOfMemory, OutOfTurn, WrongKind}
use Rattle.per_core.specs.WritingFaults.{HasPart, part_here, part_after, StandsIn, at_once, in_part, in_addition}
use Rattle.per_core.specs.WritingFaults.{in_element, in_member, in_alternative, in_contents, in_set, IsAbsent}
use Rattle.per_core.specs.WritingFaults.{IsForeign, IsOther, IsOutOfBounds, IsOutOfSize, IsPastBounds, IsReal}
use Rattle.per_core.specs.WritingFaults.{IsUnlawful}
use Rattle.per_write.specs.Faults.{Stands}
use Rattle.per_write.specs.WriterState.{WriterState}

-- a part that is written isn't idle
written_busy : (q : Presence) (v : Value) → shown q (Some v) ≡ Some true → is_idle q (Some v) ≡ false
unfolding shown is_idle
written_busy required v e = refl
written_busy optional v e = refl
written_busy group v e = refl
written_busy (default d) v e = busy (same v d) e
  where
    busy : (b : Bool) → Some (not b) ≡ Some true → b ≡ false
    busy true e = absurd cc
    busy false e = refl

and_nothing : (x : Bool) → (x && false) ≡ false
and_nothing true = refl
and_nothing false = refl

part_busy : (s : Schema) (v : Value) (ps : Parts) (rs : List (Option Value)) → HasPart s v ps rs
    → are_idle ps rs ≡ false
unfolding are_idle
part_busy s v no_parts rs h = elim h [ ]
part_busy s v (part t q c ps) [] h = elim h [ ]
part_busy s v (part t q c ps) (r ∷ rs) (part_after h) = ap (λ (b : Bool). is_idle q r && b)
    (part_busy s v ps rs h) ∙ and_nothing (is_idle q r)
part_busy s v (part t q c ps) (Some w ∷ rs) (part_here e) = ap (λ (b : Bool). b && are_idle ps rs) (written_busy q w e)

-- of faults that are in no group that holds nothing
none_stands : (fault : Schema → Value → Type 0)
    → ((s : Schema) (v : Value) → is_group_schema s ≡ true → is_vacant s v ≡ true → fault s v → ⊥) → (s : Schema)
    (v : Value) → is_group_schema s ≡ true → is_vacant s v ≡ true → StandsIn fault s v → ⊥
unfolding is_vacant
none_stands fault f s v g i (at_once h) = f s v g i h
none_stands fault f s v g i (in_part {ps = ps} {qs = qs} {rs = rs} xs h k) =
    let b : are_idle ps rs ≡ false = part_busy _ _ ps rs h in
    let e : (are_idle ps rs && are_idle qs xs) ≡ true = (rw (slots-as_slots rs, slots-as_slots xs) at i) in
    absurd (let t : (false && are_idle qs xs) ≡ true = ap (λ (c : Bool). c && are_idle qs xs) (sym b) ∙ e in cc)
none_stands fault f s v g i (in_addition {ps = ps} {qs = qs} {xs = xs} rs h k) =
    let b : are_idle qs xs ≡ false = part_busy _ _ qs xs h in
    let e : (are_idle ps rs && are_idle qs xs) ≡ true = (rw (slots-as_slots rs, slots-as_slots xs) at i) in
    absurd (let t : false ≡ true = sym (and_nothing (are_idle ps rs)) ∙ ap (λ (c : Bool). are_idle ps rs && c)
    (sym b) ∙ e in cc)
none_stands fault f s v g i (in_element h k) = absurd cc
none_stands fault f s v g i (in_member h k) = absurd cc
none_stands fault f s v g i (in_set rs xs k) = absurd cc
none_stands fault f s v g i (in_contents k) = absurd cc
none_stands fault f s v g i (in_alternative h k) = absurd cc

no_size : (n : ℕ) (l u : Option ℕ) (s : Schema) (v : Value) → is_group_schema s ≡ true → IsOutOfSize n l u s v → ⊥
no_size n l u (Schema.sequence o ps m qs) v g h = h
no_size n l u Schema.cut v g h = h
no_size n l u _ v g h = absurd cc

no_bounds : (n l u : Option ℤ) (s : Schema) (v : Value) → is_group_schema s ≡ true → IsOutOfBounds n l u s v → ⊥
no_bounds n l u (Schema.sequence o ps m qs) v g h = h
no_bounds n l u Schema.cut v g h = h
no_bounds n l u _ v g h = absurd cc

no_past : (s : Schema) (v : Value) → is_group_schema s ≡ true → IsPastBounds s v → ⊥
no_past (Schema.sequence o ps m qs) v g h = h
no_past Schema.cut v g h = h
no_past _ v g h = absurd cc

no_foreign : (s : Schema) (v : Value) → is_group_schema s ≡ true → IsForeign s v → ⊥
no_foreign (Schema.sequence o ps m qs) v g h = h
no_foreign Schema.cut v g h = h
no_foreign _ v g h = absurd cc

no_real : (s : Schema) (v : Value) → is_group_schema s ≡ true → IsReal s v → ⊥
no_real (Schema.sequence o ps m qs) v g h = h
no_real Schema.cut v g h = h
no_real _ v g h = absurd cc

no_unlawful : (s : Schema) (v : Value) → is_group_schema s ≡ true → IsUnlawful s v → ⊥
no_unlawful (Schema.sequence o ps m qs) v g h = h
no_unlawful Schema.cut v g h = h
no_unlawful _ v g h = absurd cc

-- X.680 25.6: a group that holds nothing is there
no_absent : (s : Schema) (v : Value) → is_group_schema s ≡ true → is_vacant s v ≡ true → IsAbsent s v → ⊥
unfolding is_vacant
no_absent s v g i h = let t : is_vacant s no_value ≡ true = subst (λ w. is_vacant s w ≡ true) h i in absurd cc

-- an idle part may be as it is
idle_may_be : (q : Presence) (r : Option Value) → is_idle q r ≡ true → may_be q r ≡ true
unfolding is_idle
idle_may_be required None h = absurd cc
idle_may_be required (Some v) h = refl
idle_may_be optional None h = refl
idle_may_be optional (Some v) h = refl
idle_may_be group None h = refl
idle_may_be group (Some v) h = refl
idle_may_be (default d) None h = refl
idle_may_be (default d) (Some v) h = refl

both_true : (b c : Bool) → (b && c) ≡ true → (b ≡ true) × (c ≡ true)
both_true true c h = (refl, h)
both_true false c h = absurd cc

idle_may_all_be : (ps : Parts) (rs : List (Option Value)) → are_idle ps rs ≡ true → all_may_be ps rs ≡ true
unfolding are_idle
idle_may_all_be no_parts [] h = refl
idle_may_all_be no_parts (r ∷ rs) h = absurd cc
idle_may_all_be (part t q s ps) [] h = absurd cc
idle_may_all_be (part t q s ps) (r ∷ rs) h =
    let k = both_true (is_idle q r) (are_idle ps rs) h in
    ap (λ (b : Bool). b && all_may_be ps rs) (idle_may_be q r k.0) ∙ idle_may_all_be ps rs k.1

-- a record without parts, where a tree is cut off
none_idle : (r : Slots) → are_idle no_parts (slots r) ≡ true → r ≡ no_slots
unfolding are_idle
none_idle no_slots h = refl
none_idle (absent r) h = absurd cc
none_idle (there v r) h = absurd cc

no_other : (s : Schema) (v : Value) → is_group_schema s ≡ true → is_vacant s v ≡ true → IsOther s v → ⊥
unfolding is_vacant
no_other (Schema.sequence listed ps m qs) (fields r x) g i h =
    let k = both_true (are_idle ps (slots r)) (are_idle qs (slots x)) i in
    let a = sym (idle_may_all_be ps (slots r) k.0) in
    let b = sym (idle_may_all_be qs (slots x) k.1) in
    absurd (let e : (true && true) ≡ false = ap₂ (λ (c d : Bool). c && d) a b ∙ h in cc)
no_other (Schema.sequence listed ps m qs) _ g i h = absurd cc
no_other (Schema.sequence by_tag ps m qs) v g i h = absurd cc
no_other Schema.cut (fields r x) g i h =
    let k = both_true (are_idle no_parts (slots r)) (are_idle no_parts (slots x)) i in
    let a = subst (λ z. IsOther Schema.cut (fields z x)) (none_idle r k.0) h in
    let b = subst (λ z. IsOther Schema.cut (fields no_slots z)) (none_idle x k.1) a in
    absurd (let e : IsOther Schema.cut (fields no_slots no_slots) = b in cc)
no_other Schema.cut _ g i h = absurd cc
no_other _ v g i h = absurd cc

pub none_in_vacant : (kind : EncodeErrorKind) (x : WriterState) (s : Schema) (v : Value) → x.failed ≡ false
    → is_group_schema s ≡ true → is_vacant s v ≡ true → Stands kind x s v → ⊥
none_in_vacant (SizeConstraintNotSatisfied told) x s v f g i h =
    none_stands (IsOutOfSize told.size told.lower told.upper)
    (λ t w k _. no_size told.size told.lower told.upper t w k) s v g i h
none_in_vacant (ValueConstraintNotSatisfied told) x s v f g i h =
    none_stands (IsOutOfBounds (value_of told) (lower_of told) (upper_of told))
    (λ t w k _. no_bounds (value_of told) (lower_of told) (upper_of told) t w k) s v g i h
none_in_vacant AlphabetConstraintNotSatisfied x s v f g i h = none_stands IsForeign
    (λ t w k _. no_foreign t w k) s v g i h
none_in_vacant IntegerTypeConversionFailed x s v f g i h = none_stands IsPastBounds
    (λ t w k _. no_past t w k) s v g i h
none_in_vacant VariantNotInChoice x s v f g i h = h
none_in_vacant RealNotSupported x s v f g i h = none_stands IsReal
    (λ t w k _. no_real t w k) s v g i h
none_in_vacant TooManyAdditions x s v f g i h = h
none_in_vacant Below x s v f g i h = none_stands IsUnlawful
    (λ t w k _. no_unlawful t w k) s v g i h
none_in_vacant AlreadyFailed x s v f g i h = absurd cc
none_in_vacant OutOfMemory x s v f g i h = h
none_in_vacant OutOfTurn x s v f g i h = none_stands IsAbsent no_absent s v g i h
none_in_vacant WrongKind x s v f g i h = none_stands IsOther no_other s v g i h
