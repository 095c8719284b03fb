-- What is widened along trees that are cut off is so along deeper ones, and back, where the widened value meets no Cut.
use Rattle.std.proofs.Common.{◌≡◌, sym, ap, ◌∙◌, subst, ℕ, zero, suc, Bool, false, ◌||◌, ◌⊎◌, inl, inr, List, [], ◌∷◌, Option, Some, None}
use Rattle.rasn_types.specs.Values.{Value, elements, bag, bag_of, fields, alternative, root, added, as_values, as_slots, values, slots}
use Rattle.rasn_types.proofs.Values.{slots-as_slots, values-as_values}
use Rattle.rasn_schema.specs.Depth.{meets_cut, slots_meet_cut, meets_cut_at, in_slots, in_elements, in_fields, in_alternative, any_of, CutOf, CutParts, alike, cut_containing, cut_list, cut_set_of, cut_sequence, cut_choice, no_cut, cut_part}
use Rattle.rasn_schema.specs.Schemas.{Schema, Parts}
use Rattle.rasn_types.specs.AllOf.{joined, all_of}
use Rattle.per_core.specs.Versions.{widen, widen_slots, widen_at, slot_through, slots_through, through_elements, through_bag, through_fields, through_alternative, made, made_both, IsPlain}
use Rattle.rasn_schema.proofs.Bags.{joined_of}
use Rattle.per_core.proofs.LengthForms.{or_left, or_right}
use Rattle.per_core.proofs.Readings.{some_same}
use Rattle.per_laws.proofs.OlderReadings.{plain_cut, same_filled}
use Rattle.per_laws.proofs.Older.{made_of, made_both_of, slot_some}
use Rattle.per_laws.proofs.Transitive.{Slotted, in_bag, into_slot, slot_apart, slot_test, some_l, some_o}
use Rattle.per_laws.specs.Successors.{Succeeds, SucceedsParts, succeeds_itself, succeeds_items, succeeds_containing, succeeds_list, succeeds_set_of, succeeds_sequence, succeeds_choice, none_succeed, added_parts, succeeds_part}

-- what the first function makes, and meets no Cut, the second one makes too
abbrev pub Makes : {X : Type 0} → (X → Option X) → (X → Option X) → (X → Bool) → Type 0
Makes {X} f g K = (v w : X) → f v ≡ Some w → K w ≡ false → g v ≡ Some w

all_make : (f g : Value → Option Value) (K : Value → Bool) → Makes f g K → Makes (all_of f) (all_of g) (any_of K)
all_make f g K r [] ws e m = e
all_make f g K r (v ∷ vs) ws e m =
    let q = joined_of (f v) (all_of f vs) ws e in
    let m' : (K q.0 || any_of K q.1) ≡ false = subst (λ l. any_of K l ≡ false) q.4 m in
    ap (λ o. joined o (all_of g vs)) (r v q.0 q.2 (or_left (K q.0) (any_of K q.1) m')) ∙ ap (joined (Some q.0)) (all_make f g K r vs q.1 q.3 (or_right (K q.0) (any_of K q.1) m')) ∙ ap some_l (sym q.4)
  where
    some_l : List Value → Option (List Value)
    some_l l = Some l

elements_make : (f g : Value → Option Value) (K : Value → Bool) → Makes f g K → Makes (through_elements f) (through_elements g) (in_elements K)
elements_make f g K r (elements vs) w e m =
    let q = made_of (λ ws. elements (as_values ws)) (all_of f (values vs)) w e in
    ap (made (λ ws. elements (as_values ws))) (all_make f g K r (values vs) q.0 q.1 (subst (λ l. any_of K l ≡ false) (values-as_values q.0) (subst (λ z. in_elements K z ≡ false) q.2 m))) ∙ some_same (sym q.2)
elements_make f g K r _ w e m = absurd (cc)

bags_make : (f g : Value → Option Value) (K : Value → Bool) → Makes f g K → Makes (through_bag f) (through_bag g) (in_elements K)
bags_make f g K r (bag vs) w e m =
    let q = made_of bag_of (all_of f (values vs)) w e in
    ap (made bag_of) (all_make f g K r (values vs) q.0 q.1 (in_bag K q.0 (subst (λ z. in_elements K z ≡ false) q.2 m))) ∙ some_same (sym q.2)
bags_make f g K r _ w e m = absurd (cc)

fields_make : (F G : Slotted) (K : List (Option Value) → Bool) (F' G' : Slotted) (L : List (Option Value) → Bool) → Makes F G K → Makes F' G' L → Makes (through_fields F F') (through_fields G G') (in_fields K L)
fields_make F G K F' G' L r r' (fields a b) w e m =
    let q = made_both_of (F (slots a)) (F' (slots b)) w e in
    let m' : (K (slots (as_slots q.0)) || L (slots (as_slots q.1))) ≡ false = subst (λ z. in_fields K L z ≡ false) q.4 m in
    ap (λ o. made_both o (G' (slots b))) (r (slots a) q.0 q.2 (subst (λ l. K l ≡ false) (slots-as_slots q.0) (or_left (K (slots (as_slots q.0))) (L (slots (as_slots q.1))) m')))
    ∙ ap (made_both (Some q.0)) (r' (slots b) q.1 q.3 (subst (λ l. L l ≡ false) (slots-as_slots q.1) (or_right (K (slots (as_slots q.0))) (L (slots (as_slots q.1))) m'))) ∙ some_same (sym q.4)
fields_make F G K F' G' L r r' _ w e m = absurd (cc)

alternative_make : (F G : ℕ → Value → Option Value) (K : ℕ → Value → Bool) (F' G' : ℕ → Value → Option Value) (L : ℕ → Value → Bool) →
    ((i : ℕ) → Makes (F i) (G i) (K i)) → ((i : ℕ) → Makes (F' i) (G' i) (L i)) → Makes (through_alternative F F') (through_alternative G G') (in_alternative K L)
alternative_make F G K F' G' L r r' (alternative root i v) w e m =
    let q = made_of (alternative root i) (F i v) w e in ap (made (alternative root i)) (r i v q.0 q.1 (subst (λ z. in_alternative K L z ≡ false) q.2 m)) ∙ some_same (sym q.2)
alternative_make F G K F' G' L r r' (alternative added i v) w e m =
    let q = made_of (alternative added i) (F' i v) w e in ap (made (alternative added i)) (r' i v q.0 q.1 (subst (λ z. in_alternative K L z ≡ false) q.2 m)) ∙ some_same (sym q.2)
alternative_make F G K F' G' L r r' _ w e m = absurd (cc)

slot_make : (f g : Value → Option Value) (K : Value → Bool) → Makes f g K → (x y : Option Value) → slot_through f x ≡ Some y → slot_test K y ≡ false → slot_through g x ≡ Some y
slot_make f g K r None y e m = e
slot_make f g K r (Some v) y e m =
    let q = slot_some f v y e in
    into_slot g v q.0 (r v q.0 q.1 (subst (λ z. slot_test K z ≡ false) q.2 m)) ∙ some_o (sym q.2)

slots_make : (f g : Value → Option Value) (K : Value → Bool) (F G : Slotted) (L : List (Option Value) → Bool) → Makes f g K → Makes F G L → Makes (slots_through f F) (slots_through g G) (in_slots K L)
slots_make f g K F G L r rs [] w e m = absurd (cc)
slots_make f g K F G L r rs (x ∷ xs) w e m =
    let q = joined_of (slot_through f x) (F xs) w e in
    let c = slot_apart K L q.0 q.1 (subst (λ l. in_slots K L l ≡ false) q.4 m) in
    ap (λ o. joined o (G xs)) (slot_make f g K r x q.0 q.2 c.0) ∙ ap (joined (Some q.0)) (rs xs q.1 q.3 c.1) ∙ some_l (sym q.4)

pub cut_meets : (s : Schema) → s ≡ Schema.cut → (v : Value) → meets_cut s v ≡ false → ⊥
unfolding meets_cut
cut_meets s e v m = let k : meets_cut Schema.cut v ≡ false = subst (λ z. meets_cut z v ≡ false) e m in cc

abbrev Both : (f g : Value → Option Value) → (Value → Bool) → Type 0
Both f g K = Makes f g K × Makes g f K

plain_both : {s t' t : Schema} → IsPlain s → CutOf s t' → CutOf s t → Both (widen s s) (widen t' t) (meets_cut s)
plain_both {s} {t'} {t} h c d = go (plain_cut h c) (plain_cut h d)
  where
    go : (s ≡ Schema.cut) ⊎ (t' ≡ s) → (s ≡ Schema.cut) ⊎ (t ≡ s) → Both (widen s s) (widen t' t) (meets_cut s)
    go (inl k) l = (λ v w e m. absurd (cut_meets s k w m), λ v w e m. absurd (cut_meets s k w m))
    go (inr k) (inl l) = (λ v w e m. absurd (cut_meets s l w m), λ v w e m. absurd (cut_meets s l w m))
    go (inr k) (inr l) = subst (λ z. Both (widen s s) (widen z t) (meets_cut s)) (sym k) (subst (λ z. Both (widen s s) (widen s z) (meets_cut s)) (sym l) (λ v w e m. e, λ v w e m. e))

mutual
  unfolding widen meets_cut

  widen_both : {s' s t' t : Schema} → Succeeds s' s → CutOf s' t' → CutOf s t → Both (widen s' s) (widen t' t) (meets_cut s')
  widen_both (succeeds_itself h) c d = plain_both h c d
  widen_both (succeeds_items h) (alike i) (alike j) = (λ v w e m. e, λ v w e m. e)
  widen_both (succeeds_containing n) (alike i) d = absurd i
  widen_both (succeeds_containing n) (cut_containing c) (alike i) = absurd i
  widen_both (succeeds_containing n) (cut_containing c) (cut_containing d) = widen_both n c d
  widen_both (succeeds_list n) (alike i) d = absurd i
  widen_both (succeeds_list n) (cut_list c) (alike i) = absurd i
  widen_both (succeeds_list {e = e0} {e' = e1} n) (cut_list {t = f1} c) (cut_list {t = f0} d) =
      let r = widen_both n c d in (elements_make (widen e1 e0) (widen f1 f0) (meets_cut e1) r.0, elements_make (widen f1 f0) (widen e1 e0) (meets_cut e1) r.1)
  widen_both (succeeds_set_of n) (alike i) d = absurd i
  widen_both (succeeds_set_of n) (cut_set_of c) (alike i) = absurd i
  widen_both (succeeds_set_of {e = e0} {e' = e1} n) (cut_set_of {t = f1} c) (cut_set_of {t = f0} d) =
      let r = widen_both n c d in (bags_make (widen e1 e0) (widen f1 f0) (meets_cut e1) r.0, bags_make (widen f1 f0) (widen e1 e0) (meets_cut e1) r.1)
  widen_both (succeeds_sequence n ns) (alike i) d = absurd i
  widen_both (succeeds_sequence n ns) (cut_sequence c cs) (alike i) = absurd i
  widen_both (succeeds_sequence {ps = ps} {ps' = ps'} {adds = adds} {adds' = adds'} n ns) (cut_sequence {qs = qs'} {bdds = bdds'} c cs) (cut_sequence {qs = qs} {bdds = bdds} d ds) =
      let r = slots_both n c d in
      let q = slots_both ns cs ds in (
        fields_make (widen_slots ps' ps) (widen_slots qs' qs) (slots_meet_cut ps') (widen_slots adds' adds) (widen_slots bdds' bdds) (slots_meet_cut adds') r.0 q.0,
        fields_make (widen_slots qs' qs) (widen_slots ps' ps) (slots_meet_cut ps') (widen_slots bdds' bdds) (widen_slots adds' adds) (slots_meet_cut adds') r.1 q.1,
      )
  widen_both (succeeds_choice n ns) (alike i) d = absurd i
  widen_both (succeeds_choice n ns) (cut_choice c cs) (alike i) = absurd i
  widen_both (succeeds_choice {ps = ps} {ps' = ps'} {adds = adds} {adds' = adds'} n ns) (cut_choice {qs = qs'} {bdds = bdds'} c cs) (cut_choice {qs = qs} {bdds = bdds} d ds) = (
    alternative_make (widen_at ps' ps) (widen_at qs' qs) (meets_cut_at ps') (widen_at adds' adds) (widen_at bdds' bdds) (meets_cut_at adds') (λ i. (at_both n c d i).0) (λ i. (at_both ns cs ds i).0),
    alternative_make (widen_at qs' qs) (widen_at ps' ps) (meets_cut_at ps') (widen_at bdds' bdds) (widen_at adds' adds) (meets_cut_at adds') (λ i. (at_both n c d i).1) (λ i. (at_both ns cs ds i).1),
  )

  slots_both : {may : Bool} {ps' ps qs' qs : Parts} → SucceedsParts may ps' ps → CutParts ps' qs' → CutParts ps qs →
      Makes (widen_slots ps' ps) (widen_slots qs' qs) (slots_meet_cut ps') × Makes (widen_slots qs' qs) (widen_slots ps' ps) (slots_meet_cut ps')
  slots_both none_succeed no_cut no_cut = (λ v w e m. e, λ v w e m. e)
  slots_both added_parts (cut_part {t = t} {p = p} c cs) no_cut = let r = same_filled (cut_part {t = t} {p = p} c cs) in (λ v w e m. sym r ∙ e, λ v w e m. r ∙ e)
  slots_both (succeeds_part {s = s} {s' = s'} {ps = ps} {ps' = ps'} h n ns) (cut_part {s' = r'} {ps' = qs'} c cs) (cut_part {s' = r} {ps' = qs} d ds) =
      let i = widen_both n c d in
      let j = slots_both ns cs ds in (
        slots_make (widen s' s) (widen r' r) (meets_cut s') (widen_slots ps' ps) (widen_slots qs' qs) (slots_meet_cut ps') i.0 j.0,
        slots_make (widen r' r) (widen s' s) (meets_cut s') (widen_slots qs' qs) (widen_slots ps' ps) (slots_meet_cut ps') i.1 j.1,
      )

  at_both : {may : Bool} {ps' ps qs' qs : Parts} → SucceedsParts may ps' ps → CutParts ps' qs' → CutParts ps qs → (i : ℕ) → Both (widen_at ps' ps i) (widen_at qs' qs i) (meets_cut_at ps' i)
  at_both none_succeed no_cut no_cut i = (λ v w e m. e, λ v w e m. e)
  at_both added_parts (cut_part c cs) no_cut i = (λ v w e m. e, λ v w e m. e)
  at_both (succeeds_part h n ns) (cut_part c cs) (cut_part d ds) zero = widen_both n c d
  at_both (succeeds_part h n ns) (cut_part c cs) (cut_part d ds) (suc i) = at_both ns cs ds i

pub wider : {s' s t' t : Schema} → Succeeds s' s → CutOf s' t' → CutOf s t → Makes (widen s' s) (widen t' t) (meets_cut s')
wider n c d = (widen_both n c d).0

pub narrower : {s' s t' t : Schema} → Succeeds s' s → CutOf s' t' → CutOf s t → Makes (widen t' t) (widen s' s) (meets_cut s')
narrower n c d = (widen_both n c d).1
