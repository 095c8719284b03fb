-- Chains of versions: projecting in two steps is projecting at once.
use Rattle.std.proofs.Common.{◌≡◌, refl, sym, ap, ◌∙◌, ℕ, zero, suc, Bool, true, false, cond, ltb, List, [], ◌∷◌, Option, Some, None}
use Rattle.rasn_types.specs.Values.{Value, elements, bag, bag_of, fields, alternative, root, added, as_values, as_slots, values, slots}
use Rattle.rasn_types.proofs.Values.{slots-as_slots, values-as_values}
use Rattle.rasn_schema.specs.Schemas.{Schema, Parts}
use Rattle.rasn_types.specs.AllOf.{joined, all_of}
use Rattle.per_core.specs.Versions.{project, project_slots, project_at, slot_through, slots_through, through_elements, through_bag, through_fields, through_alternative, through_item, made, made_both, IsPlain, Newer, NewerParts, unchanged, more_items, newer_containing, newer_list, newer_set_of, newer_sequence, newer_choice, no_more, more_parts, also}
use Rattle.rasn_schema.proofs.Bags.{bag_source, bag_becomes, joined_of, sort}
use Rattle.per_laws.proofs.Older.{made_of, made_both_of, slot_some}
use Rattle.per_laws.proofs.Takes.{some_is}

unfoldable pub Steps : (f g h : Value → Option Value) → Type 0
Steps f g h = (v w : Value) → f v ≡ Some w → g w ≡ h v

unfoldable pub StepSlots : (F G H : List (Option Value) → Option (List (Option Value))) → Type 0
StepSlots F G H = (xs ys : List (Option Value)) → F xs ≡ Some ys → G ys ≡ H xs

unfoldable pub StepAt : (F G H : ℕ → Value → Option Value) → Type 0
StepAt F G H = (i : ℕ) (v w : Value) → F i v ≡ Some w → G i w ≡ H i v

pub all_steps : (f g h : Value → Option Value) → Steps f g h → (vs ws : List Value) → all_of f vs ≡ Some ws → all_of g ws ≡ all_of h vs
unfolding Steps
all_steps f g h r [] ws e = let i : [] ≡ ws = cc in ap (all_of g) (sym i)
all_steps f g h r (v ∷ vs) ws e =
    let q = joined_of (f v) (all_of f vs) ws e in
    ap (all_of g) q.4 ∙ ap (λ o. joined o (all_of g q.1)) (r v q.0 q.2) ∙ ap (joined (h v)) (all_steps f g h r vs q.1 q.3)

pub elements_steps : (f g h : Value → Option Value) → Steps f g h → Steps (through_elements f) (through_elements g) (through_elements h)
unfolding Steps
elements_steps f g h r (elements vs) w e =
    let q = made_of (λ ws. elements (as_values ws)) (all_of f (values vs)) w e in
    ap (through_elements g) q.2 ∙ ap (λ l. made (λ us. elements (as_values us)) (all_of g l)) (values-as_values q.0) ∙ ap (made (λ us. elements (as_values us))) (all_steps f g h r (values vs) q.0 q.1)
elements_steps f g h r _ w e = absurd (cc)

pub bag_through : (g : Value → Option Value) (us : List Value) → through_bag g (bag_of us) ≡ made bag_of (all_of g us)
unfolding bag_of sort
bag_through g us = ap (λ l. made bag_of (all_of g l)) (values-as_values (sort us)) ∙ go (all_of g us) (all_of g (sort us)) refl refl
  where
    go : (o q : Option (List Value)) → all_of g us ≡ o → all_of g (sort us) ≡ q → made bag_of q ≡ made bag_of o
    go None None e k = refl
    go (Some ws) q e k = let r = bag_becomes g us ws e in let i : q ≡ Some r.0 = sym k ∙ r.1 in ap (made bag_of) i ∙ ap some_v r.2
      where
        some_v : Value → Option Value
        some_v v = Some v
    go None (Some ws) e k = let r = bag_source g us ws k in let i : ◌≡◌ {A = Option (List Value)} None (Some r.0) = sym e ∙ r.1 in absurd (cc)

pub bags_steps : (f g h : Value → Option Value) → Steps f g h → Steps (through_bag f) (through_bag g) (through_bag h)
unfolding Steps
bags_steps f g h r (bag vs) w e =
    let q = made_of bag_of (all_of f (values vs)) w e in
    ap (through_bag g) q.2 ∙ bag_through g q.0 ∙ ap (made bag_of) (all_steps f g h r (values vs) q.0 q.1)
bags_steps f g h r _ w e = absurd (cc)

pub fields_steps : (F G H F' G' H' : List (Option Value) → Option (List (Option Value))) → StepSlots F G H → StepSlots F' G' H' → Steps (through_fields F F') (through_fields G G') (through_fields H H')
unfolding Steps StepSlots
fields_steps F G H F' G' H' r r' (fields a b) w e =
    let q = made_both_of (F (slots a)) (F' (slots b)) w e in
    ap (through_fields G G') q.4 ∙ ap (λ l. made_both (G l) (G' (slots (as_slots q.1)))) (slots-as_slots q.0) ∙ ap (λ l. made_both (G q.0) (G' l)) (slots-as_slots q.1)
    ∙ ap (λ o. made_both o (G' q.1)) (r (slots a) q.0 q.2) ∙ ap (made_both (H (slots a))) (r' (slots b) q.1 q.3)
fields_steps F G H F' G' H' r r' _ w e = absurd (cc)

pub alternative_steps : (F G H F' G' H' : ℕ → Value → Option Value) → StepAt F G H → StepAt F' G' H' → Steps (through_alternative F F') (through_alternative G G') (through_alternative H H')
unfolding Steps StepAt
alternative_steps F G H F' G' H' r r' (alternative root i v) w e =
    let q = made_of (alternative root i) (F i v) w e in ap (through_alternative G G') q.2 ∙ ap (made (alternative root i)) (r i v q.0 q.1)
alternative_steps F G H F' G' H' r r' (alternative added i v) w e =
    let q = made_of (alternative added i) (F' i v) w e in ap (through_alternative G G') q.2 ∙ ap (made (alternative added i)) (r' i v q.0 q.1)
alternative_steps F G H F' G' H' r r' _ w e = absurd (cc)

slot_steps : (f g h : Value → Option Value) → Steps f g h → (x y : Option Value) → slot_through f x ≡ Some y → slot_through g y ≡ slot_through h x
unfolding Steps
slot_steps f g h r None y e = let i : None ≡ y = cc in ap (slot_through g) (sym i)
slot_steps f g h r (Some v) y e =
    let q = slot_some f v y e in
    ap (slot_through g) q.2 ∙ ap (λ o. elim o [ None ↦ None | Some w ↦ Some (Some w) ]) (r v q.0 q.1)

pub slots_steps : (f g h : Value → Option Value) (F G H : List (Option Value) → Option (List (Option Value))) → Steps f g h → StepSlots F G H → StepSlots (slots_through f F) (slots_through g G) (slots_through h H)
unfolding StepSlots
slots_steps f g h F G H r rs [] ys e = absurd (cc)
slots_steps f g h F G H r rs (x ∷ xs) ys e =
    let q = joined_of (slot_through f x) (F xs) ys e in
    ap (slots_through g G) q.4 ∙ ap (λ o. joined o (G q.1)) (slot_steps f g h r x q.0 q.2) ∙ ap (λ o. joined (slot_through h x) o) (rs xs q.1 q.3)

pub at_steps : (f g h : Value → Option Value) (F G H : ℕ → Value → Option Value) → Steps f g h → StepAt F G H →
    StepAt (elim [ zero ↦ f | suc i ↦ F i ]) (elim [ zero ↦ g | suc i ↦ G i ]) (elim [ zero ↦ h | suc i ↦ H i ])
unfolding Steps StepAt
at_steps f g h F G H r rs zero v w e = r v w e
at_steps f g h F G H r rs (suc i) v w e = rs i v w e

-- an item is projected to itself
pub item_same : (n : ℕ) (v w : Value) → through_item n v ≡ Some w → w ≡ v
item_same n (Value.item root i) w e = sym (some_is (Value.item root i) w e)
item_same n (Value.item added i) w e = go (ltb i n) e
  where
    go : (t : Bool) → cond t (Some (Value.item added i)) None ≡ Some w → w ≡ Value.item added i
    go true e = sym (some_is (Value.item added i) w e)
    go false e = absurd (cc)
item_same n _ w e = absurd (cc)

plain_same : (s : Schema) → IsPlain s → (v w : Value) → project s s v ≡ Some w → w ≡ v
unfolding project
plain_same (Schema.items r e ext) h v w k = item_same e v w k
plain_same (Schema.containing e) h v w k = absurd h
plain_same (Schema.list e size mark) h v w k = absurd h
plain_same (Schema.set_of e size mark) h v w k = absurd h
plain_same (Schema.sequence o ps ext adds) h v w k = absurd h
plain_same (Schema.choice ps adds ext) h v w k = absurd h
plain_same s h v w k = sym (some_is v w k)

mutual
  unfolding project Steps StepSlots StepAt

  pub in_steps : {s'' s' s : Schema} → Newer s'' s' → Newer s' s → Steps (project s'' s') (project s' s) (project s'' s)
  in_steps (unchanged {s = t} h) m = λ v w e. ap (project t _) (plain_same t h v w e)
  in_steps (more_items k) (unchanged h) = λ v w e. absurd (cc)
  in_steps (more_items {e = e1} k) (more_items {e = e0} l) = λ v w e. ap (through_item e0) (item_same e1 v w e)
  in_steps (newer_containing n) (unchanged h) = absurd h
  in_steps (newer_containing n) (newer_containing m) = in_steps n m
  in_steps (newer_list n) (unchanged h) = absurd h
  in_steps (newer_list {e = e1} {e' = e2} n) (newer_list {e = e0} m) = elements_steps (project e2 e1) (project e1 e0) (project e2 e0) (in_steps n m)
  in_steps (newer_set_of n) (unchanged h) = absurd h
  in_steps (newer_set_of {e = e1} {e' = e2} n) (newer_set_of {e = e0} m) = bags_steps (project e2 e1) (project e1 e0) (project e2 e0) (in_steps n m)
  in_steps (newer_sequence n ns) (unchanged h) = absurd h
  in_steps (newer_sequence {ps = ps1} {ps' = ps2} {adds = adds1} {adds' = adds2} n ns) (newer_sequence {ps = ps0} {adds = adds0} m ms) =
      fields_steps (project_slots ps2 ps1) (project_slots ps1 ps0) (project_slots ps2 ps0) (project_slots adds2 adds1) (project_slots adds1 adds0) (project_slots adds2 adds0) (slots_in_steps n m) (slots_in_steps ns ms)
  in_steps (newer_choice n ns) (unchanged h) = absurd h
  in_steps (newer_choice {ps = ps1} {ps' = ps2} {adds = adds1} {adds' = adds2} n ns) (newer_choice {ps = ps0} {adds = adds0} m ms) =
      alternative_steps (project_at ps2 ps1) (project_at ps1 ps0) (project_at ps2 ps0) (project_at adds2 adds1) (project_at adds1 adds0) (project_at adds2 adds0) (at_in_steps n m) (at_in_steps ns ms)

  slots_in_steps : {may : Bool} {ps'' ps' ps : Parts} → NewerParts may ps'' ps' → NewerParts may ps' ps → StepSlots (project_slots ps'' ps') (project_slots ps' ps) (project_slots ps'' ps)
  slots_in_steps no_more m = λ xs ys e. refl
  slots_in_steps more_parts no_more = λ xs ys e. refl
  slots_in_steps (also p n ns) more_parts = λ xs ys e. refl
  slots_in_steps (also {s = s1} {s' = s2} {ps = ps1} {ps' = ps2} p n ns) (also {s = s0} {ps = ps0} q m ms) =
      slots_steps (project s2 s1) (project s1 s0) (project s2 s0) (project_slots ps2 ps1) (project_slots ps1 ps0) (project_slots ps2 ps0) (in_steps n m) (slots_in_steps ns ms)

  at_in_steps : {may : Bool} {ps'' ps' ps : Parts} → NewerParts may ps'' ps' → NewerParts may ps' ps → StepAt (project_at ps'' ps') (project_at ps' ps) (project_at ps'' ps)
  at_in_steps no_more m = λ i v w e. absurd (let x : ◌≡◌ {A = Option Value} None (Some w) = e in cc)
  at_in_steps more_parts m = λ i v w e. absurd (let x : ◌≡◌ {A = Option Value} None (Some w) = e in cc)
  at_in_steps (also p n ns) more_parts = λ i v w e. refl
  at_in_steps (also {s = s1} {s' = s2} {ps = ps1} {ps' = ps2} p n ns) (also {s = s0} {ps = ps0} q m ms) =
      at_steps (project s2 s1) (project s1 s0) (project s2 s0) (project_at ps2 ps1) (project_at ps1 ps0) (project_at ps2 ps0) (in_steps n m) (at_in_steps ns ms)

-- where projecting to the middle is there, projecting on gives what projecting at once gives, or both are none
pub projects_in_steps : (s'' s' s : Schema) → Newer s'' s' → Newer s' s → (v w : Value) → project s'' s' v ≡ Some w → project s' s w ≡ project s'' s v
unfolding Steps
projects_in_steps s'' s' s n m v w e = in_steps n m v w e
