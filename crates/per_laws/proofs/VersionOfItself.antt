-- A lawful type is a newer version of itself: its defaults are values of their schemas, and a value stays what it is.
use Rattle.std.proofs.Common.{◌≡◌, refl, sym, ap, ◌∙◌, ap₂, ℕ, zero, suc, ◌+◌, Bool, true, false, cond, ◌&&◌, List, [], ◌∷◌, Option, Some, None, arith}
use Rattle.rasn_types.specs.Values.{Value, no_values, value, no_slots, item, elements, bag, bag_of, same, fields, alternative, root, added, as_values, as_slots, values, slots}
use Rattle.rasn_types.proofs.Values.{slots-as_slots, as_values-values, as_slots-slots}
use Rattle.rasn_constraints.specs.Bounds.{Size}
use Rattle.rasn_schema.specs.Schemas.{Presence, required, optional, group, default, Order, TagTree, Schema, Parts, no_parts, part}
use Rattle.rasn_schema.specs.Depth.{IsLeaf, CutOf, CutParts, cut_here, alike, cut_containing, cut_list, cut_set_of, cut_sequence, cut_choice, no_cut, cut_part, meets_cut, slots_meet_cut, meets_cut_at}
use Rattle.rasn_schema.specs.Lawful.{IsLawful, AreLawful, IsLawfulPresence, IsLawfulType, all_pass, is_countable, if_elements, if_bag, if_fields, if_alternative, slot_passes, slots_pass, none_left, is_value, are_values, is_value_at}
use Rattle.rasn_types.specs.AllOf.{all_of, joined}
use Rattle.per_core.specs.Versions.{made, made_both, through_elements, through_bag, through_fields, through_alternative, through_item, slot_through, slots_through, project, project_slots, project_at, widen, widen_slots, widen_at, IsWidened, NewerPresence, Newer, NewerParts, NewerType, unchanged, more_items, newer_containing, newer_list, newer_set_of, newer_sequence, newer_choice, no_more, also}
use Rattle.rasn_types.proofs.Codes.{same_true}
use Rattle.per_core.proofs.LengthForms.{and_left, and_right, or_left, or_right}
use Rattle.per_laws.proofs.Takes.{some_is}
use Rattle.per_laws.proofs.Types.{up_to, less_cut}

-- what passes a test stays what it is
abbrev Keeps : {X : Type 0} → (X → Bool) → (X → Option X) → Type 0
Keeps {X} f g = (v : X) → f v ≡ true → g v ≡ Some v

all_keep : (f : Value → Bool) (g : Value → Option Value) → Keeps f g → Keeps (all_pass f) (all_of g)
all_keep f g h [] e = refl
all_keep f g h (v ∷ vs) e = ap₂ joined (h v (and_left (f v) (all_pass f vs) e)) (all_keep f g h vs (and_right (f v) (all_pass f vs) e))

elements_keep : (f : Value → Bool) (g : Value → Option Value) → Keeps f g → Keeps (if_elements f) (through_elements g)
elements_keep f g h (elements vs) e =
    ap (made (λ ws. elements (as_values ws))) (all_keep f g h (values vs) (and_right (is_countable (values vs)) (all_pass f (values vs)) e)) ∙ ap (λ l. Some (elements l)) (as_values-values vs)
elements_keep f g h _ e = absurd (cc)

bags_keep : (f : Value → Bool) (g : Value → Option Value) → Keeps f g → Keeps (if_bag f) (through_bag g)
unfolding if_bag
bags_keep f g h (bag vs) e =
    let k : (all_pass f (values vs) && same (bag_of (values vs)) (bag vs)) ≡ true = and_right (is_countable (values vs)) (all_pass f (values vs) && same (bag_of (values vs)) (bag vs)) e in
    ap (made bag_of) (all_keep f g h (values vs) (and_left (all_pass f (values vs)) (same (bag_of (values vs)) (bag vs)) k))
    ∙ ap (λ b. Some b) (same_true (bag_of (values vs)) (bag vs) (and_right (all_pass f (values vs)) (same (bag_of (values vs)) (bag vs)) k))
bags_keep f g h _ e = absurd (cc)

fields_keep : (f f' : List (Option Value) → Bool) (g g' : List (Option Value) → Option (List (Option Value))) → Keeps f g → Keeps f' g' → Keeps (if_fields f f') (through_fields g g')
fields_keep f f' g g' h h' (fields r x) e =
    ap₂ made_both (h (slots r) (and_left (f (slots r)) (f' (slots x)) e)) (h' (slots x) (and_right (f (slots r)) (f' (slots x)) e)) ∙ ap₂ (λ a b. Some (fields a b)) (as_slots-slots r) (as_slots-slots x)
fields_keep f f' g g' h h' _ e = absurd (cc)

alternative_keeps : (f f' : ℕ → Value → Bool) (g g' : ℕ → Value → Option Value) → ((i : ℕ) → Keeps (f i) (g i)) → ((i : ℕ) → Keeps (f' i) (g' i)) → Keeps (if_alternative f f') (through_alternative g g')
alternative_keeps f f' g g' h h' (alternative root i v) e = ap (made (alternative root i)) (h i v e)
alternative_keeps f f' g g' h h' (alternative added i v) e = ap (made (alternative added i)) (h' i v e)
alternative_keeps f f' g g' h h' _ e = absurd (cc)

slot_keeps : (p : Presence) (f : Value → Bool) (g : Value → Option Value) → Keeps f g → Keeps (slot_passes p f) (slot_through g)
slot_keeps p f g h None e = refl
slot_keeps p f g h (Some v) e = ap (λ (o : Option Value). elim o as (λ _. Option (Option Value)) [ None ↦ None | Some w ↦ Some (Some w) ]) (h v e)

slots_keep : (p : Presence) (f : Value → Bool) (g : Value → Option Value) (f' : List (Option Value) → Bool) (g' : List (Option Value) → Option (List (Option Value))) → Keeps f g → Keeps f' g' →
    Keeps (slots_pass (slot_passes p f) f') (slots_through g g')
slots_keep p f g f' g' h h' [] e = absurd (cc)
slots_keep p f g f' g' h h' (x ∷ xs) e = ap₂ joined (slot_keeps p f g h x (and_left (slot_passes p f x) (f' xs) e)) (h' xs (and_right (slot_passes p f x) (f' xs) e))

none_kept : Keeps none_left (λ (xs : List (Option Value)). Some [])
none_kept [] e = refl
none_kept (x ∷ xs) e = absurd (cc)

-- a value of a tree is its own projection along the tree, however much of it is cut off, and its own widening
item_kept : (r e : ℕ) (ext : Bool) (v : Value) → is_value (Schema.items r e ext) v ≡ true → through_item e v ≡ Some v
unfolding is_value
item_kept r e ext (item root i) h = refl
item_kept r e ext (item added i) h = ap (λ b. cond b (Some (item added i)) None) h
item_kept r e ext _ h = absurd (cc)

leaf_projects : (s : Schema) → IsLeaf s → Keeps (is_value s) (project s s)
unfolding is_value project
leaf_projects (Schema.items r e ext) h = item_kept r e ext
leaf_projects (Schema.containing e) h = absurd h
leaf_projects (Schema.list e size mark) h = absurd h
leaf_projects (Schema.set_of e size mark) h = absurd h
leaf_projects (Schema.sequence o ps ext adds) h = absurd h
leaf_projects (Schema.choice ps adds ext) h = absurd h
leaf_projects _ h = λ v e. refl

mutual
  unfolding is_value project

  projects : {s t : Schema} → CutOf s t → Keeps (is_value t) (project s s)
  projects cut_here = λ v e. refl
  projects (alike {s = s} h) = leaf_projects s h
  projects (cut_containing c) = projects c
  projects (cut_list {s = s} {t = t} c) = elements_keep (is_value t) (project s s) (projects c)
  projects (cut_set_of {s = s} {t = t} c) = bags_keep (is_value t) (project s s) (projects c)
  projects (cut_sequence {ps = ps} {qs = qs} {adds = adds} {bdds = bdds} c d) = fields_keep (are_values qs) (are_values bdds) (project_slots ps ps) (project_slots adds adds) (parts_project c) (parts_project d)
  projects (cut_choice {ps = ps} {qs = qs} {adds = adds} {bdds = bdds} c d) = alternative_keeps (is_value_at qs) (is_value_at bdds) (project_at ps ps) (project_at adds adds) (place_projects c) (place_projects d)

  parts_project : {ps qs : Parts} → CutParts ps qs → Keeps (are_values qs) (project_slots ps ps)
  parts_project no_cut = none_kept
  parts_project (cut_part {p = p} {s = s} {s' = t} {ps = ps} {ps' = qs} c cs) = slots_keep p (is_value t) (project s s) (are_values qs) (project_slots ps ps) (projects c) (parts_project cs)

  place_projects : {ps qs : Parts} → CutParts ps qs → (i : ℕ) → Keeps (is_value_at qs i) (project_at ps ps i)
  place_projects no_cut i = λ v e. absurd (cc)
  place_projects (cut_part c cs) zero = projects c
  place_projects (cut_part c cs) (suc i) = place_projects cs i

leaf_widens : (s : Schema) → IsLeaf s → Keeps (is_value s) (widen s s)
unfolding is_value widen
leaf_widens (Schema.containing e) h = absurd h
leaf_widens (Schema.list e size mark) h = absurd h
leaf_widens (Schema.set_of e size mark) h = absurd h
leaf_widens (Schema.sequence o ps ext adds) h = absurd h
leaf_widens (Schema.choice ps adds ext) h = absurd h
leaf_widens _ h = λ v e. refl

mutual
  unfolding is_value widen

  widens : {s t : Schema} → CutOf s t → Keeps (is_value t) (widen s s)
  widens cut_here = λ v e. refl
  widens (alike {s = s} h) = leaf_widens s h
  widens (cut_containing c) = widens c
  widens (cut_list {s = s} {t = t} c) = elements_keep (is_value t) (widen s s) (widens c)
  widens (cut_set_of {s = s} {t = t} c) = bags_keep (is_value t) (widen s s) (widens c)
  widens (cut_sequence {ps = ps} {qs = qs} {adds = adds} {bdds = bdds} c d) = fields_keep (are_values qs) (are_values bdds) (widen_slots ps ps) (widen_slots adds adds) (parts_widen c) (parts_widen d)
  widens (cut_choice {ps = ps} {qs = qs} {adds = adds} {bdds = bdds} c d) = alternative_keeps (is_value_at qs) (is_value_at bdds) (widen_at ps ps) (widen_at adds adds) (place_widens c) (place_widens d)

  parts_widen : {ps qs : Parts} → CutParts ps qs → Keeps (are_values qs) (widen_slots ps ps)
  parts_widen no_cut = none_kept
  parts_widen (cut_part {p = p} {s = s} {s' = t} {ps = ps} {ps' = qs} c cs) = slots_keep p (is_value t) (widen s s) (are_values qs) (widen_slots ps ps) (widens c) (parts_widen cs)

  place_widens : {ps qs : Parts} → CutParts ps qs → (i : ℕ) → Keeps (is_value_at qs i) (widen_at ps ps i)
  place_widens no_cut i = λ v e. absurd (cc)
  place_widens (cut_part c cs) zero = widens c
  place_widens (cut_part c cs) (suc i) = place_widens cs i

-- every value is whole in some lawful tree of which this one is a cut
abbrev Within : Schema → Type 0
Within s = (v : Value) → (t : Schema) × CutOf s t × IsLawful t × (meets_cut t v ≡ false)

abbrev PartWithin : Presence → Schema → Type 0
PartWithin p s = (v : Value) → (t : Schema) × CutOf s t × IsLawfulPresence t p × IsLawful t × (meets_cut t v ≡ false)

abbrev PartsWithin : Parts → Type 0
PartsWithin ps = (xs : List (Option Value)) → (qs : Parts) × CutParts ps qs × AreLawful qs × (slots_meet_cut qs xs ≡ false)

abbrev PlacesWithin : Parts → Type 0
PlacesWithin ps = (i : ℕ) (v : Value) → (qs : Parts) × CutParts ps qs × AreLawful qs × (meets_cut_at qs i v ≡ false)

contained_below : {e t : Schema} (v : Value) → CutOf (Schema.containing e) t → IsLawful t → meets_cut t v ≡ false → (u : Schema) × CutOf e u × IsLawful u × (meets_cut u v ≡ false)
unfolding IsLawful meets_cut
contained_below v (alike h) l m = absurd h
contained_below v (cut_containing {t = u} c) l m = (u, c, l, m)

list_below : {e t : Schema} (size : Size) (mark : Bool) (v : Value) → CutOf (Schema.list e size mark) t → IsLawful t → meets_cut t (elements (value v no_values)) ≡ false → (u : Schema) × CutOf e u × IsLawful u × (meets_cut u v ≡ false)
unfolding IsLawful meets_cut
list_below size mark v (alike h) l m = absurd h
list_below size mark v (cut_list {t = u} c) l m = (u, c, l.1, or_left (meets_cut u v) false m)

set_below : {e t : Schema} (size : Size) (mark : Bool) (v : Value) → CutOf (Schema.set_of e size mark) t → IsLawful t → meets_cut t (bag (value v no_values)) ≡ false → (u : Schema) × CutOf e u × IsLawful u × (meets_cut u v ≡ false)
unfolding IsLawful meets_cut
set_below size mark v (alike h) l m = absurd h
set_below size mark v (cut_set_of {t = u} c) l m = (u, c, l.1, or_left (meets_cut u v) false m)

root_below : {ps adds : Parts} {t : Schema} (o : Order) (ext : Bool) (xs : List (Option Value)) → CutOf (Schema.sequence o ps ext adds) t → IsLawful t → meets_cut t (fields (as_slots xs) no_slots) ≡ false →
    (qs : Parts) × CutParts ps qs × AreLawful qs × (slots_meet_cut qs xs ≡ false)
unfolding IsLawful meets_cut
root_below o ext xs (alike h) l m = absurd h
root_below o ext xs (cut_sequence {qs = qs} {bdds = bdds} c d) l m = (qs, c, l.1, ap (slots_meet_cut qs) (sym (slots-as_slots xs)) ∙ or_left (slots_meet_cut qs (slots (as_slots xs))) (slots_meet_cut bdds []) m)

additions_below : {ps adds : Parts} {t : Schema} (o : Order) (ext : Bool) (xs : List (Option Value)) → CutOf (Schema.sequence o ps ext adds) t → IsLawful t → meets_cut t (fields no_slots (as_slots xs)) ≡ false →
    (qs : Parts) × CutParts adds qs × AreLawful qs × (slots_meet_cut qs xs ≡ false)
unfolding IsLawful meets_cut
additions_below o ext xs (alike h) l m = absurd h
additions_below o ext xs (cut_sequence {qs = qs} {bdds = bdds} c d) l m = (bdds, d, l.2, ap (slots_meet_cut bdds) (sym (slots-as_slots xs)) ∙ or_right (slots_meet_cut qs []) (slots_meet_cut bdds (slots (as_slots xs))) m)

roots_below : {ps adds : Parts} {t : Schema} (ext : Bool) (i : ℕ) (v : Value) → CutOf (Schema.choice ps adds ext) t → IsLawful t → meets_cut t (alternative root i v) ≡ false →
    (qs : Parts) × CutParts ps qs × AreLawful qs × (meets_cut_at qs i v ≡ false)
unfolding IsLawful meets_cut
roots_below ext i v (alike h) l m = absurd h
roots_below ext i v (cut_choice {qs = qs} c d) l m = (qs, c, l.1, m)

addeds_below : {ps adds : Parts} {t : Schema} (ext : Bool) (i : ℕ) (v : Value) → CutOf (Schema.choice ps adds ext) t → IsLawful t → meets_cut t (alternative added i v) ≡ false →
    (qs : Parts) × CutParts adds qs × AreLawful qs × (meets_cut_at qs i v ≡ false)
unfolding IsLawful meets_cut
addeds_below ext i v (alike h) l m = absurd h
addeds_below ext i v (cut_choice {bdds = bdds} c d) l m = (bdds, d, l.2, m)

-- the first part, and the others
first_slot : {t : TagTree} {p : Presence} {s : Schema} {ps qs : Parts} (v : Value) → CutParts (part t p s ps) qs → AreLawful qs → slots_meet_cut qs (Some v ∷ []) ≡ false →
    (u : Schema) × CutOf s u × IsLawfulPresence u p × IsLawful u × (meets_cut u v ≡ false)
unfolding IsLawful meets_cut
first_slot v (cut_part {s' = u} {ps' = qs} c cs) l m = (u, c, l.0, l.1, or_left (meets_cut u v) (slots_meet_cut qs []) m)

other_slots : {t : TagTree} {p : Presence} {s : Schema} {ps qs : Parts} (xs : List (Option Value)) → CutParts (part t p s ps) qs → AreLawful qs → slots_meet_cut qs (None ∷ xs) ≡ false →
    (rs : Parts) × CutParts ps rs × AreLawful rs × (slots_meet_cut rs xs ≡ false)
unfolding IsLawful meets_cut
other_slots xs (cut_part {ps' = rs} c cs) l m = (rs, cs, l.2, m)

first_place : {t : TagTree} {p : Presence} {s : Schema} {ps qs : Parts} (v : Value) → CutParts (part t p s ps) qs → AreLawful qs → meets_cut_at qs zero v ≡ false →
    (u : Schema) × CutOf s u × IsLawfulPresence u p × IsLawful u × (meets_cut u v ≡ false)
unfolding IsLawful meets_cut
first_place v (cut_part {s' = u} c cs) l m = (u, c, l.0, l.1, m)

other_places : {t : TagTree} {p : Presence} {s : Schema} {ps qs : Parts} (i : ℕ) (v : Value) → CutParts (part t p s ps) qs → AreLawful qs → meets_cut_at qs (suc i) v ≡ false →
    (rs : Parts) × CutParts ps rs × AreLawful rs × (meets_cut_at rs i v ≡ false)
unfolding IsLawful meets_cut
other_places i v (cut_part {ps' = rs} c cs) l m = (rs, cs, l.2, m)

part_within : (p : Presence) (s : Schema) → PartWithin p s → Within s
part_within p s w v = let h = w v in (h.0, h.1, h.3, h.4)

-- a default is its own widening, and its own projection
default_kept : (s : Schema) (d : Value) → PartWithin (default d) s → IsWidened s s d d
default_kept s d w =
    let h = w d in
    let k : is_value h.0 d ≡ true = h.2.is_of_kind h.4 in
    let e : widen s s d ≡ Some d = widens h.1 d k in
    record { there = λ m. e; same = λ x f m. some_is x d (sym f ∙ e); valid = projects h.1 d k }

presence_kept : (p : Presence) (s : Schema) → PartWithin p s → NewerPresence s s p p
presence_kept required s w = tt
presence_kept optional s w = tt
presence_kept group s w = tt
presence_kept (default d) s w = default_kept s d w

items_kept : (r e : ℕ) (ext : Bool) → Newer (Schema.items r e ext) (Schema.items r e ext)
items_kept r e true = more_items (omega arith)
items_kept r e false = unchanged refl

mutual
  is_newer : (s : Schema) → Within s → Newer s s
  is_newer (Schema.items r e ext) w = items_kept r e ext
  is_newer (Schema.containing e) w = newer_containing (is_newer e (λ v. let h = w v in contained_below v h.1 h.2 h.3))
  is_newer (Schema.list e size mark) w = newer_list (is_newer e (λ v. let h = w (elements (value v no_values)) in list_below size mark v h.1 h.2 h.3))
  is_newer (Schema.set_of e size mark) w = newer_set_of (is_newer e (λ v. let h = w (bag (value v no_values)) in set_below size mark v h.1 h.2 h.3))
  is_newer (Schema.sequence o ps ext adds) w = newer_sequence
      (parts_newer ps (λ xs. let h = w (fields (as_slots xs) no_slots) in root_below o ext xs h.1 h.2 h.3))
      (parts_newer adds (λ xs. let h = w (fields no_slots (as_slots xs)) in additions_below o ext xs h.1 h.2 h.3))
  is_newer (Schema.choice ps adds ext) w = newer_choice
      (places_newer ps (λ i v. let h = w (alternative root i v) in roots_below ext i v h.1 h.2 h.3))
      (places_newer adds (λ i v. let h = w (alternative added i v) in addeds_below ext i v h.1 h.2 h.3))
  is_newer _ w = unchanged tt

  parts_newer : {may : Bool} (ps : Parts) → PartsWithin ps → NewerParts may ps ps
  parts_newer no_parts w = no_more
  parts_newer (part t p s ps) w =
      let f : PartWithin p s = λ v. let h = w (Some v ∷ []) in first_slot v h.1 h.2 h.3 in
      also (presence_kept p s f) (is_newer s (part_within p s f)) (parts_newer ps (λ xs. let h = w (None ∷ xs) in other_slots xs h.1 h.2 h.3))

  places_newer : {may : Bool} (ps : Parts) → PlacesWithin ps → NewerParts may ps ps
  places_newer no_parts w = no_more
  places_newer (part t p s ps) w =
      let f : PartWithin p s = λ v. let h = w zero v in first_place v h.1 h.2 h.3 in
      also (presence_kept p s f) (is_newer s (part_within p s f)) (places_newer ps (λ i v. let h = w (suc i) v in other_places i v h.1 h.2 h.3))

pub newer_than_itself : (T : ℕ → Schema) → IsLawfulType T → NewerType T T
newer_than_itself T l n = is_newer (T n) (λ v. let h = l.unfolds.holds v in
    (T (n + h.0), up_to T l.unfolds n (n + h.0) (omega arith), l.lawful (n + h.0), less_cut (up_to T l.unfolds h.0 (n + h.0) (omega arith)) v h.1))
