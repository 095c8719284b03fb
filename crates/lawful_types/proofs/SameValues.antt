-- Values of two versions of a type are the same in both.
use Rattle.std.proofs.Common.{◌≡◌, refl, sym, ap, ap₂, ◌∙◌, ℕ, zero, suc, ◌+◌, Bool, true, cond, ◌&&◌, List, [], ◌∷◌, Option, Some, None, arith}
use Rattle.rasn_types.specs.AllOf.{all_of, joined}
use Rattle.rasn_types.specs.Values.{Value, elements, bag, bag_of, fields, alternative, root, added, item, same, as_values, values, slots}
use Rattle.rasn_types.proofs.Codes.{same_true}
use Rattle.rasn_types.proofs.Values.{as_values-values, as_slots-slots}
use Rattle.rasn_schema.specs.Depth.{IsLeaf, CutOf, CutParts, cut_here, alike, cut_containing, cut_list, cut_set_of, cut_sequence, cut_choice, no_cut, cut_part}
use Rattle.rasn_schema.specs.Lawful.{all_pass, are_values, if_alternative, if_bag, if_elements, if_fields, is_countable, is_value, is_value_at, none_left, slot_passes, slots_pass}
use Rattle.rasn_schema.specs.Schemas
use Rattle.rasn_schema.specs.Schemas.{Parts, Presence, Schema}
use Rattle.rasn_schema.proofs.Places.{and_first, and_second}
use Rattle.per_core.specs.Versions.{IsPlain, IsWidened, Newer, NewerParts, also, made, made_both, more_items, more_parts, newer_containing, newer_list, newer_set_of, newer_sequence, newer_choice, no_more, project, project_at, project_slots, slot_through, slots_through, through_alternative, through_bag, through_elements, through_fields, through_item, unchanged, widen, widen_at, widen_slots}
use Rattle.per_laws.proofs.VersionsAt128Levels.{levelled_holds}
use Rattle.per_laws.proofs.Levelled.{levelled_type_unfolds}
use Rattle.per_laws.proofs.Types.{up_to}
use Rattle.rasn_dynamic.specs.declared.types.Kind.{Kind}
use Rattle.rasn_dynamic.specs.Types.{schema_at, tree_value}
use Rattle.rasn_dynamic.proofs.Levelled.{schema_levels}
use Rattle.lawful_types.specs.TypeRules.{tree_levels}
use Rattle.lawful_types.specs.OneLevel.{IsValueOf, KeepDefaults}
use Rattle.lawful_types.proofs.OneKind.{value_alike}

-- what passes two tests stays what it is
abbrev Keeps : {X : Type 0} → (X → Bool) → (X → Bool) → (X → Option X) → Type 0
Keeps {X} f k g = (v : X) → f v ≡ true → k v ≡ true → g v ≡ Some v

all_keep : (f k : Value → Bool) (g : Value → Option Value) → Keeps f k g → Keeps (all_pass f) (all_pass k) (all_of g)
all_keep f k g h [] e d = refl
all_keep f k g h (v ∷ vs) e d = ap₂ joined (h v (and_first (f v) (all_pass f vs) e) (and_first (k v) (all_pass k vs) d)) (all_keep f k g h vs (and_second (f v) (all_pass f vs) e) (and_second (k v) (all_pass k vs) d))

elements_keep : (f k : Value → Bool) (g : Value → Option Value) → Keeps f k g → Keeps (if_elements f) (if_elements k) (through_elements g)
elements_keep f k g h (elements vs) e d =
    ap (made (λ ws. elements (as_values ws))) (all_keep f k g h (values vs) (and_second (is_countable (values vs)) (all_pass f (values vs)) e) (and_second (is_countable (values vs)) (all_pass k (values vs)) d)) ∙ ap (λ l. Some (elements l)) (as_values-values vs)
elements_keep f k g h _ e d = absurd (cc)

bags_keep : (f k : Value → Bool) (g : Value → Option Value) → Keeps f k g → Keeps (if_bag f) (if_bag k) (through_bag g)
unfolding if_bag
bags_keep f k g h (bag vs) e d =
    let m : (all_pass f (values vs) && same (bag_of (values vs)) (bag vs)) ≡ true = and_second (is_countable (values vs)) (all_pass f (values vs) && same (bag_of (values vs)) (bag vs)) e in
    let l : (all_pass k (values vs) && same (bag_of (values vs)) (bag vs)) ≡ true = and_second (is_countable (values vs)) (all_pass k (values vs) && same (bag_of (values vs)) (bag vs)) d in
    ap (made bag_of) (all_keep f k g h (values vs) (and_first (all_pass f (values vs)) (same (bag_of (values vs)) (bag vs)) m) (and_first (all_pass k (values vs)) (same (bag_of (values vs)) (bag vs)) l))
    ∙ ap (λ b. Some b) (same_true (bag_of (values vs)) (bag vs) (and_second (all_pass f (values vs)) (same (bag_of (values vs)) (bag vs)) m))
bags_keep f k g h _ e d = absurd (cc)

fields_keep : (f k f' k' : List (Option Value) → Bool) (g g' : List (Option Value) → Option (List (Option Value))) → Keeps f k g → Keeps f' k' g' → Keeps (if_fields f f') (if_fields k k') (through_fields g g')
fields_keep f k f' k' g g' h h' (fields r x) e d =
    ap₂ made_both (h (slots r) (and_first (f (slots r)) (f' (slots x)) e) (and_first (k (slots r)) (k' (slots x)) d)) (h' (slots x) (and_second (f (slots r)) (f' (slots x)) e) (and_second (k (slots r)) (k' (slots x)) d))
    ∙ ap₂ (λ a b. Some (fields a b)) (as_slots-slots r) (as_slots-slots x)
fields_keep f k f' k' g g' h h' _ e d = absurd (cc)

alternative_keeps : (f k f' k' : ℕ → Value → Bool) (g g' : ℕ → Value → Option Value) → ((i : ℕ) → Keeps (f i) (k i) (g i)) → ((i : ℕ) → Keeps (f' i) (k' i) (g' i)) → Keeps (if_alternative f f') (if_alternative k k') (through_alternative g g')
alternative_keeps f k f' k' g g' h h' (alternative root i v) e d = ap (made (alternative root i)) (h i v e d)
alternative_keeps f k f' k' g g' h h' (alternative added i v) e d = ap (made (alternative added i)) (h' i v e d)
alternative_keeps f k f' k' g g' h h' _ e d = absurd (cc)

slot_keeps : (p q : Presence) (f k : Value → Bool) (g : Value → Option Value) → Keeps f k g → Keeps (slot_passes p f) (slot_passes q k) (slot_through g)
slot_keeps p q f k g h None e d = refl
slot_keeps p q f k g h (Some v) e d = ap (λ (o : Option Value). elim o as (λ _. Option (Option Value)) [ None ↦ None | Some w ↦ Some (Some w) ]) (h v e d)

slots_keep : (p q : Presence) (f k : Value → Bool) (g : Value → Option Value) (f' k' : List (Option Value) → Bool) (g' : List (Option Value) → Option (List (Option Value))) → Keeps f k g → Keeps f' k' g' →
    Keeps (slots_pass (slot_passes p f) f') (slots_pass (slot_passes q k) k') (slots_through g g')
slots_keep p q f k g f' k' g' h h' [] e d = absurd (cc)
slots_keep p q f k g f' k' g' h h' (x ∷ xs) e d =
    ap₂ joined (slot_keeps p q f k g h x (and_first (slot_passes p f x) (f' xs) e) (and_first (slot_passes q k x) (k' xs) d)) (h' xs (and_second (slot_passes p f x) (f' xs) e) (and_second (slot_passes q k x) (k' xs) d))

none_kept : (k : List (Option Value) → Bool) → Keeps none_left k (λ (xs : List (Option Value)). Some [])
none_kept k [] e d = refl
none_kept k (x ∷ xs) e d = absurd (cc)

-- ---- along one schema

item_kept : (r e : ℕ) (ext : Bool) (v : Value) → is_value (Schemas.items r e ext) v ≡ true → through_item e v ≡ Some v
unfolding is_value
item_kept r e ext (item root i) h = refl
item_kept r e ext (item added i) h = ap (λ b. cond b (Some (item added i)) None) h
item_kept r e ext _ h = absurd (cc)

leaf_projects : (s : Schema) → IsLeaf s → Keeps (is_value s) (is_value s) (project s s)
unfolding is_value project
leaf_projects (Schemas.items r e ext) h = λ v f d. item_kept r e ext v f
leaf_projects (Schemas.containing e) h = absurd h
leaf_projects (Schemas.list e size mark) h = absurd h
leaf_projects (Schemas.set_of e size mark) h = absurd h
leaf_projects (Schemas.sequence o ps ext adds) h = absurd h
leaf_projects (Schemas.choice ps adds ext) h = absurd h
leaf_projects _ h = λ v e d. refl

mutual
  unfolding is_value project

  projects : {s t : Schema} → CutOf s t → Keeps (is_value t) (is_value t) (project s s)
  projects cut_here = λ v e d. refl
  projects (alike {s = s} h) = leaf_projects s h
  projects (cut_containing c) = projects c
  projects (cut_list {s = s} {t = t} c) = elements_keep (is_value t) (is_value t) (project s s) (projects c)
  projects (cut_set_of {s = s} {t = t} c) = bags_keep (is_value t) (is_value t) (project s s) (projects c)
  projects (cut_sequence {ps = ps} {qs = qs} {adds = adds} {bdds = bdds} c d) = fields_keep (are_values qs) (are_values qs) (are_values bdds) (are_values bdds) (project_slots ps ps) (project_slots adds adds) (parts_project c) (parts_project d)
  projects (cut_choice {ps = ps} {qs = qs} {adds = adds} {bdds = bdds} c d) = alternative_keeps (is_value_at qs) (is_value_at qs) (is_value_at bdds) (is_value_at bdds) (project_at ps ps) (project_at adds adds) (place_projects c) (place_projects d)

  parts_project : {ps qs : Parts} → CutParts ps qs → Keeps (are_values qs) (are_values qs) (project_slots ps ps)
  parts_project no_cut = none_kept none_left
  parts_project (cut_part {p = p} {s = s} {s' = t} {ps = ps} {ps' = qs} c cs) = slots_keep p p (is_value t) (is_value t) (project s s) (are_values qs) (are_values qs) (project_slots ps ps) (projects c) (parts_project cs)

  place_projects : {ps qs : Parts} → CutParts ps qs → (i : ℕ) → Keeps (is_value_at qs i) (is_value_at qs i) (project_at ps ps i)
  place_projects no_cut i = λ v e d. absurd (cc)
  place_projects (cut_part c cs) zero = projects c
  place_projects (cut_part c cs) (suc i) = place_projects cs i

-- ---- from an older schema to a newer one

plain_widens : (s : Schema) → IsPlain s → (v : Value) → widen s s v ≡ Some v
unfolding widen
plain_widens (Schemas.containing e) p v = absurd p
plain_widens (Schemas.list e z m) p v = absurd p
plain_widens (Schemas.set_of e z m) p v = absurd p
plain_widens (Schemas.sequence o ps x qs) p v = absurd p
plain_widens (Schemas.choice ps qs x) p v = absurd p
plain_widens _ p v = refl

one_too_few : (f : Option Value → Bool) (g : List (Option Value) → Bool) {A : Type 0} (xs : List (Option Value)) → slots_pass f g xs ≡ true → none_left xs ≡ true → A
one_too_few f g [] e d = absurd (cc)
one_too_few f g (x ∷ xs) e d = absurd (cc)

mutual
  unfolding is_value widen

  widens : {s' s t' t : Schema} → Newer s' s → CutOf s' t' → CutOf s t → Keeps (is_value t') (is_value t) (widen s' s)
  widens (unchanged {s = s} p) c' c = λ v e d. plain_widens s p v
  widens (more_items l) c' c = λ v e d. refl
  widens (newer_containing n) (cut_containing c') (cut_containing c) = widens n c' c
  widens (newer_containing n) (alike h) c = absurd h
  widens (newer_containing n) (cut_containing c') (alike h) = absurd h
  widens (newer_list {e = s} {e' = s'} n) (cut_list {t = t'} c') (cut_list {t = t} c) = elements_keep (is_value t') (is_value t) (widen s' s) (widens n c' c)
  widens (newer_list n) (alike h) c = absurd h
  widens (newer_list n) (cut_list c') (alike h) = absurd h
  widens (newer_set_of {e = s} {e' = s'} n) (cut_set_of {t = t'} c') (cut_set_of {t = t} c) = bags_keep (is_value t') (is_value t) (widen s' s) (widens n c' c)
  widens (newer_set_of n) (alike h) c = absurd h
  widens (newer_set_of n) (cut_set_of c') (alike h) = absurd h
  widens (newer_sequence {ps = ps} {ps' = ps'} {adds = adds} {adds' = adds'} n m) (cut_sequence {qs = qs'} {bdds = bdds'} c' d') (cut_sequence {qs = qs} {bdds = bdds} c d) =
      fields_keep (are_values qs') (are_values qs) (are_values bdds') (are_values bdds) (widen_slots ps' ps) (widen_slots adds' adds) (parts_widen n c' c) (parts_widen m d' d)
  widens (newer_sequence n m) (alike h) c = absurd h
  widens (newer_sequence n m) (cut_sequence c' d') (alike h) = absurd h
  widens (newer_choice {ps = ps} {ps' = ps'} {adds = adds} {adds' = adds'} n m) (cut_choice {qs = qs'} {bdds = bdds'} c' d') (cut_choice {qs = qs} {bdds = bdds} c d) =
      alternative_keeps (is_value_at qs') (is_value_at qs) (is_value_at bdds') (is_value_at bdds) (widen_at ps' ps) (widen_at adds' adds) (place_widens n c' c) (place_widens m d' d)
  widens (newer_choice n m) (alike h) c = absurd h
  widens (newer_choice n m) (cut_choice c' d') (alike h) = absurd h

  parts_widen : {may : Bool} {ps' ps qs' qs : Parts} → NewerParts may ps' ps → CutParts ps' qs' → CutParts ps qs → Keeps (are_values qs') (are_values qs) (widen_slots ps' ps)
  parts_widen no_more no_cut no_cut = none_kept none_left
  parts_widen more_parts (cut_part {p = p} {s' = t} {ps' = qs} c cs) no_cut = λ xs e d. one_too_few (slot_passes p (is_value t)) (are_values qs) xs e d
  parts_widen (also {p = p} {p' = p'} {s = s} {s' = s'} {ps = ps} {ps' = ps'} h n m) (cut_part {s' = t'} {ps' = qs'} c' cs') (cut_part {s' = t} {ps' = qs} c cs) =
      slots_keep p' p (is_value t') (is_value t) (widen s' s) (are_values qs') (are_values qs) (widen_slots ps' ps) (widens n c' c) (parts_widen m cs' cs)

  place_widens : {may : Bool} {ps' ps qs' qs : Parts} → NewerParts may ps' ps → CutParts ps' qs' → CutParts ps qs → (i : ℕ) → Keeps (is_value_at qs' i) (is_value_at qs i) (widen_at ps' ps i)
  place_widens no_more no_cut no_cut i = λ v e d. absurd (cc)
  place_widens more_parts (cut_part c cs) no_cut i = λ v e d. absurd (cc)
  place_widens (also h n m) (cut_part c' cs') (cut_part c cs) zero = widens n c' c
  place_widens (also h n m) (cut_part c' cs') (cut_part c cs) (suc i) = place_widens m cs' cs i

pub is_widened : (s' s : Schema) (d' d : Value) → Newer s' s → d' ≡ d → IsValueOf s' d' → IsValueOf s d → IsWidened s' s d' d
is_widened s' s d' d n e x y = record {
  there = λ u. same_widened;
  same = λ w f u. some_same w d' (sym f ∙ same_widened);
  valid = projects y.is_cut d y.of_whole y.of_whole;
}
  where
    some_same : (x y : Value) → Some x ≡ Some y → x ≡ y
    some_same x y e = cc

    same_widened : widen s' s d ≡ Some d'
    same_widened = widens n x.is_cut y.is_cut d (ap (is_value x.whole) (sym e) ∙ x.of_whole) y.of_whole ∙ ap Some (sym e)

-- ---- the schemas of places

pub cut_keeps : (ts : List Kind) → KeepDefaults ts (λ j. Schemas.cut)
cut_keeps ts j d e = record { whole = schema_at ts j (tree_levels d + 2); is_cut = cut_here; of_whole = and_first _ _ e }

pub schema_keeps : (ts : List Kind) (n : ℕ) → KeepDefaults ts (λ j. schema_at ts j n)
schema_keeps ts n j d e =
    let u = levelled_type_unfolds (schema_at ts j) (λ n. schema_levels ts n j) in
    let m : ℕ = tree_levels d + 2 in
    record {
      whole = schema_at ts j (m + n);
      is_cut = up_to (schema_at ts j) u n (m + n) (omega arith);
      of_whole = sym (value_alike (up_to (schema_at ts j) u m (m + n) (omega arith)) (tree_value d) (levelled_holds (schema_at ts j) (λ n. schema_levels ts n j) (tree_value d) m (omega arith))) ∙ and_first _ _ e;
    }
