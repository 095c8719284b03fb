-- What a newer reader reads, an older one reads as the projection, where there is one: values of each kind, by what is known of their
-- parts. The projection is taken in trees of which the readers' may be cuts.
use Rattle.std.proofs.Common.{◌≡◌, refl, sym, ap, ◌∙◌, subst, ℕ, ◌+◌, ◌<◌, Bool, true, false, cond, ltb, List, [], ◌∷◌, length, arith, Option, Some, None, ltb-true}
use Rattle.rasn_types.specs.Bits.{Bits}
use Rattle.rasn_types.specs.Values.{sorted, before, code, Value, elements, bag_of, fields, alternative, Side, root, added, as_values, as_slots, values, slots}
use Rattle.rasn_types.proofs.Values.{slots-as_slots, values-as_values}
use Rattle.rasn_schema.specs.Depth.{meets_cut, slots_meet_cut, meets_cut_at, in_slots, any_of}
use Rattle.rasn_schema.specs.Orders.{ordered}
use Rattle.rasn_constraints.specs.Bounds.{Size}
use Rattle.rasn_schema.specs.Schemas.{tags, count, Presence, required, optional, group, default, Order, Schema, Parts, no_parts, part}
use Rattle.per_core.specs.Basic
use Rattle.per_core.specs.Basic.{FlagOf, IsLeftOut, As, Counted, Additions_in, Chosen, basic, basic_in, rules}
use Rattle.per_core.specs.Counts.{list_items}
use Rattle.per_core.specs.Spellings.{Settings, Spelling}
use Rattle.rasn_types.specs.AllOf.{all_of}
use Rattle.per_core.specs.Versions.{project, project_slots, project_at, slot_through, through_item, IsPlain, NewerPresence, Newer, NewerParts, no_more, also}
use Rattle.rasn_schema.proofs.Bags.{bag_source, any_in_bag, joined_of}
use Rattle.per_core.proofs.LengthForms.{Zip, or_left, or_right}
use Rattle.per_core.proofs.Records.{SlotRel, Along}
use Rattle.per_core.proofs.Readings.{length-rules}
use Rattle.per_laws.proofs.Carry.{Carry, kept, Leads, AllLead}
use Rattle.per_laws.proofs.Carrying.{as_carry, lengthy_as, record_as, choice_as, rules_on}
use Rattle.per_laws.proofs.Older.{made_of, made_both_of, slot_some, slot_meets, slot_back, same_tags}

-- of a slot and the older reader's
abbrev pub Drops : Schema → Schema → SlotRel
Drops s' s x y = (slot_meets s' x ≡ false) × (slot_through (project s' s) x ≡ Some y)

abbrev pub drops : Parts → Parts → List SlotRel
drops no_parts old = []
drops (part t p s ps) no_parts = []
drops (part t p s ps) (part t' p' s' ps') = Drops s s' ∷ drops ps ps'

abbrev pub DropsValue : Schema → Schema → Value → Value → Type 0
DropsValue s' s v' v = (meets_cut s' v' ≡ false) × (project s' s v' ≡ Some v)

pub some_slot_is : (x y : Option Value) → ◌≡◌ {A = Option (Option Value)} (Some x) (Some y) → x ≡ y
some_slot_is x y e = cc

pub some_is : (x y : Value) → ◌≡◌ {A = Option Value} (Some x) (Some y) → x ≡ y
some_is x y e = cc

pub flags_newer_carry : (s' s : Schema) (p' p : Presence) → NewerPresence s' s p' p → (b : Bool) → Carry (FlagOf p' b) (FlagOf p b)
flags_newer_carry s' s required required k b = kept
flags_newer_carry s' s optional optional k b = kept
flags_newer_carry s' s group group k b = kept
flags_newer_carry s' s (default d') (default d) k b = kept
flags_newer_carry s' s _ _ k b = absurd k

pub none_through : (f : Value → Option Value) (x y : Option Value) → x ≡ None → slot_through f x ≡ Some y → y ≡ None
none_through f x y e h = sym (some_slot_is None y (ap (slot_through f) (sym e) ∙ h))

pub left_out_drops : {s' s : Schema} → Newer s' s → (p' p : Presence) → NewerPresence s' s p' p → (x y : Option Value) → Drops s' s x y → IsLeftOut p' x → IsLeftOut p y
left_out_drops n required required k x y h e = e
left_out_drops {s'} {s} n optional optional k x y h e = none_through (project s' s) x y e h.1
left_out_drops {s'} {s} n group group k x y h e = none_through (project s' s) x y e h.1
left_out_drops {s'} {s} n (default d') (default d) k x y h e =
    let m : meets_cut s' d' ≡ false = subst (λ z. slot_meets s' z ≡ false) e h.0 in
    let q : slot_through (project s' s) (Some d') ≡ Some y = subst (λ z. slot_through (project s' s) z ≡ Some y) e h.1 in
    some_slot_is y (Some d) (sym q ∙ slot_back n d d' k m)
left_out_drops n _ _ k x y h e = absurd k

pub part_drops : {t' t : Schema} → Newer t' t → (p' p : Presence) → NewerPresence t' t p' p → (f g : Value → Spelling) → ((v' v : Value) → meets_cut t' v' ≡ false → project t' t v' ≡ Some v → Carry (f v') (g v)) →
    Leads (Drops t' t) (record { presence = p'; spells = f }) (record { presence = p; spells = g })
part_drops {t'} {t} n p' p k f g each = record {
  flags = flags_newer_carry t' t p' p k;
  left_out = left_out_drops n p' p k;
  held = λ v' y h. let q = slot_some (project t' t) v' y h.1 in (q.0, q.2, each v' q.0 h.0 q.1);
}

-- lists
pub zip_first : (f : Value → Option Value) (K : Value → Bool) (vs ws : List Value) → all_of f vs ≡ Some ws → any_of K vs ≡ false → Zip (λ v w. (K v ≡ false) × (f v ≡ Some w)) vs ws
zip_first f K [] [] e m = tt
zip_first f K [] (w ∷ ws) e m = absurd (cc)
zip_first f K (v ∷ vs) ws e m =
    let q = joined_of (f v) (all_of f vs) ws e in
    subst (λ l. Zip (λ v w. (K v ≡ false) × (f v ≡ Some w)) (v ∷ vs) l) (sym q.4)
    ((or_left (K v) (any_of K vs) m, q.2), zip_first f K vs q.1 q.3 (or_right (K v) (any_of K vs) m))

pub list_takes : (a : Settings) (s' s : Schema) (size : Size) (mark : Bool) (f g : Value → Spelling) → ((v' v : Value) → DropsValue s' s v' v → Carry (f v') (g v)) → (v' v : Value) →
    meets_cut (Schema.list s' size mark) v' ≡ false → project (Schema.list s' size mark) (Schema.list s size mark) v' ≡ Some v →
    Carry (As (λ vs. elements (as_values vs)) (Counted a size mark list_items f) v') (As (λ vs. elements (as_values vs)) (Counted a size mark list_items g) v)
unfolding project meets_cut
list_takes a s' s size mark f g each v' v m e = lengthy_as (DropsValue s' s) (λ vs. elements (as_values vs)) (λ vs. elements (as_values vs)) f g each a size mark v' v
    (λ vs i.
    let e' = subst (λ z. project (Schema.list s' size mark) (Schema.list s size mark) z ≡ Some v) i e in
    let m' = subst (λ z. meets_cut (Schema.list s' size mark) z ≡ false) i m in
    let q = made_of (λ ws. elements (as_values ws)) (all_of (project s' s) (values (as_values vs))) v e' in
    (q.0, q.2, zip_first (project s' s) (meets_cut s') vs q.0 (ap (all_of (project s' s)) (sym (values-as_values vs)) ∙ q.1) (subst (λ l. any_of (meets_cut s') l ≡ false) (values-as_values vs) m')))

pub bag_takes : (a : Settings) (s' s : Schema) (size : Size) (mark : Bool) (f g : Value → Spelling) → ((v' v : Value) → DropsValue s' s v' v → Carry (f v') (g v)) → (v' v : Value) →
    meets_cut (Schema.set_of s' size mark) v' ≡ false → project (Schema.set_of s' size mark) (Schema.set_of s size mark) v' ≡ Some v →
    Carry (As bag_of (Counted a size mark list_items f) v') (As bag_of (Counted a size mark list_items g) v)
unfolding project meets_cut bag_of
bag_takes a s' s size mark f g each v' v m e = lengthy_as (DropsValue s' s) bag_of bag_of f g each a size mark v' v
    (λ vs i.
    let sort : List Value = sorted (λ v w. before (code v) (code w)) vs in
    let e' = subst (λ z. project (Schema.set_of s' size mark) (Schema.set_of s size mark) z ≡ Some v) i e in
    let m' = subst (λ z. meets_cut (Schema.set_of s' size mark) z ≡ false) i m in
    let q = made_of bag_of (all_of (project s' s) (values (as_values sort))) v e' in
    let r = bag_source (project s' s) vs q.0 (ap (all_of (project s' s)) (sym (values-as_values sort)) ∙ q.1) in
    let m2 : any_of (meets_cut s') sort ≡ false = subst (λ l. any_of (meets_cut s') l ≡ false) (values-as_values sort) m' in
    (r.0, q.2 ∙ r.2, zip_first (project s' s) (meets_cut s') vs r.0 r.1 (any_in_bag (meets_cut s') vs m2)))

-- items
pub item_takes : (a : Settings) (r e' e : ℕ) (ext : Bool) (v' v : Value) → through_item e v' ≡ Some v →
    Carry (basic a (Schema.items r e' ext) v') (basic a (Schema.items r e ext) v)
unfolding basic_in
item_takes a r e' e ext v' v h = as_carry (λ (x : Side × ℕ). Value.item x.0 x.1) (λ (x : Side × ℕ). Value.item x.0 x.1) (λ x. Basic.Item a r e' ext x.0 x.1) (λ x. Basic.Item a r e ext x.0 x.1) v' v
    (λ x p b i s. let r = go x.0 x.1 p b (subst (λ z. through_item e z ≡ Some v) i h) s in (x, r.0, r.1))
  where
    known : (i : ℕ) (t : Bool) → ltb i e ≡ t → cond t (Some (Value.item added i)) None ≡ Some v → (v ≡ Value.item added i) × (i < e)
    known i true l k = (sym (some_is (Value.item added i) v k), ltb-true i e l)
    known i false l k = absurd (cc)

    go : (d : Side) (i p : ℕ) (b : Bits) → through_item e (Value.item d i) ≡ Some v → Basic.Item a r e' ext d i p b → (v ≡ Value.item d i) × Basic.Item a r e ext d i p b
    go root i p b k s = (sym (some_is (Value.item root i) v k), s)
    go added i p b k s =
        let q = known i (ltb i e) refl k in
        (q.0, record { front = s.front; rest = s.rest; is_front = s.is_front; is_rest = record { known = q.1; spelled = s.is_rest.spelled }; joins = s.joins })

pub plain_takes : (a : Settings) (s : Schema) → IsPlain s → (v' v : Value) → project s s v' ≡ Some v → Carry (basic a s v') (basic a s v)
unfolding project
plain_takes a (Schema.items r e ext) h v' v k = item_takes a r e e ext v' v k
plain_takes a (Schema.containing e) h v' v k = absurd h
plain_takes a (Schema.list e size mark) h v' v k = absurd h
plain_takes a (Schema.set_of e size mark) h v' v k = absurd h
plain_takes a (Schema.sequence o ps ext adds) h v' v k = absurd h
plain_takes a (Schema.choice ps adds ext) h v' v k = absurd h
plain_takes a s h v' v k = subst (λ z. Carry (basic a s v') (basic a s z)) (some_is v' v k) kept

-- slots
pub slot_meets_not : (s' : Schema) (ps' : Parts) (x : Option Value) (xs : List (Option Value)) → in_slots (meets_cut s') (slots_meet_cut ps') (x ∷ xs) ≡ false → (slot_meets s' x ≡ false) × (slots_meet_cut ps' xs ≡ false)
slot_meets_not s' ps' None xs m = (refl, m)
slot_meets_not s' ps' (Some v) xs m = (or_left (meets_cut s' v) (slots_meet_cut ps' xs) m, or_right (meets_cut s' v) (slots_meet_cut ps' xs) m)

along_drops : {ps' ps : Parts} → NewerParts false ps' ps → (xs ys : List (Option Value)) → length xs ≡ count ps' → slots_meet_cut ps' xs ≡ false → project_slots ps' ps xs ≡ Some ys → Along false (drops ps' ps) xs ys
unfolding project meets_cut
along_drops no_more [] [] l m e = tt
along_drops no_more [] (y ∷ ys) l m e = absurd (cc)
along_drops no_more (x ∷ xs) ys l m e = absurd (omega arith)
along_drops (also p n ns) [] ys l m e = absurd (cc)
along_drops (also {s = s} {s' = s'} {ps = ps} {ps' = ps'} p n ns) (x ∷ xs) ys l m e =
    let k = slot_meets_not s' ps' x xs m in
    let q = joined_of (slot_through (project s' s) x) (project_slots ps' ps xs) ys e in
    subst (λ l. Along false (Drops s' s ∷ drops ps' ps) (x ∷ xs) l) (sym q.4) ((k.0, q.2), along_drops ns xs q.1 (omega arith) k.1 q.3)

pub record_takes : (a : Settings) (o : Order) (ext : Bool) (ps' ps adds' adds qs' qs bdds' bdds : Parts) → NewerParts false ps' ps → NewerParts false qs' qs → count ps' ≡ count qs' → count adds' ≡ count bdds' →
    AllLead false (drops qs' qs) (rules a ps') (rules a ps) →
    ((xs ys : List (Option Value)) → length xs ≡ count bdds' → slots_meet_cut bdds' xs ≡ false → project_slots bdds' bdds xs ≡ Some ys → (bs : List Bool) → Carry (Additions_in a true (rules a adds') xs bs) (Additions_in a true (rules a adds) ys bs)) →
    (v' v : Value) → meets_cut (Schema.sequence o qs' ext bdds') v' ≡ false → project (Schema.sequence o qs' ext bdds') (Schema.sequence o qs ext bdds) v' ≡ Some v →
    Carry (basic a (Schema.sequence o ps' ext adds') v') (basic a (Schema.sequence o ps ext adds) v)
unfolding basic_in project meets_cut
record_takes a o ext ps' ps adds' adds qs' qs bdds' bdds n n' c c' k k' v' v m e =
    subst (λ ts. Carry (basic a (Schema.sequence o ps' ext adds') v') (As (λ (x : List (Option Value) × List (Option Value)). fields (as_slots x.0) (as_slots x.1))
    (λ x. Basic.Record_in a true ext (ordered o ts (rules a ps)) (rules a adds) (ordered o ts x.0) x.1) v)) (same_tags n)
    (record_as a true true o (tags ps') ext (drops qs' qs) (rules a ps') (rules a ps) (rules a adds') (rules a adds) k v' v
    (λ x i l l'.
    let e' = subst (λ z. project (Schema.sequence o qs' ext bdds') (Schema.sequence o qs ext bdds) z ≡ Some v) i e in
    let m' = subst (λ z. meets_cut (Schema.sequence o qs' ext bdds') z ≡ false) i m in
    let q = made_both_of (project_slots qs' qs (slots (as_slots x.0))) (project_slots bdds' bdds (slots (as_slots x.1))) v e' in
    let m0 = or_left (slots_meet_cut qs' (slots (as_slots x.0))) (slots_meet_cut bdds' (slots (as_slots x.1))) m' in
    let m1 = or_right (slots_meet_cut qs' (slots (as_slots x.0))) (slots_meet_cut bdds' (slots (as_slots x.1))) m' in (
      (q.0, q.1),
      q.4,
      along_drops n' x.0 q.0 (l ∙ length-rules a ps' ∙ c) (subst (λ z. slots_meet_cut qs' z ≡ false) (slots-as_slots x.0) m0) (subst (λ z. project_slots qs' qs z ≡ Some q.0) (slots-as_slots x.0) q.2),
      k' x.1 q.1 (l' ∙ length-rules a adds' ∙ c') (subst (λ z. slots_meet_cut bdds' z ≡ false) (slots-as_slots x.1) m1) (subst (λ z. project_slots bdds' bdds z ≡ Some q.1) (slots-as_slots x.1) q.3),
    )))

pub same_count : {ps' ps : Parts} → NewerParts false ps' ps → count ps' ≡ count ps
same_count no_more = refl
same_count (also p n ns) = ap (λ k. 1 + k) (same_count ns)

pub choice_takes : (a : Settings) (ext : Bool) (ps' ps adds' adds qs' qs bdds' bdds : Parts) → NewerParts false ps' ps →
    ((i : ℕ) (v' v : Value) → meets_cut_at qs' i v' ≡ false → project_at qs' qs i v' ≡ Some v → Carry (Chosen (rules a ps') i v') (Chosen (rules a ps) i v)) →
    ((i : ℕ) (v' v : Value) → meets_cut_at bdds' i v' ≡ false → project_at bdds' bdds i v' ≡ Some v → Carry (Chosen (rules a adds') i v') (Chosen (rules a adds) i v)) →
    (v' v : Value) → meets_cut (Schema.choice qs' bdds' ext) v' ≡ false → project (Schema.choice qs' bdds' ext) (Schema.choice qs bdds ext) v' ≡ Some v →
    Carry (basic a (Schema.choice ps' adds' ext) v') (basic a (Schema.choice ps adds ext) v)
unfolding basic_in project meets_cut
choice_takes a ext ps' ps adds' adds qs' qs bdds' bdds n k k' v' v m e = choice_as a ext (rules a ps') (rules a ps) (rules a adds') (rules a adds) (length-rules a ps' ∙ same_count n ∙ sym (length-rules a ps)) v' v
    (λ d i x h. go d i x (subst (λ z. meets_cut (Schema.choice qs' bdds' ext) z ≡ false) h m) (subst (λ z. project (Schema.choice qs' bdds' ext) (Schema.choice qs bdds ext) z ≡ Some v) h e))
  where
    go : (d : Side) (i : ℕ) (x : Value) → meets_cut (Schema.choice qs' bdds' ext) (alternative d i x) ≡ false → project (Schema.choice qs' bdds' ext) (Schema.choice qs bdds ext) (alternative d i x) ≡ Some v →
        (y : Value) × (v ≡ alternative d i y) × Carry (Chosen (rules_on d (rules a ps') (rules a adds')) i x) (Chosen (rules_on d (rules a ps) (rules a adds)) i y)
    go root i x m e = let q = made_of (alternative root i) (project_at qs' qs i x) v e in (q.0, q.2, k i x q.0 m q.1)
    go added i x m e = let q = made_of (alternative added i) (project_at bdds' bdds i x) v e in (q.0, q.2, k' i x q.0 m q.1)
