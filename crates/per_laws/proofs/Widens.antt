-- What an older reader reads without unknown additions, a newer one reads as the widening, where there is one: values of each kind, by
-- what is known of their parts. The widening is taken in trees of which the readers' may be cuts.
use Rattle.std.proofs.Common.{◌≡◌, sym, ap, ◌∙◌, subst, ℕ, ◌≤◌, Bool, true, false, ◌||◌, List, [], ◌∷◌, length, arith, Option, Some, None}
use Rattle.rasn_types.specs.Bits.{Bits}
use Rattle.rasn_types.specs.Values.{sorted, before, code, Value, elements, bag_of, fields, alternative, Side, root, added, as_values, as_slots, values, slots}
use Rattle.rasn_types.proofs.Values.{slots-as_slots, values-as_values}
use Rattle.rasn_schema.specs.Depth.{meets_cut, slots_meet_cut, meets_cut_at, in_slots, any_of}
use Rattle.rasn_schema.specs.Orders.{ordered}
use Rattle.rasn_constraints.specs.Bounds.{Size}
use Rattle.rasn_schema.specs.Schemas.{tags, count, Presence, required, optional, group, default, Order, Schema, Parts, no_parts, part}
use Rattle.per_core.specs.Basic
use Rattle.per_core.specs.Basic.{FlagOf, IsLeftOut, As, Unknown_in, Counted, Additions_in, Chosen, basic_in, rules_in}
use Rattle.per_core.specs.Counts.{list_items}
use Rattle.per_core.specs.Spellings.{Settings, Spelling}
use Rattle.rasn_types.specs.AllOf.{all_of}
use Rattle.per_core.specs.Versions.{widen, widen_slots, widen_at, filled_in, all_filled_in, slot_through, NewerPresence, NewerParts, no_more, also}
use Rattle.rasn_schema.proofs.Bags.{bag_source, any_in_bag, joined_of}
use Rattle.per_core.proofs.LengthForms.{Zip, or_left, or_right}
use Rattle.per_core.proofs.Records.{SlotRel, Along}
use Rattle.per_core.proofs.Readings.{length-rules-in}
use Rattle.per_laws.proofs.Carry.{Carry, kept, Leads, AllLead}
use Rattle.per_laws.proofs.Carrying.{as_carry, lengthy_as, record_as, choice_as, rules_on}
use Rattle.per_laws.proofs.Older.{made_of, made_both_of, slot_some, slot_meets, same_tags}
use Rattle.per_laws.proofs.Takes.{some_slot_is, none_through, slot_meets_not, same_count}

abbrev pub Grows : Schema → Schema → SlotRel
Grows s' s x y = (slot_meets s' y ≡ false) × (slot_through (widen s' s) x ≡ Some y)

abbrev pub grows : Parts → Parts → List SlotRel
grows no_parts old = []
grows (part t p s ps) no_parts = []
grows (part t p s ps) (part t' p' s' ps') = Grows s s' ∷ grows ps ps'

abbrev pub GrowsValue : Schema → Schema → Value → Value → Type 0
GrowsValue s' s v v' = (meets_cut s' v' ≡ false) × (widen s' s v ≡ Some v')

pub flags_older_carry : (s' s : Schema) (p' p : Presence) → NewerPresence s' s p' p → (b : Bool) → Carry (FlagOf p b) (FlagOf p' b)
flags_older_carry s' s required required k b = kept
flags_older_carry s' s optional optional k b = kept
flags_older_carry s' s group group k b = kept
flags_older_carry s' s (default d') (default d) k b = kept
flags_older_carry s' s _ _ k b = absurd k

pub left_out_grows : (s' s : Schema) (p' p : Presence) → NewerPresence s' s p' p → (x y : Option Value) → Grows s' s x y → IsLeftOut p x → IsLeftOut p' y
left_out_grows s' s required required k x y h e = e
left_out_grows s' s optional optional k x y h e = none_through (widen s' s) x y e h.1
left_out_grows s' s group group k x y h e = none_through (widen s' s) x y e h.1
left_out_grows s' s (default d') (default d) k x y h e =
    let q = slot_some (widen s' s) d y (subst (λ z. slot_through (widen s' s) z ≡ Some y) e h.1) in
    let m : meets_cut s' q.0 ≡ false = subst (λ z. slot_meets s' z ≡ false) q.2 h.0 in
    q.2 ∙ ap some_value (k.same q.0 q.1 m)
  where
    some_value : Value → Option Value
    some_value v = Some v
left_out_grows s' s _ _ k x y h e = absurd k

pub part_grows : (t' t : Schema) (p' p : Presence) → NewerPresence t' t p' p → (f g : Value → Spelling) → ((v v' : Value) → meets_cut t' v' ≡ false → widen t' t v ≡ Some v' → Carry (f v) (g v')) →
    Leads (Grows t' t) (record { presence = p; spells = f }) (record { presence = p'; spells = g })
part_grows t' t p' p k f g each = record {
  flags = flags_older_carry t' t p' p k;
  left_out = left_out_grows t' t p' p k;
  held = λ v y h.
      let q = slot_some (widen t' t) v y h.1 in
      (q.0, q.2, each v q.0 (subst (λ z. slot_meets t' z ≡ false) q.2 h.0) q.1);
}

pub zip_second : (f : Value → Option Value) (K : Value → Bool) (vs ws : List Value) → all_of f vs ≡ Some ws → any_of K ws ≡ false → Zip (λ v w. (K w ≡ false) × (f v ≡ Some w)) vs ws
zip_second f K [] [] e m = tt
zip_second f K [] (w ∷ ws) e m = absurd (cc)
zip_second f K (v ∷ vs) ws e m =
    let q = joined_of (f v) (all_of f vs) ws e in
    let m' : (K q.0 || any_of K q.1) ≡ false = subst (λ l. any_of K l ≡ false) q.4 m in
    subst (λ l. Zip (λ v w. (K w ≡ false) × (f v ≡ Some w)) (v ∷ vs) l) (sym q.4)
    ((or_left (K q.0) (any_of K q.1) m', q.2), zip_second f K vs q.1 q.3 (or_right (K q.0) (any_of K q.1) m'))

pub list_grows : (a : Settings) (s' s : Schema) (size : Size) (mark : Bool) (f g : Value → Spelling) → ((v v' : Value) → GrowsValue s' s v v' → Carry (f v) (g v')) → (v v' : Value) →
    meets_cut (Schema.list s' size mark) v' ≡ false → widen (Schema.list s' size mark) (Schema.list s size mark) v ≡ Some v' →
    Carry (As (λ vs. elements (as_values vs)) (Counted a size mark list_items f) v) (As (λ vs. elements (as_values vs)) (Counted a size mark list_items g) v')
unfolding widen meets_cut
list_grows a s' s size mark f g each v v' m e = lengthy_as (GrowsValue s' s) (λ vs. elements (as_values vs)) (λ vs. elements (as_values vs)) f g each a size mark v v'
    (λ vs i.
    let e' = subst (λ z. widen (Schema.list s' size mark) (Schema.list s size mark) z ≡ Some v') i e in
    let q = made_of (λ ws. elements (as_values ws)) (all_of (widen s' s) (values (as_values vs))) v' e' in
    let m' = subst (λ z. meets_cut (Schema.list s' size mark) z ≡ false) q.2 m in
    (q.0, q.2, zip_second (widen s' s) (meets_cut s') vs q.0 (ap (all_of (widen s' s)) (sym (values-as_values vs)) ∙ q.1) (subst (λ l. any_of (meets_cut s') l ≡ false) (values-as_values q.0) m')))

pub bag_grows : (a : Settings) (s' s : Schema) (size : Size) (mark : Bool) (f g : Value → Spelling) → ((v v' : Value) → GrowsValue s' s v v' → Carry (f v) (g v')) → (v v' : Value) →
    meets_cut (Schema.set_of s' size mark) v' ≡ false → widen (Schema.set_of s' size mark) (Schema.set_of s size mark) v ≡ Some v' →
    Carry (As bag_of (Counted a size mark list_items f) v) (As bag_of (Counted a size mark list_items g) v')
unfolding widen meets_cut bag_of
bag_grows a s' s size mark f g each v v' m e = lengthy_as (GrowsValue s' s) bag_of bag_of f g each a size mark v v'
    (λ vs i.
    let sort : List Value → List Value = sorted (λ v w. before (code v) (code w)) in
    let e' = subst (λ z. widen (Schema.set_of s' size mark) (Schema.set_of s size mark) z ≡ Some v') i e in
    let q = made_of bag_of (all_of (widen s' s) (values (as_values (sort vs)))) v' e' in
    let r = bag_source (widen s' s) vs q.0 (ap (all_of (widen s' s)) (sym (values-as_values (sort vs))) ∙ q.1) in
    let m' = subst (λ z. meets_cut (Schema.set_of s' size mark) z ≡ false) (q.2 ∙ r.2) m in
    let m2 : any_of (meets_cut s') (sort r.0) ≡ false = subst (λ l. any_of (meets_cut s') l ≡ false) (values-as_values (sort r.0)) m' in
    (r.0, q.2 ∙ r.2, zip_second (widen s' s) (meets_cut s') vs r.0 r.1 (any_in_bag (meets_cut s') r.0 m2)))

pub item_grows : (a : Settings) (r e' e : ℕ) (ext : Bool) → e ≤ e' → (v : Value) → Carry (basic_in a false (Schema.items r e ext) v) (basic_in a false (Schema.items r e' ext) v)
unfolding basic_in
item_grows a r e' e ext l v = as_carry (λ (x : Side × ℕ). Value.item x.0 x.1) (λ (x : Side × ℕ). Value.item x.0 x.1) (λ x. Basic.Item a r e ext x.0 x.1) (λ x. Basic.Item a r e' ext x.0 x.1) v v
    (λ x p b i s. (x, i, go x.0 x.1 p b s))
  where
    go : (d : Side) (i p : ℕ) (b : Bits) → Basic.Item a r e ext d i p b → Basic.Item a r e' ext d i p b
    go root i p b s = s
    go added i p b s = let known = s.is_rest.known in record { front = s.front; rest = s.rest; is_front = s.is_front; is_rest = record { known = omega arith; spelled = s.is_rest.spelled }; joins = s.joins }

along_grows : {ps' ps : Parts} → NewerParts false ps' ps → (xs ys : List (Option Value)) → length xs ≡ count ps → slots_meet_cut ps' ys ≡ false → widen_slots ps' ps xs ≡ Some ys → Along false (grows ps' ps) xs ys
unfolding widen meets_cut
along_grows no_more [] [] l m e = tt
along_grows no_more [] (y ∷ ys) l m e = absurd (cc)
along_grows no_more (x ∷ xs) ys l m e = absurd (omega arith)
along_grows (also p n ns) [] ys l m e = absurd (cc)
along_grows (also {s = s} {s' = s'} {ps = ps} {ps' = ps'} p n ns) (x ∷ xs) ys l m e =
    let q = joined_of (slot_through (widen s' s) x) (widen_slots ps' ps xs) ys e in
    let k = slot_meets_not s' ps' q.0 q.1 (subst (λ l. in_slots (meets_cut s') (slots_meet_cut ps') l ≡ false) q.4 m) in
    subst (λ l. Along false (Grows s' s ∷ grows ps' ps) (x ∷ xs) l) (sym q.4) ((k.0, q.2), along_grows ns xs q.1 (omega arith) k.1 q.3)

-- additions that only the newer reader knows are left out
pub filled_left : (p : Presence) (y : Option Value) → filled_in p ≡ Some y → IsLeftOut p y
filled_left required y e = absurd (cc)
filled_left optional y e = sym (some_slot_is None y e)
filled_left group y e = sym (some_slot_is None y e)
filled_left (default d) y e = sym (some_slot_is (Some d) y e)

pub filled_carry : (a : Settings) (ps : Parts) (ys : List (Option Value)) → all_filled_in ps ≡ Some ys → (bs : List Bool) → Carry (Unknown_in a false bs) (Additions_in a false (rules_in a false ps) ys bs)
unfolding rules_in
filled_carry a no_parts [] e bs = kept
filled_carry a no_parts (y ∷ ys) e bs = absurd (cc)
filled_carry a (part t p s ps) [] e bs = let q = joined_of (filled_in p) (all_filled_in ps) [] e in let h : [] ≡ q.0 ∷ q.1 = q.4 in absurd (cc)
filled_carry a (part t p s ps) (y ∷ ys) e bs =
    let q = joined_of (filled_in p) (all_filled_in ps) (y ∷ ys) e in
    let w : y ∷ ys ≡ q.0 ∷ q.1 = q.4 in
    let i : y ≡ q.0 = cc in
    let j : ys ≡ q.1 = cc in
    go (filled_left p y (subst (λ z. filled_in p ≡ Some z) (sym i) q.2)) (filled_carry a ps ys (subst (λ z. all_filled_in ps ≡ Some z) (sym j) q.3)) bs
  where
    go : IsLeftOut p y → ((bs : List Bool) → Carry (Unknown_in a false bs) (Additions_in a false (rules_in a false ps) ys bs)) → (bs : List Bool) → Carry (Unknown_in a false bs) (Additions_in a false (rules_in a false (part t p s ps)) (y ∷ ys) bs)
    go l rest [] = record { carry = λ n b x. (l, (rest []).carry n b x) }
    go l rest (false ∷ bs) = record { carry = λ n b x. (l, (rest bs).carry n b x) }
    go l rest (true ∷ bs) = record { carry = λ n b x. absurd x }

pub record_grows : (a : Settings) (o : Order) (ext : Bool) (ps' ps adds' adds qs' qs bdds' bdds : Parts) → NewerParts false ps' ps → NewerParts false qs' qs → count ps ≡ count qs → count adds ≡ count bdds →
    AllLead false (grows qs' qs) (rules_in a false ps) (rules_in a false ps') →
    ((xs ys : List (Option Value)) → length xs ≡ count bdds → slots_meet_cut bdds' ys ≡ false → widen_slots bdds' bdds xs ≡ Some ys → (bs : List Bool) → Carry (Additions_in a false (rules_in a false adds) xs bs) (Additions_in a false (rules_in a false adds') ys bs)) →
    (v v' : Value) → meets_cut (Schema.sequence o qs' ext bdds') v' ≡ false → widen (Schema.sequence o qs' ext bdds') (Schema.sequence o qs ext bdds) v ≡ Some v' →
    Carry (basic_in a false (Schema.sequence o ps ext adds) v) (basic_in a false (Schema.sequence o ps' ext adds') v')
unfolding basic_in widen meets_cut
record_grows a o ext ps' ps adds' adds qs' qs bdds' bdds n n' c c' k k' v v' m e =
    subst (λ ts. Carry (basic_in a false (Schema.sequence o ps ext adds) v) (As (λ (x : List (Option Value) × List (Option Value)). fields (as_slots x.0) (as_slots x.1))
    (λ x. Basic.Record_in a false ext (ordered o ts (rules_in a false ps')) (rules_in a false adds') (ordered o ts x.0) x.1) v')) (sym (same_tags n))
    (record_as a false false o (tags ps) ext (grows qs' qs) (rules_in a false ps) (rules_in a false ps') (rules_in a false adds) (rules_in a false adds') k v v'
    (λ x i l l'.
    let e' = subst (λ z. widen (Schema.sequence o qs' ext bdds') (Schema.sequence o qs ext bdds) z ≡ Some v') i e in
    let q = made_both_of (widen_slots qs' qs (slots (as_slots x.0))) (widen_slots bdds' bdds (slots (as_slots x.1))) v' e' in
    let m' = subst (λ z. meets_cut (Schema.sequence o qs' ext bdds') z ≡ false) q.4 m in
    let m0 = or_left (slots_meet_cut qs' (slots (as_slots q.0))) (slots_meet_cut bdds' (slots (as_slots q.1))) m' in
    let m1 = or_right (slots_meet_cut qs' (slots (as_slots q.0))) (slots_meet_cut bdds' (slots (as_slots q.1))) m' in (
      (q.0, q.1),
      q.4,
      along_grows n' x.0 q.0 (l ∙ length-rules-in a false ps ∙ c) (subst (λ z. slots_meet_cut qs' z ≡ false) (slots-as_slots q.0) m0) (subst (λ z. widen_slots qs' qs z ≡ Some q.0) (slots-as_slots x.0) q.2),
      k' x.1 q.1 (l' ∙ length-rules-in a false adds ∙ c') (subst (λ z. slots_meet_cut bdds' z ≡ false) (slots-as_slots q.1) m1) (subst (λ z. widen_slots bdds' bdds z ≡ Some q.1) (slots-as_slots x.1) q.3),
    )))

pub choice_grows : (a : Settings) (ext : Bool) (ps' ps adds' adds qs' qs bdds' bdds : Parts) → NewerParts false ps' ps →
    ((i : ℕ) (v v' : Value) → meets_cut_at qs' i v' ≡ false → widen_at qs' qs i v ≡ Some v' → Carry (Chosen (rules_in a false ps) i v) (Chosen (rules_in a false ps') i v')) →
    ((i : ℕ) (v v' : Value) → meets_cut_at bdds' i v' ≡ false → widen_at bdds' bdds i v ≡ Some v' → Carry (Chosen (rules_in a false adds) i v) (Chosen (rules_in a false adds') i v')) →
    (v v' : Value) → meets_cut (Schema.choice qs' bdds' ext) v' ≡ false → widen (Schema.choice qs' bdds' ext) (Schema.choice qs bdds ext) v ≡ Some v' →
    Carry (basic_in a false (Schema.choice ps adds ext) v) (basic_in a false (Schema.choice ps' adds' ext) v')
unfolding basic_in widen meets_cut
choice_grows a ext ps' ps adds' adds qs' qs bdds' bdds n k k' v v' m e = choice_as a ext (rules_in a false ps) (rules_in a false ps') (rules_in a false adds) (rules_in a false adds')
    (length-rules-in a false ps ∙ sym (same_count n) ∙ sym (length-rules-in a false ps')) v v'
    (λ d i x h. go d i x (subst (λ z. widen (Schema.choice qs' bdds' ext) (Schema.choice qs bdds ext) z ≡ Some v') h e))
  where
    go : (d : Side) (i : ℕ) (x : Value) → widen (Schema.choice qs' bdds' ext) (Schema.choice qs bdds ext) (alternative d i x) ≡ Some v' →
        (y : Value) × (v' ≡ alternative d i y) × Carry (Chosen (rules_on d (rules_in a false ps) (rules_in a false adds)) i x) (Chosen (rules_on d (rules_in a false ps') (rules_in a false adds')) i y)
    go root i x e = let q = made_of (alternative root i) (widen_at qs' qs i x) v' e in (q.0, q.2, k i x q.0 (subst (λ z. meets_cut (Schema.choice qs' bdds' ext) z ≡ false) q.2 m) q.1)
    go added i x e = let q = made_of (alternative added i) (widen_at bdds' bdds i x) v' e in (q.0, q.2, k' i x q.0 (subst (λ z. meets_cut (Schema.choice qs' bdds' ext) z ≡ false) q.2 m) q.1)
