-- Where a newer and an older reader read the same bits, the older one's value is the projection of the newer one's.
use Rattle.std.proofs.Common.{◌≡◌, refl, sym, ap, ◌∙◌, subst, ℕ, zero, suc, ◌<◌, Bool, true, false, cond, List, [], ◌∷◌, arith, Option, Some, None, lt-ltb}
use Rattle.rasn_types.specs.Bits.{Bits}
use Rattle.rasn_types.specs.Values.{sorted, before, code, Value, elements, bag_of, fields, alternative, Side, root, added, bag, values, as_values, slots, as_slots}
use Rattle.rasn_types.proofs.Values.{values-as_values, slots-as_slots}
use Rattle.rasn_schema.specs.Depth.{meets_cut, slots_meet_cut, meets_cut_at, in_elements, in_fields, any_of}
use Rattle.rasn_schema.specs.Orders.{ordered}
use Rattle.rasn_schema.specs.Schemas
use Rattle.rasn_constraints.specs.Bounds.{Size}
use Rattle.rasn_schema.specs.Schemas.{tags, count, Presence, required, optional, group, default, Order, Schema, Parts, no_parts, part}
use Rattle.per_core.specs.Basic
use Rattle.per_core.specs.Basic.{FlagOf, IsLeftOut, Record, Counted, basic, basic_in, rules, Fills}
use Rattle.per_core.specs.Counts.{list_items}
use Rattle.per_core.specs.Spellings.{Settings}
use Rattle.rasn_types.specs.AllOf.{joined, all_of}
use Rattle.per_core.specs.Versions.{project, project_slots, project_at, widen, widen_slots, widen_at, slot_through, slots_through, through_elements, through_bag, through_fields, through_alternative, through_item, made, made_both, IsPlain, NewerPresence, Newer, NewerParts, unchanged, more_items, newer_containing, newer_list, newer_set_of, newer_sequence, newer_choice, no_more, more_parts, also}
use Rattle.per_core.proofs.SpellingsAgree.{Agree, weaken}
use Rattle.rasn_schema.proofs.Bags.{bag_becomes, any_in_bag, joined_of}
use Rattle.per_core.proofs.LengthForms.{Zip, lengthy_agree, or_left, or_right}
use Rattle.per_core.proofs.Records.{SlotRel, AllKin, Along, fields_agree}
use Rattle.per_core.proofs.Unique.{as_agree, fills_agree, open_agree}
use Rattle.per_core.proofs.Readings.{one_reading, item_agree, alternative_agree, ordered-kin, along-listed, rel_at, length-rules, same_flags, some_same}

-- what a slot of the newer reader and one of the older have in common, where no default is cut off
abbrev pub slot_meets : Schema → Option Value → Bool
slot_meets s None = false
slot_meets s (Some v) = meets_cut s v

abbrev pub Projects : Schema → Schema → SlotRel
Projects s' s x y = slot_meets s' x ≡ false → slot_through (project s' s) x ≡ Some y

abbrev pub rels : Parts → Parts → List SlotRel
rels no_parts old = []
rels (part t p s ps) no_parts = []
rels (part t p s ps) (part t' p' s' ps') = Projects s s' ∷ rels ps ps'

abbrev pub ProjectsValue : Schema → Schema → Value → Value → Type 0
ProjectsValue s' s v' v = meets_cut s' v' ≡ false → project s' s v' ≡ Some v

-- what `made` was made of
pub made_of : {A : Type 0} (f : A → Value) (o : Option A) (v : Value) → made f o ≡ Some v → (x : A) × (o ≡ Some x) × (v ≡ f x)
made_of f None v e = absurd (cc)
made_of f (Some x) v e = (x, refl, cc)

pub made_both_of : (o q : Option (List (Option Value))) (v : Value) → made_both o q ≡ Some v → (r : List (Option Value)) × (x : List (Option Value)) × (o ≡ Some r) × (q ≡ Some x) × (v ≡ fields (as_slots r) (as_slots x))
made_both_of None q v e = absurd (cc)
made_both_of (Some r) None v e = absurd (cc)
made_both_of (Some r) (Some x) v e = (r, x, refl, refl, cc)

-- f goes up, g stays, h comes back
Returns : (f g h : Value → Option Value) → Type 0
Returns f g h = (d d' d0 : Value) → f d ≡ Some d' → g d ≡ Some d0 → h d' ≡ Some d0

all_return : (f g h : Value → Option Value) → Returns f g h → (vs ws us : List Value) → all_of f vs ≡ Some ws → all_of g vs ≡ Some us → all_of h ws ≡ Some us
unfolding Returns
all_return f g h r [] ws us e k = let e' : [] ≡ ws = cc in let k' : [] ≡ us = cc in subst (λ l. all_of h l ≡ Some us) e' (ap some_list k')
  where
    some_list : List Value → Option (List Value)
    some_list l = Some l
all_return f g h r (v ∷ vs) ws us e k =
    let q = joined_of (f v) (all_of f vs) ws e in let t = joined_of (g v) (all_of g vs) us k in
    let a : h q.0 ≡ Some t.0 = r v q.0 t.0 q.2 t.2 in
    let b : all_of h q.1 ≡ Some t.1 = all_return f g h r vs q.1 t.1 q.3 t.3 in
    ap (all_of h) q.4 ∙ ap (λ o. joined o (all_of h q.1)) a ∙ ap (λ o. joined (Some t.0) o) b ∙ ap some_list (sym t.4)
  where
    some_list : List Value → Option (List Value)
    some_list l = Some l

elements_return : (f g h : Value → Option Value) → Returns f g h → Returns (through_elements f) (through_elements g) (through_elements h)
unfolding Returns
elements_return f g h r (elements vs) d' d0 e k =
    let q = made_of (λ ws. elements (as_values ws)) (all_of f (values vs)) d' e in let t = made_of (λ ws. elements (as_values ws)) (all_of g (values vs)) d0 k in
    ap (through_elements h) q.2 ∙ ap (λ l. made (λ us. elements (as_values us)) (all_of h l)) (values-as_values q.0)
    ∙ ap (made (λ us. elements (as_values us))) (all_return f g h r (values vs) q.0 t.0 q.1 t.1) ∙ ap some_v (sym t.2)
  where
    some_v : Value → Option Value
    some_v v = Some v
elements_return f g h r _ d' d0 e k = absurd (cc)

bags_return : (f g h : Value → Option Value) → Returns f g h → Returns (through_bag f) (through_bag g) (through_bag h)
unfolding Returns bag_of
bags_return f g h r (bag vs) d' d0 e k =
    let q = made_of bag_of (all_of f (values vs)) d' e in let t = made_of bag_of (all_of g (values vs)) d0 k in
    let sort : List Value = sorted (λ v w. before (code v) (code w)) q.0 in
    let u = bag_becomes h q.0 t.0 (all_return f g h r (values vs) q.0 t.0 q.1 t.1) in
    ap (through_bag h) q.2 ∙ ap (λ l. made bag_of (all_of h l)) (values-as_values sort) ∙ ap (made bag_of) u.1 ∙ ap some_v (u.2 ∙ sym t.2)
  where
    some_v : Value → Option Value
    some_v v = Some v
bags_return f g h r _ d' d0 e k = absurd (cc)

ReturnSlots : (f g h : List (Option Value) → Option (List (Option Value))) → Type 0
ReturnSlots f g h = (xs ys zs : List (Option Value)) → f xs ≡ Some ys → g xs ≡ Some zs → h ys ≡ Some zs

fields_return : (f g h f' g' h' : List (Option Value) → Option (List (Option Value))) → ReturnSlots f g h → ReturnSlots f' g' h' → Returns (through_fields f f') (through_fields g g') (through_fields h h')
unfolding Returns ReturnSlots
fields_return f g h f' g' h' r r' (fields a b) d' d0 e k =
    let q = made_both_of (f (slots a)) (f' (slots b)) d' e in let t = made_both_of (g (slots a)) (g' (slots b)) d0 k in
    ap (through_fields h h') q.4 ∙ ap (λ l. made_both (h l) (h' (slots (as_slots q.1)))) (slots-as_slots q.0) ∙ ap (λ l. made_both (h q.0) (h' l)) (slots-as_slots q.1)
    ∙ ap (λ o. made_both o (h' q.1)) (r (slots a) q.0 t.0 q.2 t.2) ∙ ap (made_both (Some t.0)) (r' (slots b) q.1 t.1 q.3 t.3) ∙ ap some_v (sym t.4)
  where
    some_v : Value → Option Value
    some_v v = Some v
fields_return f g h f' g' h' r r' _ d' d0 e k = absurd (cc)

ReturnAt : (f g h : ℕ → Value → Option Value) → Type 0
ReturnAt f g h = (i : ℕ) (d d' d0 : Value) → f i d ≡ Some d' → g i d ≡ Some d0 → h i d' ≡ Some d0

alternative_return : (f g h f' g' h' : ℕ → Value → Option Value) → ReturnAt f g h → ReturnAt f' g' h' → Returns (through_alternative f f') (through_alternative g g') (through_alternative h h')
unfolding Returns ReturnAt
alternative_return f g h f' g' h' r r' (alternative root i v) d' d0 e k =
    let q = made_of (alternative root i) (f i v) d' e in let t = made_of (alternative root i) (g i v) d0 k in
    ap (through_alternative h h') q.2 ∙ ap (made (alternative root i)) (r i v q.0 t.0 q.1 t.1) ∙ ap some_v (sym t.2)
  where
    some_v : Value → Option Value
    some_v v = Some v
alternative_return f g h f' g' h' r r' (alternative added i v) d' d0 e k =
    let q = made_of (alternative added i) (f' i v) d' e in let t = made_of (alternative added i) (g' i v) d0 k in
    ap (through_alternative h h') q.2 ∙ ap (made (alternative added i)) (r' i v q.0 t.0 q.1 t.1) ∙ ap some_v (sym t.2)
  where
    some_v : Value → Option Value
    some_v v = Some v
alternative_return f g h f' g' h' r r' _ d' d0 e k = absurd (cc)

pub slot_some : (f : Value → Option Value) (v : Value) (y : Option Value) → slot_through f (Some v) ≡ Some y → (w : Value) × (f v ≡ Some w) × (y ≡ Some w)
slot_some f v y e = go (f v) e
  where
    go : (o : Option Value) → ◌≡◌ {A = Option (Option Value)} (elim o [ None ↦ None | Some w ↦ Some (Some w) ]) (Some y) → (w : Value) × (o ≡ Some w) × (y ≡ Some w)
    go None e = absurd (cc)
    go (Some w) e = (w, refl, cc)

slot_return : (f g h : Value → Option Value) → Returns f g h → (x y z : Option Value) → slot_through f x ≡ Some y → slot_through g x ≡ Some z → slot_through h y ≡ Some z
unfolding Returns
slot_return f g h r None y z e k = let u : None ≡ y = cc in let w : None ≡ z = cc in subst (λ o. slot_through h o ≡ Some z) u (ap some_slot w)
  where
    some_slot : Option Value → Option (Option Value)
    some_slot o = Some o
slot_return f g h r (Some v) y z e k =
    let q = slot_some f v y e in let t = slot_some g v z k in
    let a : h q.0 ≡ Some t.0 = r v q.0 t.0 q.1 t.1 in
    ap (slot_through h) q.2 ∙ ap (λ o. elim o [ None ↦ None | Some w ↦ Some (Some w) ]) a ∙ ap some_slot (sym t.2)
  where
    some_slot : Option Value → Option (Option Value)
    some_slot o = Some o

slots_return : (f g h : Value → Option Value) (F G H : List (Option Value) → Option (List (Option Value))) → Returns f g h → ReturnSlots F G H → ReturnSlots (slots_through f F) (slots_through g G) (slots_through h H)
unfolding ReturnSlots
slots_return f g h F G H r rs [] ys zs e k = absurd (cc)
slots_return f g h F G H r rs (x ∷ xs) ys zs e k =
    let q = joined_of (slot_through f x) (F xs) ys e in let t = joined_of (slot_through g x) (G xs) zs k in
    ap (slots_through h H) q.4 ∙ ap (λ o. joined o (H q.1)) (slot_return f g h r x q.0 t.0 q.2 t.2) ∙ ap (λ o. joined (Some t.0) o) (rs xs q.1 t.1 q.3 t.3) ∙ ap some_slots (sym t.4)
  where
    some_slots : List (Option Value) → Option (List (Option Value))
    some_slots o = Some o

pub plain_widen : (s : Schema) → IsPlain s → (d : Value) → widen s s d ≡ Some d
unfolding widen
plain_widen (Schema.containing e) h d = absurd h
plain_widen (Schema.list e size mark) h d = absurd h
plain_widen (Schema.set_of e size mark) h d = absurd h
plain_widen (Schema.sequence o ps ext adds) h d = absurd h
plain_widen (Schema.choice ps adds ext) h d = absurd h
plain_widen _ h d = refl

plain_return : (s : Schema) → IsPlain s → Returns (widen s s) (project s s) (project s s)
unfolding Returns
plain_return s p d d' d0 e k = let u : d ≡ d' = (let x : ◌≡◌ {A = Option Value} (Some d) (Some d') = sym (plain_widen s p d) ∙ e in cc) in ap (project s s) (sym u) ∙ k

at_return : (f g h : Value → Option Value) (F G H : ℕ → Value → Option Value) → Returns f g h → ReturnAt F G H →
    ReturnAt (elim [ zero ↦ f | suc i ↦ F i ]) (elim [ zero ↦ g | suc i ↦ G i ]) (elim [ zero ↦ h | suc i ↦ H i ])
unfolding Returns ReturnAt
at_return f g h F G H r rs zero d d' d0 e k = r d d' d0 e k
at_return f g h F G H r rs (suc i) d d' d0 e k = rs i d d' d0 e k

mutual
  unfolding widen project Returns ReturnSlots ReturnAt

  back : {s' s : Schema} → Newer s' s → Returns (widen s' s) (project s s) (project s' s)
  back (unchanged {s = s} p) = plain_return s p
  back (more_items h) = λ d d' d0 e k. let u : d' ≡ d = cc in ap (through_item _) u ∙ k
  back (newer_containing n) = back n
  back (newer_list {e = e} {e' = e'} n) = elements_return (widen e' e) (project e e) (project e' e) (back n)
  back (newer_set_of {e = e} {e' = e'} n) = bags_return (widen e' e) (project e e) (project e' e) (back n)
  back (newer_sequence {ps = ps} {ps' = ps'} {adds = adds} {adds' = adds'} n m) = fields_return (widen_slots ps' ps) (project_slots ps ps) (project_slots ps' ps) (widen_slots adds' adds) (project_slots adds adds) (project_slots adds' adds) (back_slots n) (back_slots m)
  back (newer_choice {ps = ps} {ps' = ps'} {adds = adds} {adds' = adds'} n m) = alternative_return (widen_at ps' ps) (project_at ps ps) (project_at ps' ps) (widen_at adds' adds) (project_at adds adds) (project_at adds' adds) (back_at n) (back_at m)

  back_slots : {may : Bool} {ps' ps : Parts} → NewerParts may ps' ps → ReturnSlots (widen_slots ps' ps) (project_slots ps ps) (project_slots ps' ps)
  back_slots no_more = λ xs ys zs e k. k
  back_slots more_parts = λ xs ys zs e k. k
  back_slots (also {s = s} {s' = s'} {ps = ps} {ps' = ps'} p n ns) = slots_return (widen s' s) (project s s) (project s' s) (widen_slots ps' ps) (project_slots ps ps) (project_slots ps' ps) (back n) (back_slots ns)

  back_at : {may : Bool} {ps' ps : Parts} → NewerParts may ps' ps → ReturnAt (widen_at ps' ps) (project_at ps ps) (project_at ps' ps)
  back_at no_more = λ i d d' d0 e k. absurd (let x : ◌≡◌ {A = Option Value} None (Some d') = e in cc)
  back_at more_parts = λ i d d' d0 e k. absurd (let x : ◌≡◌ {A = Option Value} None (Some d') = e in cc)
  back_at (also {s = s} {s' = s'} {ps = ps} {ps' = ps'} p n ns) = at_return (widen s' s) (project s s) (project s' s) (widen_at ps' ps) (project_at ps ps) (project_at ps' ps) (back n) (back_at ns)

pub flags_newer : (s' s : Schema) (p' p : Presence) → NewerPresence s' s p' p → (b b' : Bool) → Agree (b ≡ b') (FlagOf p' b) (FlagOf p b')
flags_newer s' s required required n b b' = same_flags required b b'
flags_newer s' s optional optional n b b' = same_flags optional b b'
flags_newer s' s group group n b b' = same_flags group b b'
flags_newer s' s (default d') (default d) n b b' = same_flags optional b b'
flags_newer s' s _ _ n b b' = absurd n

pub slot_back : {s' s : Schema} → Newer s' s → (d d' : Value) → NewerPresence s' s (default d') (default d) → meets_cut s' d' ≡ false → slot_through (project s' s) (Some d') ≡ Some (Some d)
unfolding Returns
slot_back {s'} {s} n d d' h m = let e : project s' s d' ≡ Some d = back n d d' d (h.there m) h.valid in rw (e, slot_through) refl

left_out_newer : {s' s : Schema} → Newer s' s → (p' p : Presence) → NewerPresence s' s p' p → (x y : Option Value) → IsLeftOut p' x → IsLeftOut p y → Projects s' s x y
left_out_newer n required required k x y e f = absurd e
left_out_newer n optional optional k x y e f = λ m. rw (e, f) refl
left_out_newer n group group k x y e f = λ m. rw (e, f) refl
left_out_newer {s'} {s} n (default d') (default d) k x y e f = subst (λ z. Projects s' s z y) (sym e) (subst (λ z. Projects s' s (Some d') z) (sym f) (slot_back n d d' k))
left_out_newer n _ _ k x y e f = absurd k

all_project : (s' s : Schema) (vs ws : List Value) → Zip (ProjectsValue s' s) vs ws → any_of (meets_cut s') vs ≡ false → all_of (project s' s) vs ≡ Some ws
all_project s' s [] [] z m = refl
all_project s' s [] (w ∷ ws) z m = absurd z
all_project s' s (v ∷ vs) [] z m = absurd z
all_project s' s (v ∷ vs) (w ∷ ws) z m =
    let e : project s' s v ≡ Some w = z.0 (or_left (meets_cut s' v) (any_of (meets_cut s') vs) m) in
    let r : all_of (project s' s) vs ≡ Some ws = all_project s' s vs ws z.1 (or_right (meets_cut s' v) (any_of (meets_cut s') vs) m) in
    ap (λ o. joined o (all_of (project s' s) vs)) e ∙ ap (λ o. joined (Some w) o) r

list_project : (s' s : Schema) (vs ws : List Value) → Zip (ProjectsValue s' s) vs ws → in_elements (meets_cut s') (elements (as_values vs)) ≡ false →
    through_elements (project s' s) (elements (as_values vs)) ≡ Some (elements (as_values ws))
list_project s' s vs ws z m =
    let h : any_of (meets_cut s') vs ≡ false = subst (λ l. any_of (meets_cut s') l ≡ false) (values-as_values vs) m in
    ap (λ l. made (λ us. elements (as_values us)) (all_of (project s' s) l)) (values-as_values vs) ∙ ap (made (λ us. elements (as_values us))) (all_project s' s vs ws z h)

along_project : {may : Bool} {ps' ps : Parts} → NewerParts may ps' ps → (xs ys : List (Option Value)) → Along may (rels ps' ps) xs ys → slots_meet_cut ps' xs ≡ false → project_slots ps' ps xs ≡ Some ys
unfolding project meets_cut
along_project no_more [] [] k m = refl
along_project no_more [] (y ∷ ys) k m = absurd k
along_project {may = false} no_more (x ∷ xs) [] k m = absurd k
along_project {may = true} no_more (x ∷ xs) [] k m = refl
along_project {may = false} no_more (x ∷ xs) (y ∷ ys) k m = absurd k
along_project {may = true} no_more (x ∷ xs) (y ∷ ys) k m = absurd k
along_project more_parts [] [] k m = refl
along_project more_parts [] (y ∷ ys) k m = absurd k
along_project more_parts (x ∷ xs) [] k m = refl
along_project more_parts (x ∷ xs) (y ∷ ys) k m = absurd k
along_project (also p n ns) [] ys k m = absurd k
along_project (also p n ns) (x ∷ xs) [] k m = absurd k
along_project (also {s = s} {s' = s'} {ps = ps} {ps' = ps'} p n ns) (None ∷ xs) (y ∷ ys) k m =
    let e = k.0 refl in let r = along_project ns xs ys k.1 m in
    ap (λ o. joined o (project_slots ps' ps xs)) e ∙ ap (λ o. joined (Some y) o) r
along_project (also {s = s} {s' = s'} {ps = ps} {ps' = ps'} p n ns) (Some v ∷ xs) (y ∷ ys) k m =
    let e = k.0 (or_left (meets_cut s' v) (slots_meet_cut ps' xs) m) in
    let r = along_project ns xs ys k.1 (or_right (meets_cut s' v) (slots_meet_cut ps' xs) m) in
    ap (λ o. joined o (project_slots ps' ps xs)) e ∙ ap (λ o. joined (Some y) o) r

fields_project : {may : Bool} (o : Order) (ext : Bool) {ps' ps adds' adds : Parts} → NewerParts false ps' ps → NewerParts may adds' adds → (x y : List (Option Value) × List (Option Value)) →
    Along false (rels ps' ps) x.0 y.0 → Along may (rels adds' adds) x.1 y.1 →
    in_fields (slots_meet_cut ps') (slots_meet_cut adds') (fields (as_slots x.0) (as_slots x.1)) ≡ false →
    through_fields (project_slots ps' ps) (project_slots adds' adds) (fields (as_slots x.0) (as_slots x.1)) ≡ Some (fields (as_slots y.0) (as_slots y.1))
fields_project o ext {ps'} {ps} {adds'} {adds} n ns x y k k' m =
    let h = or_left (slots_meet_cut ps' (slots (as_slots x.0))) (slots_meet_cut adds' (slots (as_slots x.1))) m in
    let h' = or_right (slots_meet_cut ps' (slots (as_slots x.0))) (slots_meet_cut adds' (slots (as_slots x.1))) m in
    let q = along_project n x.0 y.0 k (subst (λ l. slots_meet_cut ps' l ≡ false) (slots-as_slots x.0) h) in
    let q' = along_project ns x.1 y.1 k' (subst (λ l. slots_meet_cut adds' l ≡ false) (slots-as_slots x.1) h') in
    ap (λ l. made_both (project_slots ps' ps l) (project_slots adds' adds (slots (as_slots x.1)))) (slots-as_slots x.0)
    ∙ ap (λ l. made_both (project_slots ps' ps x.0) (project_slots adds' adds l)) (slots-as_slots x.1)
    ∙ ap (λ z. made_both z (project_slots adds' adds x.1)) q ∙ ap (λ z. made_both (Some y.0) z) q'

pub slot_value : (s' s : Schema) (v' v : Value) → slot_through (project s' s) (Some v') ≡ Some (Some v) → project s' s v' ≡ Some v
slot_value s' s v' v e = go (project s' s v') e
  where
    go : (o : Option Value) → ◌≡◌ {A = Option (Option Value)} (elim o [ None ↦ None | Some w ↦ Some (Some w) ]) (Some (Some v)) → o ≡ Some v
    go None e = absurd (cc)
    go (Some w) e = cc

at_project : {may : Bool} {ps' ps : Parts} → NewerParts may ps' ps → (i : ℕ) (v' v : Value) → i < count ps → rel_at (rels ps' ps) i (Some v') (Some v) → meets_cut_at ps' i v' ≡ false →
    project_at ps' ps i v' ≡ Some v
unfolding project meets_cut
at_project no_more i v' v l e m = absurd (omega arith)
at_project more_parts i v' v l e m = absurd (omega arith)
at_project (also {s = s} {s' = s'} p n ns) zero v' v l e m = slot_value s' s v' v (e m)
at_project (also p n ns) (suc i) v' v l e m = at_project ns i v' v (omega arith) e m

pub same_tags : {ps' ps : Parts} → NewerParts false ps' ps → tags ps' ≡ tags ps
same_tags no_more = refl
same_tags (also {t = t} p n ns) = ap (λ l. Schemas.smallest t ∷ l) (same_tags ns)

item_project : (a : Settings) (r e : ℕ) (ext : Bool) (d : Side) (i p : ℕ) (b : Bits) → Basic.Item a r e ext d i p b → through_item e (Value.item d i) ≡ Some (Value.item d i)
item_project a r e ext root i p b x = refl
item_project a r e ext added i p b x = ap (λ c. cond c (Some (Value.item added i)) None) (lt-ltb i e x.is_rest.known)

items_read : (a : Settings) (r e' e : ℕ) (ext : Bool) (v' v : Value) → Agree (ProjectsValue (Schema.items r e' ext) (Schema.items r e ext) v' v) (basic a (Schema.items r e' ext) v') (basic a (Schema.items r e ext) v)
unfolding basic_in project
items_read a r e' e ext v' v = as_agree (ProjectsValue (Schema.items r e' ext) (Schema.items r e ext)) (λ x. Value.item x.0 x.1) (λ x. Value.item x.0 x.1)
    (λ x. Basic.Item a r e' ext x.0 x.1) (λ x. Basic.Item a r e ext x.0 x.1) v' v
    (λ x y. record {
      agree = λ p b c s t h k u.
          let q = (item_agree a r e' e ext x.0 x.1 y.0 y.1).agree p b c s t h k u in
          let j : Value.item x.0 x.1 ≡ Value.item y.0 y.1 = ap (λ d. Value.item d x.1) q.0.0 ∙ ap (λ i. Value.item y.0 i) q.0.1 in
          ((λ m. ap (through_item e) j ∙ item_project a r e ext y.0 y.1 p c k), q.1);
    })

plain_reads : (a : Settings) (s : Schema) → IsPlain s → (v' v : Value) → Agree (ProjectsValue s s v' v) (basic a s v') (basic a s v)
unfolding project
plain_reads a (Schema.items r e ext) h v' v = items_read a r e e ext v' v
plain_reads a (Schema.containing e) h v' v = absurd h
plain_reads a (Schema.list e size mark) h v' v = absurd h
plain_reads a (Schema.set_of e size mark) h v' v = absurd h
plain_reads a (Schema.sequence o ps ext adds) h v' v = absurd h
plain_reads a (Schema.choice ps adds ext) h v' v = absurd h
plain_reads a s h v' v = weaken (λ e m. let e' : v' ≡ v = e in cc) (one_reading a s v' v)

-- the elements of two bags, in any order
bag_project : (s' s : Schema) (size : Size) (mark : Bool) (vs ws : List Value) → Zip (ProjectsValue s' s) vs ws → meets_cut (Schema.set_of s' size mark) (bag_of vs) ≡ false →
    project (Schema.set_of s' size mark) (Schema.set_of s size mark) (bag_of vs) ≡ Some (bag_of ws)
unfolding project meets_cut bag_of
bag_project s' s size mark vs ws z m =
    let sort : List Value = sorted (λ v w. before (code v) (code w)) vs in
    let h : any_of (meets_cut s') sort ≡ false = subst (λ l. any_of (meets_cut s') l ≡ false) (values-as_values sort) m in
    let q = bag_becomes (project s' s) vs ws (all_project s' s vs ws z (any_in_bag (meets_cut s') vs h)) in
    ap (λ l. made bag_of (all_of (project s' s) l)) (values-as_values sort) ∙ ap (made bag_of) q.1 ∙ some_same q.2

-- the value that octets contain
contained_reads : (a : Settings) (s' s : Schema) (v' v : Value) → Agree (ProjectsValue s' s v' v) (basic a s' v') (basic a s v) →
    Agree (ProjectsValue (Schema.containing s') (Schema.containing s) v' v) (basic a (Schema.containing s') v') (basic a (Schema.containing s) v)
unfolding basic_in project meets_cut
contained_reads a s' s v' v h = open_agree a (Fills a (basic a s' v')) (Fills a (basic a s v)) (λ os x y. fills_agree a os h x y)

list_reads : (a : Settings) (s' s : Schema) (size : Size) (mark : Bool) → ((v' v : Value) → Agree (ProjectsValue s' s v' v) (basic a s' v') (basic a s v)) → (v' v : Value) →
    Agree (ProjectsValue (Schema.list s' size mark) (Schema.list s size mark) v' v) (basic a (Schema.list s' size mark) v') (basic a (Schema.list s size mark) v)
unfolding basic_in project meets_cut
list_reads a s' s size mark h v' v = as_agree (ProjectsValue (Schema.list s' size mark) (Schema.list s size mark)) (λ vs. elements (as_values vs)) (λ vs. elements (as_values vs))
    (Counted a size mark list_items (basic a s')) (Counted a size mark list_items (basic a s)) v' v
    (λ x y. weaken (λ z m. list_project s' s x y z m) (lengthy_agree (ProjectsValue s' s) (basic a s') (basic a s) h a size mark list_items x y))

bag_reads : (a : Settings) (s' s : Schema) (size : Size) (mark : Bool) → ((v' v : Value) → Agree (ProjectsValue s' s v' v) (basic a s' v') (basic a s v)) → (v' v : Value) →
    Agree (ProjectsValue (Schema.set_of s' size mark) (Schema.set_of s size mark) v' v) (basic a (Schema.set_of s' size mark) v') (basic a (Schema.set_of s size mark) v)
unfolding basic_in
bag_reads a s' s size mark h v' v = as_agree (ProjectsValue (Schema.set_of s' size mark) (Schema.set_of s size mark)) bag_of bag_of
    (Counted a size mark list_items (basic a s')) (Counted a size mark list_items (basic a s)) v' v
    (λ x y. weaken (λ z m. bag_project s' s size mark x y z m) (lengthy_agree (ProjectsValue s' s) (basic a s') (basic a s) h a size mark list_items x y))

record_reads : (a : Settings) (o : Order) (ext : Bool) {ps' ps adds' adds : Parts} → NewerParts false ps' ps → NewerParts ext adds' adds →
    AllKin false (rels ps' ps) (rules a ps') (rules a ps) → AllKin ext (rels adds' adds) (rules a adds') (rules a adds) → (v' v : Value) →
    Agree (ProjectsValue (Schema.sequence o ps' ext adds') (Schema.sequence o ps ext adds) v' v) (basic a (Schema.sequence o ps' ext adds') v') (basic a (Schema.sequence o ps ext adds) v)
unfolding basic_in project meets_cut
record_reads a o ext {ps'} {ps} {adds'} {adds} n ns k k' v' v = as_agree (ProjectsValue (Schema.sequence o ps' ext adds') (Schema.sequence o ps ext adds))
    (λ x. fields (as_slots x.0) (as_slots x.1)) (λ x. fields (as_slots x.0) (as_slots x.1))
    (λ x. Record a ext (ordered o (tags ps') (rules a ps')) (rules a adds') (ordered o (tags ps') x.0) x.1)
    (λ x. Record a ext (ordered o (tags ps) (rules a ps)) (rules a adds) (ordered o (tags ps) x.0) x.1) v' v
    (λ x y. subst (λ ts. Agree
    (ProjectsValue (Schema.sequence o ps' ext adds') (Schema.sequence o ps ext adds) (fields (as_slots x.0) (as_slots x.1)) (fields (as_slots y.0) (as_slots y.1)))
    (Record a ext (ordered o (tags ps') (rules a ps')) (rules a adds') (ordered o (tags ps') x.0) x.1) (Record a ext (ordered o ts (rules a ps)) (rules a adds) (ordered o ts y.0) y.1)) (same_tags n)
    (weaken (λ r m. fields_project o ext n ns x y (along-listed o (tags ps') (rels ps' ps) x.0 y.0 r.0) r.1 m)
    (fields_agree a ext (ordered o (tags ps') (rels ps' ps)) (rels adds' adds) (ordered o (tags ps') (rules a ps')) (ordered o (tags ps') (rules a ps)) (rules a adds') (rules a adds)
    (ordered-kin o (tags ps') (rels ps' ps) (rules a ps') (rules a ps) k) k' (ordered o (tags ps') x.0) (ordered o (tags ps') y.0) x.1 y.1 ext)))

choice_reads : (a : Settings) (ext : Bool) {ps' ps adds' adds : Parts} → NewerParts false ps' ps → NewerParts ext adds' adds →
    AllKin false (rels ps' ps) (rules a ps') (rules a ps) → AllKin ext (rels adds' adds) (rules a adds') (rules a adds) → (v' v : Value) →
    Agree (ProjectsValue (Schema.choice ps' adds' ext) (Schema.choice ps adds ext) v' v) (basic a (Schema.choice ps' adds' ext) v') (basic a (Schema.choice ps adds ext) v)
unfolding basic_in project meets_cut
choice_reads a ext {ps'} {ps} {adds'} {adds} n ns k k' v' v = as_agree (ProjectsValue (Schema.choice ps' adds' ext) (Schema.choice ps adds ext))
    (λ x. alternative x.0 x.1 x.2) (λ x. alternative x.0 x.1 x.2)
    (λ x. Basic.Choice a ext (rules a ps') (rules a adds') x.0 x.1 x.2) (λ x. Basic.Choice a ext (rules a ps) (rules a adds) x.0 x.1 x.2) v' v
    (alternative_agree (ProjectsValue (Schema.choice ps' adds' ext) (Schema.choice ps adds ext)) a ext ext (rels ps' ps) (rels adds' adds) (rules a ps') (rules a ps) (rules a adds') (rules a adds) k k'
    (λ i w' w l e m. ap (made (alternative root i)) (at_project n i w' w (subst (λ c. i < c) (length-rules a ps) l) e m))
    (λ i w' w l e m. ap (made (alternative added i)) (at_project ns i w' w (subst (λ c. i < c) (length-rules a adds) l) e m)))

pub in_slot : (s' s : Schema) (v' v : Value) → project s' s v' ≡ Some v → slot_through (project s' s) (Some v') ≡ Some (Some v)
in_slot s' s v' v e = rw (e, slot_through) refl

mutual
  unfolding basic_in

  pub older_reads : (a : Settings) {s' s : Schema} → Newer s' s → (v' v : Value) → Agree (ProjectsValue s' s v' v) (basic a s' v') (basic a s v)
  older_reads a (unchanged {s = s} h) v' v = plain_reads a s h v' v
  older_reads a (more_items {r = r} {e = e} {e' = e'} h) v' v = items_read a r e' e true v' v
  older_reads a (newer_containing {e = e} {e' = e'} n) v' v = contained_reads a e' e v' v (older_reads a n v' v)
  older_reads a (newer_list {e = e} {e' = e'} {size = size} {mark = mark} n) v' v = list_reads a e' e size mark (older_reads a n) v' v
  older_reads a (newer_set_of {e = e} {e' = e'} {size = size} {mark = mark} n) v' v = bag_reads a e' e size mark (older_reads a n) v' v
  older_reads a (newer_sequence {o = o} {ext = ext} n ns) v' v = record_reads a o ext n ns (older_kin a n) (older_kin a ns) v' v
  older_reads a (newer_choice {ext = ext} n ns) v' v = choice_reads a ext n ns (older_kin a n) (older_kin a ns) v' v

  pub older_kin : (a : Settings) {may : Bool} {ps' ps : Parts} → NewerParts may ps' ps → AllKin may (rels ps' ps) (rules a ps') (rules a ps)
  older_kin a {may = false} no_more = tt
  older_kin a {may = true} no_more = tt
  older_kin a more_parts = tt
  older_kin a (also {p = p} {p' = p'} {s = s} {s' = s'} h n ns) =
      (record { flags = flags_newer s' s p' p h; left_out = left_out_newer n p' p h; held = λ v' v. weaken (λ r m. in_slot s' s v' v (r m)) (older_reads a n v' v) }, older_kin a ns)
