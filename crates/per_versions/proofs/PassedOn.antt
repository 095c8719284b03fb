-- What a newer type passes on is seen by an older one as what it was passed, but for normal forms: the projections of a value and of its
-- normal form have one normal form.
use Rattle.std.proofs.Common.{◌≡◌, refl, sym, ap, ap₂, ◌∙◌, subst, ℕ, zero, suc, Bool, true, false, cond, ◌&&◌, List, [], ◌∷◌, map, Option, Some, None}
use Rattle.rasn_types.specs.Values.{Value, same, elements, bag, bag_of, fields, alternative, root, added, as_values, as_slots, values, slots}
use Rattle.rasn_types.proofs.Values.{slots-as_slots, values-as_values}
use Rattle.rasn_schema.specs.Depth.{meets_cut, slots_meet_cut, meets_cut_at, in_slots, in_elements, in_fields, in_alternative, any_of}
use Rattle.rasn_schema.specs.Lawful.{AreLawful, IsLawful, IsLawfulPresence, is_group_schema}
use Rattle.per_laws.proofs.Normals.{named_still}
use Rattle.rasn_schema.specs.Normal.{is_idle, are_idle, is_vacant, settle, each_slot, if_named, over_elements, over_bag, over_fields, over_alternative, normal, normals, normal_at}
use Rattle.rasn_schema.specs.Schemas.{Presence, required, optional, group, default, Schema, Parts, no_parts, part}
use Rattle.rasn_types.specs.AllOf.{joined, all_of}
use Rattle.per_core.specs.Versions.{project, project_slots, project_at, slot_through, slots_through, through_elements, through_bag, through_fields, through_alternative, made, made_both, IsPlain, NewerPresence, Newer, NewerParts, unchanged, more_items, newer_containing, newer_list, newer_set_of, newer_sequence, newer_choice, no_more, more_parts, also}
use Rattle.rasn_schema.proofs.Bags.{joined_of, sort}
use Rattle.rasn_types.proofs.Codes.{same_true}
use Rattle.per_core.proofs.LengthForms.{and_left, and_right, or_left, or_right}
use Rattle.per_laws.proofs.Chains.{bag_through}
use Rattle.per_laws.proofs.Normals.{bag_map}
use Rattle.per_laws.proofs.Older.{made_of, made_both_of, slot_some, slot_meets, slot_back, in_slot}
use Rattle.per_laws.proofs.Takes.{none_through, some_slot_is}
use Rattle.per_laws.proofs.Transitive.{cuts, or_both}
use Rattle.per_laws.proofs.Reading.{same_self}
use Rattle.per_versions.proofs.Normalised.{elements_low, bags_low, fields_low, alternative_low}

-- a value that meets no Cut meets none in normal form
abbrev pub Whole : {X : Type 0} → (X → Bool) → (X → X) → Type 0
Whole {X} K g = (v : X) → K v ≡ false → K v ≡ false → K (g v) ≡ false

settled_whole : (p : Presence) (s : Schema) (v : Value) (L : List (Option Value) → Bool) (xs : List (Option Value)) → meets_cut s v ≡ false → L xs ≡ false → in_slots (meets_cut s) L (settle p s v ∷ xs) ≡ false
unfolding settle
settled_whole required s v L xs m l = or_both (meets_cut s v) (L xs) m l
settled_whole optional s v L xs m l = or_both (meets_cut s v) (L xs) m l
settled_whole (default d) s v L xs m l = or_both (meets_cut s v) (L xs) m l
settled_whole group s v L xs m l = go (is_vacant s v)
  where
    go : (b : Bool) → in_slots (meets_cut s) L (cond b None (Some v) ∷ xs) ≡ false
    go true = l
    go false = or_both (meets_cut s v) (L xs) m l

slots_whole : (p : Presence) (s : Schema) (L : List (Option Value) → Bool) (g : List (Option Value) → List (Option Value)) → Whole (meets_cut s) (normal s) → Whole L g → Whole (in_slots (meets_cut s) L) (each_slot (λ v. settle p s (normal s v)) g)
slots_whole p s L g h k [] m m' = m
slots_whole p s L g h k (None ∷ xs) m m' = k xs m m
slots_whole p s L g h k (Some v ∷ xs) m m' =
    let a = or_left (meets_cut s v) (L xs) m in
    let b = or_right (meets_cut s v) (L xs) m in
    settled_whole p s (normal s v) L (g xs) (h v a a) (k xs b b)

mutual
  unfolding normal meets_cut

  pub whole : (s : Schema) → Whole (meets_cut s) (normal s)
  whole (Schema.containing e) = whole e
  whole (Schema.list e size mark) = elements_low (meets_cut e) (meets_cut e) (normal e) (whole e)
  whole (Schema.set_of e size mark) = bags_low (meets_cut e) (meets_cut e) (normal e) (whole e)
  whole (Schema.sequence o ps ext adds) = fields_low (slots_meet_cut ps) (slots_meet_cut ps) (normals ps) (slots_meet_cut adds) (slots_meet_cut adds) (normals adds) (wholes ps) (wholes adds)
  whole (Schema.choice ps adds ext) = alternative_low (meets_cut_at ps) (meets_cut_at ps) (normal_at ps) (meets_cut_at adds) (meets_cut_at adds) (normal_at adds) (whole_at ps) (whole_at adds)
  whole (Schema.bit_string size mark named) = λ v m m'. refl
  whole _ = λ v m m'. m

  wholes : (ps : Parts) → Whole (slots_meet_cut ps) (normals ps)
  wholes no_parts = λ xs m m'. m
  wholes (part t p s ps) = slots_whole p s (slots_meet_cut ps) (normals ps) (whole s) (wholes ps)

  whole_at : (ps : Parts) (i : ℕ) → Whole (meets_cut_at ps i) (normal_at ps i)
  whole_at no_parts i = λ v m m'. m
  whole_at (part t p s ps) zero = whole s
  whole_at (part t p s ps) (suc i) = whole_at ps i

-- a projection, and the normal forms of newer and of older values
abbrev Commutes : {X : Type 0} → (X → Option X) → (X → X) → (X → X) → (X → Bool) → Type 0
Commutes {X} P N' N K = (v w : X) → K v ≡ false → P v ≡ Some w → (w' : X) × (P (N' v) ≡ Some w') × (N w' ≡ N w)

all_commute : (P : Value → Option Value) (N' N : Value → Value) (K : Value → Bool) → Commutes P N' N K → Commutes (all_of P) (map N') (map N) (any_of K)
all_commute P N' N K h [] ws m e = (ws, e, refl)
all_commute P N' N K h (v ∷ vs) ws m e =
    let q = joined_of (P v) (all_of P vs) ws e in
    let a = h v q.0 (or_left (K v) (any_of K vs) m) q.2 in
    let b = all_commute P N' N K h vs q.1 (or_right (K v) (any_of K vs) m) q.3 in
    (a.0 ∷ b.0, ap (λ o. joined o (all_of P (map N' vs))) a.1 ∙ ap (λ o. joined (Some a.0) o) b.1, ap₂ (λ x l. x ∷ l) a.2 b.2 ∙ ap (map N) (sym q.4))

over_list : (N : Value → Value) (us : List Value) → over_elements N (elements (as_values us)) ≡ elements (as_values (map N us))
over_list N us = ap (λ l. elements (as_values (map N l))) (values-as_values us)

elements_commute : (P : Value → Option Value) (N' N : Value → Value) (K : Value → Bool) → Commutes P N' N K → Commutes (through_elements P) (over_elements N') (over_elements N) (in_elements K)
elements_commute P N' N K h (elements vs) w m e =
    let q = made_of (λ ws. elements (as_values ws)) (all_of P (values vs)) w e in
    let a = all_commute P N' N K h (values vs) q.0 m q.1 in (
      elements (as_values a.0),
      ap (λ l. made (λ us. elements (as_values us)) (all_of P l)) (values-as_values (map N' (values vs))) ∙ ap (made (λ us. elements (as_values us))) a.1,
      over_list N a.0 ∙ ap (λ l. elements (as_values l)) a.2 ∙ sym (ap (over_elements N) q.2 ∙ over_list N q.0),
    )
elements_commute P N' N K h _ w m e = absurd (cc)

over_bag_of : (N : Value → Value) (us : List Value) → over_bag N (bag_of us) ≡ bag_of (map N us)
unfolding over_bag bag_of sort
over_bag_of N us = ap (λ l. bag_of (map N l)) (values-as_values (sort us)) ∙ bag_map N us

bags_commute : (P : Value → Option Value) (N' N : Value → Value) (K : Value → Bool) → Commutes P N' N K → Commutes (through_bag P) (over_bag N') (over_bag N) (in_elements K)
unfolding over_bag
bags_commute P N' N K h (bag vs) w m e =
    let q = made_of bag_of (all_of P (values vs)) w e in
    let a = all_commute P N' N K h (values vs) q.0 m q.1 in
    (bag_of a.0, bag_through P (map N' (values vs)) ∙ ap (made bag_of) a.1, over_bag_of N a.0 ∙ ap bag_of a.2 ∙ sym (ap (over_bag N) q.2 ∙ over_bag_of N q.0))
bags_commute P N' N K h _ w m e = absurd (cc)

abbrev pub Slotted : Type 0
Slotted = List (Option Value) → Option (List (Option Value))

over_both : (f g : List (Option Value) → List (Option Value)) (r x : List (Option Value)) → over_fields f g (fields (as_slots r) (as_slots x)) ≡ fields (as_slots (f r)) (as_slots (g x))
over_both f g r x = ap₂ (λ l k. fields (as_slots (f l)) (as_slots (g k))) (slots-as_slots r) (slots-as_slots x)

fields_commute : (F : Slotted) (f' f : List (Option Value) → List (Option Value)) (K : List (Option Value) → Bool) (G : Slotted) (g' g : List (Option Value) → List (Option Value)) (L : List (Option Value) → Bool) →
    Commutes F f' f K → Commutes G g' g L → Commutes (through_fields F G) (over_fields f' g') (over_fields f g) (in_fields K L)
fields_commute F f' f K G g' g L h k (fields a b) w m e =
    let q = made_both_of (F (slots a)) (G (slots b)) w e in
    let c = h (slots a) q.0 (or_left (K (slots a)) (L (slots b)) m) q.2 in
    let d = k (slots b) q.1 (or_right (K (slots a)) (L (slots b)) m) q.3 in (
      fields (as_slots c.0) (as_slots d.0),
      ap₂ (λ l i. made_both (F l) (G i)) (slots-as_slots (f' (slots a))) (slots-as_slots (g' (slots b))) ∙ ap₂ made_both c.1 d.1,
      over_both f g c.0 d.0 ∙ ap₂ (λ l i. fields (as_slots l) (as_slots i)) c.2 d.2 ∙ sym (ap (over_fields f g) q.4 ∙ over_both f g q.0 q.1),
    )
fields_commute F f' f K G g' g L h k _ w m e = absurd (cc)

alternative_commute : (F : ℕ → Value → Option Value) (f' f : ℕ → Value → Value) (K : ℕ → Value → Bool) (G : ℕ → Value → Option Value) (g' g : ℕ → Value → Value) (L : ℕ → Value → Bool) →
    ((i : ℕ) → Commutes (F i) (f' i) (f i) (K i)) → ((i : ℕ) → Commutes (G i) (g' i) (g i) (L i)) → Commutes (through_alternative F G) (over_alternative f' g') (over_alternative f g) (in_alternative K L)
alternative_commute F f' f K G g' g L h k (alternative root i v) w m e =
    let q = made_of (alternative root i) (F i v) w e in
    let a = h i v q.0 m q.1 in
    (alternative root i a.0, ap (made (alternative root i)) a.1, ap (alternative root i) a.2 ∙ sym (ap (over_alternative f g) q.2))
alternative_commute F f' f K G g' g L h k (alternative added i v) w m e =
    let q = made_of (alternative added i) (G i v) w e in
    let a = k i v q.0 m q.1 in
    (alternative added i a.0, ap (made (alternative added i)) a.1, ap (alternative added i) a.2 ∙ sym (ap (over_alternative f g) q.2))
alternative_commute F f' f K G g' g L h k _ w m e = absurd (cc)

-- what becomes of one slot
abbrev one : (Value → Option Value) → Option Value → Option Value
one f None = None
one f (Some v) = f v

each_one : (f : Value → Option Value) (g : List (Option Value) → List (Option Value)) (x : Option Value) (xs : List (Option Value)) → each_slot f g (x ∷ xs) ≡ one f x ∷ g xs
each_one f g None xs = refl
each_one f g (Some v) xs = refl

-- a slot that holds nothing, or its default, does so as an older reader sees it
idle_slot : {s' s : Schema} → Newer s' s → (p' p : Presence) → NewerPresence s' s p' p → IsLawfulPresence s p → (x y : Option Value) → slot_meets s' x ≡ false → is_idle p' x ≡ true → slot_through (project s' s) x ≡ Some y →
    is_idle p (one (λ v. settle p s (normal s v)) y) ≡ true
unfolding is_idle settle
idle_slot n required required k l x y m i e = absurd (cc)
idle_slot {s'} {s} n optional optional k l None y m i e = ap (λ z. is_idle optional (one (λ v. Some (normal s v)) z)) (none_through (project s' s) None y refl e)
idle_slot n optional optional k l (Some v) y m i e = absurd (cc)
idle_slot {s'} {s} n group group k l None y m i e = ap (λ z. is_idle group (one (λ v. settle group s (normal s v)) z)) (none_through (project s' s) None y refl e)
idle_slot n group group k l (Some v) y m i e = absurd (cc)
idle_slot {s'} {s} n (default d') (default d) k l None y m i e = ap (λ z. is_idle (default d) (one (λ v. Some (normal s v)) z)) (none_through (project s' s) None y refl e)
idle_slot {s'} {s} n (default d') (default d) k l (Some v) y m i e =
    let j : v ≡ d' = same_true v d' i in
    let m' : meets_cut s' d' ≡ false = subst (λ z. meets_cut s' z ≡ false) j m in
    let f : slot_through (project s' s) (Some d') ≡ Some y = subst (λ z. slot_through (project s' s) (Some z) ≡ Some y) j e in
    let at : y ≡ Some d = some_slot_is y (Some d) (sym f ∙ slot_back n d d' k m') in
    let o : normal s d ≡ d = l.is_normal (cuts n d d' (k.there m') m') in
    ap (λ z. is_idle (default d) (one (λ v. Some (normal s v)) z)) at ∙ ap (λ z. same z d) o ∙ same_self d
idle_slot n required optional k l x y m i e = absurd k
idle_slot n required group k l x y m i e = absurd k
idle_slot n required (default d) k l x y m i e = absurd k
idle_slot n optional required k l x y m i e = absurd k
idle_slot n optional group k l x y m i e = absurd k
idle_slot n optional (default d) k l x y m i e = absurd k
idle_slot n group required k l x y m i e = absurd k
idle_slot n group optional k l x y m i e = absurd k
idle_slot n group (default d) k l x y m i e = absurd k
idle_slot n (default d') required k l x y m i e = absurd k
idle_slot n (default d') optional k l x y m i e = absurd k
idle_slot n (default d') group k l x y m i e = absurd k

pub slots_first : (s : Schema) (L : List (Option Value) → Bool) (x : Option Value) (xs : List (Option Value)) → in_slots (meets_cut s) L (x ∷ xs) ≡ false → (slot_meets s x ≡ false) × (L xs ≡ false)
slots_first s L None xs m = (refl, m)
slots_first s L (Some v) xs m = (or_left (meets_cut s v) (L xs) m, or_right (meets_cut s v) (L xs) m)

both_true : (a b : Bool) → a ≡ true → b ≡ true → (a && b) ≡ true
both_true a b e f = cc

idle_parts : {may : Bool} {ps' ps : Parts} → NewerParts may ps' ps → AreLawful ps → (xs ys : List (Option Value)) → slots_meet_cut ps' xs ≡ false → are_idle ps' xs ≡ true → project_slots ps' ps xs ≡ Some ys → are_idle ps (normals ps ys) ≡ true
unfolding are_idle project normal meets_cut IsLawful
idle_parts no_more l xs ys m i e = let j : [] ≡ ys = cc in ap (are_idle no_parts) (sym j)
idle_parts more_parts l xs ys m i e = let j : [] ≡ ys = cc in ap (are_idle no_parts) (sym j)
idle_parts (also k n ns) l [] ys m i e = absurd (cc)
idle_parts (also {t = t} {p = p} {p' = p'} {s = s} {s' = s'} {ps = ps} {ps' = ps'} k n ns) l (x ∷ xs) ys m i e =
    let q = joined_of (slot_through (project s' s) x) (project_slots ps' ps xs) ys e in
    let c = slots_first s' (slots_meet_cut ps') x xs m in
    let f : Value → Option Value = λ v. settle p s (normal s v) in
    ap (λ l. are_idle (part t p s ps) (each_slot f (normals ps) l)) q.4 ∙ ap (are_idle (part t p s ps)) (each_one f (normals ps) q.0 q.1)
    ∙ both_true (is_idle p (one f q.0)) (are_idle ps (normals ps q.1))
    (idle_slot n p' p k l.0 x q.0 c.0 (and_left (is_idle p' x) (are_idle ps' xs) i) q.2)
    (idle_parts ns l.2 xs q.1 c.1 (and_right (is_idle p' x) (are_idle ps' xs) i) q.3)

-- a group's schema isn't of a plain kind, other than a Cut
pub plain_group : (s : Schema) → IsPlain s → is_group_schema s ≡ true → (z : Value) → meets_cut s z ≡ false → ⊥
unfolding meets_cut
plain_group (Schema.sequence o ps ext adds) h k z m = h
plain_group Schema.cut h k z m = absurd (cc)
plain_group _ h k z m = absurd (cc)

-- a group that holds nothing holds nothing as an older reader sees it
vacant_stays : {s' s : Schema} → Newer s' s → IsLawful s → is_group_schema s ≡ true → (z u : Value) → meets_cut s' z ≡ false → is_vacant s' z ≡ true → project s' s z ≡ Some u → is_vacant s (normal s u) ≡ true
unfolding is_vacant project normal meets_cut IsLawful
vacant_stays (newer_sequence {o = o} {ext = ext} {ps = ps} {ps' = ps'} {adds = adds} {adds' = adds'} n ns) l k (fields r x) u m i e =
    let q = made_both_of (project_slots ps' ps (slots r)) (project_slots adds' adds (slots x)) u e in
    let a = idle_parts n l.1 (slots r) q.0 (or_left (slots_meet_cut ps' (slots r)) (slots_meet_cut adds' (slots x)) m) (and_left (are_idle ps' (slots r)) (are_idle adds' (slots x)) i) q.2 in
    let b = idle_parts ns l.2 (slots x) q.1 (or_right (slots_meet_cut ps' (slots r)) (slots_meet_cut adds' (slots x)) m) (and_right (are_idle ps' (slots r)) (are_idle adds' (slots x)) i) q.3 in
    ap (λ z. is_vacant (Schema.sequence o ps ext adds) z) (ap (over_fields (normals ps) (normals adds)) q.4 ∙ over_both (normals ps) (normals adds) q.0 q.1)
    ∙ ap₂ (λ l k. are_idle ps l && are_idle adds k) (slots-as_slots (normals ps q.0)) (slots-as_slots (normals adds q.1)) ∙ both_true (are_idle ps (normals ps q.0)) (are_idle adds (normals adds q.1)) a b
vacant_stays (newer_sequence n ns) l k _ u m i e = absurd (cc)
vacant_stays (more_items h) l k z u m i e = absurd (cc)
vacant_stays (newer_containing n) l k z u m i e = absurd (cc)
vacant_stays (newer_list n) l k z u m i e = absurd (cc)
vacant_stays (newer_set_of n) l k z u m i e = absurd (cc)
vacant_stays (newer_choice n ns) l k z u m i e = absurd (cc)
vacant_stays (unchanged {s = s} h) l k z u m i e = absurd (plain_group s h k z m)

-- a part that is there
slot_commute : {s' s : Schema} → Newer s' s → IsLawful s → (p' p : Presence) → NewerPresence s' s p' p → IsLawfulPresence s p → Commutes (project s' s) (normal s') (normal s) (meets_cut s') →
    (v w : Value) → meets_cut s' v ≡ false → project s' s v ≡ Some w → (y : Option Value) × (slot_through (project s' s) (settle p' s' (normal s' v)) ≡ Some y) × (one (λ z. settle p s (normal s z)) y ≡ settle p s (normal s w))
unfolding settle
slot_commute {s'} {s} n l required required k lp h v w m e = let a = h v w m e in (Some a.0, in_slot s' s (normal s' v) a.0 a.1, ap (λ z. Some z) a.2)
slot_commute {s'} {s} n l optional optional k lp h v w m e = let a = h v w m e in (Some a.0, in_slot s' s (normal s' v) a.0 a.1, ap (λ z. Some z) a.2)
slot_commute {s'} {s} n l (default d') (default d) k lp h v w m e = let a = h v w m e in (Some a.0, in_slot s' s (normal s' v) a.0 a.1, ap (λ z. Some z) a.2)
slot_commute {s'} {s} n l group group k lp h v w m e = let a = h v w m e in go a.0 a.1 a.2 (is_vacant s' (normal s' v)) refl
  where
    go : (u : Value) → project s' s (normal s' v) ≡ Some u → normal s u ≡ normal s w → (b : Bool) → is_vacant s' (normal s' v) ≡ b →
        (y : Option Value) × (slot_through (project s' s) (cond b None (Some (normal s' v))) ≡ Some y) × (one (λ z. cond (is_vacant s (normal s z)) None (Some (normal s z))) y ≡ cond (is_vacant s (normal s w)) None (Some (normal s w)))
    go u f i false j = (Some u, in_slot s' s (normal s' v) u f, ap (λ z. cond (is_vacant s z) None (Some z)) i)
    go u f i true j =
        let o : is_vacant s (normal s w) ≡ true = ap (is_vacant s) (sym i) ∙ vacant_stays n l lp (normal s' v) u (whole s' v m m) j f in
        (None, refl, sym (ap (λ b. cond b None (Some (normal s w))) o))
slot_commute n l required optional k lp h v w m e = absurd k
slot_commute n l required group k lp h v w m e = absurd k
slot_commute n l required (default d) k lp h v w m e = absurd k
slot_commute n l optional required k lp h v w m e = absurd k
slot_commute n l optional group k lp h v w m e = absurd k
slot_commute n l optional (default d) k lp h v w m e = absurd k
slot_commute n l group required k lp h v w m e = absurd k
slot_commute n l group optional k lp h v w m e = absurd k
slot_commute n l group (default d) k lp h v w m e = absurd k
slot_commute n l (default d') required k lp h v w m e = absurd k
slot_commute n l (default d') optional k lp h v w m e = absurd k
slot_commute n l (default d') group k lp h v w m e = absurd k

slots_commute : {s' s : Schema} → Newer s' s → IsLawful s → (p' p : Presence) → NewerPresence s' s p' p → IsLawfulPresence s p → Commutes (project s' s) (normal s') (normal s) (meets_cut s') →
    (F : Slotted) (f' f : List (Option Value) → List (Option Value)) (L : List (Option Value) → Bool) → Commutes F f' f L →
    Commutes (slots_through (project s' s) F) (each_slot (λ v. settle p' s' (normal s' v)) f') (each_slot (λ v. settle p s (normal s v)) f) (in_slots (meets_cut s') L)
slots_commute n l p' p k lp h F f' f L r [] w m e = (w, e, refl)
slots_commute {s'} {s} n l p' p k lp h F f' f L r (None ∷ xs) w m e =
    let q = joined_of (slot_through (project s' s) None) (F xs) w e in
    let b = r xs q.1 m q.3 in
    let i : q.0 ≡ None = none_through (project s' s) None q.0 refl q.2 in
    let g : Value → Option Value = λ v. settle p s (normal s v) in
    (None ∷ b.0, ap (λ o. joined (Some None) o) b.1, ap (λ t. None ∷ t) b.2 ∙ sym (ap (each_slot g f) (q.4 ∙ ap (λ z. z ∷ q.1) i)))
slots_commute {s'} {s} n l p' p k lp h F f' f L r (Some v ∷ xs) w m e =
    let q = joined_of (slot_through (project s' s) (Some v)) (F xs) w e in
    let t = slot_some (project s' s) v q.0 q.2 in
    let a = slot_commute n l p' p k lp h v t.0 (or_left (meets_cut s' v) (L xs) m) t.1 in
    let b = r xs q.1 (or_right (meets_cut s' v) (L xs) m) q.3 in
    let g : Value → Option Value = λ v. settle p s (normal s v) in (
      a.0 ∷ b.0,
      ap (λ o. joined o (F (f' xs))) a.1 ∙ ap (λ o. joined (Some a.0) o) b.1,
      each_one g f a.0 b.0 ∙ ap₂ (λ z t. z ∷ t) a.2 b.2 ∙ sym (ap (each_slot g f) (q.4 ∙ ap (λ z. z ∷ q.1) t.2)),
    )

same_some : (v w : Value) → ◌≡◌ {A = Option Value} (Some v) (Some w) → v ≡ w
same_some v w e = cc

plain_commute : (s : Schema) → IsPlain s → Commutes (project s s) (normal s) (normal s) (meets_cut s)
unfolding normal project
plain_commute (Schema.containing e) h v w m k = absurd h
plain_commute (Schema.list e size mark) h v w m k = absurd h
plain_commute (Schema.set_of e size mark) h v w m k = absurd h
plain_commute (Schema.sequence o ps ext adds) h v w m k = absurd h
plain_commute (Schema.choice ps adds ext) h v w m k = absurd h
plain_commute (Schema.bit_string size mark named) h v w m k = (if_named named size v, refl, named_still named size v ∙ ap (if_named named size) (same_some v w k))
plain_commute _ h v w m k = (w, k, refl)

mutual
  unfolding project normal meets_cut IsLawful

  pub commute : {s' s : Schema} → Newer s' s → IsLawful s → Commutes (project s' s) (normal s') (normal s) (meets_cut s')
  commute (unchanged {s = s} h) l = plain_commute s h
  commute (more_items h) l = λ v w m e. (w, e, refl)
  commute (newer_containing n) l = commute n l
  commute (newer_list {e = e} {e' = e'} n) l = elements_commute (project e' e) (normal e') (normal e) (meets_cut e') (commute n l.1)
  commute (newer_set_of {e = e} {e' = e'} n) l = bags_commute (project e' e) (normal e') (normal e) (meets_cut e') (commute n l.1)
  commute (newer_sequence {ps = ps} {ps' = ps'} {adds = adds} {adds' = adds'} n ns) l =
      fields_commute (project_slots ps' ps) (normals ps') (normals ps) (slots_meet_cut ps') (project_slots adds' adds) (normals adds') (normals adds) (slots_meet_cut adds') (parts_commute n l.1) (parts_commute ns l.2)
  commute (newer_choice {ps = ps} {ps' = ps'} {adds = adds} {adds' = adds'} n ns) l =
      alternative_commute (project_at ps' ps) (normal_at ps') (normal_at ps) (meets_cut_at ps') (project_at adds' adds) (normal_at adds') (normal_at adds) (meets_cut_at adds') (at_commute n l.1) (at_commute ns l.2)

  parts_commute : {may : Bool} {ps' ps : Parts} → NewerParts may ps' ps → AreLawful ps → Commutes (project_slots ps' ps) (normals ps') (normals ps) (slots_meet_cut ps')
  parts_commute no_more l = λ v w m e. (w, e, refl)
  parts_commute more_parts l = λ v w m e. (w, e, refl)
  parts_commute (also {p = p} {p' = p'} {s = s} {s' = s'} {ps = ps} {ps' = ps'} k n ns) l =
      slots_commute n l.1 p' p k l.0 (commute n l.1) (project_slots ps' ps) (normals ps') (normals ps) (slots_meet_cut ps') (parts_commute ns l.2)

  at_commute : {may : Bool} {ps' ps : Parts} → NewerParts may ps' ps → AreLawful ps → (i : ℕ) → Commutes (project_at ps' ps i) (normal_at ps' i) (normal_at ps i) (meets_cut_at ps' i)
  at_commute no_more l i = λ v w m e. (w, e, refl)
  at_commute more_parts l i = λ v w m e. (w, e, refl)
  at_commute (also k n ns) l zero = commute n l.1
  at_commute (also k n ns) l (suc i) = at_commute ns l.2 i
