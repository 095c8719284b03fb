-- And back: where the normal form of a newer value has a projection, the value has one.
use Rattle.std.proofs.Common.{◌≡◌, refl, sym, ap, ap₂, ◌∙◌, subst, ℕ, zero, suc, Bool, true, false, cond, List, [], ◌∷◌, map, Option, Some, None}
use Rattle.rasn_types.specs.Values.{Value, elements, bag, bag_of, fields, alternative, root, added, as_values, as_slots, values, slots}
use Rattle.rasn_types.proofs.Values.{slots-as_slots, values-as_values}
use Rattle.rasn_schema.specs.Depth.{meets_cut, slots_meet_cut, meets_cut_at, in_slots, in_elements, in_fields, in_alternative, any_of}
use Rattle.rasn_schema.specs.Lawful.{AreLawful, IsLawful, IsLawfulPresence, is_group_schema}
use Rattle.rasn_schema.specs.Normal.{is_idle, are_idle, is_vacant, settle, each_slot, over_elements, over_bag, over_fields, over_alternative, normal, normals, normal_at}
use Rattle.rasn_schema.specs.Schemas.{Presence, required, optional, group, default, Schema, Parts}
use Rattle.rasn_types.specs.AllOf.{joined, all_of}
use Rattle.per_core.specs.Versions.{project, project_slots, project_at, slot_through, slots_through, through_elements, through_bag, through_fields, through_alternative, made, made_both, IsPlain, NewerPresence, Newer, NewerParts, unchanged, more_items, newer_containing, newer_list, newer_set_of, newer_sequence, newer_choice, no_more, more_parts, also}
use Rattle.rasn_schema.proofs.Bags.{joined_of}
use Rattle.rasn_types.proofs.Codes.{same_true}
use Rattle.per_core.proofs.LengthForms.{and_left, and_right, or_left, or_right}
use Rattle.per_laws.proofs.Chains.{bag_through}
use Rattle.per_laws.proofs.Older.{made_of, made_both_of, slot_some, slot_meets, slot_back, in_slot}
use Rattle.per_versions.proofs.PassedOn.{Slotted, plain_group, slots_first, whole}

-- where the normal form of a value has a projection, the value has one
abbrev Returns : {X : Type 0} → (X → Option X) → (X → X) → (X → Bool) → Type 0
Returns {X} P N' K = (v u : X) → K v ≡ false → P (N' v) ≡ Some u → (w : X) × (P v ≡ Some w)

all_return : (P : Value → Option Value) (N' : Value → Value) (K : Value → Bool) → Returns P N' K → Returns (all_of P) (map N') (any_of K)
all_return P N' K h [] us m e = (us, e)
all_return P N' K h (v ∷ vs) us m e =
    let q = joined_of (P (N' v)) (all_of P (map N' vs)) us e in
    let a = h v q.0 (or_left (K v) (any_of K vs) m) q.2 in
    let b = all_return P N' K h vs q.1 (or_right (K v) (any_of K vs) m) q.3 in
    (a.0 ∷ b.0, ap (λ o. joined o (all_of P vs)) a.1 ∙ ap (λ o. joined (Some a.0) o) b.1)

elements_return : (P : Value → Option Value) (N' : Value → Value) (K : Value → Bool) → Returns P N' K → Returns (through_elements P) (over_elements N') (in_elements K)
elements_return P N' K h (elements vs) u m e =
    let q = made_of (λ ws. elements (as_values ws)) (all_of P (values (as_values (map N' (values vs))))) u e in
    let a = all_return P N' K h (values vs) q.0 m (subst (λ l. all_of P l ≡ Some q.0) (values-as_values (map N' (values vs))) q.1) in
    (elements (as_values a.0), ap (made (λ us. elements (as_values us))) a.1)
elements_return P N' K h _ u m e = absurd (cc)

bags_return : (P : Value → Option Value) (N' : Value → Value) (K : Value → Bool) → Returns P N' K → Returns (through_bag P) (over_bag N') (in_elements K)
unfolding over_bag
bags_return P N' K h (bag vs) u m e =
    let q = made_of bag_of (all_of P (map N' (values vs))) u (sym (bag_through P (map N' (values vs))) ∙ e) in
    let a = all_return P N' K h (values vs) q.0 m q.1 in
    (bag_of a.0, ap (made bag_of) a.1)
bags_return P N' K h _ u m e = absurd (cc)

fields_return : (F : Slotted) (f' : List (Option Value) → List (Option Value)) (K : List (Option Value) → Bool) (G : Slotted) (g' : List (Option Value) → List (Option Value)) (L : List (Option Value) → Bool) →
    Returns F f' K → Returns G g' L → Returns (through_fields F G) (over_fields f' g') (in_fields K L)
fields_return F f' K G g' L h k (fields a b) u m e =
    let q = made_both_of (F (slots (as_slots (f' (slots a))))) (G (slots (as_slots (g' (slots b))))) u e in
    let c = h (slots a) q.0 (or_left (K (slots a)) (L (slots b)) m) (subst (λ l. F l ≡ Some q.0) (slots-as_slots (f' (slots a))) q.2) in
    let d = k (slots b) q.1 (or_right (K (slots a)) (L (slots b)) m) (subst (λ l. G l ≡ Some q.1) (slots-as_slots (g' (slots b))) q.3) in
    (fields (as_slots c.0) (as_slots d.0), ap₂ made_both c.1 d.1)
fields_return F f' K G g' L h k _ u m e = absurd (cc)

alternative_return : (F : ℕ → Value → Option Value) (f' : ℕ → Value → Value) (K : ℕ → Value → Bool) (G : ℕ → Value → Option Value) (g' : ℕ → Value → Value) (L : ℕ → Value → Bool) →
    ((i : ℕ) → Returns (F i) (f' i) (K i)) → ((i : ℕ) → Returns (G i) (g' i) (L i)) → Returns (through_alternative F G) (over_alternative f' g') (in_alternative K L)
alternative_return F f' K G g' L h k (alternative root i v) u m e =
    let q = made_of (alternative root i) (F i (f' i v)) u e in
    let a = h i v q.0 m q.1 in
    (alternative root i a.0, ap (made (alternative root i)) a.1)
alternative_return F f' K G g' L h k (alternative added i v) u m e =
    let q = made_of (alternative added i) (G i (g' i v)) u e in
    let a = k i v q.0 m q.1 in
    (alternative added i a.0, ap (made (alternative added i)) a.1)
alternative_return F f' K G g' L h k _ u m e = absurd (cc)

-- what holds nothing, or its default, has a projection
idle_through : {s' s : Schema} → Newer s' s → (p' p : Presence) → NewerPresence s' s p' p → (x : Option Value) → slot_meets s' x ≡ false → is_idle p' x ≡ true → (y : Option Value) × (slot_through (project s' s) x ≡ Some y)
unfolding is_idle
idle_through n p' p k None m i = (None, refl)
idle_through n required p k (Some v) m i = absurd (cc)
idle_through n optional p k (Some v) m i = absurd (cc)
idle_through n group p k (Some v) m i = absurd (cc)
idle_through {s'} {s} n (default d') (default d) k (Some v) m i =
    let j : v ≡ d' = same_true v d' i in
    let m' : meets_cut s' d' ≡ false = subst (λ z. meets_cut s' z ≡ false) j m in
    (Some d, ap (λ z. slot_through (project s' s) (Some z)) j ∙ slot_back n d d' k m')
idle_through n (default d') required k (Some v) m i = absurd k
idle_through n (default d') optional k (Some v) m i = absurd k
idle_through n (default d') group k (Some v) m i = absurd k

idle_project : {may : Bool} {ps' ps : Parts} → NewerParts may ps' ps → (xs : List (Option Value)) → slots_meet_cut ps' xs ≡ false → are_idle ps' xs ≡ true → (ys : List (Option Value)) × (project_slots ps' ps xs ≡ Some ys)
unfolding are_idle project meets_cut
idle_project no_more xs m i = ([], refl)
idle_project more_parts xs m i = ([], refl)
idle_project (also k n ns) [] m i = absurd (cc)
idle_project (also {p = p} {p' = p'} {s = s} {s' = s'} {ps = ps} {ps' = ps'} k n ns) (x ∷ xs) m i =
    let c = slots_first s' (slots_meet_cut ps') x xs m in
    let a = idle_through n p' p k x c.0 (and_left (is_idle p' x) (are_idle ps' xs) i) in
    let b = idle_project ns xs c.1 (and_right (is_idle p' x) (are_idle ps' xs) i) in
    (a.0 ∷ b.0, ap (λ o. joined o (project_slots ps' ps xs)) a.1 ∙ ap (λ o. joined (Some a.0) o) b.1)

vacant_project : {s' s : Schema} → Newer s' s → is_group_schema s ≡ true → (z : Value) → meets_cut s' z ≡ false → is_vacant s' z ≡ true → (u : Value) × (project s' s z ≡ Some u)
unfolding is_vacant project meets_cut
vacant_project (newer_sequence {ps = ps} {ps' = ps'} {adds = adds} {adds' = adds'} n ns) k (fields r x) m i =
    let a = idle_project n (slots r) (or_left (slots_meet_cut ps' (slots r)) (slots_meet_cut adds' (slots x)) m) (and_left (are_idle ps' (slots r)) (are_idle adds' (slots x)) i) in
    let b = idle_project ns (slots x) (or_right (slots_meet_cut ps' (slots r)) (slots_meet_cut adds' (slots x)) m) (and_right (are_idle ps' (slots r)) (are_idle adds' (slots x)) i) in
    (fields (as_slots a.0) (as_slots b.0), ap₂ made_both a.1 b.1)
vacant_project (newer_sequence n ns) k _ m i = absurd (cc)
vacant_project (more_items h) k z m i = absurd (cc)
vacant_project (newer_containing n) k z m i = absurd (cc)
vacant_project (newer_list n) k z m i = absurd (cc)
vacant_project (newer_set_of n) k z m i = absurd (cc)
vacant_project (newer_choice n ns) k z m i = absurd (cc)
vacant_project (unchanged {s = s} h) k z m i = absurd (plain_group s h k z m)

there : (s' s : Schema) (v w : Value) → project s' s v ≡ Some w → (y : Option Value) × (slot_through (project s' s) (Some v) ≡ Some y)
there s' s v w e = (Some w, in_slot s' s v w e)

slot_return : {s' s : Schema} → Newer s' s → (p' p : Presence) → NewerPresence s' s p' p → IsLawfulPresence s p → Returns (project s' s) (normal s') (meets_cut s') →
    (v : Value) (y : Option Value) → meets_cut s' v ≡ false → slot_through (project s' s) (settle p' s' (normal s' v)) ≡ Some y → (z : Option Value) × (slot_through (project s' s) (Some v) ≡ Some z)
unfolding settle
slot_return {s'} {s} n required p k lp h v y m e = let q = slot_some (project s' s) (normal s' v) y e in let a = h v q.0 m q.1 in there s' s v a.0 a.1
slot_return {s'} {s} n optional p k lp h v y m e = let q = slot_some (project s' s) (normal s' v) y e in let a = h v q.0 m q.1 in there s' s v a.0 a.1
slot_return {s'} {s} n (default d') p k lp h v y m e = let q = slot_some (project s' s) (normal s' v) y e in let a = h v q.0 m q.1 in there s' s v a.0 a.1
slot_return {s'} {s} n group group k lp h v y m e = go (is_vacant s' (normal s' v)) refl e
  where
    go : (b : Bool) → is_vacant s' (normal s' v) ≡ b → slot_through (project s' s) (cond b None (Some (normal s' v))) ≡ Some y → (z : Option Value) × (slot_through (project s' s) (Some v) ≡ Some z)
    go false j f = let q = slot_some (project s' s) (normal s' v) y f in let a = h v q.0 m q.1 in there s' s v a.0 a.1
    go true j f = let q = vacant_project n lp (normal s' v) (whole s' v m m) j in let a = h v q.0 m q.1 in there s' s v a.0 a.1
slot_return n group required k lp h v y m e = absurd k
slot_return n group optional k lp h v y m e = absurd k
slot_return n group (default d) k lp h v y m e = absurd k

slots_return : {s' s : Schema} → Newer s' s → (p' p : Presence) → NewerPresence s' s p' p → IsLawfulPresence s p → Returns (project s' s) (normal s') (meets_cut s') →
    (F : Slotted) (f' : List (Option Value) → List (Option Value)) (L : List (Option Value) → Bool) → Returns F f' L →
    Returns (slots_through (project s' s) F) (each_slot (λ v. settle p' s' (normal s' v)) f') (in_slots (meets_cut s') L)
slots_return n p' p k lp h F f' L r [] u m e = (u, e)
slots_return {s'} {s} n p' p k lp h F f' L r (None ∷ xs) u m e =
    let q = joined_of (slot_through (project s' s) None) (F (f' xs)) u e in
    let b = r xs q.1 m q.3 in
    (None ∷ b.0, ap (λ o. joined (Some None) o) b.1)
slots_return {s'} {s} n p' p k lp h F f' L r (Some v ∷ xs) u m e =
    let q = joined_of (slot_through (project s' s) (settle p' s' (normal s' v))) (F (f' xs)) u e in
    let a = slot_return n p' p k lp h v q.0 (or_left (meets_cut s' v) (L xs) m) q.2 in
    let b = r xs q.1 (or_right (meets_cut s' v) (L xs) m) q.3 in
    (a.0 ∷ b.0, ap (λ o. joined o (F xs)) a.1 ∙ ap (λ o. joined (Some a.0) o) b.1)

plain_returns : (s : Schema) → IsPlain s → Returns (project s s) (normal s) (meets_cut s)
unfolding normal project
plain_returns (Schema.containing e) h v u m k = absurd h
plain_returns (Schema.list e size mark) h v u m k = absurd h
plain_returns (Schema.set_of e size mark) h v u m k = absurd h
plain_returns (Schema.sequence o ps ext adds) h v u m k = absurd h
plain_returns (Schema.choice ps adds ext) h v u m k = absurd h
plain_returns (Schema.bit_string size mark named) h v u m k = (v, refl)
plain_returns _ h v u m k = (u, k)

mutual
  unfolding project normal meets_cut IsLawful

  pub goes_back : {s' s : Schema} → Newer s' s → IsLawful s → Returns (project s' s) (normal s') (meets_cut s')
  goes_back (unchanged {s = s} h) l = plain_returns s h
  goes_back (more_items h) l = λ v u m e. (u, e)
  goes_back (newer_containing n) l = goes_back n l
  goes_back (newer_list {e = e} {e' = e'} n) l = elements_return (project e' e) (normal e') (meets_cut e') (goes_back n l.1)
  goes_back (newer_set_of {e = e} {e' = e'} n) l = bags_return (project e' e) (normal e') (meets_cut e') (goes_back n l.1)
  goes_back (newer_sequence {ps = ps} {ps' = ps'} {adds = adds} {adds' = adds'} n ns) l =
      fields_return (project_slots ps' ps) (normals ps') (slots_meet_cut ps') (project_slots adds' adds) (normals adds') (slots_meet_cut adds') (parts_back n l.1) (parts_back ns l.2)
  goes_back (newer_choice {ps = ps} {ps' = ps'} {adds = adds} {adds' = adds'} n ns) l =
      alternative_return (project_at ps' ps) (normal_at ps') (meets_cut_at ps') (project_at adds' adds) (normal_at adds') (meets_cut_at adds') (at_back n l.1) (at_back ns l.2)

  parts_back : {may : Bool} {ps' ps : Parts} → NewerParts may ps' ps → AreLawful ps → Returns (project_slots ps' ps) (normals ps') (slots_meet_cut ps')
  parts_back no_more l = λ v u m e. ([], refl)
  parts_back more_parts l = λ v u m e. ([], refl)
  parts_back (also {p = p} {p' = p'} {s = s} {s' = s'} {ps = ps} {ps' = ps'} k n ns) l =
      slots_return n p' p k l.0 (goes_back n l.1) (project_slots ps' ps) (normals ps') (slots_meet_cut ps') (parts_back ns l.2)

  at_back : {may : Bool} {ps' ps : Parts} → NewerParts may ps' ps → AreLawful ps → (i : ℕ) → Returns (project_at ps' ps i) (normal_at ps' i) (meets_cut_at ps' i)
  at_back no_more l i = λ v u m e. absurd (let x : ◌≡◌ {A = Option Value} None (Some u) = e in cc)
  at_back more_parts l i = λ v u m e. absurd (let x : ◌≡◌ {A = Option Value} None (Some u) = e in cc)
  at_back (also k n ns) l zero = goes_back n l.1
  at_back (also k n ns) l (suc i) = at_back ns l.2 i
