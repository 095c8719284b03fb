-- Chains of versions: widening in two steps is widening at once, where no Cut is met; so newer is transitive.
use Rattle.std.proofs.Common.{◌≡◌, refl, sym, ap, ◌∙◌, subst, ℕ, zero, suc, Bool, true, false, ◌||◌, List, [], ◌∷◌, arith, Option, Some, None}
use Rattle.rasn_types.specs.Values.{Value, elements, bag, bag_of, fields, alternative, root, added, as_values, as_slots, values, slots}
use Rattle.rasn_types.proofs.Values.{slots-as_slots, values-as_values}
use Rattle.rasn_schema.specs.Depth.{meets_cut, slots_meet_cut, meets_cut_at, in_slots, in_elements, in_fields, in_alternative, any_of}
use Rattle.rasn_schema.specs.Schemas.{Presence, required, optional, group, default, Schema, Parts}
use Rattle.rasn_types.specs.AllOf.{joined, all_of}
use Rattle.per_core.specs.Versions.{widen, widen_slots, widen_at, filled_in, all_filled_in, slot_through, slots_through, through_elements, through_bag, through_fields, through_alternative, made, made_both, NewerPresence, Newer, NewerParts, unchanged, more_items, newer_containing, newer_list, newer_set_of, newer_sequence, newer_choice, no_more, more_parts, also}
use Rattle.rasn_schema.proofs.Bags.{any_in_bag, joined_of, sort}
use Rattle.per_core.proofs.LengthForms.{or_left, or_right}
use Rattle.per_core.proofs.Readings.{some_same}
use Rattle.per_laws.proofs.Chains.{bag_through}
use Rattle.per_laws.proofs.Older.{made_of, made_both_of, slot_some, plain_widen}
use Rattle.per_laws.proofs.Takes.{some_is, some_slot_is}

pub or_both : (a b : Bool) → a ≡ false → b ≡ false → (a || b) ≡ false
or_both true b e f = absurd (cc)
or_both false b e f = f

pub in_bag : (K : Value → Bool) (us : List Value) → in_elements K (bag_of us) ≡ false → any_of K us ≡ false
unfolding bag_of sort
in_bag K us m = any_in_bag K us (subst (λ l. any_of K l ≡ false) (values-as_values (sort us)) m)

-- what a widened value does not meet, the value did not meet
abbrev pub Cuts : {X : Type 0} → (X → Option X) → (X → Bool) → (X → Bool) → Type 0
Cuts {X} g K' K = (v w : X) → g v ≡ Some w → K w ≡ false → K' v ≡ false

all_cuts : (g : Value → Option Value) (K' K : Value → Bool) → Cuts g K' K → Cuts (all_of g) (any_of K') (any_of K)
all_cuts g K' K r [] ws e m = refl
all_cuts g K' K r (v ∷ vs) ws e m =
    let q = joined_of (g v) (all_of g vs) ws e in
    let m' : (K q.0 || any_of K q.1) ≡ false = subst (λ l. any_of K l ≡ false) q.4 m in
    or_both (K' v) (any_of K' vs) (r v q.0 q.2 (or_left (K q.0) (any_of K q.1) m')) (all_cuts g K' K r vs q.1 q.3 (or_right (K q.0) (any_of K q.1) m'))

elements_cuts : (g : Value → Option Value) (K' K : Value → Bool) → Cuts g K' K → Cuts (through_elements g) (in_elements K') (in_elements K)
elements_cuts g K' K r (elements vs) w e m =
    let q = made_of (λ ws. elements (as_values ws)) (all_of g (values vs)) w e in
    all_cuts g K' K r (values vs) q.0 q.1 (subst (λ l. any_of K l ≡ false) (values-as_values q.0) (subst (λ z. in_elements K z ≡ false) q.2 m))
elements_cuts g K' K r _ w e m = absurd (cc)

bags_cuts : (g : Value → Option Value) (K' K : Value → Bool) → Cuts g K' K → Cuts (through_bag g) (in_elements K') (in_elements K)
bags_cuts g K' K r (bag vs) w e m =
    let q = made_of bag_of (all_of g (values vs)) w e in
    all_cuts g K' K r (values vs) q.0 q.1 (in_bag K q.0 (subst (λ z. in_elements K z ≡ false) q.2 m))
bags_cuts g K' K r _ w e m = absurd (cc)

fields_cuts : (G : List (Option Value) → Option (List (Option Value))) (K' K : List (Option Value) → Bool) (H : List (Option Value) → Option (List (Option Value))) (L' L : List (Option Value) → Bool) →
    Cuts G K' K → Cuts H L' L → Cuts (through_fields G H) (in_fields K' L') (in_fields K L)
fields_cuts G K' K H L' L r r' (fields a b) w e m =
    let q = made_both_of (G (slots a)) (H (slots b)) w e in
    let m' : (K (slots (as_slots q.0)) || L (slots (as_slots q.1))) ≡ false = subst (λ z. in_fields K L z ≡ false) q.4 m in
    or_both (K' (slots a)) (L' (slots b))
    (r (slots a) q.0 q.2 (subst (λ l. K l ≡ false) (slots-as_slots q.0) (or_left (K (slots (as_slots q.0))) (L (slots (as_slots q.1))) m')))
    (r' (slots b) q.1 q.3 (subst (λ l. L l ≡ false) (slots-as_slots q.1) (or_right (K (slots (as_slots q.0))) (L (slots (as_slots q.1))) m')))
fields_cuts G K' K H L' L r r' _ w e m = absurd (cc)

alternative_cuts : (G : ℕ → Value → Option Value) (K' K : ℕ → Value → Bool) (H : ℕ → Value → Option Value) (L' L : ℕ → Value → Bool) →
    ((i : ℕ) → Cuts (G i) (K' i) (K i)) → ((i : ℕ) → Cuts (H i) (L' i) (L i)) → Cuts (through_alternative G H) (in_alternative K' L') (in_alternative K L)
alternative_cuts G K' K H L' L r r' (alternative root i v) w e m =
    let q = made_of (alternative root i) (G i v) w e in r i v q.0 q.1 (subst (λ z. in_alternative K L z ≡ false) q.2 m)
alternative_cuts G K' K H L' L r r' (alternative added i v) w e m =
    let q = made_of (alternative added i) (H i v) w e in r' i v q.0 q.1 (subst (λ z. in_alternative K L z ≡ false) q.2 m)
alternative_cuts G K' K H L' L r r' _ w e m = absurd (cc)

slots_cuts : (g : Value → Option Value) (K' K : Value → Bool) (G : List (Option Value) → Option (List (Option Value))) (L' L : List (Option Value) → Bool) →
    Cuts g K' K → Cuts G L' L → Cuts (slots_through g G) (in_slots K' L') (in_slots K L)
slots_cuts g K' K G L' L r rs [] ws e m = refl
slots_cuts g K' K G L' L r rs (None ∷ xs) ws e m =
    let q = joined_of (slot_through g None) (G xs) ws e in
    let i : q.0 ≡ None = sym (some_slot_is None q.0 q.2) in
    rs xs q.1 q.3 (subst (λ x. in_slots K L (x ∷ q.1) ≡ false) i (subst (λ l. in_slots K L l ≡ false) q.4 m))
slots_cuts g K' K G L' L r rs (Some v ∷ xs) ws e m =
    let q = joined_of (slot_through g (Some v)) (G xs) ws e in
    let t = slot_some g v q.0 q.2 in
    let m' : (K t.0 || L q.1) ≡ false = subst (λ x. in_slots K L (x ∷ q.1) ≡ false) t.2 (subst (λ l. in_slots K L l ≡ false) q.4 m) in
    or_both (K' v) (L' xs) (r v t.0 t.1 (or_left (K t.0) (L q.1) m')) (rs xs q.1 q.3 (or_right (K t.0) (L q.1) m'))

mutual
  unfolding widen meets_cut

  pub cuts : {s' s : Schema} → Newer s' s → Cuts (widen s' s) (meets_cut s) (meets_cut s')
  cuts (unchanged {s = s} h) = λ v w e m. subst (λ z. meets_cut s z ≡ false) (sym (some_is v w (sym (plain_widen s h v) ∙ e))) m
  cuts (more_items k) = λ v w e m. refl
  cuts (newer_containing n) = cuts n
  cuts (newer_list {e = e0} {e' = e1} n) = elements_cuts (widen e1 e0) (meets_cut e0) (meets_cut e1) (cuts n)
  cuts (newer_set_of {e = e0} {e' = e1} n) = bags_cuts (widen e1 e0) (meets_cut e0) (meets_cut e1) (cuts n)
  cuts (newer_sequence {ps = ps} {ps' = ps'} {adds = adds} {adds' = adds'} n ns) =
      fields_cuts (widen_slots ps' ps) (slots_meet_cut ps) (slots_meet_cut ps') (widen_slots adds' adds) (slots_meet_cut adds) (slots_meet_cut adds') (slots_cut n) (slots_cut ns)
  cuts (newer_choice {ps = ps} {ps' = ps'} {adds = adds} {adds' = adds'} n ns) =
      alternative_cuts (widen_at ps' ps) (meets_cut_at ps) (meets_cut_at ps') (widen_at adds' adds) (meets_cut_at adds) (meets_cut_at adds') (at_cut n) (at_cut ns)

  slots_cut : {may : Bool} {ps' ps : Parts} → NewerParts may ps' ps → Cuts (widen_slots ps' ps) (slots_meet_cut ps) (slots_meet_cut ps')
  slots_cut no_more = λ v w e m. refl
  slots_cut more_parts = λ v w e m. refl
  slots_cut (also {s = s} {s' = s'} {ps = ps} {ps' = ps'} p n ns) = slots_cuts (widen s' s) (meets_cut s) (meets_cut s') (widen_slots ps' ps) (slots_meet_cut ps) (slots_meet_cut ps') (cuts n) (slots_cut ns)

  at_cut : {may : Bool} {ps' ps : Parts} → NewerParts may ps' ps → (i : ℕ) → Cuts (widen_at ps' ps i) (meets_cut_at ps i) (meets_cut_at ps' i)
  at_cut no_more i = λ v w e m. refl
  at_cut more_parts i = λ v w e m. refl
  at_cut (also p n ns) zero = cuts n
  at_cut (also p n ns) (suc i) = at_cut ns i

-- two steps and one
record Joins {X : Type 0} (f g h : X → Option X) (K : X → Bool) : Type 0 where
  up : (v v1 v2 : X) → f v ≡ Some v1 → g v1 ≡ Some v2 → K v2 ≡ false → h v ≡ Some v2
  down : (v v2 : X) → h v ≡ Some v2 → K v2 ≡ false → (v1 : X) × (f v ≡ Some v1) × (g v1 ≡ Some v2)

all_up : (f g h : Value → Option Value) (K : Value → Bool) → Joins f g h K → (vs ws us : List Value) → all_of f vs ≡ Some ws → all_of g ws ≡ Some us → any_of K us ≡ false → all_of h vs ≡ Some us
all_up f g h K r [] ws us e k m = let i : [] ≡ ws = cc in subst (λ l. all_of g l ≡ Some us) (sym i) k
all_up f g h K r (v ∷ vs) ws us e k m =
    let q = joined_of (f v) (all_of f vs) ws e in
    let t = joined_of (g q.0) (all_of g q.1) us (subst (λ l. all_of g l ≡ Some us) q.4 k) in
    let m' : (K t.0 || any_of K t.1) ≡ false = subst (λ l. any_of K l ≡ false) t.4 m in
    let a : h v ≡ Some t.0 = r.up v q.0 t.0 q.2 t.2 (or_left (K t.0) (any_of K t.1) m') in
    let b : all_of h vs ≡ Some t.1 = all_up f g h K r vs q.1 t.1 q.3 t.3 (or_right (K t.0) (any_of K t.1) m') in
    ap (λ o. joined o (all_of h vs)) a ∙ ap (joined (Some t.0)) b ∙ ap some_l (sym t.4)
  where
    some_l : List Value → Option (List Value)
    some_l l = Some l

all_down : (f g h : Value → Option Value) (K : Value → Bool) → Joins f g h K → (vs us : List Value) → all_of h vs ≡ Some us → any_of K us ≡ false → (ws : List Value) × (all_of f vs ≡ Some ws) × (all_of g ws ≡ Some us)
all_down f g h K r [] us e m = ([], refl, e)
all_down f g h K r (v ∷ vs) us e m =
    let t = joined_of (h v) (all_of h vs) us e in
    let m' : (K t.0 || any_of K t.1) ≡ false = subst (λ l. any_of K l ≡ false) t.4 m in
    let a = r.down v t.0 t.2 (or_left (K t.0) (any_of K t.1) m') in
    let b = all_down f g h K r vs t.1 t.3 (or_right (K t.0) (any_of K t.1) m') in
    (a.0 ∷ b.0, ap (λ o. joined o (all_of f vs)) a.1 ∙ ap (joined (Some a.0)) b.1, ap (λ o. joined o (all_of g b.0)) a.2 ∙ ap (joined (Some t.0)) b.2 ∙ ap some_l (sym t.4))
  where
    some_l : List Value → Option (List Value)
    some_l l = Some l

abbrev of_list : List Value → Value
of_list ws = elements (as_values ws)

elements_joins : (f g h : Value → Option Value) (K : Value → Bool) → Joins f g h K → Joins (through_elements f) (through_elements g) (through_elements h) (in_elements K)
elements_joins f g h K r = record { up = λ v v1 v2 e k m. go v v1 v2 e k m; down = λ v v2 e m. back v v2 e m }
  where
    through : (g : Value → Option Value) (ws : List Value) → through_elements g (of_list ws) ≡ made of_list (all_of g ws)
    through g ws = ap (λ l. made of_list (all_of g l)) (values-as_values ws)

    go : (v v1 v2 : Value) → through_elements f v ≡ Some v1 → through_elements g v1 ≡ Some v2 → in_elements K v2 ≡ false → through_elements h v ≡ Some v2
    go (elements vs) v1 v2 e k m =
        let q = made_of of_list (all_of f (values vs)) v1 e in
        let t = made_of of_list (all_of g q.0) v2 (sym (through g q.0) ∙ ap (through_elements g) (sym q.2) ∙ k) in
        let m' = subst (λ l. any_of K l ≡ false) (values-as_values t.0) (subst (λ z. in_elements K z ≡ false) t.2 m) in
        ap (made of_list) (all_up f g h K r (values vs) q.0 t.0 q.1 t.1 m') ∙ some_same (sym t.2)
    go _ v1 v2 e k m = absurd (cc)

    back : (v v2 : Value) → through_elements h v ≡ Some v2 → in_elements K v2 ≡ false → (v1 : Value) × (through_elements f v ≡ Some v1) × (through_elements g v1 ≡ Some v2)
    back (elements vs) v2 e m =
        let t = made_of of_list (all_of h (values vs)) v2 e in
        let m' = subst (λ l. any_of K l ≡ false) (values-as_values t.0) (subst (λ z. in_elements K z ≡ false) t.2 m) in
        let q = all_down f g h K r (values vs) t.0 t.1 m' in
        (of_list q.0, ap (made of_list) q.1, through g q.0 ∙ ap (made of_list) q.2 ∙ some_same (sym t.2))
    back _ v2 e m = absurd (cc)

bags_joins : (f g h : Value → Option Value) (K : Value → Bool) → Joins f g h K → Joins (through_bag f) (through_bag g) (through_bag h) (in_elements K)
bags_joins f g h K r = record { up = λ v v1 v2 e k m. go v v1 v2 e k m; down = λ v v2 e m. back v v2 e m }
  where
    go : (v v1 v2 : Value) → through_bag f v ≡ Some v1 → through_bag g v1 ≡ Some v2 → in_elements K v2 ≡ false → through_bag h v ≡ Some v2
    go (bag vs) v1 v2 e k m =
        let q = made_of bag_of (all_of f (values vs)) v1 e in
        let t = made_of bag_of (all_of g q.0) v2 (sym (bag_through g q.0) ∙ ap (through_bag g) (sym q.2) ∙ k) in
        let m' = in_bag K t.0 (subst (λ z. in_elements K z ≡ false) t.2 m) in
        ap (made bag_of) (all_up f g h K r (values vs) q.0 t.0 q.1 t.1 m') ∙ some_same (sym t.2)
    go _ v1 v2 e k m = absurd (cc)

    back : (v v2 : Value) → through_bag h v ≡ Some v2 → in_elements K v2 ≡ false → (v1 : Value) × (through_bag f v ≡ Some v1) × (through_bag g v1 ≡ Some v2)
    back (bag vs) v2 e m =
        let t = made_of bag_of (all_of h (values vs)) v2 e in
        let m' = in_bag K t.0 (subst (λ z. in_elements K z ≡ false) t.2 m) in
        let q = all_down f g h K r (values vs) t.0 t.1 m' in
        (bag_of q.0, ap (made bag_of) q.1, bag_through g q.0 ∙ ap (made bag_of) q.2 ∙ some_same (sym t.2))
    back _ v2 e m = absurd (cc)

-- records
abbrev pub Slotted : Type 0
Slotted = List (Option Value) → Option (List (Option Value))

fields_joins : (F G H : Slotted) (K : List (Option Value) → Bool) (F' G' H' : Slotted) (L : List (Option Value) → Bool) → Joins F G H K → Joins F' G' H' L →
    Joins (through_fields F F') (through_fields G G') (through_fields H H') (in_fields K L)
fields_joins F G H K F' G' H' L r r' = record { up = λ v v1 v2 e k m. go v v1 v2 e k m; down = λ v v2 e m. back v v2 e m }
  where
    through : (G G' : Slotted) (x y : List (Option Value)) → through_fields G G' (fields (as_slots x) (as_slots y)) ≡ made_both (G x) (G' y)
    through G G' x y = ap (λ l. made_both (G l) (G' (slots (as_slots y)))) (slots-as_slots x) ∙ ap (λ l. made_both (G x) (G' l)) (slots-as_slots y)

    apart : (x y : List (Option Value)) (v2 : Value) → v2 ≡ fields (as_slots x) (as_slots y) → in_fields K L v2 ≡ false → (K x ≡ false) × (L y ≡ false)
    apart x y v2 i m =
        let m' : (K (slots (as_slots x)) || L (slots (as_slots y))) ≡ false = subst (λ z. in_fields K L z ≡ false) i m in
        (subst (λ l. K l ≡ false) (slots-as_slots x) (or_left (K (slots (as_slots x))) (L (slots (as_slots y))) m'), subst (λ l. L l ≡ false) (slots-as_slots y) (or_right (K (slots (as_slots x))) (L (slots (as_slots y))) m'))

    go : (v v1 v2 : Value) → through_fields F F' v ≡ Some v1 → through_fields G G' v1 ≡ Some v2 → in_fields K L v2 ≡ false → through_fields H H' v ≡ Some v2
    go (fields a b) v1 v2 e k m =
        let q = made_both_of (F (slots a)) (F' (slots b)) v1 e in
        let t = made_both_of (G q.0) (G' q.1) v2 (sym (through G G' q.0 q.1) ∙ ap (through_fields G G') (sym q.4) ∙ k) in
        let c = apart t.0 t.1 v2 t.4 m in
        ap (λ o. made_both o (H' (slots b))) (r.up (slots a) q.0 t.0 q.2 t.2 c.0) ∙ ap (made_both (Some t.0)) (r'.up (slots b) q.1 t.1 q.3 t.3 c.1) ∙ some_same (sym t.4)
    go _ v1 v2 e k m = absurd (cc)

    back : (v v2 : Value) → through_fields H H' v ≡ Some v2 → in_fields K L v2 ≡ false → (v1 : Value) × (through_fields F F' v ≡ Some v1) × (through_fields G G' v1 ≡ Some v2)
    back (fields a b) v2 e m =
        let t = made_both_of (H (slots a)) (H' (slots b)) v2 e in
        let c = apart t.0 t.1 v2 t.4 m in
        let x = r.down (slots a) t.0 t.2 c.0 in let y = r'.down (slots b) t.1 t.3 c.1 in (
          fields (as_slots x.0) (as_slots y.0),
          ap (λ o. made_both o (F' (slots b))) x.1 ∙ ap (made_both (Some x.0)) y.1,
          through G G' x.0 y.0 ∙ ap (λ o. made_both o (G' y.0)) x.2 ∙ ap (made_both (Some t.0)) y.2 ∙ some_same (sym t.4),
        )
    back _ v2 e m = absurd (cc)

alternative_joins : (F G H : ℕ → Value → Option Value) (K : ℕ → Value → Bool) (F' G' H' : ℕ → Value → Option Value) (L : ℕ → Value → Bool) →
    ((i : ℕ) → Joins (F i) (G i) (H i) (K i)) → ((i : ℕ) → Joins (F' i) (G' i) (H' i) (L i)) → Joins (through_alternative F F') (through_alternative G G') (through_alternative H H') (in_alternative K L)
alternative_joins F G H K F' G' H' L r r' = record { up = λ v v1 v2 e k m. go v v1 v2 e k m; down = λ v v2 e m. back v v2 e m }
  where
    go : (v v1 v2 : Value) → through_alternative F F' v ≡ Some v1 → through_alternative G G' v1 ≡ Some v2 → in_alternative K L v2 ≡ false → through_alternative H H' v ≡ Some v2
    go (alternative root i v) v1 v2 e k m =
        let q = made_of (alternative root i) (F i v) v1 e in
        let t = made_of (alternative root i) (G i q.0) v2 (ap (through_alternative G G') (sym q.2) ∙ k) in
        ap (made (alternative root i)) ((r i).up v q.0 t.0 q.1 t.1 (subst (λ z. in_alternative K L z ≡ false) t.2 m)) ∙ some_same (sym t.2)
    go (alternative added i v) v1 v2 e k m =
        let q = made_of (alternative added i) (F' i v) v1 e in
        let t = made_of (alternative added i) (G' i q.0) v2 (ap (through_alternative G G') (sym q.2) ∙ k) in
        ap (made (alternative added i)) ((r' i).up v q.0 t.0 q.1 t.1 (subst (λ z. in_alternative K L z ≡ false) t.2 m)) ∙ some_same (sym t.2)
    go _ v1 v2 e k m = absurd (cc)

    back : (v v2 : Value) → through_alternative H H' v ≡ Some v2 → in_alternative K L v2 ≡ false → (v1 : Value) × (through_alternative F F' v ≡ Some v1) × (through_alternative G G' v1 ≡ Some v2)
    back (alternative root i v) v2 e m =
        let t = made_of (alternative root i) (H i v) v2 e in
        let x = (r i).down v t.0 t.1 (subst (λ z. in_alternative K L z ≡ false) t.2 m) in
        (alternative root i x.0, ap (made (alternative root i)) x.1, ap (made (alternative root i)) x.2 ∙ some_same (sym t.2))
    back (alternative added i v) v2 e m =
        let t = made_of (alternative added i) (H' i v) v2 e in
        let x = (r' i).down v t.0 t.1 (subst (λ z. in_alternative K L z ≡ false) t.2 m) in
        (alternative added i x.0, ap (made (alternative added i)) x.1, ap (made (alternative added i)) x.2 ∙ some_same (sym t.2))
    back _ v2 e m = absurd (cc)

-- one slot more
abbrev pub slot_test : (Value → Bool) → Option Value → Bool
slot_test K None = false
slot_test K (Some v) = K v

pub slot_apart : (K : Value → Bool) (L : List (Option Value) → Bool) (x : Option Value) (xs : List (Option Value)) → in_slots K L (x ∷ xs) ≡ false → (slot_test K x ≡ false) × (L xs ≡ false)
slot_apart K L None xs m = (refl, m)
slot_apart K L (Some v) xs m = (or_left (K v) (L xs) m, or_right (K v) (L xs) m)

pub some_o : {x y : Option Value} → x ≡ y → ◌≡◌ {A = Option (Option Value)} (Some x) (Some y)
some_o e = cc

pub into_slot : (g : Value → Option Value) (v w : Value) → g v ≡ Some w → slot_through g (Some v) ≡ Some (Some w)
into_slot g v w e = rw (e, slot_through) refl

slot_up : (f g h : Value → Option Value) (K : Value → Bool) → Joins f g h K → (x x1 x2 : Option Value) → slot_through f x ≡ Some x1 → slot_through g x1 ≡ Some x2 → slot_test K x2 ≡ false → slot_through h x ≡ Some x2
slot_up f g h K r None x1 x2 e k m = let i : x1 ≡ None = sym (some_slot_is None x1 e) in subst (λ z. slot_through g z ≡ Some x2) i k
slot_up f g h K r (Some v) x1 x2 e k m =
    let q = slot_some f v x1 e in
    let t = slot_some g q.0 x2 (subst (λ z. slot_through g z ≡ Some x2) q.2 k) in
    into_slot h v t.0 (r.up v q.0 t.0 q.1 t.1 (subst (λ z. slot_test K z ≡ false) t.2 m)) ∙ some_o (sym t.2)

slot_down : (f g h : Value → Option Value) (K : Value → Bool) → Joins f g h K → (x x2 : Option Value) → slot_through h x ≡ Some x2 → slot_test K x2 ≡ false → (x1 : Option Value) × (slot_through f x ≡ Some x1) × (slot_through g x1 ≡ Some x2)
slot_down f g h K r None x2 e m = (None, refl, e)
slot_down f g h K r (Some v) x2 e m =
    let t = slot_some h v x2 e in
    let q = r.down v t.0 t.1 (subst (λ z. slot_test K z ≡ false) t.2 m) in
    (Some q.0, into_slot f v q.0 q.1, into_slot g q.0 t.0 q.2 ∙ some_o (sym t.2))

slots_joins : (f g h : Value → Option Value) (K : Value → Bool) (F G H : Slotted) (L : List (Option Value) → Bool) → Joins f g h K → Joins F G H L → Joins (slots_through f F) (slots_through g G) (slots_through h H) (in_slots K L)
slots_joins f g h K F G H L r rs = record { up = λ v v1 v2 e k m. go v v1 v2 e k m; down = λ v v2 e m. back v v2 e m }
  where
    some_l : {x y : List (Option Value)} → x ≡ y → ◌≡◌ {A = Option (List (Option Value))} (Some x) (Some y)
    some_l e = cc

    go : (v v1 v2 : List (Option Value)) → slots_through f F v ≡ Some v1 → slots_through g G v1 ≡ Some v2 → in_slots K L v2 ≡ false → slots_through h H v ≡ Some v2
    go [] v1 v2 e k m = absurd (cc)
    go (x ∷ xs) v1 v2 e k m =
        let q = joined_of (slot_through f x) (F xs) v1 e in
        let t = joined_of (slot_through g q.0) (G q.1) v2 (subst (λ l. slots_through g G l ≡ Some v2) q.4 k) in
        let c = slot_apart K L t.0 t.1 (subst (λ l. in_slots K L l ≡ false) t.4 m) in
        ap (λ o. joined o (H xs)) (slot_up f g h K r x q.0 t.0 q.2 t.2 c.0) ∙ ap (joined (Some t.0)) (rs.up xs q.1 t.1 q.3 t.3 c.1) ∙ some_l (sym t.4)

    back : (v v2 : List (Option Value)) → slots_through h H v ≡ Some v2 → in_slots K L v2 ≡ false → (v1 : List (Option Value)) × (slots_through f F v ≡ Some v1) × (slots_through g G v1 ≡ Some v2)
    back [] v2 e m = absurd (cc)
    back (x ∷ xs) v2 e m =
        let t = joined_of (slot_through h x) (H xs) v2 e in
        let c = slot_apart K L t.0 t.1 (subst (λ l. in_slots K L l ≡ false) t.4 m) in
        let y = slot_down f g h K r x t.0 t.2 c.0 in
        let z = rs.down xs t.1 t.3 c.1 in
        (y.0 ∷ z.0, ap (λ o. joined o (F xs)) y.1 ∙ ap (joined (Some y.0)) z.1, ap (λ o. joined o (G z.0)) y.2 ∙ ap (joined (Some t.0)) z.2 ∙ some_l (sym t.4))

-- parts that only the newest reader knows, or that the oldest alone does not know
filled_up : (s'' s' : Schema) (p'' p' : Presence) → NewerPresence s'' s' p'' p' → (x1 x2 : Option Value) → filled_in p' ≡ Some x1 → slot_through (widen s'' s') x1 ≡ Some x2 → slot_test (meets_cut s'') x2 ≡ false → filled_in p'' ≡ Some x2
filled_up s'' s' required required n x1 x2 e k m = absurd (cc)
filled_up s'' s' optional optional n x1 x2 e k m = let i : x1 ≡ None = sym (some_slot_is None x1 e) in subst (λ z. slot_through (widen s'' s') z ≡ Some x2) i k
filled_up s'' s' group group n x1 x2 e k m = let i : x1 ≡ None = sym (some_slot_is None x1 e) in subst (λ z. slot_through (widen s'' s') z ≡ Some x2) i k
filled_up s'' s' (default d'') (default d') n x1 x2 e k m =
    let i : x1 ≡ Some d' = sym (some_slot_is (Some d') x1 e) in
    let t = slot_some (widen s'' s') d' x2 (subst (λ z. slot_through (widen s'' s') z ≡ Some x2) i k) in
    let j : t.0 ≡ d'' = n.same t.0 t.1 (subst (λ z. slot_test (meets_cut s'') z ≡ false) t.2 m) in
    some_o (some_same (sym j) ∙ sym t.2)
filled_up s'' s' _ _ n x1 x2 e k m = absurd n

filled_down : (s'' s' : Schema) (p'' p' : Presence) → NewerPresence s'' s' p'' p' → (x2 : Option Value) → filled_in p'' ≡ Some x2 → slot_test (meets_cut s'') x2 ≡ false → (x1 : Option Value) × (filled_in p' ≡ Some x1) × (slot_through (widen s'' s') x1 ≡ Some x2)
filled_down s'' s' required required n x2 e m = absurd (cc)
filled_down s'' s' optional optional n x2 e m = (None, refl, e)
filled_down s'' s' group group n x2 e m = (None, refl, e)
filled_down s'' s' (default d'') (default d') n x2 e m =
    let i : x2 ≡ Some d'' = sym (some_slot_is (Some d'') x2 e) in
    let m' : meets_cut s'' d'' ≡ false = subst (λ z. slot_test (meets_cut s'') z ≡ false) i m in
    (Some d', refl, into_slot (widen s'' s') d' d'' (n.there m') ∙ e)
filled_down s'' s' _ _ n x2 e m = absurd n

pub some_l : {x y : List (Option Value)} → x ≡ y → ◌≡◌ {A = Option (List (Option Value))} (Some x) (Some y)
some_l e = cc

all_filled_up : {may : Bool} {ps'' ps' : Parts} → NewerParts may ps'' ps' → (v1 v2 : List (Option Value)) → all_filled_in ps' ≡ Some v1 → widen_slots ps'' ps' v1 ≡ Some v2 → slots_meet_cut ps'' v2 ≡ false → all_filled_in ps'' ≡ Some v2
unfolding widen meets_cut
all_filled_up no_more v1 v2 e k m = k
all_filled_up more_parts v1 v2 e k m = k
all_filled_up (also {p = p1} {p' = p2} {s = s1} {s' = s2} {ps = ps1} {ps' = ps2} n ss ns) v1 v2 e k m =
    let q = joined_of (filled_in p1) (all_filled_in ps1) v1 e in
    let t = joined_of (slot_through (widen s2 s1) q.0) (widen_slots ps2 ps1 q.1) v2 (subst (λ l. slots_through (widen s2 s1) (widen_slots ps2 ps1) l ≡ Some v2) q.4 k) in
    let c = slot_apart (meets_cut s2) (slots_meet_cut ps2) t.0 t.1 (subst (λ l. in_slots (meets_cut s2) (slots_meet_cut ps2) l ≡ false) t.4 m) in
    ap (λ o. joined o (all_filled_in ps2)) (filled_up s2 s1 p2 p1 n q.0 t.0 q.2 t.2 c.0) ∙ ap (joined (Some t.0)) (all_filled_up ns q.1 t.1 q.3 t.3 c.1) ∙ some_l (sym t.4)

all_filled_down : {may : Bool} {ps'' ps' : Parts} → NewerParts may ps'' ps' → (v2 : List (Option Value)) → all_filled_in ps'' ≡ Some v2 → slots_meet_cut ps'' v2 ≡ false →
    (v1 : List (Option Value)) × (all_filled_in ps' ≡ Some v1) × (widen_slots ps'' ps' v1 ≡ Some v2)
unfolding widen meets_cut
all_filled_down no_more v2 e m = ([], refl, e)
all_filled_down more_parts v2 e m = ([], refl, e)
all_filled_down (also {p = p1} {p' = p2} {s = s1} {s' = s2} {ps = ps1} {ps' = ps2} n ss ns) v2 e m =
    let t = joined_of (filled_in p2) (all_filled_in ps2) v2 e in
    let c = slot_apart (meets_cut s2) (slots_meet_cut ps2) t.0 t.1 (subst (λ l. in_slots (meets_cut s2) (slots_meet_cut ps2) l ≡ false) t.4 m) in
    let y = filled_down s2 s1 p2 p1 n t.0 t.2 c.0 in
    let z = all_filled_down ns t.1 t.3 c.1 in
    (y.0 ∷ z.0, ap (λ o. joined o (all_filled_in ps1)) y.1 ∙ ap (joined (Some y.0)) z.1, ap (λ o. joined o (widen_slots ps2 ps1 z.0)) y.2 ∙ ap (joined (Some t.0)) z.2 ∙ some_l (sym t.4))

no_value : {v : Value} → ◌≡◌ {A = Option Value} None (Some v) → ⊥
no_value e = cc

mutual
  unfolding widen meets_cut

  joins : {s'' s' s : Schema} → Newer s'' s' → Newer s' s → Joins (widen s' s) (widen s'' s') (widen s'' s) (meets_cut s'')
  joins (unchanged {s = t} h) m = record { up = λ v v1 v2 e k c. e ∙ sym (plain_widen t h v1) ∙ k; down = λ v v2 e c. (v2, e, plain_widen t h v2) }
  joins (more_items k) (unchanged h) = absurd (cc)
  joins (more_items k) (more_items l) = record { up = λ v v1 v2 e k c. e ∙ k; down = λ v v2 e c. (v, refl, e) }
  joins (newer_containing n) (unchanged h) = absurd h
  joins (newer_containing n) (newer_containing m) = joins n m
  joins (newer_list n) (unchanged h) = absurd h
  joins (newer_list {e = e1} {e' = e2} n) (newer_list {e = e0} m) = elements_joins (widen e1 e0) (widen e2 e1) (widen e2 e0) (meets_cut e2) (joins n m)
  joins (newer_set_of n) (unchanged h) = absurd h
  joins (newer_set_of {e = e1} {e' = e2} n) (newer_set_of {e = e0} m) = bags_joins (widen e1 e0) (widen e2 e1) (widen e2 e0) (meets_cut e2) (joins n m)
  joins (newer_sequence n ns) (unchanged h) = absurd h
  joins (newer_sequence {ps = ps1} {ps' = ps2} {adds = adds1} {adds' = adds2} n ns) (newer_sequence {ps = ps0} {adds = adds0} m ms) =
      fields_joins (widen_slots ps1 ps0) (widen_slots ps2 ps1) (widen_slots ps2 ps0) (slots_meet_cut ps2) (widen_slots adds1 adds0) (widen_slots adds2 adds1) (widen_slots adds2 adds0) (slots_meet_cut adds2) (join_slots n m) (join_slots ns ms)
  joins (newer_choice n ns) (unchanged h) = absurd h
  joins (newer_choice {ps = ps1} {ps' = ps2} {adds = adds1} {adds' = adds2} n ns) (newer_choice {ps = ps0} {adds = adds0} m ms) =
      alternative_joins (widen_at ps1 ps0) (widen_at ps2 ps1) (widen_at ps2 ps0) (meets_cut_at ps2) (widen_at adds1 adds0) (widen_at adds2 adds1) (widen_at adds2 adds0) (meets_cut_at adds2) (join_at n m) (join_at ns ms)

  join_slots : {may : Bool} {ps'' ps' ps : Parts} → NewerParts may ps'' ps' → NewerParts may ps' ps → Joins (widen_slots ps' ps) (widen_slots ps'' ps') (widen_slots ps'' ps) (slots_meet_cut ps'')
  join_slots no_more no_more = record { up = λ v v1 v2 e k c. k; down = λ v v2 e c. ([], refl, e) }
  join_slots more_parts no_more = record { up = λ v v1 v2 e k c. k; down = λ v v2 e c. ([], refl, e) }
  join_slots (also {t = t} p n ns) more_parts = record { up = λ v v1 v2 e k c. all_filled_up (also {t = t} p n ns) v1 v2 e k c; down = λ v v2 e c. all_filled_down (also {t = t} p n ns) v2 e c }
  join_slots (also {s = s1} {s' = s2} {ps = ps1} {ps' = ps2} p n ns) (also {s = s0} {ps = ps0} q m ms) =
      slots_joins (widen s1 s0) (widen s2 s1) (widen s2 s0) (meets_cut s2) (widen_slots ps1 ps0) (widen_slots ps2 ps1) (widen_slots ps2 ps0) (slots_meet_cut ps2) (joins n m) (join_slots ns ms)

  join_at : {may : Bool} {ps'' ps' ps : Parts} → NewerParts may ps'' ps' → NewerParts may ps' ps → (i : ℕ) → Joins (widen_at ps' ps i) (widen_at ps'' ps' i) (widen_at ps'' ps i) (meets_cut_at ps'' i)
  join_at no_more no_more i = record { up = λ v v1 v2 e k c. absurd (no_value e); down = λ v v2 e c. absurd (no_value e) }
  join_at more_parts no_more i = record { up = λ v v1 v2 e k c. absurd (no_value e); down = λ v v2 e c. absurd (no_value e) }
  join_at (also p n ns) more_parts i = record { up = λ v v1 v2 e k c. absurd (no_value e); down = λ v v2 e c. absurd (no_value e) }
  join_at (also p n ns) (also q m ms) zero = joins n m
  join_at (also p n ns) (also q m ms) (suc i) = join_at ns ms i

presence_through : {s'' s' s : Schema} → Newer s'' s' → Newer s' s → (p'' p' p : Presence) → NewerPresence s'' s' p'' p' → NewerPresence s' s p' p → NewerPresence s'' s p'' p
presence_through n m required required required k l = tt
presence_through n m optional optional optional k l = tt
presence_through n m group group group k l = tt
presence_through {s''} {s'} n m (default d'') (default d') (default d) k l = record {
  there = λ c. let e = k.there c in let c' = cuts n d' d'' e c in (joins n m).up d d' d'' (l.there c') e c;
  same = λ x e c.
      let q = (joins n m).down d x e c in
      let i = l.same q.0 q.1 (cuts n q.0 x q.2 c) in
      k.same x (subst (λ z. widen s'' s' z ≡ Some x) i q.2) c;
  valid = l.valid;
}
presence_through n m required required _ k l = absurd l
presence_through n m optional optional _ k l = absurd l
presence_through n m group group _ k l = absurd l
presence_through n m (default d'') (default d') _ k l = absurd l
presence_through n m _ _ p k l = absurd k

mutual
  pub transitive : {s'' s' s : Schema} → Newer s'' s' → Newer s' s → Newer s'' s
  transitive (unchanged h) m = m
  transitive (more_items k) (unchanged h) = more_items k
  transitive (more_items k) (more_items l) = more_items (omega arith)
  transitive (newer_containing n) (unchanged h) = absurd h
  transitive (newer_containing n) (newer_containing m) = newer_containing (transitive n m)
  transitive (newer_list n) (unchanged h) = absurd h
  transitive (newer_list n) (newer_list m) = newer_list (transitive n m)
  transitive (newer_set_of n) (unchanged h) = absurd h
  transitive (newer_set_of n) (newer_set_of m) = newer_set_of (transitive n m)
  transitive (newer_sequence n ns) (unchanged h) = absurd h
  transitive (newer_sequence n ns) (newer_sequence m ms) = newer_sequence (transitive_parts n m) (transitive_parts ns ms)
  transitive (newer_choice n ns) (unchanged h) = absurd h
  transitive (newer_choice n ns) (newer_choice m ms) = newer_choice (transitive_parts n m) (transitive_parts ns ms)

  transitive_parts : {may : Bool} {ps'' ps' ps : Parts} → NewerParts may ps'' ps' → NewerParts may ps' ps → NewerParts may ps'' ps
  transitive_parts no_more no_more = no_more
  transitive_parts more_parts no_more = more_parts
  transitive_parts (also k n ns) more_parts = more_parts
  transitive_parts (also {p = p1} {p' = p2} k n ns) (also {p = p0} l m ms) = also (presence_through n m p2 p1 p0 k l) (transitive n m) (transitive_parts ns ms)

-- a newer version of a newer version is a newer version
pub newer_transitive : (s'' s' s : Schema) → Newer s'' s' → Newer s' s → Newer s'' s
newer_transitive s'' s' s n m = transitive n m

-- widening in two steps is widening at once, where no Cut is met
pub widens_in_steps : (s'' s' s : Schema) → Newer s'' s' → Newer s' s → (v w x : Value) → widen s' s v ≡ Some w → widen s'' s' w ≡ Some x → meets_cut s'' x ≡ false → widen s'' s v ≡ Some x
widens_in_steps s'' s' s n m v w x e k c = (joins n m).up v w x e k c
