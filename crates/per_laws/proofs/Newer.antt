-- Where a newer reader and an older one read the same bits, the newer one's value is the widening of the older one's, unless unknown additions are present.
use Rattle.std.proofs.Common.{◌≡◌, refl, sym, ap, ◌∙◌, subst, ℕ, zero, suc, ◌<◌, Bool, true, false, List, [], ◌∷◌, arith, Option, Some, None}
use Rattle.rasn_types.specs.Values.{sorted, before, code, Value, elements, bag_of, fields, alternative, root, added, as_values, slots, as_slots}
use Rattle.rasn_types.proofs.Values.{values-as_values, slots-as_slots}
use Rattle.rasn_schema.specs.Depth.{meets_cut, slots_meet_cut, meets_cut_at, in_elements, in_fields, any_of}
use Rattle.rasn_schema.specs.Orders.{ordered}
use Rattle.rasn_constraints.specs.Bounds.{Size}
use Rattle.rasn_schema.specs.Schemas.{tags, count, Presence, required, optional, group, default, Order, Schema, Parts, no_parts, part}
use Rattle.per_core.specs.Basic
use Rattle.per_core.specs.Basic.{Rule, IsLeftOut, Fills, OpenOf, Root, IsBitmap, Unknown_in, Additions_in, Extended_in, Record_in, As, Counted, basic, basic_in, rules, rules_in}
use Rattle.per_core.specs.Counts.{list_items}
use Rattle.per_core.specs.Spellings.{Settings, Then}
use Rattle.rasn_types.specs.AllOf.{joined, all_of}
use Rattle.per_core.specs.Versions.{widen, widen_slots, widen_at, filled_in, all_filled_in, slot_through, through_elements, through_fields, made, made_both, IsPlain, NewerPresence, Newer, NewerParts, unchanged, more_items, newer_containing, newer_list, newer_set_of, newer_sequence, newer_choice, no_more, more_parts, also}
use Rattle.per_core.proofs.SpellingsAgree.{Agree, weaken, then_agree, either_agree, when_agree, never_agree, agree_never, empty_agree, no_yes, yes_no, behind}
use Rattle.rasn_schema.proofs.Bags.{bag_becomes, any_in_bag}
use Rattle.per_core.proofs.LengthForms.{Zip, lengthy_agree, or_left, or_right}
use Rattle.per_core.proofs.Records.{SlotRel, AllKin, Along, holds_agree, root_agree, bitmap_agree}
use Rattle.per_core.proofs.Unique.{as_agree, fills_agree, open_agree}
use Rattle.per_core.proofs.Readings.{one_reading, item_agree, alternative_agree, ordered-kin, along-listed, rel_at, length-rules-in, some_same}
use Rattle.per_laws.proofs.Older.{slot_meets, flags_newer, same_tags}

-- additions: those that the newer reader knows alone are left out
abbrev LeftOuts : List Rule → List (Option Value) → Type 0
LeftOuts [] [] = Unit {0}
LeftOuts (r ∷ rs) (s ∷ ss) = IsLeftOut r.presence s × LeftOuts rs ss
LeftOuts _ _ = ⊥

abbrev Wide : List SlotRel → List Rule → List (Option Value) → List (Option Value) → Type 0
Wide [] rs' ss' [] = LeftOuts rs' ss'
Wide (S ∷ Ss) (r' ∷ rs') (s' ∷ ss') (s ∷ ss) = S s' s × Wide Ss rs' ss' ss
Wide _ _ _ _ = ⊥

unknown_closed : (a : Settings) (bs : List Bool) → Agree (Unit {0}) (Unknown_in a true bs) (Unknown_in a false bs)
unknown_closed a [] = empty_agree
unknown_closed a (false ∷ bs) = unknown_closed a bs
unknown_closed a (true ∷ bs) = agree_never

left_agree : (a : Settings) (rs : List Rule) (ss : List (Option Value)) (bs : List Bool) → Agree (LeftOuts rs ss) (Additions_in a true rs ss bs) (Unknown_in a false bs)
left_agree a [] [] bs = unknown_closed a bs
left_agree a [] (s ∷ ss) bs = never_agree
left_agree a (r ∷ rs) [] bs = never_agree
left_agree a (r ∷ rs) (s ∷ ss) [] = record { agree = λ p b c t u x y e. let q = (left_agree a rs ss []).agree p b c t u x.1 y e in ((x.0, q.0), q.1) }
left_agree a (r ∷ rs) (s ∷ ss) (false ∷ bs) = record { agree = λ p b c t u x y e. let q = (left_agree a rs ss bs).agree p b c t u x.1 y e in ((x.0, q.0), q.1) }
left_agree a (r ∷ rs) (s ∷ ss) (true ∷ bs) = agree_never

wide_agree : (a : Settings) (may : Bool) (Ss : List SlotRel) (rs' rs : List Rule) → AllKin may Ss rs' rs → (bs : List Bool) (ss' ss : List (Option Value)) →
    Agree (Wide Ss rs' ss' ss) (Additions_in a true rs' ss' bs) (Additions_in a false rs ss bs)
wide_agree a may [] rs' [] k bs ss' [] = left_agree a rs' ss' bs
wide_agree a may [] rs' [] k bs ss' (s ∷ ss) = agree_never
wide_agree a may (S ∷ Ss) (r' ∷ rs') (r ∷ rs) k bs [] ss = never_agree
wide_agree a may (S ∷ Ss) (r' ∷ rs') (r ∷ rs) k bs (s' ∷ ss') [] = agree_never
wide_agree a may (S ∷ Ss) (r' ∷ rs') (r ∷ rs) k [] (s' ∷ ss') (s ∷ ss) =
    when_agree (λ x y. weaken (λ z. (k.0.left_out s' s x y, z)) (wide_agree a may Ss rs' rs k.1 [] ss' ss))
wide_agree a may (S ∷ Ss) (r' ∷ rs') (r ∷ rs) k (false ∷ bs) (s' ∷ ss') (s ∷ ss) =
    when_agree (λ x y. weaken (λ z. (k.0.left_out s' s x y, z)) (wide_agree a may Ss rs' rs k.1 bs ss' ss))
wide_agree a may (S ∷ Ss) (r' ∷ rs') (r ∷ rs) k (true ∷ bs) (s' ∷ ss') (s ∷ ss) =
    then_agree (holds_agree S s' s (OpenOf a r'.spells) (OpenOf a r.spells) (λ v' v. open_agree a (Fills a (r'.spells v')) (Fills a (r.spells v)) (λ os x y. fills_agree a os (k.0.held v' v) x y)))
    (λ z. wide_agree a may Ss rs' rs k.1 bs ss' ss)
wide_agree a may [] rs' (r ∷ rs) k bs ss' ss = absurd (none may rs' k)
  where
    none : (may : Bool) (rs' : List Rule) → AllKin may [] rs' (r ∷ rs) → ⊥
    none true [] k = k
    none true (q ∷ rs') k = k
    none false [] k = k
    none false (q ∷ rs') k = k
wide_agree a may (S ∷ Ss) [] rs k bs ss' ss = absurd k
wide_agree a may (S ∷ Ss) (r' ∷ rs') [] k bs ss' ss = absurd k

module _ (a : Settings) (may : Bool) (Ss As : List SlotRel) (rs' rs adds' adds : List Rule) (k : AllKin false Ss rs' rs) (k' : AllKin may As adds' adds) (ss' ss xs' xs : List (Option Value)) where
  abbrev Both : Type 0
  Both = Along false Ss ss' ss × Wide As adds' xs' xs

  plain_agree : Agree Both (Then (Root rs' ss') (Additions_in a true adds' xs' [])) (Then (Root rs ss) (Additions_in a false adds xs []))
  plain_agree = then_agree (root_agree Ss rs' rs k ss' ss) (λ u. wide_agree a may As adds' adds k' [] xs' xs)

  extended_agree : Agree Both (Extended_in a true rs' adds' ss' xs') (Extended_in a false rs adds ss xs)
  extended_agree = record {
    agree = λ p b c s t x y e.
        let w = behind (true ∷ []) (then_agree (root_agree Ss rs' rs k ss' ss) (λ u. then_agree (bitmap_agree a x.flags y.flags) (λ e.
        subst (λ bs. Agree (Wide As adds' xs' xs) (Additions_in a true adds' xs' x.flags) (Additions_in a false adds xs bs)) e (wide_agree a may As adds' adds k' x.flags xs' xs)))) in
        let r = w.agree p b c s t x.spelled y.spelled e in ((r.0.0, r.0.1.1), r.1);
  }

  wide_fields_agree : (ext : Bool) → Agree Both (Record_in a true ext rs' adds' ss' xs') (Record_in a false ext rs adds ss xs)
  wide_fields_agree false = plain_agree
  wide_fields_agree true = either_agree (behind (false ∷ []) plain_agree)
      (record { agree = λ p b c s t x y e. (no_yes (Then (Root rs' ss') (Additions_in a true adds' xs' [])) (Then (Root rs ss) (Then (IsBitmap a y.flags) (Additions_in a false adds xs y.flags)))).agree p b c s t x y.spelled e })
      (record { agree = λ p b c s t x y e. (yes_no (Then (Root rs' ss') (Then (IsBitmap a x.flags) (Additions_in a true adds' xs' x.flags))) (Then (Root rs ss) (Additions_in a false adds xs []))).agree p b c s t x.spelled y e })
      extended_agree

-- what a slot of the newer reader and one of the older have in common
abbrev Widens : Schema → Schema → SlotRel
Widens s' s x y = slot_meets s' x ≡ false → slot_through (widen s' s) y ≡ Some x

abbrev rels : Parts → Parts → List SlotRel
rels no_parts old = []
rels (part t p s ps) no_parts = []
rels (part t p s ps) (part t' p' s' ps') = Widens s s' ∷ rels ps ps'

abbrev WidensValue : Schema → Schema → Value → Value → Type 0
WidensValue s' s v' v = meets_cut s' v' ≡ false → widen s' s v ≡ Some v'

left_out_widens : (s' s : Schema) (p' p : Presence) → NewerPresence s' s p' p → (x y : Option Value) → IsLeftOut p' x → IsLeftOut p y → Widens s' s x y
left_out_widens s' s required required k x y e f = absurd e
left_out_widens s' s optional optional k x y e f = λ m. rw (e, f) refl
left_out_widens s' s group group k x y e f = λ m. rw (e, f) refl
left_out_widens s' s (default d') (default d) k x y e f = subst (λ z. Widens s' s z y) (sym e) (subst (λ z. Widens s' s (Some d') z) (sym f)
    (λ m. let h : widen s' s d ≡ Some d' = k.there m in rw (h, slot_through) refl))
left_out_widens s' s _ _ k x y e f = absurd k

all_widen : (s' s : Schema) (vs ws : List Value) → Zip (WidensValue s' s) vs ws → any_of (meets_cut s') vs ≡ false → all_of (widen s' s) ws ≡ Some vs
all_widen s' s [] [] z m = refl
all_widen s' s [] (w ∷ ws) z m = absurd z
all_widen s' s (v ∷ vs) [] z m = absurd z
all_widen s' s (v ∷ vs) (w ∷ ws) z m =
    let e : widen s' s w ≡ Some v = z.0 (or_left (meets_cut s' v) (any_of (meets_cut s') vs) m) in
    let r : all_of (widen s' s) ws ≡ Some vs = all_widen s' s vs ws z.1 (or_right (meets_cut s' v) (any_of (meets_cut s') vs) m) in
    ap (λ o. joined o (all_of (widen s' s) ws)) e ∙ ap (λ o. joined (Some v) o) r

list_widen : (s' s : Schema) (vs ws : List Value) → Zip (WidensValue s' s) vs ws → in_elements (meets_cut s') (elements (as_values vs)) ≡ false →
    through_elements (widen s' s) (elements (as_values ws)) ≡ Some (elements (as_values vs))
list_widen s' s vs ws z m =
    let h : any_of (meets_cut s') vs ≡ false = subst (λ l. any_of (meets_cut s') l ≡ false) (values-as_values vs) m in
    ap (λ l. made (λ us. elements (as_values us)) (all_of (widen s' s) l)) (values-as_values ws) ∙ ap (made (λ us. elements (as_values us))) (all_widen s' s vs ws z h)

bag_widen : (s' s : Schema) (size : Size) (mark : Bool) (vs ws : List Value) → Zip (WidensValue s' s) vs ws → meets_cut (Schema.set_of s' size mark) (bag_of vs) ≡ false →
    widen (Schema.set_of s' size mark) (Schema.set_of s size mark) (bag_of ws) ≡ Some (bag_of vs)
unfolding widen meets_cut bag_of
bag_widen s' s size mark vs ws z m =
    let sort : List Value → List Value = sorted (λ v w. before (code v) (code w)) in
    let h : any_of (meets_cut s') (sort vs) ≡ false = subst (λ l. any_of (meets_cut s') l ≡ false) (values-as_values (sort vs)) m in
    let q = bag_becomes (widen s' s) ws vs (all_widen s' s vs ws z (any_in_bag (meets_cut s') vs h)) in
    ap (λ l. made bag_of (all_of (widen s' s) l)) (values-as_values (sort ws)) ∙ ap (made bag_of) q.1 ∙ some_same q.2

left_filled : (p : Presence) (y : Option Value) → IsLeftOut p y → filled_in p ≡ Some y
left_filled required y e = absurd e
left_filled optional y e = ap some_slot (sym e)
  where
    some_slot : Option Value → Option (Option Value)
    some_slot o = Some o
left_filled group y e = ap some_slot (sym e)
  where
    some_slot : Option Value → Option (Option Value)
    some_slot o = Some o
left_filled (default d) y e = ap some_slot (sym e)
  where
    some_slot : Option Value → Option (Option Value)
    some_slot o = Some o

lefts_filled : (a : Settings) (ps : Parts) (ys : List (Option Value)) → LeftOuts (rules a ps) ys → all_filled_in ps ≡ Some ys
unfolding rules_in
lefts_filled a no_parts [] k = refl
lefts_filled a no_parts (y ∷ ys) k = absurd k
lefts_filled a (part t p s ps) [] k = absurd k
lefts_filled a (part t p s ps) (y ∷ ys) k =
    ap (λ o. joined o (all_filled_in ps)) (left_filled p y k.0) ∙ ap (λ o. joined (Some y) o) (lefts_filled a ps ys k.1)

along_widen : (a : Settings) {may : Bool} {ps' ps : Parts} → NewerParts may ps' ps → (xs' xs : List (Option Value)) → Wide (rels ps' ps) (rules a ps') xs' xs → slots_meet_cut ps' xs' ≡ false → widen_slots ps' ps xs ≡ Some xs'
unfolding widen meets_cut rules_in
along_widen a no_more [] [] k m = refl
along_widen a no_more (x ∷ xs') [] k m = absurd k
along_widen a no_more xs' (x ∷ xs) k m = absurd k
along_widen a (more_parts {t = t} {p = p} {s = s} {ps = ps}) xs' [] k m = lefts_filled a (part t p s ps) xs' k
along_widen a more_parts xs' (x ∷ xs) k m = absurd k
along_widen a (also p n ns) [] xs k m = absurd k
along_widen a (also p n ns) (x ∷ xs') [] k m = absurd k
along_widen a (also {s = s} {s' = s'} {ps = ps} {ps' = ps'} p n ns) (None ∷ xs') (y ∷ ys) k m =
    let e = k.0 refl in let r = along_widen a ns xs' ys k.1 m in
    ap (λ o. joined o (widen_slots ps' ps ys)) e ∙ ap (λ o. joined (Some None) o) r
along_widen a (also {s = s} {s' = s'} {ps = ps} {ps' = ps'} p n ns) (Some v ∷ xs') (y ∷ ys) k m =
    let e = k.0 (or_left (meets_cut s' v) (slots_meet_cut ps' xs') m) in
    let r = along_widen a ns xs' ys k.1 (or_right (meets_cut s' v) (slots_meet_cut ps' xs') m) in
    ap (λ o. joined o (widen_slots ps' ps ys)) e ∙ ap (λ o. joined (Some (Some v)) o) r

root_wide : (a : Settings) {ps' ps : Parts} → NewerParts false ps' ps → (xs' xs : List (Option Value)) → Along false (rels ps' ps) xs' xs → Wide (rels ps' ps) (rules a ps') xs' xs
unfolding rules_in
root_wide a no_more [] [] k = tt
root_wide a no_more [] (x ∷ xs) k = absurd k
root_wide a no_more (x ∷ xs') [] k = absurd k
root_wide a no_more (x ∷ xs') (y ∷ xs) k = absurd k
root_wide a (also p n ns) [] xs k = absurd k
root_wide a (also p n ns) (x ∷ xs') [] k = absurd k
root_wide a (also p n ns) (x ∷ xs') (y ∷ xs) k = (k.0, root_wide a ns xs' xs k.1)

fields_widen : (a : Settings) (may : Bool) (ps' ps adds' adds : Parts) → NewerParts false ps' ps → NewerParts may adds' adds → (x y : List (Option Value) × List (Option Value)) →
    Along false (rels ps' ps) x.0 y.0 → Wide (rels adds' adds) (rules a adds') x.1 y.1 →
    in_fields (slots_meet_cut ps') (slots_meet_cut adds') (fields (as_slots x.0) (as_slots x.1)) ≡ false →
    through_fields (widen_slots ps' ps) (widen_slots adds' adds) (fields (as_slots y.0) (as_slots y.1)) ≡ Some (fields (as_slots x.0) (as_slots x.1))
fields_widen a may ps' ps adds' adds n ns x y k k' m =
    let h = or_left (slots_meet_cut ps' (slots (as_slots x.0))) (slots_meet_cut adds' (slots (as_slots x.1))) m in
    let h' = or_right (slots_meet_cut ps' (slots (as_slots x.0))) (slots_meet_cut adds' (slots (as_slots x.1))) m in
    let q = along_widen a n x.0 y.0 (root_wide a n x.0 y.0 k) (subst (λ l. slots_meet_cut ps' l ≡ false) (slots-as_slots x.0) h) in
    let q' = along_widen a ns x.1 y.1 k' (subst (λ l. slots_meet_cut adds' l ≡ false) (slots-as_slots x.1) h') in
    ap (λ l. made_both (widen_slots ps' ps l) (widen_slots adds' adds (slots (as_slots y.1)))) (slots-as_slots y.0)
    ∙ ap (λ l. made_both (widen_slots ps' ps y.0) (widen_slots adds' adds l)) (slots-as_slots y.1)
    ∙ ap (λ z. made_both z (widen_slots adds' adds y.1)) q ∙ ap (λ z. made_both (Some x.0) z) q'

slot_widened : (s' s : Schema) (v' v : Value) → slot_through (widen s' s) (Some v) ≡ Some (Some v') → widen s' s v ≡ Some v'
slot_widened s' s v' v e = go (widen s' s v) e
  where
    go : (o : Option Value) → ◌≡◌ {A = Option (Option Value)} (elim o [ None ↦ None | Some w ↦ Some (Some w) ]) (Some (Some v')) → o ≡ Some v'
    go None e = absurd (cc)
    go (Some w) e = cc

at_widen : {may : Bool} {ps' ps : Parts} → NewerParts may ps' ps → (i : ℕ) (v' v : Value) → i < count ps → rel_at (rels ps' ps) i (Some v') (Some v) → meets_cut_at ps' i v' ≡ false →
    widen_at ps' ps i v ≡ Some v'
unfolding widen meets_cut
at_widen no_more i v' v l e m = absurd (omega arith)
at_widen more_parts i v' v l e m = absurd (omega arith)
at_widen (also {s = s} {s' = s'} p n ns) zero v' v l e m = slot_widened s' s v' v (e m)
at_widen (also p n ns) (suc i) v' v l e m = at_widen ns i v' v (omega arith) e m

items_widen : (a : Settings) (r e' e : ℕ) (ext : Bool) (v' v : Value) → Agree (WidensValue (Schema.items r e' ext) (Schema.items r e ext) v' v) (basic a (Schema.items r e' ext) v') (basic_in a false (Schema.items r e ext) v)
unfolding basic_in widen
items_widen a r e' e ext v' v = as_agree (WidensValue (Schema.items r e' ext) (Schema.items r e ext)) (λ x. Value.item x.0 x.1) (λ x. Value.item x.0 x.1)
    (λ x. Basic.Item a r e' ext x.0 x.1) (λ x. Basic.Item a r e ext x.0 x.1) v' v
    (λ x y. record {
      agree = λ p b c s t h k u.
          let q = (item_agree a r e' e ext x.0 x.1 y.0 y.1).agree p b c s t h k u in
          let j : Value.item x.0 x.1 ≡ Value.item y.0 y.1 = ap (λ d. Value.item d x.1) q.0.0 ∙ ap (λ i. Value.item y.0 i) q.0.1 in
          ((λ m. some_same (sym j)), q.1);
    })

plain_widens : (a : Settings) (s : Schema) → IsPlain s → (v' v : Value) → Agree (WidensValue s s v' v) (basic a s v') (basic_in a false s v)
unfolding widen basic_in
plain_widens a (Schema.items r e ext) h v' v = items_widen a r e e ext v' v
plain_widens a (Schema.containing e) h v' v = absurd h
plain_widens a (Schema.list e size mark) h v' v = absurd h
plain_widens a (Schema.set_of e size mark) h v' v = absurd h
plain_widens a (Schema.sequence o ps ext adds) h v' v = absurd h
plain_widens a (Schema.choice ps adds ext) h v' v = absurd h
plain_widens a s h v' v = weaken (λ e m. let e' : v ≡ v' = sym e in some_same e') (one_reading a s v' v)

-- the value that octets contain
contained_reads : (a : Settings) (s' s : Schema) (v' v : Value) → Agree (WidensValue s' s v' v) (basic a s' v') (basic_in a false s v) →
    Agree (WidensValue (Schema.containing s') (Schema.containing s) v' v) (basic a (Schema.containing s') v') (basic_in a false (Schema.containing s) v)
unfolding basic_in widen meets_cut
contained_reads a s' s v' v h = open_agree a (Fills a (basic a s' v')) (Fills a (basic_in a false s v)) (λ os x y. fills_agree a os h x y)

list_reads : (a : Settings) (s' s : Schema) (size : Size) (mark : Bool) → ((v' v : Value) → Agree (WidensValue s' s v' v) (basic a s' v') (basic_in a false s v)) → (v' v : Value) →
    Agree (WidensValue (Schema.list s' size mark) (Schema.list s size mark) v' v) (basic a (Schema.list s' size mark) v') (basic_in a false (Schema.list s size mark) v)
unfolding basic_in widen meets_cut
list_reads a s' s size mark h v' v = as_agree (WidensValue (Schema.list s' size mark) (Schema.list s size mark)) (λ vs. elements (as_values vs)) (λ vs. elements (as_values vs))
    (Counted a size mark list_items (basic a s')) (Counted a size mark list_items (basic_in a false s)) v' v
    (λ x y. weaken (λ z m. list_widen s' s x y z m) (lengthy_agree (WidensValue s' s) (basic a s') (basic_in a false s) h a size mark list_items x y))

bag_reads : (a : Settings) (s' s : Schema) (size : Size) (mark : Bool) → ((v' v : Value) → Agree (WidensValue s' s v' v) (basic a s' v') (basic_in a false s v)) → (v' v : Value) →
    Agree (WidensValue (Schema.set_of s' size mark) (Schema.set_of s size mark) v' v) (basic a (Schema.set_of s' size mark) v') (basic_in a false (Schema.set_of s size mark) v)
unfolding basic_in
bag_reads a s' s size mark h v' v = as_agree (WidensValue (Schema.set_of s' size mark) (Schema.set_of s size mark)) bag_of bag_of
    (Counted a size mark list_items (basic a s')) (Counted a size mark list_items (basic_in a false s)) v' v
    (λ x y. weaken (λ z m. bag_widen s' s size mark x y z m) (lengthy_agree (WidensValue s' s) (basic a s') (basic_in a false s) h a size mark list_items x y))

record_reads : (a : Settings) (o : Order) (ext : Bool) (ps' ps adds' adds : Parts) → NewerParts false ps' ps → NewerParts ext adds' adds →
    AllKin false (rels ps' ps) (rules a ps') (rules_in a false ps) → AllKin ext (rels adds' adds) (rules a adds') (rules_in a false adds) → (v' v : Value) →
    Agree (WidensValue (Schema.sequence o ps' ext adds') (Schema.sequence o ps ext adds) v' v) (basic a (Schema.sequence o ps' ext adds') v') (basic_in a false (Schema.sequence o ps ext adds) v)
unfolding basic_in widen meets_cut
record_reads a o ext ps' ps adds' adds n ns k k' v' v = as_agree (WidensValue (Schema.sequence o ps' ext adds') (Schema.sequence o ps ext adds))
    (λ x. fields (as_slots x.0) (as_slots x.1)) (λ x. fields (as_slots x.0) (as_slots x.1))
    (λ x. Record_in a true ext (ordered o (tags ps') (rules a ps')) (rules a adds') (ordered o (tags ps') x.0) x.1)
    (λ x. Record_in a false ext (ordered o (tags ps) (rules_in a false ps)) (rules_in a false adds) (ordered o (tags ps) x.0) x.1) v' v
    (λ x y. subst (λ ts. Agree
    (WidensValue (Schema.sequence o ps' ext adds') (Schema.sequence o ps ext adds) (fields (as_slots x.0) (as_slots x.1)) (fields (as_slots y.0) (as_slots y.1)))
    (Record_in a true ext (ordered o (tags ps') (rules a ps')) (rules a adds') (ordered o (tags ps') x.0) x.1) (Record_in a false ext (ordered o ts (rules_in a false ps)) (rules_in a false adds) (ordered o ts y.0) y.1)) (same_tags n)
    (weaken (λ r m. fields_widen a ext ps' ps adds' adds n ns x y (along-listed o (tags ps') (rels ps' ps) x.0 y.0 r.0) r.1 m)
    (wide_fields_agree a ext (ordered o (tags ps') (rels ps' ps)) (rels adds' adds) (ordered o (tags ps') (rules a ps')) (ordered o (tags ps') (rules_in a false ps)) (rules a adds') (rules_in a false adds)
    (ordered-kin o (tags ps') (rels ps' ps) (rules a ps') (rules_in a false ps) k) k' (ordered o (tags ps') x.0) (ordered o (tags ps') y.0) x.1 y.1 ext)))

choice_reads : (a : Settings) (ext : Bool) (ps' ps adds' adds : Parts) → NewerParts false ps' ps → NewerParts ext adds' adds →
    AllKin false (rels ps' ps) (rules a ps') (rules_in a false ps) → AllKin ext (rels adds' adds) (rules a adds') (rules_in a false adds) → (v' v : Value) →
    Agree (WidensValue (Schema.choice ps' adds' ext) (Schema.choice ps adds ext) v' v) (basic a (Schema.choice ps' adds' ext) v') (basic_in a false (Schema.choice ps adds ext) v)
unfolding basic_in widen meets_cut
choice_reads a ext ps' ps adds' adds n ns k k' v' v = as_agree (WidensValue (Schema.choice ps' adds' ext) (Schema.choice ps adds ext))
    (λ x. alternative x.0 x.1 x.2) (λ x. alternative x.0 x.1 x.2)
    (λ x. Basic.Choice a ext (rules a ps') (rules a adds') x.0 x.1 x.2) (λ x. Basic.Choice a ext (rules_in a false ps) (rules_in a false adds) x.0 x.1 x.2) v' v
    (alternative_agree (WidensValue (Schema.choice ps' adds' ext) (Schema.choice ps adds ext)) a ext ext (rels ps' ps) (rels adds' adds) (rules a ps') (rules_in a false ps) (rules a adds') (rules_in a false adds) k k'
    (λ i w' w l e m. ap (made (alternative root i)) (at_widen n i w' w (subst (λ c. i < c) (length-rules-in a false ps) l) e m))
    (λ i w' w l e m. ap (made (alternative added i)) (at_widen ns i w' w (subst (λ c. i < c) (length-rules-in a false adds) l) e m)))

in_slot : (s' s : Schema) (v' v : Value) → widen s' s v ≡ Some v' → slot_through (widen s' s) (Some v) ≡ Some (Some v')
in_slot s' s v' v e = rw (e, slot_through) refl

mutual
  unfolding basic_in

  pub newer_reads : (a : Settings) {s' s : Schema} → Newer s' s → (v' v : Value) → Agree (WidensValue s' s v' v) (basic a s' v') (basic_in a false s v)
  newer_reads a (unchanged {s = s} h) v' v = plain_widens a s h v' v
  newer_reads a (more_items {r = r} {e = e} {e' = e'} h) v' v = items_widen a r e' e true v' v
  newer_reads a (newer_containing {e = e} {e' = e'} n) v' v = contained_reads a e' e v' v (newer_reads a n v' v)
  newer_reads a (newer_list {e = e} {e' = e'} {size = size} {mark = mark} n) v' v = list_reads a e' e size mark (newer_reads a n) v' v
  newer_reads a (newer_set_of {e = e} {e' = e'} {size = size} {mark = mark} n) v' v = bag_reads a e' e size mark (newer_reads a n) v' v
  newer_reads a (newer_sequence {o = o} {ext = ext} {ps = ps} {ps' = ps'} {adds = adds} {adds' = adds'} n ns) v' v = record_reads a o ext ps' ps adds' adds n ns (newer_kin a n) (newer_kin a ns) v' v
  newer_reads a (newer_choice {ext = ext} {ps = ps} {ps' = ps'} {adds = adds} {adds' = adds'} n ns) v' v = choice_reads a ext ps' ps adds' adds n ns (newer_kin a n) (newer_kin a ns) v' v

  newer_kin : (a : Settings) {may : Bool} {ps' ps : Parts} → NewerParts may ps' ps → AllKin may (rels ps' ps) (rules a ps') (rules_in a false ps)
  newer_kin a {may = false} no_more = tt
  newer_kin a {may = true} no_more = tt
  newer_kin a more_parts = tt
  newer_kin a (also {p = p} {p' = p'} {s = s} {s' = s'} h n ns) =
      (record { flags = flags_newer s' s p' p h; left_out = left_out_widens s' s p' p h; held = λ v' v. weaken (λ r m. in_slot s' s v' v (r m)) (newer_reads a n v' v) }, newer_kin a ns)
