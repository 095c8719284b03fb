-- Extension successors at every number of levels are newer versions: a default is compared in a tree that holds it.
use Rattle.std.proofs.Common.{◌≡◌, ◌↔◌, refl, sym, ◌∙◌, ℕ, zero, suc, Bool, false, []}
use Rattle.rasn_types.specs.Values.{Value, elements, bag, fields, alternative, root, added, value, no_values, Slots, no_slots, absent, there, slots}
use Rattle.rasn_constraints.specs.Bounds.{Size}
use Rattle.rasn_schema.specs.Depth.{meets_cut, slots_meet_cut, meets_cut_at, CutOf, CutParts, alike, cut_containing, cut_list, cut_set_of, cut_sequence, cut_choice, cut_part, Unfolds}
use Rattle.rasn_schema.specs.Schemas.{Presence, required, optional, group, default, Order, TagTree, Schema, Parts, no_parts, part}
use Rattle.per_core.specs.Versions.{IsWidened, NewerPresence, Newer, NewerParts, NewerType, unchanged, more_items, newer_containing, newer_list, newer_set_of, newer_sequence, newer_choice, no_more, more_parts, also}
use Rattle.per_core.proofs.LengthForms.{or_left, or_right}
use Rattle.per_laws.proofs.Takes.{some_is}
use Rattle.per_laws.proofs.Types.{deep_enough, up_to}
use Rattle.per_laws.proofs.Wider.{wider}
use Rattle.per_laws.specs.Successors.{PresenceSucceeds, Succeeds, SucceedsParts, SucceedsType, succeeds_itself, succeeds_items, succeeds_containing, succeeds_list, succeeds_set_of, succeeds_sequence, succeeds_choice, none_succeed, added_parts, succeeds_part}

-- deeper trees of the two, along which a value meets no Cut
record Held (s' s : Schema) (v : Value) : Type 0 where
  newer : Schema
  older : Schema
  from_newer : CutOf s' newer
  from_older : CutOf s older
  succeeds : Succeeds newer older
  whole : meets_cut newer v ≡ false

record HeldAt (may : Bool) (ps' ps : Parts) (i : ℕ) (v : Value) : Type 0 where
  newer : Parts
  older : Parts
  from_newer : CutParts ps' newer
  from_older : CutParts ps older
  succeeds : SucceedsParts may newer older
  whole : meets_cut_at newer i v ≡ false

-- what is in a successor succeeds
of_contained : {s' s : Schema} → Succeeds (Schema.containing s') (Schema.containing s) → Succeeds s' s
of_contained (succeeds_itself h) = absurd h
of_contained (succeeds_containing n) = n

of_list : {s' s : Schema} {size size' : Size} {mark mark' : Bool} → Succeeds (Schema.list s' size' mark') (Schema.list s size mark) → Succeeds s' s
of_list (succeeds_itself h) = absurd h
of_list (succeeds_list n) = n

of_bag : {s' s : Schema} {size size' : Size} {mark mark' : Bool} → Succeeds (Schema.set_of s' size' mark') (Schema.set_of s size mark) → Succeeds s' s
of_bag (succeeds_itself h) = absurd h
of_bag (succeeds_set_of n) = n

of_root : {o o' : Order} {ext ext' : Bool} {ps' ps adds' adds : Parts} → Succeeds (Schema.sequence o' ps' ext' adds') (Schema.sequence o ps ext adds) → SucceedsParts false ps' ps
of_root (succeeds_itself h) = absurd h
of_root (succeeds_sequence n ns) = n

of_additions : {o o' : Order} {ext ext' : Bool} {ps' ps adds' adds : Parts} → Succeeds (Schema.sequence o' ps' ext' adds') (Schema.sequence o ps ext adds) → SucceedsParts ext adds' adds
of_additions (succeeds_itself h) = absurd h
of_additions (succeeds_sequence n ns) = ns

of_alternatives : {ext ext' : Bool} {ps' ps adds' adds : Parts} → Succeeds (Schema.choice ps' adds' ext') (Schema.choice ps adds ext) → SucceedsParts false ps' ps
of_alternatives (succeeds_itself h) = absurd h
of_alternatives (succeeds_choice n ns) = n

of_added : {ext ext' : Bool} {ps' ps adds' adds : Parts} → Succeeds (Schema.choice ps' adds' ext') (Schema.choice ps adds ext) → SucceedsParts ext adds' adds
of_added (succeeds_itself h) = absurd h
of_added (succeeds_choice n ns) = ns

of_part : {may : Bool} {t t' : TagTree} {p p' : Presence} {s s' : Schema} {ps ps' : Parts} → SucceedsParts may (part t' p' s' ps') (part t p s ps) → PresenceSucceeds s' s p' p × Succeeds s' s × SucceedsParts may ps' ps
of_part (succeeds_part h n ns) = (h, n, ns)

-- what is in a newer version is newer
in_newer_contained : {e' e : Schema} → Newer (Schema.containing e') (Schema.containing e) → Newer e' e
in_newer_contained (unchanged h) = absurd h
in_newer_contained (newer_containing n) = n

in_newer_list : {e' e : Schema} {size size' : Size} {mark mark' : Bool} → Newer (Schema.list e' size' mark') (Schema.list e size mark) → Newer e' e
in_newer_list (unchanged h) = absurd h
in_newer_list (newer_list n) = n

in_newer_bag : {e' e : Schema} {size size' : Size} {mark mark' : Bool} → Newer (Schema.set_of e' size' mark') (Schema.set_of e size mark) → Newer e' e
in_newer_bag (unchanged h) = absurd h
in_newer_bag (newer_set_of n) = n

in_newer_root : {o o' : Order} {ext ext' : Bool} {ps' ps adds' adds : Parts} → Newer (Schema.sequence o' ps' ext' adds') (Schema.sequence o ps ext adds) → NewerParts false ps' ps
in_newer_root (unchanged h) = absurd h
in_newer_root (newer_sequence n ns) = n

in_newer_additions : {o o' : Order} {ext ext' : Bool} {ps' ps adds' adds : Parts} → Newer (Schema.sequence o' ps' ext' adds') (Schema.sequence o ps ext adds) → NewerParts ext adds' adds
in_newer_additions (unchanged h) = absurd h
in_newer_additions (newer_sequence n ns) = ns

in_newer_alternatives : {ext ext' : Bool} {ps' ps adds' adds : Parts} → Newer (Schema.choice ps' adds' ext') (Schema.choice ps adds ext) → NewerParts false ps' ps
in_newer_alternatives (unchanged h) = absurd h
in_newer_alternatives (newer_choice n ns) = n

in_newer_added : {ext ext' : Bool} {ps' ps adds' adds : Parts} → Newer (Schema.choice ps' adds' ext') (Schema.choice ps adds ext) → NewerParts ext adds' adds
in_newer_added (unchanged h) = absurd h
in_newer_added (newer_choice n ns) = ns

in_newer_part : {may : Bool} {t t' : TagTree} {p' p : Presence} {s' s : Schema} {ps' ps : Parts} → NewerParts may (part t' p' s' ps') (part t p s ps) →
    NewerPresence s' s p' p × Newer s' s × NewerParts may ps' ps
in_newer_part (also h n ns) = (h, n, ns)

-- a tree that holds what octets contain, a list or a bag, holds the value or the element, and so on
in_contained : {s' s : Schema} (v : Value) → Held (Schema.containing s') (Schema.containing s) v → Held s' s v
unfolding meets_cut
in_contained {s'} {s} v h = go h.newer h.older h.from_newer h.from_older h.succeeds h.whole
  where
    go : (t' t : Schema) → CutOf (Schema.containing s') t' → CutOf (Schema.containing s) t → Succeeds t' t → meets_cut t' v ≡ false → Held s' s v
    go t' t (alike i) d n m = absurd i
    go t' t (cut_containing c) (alike i) n m = absurd i
    go t' t (cut_containing {t = f'} c) (cut_containing {t = f} d) n m = record { newer = f'; older = f; from_newer = c; from_older = d; succeeds = of_contained n; whole = m }

in_list : {s' s : Schema} {size size' : Size} {mark mark' : Bool} (v : Value) → Held (Schema.list s' size' mark') (Schema.list s size mark) (elements (value v no_values)) → Held s' s v
unfolding meets_cut
in_list {s'} {s} {size} {size'} {mark} {mark'} v h = go h.newer h.older h.from_newer h.from_older h.succeeds h.whole
  where
    go : (t' t : Schema) → CutOf (Schema.list s' size' mark') t' → CutOf (Schema.list s size mark) t → Succeeds t' t → meets_cut t' (elements (value v no_values)) ≡ false → Held s' s v
    go t' t (alike i) d n m = absurd i
    go t' t (cut_list c) (alike i) n m = absurd i
    go t' t (cut_list {t = f'} c) (cut_list {t = f} d) n m = record { newer = f'; older = f; from_newer = c; from_older = d; succeeds = of_list n; whole = or_left (meets_cut f' v) false m }

in_bag : {s' s : Schema} {size size' : Size} {mark mark' : Bool} (v : Value) → Held (Schema.set_of s' size' mark') (Schema.set_of s size mark) (bag (value v no_values)) → Held s' s v
unfolding meets_cut
in_bag {s'} {s} {size} {size'} {mark} {mark'} v h = go h.newer h.older h.from_newer h.from_older h.succeeds h.whole
  where
    go : (t' t : Schema) → CutOf (Schema.set_of s' size' mark') t' → CutOf (Schema.set_of s size mark) t → Succeeds t' t → meets_cut t' (bag (value v no_values)) ≡ false → Held s' s v
    go t' t (alike i) d n m = absurd i
    go t' t (cut_set_of c) (alike i) n m = absurd i
    go t' t (cut_set_of {t = f'} c) (cut_set_of {t = f} d) n m = record { newer = f'; older = f; from_newer = c; from_older = d; succeeds = of_bag n; whole = or_left (meets_cut f' v) false m }

-- one part alone
at_place : ℕ → Value → Slots
at_place zero v = there v no_slots
at_place (suc i) v = absent (at_place i v)

place_meets : (ps : Parts) (i : ℕ) (v : Value) → slots_meet_cut ps (slots (at_place i v)) ≡ false → meets_cut_at ps i v ≡ false
unfolding meets_cut at_place
place_meets no_parts i v m = refl
place_meets (part t p s ps) zero v m = or_left (meets_cut s v) (slots_meet_cut ps []) m
place_meets (part t p s ps) (suc i) v m = place_meets ps i v m

in_root : {o o' : Order} {ext ext' : Bool} {ps' ps adds' adds : Parts} (i : ℕ) (v : Value) → Held (Schema.sequence o' ps' ext' adds') (Schema.sequence o ps ext adds) (fields (at_place i v) no_slots) → HeldAt false ps' ps i v
unfolding meets_cut
in_root {o} {o'} {ext} {ext'} {ps'} {ps} {adds'} {adds} i v h = go h.newer h.older h.from_newer h.from_older h.succeeds h.whole
  where
    go : (t' t : Schema) → CutOf (Schema.sequence o' ps' ext' adds') t' → CutOf (Schema.sequence o ps ext adds) t → Succeeds t' t → meets_cut t' (fields (at_place i v) no_slots) ≡ false → HeldAt false ps' ps i v
    go t' t (alike k) d n m = absurd k
    go t' t (cut_sequence c cs) (alike k) n m = absurd k
    go t' t (cut_sequence {qs = qs'} {bdds = bdds'} c cs) (cut_sequence {qs = qs} d ds) n m =
        record { newer = qs'; older = qs; from_newer = c; from_older = d; succeeds = of_root n; whole = place_meets qs' i v (or_left (slots_meet_cut qs' (slots (at_place i v))) (slots_meet_cut bdds' []) m) }

in_additions : {o o' : Order} {ext ext' : Bool} {ps' ps adds' adds : Parts} (i : ℕ) (v : Value) → Held (Schema.sequence o' ps' ext' adds') (Schema.sequence o ps ext adds) (fields no_slots (at_place i v)) → HeldAt ext adds' adds i v
unfolding meets_cut
in_additions {o} {o'} {ext} {ext'} {ps'} {ps} {adds'} {adds} i v h = go h.newer h.older h.from_newer h.from_older h.succeeds h.whole
  where
    go : (t' t : Schema) → CutOf (Schema.sequence o' ps' ext' adds') t' → CutOf (Schema.sequence o ps ext adds) t → Succeeds t' t → meets_cut t' (fields no_slots (at_place i v)) ≡ false → HeldAt ext adds' adds i v
    go t' t (alike k) d n m = absurd k
    go t' t (cut_sequence c cs) (alike k) n m = absurd k
    go t' t (cut_sequence {qs = qs'} {bdds = bdds'} c cs) (cut_sequence {bdds = bdds} d ds) n m =
        record { newer = bdds'; older = bdds; from_newer = cs; from_older = ds; succeeds = of_additions n; whole = place_meets bdds' i v (or_right (slots_meet_cut qs' []) (slots_meet_cut bdds' (slots (at_place i v))) m) }

in_alternatives : {ext ext' : Bool} {ps' ps adds' adds : Parts} (i : ℕ) (v : Value) → Held (Schema.choice ps' adds' ext') (Schema.choice ps adds ext) (alternative root i v) → HeldAt false ps' ps i v
unfolding meets_cut
in_alternatives {ext} {ext'} {ps'} {ps} {adds'} {adds} i v h = go h.newer h.older h.from_newer h.from_older h.succeeds h.whole
  where
    go : (t' t : Schema) → CutOf (Schema.choice ps' adds' ext') t' → CutOf (Schema.choice ps adds ext) t → Succeeds t' t → meets_cut t' (alternative root i v) ≡ false → HeldAt false ps' ps i v
    go t' t (alike k) d n m = absurd k
    go t' t (cut_choice c cs) (alike k) n m = absurd k
    go t' t (cut_choice {qs = qs'} c cs) (cut_choice {qs = qs} d ds) n m = record { newer = qs'; older = qs; from_newer = c; from_older = d; succeeds = of_alternatives n; whole = m }

in_added : {ext ext' : Bool} {ps' ps adds' adds : Parts} (i : ℕ) (v : Value) → Held (Schema.choice ps' adds' ext') (Schema.choice ps adds ext) (alternative added i v) → HeldAt ext adds' adds i v
unfolding meets_cut
in_added {ext} {ext'} {ps'} {ps} {adds'} {adds} i v h = go h.newer h.older h.from_newer h.from_older h.succeeds h.whole
  where
    go : (t' t : Schema) → CutOf (Schema.choice ps' adds' ext') t' → CutOf (Schema.choice ps adds ext) t → Succeeds t' t → meets_cut t' (alternative added i v) ≡ false → HeldAt ext adds' adds i v
    go t' t (alike k) d n m = absurd k
    go t' t (cut_choice c cs) (alike k) n m = absurd k
    go t' t (cut_choice {bdds = bdds'} c cs) (cut_choice {bdds = bdds} d ds) n m = record { newer = bdds'; older = bdds; from_newer = cs; from_older = ds; succeeds = of_added n; whole = m }

in_first : {may : Bool} {t t' : TagTree} {p p' : Presence} {s s' : Schema} {ps ps' : Parts} (v : Value) → HeldAt may (part t' p' s' ps') (part t p s ps) zero v → Held s' s v
unfolding meets_cut
in_first {may} {t} {t'} {p} {p'} {s} {s'} {ps} {ps'} v h = go h.newer h.older h.from_newer h.from_older h.succeeds h.whole
  where
    go : (qs' qs : Parts) → CutParts (part t' p' s' ps') qs' → CutParts (part t p s ps) qs → SucceedsParts may qs' qs → meets_cut_at qs' zero v ≡ false → Held s' s v
    go qs' qs (cut_part {s' = r'} c cs) (cut_part {s' = r} d ds) n m = record { newer = r'; older = r; from_newer = c; from_older = d; succeeds = (of_part n).1; whole = m }

in_others : {may : Bool} {t t' : TagTree} {p p' : Presence} {s s' : Schema} {ps ps' : Parts} (i : ℕ) (v : Value) → HeldAt may (part t' p' s' ps') (part t p s ps) (suc i) v → HeldAt may ps' ps i v
unfolding meets_cut
in_others {may} {t} {t'} {p} {p'} {s} {s'} {ps} {ps'} i v h = go h.newer h.older h.from_newer h.from_older h.succeeds h.whole
  where
    go : (qs' qs : Parts) → CutParts (part t' p' s' ps') qs' → CutParts (part t p s ps) qs → SucceedsParts may qs' qs → meets_cut_at qs' (suc i) v ≡ false → HeldAt may ps' ps i v
    go qs' qs (cut_part {ps' = rs'} c cs) (cut_part {ps' = rs} d ds) n m = record { newer = rs'; older = rs; from_newer = cs; from_older = ds; succeeds = (of_part n).2; whole = m }

-- a default, compared in a deeper tree that holds it; the older one is a value of its schema, where it is its own projection
default_held : {may : Bool} {t t' : TagTree} {s s' : Schema} {ps ps' : Parts} (d' d : Value) → PresenceSucceeds s' s (default d') (default d) → IsWidened s s d d → Succeeds s' s →
    HeldAt may (part t' (default d') s' ps') (part t (default d) s ps) zero d' → IsWidened s' s d' d
unfolding meets_cut
default_held {may} {t} {t'} {s} {s'} {ps} {ps'} d' d k own n h = go h.newer h.older h.from_newer h.from_older h.succeeds h.whole
  where
    go : (qs' qs : Parts) → CutParts (part t' (default d') s' ps') qs' → CutParts (part t (default d) s ps) qs → SucceedsParts may qs' qs → meets_cut_at qs' zero d' ≡ false → IsWidened s' s d' d
    go qs' qs (cut_part c cs) (cut_part b bs) m w =
        let i = (of_part m).0 in
        record { there = k.widened; same = λ x e l. some_is x d' (sym (wider n c b d x e l) ∙ i.widened w); valid = own.valid }

presence_held : {may : Bool} {t t' : TagTree} {s s' : Schema} {ps ps' : Parts} (p' p : Presence) → PresenceSucceeds s' s p' p → NewerPresence s s p p → Succeeds s' s →
    ((v : Value) → HeldAt may (part t' p' s' ps') (part t p s ps) zero v) → NewerPresence s' s p' p
presence_held required required k own n h = tt
presence_held optional optional k own n h = tt
presence_held group group k own n h = tt
presence_held (default d') (default d) k own n h = default_held d' d k own n (h d')
presence_held _ _ k own n h = absurd k

mutual
  newer_held : {s' s : Schema} → Succeeds s' s → Newer s s → ((v : Value) → Held s' s v) → Newer s' s
  newer_held (succeeds_itself i) own h = unchanged i
  newer_held (succeeds_items i) own h = more_items i
  newer_held (succeeds_containing n) own h = newer_containing (newer_held n (in_newer_contained own) (λ v. in_contained v (h v)))
  newer_held (succeeds_list n) own h = newer_list (newer_held n (in_newer_list own) (λ v. in_list v (h (elements (value v no_values)))))
  newer_held (succeeds_set_of n) own h = newer_set_of (newer_held n (in_newer_bag own) (λ v. in_bag v (h (bag (value v no_values)))))
  newer_held (succeeds_sequence n ns) own h = newer_sequence
      (newer_parts n (in_newer_root own) (λ i v. in_root i v (h (fields (at_place i v) no_slots))))
      (newer_parts ns (in_newer_additions own) (λ i v. in_additions i v (h (fields no_slots (at_place i v)))))
  newer_held (succeeds_choice n ns) own h = newer_choice
      (newer_parts n (in_newer_alternatives own) (λ i v. in_alternatives i v (h (alternative root i v))))
      (newer_parts ns (in_newer_added own) (λ i v. in_added i v (h (alternative added i v))))

  newer_parts : {may : Bool} {ps' ps : Parts} → SucceedsParts may ps' ps → NewerParts may ps ps → ((i : ℕ) (v : Value) → HeldAt may ps' ps i v) → NewerParts may ps' ps
  newer_parts none_succeed own h = no_more
  newer_parts added_parts own h = more_parts
  newer_parts (succeeds_part {p = p} {p' = p'} k n ns) own h =
      let o = in_newer_part own in
      also (presence_held p' p k o.0 n (h zero)) (newer_held n o.1 (λ v. in_first v (h zero v))) (newer_parts ns o.2 (λ i v. in_others i v (h (suc i) v)))

pub successor_is_newer : (T' T : ℕ → Schema) → Unfolds T' → Unfolds T → NewerType T T → SucceedsType T' T → NewerType T' T
successor_is_newer T' T u' u own k n = newer_held (k n) (own n) (λ v.
    let h = deep_enough T' u' v n in
    record { newer = T' h.0; older = T h.0; from_newer = up_to T' u' n h.0 h.1; from_older = up_to T u n h.0 h.1; succeeds = k h.0; whole = h.2 })

-- and every newer version is a successor
presence_succeeds : (s' s : Schema) (p' p : Presence) → NewerPresence s' s p' p → PresenceSucceeds s' s p' p
presence_succeeds s' s required required k = tt
presence_succeeds s' s optional optional k = tt
presence_succeeds s' s group group k = tt
presence_succeeds s' s (default d') (default d) k = record { widened = k.there }
presence_succeeds s' s _ _ k = absurd k

mutual
  pub newer_succeeds : {s' s : Schema} → Newer s' s → Succeeds s' s
  newer_succeeds (unchanged i) = succeeds_itself i
  newer_succeeds (more_items i) = succeeds_items i
  newer_succeeds (newer_containing n) = succeeds_containing (newer_succeeds n)
  newer_succeeds (newer_list n) = succeeds_list (newer_succeeds n)
  newer_succeeds (newer_set_of n) = succeeds_set_of (newer_succeeds n)
  newer_succeeds (newer_sequence n ns) = succeeds_sequence (parts_succeed n) (parts_succeed ns)
  newer_succeeds (newer_choice n ns) = succeeds_choice (parts_succeed n) (parts_succeed ns)

  parts_succeed : {may : Bool} {ps' ps : Parts} → NewerParts may ps' ps → SucceedsParts may ps' ps
  parts_succeed no_more = none_succeed
  parts_succeed more_parts = added_parts
  parts_succeed (also {p = p} {p' = p'} {s = s} {s' = s'} k n ns) = succeeds_part (presence_succeeds s' s p' p k) (newer_succeeds n) (parts_succeed ns)

pub successors_are_newer : (T' T : ℕ → Schema) → Unfolds T' → Unfolds T → NewerType T T → SucceedsType T' T ↔ NewerType T' T
successors_are_newer T' T u' u own = (successor_is_newer T' T u' u own, λ k n. newer_succeeds (k n))
