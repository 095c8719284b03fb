-- What a newer reader reads, an older one reads as the projection, where there is one, and back as the widening: projected and widened in
-- trees that hold the newer value, of which the readers' trees are cuts.
use Rattle.std.proofs.Common.{◌≡◌, ◌⊎◌, inl, inr, refl, sym, ap, ◌∙◌, subst, ℕ, zero, suc, Bool, true, false, List, [], ◌∷◌, length, arith, Option, Some, None}
use Rattle.rasn_types.specs.Values.{Value}
use Rattle.rasn_schema.specs.Depth.{meets_cut, slots_meet_cut, meets_cut_at, in_slots, CutOf, CutParts, cut_here, alike, cut_containing, cut_list, cut_set_of, cut_sequence, cut_choice, no_cut, cut_part}
use Rattle.rasn_schema.specs.Schemas.{count, Order, Presence, TagTree, Schema, Parts, part}
use Rattle.rasn_constraints.specs.Bounds.{Size}
use Rattle.per_core.specs.Basic.{Additions_in, Chosen, basic, basic_in, rules, rules_in}
use Rattle.per_core.specs.Spellings.{Settings, Spelling}
use Rattle.rasn_types.specs.AllOf.{joined}
use Rattle.per_core.specs.Versions.{project, project_slots, project_at, widen, widen_slots, widen_at, filled_in, all_filled_in, slot_through, IsPlain, NewerPresence, Newer, NewerParts, unchanged, more_items, newer_containing, newer_list, newer_set_of, newer_sequence, newer_choice, no_more, more_parts, also}
use Rattle.rasn_schema.proofs.Bags.{joined_of}
use Rattle.per_laws.proofs.Carry.{Carry, AllLead, skipped_carry, kept, contained_carry}
use Rattle.per_laws.proofs.Carrying.{additions_step}
use Rattle.per_laws.proofs.DeeperTrees.{cut_count, uncut}
use Rattle.per_laws.proofs.Older.{plain_widen}
use Rattle.per_laws.proofs.Takes.{some_is, Drops, drops, slot_meets_not, part_drops, list_takes, bag_takes, item_takes, plain_takes, record_takes, choice_takes}
use Rattle.per_laws.proofs.Widens.{Grows, grows, part_grows, list_grows, bag_grows, item_grows, filled_carry, record_grows, choice_grows}

-- a tree in which nothing may be added is cut off or the other one
pub plain_cut : {s t : Schema} → IsPlain s → CutOf s t → (s ≡ Schema.cut) ⊎ (t ≡ s)
plain_cut h cut_here = inl refl
plain_cut h (alike k) = inr refl
plain_cut h (cut_containing c) = absurd h
plain_cut h (cut_list c) = absurd h
plain_cut h (cut_set_of c) = absurd h
plain_cut h (cut_sequence c cs) = absurd h
plain_cut h (cut_choice c cs) = absurd h

cut_carry : (a : Settings) (u : Bool) (s : Schema) → s ≡ Schema.cut → (g : Spelling) (v : Value) → Carry (basic_in a u s v) g
unfolding basic_in
cut_carry a u s e g v = subst (λ z. Carry (basic_in a u z v) g) (sym e) (record { carry = λ p b x. absurd x })

plain_holds : (a : Settings) (s t' t : Schema) → IsPlain s → CutOf s t' → CutOf s t → (v' v : Value) → project t' t v' ≡ Some v → Carry (basic a s v') (basic a s v)
plain_holds a s t' t h c d v' v e = go (plain_cut h c) (plain_cut h d)
  where
    go : (s ≡ Schema.cut) ⊎ (t' ≡ s) → (s ≡ Schema.cut) ⊎ (t ≡ s) → Carry (basic a s v') (basic a s v)
    go (inl k) l = cut_carry a true s k (basic a s v) v'
    go (inr k) (inl l) = cut_carry a true s l (basic a s v) v'
    go (inr k) (inr l) = plain_takes a s h v' v (subst (λ z. project z s v' ≡ Some v) k (subst (λ z. project t' z v' ≡ Some v) l e))

-- added parts are filled in alike where the tree is cut off
pub same_filled : {ps qs : Parts} → CutParts ps qs → all_filled_in ps ≡ all_filled_in qs
same_filled no_cut = refl
same_filled (cut_part {p = p} c cs) = ap (joined (filled_in p)) (same_filled cs)

-- what is in a newer tree is newer
of_contained : {s' s : Schema} → Newer (Schema.containing s') (Schema.containing s) → Newer s' s
of_contained (unchanged h) = absurd h
of_contained (newer_containing n) = n

of_list : {s' s : Schema} {size size' : Size} {mark mark' : Bool} → Newer (Schema.list s' size' mark') (Schema.list s size mark) → Newer s' s
of_list (unchanged h) = absurd h
of_list (newer_list n) = n

of_bag : {s' s : Schema} {size size' : Size} {mark mark' : Bool} → Newer (Schema.set_of s' size' mark') (Schema.set_of s size mark) → Newer s' s
of_bag (unchanged h) = absurd h
of_bag (newer_set_of n) = n

of_root : {o o' : Order} {ext ext' : Bool} {ps' ps adds' adds : Parts} → Newer (Schema.sequence o' ps' ext' adds') (Schema.sequence o ps ext adds) → NewerParts false ps' ps
of_root (unchanged h) = absurd h
of_root (newer_sequence n ns) = n

of_additions : {o o' : Order} {ext ext' : Bool} {ps' ps adds' adds : Parts} → Newer (Schema.sequence o' ps' ext' adds') (Schema.sequence o ps ext adds) → NewerParts ext adds' adds
of_additions (unchanged h) = absurd h
of_additions (newer_sequence n ns) = ns

of_alternatives : {ext ext' : Bool} {ps' ps adds' adds : Parts} → Newer (Schema.choice ps' adds' ext') (Schema.choice ps adds ext) → NewerParts false ps' ps
of_alternatives (unchanged h) = absurd h
of_alternatives (newer_choice n ns) = n

of_added : {ext ext' : Bool} {ps' ps adds' adds : Parts} → Newer (Schema.choice ps' adds' ext') (Schema.choice ps adds ext) → NewerParts ext adds' adds
of_added (unchanged h) = absurd h
of_added (newer_choice n ns) = ns

of_part : {may : Bool} {t t' : TagTree} {p p' : Presence} {s s' : Schema} {ps ps' : Parts} → NewerParts may (part t' p' s' ps') (part t p s ps) → NewerPresence s' s p' p × Newer s' s × NewerParts may ps' ps
of_part (also h n ns) = (h, n, ns)

-- the readers' newer and older tree, and the trees of which they are cuts
mutual
  unfolding basic_in project meets_cut

  pub older_holds : (a : Settings) {s' s t' t : Schema} → Newer s' s → CutOf s' t' → CutOf s t → Newer t' t → (v' v : Value) → meets_cut t' v' ≡ false → project t' t v' ≡ Some v → Carry (basic a s' v') (basic a s v)
  older_holds a {t' = t'} {t = t} (unchanged {s = s} h) c d m v' v k e = plain_holds a s t' t h c d v' v e
  older_holds a (more_items {r = r} {e = e0} {e' = e1} h) (alike i) (alike j) m v' v k e = item_takes a r e1 e0 true v' v e
  older_holds a (newer_containing n) (alike i) d m v' v k e = absurd i
  older_holds a (newer_containing n) (cut_containing c) (alike i) m v' v k e = absurd i
  older_holds a (newer_containing n) (cut_containing c) (cut_containing d) m v' v k e = contained_carry a (older_holds a n c d (of_contained m) v' v k e)
  older_holds a (newer_list n) (alike i) d m v' v k e = absurd i
  older_holds a (newer_list n) (cut_list c) (alike i) m v' v k e = absurd i
  older_holds a (newer_list {e = e0} {e' = e1} {size = size} {mark = mark} n) (cut_list {t = f1} c) (cut_list {t = f0} d) m v' v k e =
      list_takes a f1 f0 size mark (basic a e1) (basic a e0) (λ w' w h. older_holds a n c d (of_list m) w' w h.0 h.1) v' v k e
  older_holds a (newer_set_of n) (alike i) d m v' v k e = absurd i
  older_holds a (newer_set_of n) (cut_set_of c) (alike i) m v' v k e = absurd i
  older_holds a (newer_set_of {e = e0} {e' = e1} {size = size} {mark = mark} n) (cut_set_of {t = f1} c) (cut_set_of {t = f0} d) m v' v k e =
      bag_takes a f1 f0 size mark (basic a e1) (basic a e0) (λ w' w h. older_holds a n c d (of_bag m) w' w h.0 h.1) v' v k e
  older_holds a (newer_sequence n ns) (alike i) d m v' v k e = absurd i
  older_holds a (newer_sequence n ns) (cut_sequence c cs) (alike i) m v' v k e = absurd i
  older_holds a (newer_sequence {o = o} {ext = ext} {ps = ps} {ps' = ps'} {adds = adds} {adds' = adds'} n ns) (cut_sequence {qs = qs'} {bdds = bdds'} c cs) (cut_sequence {qs = qs} {bdds = bdds} d ds) m v' v k e =
      record_takes a o ext ps' ps adds' adds qs' qs bdds' bdds n (of_root m) (cut_count c) (cut_count cs) (older_leads a n c d (of_root m)) (older_additions a ns cs ds (of_additions m)) v' v k e
  older_holds a (newer_choice n ns) (alike i) d m v' v k e = absurd i
  older_holds a (newer_choice n ns) (cut_choice c cs) (alike i) m v' v k e = absurd i
  older_holds a (newer_choice {ext = ext} {ps = ps} {ps' = ps'} {adds = adds} {adds' = adds'} n ns) (cut_choice {qs = qs'} {bdds = bdds'} c cs) (cut_choice {qs = qs} {bdds = bdds} d ds) m v' v k e =
      choice_takes a ext ps' ps adds' adds qs' qs bdds' bdds n (older_chosen a n c d (of_alternatives m)) (older_chosen a ns cs ds (of_added m)) v' v k e

  older_leads : (a : Settings) {ps' ps qs' qs : Parts} → NewerParts false ps' ps → CutParts ps' qs' → CutParts ps qs → NewerParts false qs' qs → AllLead false (drops qs' qs) (rules a ps') (rules a ps)
  older_leads a no_more no_cut no_cut m = tt
  older_leads a (also {s = s} {s' = s'} h n ns) (cut_part {p = p'} c cs) (cut_part {p = p} d ds) m =
      let i = of_part m in (part_drops i.1 p' p i.0 (basic a s') (basic a s) (older_holds a n c d i.1), older_leads a ns cs ds i.2)

  older_additions : (a : Settings) {may : Bool} {ps' ps qs' qs : Parts} → NewerParts may ps' ps → CutParts ps' qs' → CutParts ps qs → NewerParts may qs' qs →
      (xs ys : List (Option Value)) → length xs ≡ count qs' → slots_meet_cut qs' xs ≡ false → project_slots qs' qs xs ≡ Some ys → (bs : List Bool) → Carry (Additions_in a true (rules a ps') xs bs) (Additions_in a true (rules a ps) ys bs)
  older_additions a no_more no_cut no_cut m [] [] l k e bs = kept
  older_additions a no_more no_cut no_cut m [] (y ∷ ys) l k e bs = absurd (cc)
  older_additions a no_more no_cut no_cut m (x ∷ xs) ys l k e bs = absurd (omega arith)
  older_additions a (more_parts {t = t} {p = p} {s = s} {ps = ps}) (cut_part c cs) no_cut m xs [] l k e bs = skipped_carry a (rules a (part t p s ps)) xs bs
  older_additions a more_parts (cut_part c cs) no_cut m xs (y ∷ ys) l k e bs = absurd (cc)
  older_additions a (also h n ns) (cut_part c cs) (cut_part d ds) m [] ys l k e bs = absurd (cc)
  older_additions a (also {t = t} {s = s} {s' = s'} {ps = ps} {ps' = ps'} h n ns) (cut_part {p = p'} {s' = r'} {ps' = qs'} c cs) (cut_part {p = p} {s' = r} {ps' = qs} d ds) m (x ∷ xs) ys l k e bs =
      let i = of_part m in
      let j = slot_meets_not r' qs' x xs k in
      let q = joined_of (slot_through (project r' r) x) (project_slots qs' qs xs) ys e in
      subst (λ z. Carry (Additions_in a true (rules a (part t p' s' ps')) (x ∷ xs) bs) (Additions_in a true (rules a (part t p s ps)) z bs)) (sym q.4)
      (additions_step a true true (Drops r' r) (record { presence = p'; spells = basic a s' }) (record { presence = p; spells = basic a s }) (part_drops i.1 p' p i.0 (basic a s') (basic a s) (older_holds a n c d i.1)) x q.0 (j.0, q.2) (rules a ps') (rules a ps) xs q.1
      (older_additions a ns cs ds i.2 xs q.1 (omega arith) j.1 q.3) bs)

  older_chosen : (a : Settings) {may : Bool} {ps' ps qs' qs : Parts} → NewerParts may ps' ps → CutParts ps' qs' → CutParts ps qs → NewerParts may qs' qs →
      (i : ℕ) (v' v : Value) → meets_cut_at qs' i v' ≡ false → project_at qs' qs i v' ≡ Some v → Carry (Chosen (rules a ps') i v') (Chosen (rules a ps) i v)
  older_chosen a no_more no_cut no_cut m i v' v k e = absurd (let x : ◌≡◌ {A = Option Value} None (Some v) = e in cc)
  older_chosen a more_parts (cut_part c cs) no_cut m i v' v k e = absurd (let x : ◌≡◌ {A = Option Value} None (Some v) = e in cc)
  older_chosen a (also h n ns) (cut_part c cs) (cut_part d ds) m zero v' v k e = older_holds a n c d (of_part m).1 v' v k e
  older_chosen a (also h n ns) (cut_part c cs) (cut_part d ds) m (suc i) v' v k e = older_chosen a ns cs ds (of_part m).2 i v' v k e

-- the same where the readers' trees are those
pub older_takes : (a : Settings) {s' s : Schema} → Newer s' s → (v' v : Value) → meets_cut s' v' ≡ false → project s' s v' ≡ Some v → Carry (basic a s' v') (basic a s v)
older_takes a {s' = s'} {s = s} n v' v k e = older_holds a n (uncut s') (uncut s) n v' v k e

-- the same of the newer reader and the widening, where no unknown additions are present
plain_grows : (a : Settings) (s t' t : Schema) → IsPlain s → CutOf s t' → CutOf s t → (v v' : Value) → widen t' t v ≡ Some v' → Carry (basic_in a false s v) (basic_in a false s v')
plain_grows a s t' t h c d v v' e = go (plain_cut h c) (plain_cut h d)
  where
    go : (s ≡ Schema.cut) ⊎ (t' ≡ s) → (s ≡ Schema.cut) ⊎ (t ≡ s) → Carry (basic_in a false s v) (basic_in a false s v')
    go (inl k) l = cut_carry a false s k (basic_in a false s v') v
    go (inr k) (inl l) = cut_carry a false s l (basic_in a false s v') v
    go (inr k) (inr l) =
        let e' : widen s s v ≡ Some v' = subst (λ z. widen z s v ≡ Some v') k (subst (λ z. widen t' z v ≡ Some v') l e) in
        subst (λ z. Carry (basic_in a false s v) (basic_in a false s z)) (some_is v v' (sym (plain_widen s h v) ∙ e')) kept

mutual
  unfolding basic_in widen meets_cut

  pub newer_holds : (a : Settings) {s' s t' t : Schema} → Newer s' s → CutOf s' t' → CutOf s t → Newer t' t → (v v' : Value) → meets_cut t' v' ≡ false → widen t' t v ≡ Some v' → Carry (basic_in a false s v) (basic_in a false s' v')
  newer_holds a {t' = t'} {t = t} (unchanged {s = s} h) c d m v v' k e = plain_grows a s t' t h c d v v' e
  newer_holds a (more_items {r = r} {e = e0} {e' = e1} h) (alike i) (alike j) m v v' k e =
      subst (λ z. Carry (basic_in a false (Schema.items r e0 true) v) (basic_in a false (Schema.items r e1 true) z)) (some_is v v' e) (item_grows a r e1 e0 true h v)
  newer_holds a (newer_containing n) (alike i) d m v v' k e = absurd i
  newer_holds a (newer_containing n) (cut_containing c) (alike i) m v v' k e = absurd i
  newer_holds a (newer_containing n) (cut_containing c) (cut_containing d) m v v' k e = contained_carry a (newer_holds a n c d (of_contained m) v v' k e)
  newer_holds a (newer_list n) (alike i) d m v v' k e = absurd i
  newer_holds a (newer_list n) (cut_list c) (alike i) m v v' k e = absurd i
  newer_holds a (newer_list {e = e0} {e' = e1} {size = size} {mark = mark} n) (cut_list {t = f1} c) (cut_list {t = f0} d) m v v' k e =
      list_grows a f1 f0 size mark (basic_in a false e0) (basic_in a false e1) (λ w w' h. newer_holds a n c d (of_list m) w w' h.0 h.1) v v' k e
  newer_holds a (newer_set_of n) (alike i) d m v v' k e = absurd i
  newer_holds a (newer_set_of n) (cut_set_of c) (alike i) m v v' k e = absurd i
  newer_holds a (newer_set_of {e = e0} {e' = e1} {size = size} {mark = mark} n) (cut_set_of {t = f1} c) (cut_set_of {t = f0} d) m v v' k e =
      bag_grows a f1 f0 size mark (basic_in a false e0) (basic_in a false e1) (λ w w' h. newer_holds a n c d (of_bag m) w w' h.0 h.1) v v' k e
  newer_holds a (newer_sequence n ns) (alike i) d m v v' k e = absurd i
  newer_holds a (newer_sequence n ns) (cut_sequence c cs) (alike i) m v v' k e = absurd i
  newer_holds a (newer_sequence {o = o} {ext = ext} {ps = ps} {ps' = ps'} {adds = adds} {adds' = adds'} n ns) (cut_sequence {qs = qs'} {bdds = bdds'} c cs) (cut_sequence {qs = qs} {bdds = bdds} d ds) m v v' k e =
      record_grows a o ext ps' ps adds' adds qs' qs bdds' bdds n (of_root m) (cut_count d) (cut_count ds) (newer_leads a n c d (of_root m)) (newer_additions a ns cs ds (of_additions m)) v v' k e
  newer_holds a (newer_choice n ns) (alike i) d m v v' k e = absurd i
  newer_holds a (newer_choice n ns) (cut_choice c cs) (alike i) m v v' k e = absurd i
  newer_holds a (newer_choice {ext = ext} {ps = ps} {ps' = ps'} {adds = adds} {adds' = adds'} n ns) (cut_choice {qs = qs'} {bdds = bdds'} c cs) (cut_choice {qs = qs} {bdds = bdds} d ds) m v v' k e =
      choice_grows a ext ps' ps adds' adds qs' qs bdds' bdds n (newer_chosen a n c d (of_alternatives m)) (newer_chosen a ns cs ds (of_added m)) v v' k e

  newer_leads : (a : Settings) {ps' ps qs' qs : Parts} → NewerParts false ps' ps → CutParts ps' qs' → CutParts ps qs → NewerParts false qs' qs → AllLead false (grows qs' qs) (rules_in a false ps) (rules_in a false ps')
  newer_leads a no_more no_cut no_cut m = tt
  newer_leads a (also {s = s} {s' = s'} h n ns) (cut_part {p = p'} {s' = r'} c cs) (cut_part {p = p} {s' = r} d ds) m =
      let i = of_part m in (part_grows r' r p' p i.0 (basic_in a false s) (basic_in a false s') (newer_holds a n c d i.1), newer_leads a ns cs ds i.2)

  newer_additions : (a : Settings) {may : Bool} {ps' ps qs' qs : Parts} → NewerParts may ps' ps → CutParts ps' qs' → CutParts ps qs → NewerParts may qs' qs →
      (xs ys : List (Option Value)) → length xs ≡ count qs → slots_meet_cut qs' ys ≡ false → widen_slots qs' qs xs ≡ Some ys → (bs : List Bool) → Carry (Additions_in a false (rules_in a false ps) xs bs) (Additions_in a false (rules_in a false ps') ys bs)
  newer_additions a no_more no_cut no_cut m [] [] l k e bs = kept
  newer_additions a no_more no_cut no_cut m [] (y ∷ ys) l k e bs = absurd (cc)
  newer_additions a no_more no_cut no_cut m (x ∷ xs) ys l k e bs = absurd (omega arith)
  newer_additions a (more_parts {t = t} {p = p} {s = s} {ps = ps}) (cut_part c cs) no_cut m [] ys l k e bs = filled_carry a (part t p s ps) ys (same_filled (cut_part {t = t} {p = p} c cs) ∙ e) bs
  newer_additions a more_parts (cut_part c cs) no_cut m (x ∷ xs) ys l k e bs = absurd (omega arith)
  newer_additions a (also h n ns) (cut_part c cs) (cut_part d ds) m [] ys l k e bs = absurd (cc)
  newer_additions a (also {t = t} {s = s} {s' = s'} {ps = ps} {ps' = ps'} h n ns) (cut_part {p = p'} {s' = r'} {ps' = qs'} c cs) (cut_part {p = p} {s' = r} {ps' = qs} d ds) m (x ∷ xs) ys l k e bs =
      let i = of_part m in
      let q = joined_of (slot_through (widen r' r) x) (widen_slots qs' qs xs) ys e in
      let j = slot_meets_not r' qs' q.0 q.1 (subst (λ l. in_slots (meets_cut r') (slots_meet_cut qs') l ≡ false) q.4 k) in
      subst (λ z. Carry (Additions_in a false (rules_in a false (part t p s ps)) (x ∷ xs) bs) (Additions_in a false (rules_in a false (part t p' s' ps')) z bs)) (sym q.4)
      (additions_step a false false (Grows r' r) (record { presence = p; spells = basic_in a false s }) (record { presence = p'; spells = basic_in a false s' }) (part_grows r' r p' p i.0 (basic_in a false s) (basic_in a false s') (newer_holds a n c d i.1)) x q.0 (j.0, q.2)
      (rules_in a false ps) (rules_in a false ps') xs q.1 (newer_additions a ns cs ds i.2 xs q.1 (omega arith) j.1 q.3) bs)

  newer_chosen : (a : Settings) {may : Bool} {ps' ps qs' qs : Parts} → NewerParts may ps' ps → CutParts ps' qs' → CutParts ps qs → NewerParts may qs' qs →
      (i : ℕ) (v v' : Value) → meets_cut_at qs' i v' ≡ false → widen_at qs' qs i v ≡ Some v' → Carry (Chosen (rules_in a false ps) i v) (Chosen (rules_in a false ps') i v')
  newer_chosen a no_more no_cut no_cut m i v v' k e = absurd (let x : ◌≡◌ {A = Option Value} None (Some v') = e in cc)
  newer_chosen a more_parts (cut_part c cs) no_cut m i v v' k e = absurd (let x : ◌≡◌ {A = Option Value} None (Some v') = e in cc)
  newer_chosen a (also h n ns) (cut_part c cs) (cut_part d ds) m zero v v' k e = newer_holds a n c d (of_part m).1 v v' k e
  newer_chosen a (also h n ns) (cut_part c cs) (cut_part d ds) m (suc i) v v' k e = newer_chosen a ns cs ds (of_part m).2 i v v' k e

pub newer_takes : (a : Settings) {s' s : Schema} → Newer s' s → (v v' : Value) → meets_cut s' v' ≡ false → widen s' s v ≡ Some v' → Carry (basic_in a false s v) (basic_in a false s' v')
newer_takes a {s' = s'} {s = s} n v v' k e = newer_holds a n (uncut s') (uncut s) n v v' k e
