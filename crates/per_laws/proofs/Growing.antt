-- What an older writer writes, a newer reader reads as the widening, where nothing that is written is at a Cut of the reader's tree.
use Rattle.per_core.specs.Basic
use Rattle.std.proofs.Common.{◌≡◌, sym, ap, ◌∙◌, subst, ℕ, zero, suc, Bool, true, false, List, [], ◌∷◌, length, arith, Option, Some, None}
use Rattle.rasn_types.specs.Values.{sorted, before, code, Value, elements, bag_of, fields, alternative, Side, root, added, as_values, as_slots, values, slots}
use Rattle.rasn_types.proofs.Values.{slots-as_slots, values-as_values}
use Rattle.rasn_constraints.specs.Bounds.{Size}
use Rattle.rasn_schema.specs.Schemas.{tags, count, Presence, Order, Schema, Parts, part}
use Rattle.rasn_schema.specs.Orders.{ordered}
use Rattle.rasn_schema.specs.Depth.{meets_cut, slots_meet_cut, meets_cut_at, in_slots, any_of, CutOf, CutParts, cut_here, alike, cut_containing, cut_list, cut_set_of, cut_sequence, cut_choice, no_cut, cut_part}
use Rattle.per_core.specs.Spellings.{Settings}
use Rattle.per_core.specs.Basic.{IsLeftOut, As, Unknown_in, Additions_in, Chosen, basic_in, rules_in}
use Rattle.rasn_types.specs.AllOf.{all_of}
use Rattle.per_core.specs.Versions.{widen, widen_slots, widen_at, filled_in, all_filled_in, slot_through, NewerPresence, Newer, NewerParts, unchanged, newer_containing, newer_list, newer_set_of, newer_sequence, newer_choice, no_more, more_parts, also}
use Rattle.per_core.proofs.LengthForms.{or_left, or_right}
use Rattle.per_core.proofs.Records.{SlotRel, Along}
use Rattle.per_core.proofs.Readings.{length-rules-in}
use Rattle.rasn_schema.proofs.Bags.{bag_source, any_in_bag, joined_of}
use Rattle.per_core.proofs.Canonical.{canonical}
use Rattle.per_laws.proofs.Older.{made_of, made_both_of, slot_some, slot_meets, same_tags}
use Rattle.per_laws.proofs.Carry.{Carry, kept, Leads, AllLead, carries, contained_carry}
use Rattle.per_laws.proofs.Carrying.{lengthy_as, additions_step, record_as, choice_as, rules_on}
use Rattle.per_laws.proofs.DeeperTrees.{same_cut_tags, cut_count}
use Rattle.per_laws.proofs.Takes.{slot_meets_not, same_count}
use Rattle.per_laws.proofs.OlderReadings.{newer_takes}
use Rattle.per_laws.proofs.Widens.{flags_older_carry, zip_second, filled_left, left_out_grows}
use Rattle.per_laws.specs.Written.{is_written, writes_cut, slots_write_cut, writes_cut_at}
use Rattle.per_laws.proofs.SameWritten.{and_false, slot_written_cut, slot_cut_not}
use Rattle.per_laws.proofs.Layers.{Writes, written_rules, chosen_rules, list_layer, bag_layer, record_layer, choice_layer, contained_layer}
use Rattle.per_laws.proofs.Dropping.{zip_also, length_written, length_chosen}

-- of a slot of the writer t and one of the reader, whose tree s is the newer o cut off
abbrev Grows : Presence → Schema → Schema → Schema → SlotRel
Grows p t o s x y = (slot_meets o y ≡ false) × (slot_through (widen o t) x ≡ Some y) × (slot_written_cut p s t x ≡ false)

abbrev grows : Parts → Parts → Parts → List SlotRel
grows (part t p s ps) (part t' p' s' ps') (part t'' p'' s'' ps'') = Grows p s s' s'' ∷ grows ps ps' ps''
grows _ _ _ = []

abbrev pub GrowsValue : Schema → Schema → Schema → Value → Value → Type 0
GrowsValue t o s v w = (meets_cut o w ≡ false) × (widen o t v ≡ Some w) × (writes_cut s t v ≡ false)

part_grows : (a : Settings) (t o s : Schema) (p' p : Presence) → NewerPresence o t p' p → ((v w : Value) → GrowsValue t o s v w → Carry (Writes a t v) (basic_in a false s w)) →
    Leads (Grows p t o s) (record { presence = p; spells = λ v q b. (is_written p v ≡ true) × Writes a t v q b }) (record { presence = p'; spells = basic_in a false s })
part_grows a t o s p' p k each = record {
  flags = flags_older_carry o t p' p k;
  left_out = λ x y h e. left_out_grows o t p' p k x y (h.0, h.1) e;
  held = λ v y h.
      let q = slot_some (widen o t) v y h.1 in
      let m = subst (λ z. slot_meets o z ≡ false) q.2 h.0 in
      (q.0, q.2, record { carry = λ pos b e. (each v q.0 (m, q.1, and_false (is_written p v) (writes_cut s t v) h.2 e.0)).carry pos b e.1 });
}

-- lists
abbrev Each : Schema → Schema → Schema → Value → Value → Type 0
Each t o s v w = ((meets_cut o w ≡ false) × (widen o t v ≡ Some w)) × (writes_cut s t v ≡ false)

list_grows : (a : Settings) (t o s : Schema) (size : Size) (mark : Bool) → ((v w : Value) → GrowsValue t o s v w → Carry (Writes a t v) (basic_in a false s w)) → (v w : Value) →
    GrowsValue (Schema.list t size mark) (Schema.list o size mark) (Schema.list s size mark) v w → Carry (Writes a (Schema.list t size mark) v) (basic_in a false (Schema.list s size mark) w)
unfolding basic_in widen meets_cut writes_cut
list_grows a t o s size mark each v w h = carries (list_layer a t size mark v)
    (lengthy_as (Each t o s) (λ vs. elements (as_values vs)) (λ vs. elements (as_values vs)) (Writes a t) (basic_in a false s) (λ v w k. each v w (k.0.0, k.0.1, k.1)) a size mark v w
    (λ vs i.
    let e = subst (λ z. widen (Schema.list o size mark) (Schema.list t size mark) z ≡ Some w) i h.1 in
    let n = subst (λ z. writes_cut (Schema.list s size mark) (Schema.list t size mark) z ≡ false) i h.2 in
    let q = made_of (λ ws. elements (as_values ws)) (all_of (widen o t) (values (as_values vs))) w e in
    let m = subst (λ z. meets_cut (Schema.list o size mark) z ≡ false) q.2 h.0 in (
      q.0,
      q.2,
      zip_also (λ v w. (meets_cut o w ≡ false) × (widen o t v ≡ Some w)) (writes_cut s t) vs q.0
          (zip_second (widen o t) (meets_cut o) vs q.0 (ap (all_of (widen o t)) (sym (values-as_values vs)) ∙ q.1) (subst (λ l. any_of (meets_cut o) l ≡ false) (values-as_values q.0) m))
          (subst (λ l. any_of (writes_cut s t) l ≡ false) (values-as_values vs) n),
    )))

bag_grows : (a : Settings) (t o s : Schema) (size : Size) (mark : Bool) → ((v w : Value) → GrowsValue t o s v w → Carry (Writes a t v) (basic_in a false s w)) → (v w : Value) →
    GrowsValue (Schema.set_of t size mark) (Schema.set_of o size mark) (Schema.set_of s size mark) v w → Carry (Writes a (Schema.set_of t size mark) v) (basic_in a false (Schema.set_of s size mark) w)
unfolding basic_in widen meets_cut writes_cut bag_of
bag_grows a t o s size mark each v w h = carries (bag_layer a t size mark v)
    (lengthy_as (Each t o s) bag_of bag_of (Writes a t) (basic_in a false s) (λ v w k. each v w (k.0.0, k.0.1, k.1)) a size mark v w
    (λ vs i.
    let sort : List Value → List Value = sorted (λ v w. before (code v) (code w)) in
    let e = subst (λ z. widen (Schema.set_of o size mark) (Schema.set_of t size mark) z ≡ Some w) i h.1 in
    let n = subst (λ z. writes_cut (Schema.set_of s size mark) (Schema.set_of t size mark) z ≡ false) i h.2 in
    let q = made_of bag_of (all_of (widen o t) (values (as_values (sort vs)))) w e in
    let r = bag_source (widen o t) vs q.0 (ap (all_of (widen o t)) (sym (values-as_values (sort vs))) ∙ q.1) in
    let m = subst (λ z. meets_cut (Schema.set_of o size mark) z ≡ false) (q.2 ∙ r.2) h.0 in
    let m2 : any_of (meets_cut o) (sort r.0) ≡ false = subst (λ l. any_of (meets_cut o) l ≡ false) (values-as_values (sort r.0)) m in
    let n2 : any_of (writes_cut s t) (sort vs) ≡ false = subst (λ l. any_of (writes_cut s t) l ≡ false) (values-as_values (sort vs)) n in (
      r.0,
      q.2 ∙ r.2,
      zip_also (λ v w. (meets_cut o w ≡ false) × (widen o t v ≡ Some w)) (writes_cut s t) vs r.0
          (zip_second (widen o t) (meets_cut o) vs r.0 r.1 (any_in_bag (meets_cut o) r.0 m2)) (any_in_bag (writes_cut s t) vs n2),
    )))

-- additions that only the newer reader knows are left out
filled_carry : (a : Settings) {ss os : Parts} → CutParts ss os → (ys : List (Option Value)) → all_filled_in os ≡ Some ys → (bs : List Bool) → Carry (Unknown_in a false bs) (Additions_in a false (rules_in a false ss) ys bs)
unfolding rules_in
filled_carry a no_cut [] e bs = kept
filled_carry a no_cut (y ∷ ys) e bs = absurd (cc)
filled_carry a (cut_part {p = p} {ps' = os} c cs) [] e bs = let q = joined_of (filled_in p) (all_filled_in os) [] e in let h : [] ≡ q.0 ∷ q.1 = q.4 in absurd (cc)
filled_carry a (cut_part {t = t} {p = p} {s = s} {ps = ss} {ps' = os} c cs) (y ∷ ys) e bs =
    let q = joined_of (filled_in p) (all_filled_in os) (y ∷ ys) e in
    let w : y ∷ ys ≡ q.0 ∷ q.1 = q.4 in
    let i : y ≡ q.0 = cc in
    let j : ys ≡ q.1 = cc in
    go (filled_left p y (subst (λ z. filled_in p ≡ Some z) (sym i) q.2)) (filled_carry a cs ys (subst (λ z. all_filled_in os ≡ Some z) (sym j) q.3)) bs
  where
    go : IsLeftOut p y → ((bs : List Bool) → Carry (Unknown_in a false bs) (Additions_in a false (rules_in a false ss) ys bs)) → (bs : List Bool) → Carry (Unknown_in a false bs) (Additions_in a false (rules_in a false (part t p s ss)) (y ∷ ys) bs)
    go l rest [] = record { carry = λ n b x. (l, (rest []).carry n b x) }
    go l rest (false ∷ bs) = record { carry = λ n b x. (l, (rest bs).carry n b x) }
    go l rest (true ∷ bs) = record { carry = λ n b x. absurd x }

-- records
along_grows : {ts os ss : Parts} → NewerParts false os ts → CutParts ss os → (xs ys : List (Option Value)) → length xs ≡ count ts → slots_meet_cut os ys ≡ false → widen_slots os ts xs ≡ Some ys → slots_write_cut ss ts xs ≡ false →
    Along false (grows ts os ss) xs ys
unfolding widen meets_cut writes_cut
along_grows no_more no_cut [] [] l m e k = tt
along_grows no_more no_cut [] (y ∷ ys) l m e k = absurd (cc)
along_grows no_more no_cut (x ∷ xs) ys l m e k = absurd (omega arith)
along_grows (also p n ns) (cut_part c cs) [] ys l m e k = absurd (cc)
along_grows (also {p = p} {s = t} {s' = o} {ps = ts} {ps' = os} h n ns) (cut_part {s = s} {ps = ss} c cs) (x ∷ xs) ys l m e k =
    let q = joined_of (slot_through (widen o t) x) (widen_slots os ts xs) ys e in
    let m' = slot_meets_not o os q.0 q.1 (subst (λ l. in_slots (meets_cut o) (slots_meet_cut os) l ≡ false) q.4 m) in
    let k' = slot_cut_not p s t ss ts x xs k in
    subst (λ l. Along false (Grows p t o s ∷ grows ts os ss) (x ∷ xs) l) (sym q.4) ((m'.0, q.2, k'.0), along_grows ns cs xs q.1 (omega arith) m'.1 q.3 k'.1)

record_grows : (a : Settings) (r : Order) (ext : Bool) (tds ods sds : Parts) {ts os ss : Parts} → NewerParts false os ts → CutParts ss os → AllLead false (grows ts os ss) (written_rules a ts) (rules_in a false ss) →
    ((xs ys : List (Option Value)) → length xs ≡ count tds → slots_meet_cut ods ys ≡ false → widen_slots ods tds xs ≡ Some ys → slots_write_cut sds tds xs ≡ false →
    (bs : List Bool) → Carry (Additions_in a false (written_rules a tds) xs bs) (Additions_in a false (rules_in a false sds) ys bs)) → (v w : Value) →
    GrowsValue (Schema.sequence r ts ext tds) (Schema.sequence r os ext ods) (Schema.sequence r ss ext sds) v w → Carry (Writes a (Schema.sequence r ts ext tds) v) (basic_in a false (Schema.sequence r ss ext sds) w)
unfolding basic_in widen meets_cut writes_cut
record_grows a r ext tds ods sds {ts} {os} {ss} n c k k' v w h = carries (record_layer a false r ext ts tds v)
    (subst (λ l. Carry (As (λ (x : List (Option Value) × List (Option Value)). fields (as_slots x.0) (as_slots x.1)) (λ x. Basic.Record_in a false ext (ordered r (tags ts) (written_rules a ts)) (written_rules a tds) (ordered r (tags ts) x.0) x.1) v)
    (As (λ (x : List (Option Value) × List (Option Value)). fields (as_slots x.0) (as_slots x.1)) (λ x. Basic.Record_in a false ext (ordered r l (rules_in a false ss)) (rules_in a false sds) (ordered r l x.0) x.1) w)) (sym (same_tags n) ∙ sym (same_cut_tags c))
    (record_as a false false r (tags ts) ext (grows ts os ss) (written_rules a ts) (rules_in a false ss) (written_rules a tds) (rules_in a false sds) k v w
    (λ x i l l'.
    let e = subst (λ z. widen (Schema.sequence r os ext ods) (Schema.sequence r ts ext tds) z ≡ Some w) i h.1 in
    let d = subst (λ z. writes_cut (Schema.sequence r ss ext sds) (Schema.sequence r ts ext tds) z ≡ false) i h.2 in
    let q = made_both_of (widen_slots os ts (slots (as_slots x.0))) (widen_slots ods tds (slots (as_slots x.1))) w e in
    let m = subst (λ z. meets_cut (Schema.sequence r os ext ods) z ≡ false) q.4 h.0 in
    let m0 = or_left (slots_meet_cut os (slots (as_slots q.0))) (slots_meet_cut ods (slots (as_slots q.1))) m in
    let m1 = or_right (slots_meet_cut os (slots (as_slots q.0))) (slots_meet_cut ods (slots (as_slots q.1))) m in
    let d0 = or_left (slots_write_cut ss ts (slots (as_slots x.0))) (slots_write_cut sds tds (slots (as_slots x.1))) d in
    let d1 = or_right (slots_write_cut ss ts (slots (as_slots x.0))) (slots_write_cut sds tds (slots (as_slots x.1))) d in (
      (q.0, q.1),
      q.4,
      along_grows n c x.0 q.0 (l ∙ length_written a ts) (subst (λ z. slots_meet_cut os z ≡ false) (slots-as_slots q.0) m0) (subst (λ z. widen_slots os ts z ≡ Some q.0) (slots-as_slots x.0) q.2)
          (subst (λ z. slots_write_cut ss ts z ≡ false) (slots-as_slots x.0) d0),
      k' x.1 q.1 (l' ∙ length_written a tds) (subst (λ z. slots_meet_cut ods z ≡ false) (slots-as_slots q.1) m1) (subst (λ z. widen_slots ods tds z ≡ Some q.1) (slots-as_slots x.1) q.3)
          (subst (λ z. slots_write_cut sds tds z ≡ false) (slots-as_slots x.1) d1),
    ))))

-- choices
choice_grows : (a : Settings) (ext : Bool) (tds ods sds : Parts) {ts os ss : Parts} → NewerParts false os ts → CutParts ss os →
    ((i : ℕ) (v w : Value) → meets_cut_at os i w ≡ false → widen_at os ts i v ≡ Some w → writes_cut_at ss ts i v ≡ false → Carry (Chosen (chosen_rules a ts) i v) (Chosen (rules_in a false ss) i w)) →
    ((i : ℕ) (v w : Value) → meets_cut_at ods i w ≡ false → widen_at ods tds i v ≡ Some w → writes_cut_at sds tds i v ≡ false → Carry (Chosen (chosen_rules a tds) i v) (Chosen (rules_in a false sds) i w)) →
    (v w : Value) → GrowsValue (Schema.choice ts tds ext) (Schema.choice os ods ext) (Schema.choice ss sds ext) v w → Carry (Writes a (Schema.choice ts tds ext) v) (basic_in a false (Schema.choice ss sds ext) w)
unfolding basic_in widen meets_cut writes_cut
choice_grows a ext tds ods sds {ts} {os} {ss} n c k k' v w h = carries (choice_layer a ext ts tds v)
    (choice_as a ext (chosen_rules a ts) (rules_in a false ss) (chosen_rules a tds) (rules_in a false sds) (length_chosen a ts ∙ sym (same_count n) ∙ sym (cut_count c) ∙ sym (length-rules-in a false ss)) v w
    (λ d i x e. go d i x (subst (λ z. GrowsValue (Schema.choice ts tds ext) (Schema.choice os ods ext) (Schema.choice ss sds ext) z w) e h)))
  where
    go : (d : Side) (i : ℕ) (x : Value) → GrowsValue (Schema.choice ts tds ext) (Schema.choice os ods ext) (Schema.choice ss sds ext) (alternative d i x) w →
        (y : Value) × (w ≡ alternative d i y) × Carry (Chosen (rules_on d (chosen_rules a ts) (chosen_rules a tds)) i x) (Chosen (rules_on d (rules_in a false ss) (rules_in a false sds)) i y)
    go root i x h = let q = made_of (alternative root i) (widen_at os ts i x) w h.1 in (q.0, q.2, k i x q.0 (subst (λ z. meets_cut (Schema.choice os ods ext) z ≡ false) q.2 h.0) q.1 h.2)
    go added i x h = let q = made_of (alternative added i) (widen_at ods tds i x) w h.1 in (q.0, q.2, k' i x q.0 (subst (λ z. meets_cut (Schema.choice os ods ext) z ≡ false) q.2 h.0) q.1 h.2)

-- kinds in which no schema stands
leaf_grows : (a : Settings) {t s : Schema} → Newer s t → (v w : Value) → GrowsValue t s s v w → Carry (Writes a t v) (basic_in a false s w)
leaf_grows a {t} n v w h = carries (record { carry = λ p b e. (canonical a false t v).within p b e }) (newer_takes a n v w h.0 h.1)

mutual
  unfolding basic_in widen meets_cut writes_cut

  pub newer_writes : (a : Settings) {t o s : Schema} → CutOf s o → Newer o t → (v w : Value) → GrowsValue t o s v w → Carry (Writes a t v) (basic_in a false s w)
  newer_writes a cut_here n v w h = absurd (let x : true ≡ false = h.2 in cc)
  newer_writes a (alike l) n v w h = leaf_grows a n v w h
  newer_writes a (cut_containing c) (unchanged l) v w h = absurd l
  newer_writes a (cut_containing c) (newer_containing {e = t} n) v w h = carries (contained_layer a t v) (contained_carry a (newer_writes a c n v w h))
  newer_writes a (cut_list c) (unchanged l) v w h = absurd l
  newer_writes a (cut_list {s = s} {t = o} {size = size} {mark = mark} c) (newer_list {e = t} n) v w h = list_grows a t o s size mark (newer_writes a c n) v w h
  newer_writes a (cut_set_of c) (unchanged l) v w h = absurd l
  newer_writes a (cut_set_of {s = s} {t = o} {size = size} {mark = mark} c) (newer_set_of {e = t} n) v w h = bag_grows a t o s size mark (newer_writes a c n) v w h
  newer_writes a (cut_sequence c d) (unchanged l) v w h = absurd l
  newer_writes a (cut_sequence {o = r} {ext = ext} {adds = sds} {bdds = ods} c d) (newer_sequence {adds = tds} n ns) v w h =
      record_grows a r ext tds ods sds n c (newer_leads a c n) (newer_additions a d ns) v w h
  newer_writes a (cut_choice c d) (unchanged l) v w h = absurd l
  newer_writes a (cut_choice {ext = ext} {adds = sds} {bdds = ods} c d) (newer_choice {adds = tds} n ns) v w h =
      choice_grows a ext tds ods sds n c (newer_chosen a c n) (newer_chosen a d ns) v w h

  newer_leads : (a : Settings) {ts os ss : Parts} → CutParts ss os → NewerParts false os ts → AllLead false (grows ts os ss) (written_rules a ts) (rules_in a false ss)
  newer_leads a no_cut no_more = tt
  newer_leads a (cut_part {s = s} c cs) (also {p = p} {p' = p'} {s = t} {s' = o} h n ns) = (part_grows a t o s p' p h (newer_writes a c n), newer_leads a cs ns)

  newer_additions : (a : Settings) {may : Bool} {ts os ss : Parts} → CutParts ss os → NewerParts may os ts → (xs ys : List (Option Value)) → length xs ≡ count ts → slots_meet_cut os ys ≡ false → widen_slots os ts xs ≡ Some ys →
      slots_write_cut ss ts xs ≡ false → (bs : List Bool) → Carry (Additions_in a false (written_rules a ts) xs bs) (Additions_in a false (rules_in a false ss) ys bs)
  newer_additions a no_cut no_more [] [] l m e k bs = kept
  newer_additions a no_cut no_more [] (y ∷ ys) l m e k bs = absurd (cc)
  newer_additions a no_cut no_more (x ∷ xs) ys l m e k bs = absurd (omega arith)
  newer_additions a (cut_part {t = t} {p = p} {s = s} {s' = o} {ps = ss} {ps' = os} c cs) more_parts [] ys l m e k bs = filled_carry a (cut_part {t = t} {p = p} {s = s} {s' = o} {ps = ss} {ps' = os} c cs) ys e bs
  newer_additions a (cut_part c cs) more_parts (x ∷ xs) ys l m e k bs = absurd (omega arith)
  newer_additions a (cut_part c cs) (also p n ns) [] ys l m e k bs = absurd (cc)
  newer_additions a (cut_part {s = s} {ps = ss} c cs) (also {t = tag} {p = p} {p' = p'} {s = t} {s' = o} {ps = ts} {ps' = os} h n ns) (x ∷ xs) ys l m e k bs =
      let q = joined_of (slot_through (widen o t) x) (widen_slots os ts xs) ys e in
      let m' = slot_meets_not o os q.0 q.1 (subst (λ l. in_slots (meets_cut o) (slots_meet_cut os) l ≡ false) q.4 m) in
      let k' = slot_cut_not p s t ss ts x xs k in
      subst (λ z. Carry (Additions_in a false (written_rules a (part tag p t ts)) (x ∷ xs) bs) (Additions_in a false (rules_in a false (part tag p' s ss)) z bs)) (sym q.4)
      (additions_step a false false (Grows p t o s) (record { presence = p; spells = λ v q b. (is_written p v ≡ true) × Writes a t v q b }) (record { presence = p'; spells = basic_in a false s }) (part_grows a t o s p' p h (newer_writes a c n)) x q.0 (m'.0, q.2, k'.0)
      (written_rules a ts) (rules_in a false ss) xs q.1 (newer_additions a cs ns xs q.1 (omega arith) m'.1 q.3 k'.1) bs)

  newer_chosen : (a : Settings) {may : Bool} {ts os ss : Parts} → CutParts ss os → NewerParts may os ts → (i : ℕ) (v w : Value) → meets_cut_at os i w ≡ false → widen_at os ts i v ≡ Some w → writes_cut_at ss ts i v ≡ false →
      Carry (Chosen (chosen_rules a ts) i v) (Chosen (rules_in a false ss) i w)
  newer_chosen a no_cut no_more i v w m e k = absurd (let x : ◌≡◌ {A = Option Value} None (Some w) = e in cc)
  newer_chosen a (cut_part c cs) more_parts i v w m e k = absurd (let x : ◌≡◌ {A = Option Value} None (Some w) = e in cc)
  newer_chosen a (cut_part c cs) (also h n ns) zero v w m e k = newer_writes a c n v w (m, e, k)
  newer_chosen a (cut_part c cs) (also h n ns) (suc i) v w m e k = newer_chosen a cs ns i v w m e k
