-- What a newer writer writes, an older reader reads as the projection, where nothing that is written and not dropped is at a Cut of the reader's tree.
use Rattle.per_core.specs.Basic
use Rattle.std.proofs.Common.{◌≡◌, refl, sym, ap, ◌∙◌, subst, ℕ, zero, suc, Bool, true, false, List, [], ◌∷◌, length, arith, Option, Some, None}
use Rattle.rasn_types.specs.Values.{sorted, before, code, Value, elements, bag_of, fields, alternative, Side, root, added, as_values, as_slots, values, slots}
use Rattle.rasn_types.proofs.Values.{slots-as_slots, values-as_values}
use Rattle.rasn_constraints.specs.Bounds.{Size}
use Rattle.rasn_schema.specs.Schemas.{tags, count, Presence, Order, Schema, Parts, no_parts, part}
use Rattle.rasn_schema.specs.Orders.{ordered}
use Rattle.rasn_schema.specs.Depth.{meets_cut, slots_meet_cut, meets_cut_at, any_of, CutOf, CutParts, cut_here, alike, cut_containing, cut_list, cut_set_of, cut_sequence, cut_choice, no_cut, cut_part}
use Rattle.per_core.specs.Spellings.{Settings}
use Rattle.per_core.specs.Basic.{As, Additions_in, Chosen, basic, basic_in, rules}
use Rattle.rasn_types.specs.AllOf.{all_of}
use Rattle.per_core.specs.Versions.{project, project_slots, project_at, slot_through, NewerPresence, Newer, NewerParts, unchanged, newer_containing, newer_list, newer_set_of, newer_sequence, newer_choice, no_more, more_parts, also}
use Rattle.per_core.proofs.LengthForms.{Zip, or_left, or_right}
use Rattle.per_core.proofs.Records.{SlotRel, Along}
use Rattle.per_core.proofs.Readings.{length-rules}
use Rattle.rasn_schema.proofs.Bags.{bag_source, any_in_bag, joined_of}
use Rattle.per_core.proofs.Canonical.{canonical}
use Rattle.per_laws.proofs.Older.{made_of, made_both_of, slot_some, slot_meets, same_tags}
use Rattle.per_laws.proofs.Carry.{Carry, kept, Leads, AllLead, skipped_carry, carries, contained_carry}
use Rattle.per_laws.proofs.Carrying.{lengthy_as, additions_step, record_as, choice_as, rules_on}
use Rattle.per_laws.proofs.DeeperTrees.{same_cut_tags, cut_count}
use Rattle.per_laws.proofs.OlderReadings.{older_takes}
use Rattle.per_laws.proofs.Takes.{flags_newer_carry, slot_meets_not, zip_first, same_count, left_out_drops}
use Rattle.per_laws.specs.Written.{is_written, writes_cut, slots_write_cut, writes_cut_at}
use Rattle.per_laws.proofs.SameWritten.{and_false, slot_written_cut, slot_cut_not}
use Rattle.per_laws.proofs.Layers.{Writes, written_rules, chosen_rules, list_layer, bag_layer, record_layer, choice_layer, contained_layer}

-- of a slot of the writer t and one of the reader, whose tree s is the older o cut off
abbrev Drops : Presence → Schema → Schema → Schema → SlotRel
Drops p t o s x y = (slot_meets t x ≡ false) × (slot_through (project t o) x ≡ Some y) × (slot_written_cut p s t x ≡ false)

abbrev drops : Parts → Parts → Parts → List SlotRel
drops (part t p s ps) (part t' p' s' ps') (part t'' p'' s'' ps'') = Drops p s s' s'' ∷ drops ps ps' ps''
drops _ _ _ = []

-- what is known of a value of the writer's and one of the reader's
abbrev pub DropsValue : Schema → Schema → Schema → Value → Value → Type 0
DropsValue t o s v w = (meets_cut t v ≡ false) × (project t o v ≡ Some w) × (writes_cut s t v ≡ false)

part_drops : (a : Settings) {t o : Schema} (s : Schema) → Newer t o → (p' p : Presence) → NewerPresence t o p' p → ((v w : Value) → DropsValue t o s v w → Carry (Writes a t v) (basic a s w)) →
    Leads (Drops p' t o s) (record { presence = p'; spells = λ v q b. (is_written p' v ≡ true) × Writes a t v q b }) (record { presence = p; spells = basic a s })
part_drops a {t} {o} s n p' p k each = record {
  flags = flags_newer_carry t o p' p k;
  left_out = λ x y h e. left_out_drops n p' p k x y (h.0, h.1) e;
  held = λ v y h.
      let q = slot_some (project t o) v y h.1 in
      (q.0, q.2, record { carry = λ pos b e. (each v q.0 (h.0, q.1, and_false (is_written p' v) (writes_cut s t v) h.2 e.0)).carry pos b e.1 });
}

-- lists
pub zip_also : (R : Value → Value → Type 0) (K : Value → Bool) (vs ws : List Value) → Zip R vs ws → any_of K vs ≡ false → Zip (λ v w. R v w × (K v ≡ false)) vs ws
zip_also R K [] [] z m = tt
zip_also R K (v ∷ vs) (w ∷ ws) z m = ((z.0, or_left (K v) (any_of K vs) m), zip_also R K vs ws z.1 (or_right (K v) (any_of K vs) m))
zip_also R K [] (w ∷ ws) z m = absurd z
zip_also R K (v ∷ vs) [] z m = absurd z

abbrev Each : Schema → Schema → Schema → Value → Value → Type 0
Each t o s v w = ((meets_cut t v ≡ false) × (project t o v ≡ Some w)) × (writes_cut s t v ≡ false)

list_drops : (a : Settings) (t o s : Schema) (size : Size) (mark : Bool) → ((v w : Value) → DropsValue t o s v w → Carry (Writes a t v) (basic a s w)) → (v w : Value) →
    DropsValue (Schema.list t size mark) (Schema.list o size mark) (Schema.list s size mark) v w → Carry (Writes a (Schema.list t size mark) v) (basic a (Schema.list s size mark) w)
unfolding basic_in project meets_cut writes_cut
list_drops a t o s size mark each v w h = carries (list_layer a t size mark v)
    (lengthy_as (Each t o s) (λ vs. elements (as_values vs)) (λ vs. elements (as_values vs)) (Writes a t) (basic a s) (λ v w k. each v w (k.0.0, k.0.1, k.1)) a size mark v w
    (λ vs i.
    let e = subst (λ z. project (Schema.list t size mark) (Schema.list o size mark) z ≡ Some w) i h.1 in
    let m = subst (λ z. meets_cut (Schema.list t size mark) z ≡ false) i h.0 in
    let n = subst (λ z. writes_cut (Schema.list s size mark) (Schema.list t size mark) z ≡ false) i h.2 in
    let q = made_of (λ ws. elements (as_values ws)) (all_of (project t o) (values (as_values vs))) w e in (
      q.0,
      q.2,
      zip_also (λ v w. (meets_cut t v ≡ false) × (project t o v ≡ Some w)) (writes_cut s t) vs q.0
          (zip_first (project t o) (meets_cut t) vs q.0 (ap (all_of (project t o)) (sym (values-as_values vs)) ∙ q.1) (subst (λ l. any_of (meets_cut t) l ≡ false) (values-as_values vs) m))
          (subst (λ l. any_of (writes_cut s t) l ≡ false) (values-as_values vs) n),
    )))

bag_drops : (a : Settings) (t o s : Schema) (size : Size) (mark : Bool) → ((v w : Value) → DropsValue t o s v w → Carry (Writes a t v) (basic a s w)) → (v w : Value) →
    DropsValue (Schema.set_of t size mark) (Schema.set_of o size mark) (Schema.set_of s size mark) v w → Carry (Writes a (Schema.set_of t size mark) v) (basic a (Schema.set_of s size mark) w)
unfolding basic_in project meets_cut writes_cut bag_of
bag_drops a t o s size mark each v w h = carries (bag_layer a t size mark v)
    (lengthy_as (Each t o s) bag_of bag_of (Writes a t) (basic a s) (λ v w k. each v w (k.0.0, k.0.1, k.1)) a size mark v w
    (λ vs i.
    let sort : List Value = sorted (λ v w. before (code v) (code w)) vs in
    let e = subst (λ z. project (Schema.set_of t size mark) (Schema.set_of o size mark) z ≡ Some w) i h.1 in
    let m = subst (λ z. meets_cut (Schema.set_of t size mark) z ≡ false) i h.0 in
    let n = subst (λ z. writes_cut (Schema.set_of s size mark) (Schema.set_of t size mark) z ≡ false) i h.2 in
    let q = made_of bag_of (all_of (project t o) (values (as_values sort))) w e in
    let r = bag_source (project t o) vs q.0 (ap (all_of (project t o)) (sym (values-as_values sort)) ∙ q.1) in
    let m2 : any_of (meets_cut t) sort ≡ false = subst (λ l. any_of (meets_cut t) l ≡ false) (values-as_values sort) m in
    let n2 : any_of (writes_cut s t) sort ≡ false = subst (λ l. any_of (writes_cut s t) l ≡ false) (values-as_values sort) n in (
      r.0,
      q.2 ∙ r.2,
      zip_also (λ v w. (meets_cut t v ≡ false) × (project t o v ≡ Some w)) (writes_cut s t) vs r.0
          (zip_first (project t o) (meets_cut t) vs r.0 r.1 (any_in_bag (meets_cut t) vs m2)) (any_in_bag (writes_cut s t) vs n2),
    )))

-- records
pub length_written : (a : Settings) (ps : Parts) → length (written_rules a ps) ≡ count ps
length_written a no_parts = refl
length_written a (part t p s ps) = ap suc (length_written a ps) ∙ omega arith

pub length_chosen : (a : Settings) (ps : Parts) → length (chosen_rules a ps) ≡ count ps
length_chosen a no_parts = refl
length_chosen a (part t p s ps) = ap suc (length_chosen a ps) ∙ omega arith

along_drops : {ts os ss : Parts} → NewerParts false ts os → CutParts ss os → (xs ys : List (Option Value)) → length xs ≡ count ts → slots_meet_cut ts xs ≡ false → project_slots ts os xs ≡ Some ys → slots_write_cut ss ts xs ≡ false →
    Along false (drops ts os ss) xs ys
unfolding project meets_cut writes_cut
along_drops no_more no_cut [] [] l m e k = tt
along_drops no_more no_cut [] (y ∷ ys) l m e k = absurd (cc)
along_drops no_more no_cut (x ∷ xs) ys l m e k = absurd (omega arith)
along_drops (also p n ns) (cut_part c cs) [] ys l m e k = absurd (cc)
along_drops (also {p' = p'} {s = o} {s' = t} {ps = os} {ps' = ts} p n ns) (cut_part {s = s} {ps = ss} c cs) (x ∷ xs) ys l m e k =
    let m' = slot_meets_not t ts x xs m in
    let k' = slot_cut_not p' s t ss ts x xs k in
    let q = joined_of (slot_through (project t o) x) (project_slots ts os xs) ys e in
    subst (λ l. Along false (Drops p' t o s ∷ drops ts os ss) (x ∷ xs) l) (sym q.4) ((m'.0, q.2, k'.0), along_drops ns cs xs q.1 (omega arith) m'.1 q.3 k'.1)

record_drops : (a : Settings) (r : Order) (ext : Bool) (tds ods sds : Parts) {ts os ss : Parts} → NewerParts false ts os → CutParts ss os → AllLead false (drops ts os ss) (written_rules a ts) (rules a ss) →
    ((xs ys : List (Option Value)) → length xs ≡ count tds → slots_meet_cut tds xs ≡ false → project_slots tds ods xs ≡ Some ys → slots_write_cut sds tds xs ≡ false →
    (bs : List Bool) → Carry (Additions_in a true (written_rules a tds) xs bs) (Additions_in a true (rules a sds) ys bs)) → (v w : Value) →
    DropsValue (Schema.sequence r ts ext tds) (Schema.sequence r os ext ods) (Schema.sequence r ss ext sds) v w → Carry (Writes a (Schema.sequence r ts ext tds) v) (basic a (Schema.sequence r ss ext sds) w)
unfolding basic_in project meets_cut writes_cut
record_drops a r ext tds ods sds {ts} {os} {ss} n c k k' v w h = carries (record_layer a true r ext ts tds v)
    (subst (λ l. Carry (As (λ (x : List (Option Value) × List (Option Value)). fields (as_slots x.0) (as_slots x.1)) (λ x. Basic.Record_in a true ext (ordered r (tags ts) (written_rules a ts)) (written_rules a tds) (ordered r (tags ts) x.0) x.1) v)
    (As (λ (x : List (Option Value) × List (Option Value)). fields (as_slots x.0) (as_slots x.1)) (λ x. Basic.Record_in a true ext (ordered r l (rules a ss)) (rules a sds) (ordered r l x.0) x.1) w)) (same_tags n ∙ sym (same_cut_tags c))
    (record_as a true true r (tags ts) ext (drops ts os ss) (written_rules a ts) (rules a ss) (written_rules a tds) (rules a sds) k v w
    (λ x i l l'.
    let e = subst (λ z. project (Schema.sequence r ts ext tds) (Schema.sequence r os ext ods) z ≡ Some w) i h.1 in
    let m = subst (λ z. meets_cut (Schema.sequence r ts ext tds) z ≡ false) i h.0 in
    let d = subst (λ z. writes_cut (Schema.sequence r ss ext sds) (Schema.sequence r ts ext tds) z ≡ false) i h.2 in
    let q = made_both_of (project_slots ts os (slots (as_slots x.0))) (project_slots tds ods (slots (as_slots x.1))) w e in
    let m0 = or_left (slots_meet_cut ts (slots (as_slots x.0))) (slots_meet_cut tds (slots (as_slots x.1))) m in
    let m1 = or_right (slots_meet_cut ts (slots (as_slots x.0))) (slots_meet_cut tds (slots (as_slots x.1))) m in
    let d0 = or_left (slots_write_cut ss ts (slots (as_slots x.0))) (slots_write_cut sds tds (slots (as_slots x.1))) d in
    let d1 = or_right (slots_write_cut ss ts (slots (as_slots x.0))) (slots_write_cut sds tds (slots (as_slots x.1))) d in (
      (q.0, q.1),
      q.4,
      along_drops n c x.0 q.0 (l ∙ length_written a ts) (subst (λ z. slots_meet_cut ts z ≡ false) (slots-as_slots x.0) m0) (subst (λ z. project_slots ts os z ≡ Some q.0) (slots-as_slots x.0) q.2)
          (subst (λ z. slots_write_cut ss ts z ≡ false) (slots-as_slots x.0) d0),
      k' x.1 q.1 (l' ∙ length_written a tds) (subst (λ z. slots_meet_cut tds z ≡ false) (slots-as_slots x.1) m1) (subst (λ z. project_slots tds ods z ≡ Some q.1) (slots-as_slots x.1) q.3)
          (subst (λ z. slots_write_cut sds tds z ≡ false) (slots-as_slots x.1) d1),
    ))))

-- choices
choice_drops : (a : Settings) (ext : Bool) (tds ods sds : Parts) {ts os ss : Parts} → NewerParts false ts os → CutParts ss os →
    ((i : ℕ) (v w : Value) → meets_cut_at ts i v ≡ false → project_at ts os i v ≡ Some w → writes_cut_at ss ts i v ≡ false → Carry (Chosen (chosen_rules a ts) i v) (Chosen (rules a ss) i w)) →
    ((i : ℕ) (v w : Value) → meets_cut_at tds i v ≡ false → project_at tds ods i v ≡ Some w → writes_cut_at sds tds i v ≡ false → Carry (Chosen (chosen_rules a tds) i v) (Chosen (rules a sds) i w)) →
    (v w : Value) → DropsValue (Schema.choice ts tds ext) (Schema.choice os ods ext) (Schema.choice ss sds ext) v w → Carry (Writes a (Schema.choice ts tds ext) v) (basic a (Schema.choice ss sds ext) w)
unfolding basic_in project meets_cut writes_cut
choice_drops a ext tds ods sds {ts} {os} {ss} n c k k' v w h = carries (choice_layer a ext ts tds v)
    (choice_as a ext (chosen_rules a ts) (rules a ss) (chosen_rules a tds) (rules a sds) (length_chosen a ts ∙ same_count n ∙ sym (cut_count c) ∙ sym (length-rules a ss)) v w
    (λ d i x e. go d i x (subst (λ z. DropsValue (Schema.choice ts tds ext) (Schema.choice os ods ext) (Schema.choice ss sds ext) z w) e h)))
  where
    go : (d : Side) (i : ℕ) (x : Value) → DropsValue (Schema.choice ts tds ext) (Schema.choice os ods ext) (Schema.choice ss sds ext) (alternative d i x) w →
        (y : Value) × (w ≡ alternative d i y) × Carry (Chosen (rules_on d (chosen_rules a ts) (chosen_rules a tds)) i x) (Chosen (rules_on d (rules a ss) (rules a sds)) i y)
    go root i x h = let q = made_of (alternative root i) (project_at ts os i x) w h.1 in (q.0, q.2, k i x q.0 h.0 q.1 h.2)
    go added i x h = let q = made_of (alternative added i) (project_at tds ods i x) w h.1 in (q.0, q.2, k' i x q.0 h.0 q.1 h.2)

-- kinds in which no schema stands
leaf_drops : (a : Settings) {t s : Schema} → Newer t s → (v w : Value) → DropsValue t s s v w → Carry (Writes a t v) (basic a s w)
leaf_drops a {t} n v w h = carries (record { carry = λ p b e. (canonical a true t v).within p b e }) (older_takes a n v w h.0 h.1)

mutual
  unfolding basic_in project meets_cut writes_cut

  pub older_writes : (a : Settings) {t o s : Schema} → CutOf s o → Newer t o → (v w : Value) → DropsValue t o s v w → Carry (Writes a t v) (basic a s w)
  older_writes a cut_here n v w h = absurd (let x : true ≡ false = h.2 in cc)
  older_writes a (alike l) n v w h = leaf_drops a n v w h
  older_writes a (cut_containing c) (unchanged l) v w h = absurd l
  older_writes a (cut_containing c) (newer_containing {e' = t} n) v w h = carries (contained_layer a t v) (contained_carry a (older_writes a c n v w h))
  older_writes a (cut_list c) (unchanged l) v w h = absurd l
  older_writes a (cut_list {s = s} {t = o} {size = size} {mark = mark} c) (newer_list {e' = t} n) v w h = list_drops a t o s size mark (older_writes a c n) v w h
  older_writes a (cut_set_of c) (unchanged l) v w h = absurd l
  older_writes a (cut_set_of {s = s} {t = o} {size = size} {mark = mark} c) (newer_set_of {e' = t} n) v w h = bag_drops a t o s size mark (older_writes a c n) v w h
  older_writes a (cut_sequence c d) (unchanged l) v w h = absurd l
  older_writes a (cut_sequence {o = r} {ext = ext} {adds = sds} {bdds = ods} c d) (newer_sequence {adds' = tds} n ns) v w h =
      record_drops a r ext tds ods sds n c (older_leads a c n) (older_additions a d ns) v w h
  older_writes a (cut_choice c d) (unchanged l) v w h = absurd l
  older_writes a (cut_choice {ext = ext} {adds = sds} {bdds = ods} c d) (newer_choice {adds' = tds} n ns) v w h =
      choice_drops a ext tds ods sds n c (older_chosen a c n) (older_chosen a d ns) v w h

  older_leads : (a : Settings) {ts os ss : Parts} → CutParts ss os → NewerParts false ts os → AllLead false (drops ts os ss) (written_rules a ts) (rules a ss)
  older_leads a no_cut no_more = tt
  older_leads a (cut_part {s = s} c cs) (also {p = p} {p' = p'} h n ns) = (part_drops a s n p' p h (older_writes a c n), older_leads a cs ns)

  older_additions : (a : Settings) {may : Bool} {ts os ss : Parts} → CutParts ss os → NewerParts may ts os → (xs ys : List (Option Value)) → length xs ≡ count ts → slots_meet_cut ts xs ≡ false → project_slots ts os xs ≡ Some ys →
      slots_write_cut ss ts xs ≡ false → (bs : List Bool) → Carry (Additions_in a true (written_rules a ts) xs bs) (Additions_in a true (rules a ss) ys bs)
  older_additions a no_cut no_more [] [] l m e k bs = kept
  older_additions a no_cut no_more [] (y ∷ ys) l m e k bs = absurd (cc)
  older_additions a no_cut no_more (x ∷ xs) ys l m e k bs = absurd (omega arith)
  older_additions a no_cut (more_parts {t = t} {p = p} {s = s} {ps = ps}) xs [] l m e k bs = skipped_carry a (written_rules a (part t p s ps)) xs bs
  older_additions a no_cut more_parts xs (y ∷ ys) l m e k bs = absurd (cc)
  older_additions a (cut_part c cs) (also p n ns) [] ys l m e k bs = absurd (cc)
  older_additions a (cut_part {s = s} {ps = ss} c cs) (also {t = tag} {p = p} {p' = p'} {s = o} {s' = t} {ps = os} {ps' = ts} h n ns) (x ∷ xs) ys l m e k bs =
      let m' = slot_meets_not t ts x xs m in
      let k' = slot_cut_not p' s t ss ts x xs k in
      let q = joined_of (slot_through (project t o) x) (project_slots ts os xs) ys e in
      subst (λ z. Carry (Additions_in a true (written_rules a (part tag p' t ts)) (x ∷ xs) bs) (Additions_in a true (rules a (part tag p s ss)) z bs)) (sym q.4)
      (additions_step a true true (Drops p' t o s) (record { presence = p'; spells = λ v q b. (is_written p' v ≡ true) × Writes a t v q b }) (record { presence = p; spells = basic a s }) (part_drops a s n p' p h (older_writes a c n)) x q.0 (m'.0, q.2, k'.0)
      (written_rules a ts) (rules a ss) xs q.1 (older_additions a cs ns xs q.1 (omega arith) m'.1 q.3 k'.1) bs)

  older_chosen : (a : Settings) {may : Bool} {ts os ss : Parts} → CutParts ss os → NewerParts may ts os → (i : ℕ) (v w : Value) → meets_cut_at ts i v ≡ false → project_at ts os i v ≡ Some w → writes_cut_at ss ts i v ≡ false →
      Carry (Chosen (chosen_rules a ts) i v) (Chosen (rules a ss) i w)
  older_chosen a no_cut no_more i v w m e k = absurd (let x : ◌≡◌ {A = Option Value} None (Some w) = e in cc)
  older_chosen a no_cut more_parts i v w m e k = absurd (let x : ◌≡◌ {A = Option Value} None (Some w) = e in cc)
  older_chosen a (cut_part c cs) (also h n ns) zero v w m e k = older_writes a c n v w (m, e, k)
  older_chosen a (cut_part c cs) (also h n ns) (suc i) v w m e k = older_chosen a cs ns i v w m e k
