-- Depth: what is spelled in a tree is spelled in a deeper one, and back where no Cut is met. Also: what is spelled without unknown additions is spelled.
use Rattle.std.proofs.Common.{◌≡◌, refl, sym, ap, ◌∙◌, subst, ℕ, zero, suc, ◌+◌, Bool, true, false, List, [], ◌∷◌, length, arith, Option}
use Rattle.rasn_types.specs.Values.{sorted, before, code, Value, elements, bag, bag_of, fields, alternative, Side, root, added, as_values, as_slots, values, slots}
use Rattle.rasn_types.proofs.Values.{slots-as_slots, values-as_values}
use Rattle.rasn_schema.specs.Depth.{meets_cut, slots_meet_cut, meets_cut_at, in_elements, any_of, IsLeaf, CutOf, CutParts, cut_here, alike, cut_containing, cut_list, cut_set_of, cut_sequence, cut_choice, no_cut, cut_part}
use Rattle.rasn_schema.specs.Orders.{ordered}
use Rattle.rasn_schema.specs.Schemas
use Rattle.rasn_constraints.specs.Bounds.{Size}
use Rattle.rasn_schema.specs.Schemas.{tags, count, Presence, Schema, Parts, no_parts, part}
use Rattle.per_core.specs.Basic.{IsLeftOut, As, Counted, Unknown_in, Additions_in, Record_in, Chosen, basic_in, rules_in}
use Rattle.per_core.specs.Counts.{list_items}
use Rattle.per_core.specs.Spellings.{Settings, Spelling}
use Rattle.rasn_schema.proofs.Bags.{any_in_bag}
use Rattle.per_core.proofs.LengthForms.{Zip, or_left, or_right}
use Rattle.per_core.proofs.Records.{SlotRel, Along}
use Rattle.per_core.proofs.Readings.{length-rules-in}
use Rattle.per_laws.proofs.Carry.{Carry, kept, Leads, AllLead, contained_carry}
use Rattle.per_laws.proofs.Carrying.{lengthy_as, additions_step, record_as, choice_as, rules_on}
use Rattle.per_laws.proofs.Older.{slot_meets}
use Rattle.per_laws.proofs.Takes.{slot_meets_not}

-- unknown additions may come in, and do not go out
abbrev pub Lets : Bool → Bool → Type 0
Lets true false = ⊥
Lets _ _ = Unit {0}

unknown_let : (a : Settings) (u' u : Bool) → Lets u' u → (bs : List Bool) → Carry (Unknown_in a u' bs) (Unknown_in a u bs)
unknown_let a u' u l [] = kept
unknown_let a u' u l (false ∷ bs) = unknown_let a u' u l bs
unknown_let a true true l (true ∷ bs) = kept
unknown_let a true false l (true ∷ bs) = absurd l
unknown_let a false u l (true ∷ bs) = record { carry = λ p b x. absurd x }

-- the same values of two spellings, where a test is false
module _ (K : Value → Bool) (f g : Value → Spelling) (each : (v : Value) → K v ≡ false → Carry (f v) (g v)) where
  Kept : Value → Value → Type 0
  Kept v w = (K v ≡ false) × (v ≡ w)

  zip_kept : (vs : List Value) → any_of K vs ≡ false → Zip Kept vs vs
  unfolding Kept
  zip_kept [] m = tt
  zip_kept (v ∷ vs) m = ((or_left (K v) (any_of K vs) m, refl), zip_kept vs (or_right (K v) (any_of K vs) m))

  each_kept : (v w : Value) → Kept v w → Carry (f v) (g w)
  unfolding Kept
  each_kept v w h = subst (λ z. Carry (f v) (g z)) h.1 (each v h.0)

  pub list_kept : (a : Settings) (size : Size) (mark : Bool) (v : Value) → in_elements K v ≡ false →
      Carry (As (λ vs. elements (as_values vs)) (Counted a size mark list_items f) v) (As (λ vs. elements (as_values vs)) (Counted a size mark list_items g) v)
  list_kept a size mark v m = lengthy_as Kept (λ vs. elements (as_values vs)) (λ vs. elements (as_values vs)) f g each_kept a size mark v v
      (λ vs i. (vs, i, zip_kept vs (subst (λ l. any_of K l ≡ false) (values-as_values vs) (subst (λ z. in_elements K z ≡ false) i m))))

  pub bag_kept : (a : Settings) (size : Size) (mark : Bool) (v : Value) → in_elements K v ≡ false → Carry (As bag_of (Counted a size mark list_items f) v) (As bag_of (Counted a size mark list_items g) v)
  unfolding bag_of
  bag_kept a size mark v m = lengthy_as Kept bag_of bag_of f g each_kept a size mark v v
      (λ vs i.
      let sort : List Value = sorted (λ v w. before (code v) (code w)) vs in
      let m' : any_of K sort ≡ false = subst (λ l. any_of K l ≡ false) (values-as_values sort) (subst (λ z. in_elements K z ≡ false) i m) in
      (vs, i, zip_kept vs (any_in_bag K vs m')))

pub Nothing : Value → Bool
Nothing v = false

none_of : (vs : List Value) → any_of Nothing vs ≡ false
unfolding Nothing
none_of [] = refl
none_of (v ∷ vs) = none_of vs

pub none_in : (v : Value) → in_elements Nothing v ≡ false
none_in (elements vs) = none_of (values vs)
none_in (bag vs) = none_of (values vs)
none_in _ = refl

pub same_cut_tags : {ps qs : Parts} → CutParts ps qs → tags ps ≡ tags qs
same_cut_tags no_cut = refl
same_cut_tags (cut_part {t = t} c cs) = ap (λ l. Schemas.smallest t ∷ l) (same_cut_tags cs)

pub cut_count : {ps qs : Parts} → CutParts ps qs → count ps ≡ count qs
cut_count no_cut = refl
cut_count (cut_part c cs) = ap (λ k. 1 + k) (cut_count cs)

pub on_either : (P : Side → Type 0) → P root → P added → (d : Side) → P d
on_either P x y root = x
on_either P x y added = y

leaf_let : (a : Settings) (u' u : Bool) (s : Schema) → IsLeaf s → (v : Value) → Carry (basic_in a u' s v) (basic_in a u s v)
unfolding basic_in
leaf_let a u' u (Schema.containing e) h v = absurd h
leaf_let a u' u (Schema.list e size mark) h v = absurd h
leaf_let a u' u (Schema.set_of e size mark) h v = absurd h
leaf_let a u' u (Schema.sequence o ps ext adds) h v = absurd h
leaf_let a u' u (Schema.choice ps adds ext) h v = absurd h
leaf_let a u' u s h v = kept

-- down: slots are the same
abbrev pub Equal : SlotRel
Equal x y = x ≡ y

abbrev pub equals : Parts → List SlotRel
equals no_parts = []
equals (part t p s ps) = Equal ∷ equals ps

pub part_equal : (p : Presence) (f g : Value → Spelling) → ((v : Value) → Carry (f v) (g v)) → Leads Equal (record { presence = p; spells = f }) (record { presence = p; spells = g })
part_equal p f g each = record { flags = λ b. kept; left_out = λ x y e k. subst (λ z. IsLeftOut p z) e k; held = λ v y e. (v, sym e, each v) }

pub along_equal : (ps : Parts) (xs : List (Option Value)) → length xs ≡ count ps → Along false (equals ps) xs xs
along_equal no_parts [] l = tt
along_equal no_parts (x ∷ xs) l = absurd (omega arith)
along_equal (part t p s ps) [] l = absurd (omega arith)
along_equal (part t p s ps) (x ∷ xs) l = (refl, along_equal ps xs (omega arith))

mutual
  unfolding basic_in

  pub deeper : (a : Settings) (u' u : Bool) → Lets u' u → {s t : Schema} → CutOf s t → (v : Value) → Carry (basic_in a u' s v) (basic_in a u t v)
  deeper a u' u l cut_here v = record { carry = λ p b x. absurd x }
  deeper a u' u l (alike {s = s} h) v = leaf_let a u' u s h v
  deeper a u' u l (cut_containing c) v = contained_carry a (deeper a u' u l c v)
  deeper a u' u l (cut_list {s = s} {t = t} {size = size} {mark = mark} c) v = list_kept Nothing (basic_in a u' s) (basic_in a u t) (λ w m. deeper a u' u l c w) a size mark v (none_in v)
  deeper a u' u l (cut_set_of {s = s} {t = t} {size = size} {mark = mark} c) v = bag_kept Nothing (basic_in a u' s) (basic_in a u t) (λ w m. deeper a u' u l c w) a size mark v (none_in v)
  deeper a u' u l (cut_sequence {o = o} {ext = ext} {ps = ps} {qs = qs} {adds = adds} {bdds = bdds} c d) v =
      subst (λ ts. Carry (basic_in a u' (Schema.sequence o ps ext adds) v) (As (λ (x : List (Option Value) × List (Option Value)). fields (as_slots x.0) (as_slots x.1))
      (λ x. Record_in a u ext (ordered o ts (rules_in a u qs)) (rules_in a u bdds) (ordered o ts x.0) x.1) v)) (same_cut_tags c)
      (record_as a u' u o (tags ps) ext (equals ps) (rules_in a u' ps) (rules_in a u qs) (rules_in a u' adds) (rules_in a u bdds) (deeper_leads a u' u l c) v v
      (λ x i m n. (x, i, along_equal ps x.0 (m ∙ length-rules-in a u' ps), deeper_additions a u' u l d x.1)))
  deeper a u' u l (cut_choice {ext = ext} {ps = ps} {qs = qs} {adds = adds} {bdds = bdds} c d) v =
      choice_as a ext (rules_in a u' ps) (rules_in a u qs) (rules_in a u' adds) (rules_in a u bdds) (length-rules-in a u' ps ∙ cut_count c ∙ sym (length-rules-in a u qs)) v v
      (λ d' i x h. (x, h, on_either (λ side. Carry (Chosen (rules_on side (rules_in a u' ps) (rules_in a u' adds)) i x) (Chosen (rules_on side (rules_in a u qs) (rules_in a u bdds)) i x)) (deeper_chosen a u' u l c i x) (deeper_chosen a u' u l d i x) d'))

  deeper_leads : (a : Settings) (u' u : Bool) → Lets u' u → {ps qs : Parts} → CutParts ps qs → AllLead false (equals ps) (rules_in a u' ps) (rules_in a u qs)
  deeper_leads a u' u l no_cut = tt
  deeper_leads a u' u l (cut_part {p = p} {s = s} {s' = s'} c cs) = (part_equal p (basic_in a u' s) (basic_in a u s') (deeper a u' u l c), deeper_leads a u' u l cs)

  deeper_additions : (a : Settings) (u' u : Bool) → Lets u' u → {ps qs : Parts} → CutParts ps qs → (xs : List (Option Value)) (bs : List Bool) → Carry (Additions_in a u' (rules_in a u' ps) xs bs) (Additions_in a u (rules_in a u qs) xs bs)
  deeper_additions a u' u l no_cut [] bs = unknown_let a u' u l bs
  deeper_additions a u' u l no_cut (x ∷ xs) bs = record { carry = λ p b x. absurd x }
  deeper_additions a u' u l (cut_part c cs) [] bs = record { carry = λ p b x. absurd x }
  deeper_additions a u' u l (cut_part {p = p} {s = s} {s' = s'} {ps = ps} {ps' = qs} c cs) (x ∷ xs) bs =
      additions_step a u' u Equal (record { presence = p; spells = basic_in a u' s }) (record { presence = p; spells = basic_in a u s' }) (part_equal p (basic_in a u' s) (basic_in a u s') (deeper a u' u l c)) x x refl
      (rules_in a u' ps) (rules_in a u qs) xs xs (deeper_additions a u' u l cs xs) bs

  deeper_chosen : (a : Settings) (u' u : Bool) → Lets u' u → {ps qs : Parts} → CutParts ps qs → (i : ℕ) (v : Value) → Carry (Chosen (rules_in a u' ps) i v) (Chosen (rules_in a u qs) i v)
  deeper_chosen a u' u l no_cut i v = record { carry = λ p b x. absurd x }
  deeper_chosen a u' u l (cut_part c cs) zero v = deeper a u' u l c v
  deeper_chosen a u' u l (cut_part c cs) (suc i) v = deeper_chosen a u' u l cs i v

-- up: where no Cut is met
abbrev Uncut : Schema → SlotRel
Uncut s x y = (slot_meets s x ≡ false) × (x ≡ y)

abbrev uncuts : Parts → List SlotRel
uncuts no_parts = []
uncuts (part t p s ps) = Uncut s ∷ uncuts ps

part_uncut : (p : Presence) (s : Schema) (f g : Value → Spelling) → ((v : Value) → meets_cut s v ≡ false → Carry (f v) (g v)) → Leads (Uncut s) (record { presence = p; spells = f }) (record { presence = p; spells = g })
part_uncut p s f g each = record { flags = λ b. kept; left_out = λ x y e k. subst (λ z. IsLeftOut p z) e.1 k; held = λ v y e. (v, sym e.1, each v e.0) }

along_uncut : (ps : Parts) (xs : List (Option Value)) → length xs ≡ count ps → slots_meet_cut ps xs ≡ false → Along false (uncuts ps) xs xs
unfolding meets_cut
along_uncut no_parts [] l m = tt
along_uncut no_parts (x ∷ xs) l m = absurd (omega arith)
along_uncut (part t p s ps) [] l m = absurd (omega arith)
along_uncut (part t p s ps) (x ∷ xs) l m = let k = slot_meets_not s ps x xs m in ((k.0, refl), along_uncut ps xs (omega arith) k.1)

mutual
  unfolding basic_in meets_cut

  pub shallower : (a : Settings) (u : Bool) {s t : Schema} → CutOf s t → (v : Value) → meets_cut s v ≡ false → Carry (basic_in a u t v) (basic_in a u s v)
  shallower a u cut_here v m = absurd (cc)
  shallower a u (alike h) v m = kept
  shallower a u (cut_containing c) v m = contained_carry a (shallower a u c v m)
  shallower a u (cut_list {s = s} {t = t} {size = size} {mark = mark} c) v m = list_kept (meets_cut s) (basic_in a u t) (basic_in a u s) (λ w m. shallower a u c w m) a size mark v m
  shallower a u (cut_set_of {s = s} {t = t} {size = size} {mark = mark} c) v m = bag_kept (meets_cut s) (basic_in a u t) (basic_in a u s) (λ w m. shallower a u c w m) a size mark v m
  shallower a u (cut_sequence {o = o} {ext = ext} {ps = ps} {qs = qs} {adds = adds} {bdds = bdds} c d) v m =
      subst (λ ts. Carry (basic_in a u (Schema.sequence o qs ext bdds) v) (As (λ (x : List (Option Value) × List (Option Value)). fields (as_slots x.0) (as_slots x.1))
      (λ x. Record_in a u ext (ordered o ts (rules_in a u ps)) (rules_in a u adds) (ordered o ts x.0) x.1) v)) (sym (same_cut_tags c))
      (record_as a u u o (tags qs) ext (uncuts ps) (rules_in a u qs) (rules_in a u ps) (rules_in a u bdds) (rules_in a u adds) (shallower_leads a u c) v v
      (λ x i l n.
      let m' = subst (λ z. meets_cut (Schema.sequence o ps ext adds) z ≡ false) i m in
      let m0 = or_left (slots_meet_cut ps (slots (as_slots x.0))) (slots_meet_cut adds (slots (as_slots x.1))) m' in
      let m1 = or_right (slots_meet_cut ps (slots (as_slots x.0))) (slots_meet_cut adds (slots (as_slots x.1))) m' in (
        x,
        i,
        along_uncut ps x.0 (l ∙ length-rules-in a u qs ∙ sym (cut_count c)) (subst (λ z. slots_meet_cut ps z ≡ false) (slots-as_slots x.0) m0),
        shallower_additions a u d x.1 (subst (λ z. slots_meet_cut adds z ≡ false) (slots-as_slots x.1) m1),
      )))
  shallower a u (cut_choice {ext = ext} {ps = ps} {qs = qs} {adds = adds} {bdds = bdds} c d) v m =
      choice_as a ext (rules_in a u qs) (rules_in a u ps) (rules_in a u bdds) (rules_in a u adds) (length-rules-in a u qs ∙ sym (cut_count c) ∙ sym (length-rules-in a u ps)) v v
      (λ d' i x h. (
        x,
        h,
        on_either (λ side. meets_cut (Schema.choice ps adds ext) (alternative side i x) ≡ false → Carry (Chosen (rules_on side (rules_in a u qs) (rules_in a u bdds)) i x) (Chosen (rules_on side (rules_in a u ps) (rules_in a u adds)) i x))
            (shallower_chosen a u c i x) (shallower_chosen a u d i x) d' (subst (λ z. meets_cut (Schema.choice ps adds ext) z ≡ false) h m),
      ))

  shallower_leads : (a : Settings) (u : Bool) {ps qs : Parts} → CutParts ps qs → AllLead false (uncuts ps) (rules_in a u qs) (rules_in a u ps)
  shallower_leads a u no_cut = tt
  shallower_leads a u (cut_part {p = p} {s = s} {s' = s'} c cs) = (part_uncut p s (basic_in a u s') (basic_in a u s) (shallower a u c), shallower_leads a u cs)

  shallower_additions : (a : Settings) (u : Bool) {ps qs : Parts} → CutParts ps qs → (xs : List (Option Value)) → slots_meet_cut ps xs ≡ false → (bs : List Bool) → Carry (Additions_in a u (rules_in a u qs) xs bs) (Additions_in a u (rules_in a u ps) xs bs)
  shallower_additions a u no_cut xs m bs = kept
  shallower_additions a u (cut_part c cs) [] m bs = record { carry = λ p b x. absurd x }
  shallower_additions a u (cut_part {p = p} {s = s} {s' = s'} {ps = ps} {ps' = qs} c cs) (x ∷ xs) m bs =
      let k = slot_meets_not s ps x xs m in
      additions_step a u u (Uncut s) (record { presence = p; spells = basic_in a u s' }) (record { presence = p; spells = basic_in a u s }) (part_uncut p s (basic_in a u s') (basic_in a u s) (shallower a u c)) x x (k.0, refl)
      (rules_in a u qs) (rules_in a u ps) xs xs (shallower_additions a u cs xs k.1) bs

  shallower_chosen : (a : Settings) (u : Bool) {ps qs : Parts} → CutParts ps qs → (i : ℕ) (v : Value) → meets_cut_at ps i v ≡ false → Carry (Chosen (rules_in a u qs) i v) (Chosen (rules_in a u ps) i v)
  shallower_chosen a u no_cut i v m = kept
  shallower_chosen a u (cut_part c cs) zero v m = shallower a u c v m
  shallower_chosen a u (cut_part c cs) (suc i) v m = shallower_chosen a u cs i v m

-- every tree is itself, cut off nowhere
mutual
  pub uncut : (s : Schema) → CutOf s s
  uncut (Schema.containing e) = cut_containing (uncut e)
  uncut (Schema.list e size mark) = cut_list (uncut e)
  uncut (Schema.set_of e size mark) = cut_set_of (uncut e)
  uncut (Schema.sequence o ps ext adds) = cut_sequence (uncut_parts ps) (uncut_parts adds)
  uncut (Schema.choice ps adds ext) = cut_choice (uncut_parts ps) (uncut_parts adds)
  uncut s = alike tt

  uncut_parts : (ps : Parts) → CutParts ps ps
  uncut_parts no_parts = no_cut
  uncut_parts (part t p s ps) = cut_part (uncut s) (uncut_parts ps)

-- what is spelled without unknown additions is spelled
pub looser : (a : Settings) (s : Schema) (v : Value) → Carry (basic_in a false s v) (basic_in a true s v)
looser a s v = deeper a false true tt (uncut s) v
