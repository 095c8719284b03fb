-- How what is read of a SET follows from what each call reads of a component, over any decoder.
use Rattle.std.proofs.Common.{◌≡◌, refl, sym, ap, subst, ◌∙◌, ◌⊎◌, inl, inr, ℕ, ◌+◌, true, false, List, [], ◌∷◌, ◌++◌, map, append_assoc, append-nil, Result, Ok, Err, Option, Some, None}
use Rattle.rasn_types.specs.Values.{Value}
use Rattle.rasn_types.specs.declared.types.Tag.{Tag}
use Rattle.rasn_schema.specs.Fields.{Shape, is_not_required, presence_of, shape_of}
use Rattle.rasn_schema.specs.declared.fields.Field.{Field}
use Rattle.rasn_schema.specs.Schemas.{TagTree, Presence, required, optional, group, default, Schema, Parts, no_parts, part}
use Rattle.rasn_traits.specs.AdditionsRead.{FaultyAddition, FaultyAdditions, ReadsAddition, ReadsAdditions, reads_further, reads_no_more}
use Rattle.rasn_traits.specs.Calls.{DecoderRules, DecodesWell, Refuses}
use Rattle.rasn_traits.specs.Presences.{left_out}
use Rattle.rasn_traits.specs.Scopes.{FaultyPart, FaultyParts, faulty_required, ReadsPart, ReadsParts, reads_end, reads_left_out, reads_next, reads_required, reads_there}
use Rattle.rasn_traits.proofs.Optionals.{bit_refused, value_unread}
use Rattle.rasn_traits.proofs.Reading.{addition_reads_well, fails_addition, fails_after, fails_further, fails_part, part_reads_well}
use Rattle.rasn_sets.specs.Components.{Gathers, gathers_end, gathers_gap, gathers_item, ReadsEach}
use Rattle.rasn_sets.specs.Turns.{FailsAfter, after_further, after_here, FailsFieldAfter, after_none, after_room, ReadsFieldAfter, after_kept, FailsField, fails_bit, fails_required, fails_there, FailsRoot, root_after, root_here, Keeps, keeps, KeepsNone, given_none, kept_none, ReadsAfter, after_end, after_next, ReadsField, field_left_out, field_required, field_there, ReadsRoot, root_end, root_next}
use Rattle.rasn_sets.proofs.ItemOrder.{AreFieldsOf, a_field, no_fields, IsFieldOf}

-- a component without a presence bit is required, and what stands for another one where it is left out
must_be : (p : Presence) → is_not_required (presence_of p) ≡ false → p ≡ required
must_be required h = refl
must_be optional h = absurd cc
must_be group h = absurd cc
must_be (default d) h = absurd cc

may_be : (p : Presence) → is_not_required (presence_of p) ≡ true → (d : Option Value) × (left_out p ≡ Some d)
may_be required h = absurd cc
may_be optional h = (None, refl)
may_be group h = (None, refl)
may_be (default d) h = (Some d, refl)

-- what was kept of a component: its item, or none
data Gains {I : Type 0} (place : I → ℕ) (slot : I → Option Value) (i : ℕ) (p : Presence) (xs : List I) (r : Option Value) (ys : List I) : Type 0 where
  gains_item : (x : I) → ys ≡ xs ++ x ∷ [] → place x ≡ i → r ≡ slot x → Gains place slot i p xs r ys
  gains_none : ys ≡ xs → left_out p ≡ Some r → Gains place slot i p xs r ys

required_only : {E S : Type 0} {rules : DecoderRules E S} {c : Schema} {s t : S} {o : Option Value} → ReadsPart rules required c s o t → (v : Value) × rules.spells c s v t
required_only (reads_required {v = v} h) = (v, h)
required_only (reads_there e m h) = absurd cc
required_only (reads_left_out e m) = absurd cc

required_refused : {E S : Type 0} {rules : DecoderRules E S} {c : Schema} {s : S} {e : E} → rules.memory e s ⊎ Refuses (rules.spells c) (rules.fault c) e s
    → rules.memory e s ⊎ Refuses (ReadsPart rules required c) (λ e. FaultyPart rules e required c) e s
required_refused (inl m) = inl m
required_refused (inr r) = inr (record { nothing = λ o t a. let h = required_only a in r.nothing h.0 t h.1; stands = faulty_required r.stands })

module _ {E S I : Type 0} {rules : DecoderRules E S} (L : DecodesWell rules) {ps qs : Parts} {first : ℕ} {place : I → ℕ} {slot : I → Option Value} {inner : ℕ}
    {gives : S → ℕ → Tag → Result I E → S → Type 0} (each : ReadsEach rules ps qs first place slot inner gives) where
  -- an item of a root component
  item_read : {k : TagTree} {p : Presence} {c : Schema} (f : Field) (s : S) (xs : List I) (t : S) (ys : List I) → IsFieldOf ps (shape_of f) k p c → rules.levels s ≡ inner
      → Keeps gives f.index f.tag s xs t ys → (x : I) × (ys ≡ xs ++ x ∷ []) × (place x ≡ f.index) × (v : Value) × (slot x ≡ Some v) × rules.spells c s v t
  item_read {k} {p} {c} f s xs t ys is l (keeps x h e) = let a = each.root f.index k p c s f.tag (Ok x) t is.stands l is.tag h in (x, e, a.0, a.1, a.2, a.3)

  item_refused : {k : TagTree} {p : Presence} {c : Schema} (f : Field) (s : S) (e : E) → IsFieldOf ps (shape_of f) k p c → rules.levels s ≡ inner
      → KeepsNone rules gives e f.index f.tag s → rules.memory e s ⊎ Refuses (rules.spells c) (rules.fault c) e s
  item_refused {k} {p} {c} f s e is l (given_none t h) = each.root f.index k p c s f.tag (Err e) t is.stands l is.tag h
  item_refused {k} {p} {c} f s e is l (kept_none x m h r) =
      let a = each.root f.index k p c s f.tag (Ok x) m is.stands l is.tag h in inl ((L.spelled c).room s a.1 m e a.3 r)

  -- a root component
  one_read : {k : TagTree} {p : Presence} {c : Schema} (f : Field) (s : S) (xs : List I) (t : S) (ys : List I) → IsFieldOf ps (shape_of f) k p c → rules.levels s ≡ inner
      → ReadsField rules gives f s xs t ys → (r : Option Value) × ReadsPart rules p c s r t × Gains place slot f.index p xs r ys
  one_read {k} {p} {c} f s xs t ys is l (field_required h a) =
      let q = item_read f s xs t ys is l a in
      let e = must_be p (ap is_not_required (sym is.presence) ∙ h) in
      (Some q.3, subst (λ z. ReadsPart rules z c s (Some q.3) t) (sym e) (reads_required q.5), gains_item q.0 q.1 q.2 (sym q.4))
  one_read {k} {p} {c} f s xs t ys is l (field_there m h b a) =
      let q = item_read f m xs t ys is (L.marked.level s true m b ∙ l) a in
      let d = may_be p (ap is_not_required (sym is.presence) ∙ h) in
      (Some q.3, reads_there d.1 b q.5, gains_item q.0 q.1 q.2 (sym q.4))
  one_read {k} {p} {c} f s xs t ys is l (field_left_out h b e) =
      let d = may_be p (ap is_not_required (sym is.presence) ∙ h) in (d.0, reads_left_out d.1 b, gains_none e d.1)

  one_refused : {k : TagTree} {p : Presence} {c : Schema} (f : Field) (s : S) (e : E) → IsFieldOf ps (shape_of f) k p c → rules.levels s ≡ inner
      → FailsField rules gives e f s → rules.memory e s ⊎ Refuses (ReadsPart rules p c) (λ e. FaultyPart rules e p c) e s
  one_refused {k} {p} {c} f s e is l (fails_required h a) =
      let q = must_be p (ap is_not_required (sym is.presence) ∙ h) in
      subst (λ z. rules.memory e s ⊎ Refuses (ReadsPart rules z c) (λ e. FaultyPart rules e z c) e s) (sym q) (required_refused (item_refused f s e is l a))
  one_refused {k} {p} {c} f s e is l (fails_there m h b a) =
      let d = may_be p (ap is_not_required (sym is.presence) ∙ h) in value_unread L d.1 b (item_refused f m e is (L.marked.level s true m b ∙ l) a)
  one_refused {k} {p} {c} f s e is l (fails_bit h r) = let d = may_be p (ap is_not_required (sym is.presence) ∙ h) in bit_refused d.1 (inr r)

  -- what was read of root components, and kept of them
  pub record RootGathered (fs : List Shape) (cs : Parts) (s : S) (xs : List I) (t : S) (ys : List I) : Type 0 where
    pub items : List I
    pub slots : List (Option Value)
    pub behind : ys ≡ xs ++ items
    pub gathered : Gathers place slot fs cs items slots
    pub read : ReadsParts rules cs s slots t
    pub level : rules.levels t ≡ inner

  gather_next : {f : Shape} {fs : List Shape} {k : TagTree} {p : Presence} {c : Schema} {cs : Parts} {s m t : S} {xs ws ys : List I} (r : Option Value) → ReadsPart rules p c s r m
      → Gains place slot f.index p xs r ws → RootGathered fs cs m ws t ys → RootGathered (f ∷ fs) (part k p c cs) s xs t ys
  gather_next {p = p} {c = c} {s = s} {m = m} {xs = xs} r a (gains_item x e n w) q = record {
    items = x ∷ q.items;
    slots = slot x ∷ q.slots;
    behind = q.behind ∙ ap (λ z. z ++ q.items) e ∙ append_assoc xs (x ∷ []) q.items;
    gathered = gathers_item n q.gathered;
    read = reads_next (subst (λ z. ReadsPart rules p c s z m) w a) q.read;
    level = q.level;
  }
  gather_next r a (gains_none e d) q = record {
    items = q.items;
    slots = r ∷ q.slots;
    behind = q.behind ∙ ap (λ z. z ++ q.items) e;
    gathered = gathers_gap d q.gathered;
    read = reads_next a q.read;
    level = q.level;
  }

  -- root components in turn
  pub root_read : (fs : List Field) (cs : Parts) (s : S) (xs : List I) (t : S) (ys : List I) → AreFieldsOf ps (map shape_of fs) cs → rules.levels s ≡ inner
      → ReadsRoot rules gives fs s xs t ys → RootGathered (map shape_of fs) cs s xs t ys
  root_read [] no_parts s xs t ys no_fields l root_end = record {
    items = [];
    slots = [];
    behind = sym (append-nil xs);
    gathered = gathers_end;
    read = reads_end;
    level = l;
  }
  root_read [] (part k p c cs) s xs t ys js l h = elim js [ ]
  root_read (f ∷ fs) no_parts s xs t ys js l h = elim js [ ]
  root_read (f ∷ fs) (part k p c cs) s xs t ys (a_field is js) l (root_next {m = m} {ws = ws} a b) =
      let o = one_read f s xs m ws is l a in
      gather_next o.0 o.1 o.2 (root_read fs cs m ws t ys js ((part_reads_well L p c).level s o.0 m o.1 ∙ l) b)

  pub root_refused : (fs : List Field) (cs : Parts) (s : S) (e : E) → AreFieldsOf ps (map shape_of fs) cs → rules.levels s ≡ inner
      → FailsRoot rules gives e fs s → rules.memory e s ⊎ Refuses (ReadsParts rules cs) (λ e. FaultyParts rules e cs) e s
  root_refused [] cs s e js l h = elim h [ ]
  root_refused (f ∷ fs) no_parts s e js l h = elim js [ ]
  root_refused (f ∷ fs) (part k p c cs) s e (a_field is js) l (root_here a) = fails_part L (one_refused f s e is l a)
  root_refused (f ∷ fs) (part k p c cs) s e (a_field is js) l (root_after {m = m} {xs = xs} {ws = ws} a b) =
      let o = one_read f s xs m ws is l a in
      fails_after L o.1 (root_refused fs cs m e js ((part_reads_well L p c).level s o.0 m o.1 ∙ l) b)

  -- an addition
  addition_read : {k : TagTree} {p : Presence} {c : Schema} (f : Field) (s : S) (xs : List I) (t : S) (ys : List I) → IsFieldOf qs (shape_of f) k p c → rules.levels s ≡ inner
      → ReadsFieldAfter gives first f s xs t ys → (x : I) × (ys ≡ xs ++ x ∷ []) × (place x ≡ first + f.index) × ReadsAddition rules p c s (slot x) t
  addition_read {k} {p} {c} f s xs t ys is l (after_kept (keeps x h e)) = let a = each.behind f.index k p c s f.tag (Ok x) t is.stands l is.tag h in (x, e, a.0, a.1)

  addition_refused : {k : TagTree} {p : Presence} {c : Schema} (f : Field) (s : S) (e : E) → IsFieldOf qs (shape_of f) k p c → rules.levels s ≡ inner
      → FailsFieldAfter rules gives e first f s → rules.memory e s ⊎ Refuses (ReadsAddition rules p c) (λ e. FaultyAddition rules e k p c) e s
  addition_refused {k} {p} {c} f s e is l (after_none (given_none t h)) = each.behind f.index k p c s f.tag (Err e) t is.stands l is.tag h
  addition_refused {k} {p} {c} f s e is l (after_room r) = inl r
  addition_refused {k} {p} {c} f s e is l (after_none (kept_none x m h r)) =
      let a = each.behind f.index k p c s f.tag (Ok x) m is.stands l is.tag h in inl ((addition_reads_well L p c).room s (slot x) m e a.1 r)

  -- what was read of additions, and kept of them
  pub record AfterGathered (fs : List Shape) (cs : Parts) (s : S) (xs : List I) (t : S) (ys : List I) : Type 0 where
    pub items : List I
    pub behind : ys ≡ xs ++ items
    pub places : map place items ≡ map (λ (f : Shape). first + f.index) fs
    pub read : ReadsAdditions rules cs s (map slot items) t

  -- additions in turn
  pub after_read : (fs : List Field) (cs : Parts) (s : S) (xs : List I) (t : S) (ys : List I) → AreFieldsOf qs (map shape_of fs) cs → rules.levels s ≡ inner
      → ReadsAfter gives first fs s xs t ys → AfterGathered (map shape_of fs) cs s xs t ys
  after_read [] no_parts s xs t ys no_fields l after_end = record {
    items = [];
    behind = sym (append-nil xs);
    places = refl;
    read = reads_no_more;
  }
  after_read [] (part k p c cs) s xs t ys js l h = elim js [ ]
  after_read (f ∷ fs) no_parts s xs t ys js l h = elim js [ ]
  after_read (f ∷ fs) (part k p c cs) s xs t ys (a_field is js) l (after_next {m = m} {ws = ws} a b) =
      let o = addition_read f s xs m ws is l a in
      let q = after_read fs cs m ws t ys js ((addition_reads_well L p c).level s (slot o.0) m o.3 ∙ l) b in
      record {
        items = o.0 ∷ q.items;
        behind = q.behind ∙ ap (λ z. z ++ q.items) o.1 ∙ append_assoc xs (o.0 ∷ []) q.items;
        places = rw (o.2, q.places) refl;
        read = reads_further o.3 q.read;
      }

  pub after_refused : (fs : List Field) (cs : Parts) (s : S) (e : E) → AreFieldsOf qs (map shape_of fs) cs → rules.levels s ≡ inner
      → FailsAfter rules gives e first fs s → rules.memory e s ⊎ Refuses (ReadsAdditions rules cs) (λ e. FaultyAdditions rules e cs) e s
  after_refused [] cs s e js l h = elim h [ ]
  after_refused (f ∷ fs) no_parts s e js l h = elim js [ ]
  after_refused (f ∷ fs) (part k p c cs) s e (a_field is js) l (after_here a) = fails_addition L (addition_refused f s e is l a)
  after_refused (f ∷ fs) (part k p c cs) s e (a_field is js) l (after_further {m = m} {xs = xs} {ws = ws} a b) =
      let o = addition_read f s xs m ws is l a in
      fails_further L o.3 (after_refused fs cs m e js ((addition_reads_well L p c).level s (slot o.0) m o.3 ∙ l) b)
