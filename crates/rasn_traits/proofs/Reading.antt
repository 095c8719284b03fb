-- How the law of a record follows from those of its components and of its scope, over any decoder.
use Rattle.std.proofs.Common.{◌≡◌, refl, sym, ap, subst, ◌∙◌, ℕ, suc, ◌⊎◌, inl, inr, Bool, true, false, List, [], ◌∷◌, Result, Ok, Err, Option, Some, None}
use Rattle.rasn_types.specs.Values.{Value}
use Rattle.rasn_schema.specs.Structures.{field_tag, extended, record_value}
use Rattle.rasn_schema.specs.Schemas.{TagTree, Presence, required, optional, group, default, listed, Schema, Parts, no_parts, part}
use Rattle.rasn_traits.specs.AdditionsRead.{ReadsAddition, reads_added, reads_lacking, ReadsAdditions, reads_no_more, reads_further, FaultyAddition, faulty_lacking, FaultyAdditions, faulty_addition, faulty_further}
use Rattle.rasn_traits.specs.Calls.{DecoderRules, Reads, Refuses, ReadsWell, DecodesWell}
use Rattle.rasn_traits.specs.Presences.{left_out}
use Rattle.rasn_schema.specs.Records.{record_at, no_additions}
use Rattle.rasn_traits.specs.Scopes.{ReadsPart, reads_required, reads_there, reads_left_out, ReadsParts, reads_end, reads_next, FaultyPart, faulty_required, FaultyParts, faulty_here, faulty_after, ReadsFields, reads_fields, faulty_root, faulty_after_root, ReadsNoFields, AnswersFields, AnswersParts, KeepsCodec, ReadsAround, ScopesWell}

-- how a component was read, which may be absent
pub data Optionally {E S : Type 0} (rules : DecoderRules E S) (p : Presence) (c : Schema) (s : S) (x : Option Value) (t : S) : Type 0 where
  there : {m : S} (v : Value) → x ≡ Some v → rules.marks s true m → rules.spells c m v t → Optionally rules p c s x t
  missing : left_out p ≡ Some x → rules.marks s false t → Optionally rules p c s x t

module _ {E S : Type 0} {rules : DecoderRules E S} where
  required_of : {c : Schema} {s t : S} {x : Option Value} → ReadsPart rules required c s x t → (v : Value) × (x ≡ Some v) × rules.spells c s v t
  required_of (reads_required {v = v} h) = (v, refl, h)
  required_of (reads_there e m h) = absurd cc
  required_of (reads_left_out e m) = absurd cc

  pub optional_of : {p : Presence} {d : Option Value} → left_out p ≡ Some d → {c : Schema} {s t : S} {x : Option Value} → ReadsPart rules p c s x t → Optionally rules p c s x t
  optional_of e (reads_required h) = absurd cc
  optional_of e (reads_there {v = v} f m h) = there v refl m h
  optional_of e (reads_left_out f m) = missing f m

  end_of : {s t : S} {xs : List (Option Value)} → ReadsParts rules no_parts s xs t → (xs ≡ []) × (s ≡ t)
  end_of reads_end = (refl, refl)

  next_of : {k : TagTree} {p : Presence} {c : Schema} {ps : Parts} {s t : S} {xs : List (Option Value)} → ReadsParts rules (part k p c ps) s xs t
      → (y : Option Value) × (ys : List (Option Value)) × (m : S) × (xs ≡ y ∷ ys) × ReadsPart rules p c s y m × ReadsParts rules ps m ys t
  next_of (reads_next {m = m} {r = y} {rs = ys} a b) = (y, ys, m, refl, a, b)

module _ {S E : Type 0} {rules : DecoderRules E S} (L : DecodesWell rules) where
  -- a component that may be absent is read in one way
  optional_one : {p : Presence} {c : Schema} {s t u : S} {x y : Option Value} → Optionally rules p c s x t → Optionally rules p c s y u → (x ≡ y) × (t ≡ u)
  optional_one {c = c} {s} {t} {u} (there {m = m} v e a h) (there {m = n} w f b k) =
      let i = (L.marked.one s true true m n a b).1 in
      let q = (L.spelled c).one n v w t u (subst (λ z. rules.spells c z v t) i h) k in (e ∙ ap Some q.0 ∙ sym f, q.1)
  optional_one {s = s} {u = u} (there {m = m} v e a h) (missing f b) = let i = (L.marked.one s true false m u a b).0 in absurd cc
  optional_one {s = s} {t = t} (missing e a) (there {m = m} w f b k) = let i = (L.marked.one s false true t m a b).0 in absurd cc
  optional_one {s = s} {t = t} {u = u} {x = x} {y = y} (missing e a) (missing f b) = (let i : Some x ≡ Some y = sym e ∙ f in cc, (L.marked.one s false false t u a b).1)

  optional_reads_well : (p : Presence) (d : Option Value) → left_out p ≡ Some d → (c : Schema) → ReadsWell rules (ReadsPart rules p c)
  optional_reads_well p d e c = record {
    one = λ s x y t u a b. optional_one (optional_of e a) (optional_of e b);
    level = λ s x t a. elim (optional_of e a) [ there {m} v f k h ↦ (L.spelled c).level m v t h ∙ L.marked.level s true m k | missing f k ↦ L.marked.level s false t k ];
    begun = λ s x t a. elim (optional_of e a) [ there {m} v f k h ↦ L.marked.begun s true m k | missing f k ↦ L.marked.begun s false t k ];
    left = λ s x t a. elim (optional_of e a) [ there {m} v f k h ↦ (L.spelled c).left m v t h | missing f k ↦ L.marked.left s false t k ];
    room = λ s x t err a o. elim (optional_of e a) [ there {m} v f k h ↦ L.marked.room s true m err k ((L.spelled c).room m v t err h o) | missing f k ↦ L.marked.room s false t err k o ];
  }

  -- a component is read as well as a value
  pub part_reads_well : (p : Presence) (c : Schema) → ReadsWell rules (ReadsPart rules p c)
  part_reads_well required c = record {
    one = λ s x y t u a b. let h = required_of a in let j = required_of b in let q = (L.spelled c).one s h.0 j.0 t u h.2 j.2 in (h.1 ∙ ap Some q.0 ∙ sym j.1, q.1);
    level = λ s x t a. let h = required_of a in (L.spelled c).level s h.0 t h.2;
    begun = λ s x t a. let h = required_of a in (L.spelled c).begun s h.0 t h.2;
    left = λ s x t a. let h = required_of a in (L.spelled c).left s h.0 t h.2;
    room = λ s x t e a. let h = required_of a in (L.spelled c).room s h.0 t e h.2;
  }
  part_reads_well optional c = optional_reads_well optional None refl c
  part_reads_well group c = optional_reads_well group None refl c
  part_reads_well (default d) c = optional_reads_well (default d) (Some d) refl c

  -- a component that is not read
  pub fails_part : {A : Type 0} {p : Presence} {k : TagTree} {c : Schema} {ps : Parts} {s : S} {e : E}
      → A ⊎ Refuses (ReadsPart rules p c) (λ e. FaultyPart rules e p c) e s → A ⊎ Refuses (ReadsParts rules (part k p c ps)) (λ e. FaultyParts rules e (part k p c ps)) e s
  fails_part (inl a) = inl a
  fails_part (inr r) = inr (record {
    nothing = λ xs t a. let q = next_of a in r.nothing q.0 q.2 q.4;
    stands = faulty_here r.stands;
  })

  -- a required component that is not read
  pub fails_required : {A : Type 0} {k : TagTree} {c : Schema} {ps : Parts} {s : S} {e : E}
      → A ⊎ Refuses (rules.spells c) (rules.fault c) e s → A ⊎ Refuses (ReadsParts rules (part k required c ps)) (λ e. FaultyParts rules e (part k required c ps)) e s
  fails_required (inl a) = inl a
  fails_required (inr r) = inr (record {
    nothing = λ xs t a. let q = next_of a in let h = required_of q.4 in r.nothing h.0 q.2 h.2;
    stands = faulty_here (faulty_required r.stands);
  })

  -- a component after one that was read
  pub fails_after : {k : TagTree} {p : Presence} {c : Schema} {ps : Parts} {s m : S} {x : Option Value} {e : E} → ReadsPart rules p c s x m
      → rules.memory e m ⊎ Refuses (ReadsParts rules ps) (λ e. FaultyParts rules e ps) e m
      → rules.memory e s ⊎ Refuses (ReadsParts rules (part k p c ps)) (λ e. FaultyParts rules e (part k p c ps)) e s
  fails_after {p = p} {c = c} {s = s} {m = m} {x = x} {e = e} a (inl h) = inl ((part_reads_well p c).room s x m e a h)
  fails_after {p = p} {c = c} {ps = ps} {s = s} {m = m} {x = x} {e = e} a (inr r) = inr (record {
    nothing = λ xs t b. let q = next_of b in r.nothing q.1 t (subst (λ z. ReadsParts rules ps z q.1 t) ((part_reads_well p c).one s q.0 x q.2 m q.4 a).1 q.5);
    stands = faulty_after a r.stands;
  })

  -- components are read in one way
  pub parts_one : (ps : Parts) (s : S) (xs ys : List (Option Value)) (t u : S) → ReadsParts rules ps s xs t → ReadsParts rules ps s ys u → (xs ≡ ys) × (t ≡ u)
  parts_one no_parts s xs ys t u a b = ((end_of a).0 ∙ sym (end_of b).0, sym (end_of a).1 ∙ (end_of b).1)
  parts_one (part k p c ps) s xs ys t u a b =
      let f = next_of a in
      let g = next_of b in
      let e = (part_reads_well p c).one s f.0 g.0 f.2 g.2 f.4 g.4 in
      let r = parts_one ps g.2 f.1 g.1 t u (subst (λ z. ReadsParts rules ps z f.1 t) e.1 f.5) g.5 in
      (f.3 ∙ ap (λ z. z ∷ f.1) e.0 ∙ ap (λ z. g.0 ∷ z) r.0 ∙ sym g.3, r.1)

  pub parts_left : (ps : Parts) (s : S) (xs : List (Option Value)) (t : S) → rules.failed s ≡ false → ReadsParts rules ps s xs t → rules.failed t ≡ false
  parts_left ps s xs t h reads_end = h
  parts_left ps s xs t h (reads_next {p = p} {c = c} {ps = qs} {m = m} {r = y} {rs = ys} a b) = parts_left qs m ys t ((part_reads_well p c).left s y m a) b

  pub parts_level : (ps : Parts) (s : S) (xs : List (Option Value)) (t : S) → ReadsParts rules ps s xs t → rules.levels t ≡ rules.levels s
  parts_level ps s xs t reads_end = refl
  parts_level ps s xs t (reads_next {p = p} {c = c} {ps = qs} {m = m} {r = y} {rs = ys} a b) = parts_level qs m ys t b ∙ (part_reads_well p c).level s y m a

  pub parts_room : (ps : Parts) (s : S) (xs : List (Option Value)) (t : S) (e : E) → ReadsParts rules ps s xs t → rules.memory e t → rules.memory e s
  parts_room ps s xs t e reads_end h = h
  parts_room ps s xs t e (reads_next {p = p} {c = c} {ps = qs} {m = m} {r = y} {rs = ys} a b) h = (part_reads_well p c).room s y m e a (parts_room qs m ys t e b h)

-- how an addition was read
pub data Additionally {E S : Type 0} (rules : DecoderRules E S) (p : Presence) (c : Schema) (s : S) (x : Option Value) (t : S) : Type 0 where
  given : (v : Value) → x ≡ Some v → rules.adds c s (Some v) t → Additionally rules p c s x t
  lacking : left_out p ≡ Some x → rules.adds c s None t → Additionally rules p c s x t

module _ {E S : Type 0} {rules : DecoderRules E S} where
  pub addition_of : {p : Presence} {c : Schema} {s t : S} {x : Option Value} → ReadsAddition rules p c s x t → Additionally rules p c s x t
  addition_of (reads_added {v = v} h) = given v refl h
  addition_of (reads_lacking e h) = lacking e h

  no_more_of : {s t : S} {xs : List (Option Value)} → ReadsAdditions rules no_parts s xs t → (xs ≡ []) × (s ≡ t)
  no_more_of reads_no_more = (refl, refl)

  further_of : {k : TagTree} {p : Presence} {c : Schema} {ps : Parts} {s t : S} {xs : List (Option Value)} → ReadsAdditions rules (part k p c ps) s xs t
      → (y : Option Value) × (ys : List (Option Value)) × (m : S) × (xs ≡ y ∷ ys) × ReadsAddition rules p c s y m × ReadsAdditions rules ps m ys t
  further_of (reads_further {m = m} {r = y} {rs = ys} a b) = (y, ys, m, refl, a, b)

  fields_of : {ps qs : Parts} {s t : S} {rs xs : List (Option Value)} → ReadsFields rules ps qs s rs xs t → (m : S) × ReadsParts rules ps s rs m × ReadsAdditions rules qs m xs t
  fields_of (reads_fields {m = m} a b) = (m, a, b)

module _ {S E : Type 0} {rules : DecoderRules E S} (L : DecodesWell rules) where
  -- an addition is read in one way
  addition_one : {p : Presence} {c : Schema} {s t u : S} {x y : Option Value} → Additionally rules p c s x t → Additionally rules p c s y u → (x ≡ y) × (t ≡ u)
  addition_one {c = c} {s} {t} {u} (given v e h) (given w f k) = let q = (L.added c).one s (Some v) (Some w) t u h k in (e ∙ q.0 ∙ sym f, q.1)
  addition_one {c = c} {s} {t} {u} (given v e h) (lacking f k) = let i = ((L.added c).one s (Some v) None t u h k).0 in absurd cc
  addition_one {c = c} {s} {t} {u} (lacking e h) (given w f k) = let i = ((L.added c).one s None (Some w) t u h k).0 in absurd cc
  addition_one {c = c} {s} {t} {u} {x} {y} (lacking e h) (lacking f k) = (let i : Some x ≡ Some y = sym e ∙ f in cc, ((L.added c).one s None None t u h k).1)

  -- an addition is read as well as a value
  pub addition_reads_well : (p : Presence) (c : Schema) → ReadsWell rules (ReadsAddition rules p c)
  addition_reads_well p c = record {
    one = λ s x y t u a b. addition_one (addition_of a) (addition_of b);
    level = λ s x t a. elim (addition_of a) [ given v f h ↦ (L.added c).level s (Some v) t h | lacking f h ↦ (L.added c).level s None t h ];
    begun = λ s x t a. elim (addition_of a) [ given v f h ↦ (L.added c).begun s (Some v) t h | lacking f h ↦ (L.added c).begun s None t h ];
    left = λ s x t a. elim (addition_of a) [ given v f h ↦ (L.added c).left s (Some v) t h | lacking f h ↦ (L.added c).left s None t h ];
    room = λ s x t err a o. elim (addition_of a) [ given v f h ↦ (L.added c).room s (Some v) t err h o | lacking f h ↦ (L.added c).room s None t err h o ];
  }

  -- an addition that isn't read
  pub fails_addition : {A : Type 0} {p : Presence} {k : TagTree} {c : Schema} {ps : Parts} {s : S} {e : E}
      → A ⊎ Refuses (ReadsAddition rules p c) (λ e. FaultyAddition rules e k p c) e s → A ⊎ Refuses (ReadsAdditions rules (part k p c ps)) (λ e. FaultyAdditions rules e (part k p c ps)) e s
  fails_addition (inl a) = inl a
  fails_addition (inr r) = inr (record {
    nothing = λ xs t a. let q = further_of a in r.nothing q.0 q.2 q.4;
    stands = faulty_addition r.stands;
  })

  -- an addition after one that was read
  pub fails_further : {k : TagTree} {p : Presence} {c : Schema} {ps : Parts} {s m : S} {x : Option Value} {e : E} → ReadsAddition rules p c s x m
      → rules.memory e m ⊎ Refuses (ReadsAdditions rules ps) (λ e. FaultyAdditions rules e ps) e m
      → rules.memory e s ⊎ Refuses (ReadsAdditions rules (part k p c ps)) (λ e. FaultyAdditions rules e (part k p c ps)) e s
  fails_further {p = p} {c = c} {s = s} {m = m} {x = x} {e = e} a (inl h) = inl ((addition_reads_well p c).room s x m e a h)
  fails_further {p = p} {c = c} {ps = ps} {s = s} {m = m} {x = x} {e = e} a (inr r) = inr (record {
    nothing = λ xs t b. let q = further_of b in r.nothing q.1 t (subst (λ z. ReadsAdditions rules ps z q.1 t) ((addition_reads_well p c).one s q.0 x q.2 m q.4 a).1 q.5);
    stands = faulty_further a r.stands;
  })

  -- a required addition that isn't there
  pub addition_lacks : {k : TagTree} {c : Schema} {s t : S} {e : E} → rules.adds c s None t → rules.lacking (field_tag k) e t
      → Refuses (ReadsAddition rules required c) (λ e. FaultyAddition rules e k required c) e s
  addition_lacks {c = c} {s} {t} h l = record {
    nothing = λ x u a. elim (addition_of a) [ given v f k ↦ (let i = ((L.added c).one s (Some v) None u t k h).0 in absurd cc) | lacking f k ↦ absurd cc ];
    stands = faulty_lacking h l;
  }

  -- additions are read in one way
  pub additions_one : (qs : Parts) (s : S) (xs ys : List (Option Value)) (t u : S) → ReadsAdditions rules qs s xs t → ReadsAdditions rules qs s ys u → (xs ≡ ys) × (t ≡ u)
  additions_one no_parts s xs ys t u a b = ((no_more_of a).0 ∙ sym (no_more_of b).0, sym (no_more_of a).1 ∙ (no_more_of b).1)
  additions_one (part k p c ps) s xs ys t u a b =
      let f = further_of a in
      let g = further_of b in
      let e = (addition_reads_well p c).one s f.0 g.0 f.2 g.2 f.4 g.4 in
      let r = additions_one ps g.2 f.1 g.1 t u (subst (λ z. ReadsAdditions rules ps z f.1 t) e.1 f.5) g.5 in
      (f.3 ∙ ap (λ z. z ∷ f.1) e.0 ∙ ap (λ z. g.0 ∷ z) r.0 ∙ sym g.3, r.1)

  pub additions_left : (qs : Parts) (s : S) (xs : List (Option Value)) (t : S) → rules.failed s ≡ false → ReadsAdditions rules qs s xs t → rules.failed t ≡ false
  additions_left qs s xs t h reads_no_more = h
  additions_left qs s xs t h (reads_further {p = p} {c = c} {ps = ps} {m = m} {r = y} {rs = ys} a b) = additions_left ps m ys t ((addition_reads_well p c).left s y m a) b

  pub additions_room : (qs : Parts) (s : S) (xs : List (Option Value)) (t : S) (e : E) → ReadsAdditions rules qs s xs t → rules.memory e t → rules.memory e s
  additions_room qs s xs t e reads_no_more h = h
  additions_room qs s xs t e (reads_further {p = p} {c = c} {ps = ps} {m = m} {r = y} {rs = ys} a b) h = (addition_reads_well p c).room s y m e a (additions_room ps m ys t e b h)

  -- components are read in one way, root components and additions
  pub fields_one : (ps qs : Parts) (s : S) (rs xs rs' xs' : List (Option Value)) (t u : S) → ReadsFields rules ps qs s rs xs t → ReadsFields rules ps qs s rs' xs' u → t ≡ u
  fields_one ps qs s rs xs rs' xs' t u a b =
      let f = fields_of a in
      let g = fields_of b in
      let e = parts_one L ps s rs rs' f.0 g.0 f.1 g.1 in
      (additions_one qs g.0 xs xs' t u (subst (λ z. ReadsAdditions rules qs z xs t) e.1 f.2) g.2).1

  pub fields_left : (ps qs : Parts) (s : S) (rs xs : List (Option Value)) (t : S) → rules.failed s ≡ false → ReadsFields rules ps qs s rs xs t → rules.failed t ≡ false
  fields_left ps qs s rs xs t h (reads_fields {m = m} a b) = additions_left qs m xs t (parts_left L ps s rs m h a) b

  pub fields_room : (ps qs : Parts) (s : S) (rs xs : List (Option Value)) (t : S) (e : E) → ReadsFields rules ps qs s rs xs t → rules.memory e t → rules.memory e s
  fields_room ps qs s rs xs t e (reads_fields {m = m} a b) h = parts_room L ps s rs m e a (additions_room qs m xs t e b h)

  -- a root component that isn't read
  pub fails_root : {ps qs : Parts} {s : S} {e : E} → rules.memory e s ⊎ Refuses (ReadsParts rules ps) (λ e. FaultyParts rules e ps) e s → rules.memory e s ⊎ ReadsNoFields rules ps qs e s
  fails_root (inl m) = inl m
  fails_root (inr r) = inr (record {
    nothing = λ rs xs t a. let f = fields_of a in r.nothing rs f.0 f.1;
    stands = faulty_root r.stands;
  })

  -- an addition that isn't read, after the root components
  pub fails_after_root : {ps qs : Parts} {s : S} {e : E} (rs : List (Option Value)) (m : S) → ReadsParts rules ps s rs m
      → rules.memory e m ⊎ Refuses (ReadsAdditions rules qs) (λ e. FaultyAdditions rules e qs) e m → rules.memory e s ⊎ ReadsNoFields rules ps qs e s
  fails_after_root {ps} {qs} {s} {e} rs m a (inl h) = inl (parts_room L ps s rs m e a h)
  fails_after_root {ps} {qs} {s} {e} rs m a (inr r) = inr (record {
    nothing = λ rs' xs t b. let f = fields_of b in r.nothing xs t (subst (λ z. ReadsAdditions rules qs z xs t) (parts_one L ps s rs' rs f.0 m f.1 a).1 f.2);
    stands = faulty_after_root a r.stands;
  })

-- a required component, and those after it
pub required_read : {E S : Type 0} {rules : DecoderRules E S} {k : TagTree} {c : Schema} {ps : Parts} {s t : S} {v : Value} {rs : List (Option Value)} (m : S)
    → rules.spells c s v m → ReadsParts rules ps m rs t → ReadsParts rules (part k required c ps) s (Some v ∷ rs) t
required_read m a b = reads_next (reads_required a) b

-- root components, where there are no additions
pub plainly_read : {E S : Type 0} {rules : DecoderRules E S} {ps : Parts} {s t : S} {rs : List (Option Value)} → ReadsParts rules ps s rs t → ReadsFields rules ps no_parts s rs [] t
plainly_read a = reads_fields a reads_no_more

plainly_answered : {E S T : Type 0} {rules : DecoderRules E S} (L : DecodesWell rules) (ps : Parts) (contents : T → List (Option Value)) (s : S) (r : Result T E) (t : S)
    → AnswersParts rules ps contents s r t → AnswersFields rules ps no_parts contents (λ x. []) s r t
plainly_answered L ps contents s (Ok v) t a = plainly_read a
plainly_answered L ps contents s (Err e) t a = fails_root L a

-- a call that read a record by a function that keeps to its components and to the variant
pub read_around : {E S T : Type 0} {rules : DecoderRules E S} (L : DecodesWell rules) {parts : ℕ → Parts} {contents : T → List (Option Value)} {returns : S → Result T E → S → Type 0} {s t : S} {r : Result T E}
    → ReadsAround rules parts false no_additions contents (λ x. []) returns s r t
    → ((a : S) (q : Result T E) (b : S) → returns a q b → AnswersParts rules (parts (rules.levels a)) contents a q b) → KeepsCodec rules.codec returns
    → Reads rules (record_at listed parts false no_additions (rules.levels s)) (λ x. record_value (contents x) []) s r t
read_around {rules = rules} L {parts} {contents} w k c = record {
  law = w.law (record { keeps = λ a q b l z. plainly_answered L (parts (rules.levels a)) contents a q b (k a q b z) });
  behaves = record { again = w.again; fails = w.fails; kept = w.kept c };
}

-- a record, as the calls of a decoder read it
module _ {S O E : Type 0} {rules : DecoderRules E S} {unended : O → E → S → Type 0} {opens : Schema → S → O → S → Type 0} {closes : S → O → S → Type 0}
    (L : DecodesWell rules) (K : ScopesWell rules unended opens closes)
    (parts : ℕ → Parts) (marker : Bool) (additions : ℕ → Parts) {s i : S} {o : O}
    (l : rules.levels s ≡ suc (rules.levels i)) (h : opens (extended (parts (rules.levels i)) marker (additions (rules.levels i))) s o i) where
  as_record : (P : Schema → Type 0) → P (extended (parts (rules.levels i)) marker (additions (rules.levels i))) → P (record_at listed parts marker additions (rules.levels s))
  as_record P q = subst P (sym (ap (record_at listed parts marker additions) l)) q

  pub inside_left : (rs xs : List (Option Value)) (j : S) → ReadsFields rules (parts (rules.levels i)) (additions (rules.levels i)) i rs xs j → rules.failed j ≡ false
  inside_left rs xs j a =
      fields_left L (parts (rules.levels i)) (additions (rules.levels i)) i rs xs j (K.inside (extended (parts (rules.levels i)) marker (additions (rules.levels i))) s o i h) a

  pub record_ended : (rs xs : List (Option Value)) (j t : S) → ReadsFields rules (parts (rules.levels i)) (additions (rules.levels i)) i rs xs j → closes j o t
      → rules.spells (record_at listed parts marker additions (rules.levels s)) s (record_value rs xs) t
  record_ended rs xs j t a b =
      as_record (λ c. rules.spells c s (record_value rs xs) t) (K.record_read (parts (rules.levels i)) marker (additions (rules.levels i)) s i j t o rs xs h a b)

  -- a component that is not read
  pub record_failed : {e : E} → rules.memory e i ⊎ ReadsNoFields rules (parts (rules.levels i)) (additions (rules.levels i)) e i
      → rules.memory e s ⊎ Refuses (rules.spells (record_at listed parts marker additions (rules.levels s))) (rules.fault (record_at listed parts marker additions (rules.levels s))) e s
  record_failed {e} (inl m) = inl (K.room (extended (parts (rules.levels i)) marker (additions (rules.levels i))) s o i e h m)
  record_failed {e} (inr r) = inr (as_record (λ c. Refuses (rules.spells c) (rules.fault c) e s) (record {
    nothing = λ v t q. let k = K.record_back (parts (rules.levels i)) marker (additions (rules.levels i)) s i t o v h q in r.nothing k.0 k.1 k.2 k.3;
    stands = K.in_part (parts (rules.levels i)) marker (additions (rules.levels i)) s o i e h r.stands;
  }))

  -- an end that is not read
  pub record_endless : {e : E} (rs xs : List (Option Value)) (j : S) → ReadsFields rules (parts (rules.levels i)) (additions (rules.levels i)) i rs xs j
      → rules.memory e j ⊎ (((t : S) → closes j o t → ⊥) × unended o e j)
      → rules.memory e s ⊎ Refuses (rules.spells (record_at listed parts marker additions (rules.levels s))) (rules.fault (record_at listed parts marker additions (rules.levels s))) e s
  record_endless {e} rs xs j a (inl m) =
      inl (K.room (extended (parts (rules.levels i)) marker (additions (rules.levels i))) s o i e h (fields_room L (parts (rules.levels i)) (additions (rules.levels i)) i rs xs j e a m))
  record_endless {e} rs xs j a (inr b) = inr (as_record (λ c. Refuses (rules.spells c) (rules.fault c) e s) (record {
    nothing = λ v t q.
        let k = K.record_back (parts (rules.levels i)) marker (additions (rules.levels i)) s i t o v h q in
        b.0 t (subst (λ z. closes z o t) (fields_one L (parts (rules.levels i)) (additions (rules.levels i)) i k.0 k.1 rs xs k.2 j k.3 a) k.4);
    stands = K.at_end (parts (rules.levels i)) marker (additions (rules.levels i)) s i j o rs xs e h a b.1;
  }))

  -- the root components and then the additions, each to the levels left
  pub both_read : (rs xs : List (Option Value)) (m j : S) → ReadsParts rules (parts (rules.levels i)) i rs m → ReadsAdditions rules (additions (rules.levels m)) m xs j
      → ReadsFields rules (parts (rules.levels i)) (additions (rules.levels i)) i rs xs j
  both_read rs xs m j a b = reads_fields a (subst (λ n. ReadsAdditions rules (additions n) m xs j) (parts_level L (parts (rules.levels i)) i rs m a) b)

  -- a root component that is not read
  pub record_root_failed : {e : E} → rules.memory e i ⊎ Refuses (ReadsParts rules (parts (rules.levels i))) (λ e. FaultyParts rules e (parts (rules.levels i))) e i
      → rules.memory e s ⊎ Refuses (rules.spells (record_at listed parts marker additions (rules.levels s))) (rules.fault (record_at listed parts marker additions (rules.levels s))) e s
  record_root_failed r = record_failed (fails_root L r)

  -- an addition that is not read
  pub record_addition_failed : {e : E} (rs : List (Option Value)) (m : S) → ReadsParts rules (parts (rules.levels i)) i rs m
      → rules.memory e m ⊎ Refuses (ReadsAdditions rules (additions (rules.levels m))) (λ e. FaultyAdditions rules e (additions (rules.levels m))) e m
      → rules.memory e s ⊎ Refuses (rules.spells (record_at listed parts marker additions (rules.levels s))) (rules.fault (record_at listed parts marker additions (rules.levels s))) e s
  record_addition_failed {e} rs m a r = record_failed (fails_after_root L rs m a
      (subst (λ n. rules.memory e m ⊎ Refuses (ReadsAdditions rules (additions n)) (λ e. FaultyAdditions rules e (additions n)) e m) (parts_level L (parts (rules.levels i)) i rs m a) r))
