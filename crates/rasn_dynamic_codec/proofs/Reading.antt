-- How the law of components, or of additions, that are read in turn follows from that of each, over any decoder.
use Rattle.std.proofs.Common.{◌≡◌, refl, sym, ap, ◌∙◌, subst, ℕ, suc, ◌+◌, ◌<◌, ◌≤◌, ◌⊎◌, inl, inr, Bool, true, false, Result, Ok, Err, List, [], ◌∷◌, ◌++◌, map, length, drop, get_or, Option, Some, None, append-nil}
use Rattle.std.specs.Prelude.{IfOk, is_some}
use Rattle.std.proofs.lemmas.List.{drop_more, drop_all}
use Rattle.rasn_types.specs.Values.{Value as Content}
use Rattle.rasn_schema.specs.Structures.{field_tag, tag_of}
use Rattle.rasn_schema.specs.Schemas
use Rattle.rasn_schema.specs.Schemas.{leaf, no_parts, Parts, part, required, Schema, TagTree}
use Rattle.rasn_traits.specs.AdditionsRead.{AdditionOpenedToRead, AdditionsWell, FaultyAddition, FaultyAdditions, ReadsAddition, reads_added, ReadsAdditions, reads_further, reads_lacking, reads_no_more, ReadsNoAddition}
use Rattle.rasn_traits.specs.Calls.{Answers, DecoderRules, DecodesWell, ReadsWell, Refuses}
use Rattle.rasn_traits.specs.Boxes.{Held}
use Rattle.rasn_traits.specs.Contents.{ContentsWell, OpenedContentsToRead}
use Rattle.rasn_traits.specs.Presences.{left_out}
use Rattle.rasn_traits.specs.Scopes.{FaultyPart, FaultyParts, faulty_required, ReadsPart, ReadsParts, reads_end, reads_left_out, reads_next, reads_required, reads_there}
use Rattle.rasn_traits.proofs.Reading.{addition_lacks, addition_reads_well, fails_addition, fails_after, fails_further, fails_part, part_reads_well}
use Rattle.rasn_dynamic.specs.declared.types.Component.{Component}
use Rattle.rasn_dynamic.specs.declared.types.Kind.{Kind}
use Rattle.rasn_dynamic.specs.declared.types.Presence.{Presence}
use Rattle.rasn_dynamic.specs.declared.types.Presence.TheVariants.{Optional, Required}
use Rattle.rasn_dynamic.specs.declared.values.Value.{Value}
use Rattle.rasn_dynamic_codec.specs.Reads.{ReadsValue}
use Rattle.rasn_dynamic.specs.Types.{grouped, in_root, parts_at, presence_of, schema_at}
use Rattle.rasn_dynamic.specs.Values.{slot_of, value_of}

slots_push : (xs : List Value) (v : Value) (rs : List (Option Content)) → map slot_of (xs ++ v ∷ []) ++ rs ≡ map slot_of xs ++ slot_of v ∷ rs
slots_push [] v rs = refl
slots_push (x ∷ xs) v rs = ap (λ ss. slot_of x ∷ ss) (slots_push xs v rs)

module _ {E S : Type 0} (rules : DecoderRules E S) where
  -- What is read in turn: components, or additions.
  pub record ReadTurns : Type 1 where
    -- which may be groups
    pub groups : Component → Bool
    pub one : TagTree → Schemas.Presence → Schema → S → Option Content → S → Type 0
    pub faulty_one : E → TagTree → Schemas.Presence → Schema → S → Type 0
    pub all : Parts → S → List (Option Content) → S → Type 0
    pub faulty : E → Parts → S → Type 0
    pub well : (k : TagTree) (p : Schemas.Presence) (c : Schema) → ReadsWell rules (one k p c)
    pub end : (s : S) → all no_parts s [] s
    pub next : (k : TagTree) (p : Schemas.Presence) (c : Schema) (ps : Parts) (s m t : S) (r : Option Content) (rs : List (Option Content)) → one k p c s r m → all ps m rs t → all (part k p c ps) s (r ∷ rs) t
    pub fails_here : (k : TagTree) (p : Schemas.Presence) (c : Schema) (ps : Parts) (s : S) (e : E) → rules.memory e s ⊎ Refuses (one k p c) (λ e. faulty_one e k p c) e s → rules.memory e s ⊎ Refuses (all (part k p c ps)) (λ e. faulty e (part k p c ps)) e s
    pub fails_next : (k : TagTree) (p : Schemas.Presence) (c : Schema) (ps : Parts) (s m : S) (r : Option Content) (e : E) → one k p c s r m → rules.memory e m ⊎ Refuses (all ps) (λ e. faulty e ps) e m
        → rules.memory e s ⊎ Refuses (all (part k p c ps)) (λ e. faulty e (part k p c ps)) e s

  abbrev pub read_components : DecodesWell rules → ReadTurns
  read_components L = record {
    groups = in_root;
    one = λ k. ReadsPart rules;
    faulty_one = λ e k. FaultyPart rules e;
    all = ReadsParts rules;
    faulty = FaultyParts rules;
    well = λ k p c. part_reads_well L p c;
    end = λ s. reads_end;
    next = λ k p c ps s m t r rs a b. reads_next a b;
    fails_here = λ k p c ps s e q. fails_part L q;
    fails_next = λ k p c ps s m r e a q. fails_after L a q;
  }

  abbrev pub read_additions : DecodesWell rules → List Kind → ReadTurns
  read_additions L ts = record {
    groups = grouped ts;
    one = λ k. ReadsAddition rules;
    faulty_one = λ e k p. FaultyAddition rules e k p;
    all = ReadsAdditions rules;
    faulty = FaultyAdditions rules;
    well = λ k p c. addition_reads_well L p c;
    end = λ s. reads_no_more;
    next = λ k p c ps s m t r rs a b. reads_further a b;
    fails_here = λ k p c ps s e q. fails_addition L q;
    fails_next = λ k p c ps s m r e a q. fails_further L a q;
  }

  module _ (T : ReadTurns) where
    -- components aren't read
    abbrev pub Fails : Parts → E → S → Type 0
    Fails ps e s = rules.memory e s ⊎ Refuses (T.all ps) (λ e. T.faulty e ps) e s

    -- What is read of the components from a place on is read of all, after what was read.
    pub record OnwardRead (ts : List Kind) (cs : List Component) (s : S) (i : ℕ) (xs : List Value) (y : S) : Type 0 where
      pub level : rules.levels y ≡ rules.levels s
      pub at : (rs : List (Option Content)) (t : S) → T.all (parts_at T.groups ts (drop i cs) (rules.levels s)) y rs t → T.all (parts_at T.groups ts cs (rules.levels s)) s (map slot_of xs ++ rs) t
      pub fail : (e : E) → Fails (parts_at T.groups ts (drop i cs) (rules.levels s)) e y → Fails (parts_at T.groups ts cs (rules.levels s)) e s
      pub kept : rules.codec y ≡ rules.codec s

    module _ {ts : List Kind} {cs : List Component} {s : S} {i : ℕ} {xs : List Value} {y : S} (h : OnwardRead ts cs s i xs y) where
      module _ (d : Component) (l : i < length cs) (ed : d ≡ get_or cs i d) where
        components_at : drop i cs ≡ d ∷ drop (i + 1) cs
        components_at = drop_more cs i d l ∙ ap (λ e. e ∷ drop (i + 1) cs) (sym ed)

        abbrev pub tree : TagTree
        tree = leaf (tag_of d.tag)

        abbrev pub presence : Schemas.Presence
        presence = presence_of (T.groups d) d.presence

        abbrev pub of : ℕ → Schema
        of = schema_at ts d.of

        -- a component is not read
        pub onward_fails : (e : E) → rules.memory e y ⊎ Refuses (T.one tree presence (of (rules.levels y))) (λ e. T.faulty_one e tree presence (of (rules.levels y))) e y
            → Fails (parts_at T.groups ts cs (rules.levels s)) e s
        onward_fails e q = (rw components_at at (h.fail e)) (T.fails_here tree presence (of (rules.levels s)) (parts_at T.groups ts (drop (i + 1) cs) (rules.levels s)) y e (rw h.level at q))

        -- a component is read
        pub onward_read : (v : Value) (m : S) → T.one tree presence (of (rules.levels y)) y (slot_of v) m → rules.codec m ≡ rules.codec y
            → OnwardRead ts cs s (i + 1) (xs ++ v ∷ []) m
        onward_read v m a k =
            let b = rw h.level at a in
            let ps = parts_at T.groups ts (drop (i + 1) cs) (rules.levels s) in record {
              level = (T.well tree presence (of (rules.levels s))).level y (slot_of v) m b ∙ h.level;
              at = λ rs t r. rw slots_push ((rw components_at at h.at) (slot_of v ∷ rs) t (T.next tree presence (of (rules.levels s)) ps y m t (slot_of v) rs b r));
              fail = λ e q. (rw components_at at (h.fail e)) (T.fails_next tree presence (of (rules.levels s)) ps y m (slot_of v) e b q);
              kept = k ∙ h.kept;
            }

      -- memory ran out
      pub onward_room : (e : E) → rules.memory e y → Fails (parts_at T.groups ts cs (rules.levels s)) e s
      onward_room e m = h.fail e (inl m)

      -- all components are read
      pub onward_all : length cs ≤ i → T.all (parts_at T.groups ts cs (rules.levels s)) s (map slot_of xs) y
      onward_all l = rw append-nil at (h.at [] y (none (drop i cs) (drop_all i cs l)))
        where
          none : (ds : List Component) → ds ≡ [] → T.all (parts_at T.groups ts ds (rules.levels s)) y [] y
          none [] e = T.end y
          none (d ∷ ds) e = absurd (cc)

module _ {E S : Type 0} {rules : DecoderRules E S} where
  -- a value of the same schema
  pub reads_same : (c d : Schema) (s : S) (r : Result Value E) (t : S) → c ≡ d → ReadsValue rules d s r t → ReadsValue rules c s r t
  reads_same c d s r t e h = rw e h

  of_required : {c : Schema} {s t : S} {x : Option Content} → ReadsPart rules required c s x t → (v : Content) × (x ≡ Some v) × rules.spells c s v t
  of_required (reads_required {v = v} h) = (v, refl, h)
  of_required (reads_there e m h) = absurd cc
  of_required (reads_left_out e m) = absurd cc

-- a required component
pub required_taken : {E S : Type 0} (rules : DecoderRules E S) (c : Schema) (s : S) (r : Result Value E) (t : S) → Answers rules.memory (rules.fault c) (rules.spells c) value_of s r t
    → Answers rules.memory (λ e. FaultyPart rules e required c) (ReadsPart rules required c) (λ v. Some (value_of v)) s r t
required_taken rules c s (Ok v) t h = reads_required h
required_taken rules c s (Err e) t (inl m) = inl m
required_taken rules c s (Err e) t (inr r) = inr (record { nothing = λ o u a. let q = of_required a in r.nothing q.0 u q.2; stands = faulty_required r.stands })

-- what is there is a component's value
pub slotted : {E S : Type 0} (memory fault : E → S → Type 0) (R : S → Option Content → S → Type 0) (s : S) (r : Result Value E) (t : S) → IfOk r (λ v. slot_of v ≡ Some (value_of v)) → Answers memory fault R (λ v. Some (value_of v)) s r t
    → Answers memory fault R slot_of s r t
slotted memory fault R s (Ok v) t e a = rw e a
slotted memory fault R s (Err x) t e a = a

-- nothing is there
pub none_given : {E S : Type 0} (rules : DecoderRules E S) (c : Schema) (s : S) (o : Option Content) (t : S) → false ≡ is_some o → rules.adds c s o t → rules.adds c s None t
none_given rules c s None t e h = h
none_given rules c s (Some v) t e h = absurd (cc)

module _ {E S : Type 0} {rules : DecoderRules E S} where
  -- an addition that is there
  pub given_read : (p : Schemas.Presence) (c : Schema) (s : S) (o : Option Content) (t : S) → true ≡ is_some o → rules.adds c s o t → ReadsAddition rules p c s o t
  given_read p c s None t e h = absurd (cc)
  given_read p c s (Some v) t e h = reads_added h

  -- one that isn't
  pub lacking_read : (p : Schemas.Presence) (c : Schema) (s : S) (o : Option Content) (t : S) → left_out p ≡ Some None → false ≡ is_some o → rules.adds c s o t → ReadsAddition rules p c s o t
  lacking_read p c s None t f e h = reads_lacking f h
  lacking_read p c s (Some v) t f e h = absurd (cc)

  -- no addition is read
  pub none_opened : (c : Schema) (s : S) (e : E) → rules.memory e s ⊎ ReadsNoAddition rules e s → rules.memory e s ⊎ Refuses (rules.adds c) (rules.misadds c) e s
  none_opened c s e (inl m) = inl m
  none_opened c s e (inr r) = inr (record { nothing = λ x t a. r.nothing c x t a; stands = r.stands c })

  module _ {O : Type 0} {unended : O → E → S → Type 0} {opens closes : S → O → S → Type 0} (L : DecodesWell rules) (A : AdditionsWell rules unended opens closes) where
    -- a value that isn't read in its open type
    pub inside_unread : (c : Schema) (s : S) (o : O) (i : S) (e : E) → opens s o i → rules.memory e i ⊎ Refuses (rules.spells c) (rules.fault c) e i → rules.memory e s ⊎ Refuses (rules.adds c) (rules.misadds c) e s
    inside_unread c s o i e h (inl m) = inl (A.room s o i e h m)
    inside_unread c s o i e h (inr r) = inr (record {
      nothing = λ x t a. let b = A.addition_back c s i t o x h a in r.nothing b.0 b.1 b.3;
      stands = A.in_addition c s o i e h r.stands;
    })

    -- an open type that doesn't end after its value
    pub open_unended : (c : Schema) (s : S) (o : O) (i j : S) (v : Content) (e : E) → opens s o i → rules.spells c i v j → rules.memory e j ⊎ (((u : S) → closes j o u → ⊥) × unended o e j)
        → rules.memory e s ⊎ Refuses (rules.adds c) (rules.misadds c) e s
    open_unended c s o i j v e h a (inl m) = inl (A.room s o i e h ((L.spelled c).room i v j e a m))
    open_unended c s o i j v e h a (inr r) = inr (record {
      nothing = λ x t q. let b = A.addition_back c s i t o x h q in r.0 t (subst (λ z. closes z o t) ((L.spelled c).one i b.0 v b.1 j b.3 a).1 b.4);
      stands = A.at_end c s i j o v e h a r.1;
    })

    -- an open type takes no level
    pub open_level : (s : S) (r : Result (Option O) E) (t : S) → AdditionOpenedToRead rules opens s r t → IfOk r (λ o. rules.levels t ≡ rules.levels s)
    open_level s (Ok (Some o)) t h = A.level s o t h
    open_level s (Ok None) t h = (L.added Schemas.real).level s None t (h Schemas.real)
    open_level s (Err e) t h = tt

  module _ {O : Type 0} {unended : O → E → S → Type 0} {opens closes : S → O → S → Type 0} (L : DecodesWell rules) (K : ContentsWell rules unended opens closes) where
    -- octets that aren't opened
    pub octets_unopened : (c : Schema) (s : S) (e : E) → rules.memory e s ⊎ ((d : Schema) → Refuses (rules.spells (Schemas.containing d)) (rules.fault (Schemas.containing d)) e s)
        → rules.memory e s ⊎ Refuses (rules.spells (Schemas.containing c)) (rules.fault (Schemas.containing c)) e s
    octets_unopened c s e (inl m) = inl m
    octets_unopened c s e (inr r) = inr (r c)

    -- a value that isn't read within octets
    pub contents_unread : (c : Schema) (s : S) (o : O) (i : S) (e : E) → opens s o i → rules.memory e i ⊎ Refuses (rules.spells c) (rules.fault c) e i
        → rules.memory e s ⊎ Refuses (rules.spells (Schemas.containing c)) (rules.fault (Schemas.containing c)) e s
    contents_unread c s o i e h (inl m) = inl (K.room s o i e h m)
    contents_unread c s o i e h (inr r) = inr (record {
      nothing = λ x t a. let b = K.contents_back c s i t o x h a in r.nothing x b.0 b.1;
      stands = K.in_contents c s o i e h r.stands;
    })

    -- octets that don't end after their value
    pub octets_unended : (c : Schema) (s : S) (o : O) (i j : S) (v : Content) (e : E) → opens s o i → rules.spells c i v j → rules.memory e j ⊎ (((u : S) → closes j o u → ⊥) × unended o e j)
        → rules.memory e s ⊎ Refuses (rules.spells (Schemas.containing c)) (rules.fault (Schemas.containing c)) e s
    octets_unended c s o i j v e h a (inl m) = inl (K.room s o i e h ((L.spelled c).room i v j e a m))
    octets_unended c s o i j v e h a (inr r) = inr (record {
      nothing = λ x t q. let b = K.contents_back c s i t o x h q in r.0 t (subst (λ z. closes z o t) ((L.spelled c).one i x v b.0 j b.1 a).1 b.2);
      stands = K.at_end c s i j o v e h a r.1;
    })

    -- octets take no level
    pub octets_level : (s : S) (r : Result O E) (t : S) → OpenedContentsToRead rules opens s r t → IfOk r (λ o. rules.levels t ≡ rules.levels s)
    octets_level s (Ok o) t h = K.level s o t h
    octets_level s (Err e) t h = tt

module _ {E S : Type 0} {rules : DecoderRules E S} (L : DecodesWell rules) (d : Content) where
  -- a default that stands for a component after the presence bit 0
  pub default_taken : (c : Schema) (s m t : S) (r : Result Value E) → rules.marks s false m → Held rules slot_of (Some d) m r t
      → Answers rules.memory (λ e. FaultyPart rules e (Schemas.default d) c) (ReadsPart rules (Schemas.default d) c) slot_of s r t
  default_taken c s m t (Ok v) b h = rw (h.0, h.1) (reads_left_out refl b)
  default_taken c s m t (Err e) b h = inl (L.marked.room s false m e b h)

  -- and for an addition that isn't there
  pub default_added : (k : TagTree) (c : Schema) (s m t : S) (r : Result Value E) → rules.adds c s None m → Held rules slot_of (Some d) m r t
      → Answers rules.memory (λ e. FaultyAddition rules e k (Schemas.default d) c) (ReadsAddition rules (Schemas.default d) c) slot_of s r t
  default_added k c s m t (Ok v) b h = rw (h.0, h.1) (reads_lacking refl b)
  default_added k c s m t (Err e) b h = inl ((L.added c).room s None m e b h)
