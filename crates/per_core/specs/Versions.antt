-- Versions of a schema after extension markers (ITU-T X.680, 52): which is newer, and what a value of one is in the
-- other.
use Rattle.std.specs.Prelude.{ℕ, zero, suc, ◌≤◌, ◌≡◌, Bool, true, false, if◌then◌else◌, nat_lt, List, [], ◌∷◌, Option}
use Rattle.std.specs.Prelude.{Some, None}
use Rattle.rasn_types.specs.AllOf.{all_of, joined}
use Rattle.rasn_types.specs.Values.{Value, item, elements, bag, bag_of, fields, alternative, root, added, values}
use Rattle.rasn_types.specs.Values.{as_values, slots, as_slots}
use Rattle.rasn_schema.specs.Depth.{meets_cut}
use Rattle.rasn_schema.specs.Normal.{root_of, additions_of}
use Rattle.rasn_constraints.specs.Bounds.{Size}
use Rattle.rasn_schema.specs.Schemas.{Presence, required, optional, group, default, Order, TagTree, Schema, Parts}
use Rattle.rasn_schema.specs.Schemas.{no_parts, part}

-- the schema of a list's or bag's elements, or of a value that is contained
abbrev pub element_of : Schema → Schema
element_of (Schema.containing e) = e
element_of (Schema.list e size mark) = e
element_of (Schema.set_of e size mark) = e
element_of _ = Schema.cut

-- the root alternatives of a choice
abbrev pub alternatives_of : Schema → Parts
alternatives_of (Schema.choice ps adds ext) = ps
alternatives_of _ = no_parts

-- the added alternatives of a choice
abbrev pub added_of : Schema → Parts
added_of (Schema.choice ps adds ext) = adds
added_of _ = no_parts

-- how many added items an enumeration has
abbrev pub items_of : Schema → ℕ
items_of (Schema.items r e ext) = e
items_of _ = 0

-- what is made of a thing, where it is there
abbrev pub made : {A : Type 0} → (A → Value) → Option A → Option Value
made f None = None
made f (Some x) = Some (f x)

-- a record of its root parts and its additions, where both are there
abbrev pub made_both : Option (List (Option Value)) → Option (List (Option Value)) → Option Value
made_both None x = None
made_both (Some r) None = None
made_both (Some r) (Some x) = Some (fields (as_slots r) (as_slots x))

-- each element of a list; none of a value of another kind
abbrev pub through_elements : (Value → Option Value) → Value → Option Value
through_elements f (elements vs) = made (λ ws. elements (as_values ws)) (all_of f (values vs))
through_elements f _ = None

-- each element of a bag, which is sorted anew; none of a value of another kind
abbrev pub through_bag : (Value → Option Value) → Value → Option Value
through_bag f (bag vs) = made bag_of (all_of f (values vs))
through_bag f _ = None

-- the root parts and the additions of a record; none of a value of another kind
abbrev pub through_fields : (List (Option Value) → Option (List (Option Value)))
    → (List (Option Value) → Option (List (Option Value))) → Value → Option Value
through_fields f g (fields r x) = made_both (f (slots r)) (g (slots x))
through_fields f g _ = None

-- the value of the alternative that is chosen; none of a value of another kind
abbrev pub through_alternative : (ℕ → Value → Option Value) → (ℕ → Value → Option Value) → Value → Option Value
through_alternative f g (alternative root i v) = made (alternative root i) (f i v)
through_alternative f g (alternative added i v) = made (alternative added i) (g i v)
through_alternative f g _ = None

-- a root item, or one of the first n added ones; none of a value of another kind
abbrev pub through_item : ℕ → Value → Option Value
through_item n (item root i) = Some (item root i)
through_item n (item added i) = if nat_lt i n then Some (item added i) else None
through_item n _ = None

-- what becomes of a part, which may be absent
abbrev pub slot_through : (Value → Option Value) → Option Value → Option (Option Value)
slot_through f None = Some None
slot_through f (Some v) = elim (f v) [ None ↦ None | Some w ↦ Some (Some w) ]

-- what becomes of the first part and of the others
abbrev pub slots_through : (Value → Option Value) → (List (Option Value) → Option (List (Option Value)))
    → List (Option Value) → Option (List (Option Value))
slots_through f g [] = None
slots_through f g (x ∷ xs) = joined (slot_through f x) (g xs)

unfoldable mutual
  unfolding bag_of

  -- X.680 52: what an older reader sees of a value: additions that it doesn't know are dropped at every depth, and
  -- nothing else changes; none where an alternative or an item stands that it doesn't know. The newer schema comes
  -- first
  pub project : Schema → Schema → Value → Option Value
  project (Schema.containing e) s = project e (element_of s)
  project (Schema.list e size mark) s = through_elements (project e (element_of s))
  project (Schema.set_of e size mark) s = through_bag (project e (element_of s))
  project (Schema.sequence o ps ext adds) s = through_fields (project_slots ps (root_of s))
      (project_slots adds (additions_of s))
  project (Schema.choice ps adds ext) s = through_alternative (project_at ps (alternatives_of s))
      (project_at adds (added_of s))
  project (Schema.items r e ext) s = through_item (items_of s)
  project _ s = Some

  -- what an older reader sees of a record's parts
  pub project_slots : Parts → Parts → List (Option Value) → Option (List (Option Value))
  project_slots no_parts old = λ ss. Some []
  project_slots (part t p s ps) no_parts = λ ss. Some []
  project_slots (part t p s ps) (part t' p' s' ps') = slots_through (project s s') (project_slots ps ps')

  -- what an older reader sees of the value of the alternative at a place
  pub project_at : Parts → Parts → ℕ → Value → Option Value
  project_at no_parts old = λ i v. None
  project_at (part t p s ps) no_parts = λ i v. None
  project_at (part t p s ps) (part t' p' s' ps') = elim [ zero ↦ project s s' | suc i ↦ project_at ps ps' i ]

-- an added part, where an older sender doesn't know it: absent or at its default; none where it is required
abbrev pub filled_in : Presence → Option (Option Value)
filled_in required = None
filled_in optional = Some None
filled_in group = Some None
filled_in (default d) = Some (Some d)

-- all added parts
abbrev pub all_filled_in : Parts → Option (List (Option Value))
all_filled_in no_parts = Some []
all_filled_in (part t p s ps) = joined (filled_in p) (all_filled_in ps)

unfoldable mutual
  unfolding bag_of

  -- X.680 52: what a newer reader sees of a value: every added part is absent or at its default, at every depth; none
  -- where an added part is required. The newer schema comes first
  pub widen : Schema → Schema → Value → Option Value
  widen (Schema.containing e) s = widen e (element_of s)
  widen (Schema.list e size mark) s = through_elements (widen e (element_of s))
  widen (Schema.set_of e size mark) s = through_bag (widen e (element_of s))
  widen (Schema.sequence o ps ext adds) s = through_fields (widen_slots ps (root_of s))
      (widen_slots adds (additions_of s))
  widen (Schema.choice ps adds ext) s = through_alternative (widen_at ps (alternatives_of s))
      (widen_at adds (added_of s))
  widen _ s = Some

  -- what a newer reader sees of a record's parts
  pub widen_slots : Parts → Parts → List (Option Value) → Option (List (Option Value))
  widen_slots no_parts old = λ ss. Some []
  widen_slots (part t p s ps) no_parts = λ ss. all_filled_in (part t p s ps)
  widen_slots (part t p s ps) (part t' p' s' ps') = slots_through (widen s s') (widen_slots ps ps')

  -- what a newer reader sees of the value of the alternative at a place
  pub widen_at : Parts → Parts → ℕ → Value → Option Value
  widen_at no_parts old = λ i v. None
  widen_at (part t p s ps) no_parts = λ i v. None
  widen_at (part t p s ps) (part t' p' s' ps') = elim [ zero ↦ widen s s' | suc i ↦ widen_at ps ps' i ]

-- the kinds in which no schema stands and nothing may be added
abbrev pub IsPlain : Schema → Type 0
IsPlain (Schema.items r e ext) = ext ≡ false
IsPlain (Schema.containing e) = ⊥
IsPlain (Schema.list e size mark) = ⊥
IsPlain (Schema.set_of e size mark) = ⊥
IsPlain (Schema.sequence o ps ext adds) = ⊥
IsPlain (Schema.choice ps adds ext) = ⊥
IsPlain _ = Unit {0}

-- the newer default is the older one as a newer reader sees it, wherever one of the two is whole; and the older default
-- is a value of its schema
pub record IsWidened (s' s : Schema) (d' d : Value) : Type 0 where
  pub there : meets_cut s' d' ≡ false → widen s' s d ≡ Some d'
  pub same : (x : Value) → widen s' s d ≡ Some x → meets_cut s' x ≡ false → x ≡ d'
  pub valid : project s s d ≡ Some d

-- the newer part's schema, the older's, and the presence of each: the same, save that a default is widened
abbrev pub NewerPresence : Schema → Schema → Presence → Presence → Type 0
NewerPresence s' s (default d') (default d) = IsWidened s' s d' d
NewerPresence s' s required required = Unit {0}
NewerPresence s' s optional optional = Unit {0}
NewerPresence s' s group group = Unit {0}
NewerPresence s' s _ _ = ⊥

mutual
  -- X.680 52: the first schema is a newer version of the second: the same tree, in which more additions, alternatives
  -- and items may be after an extension marker
  pub data Newer : Schema → Schema → Type 0 where
    unchanged : {s : Schema} → IsPlain s → Newer s s
    more_items : {r e e' : ℕ} → e ≤ e' → Newer (Schema.items r e' true) (Schema.items r e true)
    newer_containing : {e e' : Schema} → Newer e' e → Newer (Schema.containing e') (Schema.containing e)
    newer_list : {e e' : Schema} {size : Size} {mark : Bool} → Newer e' e
        → Newer (Schema.list e' size mark) (Schema.list e size mark)
    newer_set_of : {e e' : Schema} {size : Size} {mark : Bool} → Newer e' e
        → Newer (Schema.set_of e' size mark) (Schema.set_of e size mark)
    newer_sequence : {o : Order} {ext : Bool} {ps ps' adds adds' : Parts} → NewerParts false ps' ps
        → NewerParts ext adds' adds
        → Newer (Schema.sequence o ps' ext adds') (Schema.sequence o ps ext adds)
    newer_choice : {ext : Bool} {ps ps' adds adds' : Parts} → NewerParts false ps' ps → NewerParts ext adds' adds
        → Newer (Schema.choice ps' adds' ext) (Schema.choice ps adds ext)

  -- the first members are newer versions of the second ones; the truth value says whether some may have been added
  pub data NewerParts : Bool → Parts → Parts → Type 0 where
    no_more : {may : Bool} → NewerParts may no_parts no_parts
    more_parts : {t : TagTree} {p : Presence} {s : Schema} {ps : Parts} → NewerParts true (part t p s ps) no_parts
    also : {may : Bool} {t : TagTree} {p p' : Presence} {s s' : Schema} {ps ps' : Parts} → NewerPresence s' s p' p
        → Newer s' s
        → NewerParts may ps' ps → NewerParts may (part t p' s' ps') (part t p s ps)

-- one type is a newer version of another, at every number of levels
abbrev pub NewerType : (ℕ → Schema) → (ℕ → Schema) → Type 0
NewerType newer older = (n : ℕ) → Newer (newer n) (older n)
