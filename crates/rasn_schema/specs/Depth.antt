-- A type of any depth as a family of trees: its schema cut off at each number of levels, and what such a family owes.
use Rattle.std.specs.Prelude.{ℕ, zero, suc, ◌≡◌, Bool, true, false, ◌||◌, List, [], ◌∷◌, Option, Some, None}
use Rattle.rasn_types.specs.Values.{Value, elements, bag, fields, alternative, root, added, values, slots}
use Rattle.rasn_constraints.specs.Bounds.{Size}
use Rattle.rasn_schema.specs.Schemas.{Presence, Order, TagTree, Schema, Parts, no_parts, part}

-- whether a test passes for one of a list
abbrev pub any_of : {A : Type 0} → (A → Bool) → List A → Bool
any_of f [] = false
any_of f (x ∷ xs) = f x || any_of f xs

-- whether a test passes for an element of a list or bag
abbrev pub in_elements : (Value → Bool) → Value → Bool
in_elements f (elements vs) = any_of f (values vs)
in_elements f (bag vs) = any_of f (values vs)
in_elements f _ = false

-- whether a test passes for the root parts or for the additions of a record
abbrev pub in_fields : (List (Option Value) → Bool) → (List (Option Value) → Bool) → Value → Bool
in_fields f g (fields r x) = f (slots r) || g (slots x)
in_fields f g _ = false

-- whether a test passes for the alternative that is chosen
abbrev pub in_alternative : (ℕ → Value → Bool) → (ℕ → Value → Bool) → Value → Bool
in_alternative f g (alternative root i v) = f i v
in_alternative f g (alternative added i v) = g i v
in_alternative f g _ = false

-- whether a test passes for the first part, where it is there, or for the other parts
abbrev pub in_slots : (Value → Bool) → (List (Option Value) → Bool) → List (Option Value) → Bool
in_slots f g [] = false
in_slots f g (None ∷ xs) = g xs
in_slots f g (Some v ∷ xs) = f v || g xs

unfoldable mutual
  -- whether a value meets a branch that is cut off, along its schema
  pub meets_cut : Schema → Value → Bool
  meets_cut Schema.cut = λ v. true
  meets_cut (Schema.containing e) = meets_cut e
  meets_cut (Schema.list e size mark) = in_elements (meets_cut e)
  meets_cut (Schema.set_of e size mark) = in_elements (meets_cut e)
  meets_cut (Schema.sequence o ps ext adds) = in_fields (slots_meet_cut ps) (slots_meet_cut adds)
  meets_cut (Schema.choice ps adds ext) = in_alternative (meets_cut_at ps) (meets_cut_at adds)
  meets_cut _ = λ v. false

  -- whether a record's components meet a branch that is cut off
  pub slots_meet_cut : Parts → List (Option Value) → Bool
  slots_meet_cut no_parts = λ ss. false
  slots_meet_cut (part t p s ps) = in_slots (meets_cut s) (slots_meet_cut ps)

  -- whether the value of the alternative at a place meets a branch that is cut off
  pub meets_cut_at : Parts → ℕ → Value → Bool
  meets_cut_at no_parts = λ i v. false
  meets_cut_at (part t p s ps) = elim [ zero ↦ meets_cut s | suc i ↦ meets_cut_at ps i ]

-- the kinds in which no schema stands
abbrev pub IsLeaf : Schema → Type 0
IsLeaf (Schema.containing e) = ⊥
IsLeaf (Schema.list e size mark) = ⊥
IsLeaf (Schema.set_of e size mark) = ⊥
IsLeaf (Schema.sequence o ps ext adds) = ⊥
IsLeaf (Schema.choice ps adds ext) = ⊥
IsLeaf _ = Unit {0}

mutual
  -- the first schema is the second with branches cut off
  pub data CutOf : Schema → Schema → Type 0 where
    cut_here : {t : Schema} → CutOf Schema.cut t
    alike : {s : Schema} → IsLeaf s → CutOf s s
    cut_containing : {s t : Schema} → CutOf s t → CutOf (Schema.containing s) (Schema.containing t)
    cut_list : {s t : Schema} {size : Size} {mark : Bool} → CutOf s t
        → CutOf (Schema.list s size mark) (Schema.list t size mark)
    cut_set_of : {s t : Schema} {size : Size} {mark : Bool} → CutOf s t
        → CutOf (Schema.set_of s size mark) (Schema.set_of t size mark)
    cut_sequence : {o : Order} {ext : Bool} {ps qs adds bdds : Parts} → CutParts ps qs → CutParts adds bdds
        → CutOf (Schema.sequence o ps ext adds) (Schema.sequence o qs ext bdds)
    cut_choice : {ext : Bool} {ps qs adds bdds : Parts} → CutParts ps qs → CutParts adds bdds
        → CutOf (Schema.choice ps adds ext) (Schema.choice qs bdds ext)

  -- the first parts, additions or alternatives are the second ones with branches cut off
  pub data CutParts : Parts → Parts → Type 0 where
    no_cut : CutParts no_parts no_parts
    cut_part : {t : TagTree} {p : Presence} {s s' : Schema} {ps ps' : Parts} → CutOf s s' → CutParts ps ps'
        → CutParts (part t p s ps) (part t p s' ps')

-- what a type's family of trees owes: each tree is the next one cut off, and every value is met whole by some tree
pub record Unfolds (at : ℕ → Schema) : Type 0 where
  pub grows : (n : ℕ) → CutOf (at n) (at (suc n))
  pub holds : (v : Value) → (n : ℕ) × (meets_cut (at n) v ≡ false)
