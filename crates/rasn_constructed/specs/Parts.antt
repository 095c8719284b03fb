-- Whether the parts of a record are those of a default, one for one.
use Rattle.std.specs.Prelude.{◌≡◌, ℕ, zero, suc, ◌≤◌, Bool, true, false, ◌&&◌, List, [], ◌∷◌, Option, Some, None}
use Rattle.rasn_types.specs.Values.{Value, same}
use Rattle.rasn_schema.specs.Normal.{normal, normals, settle, root_of}
use Rattle.rasn_schema.specs.Schemas.{Schema, Parts, no_parts, part, Presence, required, group, default}

-- whether two parts of a record are one, each absent or there
abbrev pub same_slot : Option Value → Option Value → Bool
same_slot None None = true
same_slot None (Some w) = false
same_slot (Some v) None = false
same_slot (Some v) (Some w) = same v w

-- whether all are, one for one
abbrev pub same_slots : List (Option Value) → List (Option Value) → Bool
same_slots [] [] = true
same_slots [] (d ∷ ds) = false
same_slots (r ∷ rs) [] = false
same_slots (r ∷ rs) (d ∷ ds) = same_slot r d && same_slots rs ds

-- a schema without constraints on which no normal form depends: all but those of named bits
abbrev pub bare : Schema → Schema
bare (Schema.number bounds mark range) = Schema.any
bare (Schema.octet_string size mark) = Schema.any
bare (Schema.bit_string size mark false) = Schema.any
bare (Schema.char_string alphabet size mark) = Schema.any
bare (Schema.list e size mark) = Schema.list e (record { least = None; most = None }) false
bare s = s

-- a part, by what its normal form depends on: an addition group by its schema, any other part by its bare schema
pub data Form : Type 0 where
  plain grouped : Schema → Form

-- the form of a part
abbrev pub form_of : Presence → Schema → Form
form_of group s = grouped s
form_of _ s = plain (bare s)

-- the forms of parts, in their order
abbrev pub forms_of : Parts → List Form
forms_of no_parts = []
forms_of (part t p s ps) = form_of p s ∷ forms_of ps

-- parts of these forms, at each number of levels
pub record HaveForms (parts : ℕ → Parts) (forms : ℕ → List Form) : Type 0 where
  pub at_none : forms_of (parts zero) ≡ forms zero
  pub at_some : (n : ℕ) → forms_of (parts (suc n)) ≡ forms (suc n)

-- whether some part is required, so that not all are absent or at their defaults
abbrev pub some_required : Parts → Bool
some_required no_parts = false
some_required (part t required s ps) = true
some_required (part t _ s ps) = some_required ps

-- X.691 19.9: whether a part is no addition group, or one with a required component, so that it never holds nothing
abbrev pub is_filled : Form → Bool
is_filled (plain s) = true
is_filled (grouped s) = some_required (root_of s)

-- whether all are
abbrev pub are_filled : List Form → Bool
are_filled [] = true
are_filled (f ∷ fs) = is_filled f && are_filled fs

-- the same at each number of levels but none, where a group is cut off
abbrev pub IsFilled : (ℕ → Form) → Type 0
IsFilled form = (n : ℕ) → is_filled (form (suc n)) ≡ true

abbrev pub AreFilled : (ℕ → List Form) → Type 0
AreFilled forms = (n : ℕ) → are_filled (forms (suc n)) ≡ true

-- the normal form of a part
abbrev pub normal_part : Presence → Schema → Option Value → Option Value
normal_part p s None = None
normal_part p s (Some v) = settle p s (normal s v)

-- A test of whether a part is that of a default: at each depth that holds it, its normal form by a schema of this form
-- is the default's.
pub record TellsPart (form : ℕ → Form) (k : ℕ) (r d : Option Value) (b : Bool) : Type 0 where
  pub at : IsFilled form → (n : ℕ) → k ≤ n → (p : Presence) (s : Schema) → form_of p s ≡ form n
      → b ≡ same_slot (normal_part p s r) d

-- the same of parts, one for one
pub record TellsParts (forms : ℕ → List Form) (k : ℕ) (rs ds : List (Option Value)) (b : Bool) : Type 0 where
  pub at : AreFilled forms → (n : ℕ) → k ≤ n → (ps : Parts) → forms_of ps ≡ forms n
      → b ≡ same_slots (normals ps rs) ds
