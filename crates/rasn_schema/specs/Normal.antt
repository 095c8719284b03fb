-- The normal form of a value: no addition group that holds nothing (ITU-T X.691, 19.9), named bits without zero bits at
-- their end but those that the size asks for (16.2), and the same at every depth.
use Rattle.std.specs.Prelude.{ℕ, zero, suc, ◌^◌, Bool, true, false, if◌then◌else◌, ◌&&◌, nat_lt, List, [], ◌∷◌, map}
use Rattle.std.specs.Prelude.{Option, Some, None, ◌≤◌}
use Rattle.rasn_types.specs.Bits.{Bits, filled_up, trimmed}
use Rattle.rasn_types.specs.Values.{Value, bits, elements, bag, fields, alternative, root, added, values, as_values}
use Rattle.rasn_types.specs.Values.{slots, as_slots, same, bag_of}
use Rattle.rasn_constraints.specs.Bounds.{Size}
use Rattle.rasn_schema.specs.Schemas.{Presence, required, optional, group, default, Schema, Parts, no_parts, part}

-- X.691 19.5, 19.9: whether a part in normal form is absent, or at its default; a required part never is
unfoldable pub is_idle : Presence → Option Value → Bool
unfolding same
is_idle required s = false
is_idle optional None = true
is_idle optional (Some v) = false
is_idle group None = true
is_idle group (Some v) = false
is_idle (default d) None = true
is_idle (default d) (Some v) = same v d

-- whether all parts are absent or at their defaults
unfoldable pub are_idle : Parts → List (Option Value) → Bool
unfolding is_idle
are_idle no_parts [] = true
are_idle no_parts (x ∷ xs) = false
are_idle (part t p s ps) [] = false
are_idle (part t p s ps) (x ∷ xs) = is_idle p x && are_idle ps xs

-- the root parts of a record's schema
abbrev pub root_of : Schema → Parts
root_of (Schema.sequence o ps ext adds) = ps
root_of _ = no_parts

-- the additions of a record's schema
abbrev pub additions_of : Schema → Parts
additions_of (Schema.sequence o ps ext adds) = adds
additions_of _ = no_parts

-- X.691 19.9: whether a group holds nothing: all its parts and its own additions are absent or at their defaults
unfoldable pub is_vacant : Schema → Value → Bool
unfolding are_idle
is_vacant s (fields r x) = are_idle (root_of s) (slots r) && are_idle (additions_of s) (slots x)
is_vacant s _ = false

-- X.691 19.9: a group that holds nothing is absent
unfoldable pub settle : Presence → Schema → Value → Option Value
unfolding is_vacant
settle group s v = if is_vacant s v then None else Some v
settle _ s v = Some v

-- what becomes of the first part, where it is there, and of the others
abbrev pub each_slot : (Value → Option Value) → (List (Option Value) → List (Option Value)) → List (Option Value)
    → List (Option Value)
each_slot f g [] = []
each_slot f g (None ∷ xs) = None ∷ g xs
each_slot f g (Some v ∷ xs) = f v ∷ g xs

-- X.680 22.7, X.691 16.2: named bits without the zero bits at their end, and then with zero bits up to the least count,
-- where that is no more than `usize::MAX` (this project's limit)
abbrev pub normal_bits : Option ℕ → Bits → Bits
normal_bits None bs = trimmed bs
normal_bits (Some l) bs = if nat_lt l (2 ^ 64) then filled_up l (trimmed bs) else trimmed bs

-- the bits of a BIT STRING
abbrev pub over_bits : (Bits → Bits) → Value → Value
over_bits f (bits bs) = bits (f bs)
over_bits f v = v

-- X.680 22.7: the bits of a BIT STRING, where they have names
abbrev pub if_named : Bool → Size → Value → Value
if_named false size = λ v. v
if_named true size = over_bits (normal_bits size.least)

-- each element of a list
abbrev pub over_elements : (Value → Value) → Value → Value
over_elements f (elements vs) = elements (as_values (map f (values vs)))
over_elements f v = v

-- each element of a bag, which is sorted anew
unfoldable pub over_bag : (Value → Value) → Value → Value
unfolding bag_of
over_bag f (bag vs) = bag_of (map f (values vs))
over_bag f v = v

-- the root parts and the additions of a record
abbrev pub over_fields : (List (Option Value) → List (Option Value)) → (List (Option Value) → List (Option Value))
    → Value → Value
over_fields f g (fields r x) = fields (as_slots (f (slots r))) (as_slots (g (slots x)))
over_fields f g v = v

-- the value of the alternative that is chosen
abbrev pub over_alternative : (ℕ → Value → Value) → (ℕ → Value → Value) → Value → Value
over_alternative f g (alternative root i v) = alternative root i (f i v)
over_alternative f g (alternative added i v) = alternative added i (g i v)
over_alternative f g v = v

unfoldable mutual
  unfolding settle over_bag

  -- X.691 16.2, 19.9: the normal form of a value along its schema, made from the innermost outwards
  pub normal : Schema → Value → Value
  normal (Schema.bit_string size mark named) = if_named named size
  normal (Schema.containing e) = normal e
  normal (Schema.list e size mark) = over_elements (normal e)
  normal (Schema.set_of e size mark) = over_bag (normal e)
  normal (Schema.sequence o ps ext adds) = over_fields (normals ps) (normals adds)
  normal (Schema.choice ps adds ext) = over_alternative (normal_at ps) (normal_at adds)
  normal _ = λ v. v

  -- the normal forms of a record's components; a group that then holds nothing becomes absent
  pub normals : Parts → List (Option Value) → List (Option Value)
  normals no_parts = λ ss. ss
  normals (part t p s ps) = each_slot (λ v. settle p s (normal s v)) (normals ps)

  -- the normal form of the value of the alternative at a place
  pub normal_at : Parts → ℕ → Value → Value
  normal_at no_parts = λ i v. v
  normal_at (part t p s ps) = elim [ zero ↦ normal s | suc i ↦ normal_at ps i ]

-- a fact at each unfolding of a schema that is deep enough for a value of k levels
pub record AtDepths (schema : ℕ → Schema) (k : ℕ) (P : Schema → Type 0) : Type 0 where
  pub at : (n : ℕ) → k ≤ n → P (schema n)
