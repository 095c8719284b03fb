-- The schemas that the constraints of a type make of its kind, and families of schemas in which no other stands.
use Rattle.std.specs.Prelude.{ℕ, ◌≡◌, Bool, true, false, List, refl}
use Rattle.rasn_types.specs.Values.{Value}
use Rattle.rasn_schema.specs.Schemas
use Rattle.rasn_constraints.specs.Bounds.{Bounds, Size}
use Rattle.rasn_schema.specs.Schemas.{Schema}
use Rattle.rasn_schema.specs.Depth.{IsLeaf, CutOf, Unfolds, meets_cut}
use Rattle.rasn_constraints.specs.Constraints.{bounds_in, size_in, is_marked, permitted}
use Rattle.rasn_constraints.specs.declared.constraints.Constraints.{Constraints}

-- X.691 13: INTEGER under the first value constraint, with its mark, of a number type with a range. Other constraints
-- change nothing.
abbrev pub number_schema : Constraints → Bounds → Schema
number_schema c range = Schema.number (bounds_in c.value) (is_marked c.value) range

-- X.691 11.9: the size that strings and lists have under the first size constraint
abbrev pub size_of : Constraints → Size
size_of c = size_in c.size

-- whether that constraint has an extension marker
abbrev pub is_size_marked : Constraints → Bool
is_size_marked c = is_marked c.size

-- X.691 30.4: the characters of a string type that the first permitted alphabet leaves, in the type's order; an
-- extensible one isn't visible
abbrev pub alphabet_of : List ℕ → Constraints → List ℕ
alphabet_of own c = permitted own c.alphabet

-- X.691 17: OCTET STRING under the first size constraint, with its mark
abbrev pub octet_schema : Constraints → Schema
octet_schema c = Schema.octet_string (size_of c) (is_size_marked c)

-- X.691 16: BIT STRING under the first size constraint, with its mark
abbrev pub bit_schema : Constraints → Schema
bit_schema c = Schema.bit_string (size_of c) (is_size_marked c) false

-- X.680 22.7, X.691 16.2: BIT STRING whose bits have names, under the first size constraint, with its mark
abbrev pub named_bit_schema : Constraints → Schema
named_bit_schema c = Schema.bit_string (size_of c) (is_size_marked c) true

-- X.691 30.5: a known-multiplier string of a type with these characters, under the first size constraint, with its
-- mark, and the first permitted alphabet
abbrev pub character_schema : List ℕ → Constraints → Schema
character_schema own c = Schema.char_string (alphabet_of own c) (size_of c) (is_size_marked c)

-- a family that is one kind at every depth, in which no schema stands
abbrev pub always : Schema → ℕ → Schema
always s n = s

-- kinds in which no schema stands, and nothing is cut off
abbrev pub IsSimple : Schema → Type 0
IsSimple Schemas.cut = ⊥
IsSimple s = IsLeaf s

simple_leaf : (s : Schema) → IsSimple s → IsLeaf s
simple_leaf Schemas.cut h = absurd h
simple_leaf _ h = h

pub simple_uncut : (s : Schema) → IsSimple s → (v : Value) → meets_cut s v ≡ false
unfolding meets_cut
simple_uncut Schemas.boolean h v = refl
simple_uncut Schemas.null h v = refl
simple_uncut Schemas.real h v = refl
simple_uncut Schemas.any h v = refl
simple_uncut Schemas.identifier h v = refl
simple_uncut Schemas.date h v = refl
simple_uncut (Schemas.text k) h v = refl
simple_uncut (Schemas.time k) h v = refl
simple_uncut (Schemas.number b m r) h v = refl
simple_uncut (Schemas.items r e x) h v = refl
simple_uncut (Schemas.octet_string z m) h v = refl
simple_uncut (Schemas.bit_string z m n) h v = refl
simple_uncut (Schemas.char_string a z m) h v = refl
simple_uncut Schemas.cut h v = absurd h
simple_uncut (Schemas.containing e) h v = absurd h
simple_uncut (Schemas.list e z m) h v = absurd h
simple_uncut (Schemas.set_of e z m) h v = absurd h
simple_uncut (Schemas.sequence o p x a) h v = absurd h
simple_uncut (Schemas.choice p a x) h v = absurd h

-- what such a family owes
pub simple_unfolds : (s : Schema) → IsSimple s → Unfolds (always s)
simple_unfolds s h = record { grows = λ n. CutOf.alike (simple_leaf s h); holds = λ v. (0, simple_uncut s h v) }
