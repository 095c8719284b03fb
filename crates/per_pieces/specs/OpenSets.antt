-- A SET that is open for writing: its root components are presented in the order of its fields, each is written before
-- its place is known, and they are in ascending order of their smallest tags (ITU-T X.691, 19.2 to 19.6, 21.1).
use Rattle.std.specs.Prelude.{ℕ, zero, suc, ◌+◌, ◌≤◌, ◌≡◌, Bool, true, false, not, ◌&&◌, if◌then◌else◌, List, [], ◌∷◌}
use Rattle.std.specs.Prelude.{◌++◌, get_or, length, map}
use Rattle.std.specs.Prelude.{Option, Some, None, is_some, is_none}
use Rattle.std.specs.List.{All}
use Rattle.rasn_schema.specs.Fields.{Shape, may_be_absent}
use Rattle.rasn_schema.specs.declared.fields.Field.{Field}
use Rattle.per_core.specs.Writers.{Writer, just}
use Rattle.per_pieces.specs.Pieces.{Pieces, unplaced, writer_of}

-- what was written of a component: its presence bit, and its value by itself, nothing where it isn't there
pub record Component : Type 0 where
  pub bit : Option Bool
  pub value : Pieces

-- what is kept of an open SET: what is before it, the components before the last one begun, the presence bit of
-- that one (no component where none was begun), whether its value is still to follow, how many may still be begun, and
-- whether anything came out of turn
pub record OpenSet : Type 0 where
  pub outer : Pieces
  pub done : List Component
  pub begun : Option (Option Bool)
  pub awaits : Bool
  pub room : ℕ
  pub misplaced : Bool

-- an open SET, and the pieces of the component under way
pub record Underway : Type 0 where
  pub set : OpenSet
  pub pieces : Pieces

-- a SET of so many root components is opened after some pieces
abbrev pub opened : ℕ → Pieces → Underway
opened count ps = record {
  set = record { outer = ps; done = []; begun = None; awaits = false; room = count; misplaced = false };
  pieces = unplaced;
}

-- components, and after them the one that was begun, if one was
abbrev pub with_begun : List Component → Option (Option Bool) → Pieces → List Component
with_begun cs None ps = cs
with_begun cs (Some bit) ps = cs ++ record { bit = bit; value = ps } ∷ []

-- all components that were begun, in the order in which they were
abbrev pub components : Underway → List Component
components u = with_begun u.set.done u.set.begun u.pieces

-- whether a value follows a presence bit: not where there is no bit
abbrev pub says_present : Option Bool → Bool
says_present None = false
says_present (Some b) = b

-- something came out of turn
abbrev pub out_of_turn : Underway → Underway
out_of_turn u = record { set = record u.set { misplaced = true }; pieces = u.pieces }

-- a further component begins, where so many may and the value of the one before isn't awaited
abbrev pub begins_where : Bool → ℕ → Option Bool → Underway → Underway
begins_where true n bit u = out_of_turn u
begins_where false zero bit u = out_of_turn u
begins_where false (suc n) bit u = record {
  set = record {
    outer = u.set.outer;
    done = components u;
    begun = Some bit;
    awaits = says_present bit;
    room = n;
    misplaced = u.set.misplaced;
  };
  pieces = unplaced;
}

-- a further component begins, with its presence bit if it has one
abbrev pub begins : Option Bool → Underway → Underway
begins bit u = begins_where u.set.awaits u.set.room bit u

-- a value begins: that of the component whose presence bit was given last, or of a further one that has no bit
abbrev pub begins_value_where : Bool → Underway → Underway
begins_value_where true u = record { set = record u.set { awaits = false }; pieces = u.pieces }
begins_value_where false u = begins None u

abbrev pub begins_value : Underway → Underway
begins_value u = begins_value_where u.set.awaits u

-- X.691 19.2: whether a component has a presence bit exactly where its field may be absent
abbrev pub is_of : Shape → Component → Bool
is_of f c = if may_be_absent f then is_some c.bit else is_none c.bit

-- whether there is such a component for each field
abbrev pub are_of : List Shape → List Component → Bool
are_of [] [] = true
are_of (f ∷ fs) (c ∷ cs) = is_of f c && are_of fs cs
are_of [] (c ∷ cs) = false
are_of (f ∷ fs) [] = false

-- whether all components of a SET with these fields were presented, in turn
abbrev pub is_complete : List Shape → Underway → Bool
is_complete fs u = not u.set.misplaced && (not u.set.awaits && are_of fs (components u))

-- the components of a SET that is closed; none where it isn't complete
abbrev pub closed : List Shape → Underway → Option (List Component)
closed fs u = if is_complete fs u then Some (components u) else None

-- how many components are under way: one, once one was begun
abbrev pub under_way : Option (Option Bool) → ℕ
under_way None = 0
under_way (Some bit) = 1

-- there is memory for the components that are kept, the one under way and those that may still be begun; and each of
-- these has spare pieces, which are none yet
pub record HasMemory (done : List Component) (capacity : ℕ) (begun : Option (Option Bool))
    (spare : List Pieces) : Type 0 where
  pub enough : length done + under_way begun + length spare ≤ capacity
  pub fresh : All (λ ps. ps ≡ unplaced) spare

-- X.691 19.2: a presence bit, if there is one
abbrev pub bit_writer : Option Bool → Writer
bit_writer None = just []
bit_writer (Some b) = just (b ∷ [])

-- what components wrote as their presence bits
abbrev pub bit_writers : List Component → List Writer
bit_writers = map (λ c. bit_writer c.bit)

-- what they wrote as their values
abbrev pub value_writers : List Component → List Writer
value_writers = map (λ c. writer_of c.value.list)

-- what is at the index of each of some fields
abbrev pub in_order : List Field → List Writer → List Writer
in_order fs ws = map (λ f. get_or ws f.index (just [])) fs
