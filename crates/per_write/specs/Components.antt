-- A SET whose root components are presented in the order of its fields: each is written before its place is known, and
-- they are put in ascending order of their smallest tags where the SET is closed (ITU-T X.691, 21.1).
use Rattle.std.specs.Prelude.{ℕ, ◌≡◌, ◌⊎◌, Bool, true, List, length, Option, Some, None, Result, IfOk, IfErr, OnOk}
use Rattle.std.specs.Prelude.{OnErr}
use Rattle.rasn_schema.specs.Fields.{Shape, shapes_from}
use Rattle.rasn_schema.specs.Schemas.{count, Parts}
use Rattle.per_core.specs.PlacedSets.{placed}
use Rattle.per_core.specs.Writers.{◌▹◌}
use Rattle.per_pieces.specs.OpenSets.{begins, begins_value, bit_writers, closed, Component, opened, OpenSet, Underway}
use Rattle.per_pieces.specs.OpenSets.{value_writers}
use Rattle.per_pieces.specs.Pieces.{Appends}
use Rattle.per_core.specs.declared.encode_error.EncodeError.{EncodeError}
use Rattle.per_core.specs.declared.encode_error.EncodeErrorKind.TheVariants.{OutOfTurn}
use Rattle.per_write.specs.Faults.{IsError, IsMemory}
use Rattle.per_write.specs.WriterState.{WriterState}
use Rattle.per_pieces.specs.Turns.{counts, Enclosing, gathers, marked, next, Turn}

-- a writer, and what encloses what it writes next
pub record Encoding : Type 0 where
  pub writer : WriterState
  pub set : Enclosing

-- an open SET, and the pieces of the component under way
abbrev pub underway : OpenSet → WriterState → Underway
underway set x = record { set = set; pieces = x.pieces }

-- a writer goes on with an open SET and the pieces of a component
abbrev pub going_on : Underway → WriterState → Encoding
going_on u x = record { writer = record x { pieces = u.pieces }; set = gathers u.set }

-- a component comes, as a value or as a presence bit 0, where nothing is gathered
abbrev pub stepped : Turn → WriterState → Encoding
stepped t x = record { writer = x; set = counts (next t) }

-- a value begins: it is that of a component
abbrev pub noted : Enclosing → WriterState → Encoding
noted (counts t) x = stepped t x
noted (gathers set) x = going_on (begins_value (underway set x)) x

-- a component of an open SET begins with its presence bit
abbrev pub begun_with : Bool → OpenSet → WriterState → Encoding
begun_with b set x = going_on (begins (Some b) (underway set x)) x

-- the same; where nothing is gathered, a bit 0 is a component that comes
abbrev pub begun_within : Bool → Enclosing → WriterState → Encoding
begun_within b (counts t) x = record { writer = x; set = counts (marked b t) }
begun_within b (gathers set) x = begun_with b set x

-- A call that opens a SET of so many root components: what was written so far is before it. Or it finds no memory.
pub record OpensComponents (count : ℕ) (x : WriterState) (result : Result Enclosing EncodeError)
    (y : WriterState) : Type 0 where
  pub ok : IfOk result (λ set. record { writer = y; set = set } ≡ going_on (opened count x.pieces) x)
  pub err : IfErr result (λ e. IsMemory e x)
  pub fails : OnErr result (y.failed ≡ true)
  pub kept : y.codec ≡ x.codec

-- the components of a SET with some fields are after what was before it, in ascending order of their smallest tags
pub record PutsInOrder (fields : List Shape) (set : OpenSet) (x y : WriterState) : Type 0 where
  pub components : List Component
  pub closed : closed fields (underway set x) ≡ Some components
  pub appended : (ps : Parts) → fields ≡ shapes_from 0 ps → length components ≡ count ps
      → Appends set.outer (placed ps (bit_writers components) ▹ placed ps (value_writers components)) y.pieces
  pub same : y ≡ record x { pieces = y.pieces }

-- A call that puts the components of a SET with some fields in order. It is refused where the SET isn't complete.
pub record PutsComponents (fields : List Shape) (set : OpenSet) (x : WriterState)
    (result : Result (Unit {0}) EncodeError)
    (y : WriterState) : Type 0 where
  pub ok : OnOk result (PutsInOrder fields set x y)
  pub err : IfErr result (λ e. IsMemory e x ⊎ (IsError OutOfTurn e x × (closed fields (underway set x) ≡ None)))
  pub fails : OnErr result (y.failed ≡ true)
  pub kept : y.codec ≡ x.codec
