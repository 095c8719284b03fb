-- The additions of an open SEQUENCE, given one after another, each that is there in an open type (ITU-T X.691, 11.2,
-- 19.7 to 19.9).
use Rattle.std.specs.Prelude.{◌≡◌, ◌<◌, ◌≤◌, ◌⊎◌, Bool, true, false, ◌||◌, [], ◌∷◌, ◌++◌, length, Option, Some, None}
use Rattle.std.specs.Prelude.{Result, IfOk, IfErr, OnOk, OnErr}
use Rattle.rasn_types.specs.Bits.{Bits}
use Rattle.rasn_types.specs.Variants.{variant_of, Variant}
use Rattle.rasn_types.specs.Values.{Value}
use Rattle.rasn_schema.specs.Schemas.{Schema, Parts, no_parts, part, Presence, required, optional, group, default}
use Rattle.per_core.specs.Canon.{any_set, canon}
use Rattle.per_core.specs.Counts.{open_bits}
use Rattle.per_core.specs.Writers.{Writer, just}
use Rattle.per_pieces.specs.Pieces.{Pieces, no_pieces, placed_bits}
use Rattle.per_core.specs.declared.encode_error.EncodeError.{EncodeError}
use Rattle.per_core.specs.declared.encode_error.EncodeErrorKind.TheVariants.{TooManyAdditions}
use Rattle.per_write.specs.declared.presences.Presences.{Presences}
use Rattle.per_write.specs.Faults.{IsAlready, IsError, IsMemory}
use Rattle.per_write.specs.WriterState.{Additions, AppendsBits, WriterState, empty_scope}

-- what waits outside of an open type: what was written before, and what is kept of the open SEQUENCE
pub record OutsideAddition : Type 0 where
  pub pieces : Pieces
  pub presences : Presences
  pub additions : Additions

-- one addition more was given: its bit, and the open types with its own
abbrev pub with_next : Additions → Bool → Bits → Additions
with_next k b opens = record { extension = k.extension; count = k.count; flags = k.flags ++ b ∷ []; opens = opens }

-- X.691 11.2, 19.9: the open type of an addition, where it is there
abbrev pub open_if : Variant → Bool → Bits → Writer
open_if a false contents = just []
open_if a true contents = open_bits a (Some contents)

-- whether a part is required
abbrev pub is_required : Presence → Bool
is_required required = true
is_required optional = false
is_required group = false
is_required (default d) = false

-- whether one of some parts is required
abbrev pub has_required : Parts → Bool
has_required no_parts = false
has_required (part t q s ps) = is_required q || has_required ps

-- X.691 19.9: whether an addition group is there, by its bits: where none of its parts is required, one of these is 1
abbrev pub is_group_there : Bool → Bits → Bool
is_group_there has_required contents = has_required || any_set contents

-- an addition is still to be given
pub record Awaits (x : WriterState) (k : Additions) : Type 0 where
  pub begun : x.failed ≡ false
  pub some : x.scope.additions ≡ Some k
  pub left : length k.flags < k.count

-- no addition is left to give
abbrev pub NoneLeft : Option Additions → Type 0
NoneLeft None = Unit {0}
NoneLeft (Some k) = k.count ≤ length k.flags

-- an error by which an addition is refused: memory ran out, or none is left
abbrev pub RefusesAddition : EncodeError → WriterState → Type 0
RefusesAddition e x = IsMemory e x ⊎ (IsError TooManyAdditions e x × NoneLeft x.scope.additions)

-- an error by which an addition is refused: none is left to give, or the encoder had been refused before
abbrev pub IsSurplus : EncodeError → WriterState → Type 0
IsSurplus e x = (IsError TooManyAdditions e x × NoneLeft x.scope.additions) ⊎ (IsAlready e x × (x.failed ≡ true))

-- A call that takes the additions of the open SEQUENCE, of which one is still to be given.
pub record TakesOrNot (x : WriterState) (result : Result Additions EncodeError) (y : WriterState) : Type 0 where
  pub ok : IfOk result (λ k. Awaits x k)
  pub same : OnOk result (y ≡ record x { scope = record x.scope { additions = None } })
  pub err : IfErr result (λ e. IsError TooManyAdditions e x × NoneLeft x.scope.additions)
  pub fails : OnErr result (y.failed ≡ true)
  pub kept : y.codec ≡ x.codec

-- A call that goes on with additions of which one more is given.
pub record GivesOrNot (b : Bool) (k : Additions) (x : WriterState) (result : Result (Unit {0}) EncodeError)
    (y : WriterState) : Type 0 where
  pub ok : OnOk result (y ≡ record x { scope = record x.scope { additions = Some (with_next k b k.opens) } })
  pub err : IfErr result (λ e. IsMemory e x)
  pub fails : OnErr result (y.failed ≡ true)
  pub kept : y.codec ≡ x.codec

-- the next addition is absent
pub record Skips (x y : WriterState) : Type 0 where
  pub before : Additions
  pub awaits : Awaits x before
  pub same : y ≡ record x { scope = record x.scope { additions = Some (with_next before false before.opens) } }

-- A call that gives the next addition as absent.
pub record SkipsOrNot (x : WriterState) (result : Result (Unit {0}) EncodeError) (y : WriterState) : Type 0 where
  pub ok : OnOk result (Skips x y)
  pub err : IfErr result (λ e. RefusesAddition e x)
  pub fails : OnErr result (y.failed ≡ true)
  pub kept : y.codec ≡ x.codec

-- an open type begins at position 0, and what was there waits outside; what is open stays so
pub record Opens (x : WriterState) (outside : OutsideAddition) (y : WriterState) : Type 0 where
  pub awaits : Awaits x outside.additions
  pub waits : outside ≡ record { pieces = x.pieces; presences = x.scope.presences; additions = outside.additions }
  pub same : y ≡ record x { pieces = no_pieces; scope = empty_scope x.scope.is_open }

-- the contents of the next addition's open type begin
pub record Begins (x y : WriterState) : Type 0 where
  pub outside : OutsideAddition
  pub opened : Opens x outside y

-- A call that opens the open type of the next addition.
pub record OpensOrNot (x : WriterState) (result : Result OutsideAddition EncodeError) (y : WriterState) : Type 0 where
  pub ok : IfOk result (λ outside. Opens x outside y)
  pub err : IfErr result (λ e. RefusesAddition e x)
  pub fails : OnErr result (y.failed ≡ true)
  pub kept : y.codec ≡ x.codec

-- an addition was given: where it is there, what was written is the contents of its open type, from position 0 on
pub record Closes (is_there : Bool) (outside : OutsideAddition) (x y : WriterState) : Type 0 where
  pub begun : x.failed ≡ false
  pub opens : Bits
  pub appended : AppendsBits outside.additions.opens (open_if (variant_of x.codec) is_there
      (placed_bits x.pieces.list 0)) opens
  pub same : y ≡ record x {
    pieces = outside.pieces;
    scope =
        record {
          presences = outside.presences;
          additions = Some (with_next outside.additions is_there opens);
          is_open =
              x.scope.is_open;
        };
  }

-- A call that puts what was written, as the contents of an open type, after the open types of other additions.
pub record PutsAddition (k : Additions) (before : Pieces) (x : WriterState) (result : Result Additions EncodeError)
    (y : WriterState) : Type 0 where
  pub opens : IfOk result (λ l. AppendsBits k.opens (open_bits (variant_of x.codec)
      (Some (placed_bits x.pieces.list 0))) l.opens)
  pub others : IfOk result (λ l. l ≡ record k { opens = l.opens })
  pub same : OnOk result (y ≡ record x { pieces = before })
  pub err : IfErr result (λ e. IsMemory e x)
  pub fails : OnErr result (y.failed ≡ true)
  pub kept : y.codec ≡ x.codec

-- A call that puts the contents of an open type after the open types of other additions.
pub record PutsContents (k : Additions) (contents : Bits) (x : WriterState) (result : Result Additions EncodeError)
    (y : WriterState) : Type 0 where
  pub opens : IfOk result (λ l. AppendsBits k.opens (open_bits (variant_of x.codec) (Some contents)) l.opens)
  pub others : IfOk result (λ l. l ≡ record k { opens = l.opens })
  pub same : OnOk result (y ≡ x)
  pub err : IfErr result (λ e. IsMemory e x)
  pub fails : OnErr result (y.failed ≡ true)
  pub kept : y.codec ≡ x.codec

-- A call that closes the open type of an addition.
pub record ClosesOrNot (is_there : Bool) (outside : OutsideAddition) (x : WriterState)
    (result : Result (Unit {0}) EncodeError) (y : WriterState) : Type 0 where
  pub ok : OnOk result (Closes is_there outside x y)
  pub err : IfErr result (λ e. IsMemory e x)
  pub fails : OnErr result (y.failed ≡ true)
  pub kept : y.codec ≡ x.codec

-- the next addition is there: one value in an open type
pub record Adds (x : WriterState) (s : Schema) (v : Value) (y : WriterState) : Type 0 where
  pub before : Additions
  pub awaits : Awaits x before
  pub contents : Bits
  pub complete : canon (variant_of x.codec) s v 0 ≡ Some contents
  pub opens : Bits
  pub appended : AppendsBits before.opens (open_if (variant_of x.codec) true contents) opens
  pub same : y ≡ record x { scope = record x.scope { additions = Some (with_next before true opens) } }
