-- A CHOICE that may have an extension marker. Where there are added alternatives, or more than 65536 root ones, which
-- one was written, and so what is in front of it, is known after it alone: it is written before its place is known
-- (ITU-T X.691, 23).
use Rattle.std.specs.Prelude.{ℕ, ◌≡◌, ◌==◌, ◌&&◌, nat_le, nat_lt, Bool, true, false, Option, Some, None, is_some}
use Rattle.std.specs.Prelude.{Result, IfOk, IfErr, OnErr, OnOk, IsErrAnd}
use Rattle.rasn_types.specs.Variants.{variant_of, Variant}
use Rattle.rasn_schema.specs.Enumerations.{addeds_of}
use Rattle.rasn_schema.specs.declared.items.Place.{Place}
use Rattle.rasn_schema.specs.declared.items.Place.TheVariants.{Root, Added}
use Rattle.per_core.specs.Canon.{extension_bit}
use Rattle.per_core.specs.Counts.{constrained_whole, open_bits, small}
use Rattle.per_core.specs.Writers.{Writer, ◌▹◌}
use Rattle.per_pieces.specs.Pieces.{Pieces, unplaced}
use Rattle.per_core.specs.declared.encode_error.EncodeError.{EncodeError}
use Rattle.per_core.specs.declared.encode_error.EncodeErrorKind.TheVariants.{OutOfTurn, VariantNotInChoice}
use Rattle.per_write.specs.Choices.{FillsIndexOrNot, OpensIndex}
use Rattle.per_write.specs.Faults.{IsError, IsMemory}
use Rattle.per_write.specs.WriterState.{Puts, Frame, WriterState, StateAppends, empty_scope, view}

-- what waits outside of a CHOICE: what is kept of the open SEQUENCE or CHOICE there, and, where the alternative that is
-- written has no place yet, what was written before
pub record OutsideChoice : Type 0 where
  pub scope : Frame
  pub before : Option Pieces

-- X.691 23.5 to 23.8: the alternative at a place, of n root ones, whose value is written so: one of the root in place,
-- an added one in an open type
abbrev pub placed_alternative : Variant → Bool → ℕ → Place → Writer → Writer
placed_alternative a marker n (Root i) value = extension_bit marker false ▹ constrained_whole a n i ▹ value
placed_alternative a marker n (Added i) value = extension_bit true true ▹ small a i ▹ open_bits a (value 0)

-- X.691 23.5, 23.6: room is made for the index of one of n alternatives, after the extension bit where there is a
-- marker
pub record OpensInPlace (marker : Bool) (n : ℕ) (x : WriterState) (outside : OutsideChoice)
    (y : WriterState) : Type 0 where
  pub none : outside.before ≡ None
  pub front : WriterState
  pub marked : StateAppends x (extension_bit marker false) front
  pub opened : OpensIndex n front outside.scope y

-- the alternative that follows has no place yet, and what was there waits
pub record OpensUnplaced (x : WriterState) (outside : OutsideChoice) (y : WriterState) : Type 0 where
  pub begun : x.failed ≡ false
  pub waits : outside ≡ record { scope = x.scope; before = Some x.pieces }
  pub same : y ≡ record x { pieces = unplaced; scope = empty_scope true }

-- whether room is kept for the index of one of n root alternatives: there are no added ones, and its length doesn't go
-- by the index (X.691 11.5.7.4)
abbrev pub keeps_room : ℕ → Option ℕ → Bool
keeps_room n added = nat_le n 65536 && (addeds_of added == 0)

-- a CHOICE is open, with room for its index or without
abbrev pub OpensWhere : Bool → Bool → ℕ → WriterState → OutsideChoice → WriterState → Type 0
OpensWhere true marker n x o y = OpensInPlace marker n x o y
OpensWhere false marker n x o y = OpensUnplaced x o y

-- a CHOICE of n root alternatives is open and, where it has an extension marker, of so many added ones
abbrev pub OpensChoiceOf : ℕ → Option ℕ → WriterState → OutsideChoice → WriterState → Type 0
OpensChoiceOf n added x o y = OpensWhere (keeps_room n added) (is_some added) n x o y

-- A call that opens a CHOICE in some way, or finds no memory.
pub record OpensOrNot (opens : OutsideChoice → WriterState → Type 0) (x : WriterState)
    (result : Result OutsideChoice EncodeError)
    (y : WriterState) : Type 0 where
  pub ok : IfOk result (λ outside. opens outside y)
  pub err : IfErr result (λ e. IsMemory e x)
  pub fails : OnErr result (y.failed ≡ true)
  pub kept : y.codec ≡ x.codec

-- what waited is there again, in the place of what was written since
abbrev pub restored : WriterState → Pieces → Frame → WriterState
restored x before scope = record x { pieces = before; scope = scope }

-- A call that refuses what has no turn here.
pub record RefusesTurn (x : WriterState) (result : Result (Unit {0}) EncodeError) (y : WriterState) : Type 0 where
  pub err : IsErrAnd result (λ e. IsError OutOfTurn e x)
  pub fails : y.failed ≡ true
  pub kept : y.codec ≡ x.codec

-- whether a place is that of an added alternative or of one of n root ones
abbrev pub is_among : ℕ → Place → Bool
is_among n (Root i) = nat_lt i n
is_among n (Added i) = true

-- A call that writes what has a turn here, and refuses what has none.
abbrev pub PutsWhere : Bool → Writer → WriterState → Result (Unit {0}) EncodeError → WriterState → Type 0
PutsWhere true w x result y = Puts IsMemory w x result y
PutsWhere false w x result y = RefusesTurn x result y

-- A call that closes a CHOICE of n root alternatives of which one was written in place. An added one is refused.
abbrev pub ClosesInPlace : ℕ → Place → Frame → WriterState → Result (Unit {0}) EncodeError → WriterState → Type 0
ClosesInPlace n (Root i) scope x result y = FillsIndexOrNot n i scope x result y
ClosesInPlace n (Added i) scope x result y = RefusesTurn x result y

-- A call that closes a CHOICE of n root alternatives, with an extension marker or without, by the place of the one that
-- was written and by what was written before it, where that waits.
abbrev pub ClosesAfter : Option Pieces → Bool → ℕ → Place → Frame → WriterState → Result (Unit {0}) EncodeError
    → WriterState → Type 0
ClosesAfter None marker n place scope x result y = ClosesInPlace n place scope x result y
ClosesAfter (Some before) marker n place scope x result y =
    PutsWhere (is_among n place) (placed_alternative (variant_of x.codec) marker n place (view x))
    (restored x before scope) result y

-- A call that closes a CHOICE of n root alternatives, with an extension marker or without, by the place of the one that
-- was written and by all that waits outside.
abbrev pub ClosesChoiceOf : Bool → ℕ → Place → OutsideChoice → WriterState → Result (Unit {0}) EncodeError
    → WriterState → Type 0
ClosesChoiceOf marker n place outside x result y =
    ClosesAfter outside.before marker n place outside.scope x result y

-- A call that knows where an alternative stands, or refuses where none does.
pub record KnowsPlace (place : Option Place) (x : WriterState) (result : Result Place EncodeError)
    (y : WriterState) : Type 0 where
  pub ok : IfOk result (λ p. place ≡ Some p)
  pub stays : OnOk result (y ≡ x)
  pub none : OnErr result (place ≡ None)
  pub err : IfErr result (λ e. IsError VariantNotInChoice e x)
  pub fails : OnErr result (y.failed ≡ true)
  pub kept : y.codec ≡ x.codec
