-- What is at a place that is known, an item or an alternative, and an open CHOICE of which the alternative is known
-- (ITU-T X.691, 14 and 23).
use Rattle.std.specs.Prelude.{◌≡◌, true, false, Option, Some, None, Result, IsOk}
use Rattle.rasn_types.specs.Variants.{variant_of, Variant}
use Rattle.rasn_schema.specs.Enumerations.{is_extensible}
use Rattle.rasn_schema.specs.declared.items.ItemCounts.{ItemCounts}
use Rattle.rasn_schema.specs.declared.items.Place.{Place}
use Rattle.rasn_schema.specs.declared.items.Place.TheVariants.{Root, Added}
use Rattle.per_core.specs.Canon.{extension_bit}
use Rattle.per_core.specs.Counts.{constrained_whole, open_bits, small}
use Rattle.per_core.specs.Writers.{Writer, ◌▹◌}
use Rattle.per_pieces.specs.Pieces.{Pieces}
use Rattle.per_core.specs.declared.encode_error.EncodeError.{EncodeError}
use Rattle.per_write.specs.Faults.{IsMemory}
use Rattle.per_write.specs.WriterState.{Puts, Frame, WriterState, StateAppends, empty_scope, view}
use Rattle.per_enc.specs.Choices.{OpensUnplaced, OutsideChoice, restored}

-- X.691 14, 23.5 to 23.8: the extension bit and the index of what is at a place, of so many
abbrev pub placed_front : Variant → ItemCounts → Place → Writer
placed_front a c (Root i) = extension_bit (is_extensible c.addeds) false ▹ constrained_whole a c.roots i
placed_front a c (Added i) = extension_bit (is_extensible c.addeds) true ▹ small a i

-- one of the root alternatives follows, and what was open waits
pub record EntersRoot (x : WriterState) (outside : OutsideChoice) (y : WriterState) : Type 0 where
  pub waits : outside ≡ record { scope = x.scope; before = None }
  pub same : y ≡ record x { scope = empty_scope true }

-- X.691 23.7, 23.8: the alternative follows: one of the root in place; an added one has no place yet, since its open
-- type's length is in front of it
abbrev pub EntersPlaced : Place → WriterState → OutsideChoice → WriterState → Type 0
EntersPlaced (Root i) x outside y = EntersRoot x outside y
EntersPlaced (Added i) x outside y = OpensUnplaced x outside y

-- a CHOICE of so many alternatives is open, to write the one at a place
pub record OpensPlaced (alternatives : ItemCounts) (place : Place) (x : WriterState) (outside : OutsideChoice)
    (y : WriterState) : Type 0 where
  pub front : WriterState
  pub written : StateAppends x (placed_front (variant_of x.codec) alternatives place) front
  pub enters : EntersPlaced place front outside y

-- what was open outside of a root alternative is so again
pub record LeavesRoot (scope : Frame) (x : WriterState) (result : Result (Unit {0}) EncodeError)
    (y : WriterState) : Type 0 where
  pub ok : IsOk result
  pub same : y ≡ record x { scope = scope }

-- A call that closes a CHOICE in which the alternative was written, by what was written before it, where that waits: an
-- added one is put after that in an open type (X.691 23.8).
abbrev pub ClosesPlaced : Option Pieces → Frame → WriterState → Result (Unit {0}) EncodeError → WriterState → Type 0
ClosesPlaced None scope x result y = LeavesRoot scope x result y
ClosesPlaced (Some before) scope x result y =
    Puts IsMemory (open_bits (variant_of x.codec) (view x 0)) (restored x before scope) result y
