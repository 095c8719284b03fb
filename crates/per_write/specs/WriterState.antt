-- What contracts see of a writer and of an encoder around it, and what their calls do to it.
use Rattle.std.specs.Prelude.{ℕ, ◌≡◌, ◌++◌, List, Bool, true, false, Option, Some, None, Result, OnOk, OnErr, IfErr}
use Rattle.rasn_types.specs.Bits.{Bits}
use Rattle.rasn_types.specs.Variants.{variant_of, Variant}
use Rattle.rasn_types.specs.Values.{Value}
use Rattle.rasn_types.specs.declared.types.Codec.{Codec}
use Rattle.rasn_schema.specs.Schemas.{Schema}
use Rattle.per_core.specs.Writers.{Writer, just, ◌▹◌}
use Rattle.per_core.specs.Canon.{canon, completed}
use Rattle.per_pieces.specs.Pieces.{Appends, MayBegin as MayStand, Pieces, no_pieces, writer_of}
use Rattle.per_write.specs.declared.presences.Presences.{Presences}

-- what is kept of the additions of an open SEQUENCE: the place of its extension bit, how many additions its schema has,
-- a bit for each that was given so far, and their open types, as written from position 0 on
pub record Additions : Type 0 where
  pub extension : ℕ
  pub count : ℕ
  pub flags : Bits
  pub opens : Bits

-- what is kept of an open SEQUENCE or CHOICE: its presence bits that are still to be given, and, after an extension
-- marker, its additions; and whether anything is open: a SEQUENCE, a SET, a CHOICE, a list, a bag, or octets that are
-- to contain a value
pub record Frame : Type 0 where
  pub presences : Presences
  pub additions : Option Additions
  pub is_open : Bool

-- what was written, whether a call was refused, the variant in use, and what is kept of the open SEQUENCE or CHOICE
pub record WriterState : Type 0 where
  pub pieces : Pieces
  pub failed : Bool
  pub codec : Codec
  pub scope : Frame

-- where nothing is kept, in something that is open or not
abbrev pub empty_scope : Bool → Frame
empty_scope is_open = record { presences = record { place = 0; left = 0 }; additions = None; is_open = is_open }

-- where nothing is open
abbrev pub no_scope : Frame
no_scope = empty_scope false

-- a writer's state, where something is open or not
abbrev pub within : Bool → WriterState → WriterState
within is_open x = record x { scope = record x.scope { is_open = is_open } }

-- what has written nothing
abbrev pub fresh : Codec → WriterState
fresh codec = record { pieces = no_pieces; failed = false; codec = codec; scope = no_scope }

-- what the open scope holds, as written from a position on
abbrev pub view : WriterState → Writer
view x = writer_of x.pieces.list

-- the positions that the open scope may begin at: the start, unless its place isn't known
abbrev pub MayBegin : WriterState → ℕ → Type 0
MayBegin x p = MayStand x.pieces p

-- some bits were written after those that stood there from the start
abbrev pub AppendsBits : Bits → Writer → Bits → Type 0
AppendsBits before more behind = Some behind ≡ (just before ▹ more) 0

-- what holds some octets holds the complete encoding of what was written behind them (X.691 11.1)
pub record HoldsOutput (before : List ℕ) (x : WriterState) (after : List ℕ) : Type 0 where
  pub octets : List ℕ
  pub complete : completed (view x 0) ≡ Some octets
  pub behind : after ≡ before ++ octets

-- a call wrote one thing more
pub record StateAppends (x : WriterState) (more : Writer) (y : WriterState) : Type 0 where
  pub begun : x.failed ≡ false
  pub left : y.failed ≡ false
  pub same : y.codec ≡ x.codec
  pub beside : y.scope ≡ x.scope
  pub appended : Appends x.pieces more y.pieces

-- one value more, in its canonical bits
abbrev pub Presents : WriterState → Schema → Value → WriterState → Type 0
Presents x s v y = StateAppends x (canon (variant_of x.codec) s v) y

-- A call that writes one thing more: an error is one of some, and leaves the writer failed; and the variant stays.
pub record Puts {E : Type 0} (errors : E → WriterState → Type 0) (more : Writer) (x : WriterState)
    (result : Result (Unit {0}) E)
    (y : WriterState) : Type 0 where
  pub ok : OnOk result (StateAppends x more y)
  pub err : IfErr result (λ e. errors e x)
  pub fails : OnErr result (y.failed ≡ true)
  pub kept : y.codec ≡ x.codec

-- A call that writes one thing more, as it is written in the variant in use.
abbrev pub PutsIn : {E : Type 0} → (E → WriterState → Type 0) → (Variant → Writer) → WriterState → Result (Unit {0}) E
    → WriterState
    → Type 0
PutsIn errors more x result y = Puts errors (more (variant_of x.codec)) x result y
