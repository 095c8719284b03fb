-- What contracts see of a bitmap.
use Rattle.std.specs.Prelude.{◌≡◌, List, Bool, drop}
use Rattle.rasn_types.specs.Bits.{Bits}
use Rattle.per_read.specs.TakenPositions.{LastTaken}
use Rattle.per_read.specs.declared.bitmaps.Flags.{Flags}
use Rattle.per_read.specs.declared.bitmaps.Flags.TheVariants.{InPlace, Gathered}
use Rattle.per_read.specs.declared.bitmaps.PresenceBits.{PresenceBits}
use Rattle.per_read.specs.declared.bitmaps.PresenceBits.TheVariants as Taken

-- the presence bits that are still to be read
abbrev pub flags_left : Flags → List Bool
flags_left (InPlace reading) = reading.bits
flags_left (Gathered bits index) = drop index bits

-- the presence bits of a bitmap that was taken off the bits s, in front of t
abbrev pub AreFlags : Bits → Bits → PresenceBits → List Bool → Type 0
AreFlags s t (Taken.InPlace count) flags = LastTaken count flags s t
AreFlags s t (Taken.Gathered bits) flags = bits ≡ flags

-- a fact of the presence bits that were taken
pub record HasFlags (s t : Bits) (P : List Bool → Type 0) (bitmap : PresenceBits) : Type 0 where
  pub flags : List Bool
  pub are : AreFlags s t bitmap flags
  pub held : P flags
