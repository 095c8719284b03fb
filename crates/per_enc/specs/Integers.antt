-- INTEGER, with and without bounds (ITU-T X.691, 13).
use Rattle.std.specs.Prelude.{◌≡◌, ◌≤ℤ◌, ◌⊎◌, ℤ, true, false, Some, Result}
use Rattle.rasn_types.specs.Variants.{variant_of}
use Rattle.rasn_constraints.specs.Bounds.{Bounds, holds}
use Rattle.rasn_constraints.specs.Constraints.{bounds_of}
use Rattle.rasn_constraints.specs.declared.constraints.Bounded.{Bounded}
use Rattle.rasn_constraints.specs.declared.constraints.Extensible.{Extensible}
use Rattle.rasn_schema.specs.Schemas.{Schema}
use Rattle.per_core.specs.Counts.{number_under}
use Rattle.per_core.specs.declared.encode_error.EncodeError.{EncodeError}
use Rattle.per_core.specs.declared.encode_error.EncodeErrorKind.TheVariants.{IntegerTypeConversionFailed}
use Rattle.per_write.specs.Faults.{IsError, IsMemory}
use Rattle.per_core.specs.WritingFaults.{IsPast}
use Rattle.per_write.specs.WriterState.{Puts, WriterState}
use Rattle.per_enc.specs.declared.integers.Between.{Between}

-- an INTEGER under a value constraint
abbrev pub stated_number : Extensible (Bounded ℤ) → Bounds → Schema
stated_number stated range = Schema.number (bounds_of stated.constraint) stated.extensible range

-- X.691 13.2: a call that writes a number within bounds, in the form that these give it: an error says that memory ran
-- out, or that the number is past an i128
abbrev pub PutsWithin : Bounds → ℤ → WriterState → Result (Unit {0}) EncodeError → WriterState → Type 0
PutsWithin bounds z x result y =
    Puts (λ e w. IsMemory e w ⊎ (IsError IntegerTypeConversionFailed e w × IsPast bounds z))
    (number_under (variant_of x.codec) bounds.low bounds.high z) x result y

-- a number is within two bounds that a constraint states, which has no extension marker, and its type holds it
pub record IsBetween (stated : Extensible (Bounded ℤ)) (range : Bounds) (z : ℤ) (b : Between) : Type 0 where
  pub unmarked : stated.extensible ≡ false
  pub low : (bounds_of stated.constraint).low ≡ Some b.lower
  pub high : (bounds_of stated.constraint).high ≡ Some b.upper
  pub is : b.number ≡ z
  pub within : holds (bounds_of stated.constraint) z ≡ true
  pub not_below : b.lower ≤ℤ z
  pub not_above : z ≤ℤ b.upper
  pub held : holds range z ≡ true
