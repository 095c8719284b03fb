-- What the errors of an encoder say.
use Rattle.std.specs.Prelude.{ℕ, ◌≡◌, Bool, true, false, None}
use Rattle.rasn_types.specs.Variants.{variant_of}
use Rattle.rasn_types.specs.Values.{Value}
use Rattle.rasn_schema.specs.Schemas.{Schema}
use Rattle.per_core.specs.Canon.{canon}
use Rattle.per_write.specs.WriterState.{WriterState}
use Rattle.per_core.specs.declared.encode_error.EncodeError.{EncodeError}
use Rattle.per_core.specs.declared.encode_error.EncodeErrorKind.{EncodeErrorKind}
use Rattle.per_core.specs.declared.encode_error.EncodeErrorKind.TheVariants.{AlreadyFailed, OutOfMemory, OutOfTurn}
use Rattle.per_core.specs.WritingFaults.{IsInValue}

-- an error of a kind, under the variant in use
pub record IsError (kind : EncodeErrorKind) (e : EncodeError) (x : WriterState) : Type 0 where
  pub kind_is : e.kind ≡ kind
  pub codec_is : e.codec ≡ x.codec

-- memory ran out
abbrev pub IsMemory : EncodeError → WriterState → Type 0
IsMemory = IsError OutOfMemory

-- the encoder had been refused before
abbrev pub IsAlready : EncodeError → WriterState → Type 0
IsAlready = IsError AlreadyFailed

-- where a kind's fault stands: in the value, or in what the encoder was before
abbrev pub Stands : EncodeErrorKind → WriterState → Schema → Value → Type 0
Stands AlreadyFailed x s v = x.failed ≡ true
Stands k x s v = IsInValue k s v

-- A value is refused: from no position has it an encoding, unless the encoder had been refused before; and the error's
-- fault is in it.
pub record RefusesValue (e : EncodeError) (x : WriterState) (s : Schema) (v : Value) : Type 0 where
  pub none : x.failed ≡ false → (p : ℕ) → canon (variant_of x.codec) s v p ≡ None
  pub stands : Stands e.kind x s v
  pub codec_is : e.codec ≡ x.codec

-- why nothing is put out, by whether the encoder had been refused before, and whether something is open
abbrev pub output_fault : Bool → Bool → EncodeErrorKind
output_fault true is_open = AlreadyFailed
output_fault false true = OutOfTurn
output_fault false false = OutOfMemory

-- Nothing is put out: the encoder had been refused before, else something is open, else memory ran out.
abbrev pub RefusesOutput : EncodeError → WriterState → Type 0
RefusesOutput e x = IsError (output_fault x.failed x.scope.is_open) e x
