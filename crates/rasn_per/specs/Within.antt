-- A value within octets: its complete encoding (ITU-T X.691, 11.1), as the calls of `rasn_per` write it.
use Rattle.std.specs.Prelude.{◌≡◌, ◌≢◌, ℕ, List, Result, IfOk, IfErr}
use Rattle.rasn_types.specs.Variants.{variant_of}
use Rattle.rasn_types.specs.Values.{Value}
use Rattle.rasn_types.specs.declared.types.Codec.{Codec}
use Rattle.rasn_schema.specs.Schemas.{Schema}
use Rattle.rasn_schema.specs.Normal.{normal, AtDepths}
use Rattle.per_core.specs.WritingFaults.{IsInValue}
use Rattle.per_core.specs.declared.encode_error.EncodeError.{EncodeError}
use Rattle.per_core.specs.declared.encode_error.EncodeErrorKind.TheVariants.{OutOfMemory}
use Rattle.rasn_per.specs.Calls.{AreBytes, HasNoBytes}

-- A value is written into octets by the schema of its type: these are its canonical bytes, or, memory aside, it is
-- refused only where it has none, by a kind that names a fault of the value.
pub record Wraps {T : Type 0} (octets : T → List ℕ) (codec : Codec) (schema : ℕ → Schema) (levels : ℕ) (v : Value)
    (result : Result T EncodeError) : Type 0 where
  pub ok : IfOk result (λ x. AreBytes (variant_of codec) schema levels v (octets x))
  pub err : IfErr result (λ e. e.kind ≢ OutOfMemory → HasNoBytes (variant_of codec) schema levels v)
  pub kind : IfErr result (λ e. e.kind ≢ OutOfMemory → AtDepths schema levels (λ s. IsInValue e.kind s (normal s v)))
  pub variant : IfErr result (λ e. e.codec ≡ codec)
