-- Texts of times that aren't written.
use Rattle.std.specs.Prelude.{◌≡◌, ◌⊎◌, Result, Err}
use Rattle.rasn_strings.specs.declared.time_error.TimeError.{TimeError}
use Rattle.rasn_strings.specs.declared.time_error.TimeError.TheVariants.{Unrepresentable}
use Rattle.per_core.specs.declared.encode_error.EncodeError.{EncodeError}
use Rattle.per_core.specs.declared.encode_error.EncodeErrorKind.TheVariants.{Below}
use Rattle.per_write.specs.Faults.{IsError, IsMemory}
use Rattle.per_write.specs.WriterState.{WriterState}

-- there is no text: memory ran out, or none can hold the moment
abbrev pub Unwritten : {T : Type 0} → Result T TimeError → EncodeError → WriterState → Type 0
Unwritten text e x = IsMemory e x ⊎ (IsError Below e x × (text ≡ Err Unrepresentable))
