-- Calls that write what is short, without an error.
use Rattle.std.specs.Prelude.{◌≡◌, Bool, true, false}
use Rattle.rasn_types.specs.Values.{Value}
use Rattle.rasn_schema.specs.Schemas.{Schema}
use Rattle.per_write.specs.Components.{Encoding}
use Rattle.per_enc.specs.Rules.{Presents}

-- A value is written where memory suffices, by an encoder that hadn't been refused; else it has failed. The variant
-- stays.
pub record PutsWhere (suffices : Bool) (s : Schema) (v : Value) (x y : Encoding) : Type 0 where
  pub begun : x.writer.failed ≡ false
  pub put : suffices ≡ true → Presents x s v y
  pub fails : suffices ≡ false → y.writer.failed ≡ true
  pub kept : y.writer.codec ≡ x.writer.codec
