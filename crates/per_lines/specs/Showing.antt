-- What is shown of octets as JSON (ITU-T X.697).
use Rattle.std.specs.Prelude.{ℕ, List}
use Rattle.per_core.specs.Spellings.{Settings}
use Rattle.rasn_below.specs.Types.{Schema}
use Rattle.rasn_below.specs.Values.{Value}
use Rattle.rasn_jer.specs.Calls.{AreText, IsRefusedBy}
use Rattle.rasn_jer.specs.declared.error.EncodeError.{EncodeError}
use Rattle.rasn_per.specs.Calls.{AreReadBy}

-- octets are read as one value, of which a text is the JSON
pub record AreShown (a : Settings) (schema : ℕ → Schema) (octets text : List ℕ) : Type 0 where
  pub value : Value
  pub levels : ℕ
  pub is_read : AreReadBy a schema value octets
  pub is_text : AreText schema levels value text

-- octets are read as one value, in which the fault stands that an error names, or for which memory ran out
pub record HasNoText (a : Settings) (schema : ℕ → Schema) (octets : List ℕ) (e : EncodeError) : Type 0 where
  pub value : Value
  pub levels : ℕ
  pub is_read : AreReadBy a schema value octets
  pub is_refused : IsRefusedBy schema levels value e
