-- What a call answers that writes a value as JSON: the main theorem.
use Rattle.std.specs.Prelude.{ℕ, ◌≡◌, ◌≤◌, ◌⊎◌, List, Some}
use Rattle.rasn_types.specs.Values.{Value}
use Rattle.rasn_schema.specs.Normal.{normal, AtDepths}
use Rattle.rasn_schema.specs.Schemas.{Schema}
use Rattle.json.specs.Json.{document, Json, max_depth}
use Rattle.json.specs.Tree.{depth}
use Rattle.rasn_jer.specs.Rules.{fault_of}
use Rattle.rasn_jer.specs.Shown.{Shows, StandsIn}
use Rattle.rasn_jer.specs.Texts.{text_of}
use Rattle.rasn_jer.specs.declared.error.EncodeError.{EncodeError}
use Rattle.rasn_jer.specs.declared.error.EncodeError.TheVariants.{OutOfMemory}

-- a text is that of a JSON value which shows a value; where that nests no deeper than 128 levels, the text is read back
-- as it
pub record IsTextOf (s : Schema) (v : Value) (text : List ℕ) : Type 0 where
  pub json : Json
  pub shows : Shows s v json
  pub is_text : text ≡ text_of json
  pub is_read : depth json ≤ max_depth → document text ≡ Some json

-- the JSON text of the normal form of a value by a family of schemas, at each depth that holds it
abbrev pub AreText : (ℕ → Schema) → ℕ → Value → List ℕ → Type 0
AreText schema levels v text = AtDepths schema levels (λ s. IsTextOf s (normal s v) text)

-- a value is refused: memory ran out, or the fault that an error names is in it
abbrev pub IsRefusedBy : (ℕ → Schema) → ℕ → Value → EncodeError → Type 0
IsRefusedBy schema levels v e = AtDepths schema levels
    (λ s. (e ≡ OutOfMemory) ⊎ StandsIn (fault_of e) s (normal s v))
