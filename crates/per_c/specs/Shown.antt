-- Why octets have no JSON (ITU-T X.697).
use Rattle.std.specs.Prelude.{ℕ, List}
use Rattle.per_core.specs.Spellings.{Settings}
use Rattle.per_lines.specs.Recoding.{IsRefusal}
use Rattle.per_lines.specs.Showing.{HasNoText}
use Rattle.line_replies.specs.declared.fault.Fault.TheVariants as Faults
use Rattle.rasn_below.specs.Types.{Schema}
use Rattle.per_c.specs.declared.refusal.Refusal.{Refusal}
use Rattle.per_c.specs.declared.refusal.Refusal.TheVariants.{Decode, Json}

-- why octets have no JSON: they are refused as those that are recoded, or are read as a value that has none
abbrev pub IsUnshown : Settings → (ℕ → Schema) → List ℕ → Refusal → Type 0
IsUnshown a schema octets (Decode kind) = IsRefusal a schema octets (Faults.Decode kind)
IsUnshown a schema octets (Json e) = HasNoText a schema octets e
IsUnshown a schema octets _ = ⊥
