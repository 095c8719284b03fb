-- What the canonical octets of a value are.
use Rattle.std.specs.Prelude.{◌≡◌, ℕ, List, Some, None}
use Rattle.rasn_types.specs.Variants.{Variant}
use Rattle.rasn_types.specs.Values.{Value}
use Rattle.rasn_schema.specs.Schemas.{Schema}
use Rattle.rasn_schema.specs.Normal.{normal, AtDepths}
use Rattle.per_core.specs.Canon.{bytes}
pub use Rattle.rasn_types.specs.Variants.{Variant, aligned, unaligned, variant_of}
pub use Rattle.rasn_types.specs.declared.types.Codec.{Codec}
pub use Rattle.rasn_types.specs.declared.types.Codec.TheVariants.{Aper, Uper}
unfoldable pub use Rattle.rasn_types.specs.Identifiers.{contents, subidentifier}
unfoldable pub use Rattle.per_core.specs.Canon.{bytes}

-- X.691 11.1: the canonical octets of x, by the schema of its type at each number of levels that holds x
abbrev pub IsWrittenAs : {T : Type 0} → Variant → (ℕ → Schema) → (T → ℕ) → (T → Value) → T → List ℕ → Type 0
IsWrittenAs a schema levels value x octets = AtDepths schema (levels x)
    (λ s. bytes a s (normal s (value x)) ≡ Some octets)

-- there are none
abbrev pub IsUnwritten : {T : Type 0} → Variant → (ℕ → Schema) → (T → ℕ) → (T → Value) → T → Type 0
IsUnwritten a schema levels value x = AtDepths schema (levels x) (λ s. bytes a s (normal s (value x)) ≡ None)
