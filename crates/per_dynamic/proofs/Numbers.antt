-- Rows whose value is a number.
use Rattle.std.proofs.Common.{◌≡◌, refl, sym, ap, ℕ, Bool, true, false, List, Option, ℤ}
use Rattle.std.specs.Prelude.{position}
use Rattle.rasn_types.specs.Values.{same, whole}
use Rattle.rasn_schema.specs.Normal.{normal, over_bag, over_bits}
use Rattle.rasn_schema.specs.Schemas
use Rattle.rasn_schema.specs.Schemas.{Schema}
use Rattle.rasn_schema.specs.declared.items.Place.TheVariants.{Added, Root}
use Rattle.rasn_dynamic.specs.Types.{default_value, schema_at}
use Rattle.rasn_dynamic.specs.Values.{value_of}
use Rattle.rasn_dynamic.specs.declared.types.DefaultValue.{DefaultValue}
use Rattle.rasn_dynamic.specs.declared.types.DefaultValue.TheVariants
use Rattle.rasn_dynamic.specs.declared.types.Kind.{Kind}
use Rattle.rasn_dynamic.specs.declared.types.Row.{Row}
use Rattle.rasn_dynamic.specs.declared.values.Value.{Value}
use Rattle.per_dynamic.specs.OpenTypes.{has_value}

-- a number is in normal form, whichever the schema
whole_normal : (s : Schema) (z : ℤ) → normal s (whole z) ≡ whole z
unfolding normal over_bag
whole_normal (Schemas.containing s) z = whole_normal s z
whole_normal (Schemas.bit_string b m true) z = refl
whole_normal (Schemas.bit_string b m false) z = refl
whole_normal (Schemas.list s b m) z = refl
whole_normal (Schemas.set_of s b m) z = refl
whole_normal (Schemas.sequence o ps x qs) z = refl
whole_normal (Schemas.choice ps qs x) z = refl
whole_normal _ z = refl

-- the first row with a number is the first whose value it is, by the type at a place
pub row_with_number : (ts : List Kind) (i : ℕ) (x : Value) (z : ℤ) (rs : List Row) → value_of x ≡ whole z
    → position (λ (r : Row). same (whole z) (default_value r.value)) rs ≡ position (has_value ts i x) rs
row_with_number ts i x z rs e =
    rw e (ap (λ v. position (λ (r : Row). same v (default_value r.value)) rs) (sym (whole_normal (schema_at ts i 0) z)))

-- what is no number isn't one
pub no_number : (d : DefaultValue) (z : ℤ) → ((w : ℤ) → d ≡ TheVariants.Integer w → ⊥) → false ≡ same (whole z) (default_value d)
unfolding same
no_number (TheVariants.Boolean b) z h = refl
no_number TheVariants.Null z h = refl
no_number (TheVariants.Integer w) z h = absurd (h w refl)
no_number (TheVariants.Item (Root i)) z h = refl
no_number (TheVariants.Item (Added i)) z h = refl
no_number (TheVariants.Octets os) z h = refl
no_number (TheVariants.Bits bs) z h = refl
no_number (TheVariants.Characters cs) z h = refl
no_number TheVariants.NoElements z h = refl
