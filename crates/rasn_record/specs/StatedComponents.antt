-- A few components, each by its presence and by what its type states.
use Rattle.std.specs.Prelude.{ℕ, List, [], ◌∷◌}
use Rattle.std.specs.Borrow.{Bor}
use Rattle.rasn_types.specs.declared.types.Tag.{Tag}
use Rattle.rasn_constraints.specs.Constraints.{Effective}
use Rattle.rasn_constraints.specs.declared.constraints.Constraint.{Constraint}
use Rattle.rasn_schema.specs.Schemas.{Schema, Parts, Presence, no_parts, part}
use Rattle.rasn_schema.specs.Records.{own_or}
use Rattle.rasn_schema.specs.Fields.{Shape, tagged}
use Rattle.rasn_record.specs.Lists.{behind, first_given, first_tree}

-- a component: the tag of its type, whether it may be absent, and its type's constraints and schema
pub record Kept : Type 0 where
  pub tag : Tag
  pub presence : Presence
  pub own : Effective
  pub schema : Effective → ℕ → Schema

abbrev pub kept : Tag → Presence → Effective → (Effective → ℕ → Schema) → Kept
kept tag presence own schema = record { tag = tag; presence = presence; own = own; schema = schema }

-- these components, by what the lists of fields and of constraints state of them
abbrev pub kept_parts : List Kept → List Shape → List (Bor (List Constraint)) → ℕ → Parts
kept_parts [] fs cs n = no_parts
kept_parts (k ∷ ks) fs cs n =
    part (first_tree (tagged k.tag) fs) k.presence (k.schema (own_or k.own (first_given cs)) n)
    (kept_parts ks (behind fs) (behind cs) n)
