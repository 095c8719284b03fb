-- Many required components, each by what its type states.
use Rattle.std.specs.Prelude.{ℕ, List, [], ◌∷◌}
use Rattle.std.specs.Borrow.{Bor}
use Rattle.rasn_types.specs.declared.types.Tag.{Tag}
use Rattle.rasn_constraints.specs.Constraints.{Effective}
use Rattle.rasn_constraints.specs.declared.constraints.Constraint.{Constraint}
use Rattle.rasn_schema.specs.Schemas.{Schema, Parts, part, required}
use Rattle.rasn_schema.specs.Records.{own_or}
use Rattle.rasn_schema.specs.Fields.{Shape, tagged}
use Rattle.rasn_record.specs.Lists.{behind, first_given, first_tree}

-- what a type states: its tag, its constraints, and its schema under constraints to a number of levels
pub record Typed : Type 0 where
  pub tag : Tag
  pub own : Effective
  pub schema : Effective → ℕ → Schema

abbrev pub typed : Tag → Effective → (Effective → ℕ → Schema) → Typed
typed tag own schema = record { tag = tag; own = own; schema = schema }

-- required components of these types and those after them, by what the lists of fields and of constraints state of
-- them
abbrev pub typed_parts : List Typed → (List Shape → List (Bor (List Constraint)) → ℕ → Parts) → List Shape
    → List (Bor (List Constraint)) → ℕ → Parts
typed_parts [] next fs cs n = next fs cs n
typed_parts (t ∷ ts) next fs cs n =
    part (first_tree (tagged t.tag) fs) required (t.schema (own_or t.own (first_given cs)) n)
    (typed_parts ts next (behind fs) (behind cs) n)
