-- The constraints at a place of a list.
use Rattle.std.specs.Prelude.{ℕ, List, Option, Some, None, slice_get}
use Rattle.std.specs.Borrow.{Bor}
use Rattle.rasn_constraints.specs.Constraints.{Effective}
use Rattle.rasn_constraints.specs.declared.constraints.Constraint.{Constraint}
use Rattle.rasn_record.specs.Lists.{given}

-- constraints, where there are some at a place
abbrev pub given_in : Option (Bor (List Constraint)) → Option Effective
given_in None = None
given_in (Some b) = given b.now

-- those that the alternative at a place is given
abbrev pub given_at : List (Bor (List Constraint)) → ℕ → Option Effective
given_at cs place = given_in (slice_get cs place)
