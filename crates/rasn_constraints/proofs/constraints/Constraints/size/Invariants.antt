use Rattle.std.proofs.Common.{◌≡◌, drop}
use Rattle.rasn_constraints.specs.Constraints.{first_of, stated_size}
use Rattle.rasn_constraints.proofs.constraints.Constraints.size.Given as goal

-- the first of the constraints that are left is the first of all
abbrev pub invariant-loop-constraint : goal.invariant-loop-constraint
invariant-loop-constraint l = first_of stated_size (drop l.constraint-index l.constraint-items) ≡ l.self.size
