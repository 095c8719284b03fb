use Rattle.std.proofs.Common.{◌≡◌, drop}
use Rattle.rasn_constraints.specs.Constraints.{first_of, stated_alphabet}
use Rattle.rasn_constraints.proofs.constraints.Constraints.permitted_alphabet.Given as goal

-- the first of the constraints that are left is the first of all
abbrev pub invariant-loop-constraint : goal.invariant-loop-constraint
invariant-loop-constraint l = first_of stated_alphabet (drop l.constraint-index l.constraint-items) ≡ l.self.alphabet
