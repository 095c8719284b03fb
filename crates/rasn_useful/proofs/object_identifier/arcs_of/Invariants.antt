use Rattle.std.proofs.Common.{◌≡◌, map}
use Rattle.std.specs.Fmt.{decimal}
use Rattle.rasn_useful.proofs.object_identifier.arcs_of.Given as goal

-- the arcs so far are the numbers so far
abbrev pub invariant-loop-number : goal.invariant-loop-number
invariant-loop-number l = map decimal l.arcs.items ≡ map (λ x. x.now) l.yielded
