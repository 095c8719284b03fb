use Rattle.std.proofs.Common.{◌≡◌, true, take, nat_lt}
use Rattle.rasn_schema.specs.Lawful.{all_pass}
use Rattle.lawful_types.proofs.places.are_alternatives_inside.Given as goal

abbrev pub invariant-loop-alternative : goal.invariant-loop-alternative
invariant-loop-alternative l = all_pass (λ a. nat_lt a.of l.fn.types) (take l.alternative-index l.fn.alternatives) ≡ true
