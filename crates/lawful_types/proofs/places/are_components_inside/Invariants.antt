use Rattle.std.proofs.Common.{◌≡◌, true, take, nat_lt}
use Rattle.rasn_schema.specs.Lawful.{all_pass}
use Rattle.lawful_types.proofs.places.are_components_inside.Given as goal

abbrev pub invariant-loop-component : goal.invariant-loop-component
invariant-loop-component l = all_pass (λ c. nat_lt c.of l.fn.types) (take l.component-index l.fn.components) ≡ true
