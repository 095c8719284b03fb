use Rattle.std.proofs.Common.{◌≡◌, true, take}
use Rattle.rasn_schema.specs.Lawful.{all_pass}
use Rattle.lawful_types.specs.TypeRules.{has_lawful_default}
use Rattle.lawful_types.proofs.defaults.have_lawful_defaults.Given as goal

abbrev pub invariant-loop-component : goal.invariant-loop-component
invariant-loop-component l = all_pass (has_lawful_default l.fn.kinds) (take l.component-index l.fn.components) ≡ true
