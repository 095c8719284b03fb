use Rattle.std.proofs.Common.{◌≡◌, true, take}
use Rattle.rasn_schema.specs.Lawful.{all_pass}
use Rattle.lawful_types.specs.PlacesInside.{is_name_inside}
use Rattle.lawful_types.proofs.places.name_outside.Given as goal

abbrev pub invariant-loop-index : goal.invariant-loop-index
invariant-loop-index l = all_pass (is_name_inside l.fn.types) (take l.index l.fn.names) ≡ true
