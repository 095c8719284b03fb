use Rattle.std.proofs.Common.{◌≡◌, true, length, take}
use Rattle.rasn_schema.specs.Lawful.{all_pass}
use Rattle.lawful_types.specs.PlacesInside.{is_inside}
use Rattle.lawful_types.proofs.places.type_outside.Given as goal

abbrev pub invariant-loop-place : goal.invariant-loop-place
invariant-loop-place l = all_pass (is_inside (length l.fn.kinds)) (take l.place l.fn.kinds) ≡ true
