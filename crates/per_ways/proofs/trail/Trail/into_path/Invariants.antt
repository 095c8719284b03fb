use Rattle.std.proofs.Common.{◌≡◌, take}
use Rattle.std.specs.List.{filter_map}
use Rattle.per_ways.specs.Ways.{step_of}
use Rattle.per_ways.proofs.trail.Trail.into_path.Given as goal

abbrev pub invariant-loop-frame : goal.invariant-loop-frame
invariant-loop-frame l = l.steps.items ≡ filter_map step_of (take l.frame-index l.frame-items)
