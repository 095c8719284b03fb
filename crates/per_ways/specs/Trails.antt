-- The way that a trail keeps.
use Rattle.per_ways.specs.declared.trail.Trail.{Trail}
use Rattle.per_ways.specs.Ways.{Way}

abbrev pub way : Trail → Way
way t = record { around = t.around.items; innermost = t.innermost; extent = t.extent; stopped = t.stopped }
