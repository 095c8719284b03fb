use Rattle.std.proofs.Common.{◌+◌, ◌*◌}
use Rattle.rasn_dynamic.specs.Values.{levels_of}
use Rattle.rasn_schema.specs.Lists.{deepest}
use Rattle.rasn_dynamic.proofs.display.+writing.Given as goal

-- the levels of what is written fall by one from a value to its parts
abbrev pub decreases-write_value : goal.decreases-write_value
decreases-write_value g l = 2 * levels_of l.value.now

abbrev pub decreases-write_values : goal.decreases-write_values
decreases-write_values g l = 2 * deepest levels_of l.values.now + 1
