use Rattle.std.proofs.Common.{◌+◌, ◌*◌}
use Rattle.schema_file.proofs.values.+reading.Given as goal

-- a level fewer below each list, record and alternative
abbrev pub decreases-default_tree : goal.decreases-default_tree
decreases-default_tree l = 2 * l.levels + 1

abbrev pub decreases-default_list : goal.decreases-default_list
decreases-default_list l = 2 * l.levels

abbrev pub decreases-default_slots : goal.decreases-default_slots
decreases-default_slots l = 2 * l.levels
