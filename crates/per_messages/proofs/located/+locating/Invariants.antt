use Rattle.std.proofs.Common.{◌+◌, ◌*◌}
use Rattle.per_messages.proofs.located.+locating.Given as goal

-- the levels left fall by one from a value to its parts
abbrev pub decreases-locate : goal.decreases-locate
decreases-locate l = 3 * l.levels

abbrev pub decreases-locate_item : goal.decreases-locate_item
decreases-locate_item l = 3 * l.levels + 1

abbrev pub decreases-locate_member : goal.decreases-locate_member
decreases-locate_member l = 3 * l.levels + 2

abbrev pub decreases-locate_in : goal.decreases-locate_in
decreases-locate_in l = 3 * l.levels + 1
