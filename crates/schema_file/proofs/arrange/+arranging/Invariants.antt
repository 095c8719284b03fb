use Rattle.std.proofs.Common.{◌+◌, ◌*◌}
use Rattle.schema_file.proofs.arrange.+arranging.Given as goal

-- a level fewer below each list, record and alternative
abbrev pub decreases-arrange_told : goal.decreases-arrange_told
decreases-arrange_told l = 3 * l.levels

abbrev pub decreases-arrange_elements : goal.decreases-arrange_elements
decreases-arrange_elements l = 3 * l.levels + 1

abbrev pub decreases-arrange_record : goal.decreases-arrange_record
decreases-arrange_record l = 3 * l.levels + 2

abbrev pub decreases-arrange_slots : goal.decreases-arrange_slots
decreases-arrange_slots l = 3 * l.levels + 1
