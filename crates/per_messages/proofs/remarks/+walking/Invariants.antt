use Rattle.std.proofs.Common.{◌+◌, ◌*◌, take}
use Rattle.std.specs.Prelude.{slice_get}
use Rattle.per_messages.specs.Remarks.{Adds, each_of, of_elements, of_field, remarks_at}
use Rattle.per_messages.proofs.remarks.+walking.Given as goal

-- the levels left fall by one from a value to its parts
abbrev pub decreases-push_remarks : goal.decreases-push_remarks
decreases-push_remarks l = 16 * l.levels + 1

abbrev pub decreases-push_within : goal.decreases-push_within
decreases-push_within l = 16 * l.levels + 13

abbrev pub decreases-push_parts : goal.decreases-push_parts
decreases-push_parts l = 16 * l.levels + 12

abbrev pub decreases-push_list : goal.decreases-push_list
decreases-push_list l = 16 * l.levels + 11

abbrev pub decreases-push_record : goal.decreases-push_record
decreases-push_record l = 16 * l.levels + 11

abbrev pub decreases-push_choice : goal.decreases-push_choice
decreases-push_choice l = 16 * l.levels + 11

abbrev pub decreases-push_elements : goal.decreases-push_elements
decreases-push_elements l = 16 * l.levels + 10

abbrev pub decreases-push_fields : goal.decreases-push_fields
decreases-push_fields l = 16 * l.levels + 10

abbrev pub decreases-push_field : goal.decreases-push_field
decreases-push_field l = 16 * l.levels + 9

abbrev pub decreases-push_open : goal.decreases-push_open
decreases-push_open l = 16 * l.levels + 8

-- the remarks on the elements up to a place
abbrev pub invariant-push_elements-loop-index : goal.invariant-push_elements-loop-index
invariant-push_elements-loop-index l = Adds l.fn.remarks.items l.remarks.items
    (of_elements (remarks_at l.kinds l.levels) l.path l.of (take l.index l.values))

-- the remarks on the components up to a place
abbrev pub invariant-push_fields-loop-index : goal.invariant-push_fields-loop-index
invariant-push_fields-loop-index l = Adds l.fn.remarks.items l.remarks.items
    (each_of (λ k y. of_field l.kinds (remarks_at l.kinds l.levels) l.path l.root l.root_values (slice_get l.components k) y)
    (take l.index l.values))
