use Rattle.std.proofs.Common.{◌≡◌, ◌+◌, ◌*◌, drop, take}
use Rattle.per_dynamic.specs.OpenTypes.{Each, Takes, TakesTold}
use Rattle.per_dynamic.proofs.open_types.+taking.Given as goal

-- the levels left fall by one from a value to its parts
abbrev pub decreases-take_at : goal.decreases-take_at
decreases-take_at l = 16 * l.levels + 1

abbrev pub decreases-take_within : goal.decreases-take_within
decreases-take_within l = 16 * l.levels + 13

abbrev pub decreases-take_parts : goal.decreases-take_parts
decreases-take_parts l = 16 * l.levels + 12

abbrev pub decreases-take_list : goal.decreases-take_list
decreases-take_list l = 16 * l.levels + 11

abbrev pub decreases-take_set_of : goal.decreases-take_set_of
decreases-take_set_of l = 16 * l.levels + 11

abbrev pub decreases-take_record : goal.decreases-take_record
decreases-take_record l = 16 * l.levels + 11

abbrev pub decreases-take_choice : goal.decreases-take_choice
decreases-take_choice l = 16 * l.levels + 11

abbrev pub decreases-take_values : goal.decreases-take_values
decreases-take_values l = 16 * l.levels + 10

abbrev pub decreases-take_fields : goal.decreases-take_fields
decreases-take_fields l = 16 * l.levels + 10

abbrev pub decreases-take_field : goal.decreases-take_field
decreases-take_field l = 16 * l.levels + 9

abbrev pub decreases-take_one : goal.decreases-take_one
decreases-take_one l = 16 * l.levels + 8

abbrev pub decreases-take_open : goal.decreases-take_open
decreases-take_open l = 16 * l.levels + 7

abbrev pub decreases-read_open : goal.decreases-read_open
decreases-read_open l = 16 * l.levels + 6

abbrev pub decreases-write_open : goal.decreases-write_open
decreases-write_open l = 16 * l.levels + 6

abbrev pub decreases-row_value : goal.decreases-row_value
decreases-row_value l = 16 * l.levels + 5

abbrev pub decreases-row_octets : goal.decreases-row_octets
decreases-row_octets l = 16 * l.levels + 5

-- the elements up to a place are taken, and those behind are as they were
abbrev pub invariant-take_values-loop-value : goal.invariant-take_values-loop-value
invariant-take_values-loop-value l =
    Each (λ k. Takes l.way l.types.kinds.items l.levels l.of) (take l.value-index l.initial.values) (take l.value-index l.values)
    × (drop l.value-index l.values ≡ drop l.value-index l.initial.values)

-- the components up to a place are taken, and those behind are as they were
abbrev pub invariant-take_fields-loop-index : goal.invariant-take_fields-loop-index
invariant-take_fields-loop-index l =
    TakesTold l.way l.types.kinds.items (Takes l.way l.types.kinds.items l.levels) l.components l.rows
    (take l.index l.initial.values) (take l.index l.values) × (drop l.index l.values ≡ drop l.index l.initial.values)
