use Rattle.std.proofs.Common.{◌≡◌, ◌+◌, ◌*◌, drop, map}
use Rattle.rasn_types.specs.AllOf.{all_of}
use Rattle.rasn_dynamic.specs.declared.types.Component.{Component}
use Rattle.rasn_dynamic.specs.Values.{slot_of, value_of}
use Rattle.json.specs.Value.{value_view}
use Rattle.rasn_dynamic_jer.specs.Shown.{group_in}
use Rattle.rasn_dynamic_jer.specs.FromJson.{addition_told, component_told, told_at}
use Rattle.rasn_dynamic_jer.proofs.Gathered.{before}
use Rattle.rasn_dynamic_jer.proofs.read.+reading.Given as goal

-- the levels left fall by one from a value to its parts
abbrev pub decreases-read_at : goal.decreases-read_at
decreases-read_at l = 16 * l.levels + 2

abbrev pub decreases-read_kind : goal.decreases-read_kind
decreases-read_kind l = 16 * l.levels + 1

abbrev pub decreases-read_within : goal.decreases-read_within
decreases-read_within l = 16 * l.levels + 10

abbrev pub decreases-read_list : goal.decreases-read_list
decreases-read_list l = 16 * l.levels + 9

abbrev pub decreases-read_set_of : goal.decreases-read_set_of
decreases-read_set_of l = 16 * l.levels + 9

abbrev pub decreases-read_array : goal.decreases-read_array
decreases-read_array l = 16 * l.levels + 8

abbrev pub decreases-read_items : goal.decreases-read_items
decreases-read_items l = 16 * l.levels + 7

abbrev pub decreases-read_record : goal.decreases-read_record
decreases-read_record l = 16 * l.levels + 9

abbrev pub decreases-read_additions : goal.decreases-read_additions
decreases-read_additions l = 16 * l.levels + 7

abbrev pub decreases-read_addition : goal.decreases-read_addition
decreases-read_addition l = 16 * l.levels + 6

abbrev pub decreases-read_group : goal.decreases-read_group
decreases-read_group l = 16 * l.levels + 5

abbrev pub decreases-read_components : goal.decreases-read_components
decreases-read_components l = 16 * l.levels + 4

abbrev pub decreases-read_component : goal.decreases-read_component
decreases-read_component l = 16 * l.levels + 3

abbrev pub decreases-read_choice : goal.decreases-read_choice
decreases-read_choice l = 16 * l.levels + 9

abbrev pub decreases-read_alternative : goal.decreases-read_alternative
decreases-read_alternative l = 16 * l.levels + 6

abbrev pub decreases-read_members : goal.decreases-read_members
decreases-read_members l = 16 * l.levels + 8

abbrev pub decreases-read_one : goal.decreases-read_one
decreases-read_one l = 16 * l.levels + 8

abbrev pub decreases-read_named : goal.decreases-read_named
decreases-read_named l = 16 * l.levels + 7

abbrev pub decreases-read_chosen : goal.decreases-read_chosen
decreases-read_chosen l = 16 * l.levels + 4

abbrev pub decreases-read_open : goal.decreases-read_open
decreases-read_open l = 16 * l.levels + 9

abbrev pub decreases-read_opened : goal.decreases-read_opened
decreases-read_opened l = 16 * l.levels + 8

abbrev pub decreases-read_row : goal.decreases-read_row
decreases-read_row l = 16 * l.levels + 7

abbrev pub decreases-read_row_named : goal.decreases-read_row_named
decreases-read_row_named l = 16 * l.levels + 6

abbrev pub decreases-read_row_at : goal.decreases-read_row_at
decreases-read_row_at l = 16 * l.levels + 5

-- the values read, and what the items left tell, are what all items tell
abbrev pub invariant-read_items-loop-item : goal.invariant-read_items-loop-item
invariant-read_items-loop-item l =
    before (map value_of l.values.items) (all_of (λ x. told_at l.kinds l.levels l.of (value_view x)) (drop l.item-index l.items))
    ≡ all_of (λ x. told_at l.kinds l.levels l.of (value_view x)) l.items

-- the components read, and what is told of those left, are what is told of all
abbrev pub invariant-read_components-loop-component : goal.invariant-read_components-loop-component
invariant-read_components-loop-component l =
    let f = component_told (told_at l.kinds l.levels) (value_view l.json) in
    before (map slot_of l.values.items) (all_of f (drop l.component-index l.components)) ≡ all_of f l.components

abbrev pub invariant-read_additions-loop-component : goal.invariant-read_additions-loop-component
invariant-read_additions-loop-component l =
    let f = λ (c : Component). addition_told (told_at l.kinds l.levels) (value_view l.json) (group_in l.kinds c) c in
    before (map slot_of l.values.items) (all_of f (drop l.component-index l.components)) ≡ all_of f l.components
