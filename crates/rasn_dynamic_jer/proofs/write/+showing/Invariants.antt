use Rattle.std.proofs.Common.{◌≡◌, ◌+◌, ◌*◌, map, take}
use Rattle.rasn_schema.specs.Lists.{deepest}
use Rattle.rasn_dynamic.specs.Values.{levels_of}
use Rattle.rasn_dynamic_jer.specs.Puts.{AreAllPut, ArePut}
use Rattle.rasn_dynamic_jer.specs.Shown.{known, list_members, values_json}
use Rattle.rasn_dynamic_jer.proofs.write.+showing.Given as goal

-- the levels of what is written fall by one from a value to its parts
abbrev pub decreases-put_at : goal.decreases-put_at
decreases-put_at l = 16 * levels_of l.value.now + 7

abbrev pub decreases-put_kind : goal.decreases-put_kind
decreases-put_kind l = 16 * levels_of l.value.now + 6

abbrev pub decreases-put_list : goal.decreases-put_list
decreases-put_list l = 16 * levels_of l.value.now + 5

abbrev pub decreases-put_set_of : goal.decreases-put_set_of
decreases-put_set_of l = 16 * levels_of l.value.now + 5

abbrev pub decreases-put_record : goal.decreases-put_record
decreases-put_record l = 16 * levels_of l.value.now + 5

abbrev pub decreases-put_choice : goal.decreases-put_choice
decreases-put_choice l = 16 * levels_of l.value.now + 5

abbrev pub decreases-put_members : goal.decreases-put_members
decreases-put_members l = 16 * levels_of l.value.now + 4

abbrev pub decreases-put_array : goal.decreases-put_array
decreases-put_array l = 16 * deepest levels_of l.values.now + 12

abbrev pub decreases-put_values : goal.decreases-put_values
decreases-put_values l = 16 * deepest levels_of l.values.now + 11

abbrev pub decreases-put_components : goal.decreases-put_components
decreases-put_components l = 16 * deepest levels_of l.values.now + 11

abbrev pub decreases-put_component : goal.decreases-put_component
decreases-put_component l = 16 * levels_of l.value.now + 10

abbrev pub decreases-put_there : goal.decreases-put_there
decreases-put_there l = 16 * levels_of l.value.now + 9

abbrev pub decreases-put_named : goal.decreases-put_named
decreases-put_named l = 16 * levels_of l.value.now + 8

abbrev pub decreases-put_alternative : goal.decreases-put_alternative
decreases-put_alternative l = 16 * levels_of l.value.now + 10

abbrev pub decreases-put_open : goal.decreases-put_open
decreases-put_open l = 16 * levels_of l.value.now + 5

abbrev pub decreases-put_row : goal.decreases-put_row
decreases-put_row l = 16 * levels_of l.value.now + 10

abbrev pub decreases-put_one : goal.decreases-put_one
decreases-put_one l = 16 * levels_of l.value.now + 9

-- the values up to a place are written
abbrev pub invariant-put_values-loop-value : goal.invariant-put_values-loop-value
invariant-put_values-loop-value l = record {
  put : AreAllPut (values_json l.kinds l.levels l.of (take l.value-index l.values)) l.levels l.fn.writer l.writer;
  before : l.writer.before ≡ l.fn.writer.before;
}

-- the components up to a place are written
abbrev pub invariant-put_components-loop-index : goal.invariant-put_components-loop-index
invariant-put_components-loop-index l = record {
  put : ArePut (list_members l.kinds l.are_added l.levels (take l.index l.components) (map (known l.kinds) (take l.index l.values))) l.levels l.fn.writer l.writer;
  before : l.writer.before ≡ l.fn.writer.before;
}
