use Rattle.std.proofs.Common.{◌+◌, ◌*◌, map, max}
use Rattle.rasn_types.specs.Values.{same}
use Rattle.rasn_schema.specs.Lists.{deepest}
use Rattle.rasn_schema.specs.Normal.{is_idle, normal, normals}
use Rattle.rasn_dynamic.specs.Defaults.{groups, same_slot}
use Rattle.rasn_dynamic.specs.Types.{parts_in, presence_of, schema_at, tree_slot, tree_value}
use Rattle.rasn_dynamic.specs.Values.{levels_of, slot_of, value_of}
use Rattle.rasn_dynamic.proofs.Pairs.{Pairing}
use Rattle.rasn_dynamic.proofs.default_trees.+comparing.Given as goal

-- the levels of what is compared fall by one from a value to its parts
abbrev pub decreases-comes_to : goal.decreases-comes_to
decreases-comes_to l = 16 * levels_of l.value.now + 2

abbrev pub decreases-list_comes_to : goal.decreases-list_comes_to
decreases-list_comes_to l = 16 * levels_of l.value.now + 1

abbrev pub decreases-choice_comes_to : goal.decreases-choice_comes_to
decreases-choice_comes_to l = 16 * levels_of l.value.now + 1

abbrev pub decreases-record_comes_to : goal.decreases-record_comes_to
decreases-record_comes_to l = 16 * levels_of l.value.now + 1

abbrev pub decreases-elements_come_to : goal.decreases-elements_come_to
decreases-elements_come_to l = 16 * deepest levels_of l.values.now + 8

abbrev pub decreases-parts_come_to : goal.decreases-parts_come_to
decreases-parts_come_to l = 16 * deepest levels_of l.values.now + 8

abbrev pub decreases-part_comes_to : goal.decreases-part_comes_to
decreases-part_comes_to l = 16 * levels_of l.value.now + 7

abbrev pub decreases-component_comes_to : goal.decreases-component_comes_to
decreases-component_comes_to l = 16 * levels_of l.value.now + 6

abbrev pub decreases-slot_comes_to : goal.decreases-slot_comes_to
decreases-slot_comes_to l = 16 * levels_of l.value.now + 3

-- the elements up to a place are those of the default
abbrev pub invariant-elements_come_to-loop-index : goal.invariant-elements_come_to-loop-index
invariant-elements_come_to-loop-index l =
    Pairing (deepest levels_of l.values) (λ n v d. same (normal (schema_at l.kinds l.place n) (value_of v)) (tree_value d)) (λ n. l.values) (λ n. l.tolds) l.index

-- the parts up to a place are
abbrev pub invariant-parts_come_to-loop-index : goal.invariant-parts_come_to-loop-index
invariant-parts_come_to-loop-index l =
    Pairing (deepest levels_of l.values) (λ n. same_slot) (λ n. normals (parts_in (groups l.are_added l.kinds) (λ j. schema_at l.kinds j n) l.components) (map slot_of l.values)) (λ n. map tree_slot l.tolds) l.index

-- the levels of what is looked at fall by one from a record to its parts
abbrev pub decreases-are_idle : goal.decreases-are_idle
decreases-are_idle l = 16 * deepest levels_of l.values.now + 8

abbrev pub decreases-is_idle : goal.decreases-is_idle
decreases-is_idle l = 16 * levels_of l.value.now + 7

abbrev pub decreases-is_vacant_group : goal.decreases-is_vacant_group
decreases-is_vacant_group l = 16 * levels_of l.value.now + 5

abbrev pub decreases-is_vacant : goal.decreases-is_vacant
decreases-is_vacant l = 16 * levels_of l.value.now + 4

-- the parts up to a place are absent or their defaults
abbrev pub invariant-are_idle-loop-index : goal.invariant-are_idle-loop-index
invariant-are_idle-loop-index l =
    Pairing (deepest levels_of l.values) (λ n c o. is_idle (presence_of (groups l.are_added l.kinds c) c.presence) o) (λ n. l.components) (λ n. normals (parts_in (groups l.are_added l.kinds) (λ j. schema_at l.kinds j n) l.components) (map slot_of l.values)) l.index
