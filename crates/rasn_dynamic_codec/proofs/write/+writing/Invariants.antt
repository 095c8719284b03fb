use Rattle.std.proofs.Common.{length, max, ◌+◌, ◌*◌}
use Rattle.rasn_schema.specs.Forms.{is_size_marked, size_of}
use Rattle.rasn_schema.specs.Lists.{deepest}
use Rattle.rasn_dynamic_codec.proofs.Elements.{Amidst, lists}
use Rattle.rasn_dynamic_codec.proofs.Members.{bags}
use Rattle.rasn_dynamic.specs.Types.{of_size, schema_at}
use Rattle.rasn_dynamic.specs.Values.{levels_of, value_of}
use Rattle.rasn_dynamic_codec.proofs.Components.{additions, components, Onward}
use Rattle.rasn_dynamic_codec.proofs.write.+writing.Given as goal

-- the levels of what is written fall by one from a value to its parts
abbrev pub decreases-encode_value : goal.decreases-encode_value
decreases-encode_value g l = 16 * levels_of l.value.now + 7

abbrev pub decreases-encode_kind : goal.decreases-encode_kind
decreases-encode_kind g l = 16 * levels_of l.value.now + 6

abbrev pub decreases-encode_containing : goal.decreases-encode_containing
decreases-encode_containing g l = 16 * levels_of l.value.now + 5

abbrev pub decreases-encode_contained : goal.decreases-encode_contained
decreases-encode_contained g l = 16 * levels_of l.value.now + 4

abbrev pub decreases-encode_plain : goal.decreases-encode_plain
decreases-encode_plain g l = 16 * levels_of l.value.now + 3

abbrev pub decreases-encode_list : goal.decreases-encode_list
decreases-encode_list g l = 16 * levels_of l.value.now + 2

abbrev pub decreases-encode_set_of : goal.decreases-encode_set_of
decreases-encode_set_of g l = 16 * levels_of l.value.now + 2

abbrev pub decreases-encode_record : goal.decreases-encode_record
decreases-encode_record g l = 16 * levels_of l.value.now + 2

abbrev pub decreases-encode_fields : goal.decreases-encode_fields
decreases-encode_fields g l = 16 * max (deepest levels_of l.root_values.now) (deepest levels_of l.added_values.now) + 12

abbrev pub decreases-encode_choice : goal.decreases-encode_choice
decreases-encode_choice g l = 16 * levels_of l.value.now + 2

abbrev pub decreases-encode_elements : goal.decreases-encode_elements
decreases-encode_elements g l = 16 * deepest levels_of l.values.now + 11

abbrev pub decreases-encode_members : goal.decreases-encode_members
decreases-encode_members g l = 16 * deepest levels_of l.values.now + 11

abbrev pub decreases-encode_components : goal.decreases-encode_components
decreases-encode_components g l = 16 * deepest levels_of l.values.now + 11

abbrev pub decreases-encode_additions : goal.decreases-encode_additions
decreases-encode_additions g l = 16 * deepest levels_of l.values.now + 11

abbrev pub decreases-encode_component : goal.decreases-encode_component
decreases-encode_component g l = 16 * levels_of l.value.now + 10

abbrev pub decreases-encode_addition : goal.decreases-encode_addition
decreases-encode_addition g l = 16 * levels_of l.value.now + 10

abbrev pub decreases-encode_optional : goal.decreases-encode_optional
decreases-encode_optional g l = 16 * levels_of l.value.now + 8

abbrev pub decreases-encode_default : goal.decreases-encode_default
decreases-encode_default g l = 16 * levels_of l.value.now + 9

abbrev pub decreases-encode_differing : goal.decreases-encode_differing
decreases-encode_differing g l = 16 * levels_of l.value.now + 9

abbrev pub decreases-encode_group : goal.decreases-encode_group
decreases-encode_group g l = 16 * levels_of l.value.now + 9

abbrev pub decreases-encode_group_of : goal.decreases-encode_group_of
decreases-encode_group_of g l = 16 * levels_of l.value.now + 8

abbrev pub decreases-encode_open : goal.decreases-encode_open
decreases-encode_open g l = 16 * levels_of l.value.now + 8

abbrev pub decreases-encode_chosen : goal.decreases-encode_chosen
decreases-encode_chosen g l = 16 * levels_of l.value.now + 8

-- the components up to a place were presented
abbrev pub invariant-encode_components-loop-index : goal.invariant-encode_components-loop-index
invariant-encode_components-loop-index g l = Onward g.E.Encoder.rules (components g.E.Encoder.rules g.met.E.Encoder.lawful) l.kinds l.components l.values l.fn.encoder l.index l.encoder

-- the additions up to a place were given
abbrev pub invariant-encode_additions-loop-index : goal.invariant-encode_additions-loop-index
invariant-encode_additions-loop-index g l = Onward g.E.Encoder.rules (additions g.E.Encoder.rules g.met.E.Encoder.lawful l.kinds) l.kinds l.components l.values l.fn.encoder l.index l.encoder

-- the elements from a place on are still to be written
abbrev pub invariant-encode_elements-loop-value : goal.invariant-encode_elements-loop-value
invariant-encode_elements-loop-value g l =
    Amidst lists g.E.Encoder.rules g.E.Encoder.amid_elements (schema_at l.kinds l.of) (size_of (of_size l.size)) (is_size_marked (of_size l.size)) levels_of value_of l.values l.fn.encoder l.value-index l.list l.encoder

-- the members from a place on are still to be written
abbrev pub invariant-encode_members-loop-value : goal.invariant-encode_members-loop-value
invariant-encode_members-loop-value g l =
    Amidst bags g.E.Encoder.rules g.E.Encoder.amid_members (schema_at l.kinds l.of) (size_of (of_size l.size)) (is_size_marked (of_size l.size)) levels_of value_of l.values l.fn.encoder l.value-index l.bag l.encoder
