use Rattle.std.proofs.Common.{◌≡◌, ◌+◌, ◌*◌, suc, map}
use Rattle.rasn_schema.specs.Forms.{is_size_marked, size_of}
use Rattle.rasn_dynamic.specs.Types.{of_size, schema_at}
use Rattle.rasn_dynamic.specs.Values.{value_of}
use Rattle.rasn_dynamic_codec.proofs.Reading.{OnwardRead, read_additions, read_components}
use Rattle.rasn_dynamic_codec.proofs.read.+reading.Given as goal

-- the levels left fall by one from a value to its parts
abbrev pub decreases-decode_value : goal.decreases-decode_value
decreases-decode_value g l = 16 * g.D.Decoder.rules.levels l.decoder.now + 6

abbrev pub decreases-decode_kind : goal.decreases-decode_kind
decreases-decode_kind g l = 16 * g.D.Decoder.rules.levels l.decoder.now + 5

abbrev pub decreases-decode_containing : goal.decreases-decode_containing
decreases-decode_containing g l = 16 * g.D.Decoder.rules.levels l.decoder.now + 4

abbrev pub decreases-decode_contained : goal.decreases-decode_contained
decreases-decode_contained g l = 16 * g.D.Decoder.rules.levels l.decoder.now + 3

abbrev pub decreases-decode_plain : goal.decreases-decode_plain
decreases-decode_plain g l = 16 * g.D.Decoder.rules.levels l.decoder.now + 2

abbrev pub decreases-decode_list : goal.decreases-decode_list
decreases-decode_list g l = 16 * g.D.Decoder.rules.levels l.decoder.now + 1

abbrev pub decreases-decode_set_of : goal.decreases-decode_set_of
decreases-decode_set_of g l = 16 * g.D.Decoder.rules.levels l.decoder.now + 1

abbrev pub decreases-decode_elements : goal.decreases-decode_elements
decreases-decode_elements g l = 16 * g.D.Decoder.rules.levels l.decoder.now + 0

abbrev pub decreases-decode_record : goal.decreases-decode_record
decreases-decode_record g l = 16 * g.D.Decoder.rules.levels l.decoder.now + 1

abbrev pub decreases-decode_components : goal.decreases-decode_components
decreases-decode_components g l = 16 * g.D.Decoder.rules.levels l.decoder.now + 11

abbrev pub decreases-put_component : goal.decreases-put_component
decreases-put_component g l = 16 * g.D.Decoder.rules.levels l.decoder.now + 10

abbrev pub decreases-put_optional : goal.decreases-put_optional
decreases-put_optional g l = 16 * g.D.Decoder.rules.levels l.decoder.now + 9

abbrev pub decreases-put_default : goal.decreases-put_default
decreases-put_default g l = 16 * g.D.Decoder.rules.levels l.decoder.now + 9

abbrev pub decreases-put_value : goal.decreases-put_value
decreases-put_value g l = 16 * g.D.Decoder.rules.levels l.decoder.now + 8

abbrev pub decreases-put_kind : goal.decreases-put_kind
decreases-put_kind g l = 16 * g.D.Decoder.rules.levels l.decoder.now + 7

abbrev pub decreases-put_record : goal.decreases-put_record
decreases-put_record g l = 16 * g.D.Decoder.rules.levels l.decoder.now + 6

abbrev pub decreases-put_other : goal.decreases-put_other
decreases-put_other g l = 16 * g.D.Decoder.rules.levels l.decoder.now + 6

abbrev pub decreases-decode_default : goal.decreases-decode_default
decreases-decode_default g l = 16 * g.D.Decoder.rules.levels l.decoder.now + 7

abbrev pub decreases-decode_choice : goal.decreases-decode_choice
decreases-decode_choice g l = 16 * g.D.Decoder.rules.levels l.decoder.now + 1

abbrev pub decreases-decode_chosen : goal.decreases-decode_chosen
decreases-decode_chosen g l = 16 * g.D.Decoder.rules.levels l.decoder.now + 8

abbrev pub decreases-decode_boxed : goal.decreases-decode_boxed
decreases-decode_boxed g l = 16 * g.D.Decoder.rules.levels l.decoder.now + 7

abbrev pub decreases-decode_additions : goal.decreases-decode_additions
decreases-decode_additions g l = 16 * g.D.Decoder.rules.levels l.decoder.now + 9

abbrev pub decreases-decode_addition : goal.decreases-decode_addition
decreases-decode_addition g l = 16 * g.D.Decoder.rules.levels l.decoder.now + 8

abbrev pub decreases-decode_open : goal.decreases-decode_open
decreases-decode_open g l = 16 * g.D.Decoder.rules.levels l.decoder.now + 7

-- the elements that were read are of one of the trees of their type
abbrev pub invariant-decode_elements-loop-values : goal.invariant-decode_elements-loop-values
invariant-decode_elements-loop-values g l =
    let d = g.D.Decoder in
    record {
      deeper : d.rules.levels l.fn.decoder ≡ suc (d.rules.levels l.decoder);
      amid : d.amid_elements (schema_at l.kinds l.of (d.rules.levels l.decoder)) (size_of (of_size l.size)) (is_size_marked (of_size l.size)) l.fn.decoder (map value_of l.values.items) l.list l.decoder;
      kept : d.rules.codec l.decoder ≡ d.rules.codec l.fn.decoder;
    }

abbrev pub decreases-decode_elements-loop-values : goal.decreases-decode_elements-loop-values
decreases-decode_elements-loop-values g l = g.D.Decoder.most l.list

-- the components up to a place were read
abbrev pub invariant-decode_components-loop-component : goal.invariant-decode_components-loop-component
invariant-decode_components-loop-component g l = OnwardRead g.D.Decoder.rules (read_components g.D.Decoder.rules g.met.D.Decoder.lawful) l.kinds l.components l.fn.decoder l.component-index l.values.items l.decoder

-- the additions up to a place were read
abbrev pub invariant-decode_additions-loop-component : goal.invariant-decode_additions-loop-component
invariant-decode_additions-loop-component g l = OnwardRead g.D.Decoder.rules (read_additions g.D.Decoder.rules g.met.D.Decoder.lawful l.kinds) l.kinds l.components l.fn.decoder l.component-index l.values.items l.decoder
