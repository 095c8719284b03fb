use Rattle.std.proofs.Common.{sym}
use Rattle.rasn_constraints.specs.Bounds.{unbounded}
use Rattle.rasn_constraints.specs.Constraints.{bounds_in, is_marked}
use Rattle.rasn_schema.specs.Enumerations.{addeds_of, is_extensible, items_of}
use Rattle.rasn_schema.specs.Forms.{always, is_size_marked, number_schema, octet_schema, size_of}
use Rattle.rasn_schema.specs.Normal.{normal}
use Rattle.rasn_schema.specs.Schemas
use Rattle.rasn_dynamic.specs.Types.{of_value}
use Rattle.rasn_dynamic.specs.Values.{levels_of, value_of}
use Rattle.rasn_dynamic.proofs.Places.{null_written, other_refused}
use Rattle.rasn_dynamic_codec.proofs.write_simple.encode_integer.Goals as goal

pub returns : goal.returns
unfolding normal
returns g c = record { law = record { at = λ n le. rw c.in-Some.ensures (rw c.new-constraints.ensures at c.encode_integer.ensures.law) }; behaves = c.encode_integer.ensures.behaves }

pub returns-in_default : goal.returns-in_default
unfolding normal
returns-in_default g c = other_refused (always (number_schema (of_value c.args.bounds.now) unbounded)) (levels_of c.args.value.now) (value_of c.args.value.now) _ _ _ c.refuse_other.ensures (λ n. c.in_default.ensures (bounds_in (of_value c.args.bounds.now).value) unbounded (is_marked (of_value c.args.bounds.now).value))
