use Rattle.std.proofs.Common.{sym}
use Rattle.rasn_constraints.specs.Bounds.{unbounded}
use Rattle.rasn_schema.specs.Enumerations.{addeds_of, is_extensible, items_of}
use Rattle.rasn_schema.specs.Forms.{always, is_size_marked, number_schema, octet_schema, size_of}
use Rattle.rasn_schema.specs.Normal.{normal}
use Rattle.rasn_schema.specs.Schemas
use Rattle.rasn_dynamic.specs.Types.{counts_of}
use Rattle.rasn_dynamic.specs.Values.{levels_of, value_of}
use Rattle.rasn_dynamic.proofs.Places.{null_written, other_refused}
use Rattle.rasn_dynamic_codec.proofs.write_simple.encode_boolean.Goals as goal

pub returns-in-Some : goal.returns-in-Some
unfolding normal
returns-in-Some g c = record { law = record { at = λ n le. rw c.in-Some.ensures c.encode_bool.ensures.law }; behaves = c.encode_bool.ensures.behaves }

pub returns-in-None : goal.returns-in-None
unfolding normal
returns-in-None g c = other_refused (always Schemas.boolean) (levels_of c.args.value.now) (value_of c.args.value.now) _ _ _ c.refuse_other.ensures (λ n. c.in-None.ensures)
