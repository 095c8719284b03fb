use Rattle.std.proofs.Common.{sym}
use Rattle.rasn_constraints.specs.Bounds.{unbounded}
use Rattle.rasn_schema.specs.Enumerations.{addeds_of, is_extensible, items_of}
use Rattle.rasn_schema.specs.Forms.{always, is_size_marked, number_schema, octet_schema, size_of}
use Rattle.rasn_schema.specs.Normal.{normal}
use Rattle.rasn_schema.specs.Schemas
use Rattle.rasn_dynamic.specs.Types.{counts_of}
use Rattle.rasn_dynamic.specs.Values.{levels_of, value_of}
use Rattle.rasn_dynamic.proofs.Places.{null_written, other_refused}
use Rattle.rasn_dynamic_codec.proofs.write_simple.encode_null.Goals as goal

pub returns-then-is_null : goal.returns-then-is_null
unfolding normal
returns-then-is_null g c = record { law = record { at = λ n le. rw (c.is_null.ensures.yes c.if-is_null.true) (null_written g.E.Encoder.rules Schemas.null _ c.args.encoder.now c.encode_null.result c.encode_null.new.self c.encode_null.ensures.law) }; behaves = c.encode_null.ensures.behaves }

pub returns : goal.returns
unfolding normal
returns g c = other_refused (always Schemas.null) (levels_of c.args.value.now) (value_of c.args.value.now) _ _ _ c.refuse_other.ensures (λ n. c.is_null.ensures.no c.if-is_null.false)
