use Rattle.std.proofs.Common.{false}
use Rattle.rasn_schema.specs.Forms.{always, bit_schema, is_size_marked, size_of}
use Rattle.rasn_schema.specs.Normal.{normal}
use Rattle.rasn_schema.specs.Schemas
use Rattle.rasn_dynamic.specs.Types.{of_size}
use Rattle.rasn_dynamic.specs.Values.{levels_of, value_of}
use Rattle.rasn_dynamic.proofs.Places.{other_refused}
use Rattle.rasn_dynamic_codec.proofs.write_simple.encode_bits.Goals as goal

pub returns : goal.returns
unfolding normal
returns g c = record { law = record { at = λ n le. rw c.in-Some.ensures (rw c.new-constraints.ensures at c.encode_bit_string.ensures.law) }; behaves = c.encode_bit_string.ensures.behaves }

pub returns-in_default : goal.returns-in_default
unfolding normal
returns-in_default g c = other_refused (always (bit_schema (of_size c.args.size.now))) (levels_of c.args.value.now) (value_of c.args.value.now) _ _ _ c.refuse_other.ensures (λ n. c.in_default.ensures (size_of (of_size c.args.size.now)) (is_size_marked (of_size c.args.size.now)) false)
