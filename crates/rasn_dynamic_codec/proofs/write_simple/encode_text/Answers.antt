use Rattle.rasn_types.specs.Contents.{other}
use Rattle.rasn_schema.specs.Forms.{always}
use Rattle.rasn_schema.specs.Normal.{normal}
use Rattle.rasn_schema.specs.Schemas
use Rattle.rasn_dynamic.specs.Values.{levels_of, value_of}
use Rattle.rasn_dynamic.proofs.Places.{nothing_written, other_refused}
use Rattle.rasn_dynamic_codec.proofs.write_simple.encode_text.Goals as goal

pub returns-in_default : goal.returns-in_default
unfolding normal
returns-in_default g c = other_refused (always (Schemas.text other)) (levels_of c.args.value.now) (value_of c.args.value.now) _ _ _ c.refuse_other.ensures (λ n. c.in_default.ensures.no_text other)

pub returns-in_default-clone : goal.returns-in_default-clone
returns-in_default-clone g c = nothing_written (always (Schemas.text other)) (levels_of c.args.value.now) (value_of c.args.value.now) _ _ _ c.refuse_out_of_memory.ensures

pub returns : goal.returns
unfolding normal
returns g c = record { law = record { at = λ n le. rw c.in-Some.ensures (rw (c.new-text.ensures, c.into_vec.ensures, c.in-Ok.ensures.cases) at c.encode_general_string.ensures.law) }; behaves = c.encode_general_string.ensures.behaves }
