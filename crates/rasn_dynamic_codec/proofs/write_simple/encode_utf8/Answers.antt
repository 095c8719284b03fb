use Rattle.rasn_types.specs.Contents.{utf8}
use Rattle.rasn_types.proofs.Texts.{is_text-false}
use Rattle.rasn_schema.specs.Forms.{always}
use Rattle.rasn_schema.specs.Normal.{normal}
use Rattle.rasn_schema.specs.Schemas
use Rattle.rasn_dynamic.specs.Values.{levels_of, value_of}
use Rattle.rasn_dynamic.proofs.Places.{other_refused}
use Rattle.rasn_dynamic_codec.proofs.write_simple.encode_utf8.Goals as goal

pub returns-in_default : goal.returns-in_default
unfolding normal
returns-in_default g c = other_refused (always (Schemas.text utf8)) (levels_of c.args.value.now) (value_of c.args.value.now) _ _ _ c.refuse_other.ensures (λ n. c.in_default.ensures.no_text utf8)

pub returns-in-Ok : goal.returns-in-Ok
unfolding normal
returns-in-Ok g c = record { law = record { at = λ n le. rw c.in-Some.ensures (rw c.in-Ok.ensures.cases.0 at c.encode_utf8_string.ensures.law) }; behaves = c.encode_utf8_string.ensures.behaves }

pub returns-in-Err : goal.returns-in-Err
unfolding normal
returns-in-Err g c = other_refused (always (Schemas.text utf8)) (levels_of c.args.value.now) (value_of c.args.value.now) _ _ _ c.refuse_other-in-Err.ensures (λ n. rw c.in-Some.ensures (is_text-false _ c.in-Err.ensures.cases.0))
