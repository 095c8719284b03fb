use Rattle.std.proofs.Common.{sym}
use Rattle.rasn_types.specs.Contents.{utc}
use Rattle.rasn_schema.specs.Forms.{always}
use Rattle.rasn_schema.specs.Normal.{normal}
use Rattle.rasn_schema.specs.Schemas
use Rattle.rasn_dynamic.specs.Values.{levels_of, value_of}
use Rattle.rasn_dynamic.proofs.Places.{other_refused}
use Rattle.rasn_dynamic_codec.proofs.write_simple.encode_utc_time.Goals as goal

pub returns-in-Some : goal.returns-in-Some
unfolding normal
returns-in-Some g c = record { law = record { at = λ n le. rw c.in-Some.ensures.read (rw c.new.ensures at c.encode_utc_time.ensures.law) }; behaves = c.encode_utc_time.ensures.behaves }

pub returns-in-None : goal.returns-in-None
unfolding normal
returns-in-None g c = other_refused (always (Schemas.time utc)) (levels_of c.args.value.now) (value_of c.args.value.now) _ _ _ c.refuse_other.ensures (λ n. sym c.in-None.ensures.accepted)
