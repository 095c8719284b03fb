use Rattle.std.proofs.Common.{refl}
use Rattle.rasn_schema.specs.Forms.{always}
use Rattle.rasn_schema.specs.Normal.{normal}
use Rattle.rasn_schema.specs.Schemas
use Rattle.rasn_dynamic.specs.Values.{levels_of, value_of}
use Rattle.rasn_dynamic.proofs.Places.{nothing_written, other_refused}
use Rattle.rasn_dynamic_codec.proofs.write_simple.encode_identifier.Goals as goal

pub returns-in_default : goal.returns-in_default
unfolding normal
returns-in_default g c = other_refused (always Schemas.identifier) (levels_of c.args.value.now) (value_of c.args.value.now) _ _ _ c.refuse_other.ensures (λ n. c.in_default.ensures.no_identifier)

pub returns-in-Ok : goal.returns-in-Ok
unfolding normal
returns-in-Ok g c = record { law = record { at = λ n le. rw c.in-Some.ensures (rw (c.deref.ensures.value, c.in-Ok.ensures.read) at c.encode_object_identifier.ensures.law) }; behaves = c.encode_object_identifier.ensures.behaves }

pub returns-in-Err-OutOfMemory : goal.returns-in-Err-OutOfMemory
returns-in-Err-OutOfMemory g c = nothing_written (always Schemas.identifier) (levels_of c.args.value.now) (value_of c.args.value.now) _ _ _ c.refuse_out_of_memory.ensures

pub returns-in-Err-InvalidObjectIdentifier : goal.returns-in-Err-InvalidObjectIdentifier
unfolding normal
returns-in-Err-InvalidObjectIdentifier g c = other_refused (always Schemas.identifier) (levels_of c.args.value.now) (value_of c.args.value.now) _ _ _ c.refuse_other-in-Err-InvalidObjectIdentifier.ensures
    (λ n. rw c.in-Some.ensures (c.in-Err-InvalidObjectIdentifier.ensures.refused (rw c.in-Err-InvalidObjectIdentifier.field-0-is refl)))
