use Rattle.std.proofs.Common.{◌∙◌, ◌++◌, ap, inr, rules}
use Rattle.rasn_types.specs.Identifiers.{are_arcs, contents}
use Rattle.per_enc.proofs.Moments.{identifier_law, identifier_refused, passes_unless}
use Rattle.per_enc.proofs.identifiers.put_object_identifier.Goals as goal

pub returns-in-Ok : goal.returns-in-Ok
returns-in-Ok g c =
    record {
      law = rw (← c.in_ok-allocator.ensures.kept)
          (identifier_law c.allocator.new.self c.put_octets.new.self c.args.arcs.now c.deref.result.now c.put_octets.result
          (c.deref.ensures.value ∙ c.in-Ok.ensures.written ∙ ap (λ z. z ++ contents c.args.arcs.now) c.new-octets.ensures.items)
          (passes_unless (are_arcs c.args.arcs.now) _ _ c.in-Ok.ensures.refused.1) c.put_octets.ensures);
      behaves = search rules;
    }

pub returns-in-Err-InvalidObjectIdentifier : goal.returns-in-Err-InvalidObjectIdentifier
returns-in-Err-InvalidObjectIdentifier g c =
    let i = c.in-Err-InvalidObjectIdentifier.field-0-is in
    record {
      law = rw (← c.in_ok-allocator.ensures.kept)
          (inr (identifier_refused c.refuse.result c.allocator.new.self c.args.arcs.now c.refuse.ensures.error (c.in-Err-InvalidObjectIdentifier.ensures.refused.0 cc)));
      behaves = search rules;
    }
