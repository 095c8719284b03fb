use Rattle.std.proofs.Common.{refl, sym, ◌∙◌}
use Rattle.rasn_schema.specs.Schemas.{group}
use Rattle.rasn_record.proofs.OneAddition.{addition_taken}
use Rattle.rasn_additions.proofs.additions.GroupPhantomDataOptionDecodeComponentAdded.decode_component.Goals as goal

pub returns : goal.returns
returns g c =
    let e = g.met.H.AdditionGroup.is_sequence g.H.AsnType.CONSTRAINTS ∙ sym (g.met.H.AdditionGroup.is_sequence c.args._constraints.now) in
    record {
      law = addition_taken g.D.Decoder.rules g.H.AsnType.value group _ _ _ _ _ refl (rw e at c.decode_extension_addition_group.ensures.law);
      behaves = c.decode_extension_addition_group.ensures.behaves;
    }
