use Rattle.std.proofs.Common.{◌≡◌, ◌++◌, ◌∙◌, sym, ap, length, arith, refl}
use Rattle.rasn_types.specs.Bits.{to_bits}
use Rattle.rasn_types.proofs.Bits.{length-to_bits}
use Rattle.per_write.proofs.Fields.{field_more}
use Rattle.per_enc.proofs.bit_fields.BitField.push.Goals as goal

pub invariant_of-self : goal.invariant_of-self
invariant_of-self c =
    let long : length c.args.self.now ≡ c.self.inside.width = sym (ap length c.self.view_is) ∙ length-to_bits c.self.inside.width c.self.inside.value in
    let more = field_more c.self.inside.value c.self.inside.width c.args.number c.args.width _ c.from.result c.self.invariant.fits c.requires.fits (omega arith) c.from.ensures refl in
    record { few = omega arith; fits = more.0 }

pub returns : goal.returns
returns c =
    let long : length c.args.self.now ≡ c.self.inside.width = sym (ap length c.self.view_is) ∙ length-to_bits c.self.inside.width c.self.inside.value in
    let more = field_more c.self.inside.value c.self.inside.width c.args.number c.args.width _ c.from.result c.self.invariant.fits c.requires.fits (omega arith) c.from.ensures refl in
    more.1 ∙ ap (λ bs. bs ++ to_bits c.args.width c.args.number) c.self.view_is
