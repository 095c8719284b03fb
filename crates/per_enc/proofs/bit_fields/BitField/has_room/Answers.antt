use Rattle.std.proofs.Common.{◌≡◌, ◌∙◌, sym, ap, length, arith}
use Rattle.std.proofs.lemmas.Bool.{leb-true, le-leb}
use Rattle.rasn_types.proofs.Bits.{length-to_bits}
use Rattle.per_enc.proofs.bit_fields.BitField.has_room.Goals as goal

pub returns : goal.returns
returns c =
    let long : length c.args.self.now ≡ c.self.inside.width = sym (ap length c.self.view_is) ∙ length-to_bits c.self.inside.width c.self.inside.value in
    (λ h. omega (arith, leb-true _ _ h), λ h. le-leb _ _ (omega (arith, h)))
