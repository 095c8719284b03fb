use Rattle.std.proofs.Common.{◌∙◌, ap, drop, sym, take, arith}
use Rattle.std.proofs.lemmas.List.{take-take}
use Rattle.rasn_types.specs.Bits.{unpack}
use Rattle.per_bits.proofs.Readers.{bits_are, left_is}
use Rattle.per_bits.proofs.BitReader.first_field.Goals as goal

pub returns : goal.returns
returns c =
    let l = left_is c.self.inside.skip c.self.inside.len c.self.inside.octets.now c.args.self.now.bits (bits_are c.self.view_is) c.self.invariant in
    c.read_field.ensures.bits ∙ sym (take-take c.args.width c.self.inside.len (drop c.self.inside.skip (unpack c.self.inside.octets.now)) (omega arith))
    ∙ ap (λ bs. take c.args.width bs) (bits_are c.self.view_is)
