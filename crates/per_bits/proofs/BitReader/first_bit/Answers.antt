use Rattle.std.proofs.Common.{◌∙◌, ap, drop, sym, take, arith}
use Rattle.std.proofs.lemmas.List.{take-take}
use Rattle.rasn_types.specs.Bits.{number_of, unpack}
use Rattle.per_bits.proofs.Loops.{number_is}
use Rattle.per_bits.proofs.Readers.{bits_are, first_of_octet, left_is}
use Rattle.per_bits.proofs.BitReader.first_bit.Goals as goal

pub returns : goal.returns
returns c =
    let l = sym (left_is c.self.inside.skip c.self.inside.len c.self.inside.octets.now c.args.self.now.bits (bits_are c.self.view_is) c.self.invariant) in
    number_is 1 c.read_field.result (take 1 (drop c.self.inside.skip (unpack (take 1 c.self.inside.octets.now)))) c.read_field.ensures.bits c.read_field.ensures.below
    ∙ ap number_of (first_of_octet c.self.inside.skip c.self.inside.octets.now c.self.invariant.few
    ∙ sym (take-take 1 c.self.inside.len (drop c.self.inside.skip (unpack c.self.inside.octets.now)) (omega arith)) ∙ ap (λ bs. take 1 bs) (bits_are c.self.view_is))
