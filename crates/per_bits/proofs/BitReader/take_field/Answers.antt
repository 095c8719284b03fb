use Rattle.std.proofs.Common.{◌≡◌, ◌∙◌, ◌++◌, sym, ap, take, drop, arith}
use Rattle.std.proofs.lemmas.List.{take-take, take_at}
use Rattle.rasn_types.specs.Bits.{to_bits, unpack}
use Rattle.per_bits.proofs.Readers.{bits_are, left_is}
use Rattle.per_bits.proofs.BitReader.take_field.Goals as goal

pub returns-clause-bits : goal.returns-clause-bits
returns-clause-bits c =
    let taken = rw c.unwrap.ensures at c.take.ensures in
    let left = left_is c.self.inside.skip c.self.inside.len c.self.inside.octets.now c.args.self.now.bits (bits_are c.self.view_is) c.self.invariant in
    let front : to_bits c.args.width c.read_field-number.result ≡ c.unwrap.result.bits = c.read_field-number.ensures.bits
    ∙ sym (take-take c.args.width c.self.inside.len (drop c.self.inside.skip (unpack c.self.inside.octets.now)) (omega arith)) ∙ ap (take c.args.width) ((bits_are c.self.view_is) ∙ taken.ok)
    ∙ take_at c.unwrap.result.bits c.take.new.self.bits c.args.width (taken.count ∙ c.from.ensures) in
    taken.ok ∙ ap (λ bs. bs ++ c.take.new.self.bits) (sym front)
