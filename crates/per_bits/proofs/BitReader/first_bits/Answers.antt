use Rattle.std.proofs.Common.{◌∙◌, ap, drop, sym, take, arith}
use Rattle.std.proofs.lemmas.List.{take-take}
use Rattle.rasn_types.specs.Bits.{number_of, unpack}
use Rattle.per_bits.proofs.Loops.{number_is}
use Rattle.per_bits.proofs.Readers.{bits_are, left_is}
use Rattle.per_bits.proofs.BitReader.first_bits.Goals as goal

pub returns-then-count-from : goal.returns-then-count-from
returns-then-count-from c =
    let l = sym (left_is c.self.inside.skip c.self.inside.len c.self.inside.octets.now c.args.self.now.bits (bits_are c.self.view_is) c.self.invariant) in
    c.from-then-count-from.ensures ∙ number_is c.args.count c.read_field.result (take c.args.count (drop c.self.inside.skip (unpack c.self.inside.octets.now))) c.read_field.ensures.bits c.read_field.ensures.below
    ∙ ap number_of (sym (take-take c.args.count c.self.inside.len (drop c.self.inside.skip (unpack c.self.inside.octets.now)) (omega arith)) ∙ ap (λ bs. take c.args.count bs) (bits_are c.self.view_is))

pub returns-else-count-from : goal.returns-else-count-from
returns-else-count-from c =
    let l = sym (left_is c.self.inside.skip c.self.inside.len c.self.inside.octets.now c.args.self.now.bits (bits_are c.self.view_is) c.self.invariant) in
    c.read_wide_field.ensures ∙ ap number_of (sym (take-take c.args.count c.self.inside.len (drop c.self.inside.skip (unpack c.self.inside.octets.now)) (omega arith)) ∙ ap (λ bs. take c.args.count bs) (bits_are c.self.view_is))
