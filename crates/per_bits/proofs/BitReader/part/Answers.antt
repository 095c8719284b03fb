use Rattle.std.proofs.Common.{◌≡◌, ◌∙◌, ◌+◌, ap, drop, length, take, arith, ℕ}
use Rattle.per_bits.proofs.Readers.{bits_are, left_is, part_taken}
use Rattle.per_bits.proofs.BitReader.part.Goals as goal

pub returns-clause-bits : goal.returns-clause-bits
returns-clause-bits c =
    let left : length c.args.self.now.bits ≡ c.self.inside.len = left_is c.self.inside.skip c.self.inside.len c.self.inside.octets.now c.args.self.now.bits (bits_are c.self.view_is) c.self.invariant in
    part_taken c.self.inside.skip c.self.inside.len c.args.begin c.args.count (c.from.result + c.args.begin) c.self.inside.octets.now (omega arith) (ap (λ (n : ℕ). n + c.args.begin) c.from.ensures)
    ∙ ap (λ bs. take c.args.count (drop c.args.begin bs)) (bits_are c.self.view_is)
