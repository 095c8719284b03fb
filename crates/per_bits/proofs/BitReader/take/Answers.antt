use Rattle.std.proofs.Common.{◌∙◌, sym, ap, ◌-◌, ◌+◌, ℕ, arith}
use Rattle.per_bits.proofs.Readers.{bits_are, left_is, left_length, taken}
use Rattle.per_bits.proofs.BitReader.take.Goals as goal

pub returns-in_default-clause-missing : goal.returns-in_default-clause-missing
returns-in_default-clause-missing c = ap (λ (n : ℕ). c.args.count - n) (sym (left_is c.self.inside.skip c.self.inside.len c.self.inside.octets.now c.args.self.now.bits (bits_are c.self.view_is) c.self.invariant))

pub returns-clause-ok : goal.returns-clause-ok
returns-clause-ok c = sym (bits_are c.self.view_is) ∙ taken c.self.inside.skip c.self.inside.len c.args.count _ (c.from.result + c.args.count) c.self.inside.octets.now c.in-Some.ensures (ap (λ (n : ℕ). n + c.args.count) c.from.ensures)

pub returns-clause-count : goal.returns-clause-count
returns-clause-count c = left_length c.self.inside.skip c.args.count c.self.inside.octets.now (omega (arith, c.self.invariant.enough, c.in-Some.ensures))
