use Rattle.std.proofs.Common.{rules, arith}
use Rattle.per_bits.proofs.Readers.{are_whole, not_begun, not_ended, whole_octets}
use Rattle.per_bits.proofs.BitReader.aligned_octets.Goals as goal
use Rattle.per_bits.proofs.BitReader.aligned_octets.Goals.{then-self-ne0-via-then-self-ne0, then-self-ne0-via-else-self-ne0+then-self-ne0-2}

pub returns-then-self-ne0-clause-whole : goal.returns-then-self-ne0-clause-whole
returns-then-self-ne0-clause-whole c = elim c.then-self-ne0.branch [
  | then-self-ne0-via-then-self-ne0 w ↦ (search rules, λ h. absurd (not_begun c.self.inside.skip c.self.inside.len c.self.inside.octets.now c.self.view_is (λ z. omega (arith, w.if-self-ne0.true)) h))
  | then-self-ne0-via-else-self-ne0+then-self-ne0-2 w ↦ (search rules, λ h. absurd (not_ended c.self.view_is c.self.invariant (λ z. omega (arith, w.if-self-ne0-2.true)) h))
]

pub returns-clause-same : goal.returns-clause-same
returns-clause-same c = whole_octets c.self.inside.skip c.self.inside.len c.self.inside.octets.now c.self.view_is c.if-self-ne0.false c.if-self-ne0-2.false

pub returns-clause-whole : goal.returns-clause-whole
returns-clause-whole c = (λ _. are_whole c.self.view_is c.self.invariant c.if-self-ne0.false c.if-self-ne0-2.false, search rules)
