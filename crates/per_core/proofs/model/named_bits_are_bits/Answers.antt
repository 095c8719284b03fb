use Rattle.std.proofs.Common.{refl}
use Rattle.per_core.specs.Basic.{basic_in}
use Rattle.per_core.specs.Canon.{canon}
use Rattle.per_core.proofs.model.named_bits_are_bits.Goals as goal

pub returns-clause-written : goal.returns-clause-written
unfolding canon
returns-clause-written c = λ a size mark v. refl

pub returns-clause-read : goal.returns-clause-read
unfolding basic_in
returns-clause-read c = λ a u size mark v p b. (λ h. h, λ h. h)
