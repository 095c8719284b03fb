use Rattle.std.proofs.Common.{subst, sym}
use Rattle.per_decoding.proofs.Scoping.Choices.{back_to, spells_of}
use Rattle.per_decoding.specs.State.{Spells}
use Rattle.per_decoding.proofs.laws.choice_is_what_stands_after_its_index.Goals as goal

pub returns : goal.returns
returns p = λ c a d k s i t w v h e. (
  λ b. let r = back_to c d k a h e t v b in record { value = r.1.0; is = r.1.1; end = r.0; reads = r.1.2; closes = r.2 },
  λ x. subst (λ z. Spells c s z t) (sym x.is) (spells_of c d k a h e x.end t x.value x.reads x.closes),
)
