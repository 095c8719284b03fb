use Rattle.std.proofs.Common.{sym, ◌∙◌}
use Rattle.per_decoding.proofs.integers.take_integer.Goals as goal

pub returns-in-Some : goal.returns-in-Some
returns-in-Some g c = rw (sym c.value.ensures ∙ c.in-Some.is) c.take_extensible_integer.ensures

pub returns-in-None : goal.returns-in-None
returns-in-None g c = rw (sym c.value.ensures ∙ c.in-None.is) c.take_unconstrained_integer.ensures
