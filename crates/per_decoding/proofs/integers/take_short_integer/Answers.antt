use Rattle.std.proofs.Common.{◌∙◌, sym}
use Rattle.per_decoding.proofs.integers.take_short_integer.Goals as goal

pub returns-in_default-clause-none : goal.returns-in_default-clause-none
returns-in_default-clause-none g c e m = rw (sym c.value.ensures ∙ c.in_default.is) (c.take_short_unconstrained.ensures.none e)

pub returns-in-None-None-clause-none : goal.returns-in-None-None-clause-none
returns-in-None-None-clause-none g c e m =
    rw (sym c.value.ensures ∙ c.in-Some.is, sym c.start_and_end.ensures.start ∙ c.in-None-None.is-0, sym c.start_and_end.ensures.end ∙ c.in-None-None.is-1)
    (c.take_short_unconstrained-in-None-None.ensures.none e)

pub returns-in_default-start_and_end-clause-none : goal.returns-in_default-start_and_end-clause-none
returns-in_default-start_and_end-clause-none g c e m = rw (sym c.value.ensures ∙ c.in-Some.is) (c.take_short_within.ensures.none e)
