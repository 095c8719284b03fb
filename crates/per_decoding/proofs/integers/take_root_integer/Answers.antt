use Rattle.std.proofs.Common.{sym, ◌∙◌}
use Rattle.per_decoding.proofs.integers.take_root_integer.Goals as goal

pub returns-in-None-None : goal.returns-in-None-None
returns-in-None-None g c =
    rw (sym c.start_and_end.ensures.start ∙ c.in-None-None.is-0, sym c.start_and_end.ensures.end ∙ c.in-None-None.is-1) c.take_unconstrained_integer.ensures
