use Rattle.std.proofs.Common.{◌∙◌, sym}
use Rattle.per_read.proofs.Calls.{some_for}
use Rattle.per_read.proofs.Reader.skip_short_octet_string.Goals as goal

pub returns-in_default-clause-took : goal.returns-in_default-clause-took
returns-in_default-clause-took c = rw (sym c.size.ensures ∙ c.in_default.is) (some_for _ _ _ _ _ _ c.skip_unfragmented.result c.skip_unfragmented.ensures.took)

pub returns-in_default-clause-none : goal.returns-in_default-clause-none
returns-in_default-clause-none c none unmarked = rw (sym c.size.ensures ∙ c.in_default.is) (c.skip_unfragmented.ensures.none none)

pub returns-clause-none : goal.returns-clause-none
returns-clause-none c none unmarked = rw (sym c.size.ensures ∙ c.in-Some.is) (c.skip_sized.ensures.none none)
