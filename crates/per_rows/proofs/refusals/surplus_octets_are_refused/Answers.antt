use Rattle.per_rows.proofs.Reading.{no_more}
use Rattle.per_rows.proofs.refusals.surplus_octets_are_refused.Goals as goal

pub returns : goal.returns
returns c = no_more
