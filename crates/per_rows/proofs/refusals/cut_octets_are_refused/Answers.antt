use Rattle.per_rows.proofs.Reading.{no_less}
use Rattle.per_rows.proofs.refusals.cut_octets_are_refused.Goals as goal

pub returns : goal.returns
returns c = no_less
