use Rattle.std.proofs.Common.{refl}
use Rattle.per_de.proofs.Decoder.answer.Goals as goal

pub returns-in-Ok : goal.returns-in-Ok
returns-in-Ok g c = rw c.in-Ok.is (refl, c.keep_last.ensures)
