use Rattle.std.proofs.Common.{sym}
use Rattle.rasn_dynamic_codec.proofs.Alphabets.{wide}
use Rattle.rasn_dynamic_codec.proofs.characters.are_wide.Goals as goal

pub returns : goal.returns
returns g c = λ character h. wide c.intervals.result.now character c.intervals.ensures.ascends (rw c.intervals.ensures.expands h)
