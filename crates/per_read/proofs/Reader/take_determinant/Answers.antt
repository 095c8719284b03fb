use Rattle.std.proofs.Common.{refl}
use Rattle.per_read.proofs.Calls.{from_start}
use Rattle.per_read.proofs.Reader.take_determinant.Goals as goal

pub returns : goal.returns
returns c = from_start (c.in_default.ensures.none refl) c.in_default.ensures.kept c.take_determinant_by_bits.ensures
