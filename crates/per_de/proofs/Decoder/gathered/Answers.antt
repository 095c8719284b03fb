use Rattle.std.proofs.Common.{refl}
use Rattle.per_de.proofs.Calls.{reads_ok, reads_err}
use Rattle.per_de.proofs.Decoder.gathered.Goals as goal

pub returns-in_err-octets-clause-read : goal.returns-in_err-octets-clause-read
returns-in_err-octets-clause-read c = reads_err _ _ c.from_residual.ensures.1 c.in_err-octets.ensures

pub returns-clause-read : goal.returns-clause-read
returns-clause-read c = reads_ok _ _ refl c.in_ok-octets.ensures
