use Rattle.per_versions.proofs.OneWritten.{written_bits, written_bytes}
use Rattle.per_versions.proofs.written.what_was_read_is_written.Goals as goal

pub returns-clause-bits : goal.returns-clause-bits
returns-clause-bits c = λ a b s v octets l k m f z. written_bits a b s v octets l k m f z

pub returns-clause-octets : goal.returns-clause-octets
returns-clause-octets c = λ a b s v octets l k m f z. written_bytes a b s v octets l k m f z
