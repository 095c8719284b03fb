use Rattle.std.proofs.Common.{true}
use Rattle.per_versions.proofs.Faultless.{no_fault, read_whole}
use Rattle.per_versions.proofs.faults.what_was_read_has_no_fault.Goals as goal

pub returns : goal.returns
returns c = λ a s v octets kind l k m f. no_fault a true s _ (read_whole a s v octets m f) kind l k
