use Rattle.per_read.proofs.ReadAsField.{few_after}
use Rattle.per_read.proofs.Reader.take_octet_field.Goals as goal

pub returns : goal.returns
returns c = few_after c.in_default.ensures.took c.in_default.ensures.kept c.take_octets_after_length.ensures
