use Rattle.per_de.proofs.InTurn.{still, taken_noted}
use Rattle.per_de.proofs.Decoder.take_octet_string.Goals as goal

pub take_octets-requires : goal.take_octets-requires
take_octets-requires c = still _ c.in_ok-begin_value.ensures.noted c.in_ok-begin_value.ensures.ok

pub returns : goal.returns
returns c = taken_noted c.take_octets.result c.in_ok-begin_value.ensures.noted c.take_octets.ensures
