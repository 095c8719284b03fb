use Rattle.rasn_types.proofs.Reading.{are_octets}
use Rattle.rasn_types.proofs.bit_string.note_octets.Goals as goal

pub returns : goal.returns
returns c = are_octets c.args.octets.now c.type_inv.octets
