use Rattle.std.proofs.Common.{arith}
use Rattle.lawful_types.proofs.Values.{any_octets}
use Rattle.lawful_types.proofs.defaults.octets_are_countable.Goals as goal

pub returns : goal.returns
returns c = any_octets c.args.octets.now (omega arith) c.type_inv.octets
