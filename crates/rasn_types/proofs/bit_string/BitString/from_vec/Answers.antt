use Rattle.std.proofs.Common.{take}
use Rattle.rasn_types.specs.Bits.{unpack}
use Rattle.rasn_types.proofs.Packing.{kept, viewed, view_length}
use Rattle.rasn_types.proofs.bit_string.BitString.from_vec.Goals as goal

pub invariant_of-result : goal.invariant_of-result
invariant_of-result c = kept c.args.len _ (take c.args.len (unpack c.args.octets.items)) (view_length c.args.len c.args.octets.items c.requires) c.keep_bits.ensures

pub returns : goal.returns
returns c = viewed c.args.len _ (take c.args.len (unpack c.args.octets.items)) (view_length c.args.len c.args.octets.items c.requires) c.keep_bits.ensures
