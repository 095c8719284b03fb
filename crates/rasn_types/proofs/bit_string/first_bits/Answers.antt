use Rattle.rasn_types.proofs.Packing.{first_bits_are}
use Rattle.rasn_types.proofs.bit_string.first_bits.Goals as goal

pub returns : goal.returns
returns c = first_bits_are c.args.octet c.args.count c.requires.few c.ranges.octet.fits
