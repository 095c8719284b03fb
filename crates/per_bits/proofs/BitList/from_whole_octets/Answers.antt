use Rattle.std.proofs.Common.{◌∙◌, sym, append-nil, arith}
use Rattle.per_bits.specs.Octets.{filled}
use Rattle.per_bits.proofs.Readers.{filled_all}
use Rattle.per_bits.proofs.BitList.from_whole_octets.Goals as goal

pub invariant_of-result : goal.invariant_of-result
invariant_of-result g c = record {
  few = omega arith;
  zeros = sym (filled_all c.args.octets.items) ∙ sym (append-nil (filled 0 c.args.octets.items));
}

pub returns : goal.returns
returns g c = filled_all c.args.octets.items
