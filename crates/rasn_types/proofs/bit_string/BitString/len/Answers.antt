use Rattle.std.proofs.Common.{ap, sym, ◌∙◌, length}
use Rattle.rasn_types.proofs.Packing.{view_length}
use Rattle.rasn_types.proofs.bit_string.BitString.len.Goals as goal

pub returns : goal.returns
returns c = sym (view_length _ c.self.inside.octets.items c.self.invariant.enough) ∙ ap length c.self.view_is
