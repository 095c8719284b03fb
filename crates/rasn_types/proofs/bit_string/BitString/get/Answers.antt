use Rattle.std.proofs.Common.{◌∙◌, ap, slice_get}
use Rattle.rasn_types.proofs.Packing.{bit_there, no_bit}
use Rattle.rasn_types.proofs.bit_string.BitString.get.Goals as goal

pub returns-then-index-self : goal.returns-then-index-self
returns-then-index-self c = bit_there c.self.inside.len c.self.inside.octets.items c.args.index c.index.result.now c.self.invariant.enough c.if-index-self.true c.index.ensures
    ∙ ap (λ bs. slice_get bs c.args.index) c.self.view_is

pub returns-else-index-self : goal.returns-else-index-self
returns-else-index-self c = no_bit c.self.inside.len c.self.inside.octets.items c.args.index c.self.invariant.enough c.if-index-self.false ∙ ap (λ bs. slice_get bs c.args.index) c.self.view_is
