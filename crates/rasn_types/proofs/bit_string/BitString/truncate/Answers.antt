use Rattle.std.proofs.Common.{ap, sym, ◌∙◌, ◌*◌, ◌≤◌, length, take, arith}
use Rattle.std.proofs.lemmas.List.{take-take}
use Rattle.rasn_types.specs.Bits.{unpack}
use Rattle.rasn_types.proofs.Packing.{kept, viewed, view_length}
use Rattle.rasn_types.proofs.bit_string.BitString.truncate.Goals as goal

pub invariant_of-self : goal.invariant_of-self
invariant_of-self c =
    let few : c.args.len ≤ 8 * length c.self.inside.octets.items = omega (arith, c.self.invariant.enough) in
    kept c.args.len _ (take c.args.len (unpack c.self.inside.octets.items)) (view_length c.args.len c.self.inside.octets.items few) c.keep_bits.ensures

pub returns-then-len-self : goal.returns-then-len-self
returns-then-len-self c =
    let few : c.args.len ≤ 8 * length c.self.inside.octets.items = omega (arith, c.self.invariant.enough) in
    viewed c.args.len _ (take c.args.len (unpack c.self.inside.octets.items)) (view_length c.args.len c.self.inside.octets.items few) c.keep_bits.ensures
    ∙ sym (take-take c.args.len c.self.inside.len (unpack c.self.inside.octets.items) (omega arith))
    ∙ ap (λ bs. take c.args.len bs) c.self.view_is
