use Rattle.std.proofs.Common.{◌≡◌, ap, ◌∙◌, sym, [], ◌∷◌, ◌++◌, ◌-◌, ◌^◌, ◌<◌, length, take, arith}
use Rattle.rasn_types.specs.Bits.{unpack}
use Rattle.rasn_types.proofs.Packing.{kept, viewed, one_longer, view_length}
use Rattle.rasn_types.proofs.bit_string.BitString.push.Goals as goal

pub overflow_add-self : goal.overflow_add-self
overflow_add-self c = let r : length c.args.self.now < 2 ^ 64 - 1 = c.requires in
    let l : c.self.inside.len ≡ length c.args.self.now = sym (view_length c.self.inside.len c.self.inside.octets.items c.self.invariant.enough) ∙ ap length c.self.view_is in
    record { fits = omega arith }

pub invariant_of-self-2 : goal.invariant_of-self-2
invariant_of-self-2 c = kept _ _ (take c.self.inside.len (unpack c.self.inside.octets.items) ++ c.args.bit ∷ []) (one_longer c.self.inside.len c.self.inside.octets.items c.args.bit c.self.invariant) c.in_ok-append_bit.ensures.ok

pub returns-clause-ok : goal.returns-clause-ok
returns-clause-ok c = viewed _ _ (take c.self.inside.len (unpack c.self.inside.octets.items) ++ c.args.bit ∷ []) (one_longer c.self.inside.len c.self.inside.octets.items c.args.bit c.self.invariant) c.in_ok-append_bit.ensures.ok
    ∙ ap (λ bs. bs ++ c.args.bit ∷ []) c.self.view_is
