use Rattle.std.proofs.Common.{◌∙◌, sym, ap, ◌<◌, ◌/◌, ◌%◌, length, subst, arith}
use Rattle.std.specs.Prelude.{set}
use Rattle.std.proofs.lemmas.Grind.{get_or_default_zero}
use Rattle.rasn_types.specs.Bits.{to_bits}
use Rattle.per_bits.specs.Octets.{filled}
use Rattle.per_bits.proofs.Readers.{filled_room, kept_by, filled_length}
use Rattle.per_bits.proofs.Sets.{filled_set}
use Rattle.per_bits.proofs.BitList.set.Goals as goal

pub invariant_of-self : goal.invariant_of-self
invariant_of-self g c =
    let l : c.args.index < length (filled c.self.inside.spare c.self.inside.octets.items) = subst (λ bs. c.args.index < length bs) (sym c.self.view_is) (subst (λ n. c.args.index < n) c.len.ensures c.if-index-len.true) in
    let k : c.args.index / 8 < length c.self.inside.octets.items = omega (arith, filled_length c.self.inside.spare c.self.inside.octets.items) in
    let o = c.index.ensures ∙ get_or_default_zero c.self.inside.octets.items (c.args.index / 8) c.index.result.now k in
    kept_by (filled_set c.self.inside.spare c.self.inside.octets.items c.args.index c.with_bit.result c.args.bit c.self.invariant l (c.with_bit.ensures ∙ ap (λ n. set (to_bits 8 n) (c.args.index % 8) c.args.bit) o))

pub returns-then-index-len : goal.returns-then-index-len
returns-then-index-len g c =
    let l : c.args.index < length (filled c.self.inside.spare c.self.inside.octets.items) = subst (λ bs. c.args.index < length bs) (sym c.self.view_is) (subst (λ n. c.args.index < n) c.len.ensures c.if-index-len.true) in
    let k : c.args.index / 8 < length c.self.inside.octets.items = omega (arith, filled_length c.self.inside.spare c.self.inside.octets.items) in
    let o = c.index.ensures ∙ get_or_default_zero c.self.inside.octets.items (c.args.index / 8) c.index.result.now k in
    filled_room (filled_set c.self.inside.spare c.self.inside.octets.items c.args.index c.with_bit.result c.args.bit c.self.invariant l (c.with_bit.ensures ∙ ap (λ n. set (to_bits 8 n) (c.args.index % 8) c.args.bit) o))
    ∙ ap (λ bs. set bs c.args.index c.args.bit) c.self.view_is
