use Rattle.std.proofs.Common.{◌≡◌, ◌∙◌, ◌*◌, ℕ, ap, ap₂, sym, drop, take, arith}
use Rattle.std.proofs.lemmas.List.{take-take}
use Rattle.rasn_types.specs.Bits.{unpack}
use Rattle.per_bits.specs.Octets.{low_bits_of}
use Rattle.per_bits.proofs.LowBits.{low-eight}
use Rattle.per_bits.proofs.Readers.{bits_are, left_is}
use Rattle.per_bits.proofs.BitReader.spread_bits.Goals as goal

pub returns-else-width-lt8-clause-bits : goal.returns-else-width-lt8-clause-bits
returns-else-width-lt8-clause-bits c =
    let inside = c.self.inside in
    let eight : c.args.width ≡ 8 = omega (arith, c.if-width-lt8.false, c.requires.width) in
    let bits = drop inside.skip (unpack inside.octets.now) in
    let left = left_is inside.skip inside.len inside.octets.now c.args.self.now.bits (bits_are c.self.view_is) c.self.invariant in
    ap (λ (w : ℕ). low_bits_of w (take c.args.count c.copy_octets.new.octets)) eight ∙ low-eight (take c.args.count c.copy_octets.new.octets) ∙ c.copy_octets.ensures.bits
    ∙ sym (take-take (8 * c.args.count) inside.len bits (let e = ap (λ (w : ℕ). w * c.args.count) eight in omega (arith, left, c.requires.left, e))) ∙ ap₂ (λ (w : ℕ) bs. take (w * c.args.count) bs) (sym eight) (bits_are c.self.view_is)
