use Rattle.std.proofs.Common.{◌≡◌, ◌∙◌, refl, sym, ap, length, ℕ, ◌*◌, arith}
use Rattle.std.proofs.lemmas.List.{take_all}
use Rattle.rasn_types.specs.Bits.{to_bits}
use Rattle.per_bits.specs.Octets.{low_bits_of}
use Rattle.per_bits.proofs.LowBits.{of_more}
use Rattle.per_bits.proofs.bit_fields.field_of.Goals as goal

pub loop-octet-preserved : goal.loop-octet-preserved
loop-octet-preserved c = of_more c.args.width c.loop-octet.octet-index c.loop-octet.field c.from.result c.low_bits.result _ c.args.octets.now c.loop-octet.invariant c.loop-octet-test.true c.requires.few c.from.ensures c.low_bits.ensures refl

pub returns : goal.returns
returns c =
    let n : c.loop-octet.octet-index ≡ length c.args.octets.now = omega arith in
    ap (λ (k : ℕ). to_bits (c.args.width * k) c.loop-octet.field) (sym n) ∙ c.loop-octet.invariant.bits ∙ ap (low_bits_of c.args.width) (take_all c.loop-octet.octet-index c.args.octets.now (omega arith))
