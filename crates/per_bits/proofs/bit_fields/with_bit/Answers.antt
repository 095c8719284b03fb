use Rattle.std.proofs.Common.{◌∙◌, refl, ap, ◌-◌, arith}
use Rattle.std.specs.Prelude.{set}
use Rattle.rasn_types.specs.Bits.{to_bits}
use Rattle.per_bits.proofs.Sets.{octet_fits, octet_set, bit_below, bit_is}
use Rattle.per_bits.proofs.bit_fields.with_bit.Goals as goal

pub overflow_cast-result-2 : goal.overflow_cast-result-2
overflow_cast-result-2 c = let f = octet_fits c.args.place (7 - c.args.place) c.from-word.result c.from.result _ c.low_bits.result _ c.args.bit (omega arith) (let f = c.ranges.octet.fits in let e = c.from-word.ensures in omega arith) (bit_below c.args.bit c.from.ensures) (bit_is c.args.bit c.from.ensures) refl c.low_bits.ensures refl in omega arith

pub returns : goal.returns
returns c = octet_set c.args.place (7 - c.args.place) c.from-word.result c.from.result _ c.low_bits.result _ c.args.bit (omega arith) (let f = c.ranges.octet.fits in let e = c.from-word.ensures in omega arith) (bit_below c.args.bit c.from.ensures) (bit_is c.args.bit c.from.ensures) refl c.low_bits.ensures refl
    ∙ ap (λ o. set (to_bits 8 o) c.args.place c.args.bit) c.from-word.ensures
