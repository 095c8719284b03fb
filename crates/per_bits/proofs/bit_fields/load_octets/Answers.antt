use Rattle.std.proofs.Common.{◌≡◌, ◌<◌, ◌+◌, ◌-◌, ◌*◌, ◌%◌, ◌^◌, ℕ, length, subst, bit_or, arith}
use Rattle.rasn_types.specs.Bits.{to_bits}
use Rattle.per_bits.specs.Octets.{word_size, first_word}
use Rattle.per_bits.proofs.Joins.{octet_more, octets_all, put_after}
use Rattle.per_bits.proofs.bit_fields.load_octets.Goals as goal

pub loop-octet-preserved : goal.loop-octet-preserved
loop-octet-preserved c =
    let small : c.from.result < 2 ^ 8 = omega (arith, c.type_inv.octets c.loop-octet.octet-index) in
    let m = octet_more c.args.octets.now c.loop-octet.octet-index c.loop-octet.word c.from.result c.loop-octet-test.true c.from.ensures c.loop-octet.invariant.below small c.loop-octet.invariant.bits in
    let e : bit_or (c.loop-octet.word * 2 ^ 8 % 2 ^ 64) c.from.result ≡ c.loop-octet.word * 2 ^ 8 + c.from.result = put_after 64 c.loop-octet.word c.from.result (8 * c.loop-octet.octet-index) 8 c.loop-octet.invariant.below small (omega arith) in
    record { bits = rw e m.0; below = rw e m.1 }

pub returns : goal.returns
returns c = let n : c.loop-octet.octet-index ≡ length c.args.octets.now = omega arith in
    subst (λ (k : ℕ). to_bits word_size (c.loop-octet.word * 2 ^ 8 % 2 ^ 64 * 2 ^ (56 - 8 * k) % 2 ^ 64) ≡ first_word c.args.octets.now) n
    (octets_all c.args.octets.now c.loop-octet.octet-index c.loop-octet.word n (omega arith) c.loop-octet.invariant.below c.loop-octet.invariant.bits)
