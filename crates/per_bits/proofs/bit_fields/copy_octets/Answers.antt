use Rattle.std.proofs.Common.{◌∙◌, ◌*◌, ℕ, sym, ap, drop, take, length, length-take, arith}
use Rattle.std.proofs.lemmas.List.{take_at}
use Rattle.rasn_types.specs.Bits.{unpack}
use Rattle.rasn_types.proofs.Packing.{unpack-take}
use Rattle.per_bits.proofs.bit_fields.copy_octets.Goals as goal

pub returns-then-skip-eq0-clause-bits : goal.returns-then-skip-eq0-clause-bits
returns-then-skip-eq0-clause-bits c =
    let count = c.args.count in
    let from = c.args.from.now in
    ap unpack (take_at c.copy_from_slice.new.self (drop count c.args.octets.now) count (ap length c.copy_from_slice.ensures.after ∙ length-take count from ∙ omega (arith, c.requires.within.enough)) ∙ c.copy_from_slice.ensures.after)
    ∙ sym (unpack-take count from) ∙ ap (λ (n : ℕ). take (8 * count) (drop n (unpack from))) (sym c.if-skip-eq0.true)
