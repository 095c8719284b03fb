use Rattle.std.proofs.Common.{◌≡◌, ◌∙◌, ◌*◌, ◌++◌, ℕ, sym, ap, drop, take, arith, rules}
use Rattle.rasn_types.specs.Bits.{unpack}
use Rattle.rasn_types.proofs.Bits.{unpack-append}
use Rattle.rasn_types.proofs.Packing.{unpack-take}
use Rattle.per_bits.proofs.Shifts.{filled_after}
use Rattle.per_bits.proofs.bit_fields.append_octets_after.Goals as goal

pub returns-then-skip-gt0-clause-bits : goal.returns-then-skip-gt0-clause-bits
returns-then-skip-gt0-clause-bits g c =
    filled_after _ c.len-start.result c.args.count c.args.skip c.deref_mut.result.now c.args.octets.now.items c.shift_octets.new.octets c.args.from.now _ (search rules) (search rules)
    (c.deref_mut.ensures.value ∙ rw c.unwrap.ensures at c.extend_from_slice.ensures.items) c.requires.within.enough c.shift_octets.ensures

pub returns-else-skip-gt0-clause-bits : goal.returns-else-skip-gt0-clause-bits
returns-else-skip-gt0-clause-bits g c =
    let from = c.args.from.now in
    let none : c.args.skip ≡ 0 = omega arith in
    ap unpack (rw c.unwrap.ensures at c.extend_from_slice.ensures.items) ∙ unpack-append c.args.octets.now.items (take c.args.count from)
    ∙ ap (λ bs. unpack c.args.octets.now.items ++ bs) (sym (unpack-take c.args.count from) ∙ ap (λ (n : ℕ). take (8 * c.args.count) (drop n (unpack from))) (sym none))
