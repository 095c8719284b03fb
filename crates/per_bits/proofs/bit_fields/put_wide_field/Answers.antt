use Rattle.std.proofs.Common.{◌≡◌, ◌++◌, ◌-◌, ℕ, subst, arith}
use Rattle.rasn_types.specs.Bits.{to_bits}
use Rattle.per_bits.specs.Octets.{filled, AreKept}
use Rattle.per_bits.proofs.Loops.{part_written, put_on}
use Rattle.per_bits.proofs.Readers.{filled_room, kept_by}
use Rattle.per_bits.proofs.Room.{parts_put}
use Rattle.per_bits.proofs.bit_fields.put_wide_field.Goals as goal

pub loop-left-preserved : goal.loop-left-preserved
loop-left-preserved g c =
    let unused = c.args.spare - (c.args.width - c.loop-left.left) in
    let next = unused - c.min-count.result in
    let is : next ≡ c.args.spare - (c.args.width - (c.loop-left.left - c.min-count.result)) = omega (arith, c.loop-left.invariant.fewer) in
    let part = part_written c.min-count.result c.loop-left.left c.args.value c.low_field.result (omega arith) (omega arith) c.low_field.ensures in
    record {
      fewer = omega arith;
      kept = subst (λ (n : ℕ). AreKept n c.put_field.new.octets.items) is (kept_by c.put_field.ensures);
      bits = subst (λ (n : ℕ). filled n c.put_field.new.octets.items ++ to_bits (c.loop-left.left - c.min-count.result) c.args.value ≡ filled c.args.spare c.args.octets.now.items ++ to_bits c.args.width c.args.value) is
          (put_on unused next c.loop-left.octets.items c.put_field.new.octets.items _ _ _ _ (filled_room c.put_field.ensures) part c.loop-left.invariant.bits);
    }

pub returns : goal.returns
returns g c = parts_put c.args.spare c.args.width c.loop-left.left c.args.value c.args.octets.now.items c.loop-left.octets.items (omega arith) c.loop-left.invariant.kept c.loop-left.invariant.bits
