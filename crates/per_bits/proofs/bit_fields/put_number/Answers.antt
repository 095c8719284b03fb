use Rattle.std.proofs.Common.{◌++◌, ◌-◌, subst, arith}
use Rattle.rasn_types.specs.Bits.{Bits}
use Rattle.per_bits.specs.Octets.{filled, HaveRoom}
use Rattle.per_bits.proofs.Loops.{low_bits}
use Rattle.per_bits.proofs.bit_fields.put_number.Goals as goal

pub returns-then-width-le-FIELD_BITS : goal.returns-then-width-le-FIELD_BITS
returns-then-width-le-FIELD_BITS g c = subst (λ (bits : Bits). HaveRoom (filled c.args.spare c.args.octets.now.items ++ bits) (c.args.spare - c.args.width) c.put_field.new.octets.items)
    (low_bits c.args.width c.args.value c.low_field.result (omega arith) c.low_field.ensures) c.put_field.ensures
