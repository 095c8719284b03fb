use Rattle.std.proofs.Common.{rules, false}
use Rattle.per_write.proofs.Refusing.{bit_string_law}
use Rattle.per_write.proofs.Writer.put_bit_string.Goals as goal

pub returns : goal.returns
returns g c =
    record { law = rw c.size.ensures at (bit_string_law c.args.self.now c.put_counted.new.self _ _ false c.args.value.now c.put_counted.result c.put_counted.ensures.ok c.put_counted.ensures.err); behaves = search rules }
