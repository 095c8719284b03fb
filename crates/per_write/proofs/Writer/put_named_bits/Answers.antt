use Rattle.std.proofs.Common.{rules}
use Rattle.std.proofs.lemmas.Result.{IfOk-at_ok}
use Rattle.per_write.proofs.Named.{named_put}
use Rattle.per_write.proofs.Writer.put_named_bits.Goals as goal

pub returns : goal.returns
returns g c =
    record {
      law = rw c.size-size.ensures at (named_put c.args.self.now c.unless_out_of_memory.new.self c.put_counted.new.self _ _ c.least_count.result c.args.value.now c.in_ok-bits.bits c.put_counted.result c.in_ok-bits.ensures.kept c.least_count.ensures c.least_count.type_inv
          (IfOk-at_ok _ c.in_ok-bits.ensures.ok c.trimmed_to-bits.ensures) c.put_counted.ensures.ok c.put_counted.ensures.err);
      behaves = search rules;
    }
