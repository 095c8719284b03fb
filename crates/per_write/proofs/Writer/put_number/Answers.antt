use Rattle.std.proofs.Common.{to_z-of_z, FitsSigned, inr, rules}
use Rattle.std.specs.Int.{w128}
use Rattle.std.proofs.lemmas.Result.{on_ok_weaker}
use Rattle.rasn_types.specs.Variants.{variant_of}
use Rattle.rasn_constraints.specs.Ranges.{i128_range}
use Rattle.per_write.proofs.Unbounded.{under_none, whole_written}
use Rattle.per_write.proofs.Writing.{wrote_same}
use Rattle.per_write.proofs.Writer.put_number.Goals as goal

pub returns-in-None : goal.returns-in-None
returns-in-None g c =
    let number : FitsSigned w128 c.args.number = c.ranges.number in
    record {
      ok = rw c.in-None.is (on_ok_weaker _ (wrote_same c.args.self.now _ _ _ (under_none (variant_of c.args.self.now.codec) c.args.upper c.args.number (inr number))) (whole_written c.args.self.now _ i128_range c.args.number c.put_unconstrained_whole.result (simp to_z-of_z at c.put_unconstrained_whole.ensures.ok)));
      err = search rules;
      fails = search rules;
      kept = search rules;
    }
