use Rattle.std.proofs.Common.{to_z-of_z, FitsSigned, rules}
use Rattle.std.specs.Int.{w128}
use Rattle.std.proofs.lemmas.Result.{on_ok_weaker}
use Rattle.per_enc.proofs.DatesWritten.{wrote_within}
use Rattle.per_enc.proofs.dates.put_year_within.Goals as goal

pub returns : goal.returns
returns g c =
    let f0 : FitsSigned w128 c.args.index = c.ranges.index in
    let f1 : FitsSigned w128 c.args.first = c.ranges.first in
    let f2 : FitsSigned w128 c.args.last = c.ranges.last in
    let f3 : FitsSigned w128 c.args.year = c.ranges.year in
    record {
      ok = on_ok_weaker _ (wrote_within c.args.writer.now c.put_number.new.self c.put_number-2.new.self c.args.index c.args.first c.args.last c.args.year (simp to_z-of_z at c.in_ok-put_number.ensures.ok))
          (simp to_z-of_z at c.put_number-2.ensures.ok);
      err = search rules;
      fails = search rules;
      kept = search rules;
    }
