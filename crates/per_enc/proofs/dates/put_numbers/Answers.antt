use Rattle.std.proofs.Common.{arith, rules, pos, to_z-of_z, FitsSigned}
use Rattle.std.specs.Int.{w128}
use Rattle.std.proofs.lemmas.Result.{on_ok_weaker}
use Rattle.per_enc.proofs.DatesWritten.{wrote_numbers}
use Rattle.per_enc.proofs.dates.put_numbers.Goals as goal

pub returns : goal.returns
returns g c =
    let f0 : FitsSigned w128 c.args.year = c.ranges.year in
    let f1 : FitsSigned w128 (pos c.args.month) = record { sfits = omega arith } in
    let f2 : FitsSigned w128 (pos c.args.day) = record { sfits = omega arith } in
    record {
      ok = on_ok_weaker _ (wrote_numbers c.args.writer.now c.put_year.new.writer c.put_number.new.self c.put_number-2.new.self c.args.year c.args.month c.args.day c.requires.lawful (omega arith) (omega arith)
          (simp to_z-of_z at c.in_ok-put_year.ensures.ok) (simp to_z-of_z at (rw c.from.ensures at c.in_ok-put_number.ensures.ok))) (simp to_z-of_z at (rw c.from-2.ensures at c.put_number-2.ensures.ok));
      err = search rules;
      fails = search rules;
      kept = search rules;
    }
