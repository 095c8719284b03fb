use Rattle.std.proofs.Common.{◌≡◌, ◌∙◌, arith, rules, to_z-of_z, FitsSigned}
use Rattle.std.specs.Int.{w16, w128}
use Rattle.per_enc.proofs.DatesWritten.{date_law}
use Rattle.per_enc.proofs.dates.put_date.Goals as goal

pub returns : goal.returns
returns g c =
    let y = c.to_parts-year.result.0 in
    let small = c.to_parts-year.type_inv.1.1.0.1 in
    let f16 : FitsSigned w16 y = record { sfits = small } in
    let f128 : FitsSigned w128 y = record { sfits = omega (arith, small) } in
    let year : c.from.result ≡ y = c.from.ensures ∙ to_z-of_z f16 in
    record {
      law = rw c.to_parts-year.ensures.found (date_law c.args.writer.now c.put_numbers.new.writer _ _ _ c.put_numbers.result (simp to_z-of_z at (rw year at c.put_numbers.ensures)));
      behaves = search rules;
    }
