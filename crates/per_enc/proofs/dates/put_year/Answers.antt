use Rattle.std.proofs.Common.{◌∙◌, sym, subst, rules, to_z-of_z, FitsSigned}
use Rattle.std.specs.Int.{w128}
use Rattle.std.proofs.lemmas.Result.{on_ok_weaker}
use Rattle.rasn_types.specs.Variants.{variant_of}
use Rattle.per_core.specs.Writers.{Writer}
use Rattle.per_write.specs.Faults.{IsMemory}
use Rattle.per_write.specs.WriterState.{Puts, StateAppends}
use Rattle.per_enc.proofs.DatesWritten.{in_first, in_second, in_third, in_none, wrote_number}
use Rattle.per_enc.proofs.dates.put_year.Goals as goal

pub returns-then-is_from_to : goal.returns-then-is_from_to
returns-then-is_from_to g c =
    let f : FitsSigned w128 c.args.year = c.ranges.year in
    let first = simp to_z-of_z at c.is_from_to.ensures in
    subst (λ (w : Writer). Puts IsMemory w c.args.writer.now c.put_year_within.result c.put_year_within.new.writer)
    (in_first (variant_of c.args.writer.now.codec) c.args.year (sym first ∙ c.if-is_from_to.true)) (simp to_z-of_z at c.put_year_within.ensures)

pub returns-then-is_from_to-2 : goal.returns-then-is_from_to-2
returns-then-is_from_to-2 g c =
    let f : FitsSigned w128 c.args.year = c.ranges.year in
    let first = simp to_z-of_z at c.is_from_to.ensures in
    let second = simp to_z-of_z at c.is_from_to-else-is_from_to.ensures in
    subst (λ (w : Writer). Puts IsMemory w c.args.writer.now c.put_year_within-then-is_from_to-2.result c.put_year_within-then-is_from_to-2.new.writer)
    (in_second (variant_of c.args.writer.now.codec) c.args.year (sym first ∙ c.if-is_from_to.false) (sym second ∙ c.if-is_from_to-2.true)) (simp to_z-of_z at c.put_year_within-then-is_from_to-2.ensures)

pub returns-then-is_from_to-3 : goal.returns-then-is_from_to-3
returns-then-is_from_to-3 g c =
    let f : FitsSigned w128 c.args.year = c.ranges.year in
    let first = simp to_z-of_z at c.is_from_to.ensures in
    let second = simp to_z-of_z at c.is_from_to-else-is_from_to.ensures in
    let third = simp to_z-of_z at c.is_from_to-else-is_from_to-2.ensures in
    subst (λ (w : Writer). Puts IsMemory w c.args.writer.now c.put_year_within-then-is_from_to-3.result c.put_year_within-then-is_from_to-3.new.writer)
    (in_third (variant_of c.args.writer.now.codec) c.args.year (sym first ∙ c.if-is_from_to.false) (sym second ∙ c.if-is_from_to-2.false) (sym third ∙ c.if-is_from_to-3.true))
    (simp to_z-of_z at c.put_year_within-then-is_from_to-3.ensures)

pub returns-in_ok-put_number : goal.returns-in_ok-put_number
returns-in_ok-put_number g c =
    let f : FitsSigned w128 c.args.year = c.ranges.year in
    let first = simp to_z-of_z at c.is_from_to.ensures in
    let second = simp to_z-of_z at c.is_from_to-else-is_from_to.ensures in
    let third = simp to_z-of_z at c.is_from_to-else-is_from_to-2.ensures in
    let is = in_none (variant_of c.args.writer.now.codec) c.args.year (sym first ∙ c.if-is_from_to.false) (sym second ∙ c.if-is_from_to-2.false) (sym third ∙ c.if-is_from_to-3.false) in
    let end = c.put_number-else-is_from_to-3 in
    record {
      ok = on_ok_weaker _ (λ w. subst (λ (f : Writer). StateAppends c.args.writer.now f end.new.self) is
          (wrote_number c.args.writer.now c.put_number.new.self end.new.self c.args.year c.in_ok-put_number.ensures.ok w)) (simp to_z-of_z at end.ensures.ok);
      err = search rules;
      fails = search rules;
      kept = search rules;
    }
