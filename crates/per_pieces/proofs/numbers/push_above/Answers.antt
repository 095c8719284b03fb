use Rattle.std.proofs.Common.{to_z-of_z, FitsSigned, rules}
use Rattle.std.specs.Int.{w128}
use Rattle.std.proofs.lemmas.Result.{on_ok_weaker}
use Rattle.rasn_types.specs.Variants.{variant_of}
use Rattle.per_pieces.proofs.Distances.{appends_between, appends_from}
use Rattle.per_pieces.proofs.numbers.push_above.Goals as goal

pub returns-in-Some : goal.returns-in-Some
returns-in-Some g c =
    let lower : FitsSigned w128 c.args.lower = c.ranges.lower in
    let number : FitsSigned w128 c.args.number = c.ranges.number in
    let upper : FitsSigned w128 c.in-Some.upper = search rules in
    rw c.in-Some.is (on_ok_weaker _ (appends_between (variant_of c.args.codec) _ _ c.args.lower c.in-Some.upper c.args.number c.distance_above.result c.distance_above-offset.result
    (simp to_z-of_z at c.distance_above.ensures) (simp to_z-of_z at c.distance_above-offset.ensures) number) c.push_constrained_whole.ensures)

pub returns-in-None : goal.returns-in-None
returns-in-None g c =
    let lower : FitsSigned w128 c.args.lower = c.ranges.lower in
    let number : FitsSigned w128 c.args.number = c.ranges.number in
    rw c.in-None.is (on_ok_weaker _ (appends_from (variant_of c.args.codec) _ _ c.args.lower c.args.number c.distance_above-offset.result
    (simp to_z-of_z at c.distance_above-offset.ensures) number) c.push_semi_constrained_whole.ensures)
