use Rattle.std.proofs.Common.{◌∙◌, refl, sym, rules, FitsSigned}
use Rattle.std.specs.Int.{w128}
use Rattle.std.proofs.lemmas.Int.{to_z-of_z}
use Rattle.rasn_constraints.specs.Constraints.{bounds_of}
use Rattle.per_decoding.proofs.FittingNumbers.{starts, ends, misfit_none}
use Rattle.per_decoding.proofs.ShortNumbers.{if_none, no_field_no_short, no_number_no_short}
use Rattle.per_decoding.proofs.integers.take_short_within.Goals as goal

pub returns-in_err-number-clause-none : goal.returns-in_err-number-clause-none
returns-in_err-number-clause-none g c e =
    let b = c.args.bounds.now in
    let lower = sym c.in-Some-Some.is-0 ∙ starts b c.start_and_end.ensures.start in
    let upper = sym c.in-Some-Some.is-1 ∙ ends b c.start_and_end.ensures.end in
    let low : FitsSigned w128 c.in-Some-Some.lower = search rules in
    let high : FitsSigned w128 c.in-Some-Some.upper = search rules in
    let none = rw (to_z-of_z w128 c.in-Some-Some.lower low, to_z-of_z w128 c.in-Some-Some.upper high) at c.in_err-number.ensures.none in
    no_field_no_short _ (bounds_of b) g.I.IntegerType.range _ _ lower upper (none refl)

pub returns-clause-none : goal.returns-clause-none
returns-clause-none g c e =
    let b = c.args.bounds.now in
    let range = g.I.IntegerType.range in
    let lower = sym c.in-Some-Some.is-0 ∙ starts b c.start_and_end.ensures.start in
    let upper = sym c.in-Some-Some.is-1 ∙ ends b c.start_and_end.ensures.end in
    let low : FitsSigned w128 c.in-Some-Some.lower = search rules in
    let high : FitsSigned w128 c.in-Some-Some.upper = search rules in
    let took = rw (to_z-of_z w128 c.in-Some-Some.lower low, to_z-of_z w128 c.in-Some-Some.upper high) at c.in_ok-number.ensures.took.ok in
    let q = if_none _ c.fit.result c.ok.ensures.value e c.fit.ensures.err in
    no_number_no_short _ (bounds_of b) range _ _ lower upper low high
    (misfit_none _ (bounds_of b) range _ _ lower upper c.requires _ q.0 c.in_ok-number.number took q.1)
