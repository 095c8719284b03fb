use Rattle.std.proofs.Common.{FitsSigned, inr, refl, rules}
use Rattle.std.specs.Int.{w128}
use Rattle.std.proofs.lemmas.Int.{to_z-of_z}
use Rattle.per_read.proofs.Calls.{takes_last}
use Rattle.per_read.proofs.Reader.take_number.Goals as goal

pub returns-in-None-default : goal.returns-in-None-default
returns-in-None-default c = rw c.in-None-default.is-0 c.take_unconstrained_whole.ensures

pub returns-in-Some-None : goal.returns-in-Some-None
returns-in-Some-None c =
    let f : FitsSigned w128 c.in-Some-None.lower = search rules in
    rw (c.in-Some-None.is-0, c.in-Some-None.is-1) (simp to_z-of_z at c.take_from.ensures)

pub returns-in-Some-Some : goal.returns-in-Some-Some
returns-in-Some-Some c =
    let f : FitsSigned w128 c.in-Some-Some.lower = search rules in
    let g : FitsSigned w128 c.in-Some-Some.upper = search rules in
    rw (c.in-Some-Some.is-0, c.in-Some-Some.is-1)
    (let h = simp to_z-of_z at c.take_between.ensures in takes_last h refl (λ n b. b) (λ k e. inr e))
