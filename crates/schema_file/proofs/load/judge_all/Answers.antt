use Rattle.std.proofs.Common.{rules, length, subst}
use Rattle.std.specs.List.{All}
use Rattle.std.proofs.lemmas.List.{take_all}
use Rattle.std.proofs.lemmas.List.Elements.{All-more}
use Rattle.schema_file.specs.PlacesInside.{KindIsInside}
use Rattle.schema_file.proofs.load.judge_all.Goals as goal

pub loop-place-preserved : goal.loop-place-preserved
loop-place-preserved c =
    let P = KindIsInside (length c.args.kinds.now) in
    All-more P c.args.kinds.now c.loop-place.place c.index-kinds-place.result c.loop-place-test.true
    c.loop-place.invariant (subst P c.index-kinds-place.is c.in_default.ensures)

pub returns-clause-ok : goal.returns-clause-ok
returns-clause-ok c =
    subst (All (KindIsInside (length c.args.kinds.now))) (take_all c.loop-place.place c.args.kinds.now c.loop-place-test.false)
    c.loop-place.invariant
