use Rattle.std.proofs.Common.{◌≡◌, arith, false}
use Rattle.std.specs.Prelude.{is_some}
use Rattle.lawful_types.specs.OneLevel.{AreNewerAlternatives}
use Rattle.lawful_types.proofs.OkAnswers.{then}
use Rattle.lawful_types.proofs.Fronts.{alternatives_more}
use Rattle.lawful_types.proofs.Parts.{choice_newer}
use Rattle.lawful_types.proofs.kinds.compare_choices.Goals as goal

pub returns-clause-newer : goal.returns-clause-newer
returns-clause-newer c =
    let d' = c.args.newer.now in let d = c.args.older.now in
    let ps = c.compare_alternatives.new.pairs.items in let qs = c.compare_alternatives-2.new.pairs.items in
    let e = c.is_some.ensures in let f = c.is_some-2.ensures in let g = c.if-is_some.false in
    let marks : is_some d'.addeds ≡ is_some d.addeds = first_of (cc, grind (arith, e, f, g)) in
    let roots : AreNewerAlternatives false ps d'.roots.items d.roots.items = rw (c.deref.ensures.value, c.deref-2.ensures.value) at c.in_ok-compare_alternatives.ensures.newer in
    then c.compare_alternatives-2.result (rw (c.behind.ensures, c.behind-2.ensures) at c.compare_alternatives-2.ensures.newer)
    (λ h newer_kinds older_kinds. choice_newer newer_kinds older_kinds qs d' d marks (alternatives_more false ps qs d'.roots.items d.roots.items c.compare_alternatives-2.ensures.front roots) h)
