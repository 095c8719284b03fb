use Rattle.std.proofs.Common.{◌≡◌, arith, false}
use Rattle.std.specs.Prelude.{is_some}
use Rattle.lawful_types.specs.OneLevel.{AreNewerComponents}
use Rattle.lawful_types.proofs.OkAnswers.{then}
use Rattle.lawful_types.proofs.Fronts.{components_more}
use Rattle.lawful_types.proofs.Parts.{record_newer}
use Rattle.lawful_types.proofs.kinds.compare_records.Goals as goal

pub returns-clause-newer : goal.returns-clause-newer
returns-clause-newer c =
    let ts' = c.args.newer_kinds.now in let ts = c.args.older_kinds.now in
    let d' = c.args.newer.now in let d = c.args.older.now in
    let ps = c.compare_components.new.pairs.items in let qs = c.compare_components-2.new.pairs.items in
    let e = c.is_some.ensures in let f = c.is_some-2.ensures in let g = c.if-is_some.false in
    let marks : is_some d'.additions ≡ is_some d.additions = first_of (cc, grind (arith, e, f, g)) in
    let roots : AreNewerComponents false ts' ts ps d'.root.items d.root.items = rw (c.deref.ensures.value, c.deref-2.ensures.value) at c.in_ok-compare_components.ensures.newer in
    then c.compare_components-2.result (rw (c.behind.ensures, c.behind-2.ensures) at c.compare_components-2.ensures.newer)
    (λ h. record_newer ts' ts qs d' d marks (components_more false ts' ts ps qs d'.root.items d.root.items c.compare_components-2.ensures.front roots) h)
