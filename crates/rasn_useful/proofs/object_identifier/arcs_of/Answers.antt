use Rattle.std.proofs.Common.{ap, ◌∙◌, List, ℕ, Bor, map, length, lit<}
use Rattle.std.specs.Fmt.{decimal}
use Rattle.std.proofs.lemmas.Iterator.Splits.{YieldsList-from_str_split}
use Rattle.std.proofs.lemmas.Iterator.Consumers.{YieldsList-turn, YieldsList-end}
use Rattle.rasn_useful.proofs.Arcs.{has_no_arcs, one_more}
use Rattle.rasn_useful.proofs.object_identifier.arcs_of.Goals as goal

pub loop-number-preserved : goal.loop-number-preserved
loop-number-preserved c = ap (λ os. map decimal os) c.in_ok-push-in-Some-arc_of.ensures.items
    ∙ one_more (λ (x : Bor (List ℕ)). x.now) c.loop-number.arcs.items c.loop-number.yielded c.in-Some-arc_of.arc c.in-Some.number c.loop-number.invariant c.in-Some-arc_of.ensures

pub returns-in-None-arc_of : goal.returns-in-None-arc_of
returns-in-None-arc_of c =
    let t = YieldsList-turn (YieldsList-from_str_split 46 c.args.text.now (lit< tt) (cc) (cc) (cc)) c.loop-number.yielded _ c.loop-number.yielded_by _ _ c.in-Some.number c.in-Some.is c.next.ensures.steps in
    has_no_arcs c.args.text.now (length c.loop-number.yielded) c.in-Some.number.now t c.in-None-arc_of.ensures

pub returns : goal.returns
returns c = c.loop-number.invariant
    ∙ (YieldsList-end (YieldsList-from_str_split 46 c.args.text.now (lit< tt) (cc) (cc) (cc)) c.loop-number.yielded _ c.loop-number.yielded_by _ _ c.in-None.is c.next.ensures.steps).0
