use Rattle.std.proofs.Common.{◌≡◌, ap, sym, ◌∙◌, not, drop, Some, [], arith}
use Rattle.std.proofs.lemmas.List.{drop_all}
use Rattle.rasn_types.specs.Contents.{arcs_after}
use Rattle.lawful_types.specs.Subidentifiers.{arc_of}
use Rattle.lawful_types.proofs.Contents.{no_octets, some_octets, stopped, stopped_first}
use Rattle.lawful_types.proofs.identifiers.are_contents.Goals as goal

pub returns-in_default : goal.returns-in_default
returns-in_default c =
    stopped_first c.args.octets.now
    (sym c.loop-octet.invariant.rest ∙ stopped (arc_of c.loop-octet.read) c.args.octets.now c.loop-octet.octet-index c.loop-octet-test.true (sym c.in_default.ensures.next))

pub returns-then-not-is_empty : goal.returns-then-not-is_empty
returns-then-not-is_empty c =
    let gone : drop c.loop-octet.octet-index c.args.octets.now ≡ [] = drop_all c.loop-octet.octet-index c.args.octets.now (omega (arith, c.loop-octet-test.false)) in
    sym (ap (arcs_after (Some (arc_of c.loop-octet.read))) gone) ∙ c.loop-octet.invariant.rest ∙ some_octets c.args.octets.now c.is_empty.result c.is_empty.ensures c.if-not-is_empty.true

pub returns-else-not-is_empty : goal.returns-else-not-is_empty
returns-else-not-is_empty c = ap not c.if-not-is_empty.false ∙ no_octets c.args.octets.now c.is_empty.result c.is_empty.ensures c.if-not-is_empty.false
