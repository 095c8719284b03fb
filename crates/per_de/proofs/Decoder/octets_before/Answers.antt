use Rattle.std.proofs.Common.{◌≤◌, ap, arith, length}
use Rattle.std.specs.Cow.{cow_slice_items}
use Rattle.per_decoding.specs.Sources.{bits_of}
use Rattle.per_de.proofs.Lending.{if_ok, lent_where, part_inside}
use Rattle.per_decoding.proofs.Spans.{span_length}
use Rattle.per_de.proofs.Decoder.octets_before.Goals as goal

pub returns-clause-octets : goal.returns-clause-octets
returns-clause-octets c =
    if_ok c.octets_before.result _ _ (λ x p. part_inside c.self.inside.bits (bits_of c.self.inside.source) c.args.self.now.bits c.args.left c.args.count (cow_slice_items x) c.self.invariant (ap (λ z. z.bits) c.self.view_is) c.requires p) c.octets_before.ensures.octets

pub returns-clause-lent : goal.returns-clause-lent
returns-clause-lent c =
    let span = c.self.inside.bits in
    let source = bits_of c.self.inside.source in
    let few : c.args.left ≤ span.end = omega (arith, c.requires, ap (λ z. length z.bits) c.self.view_is, span_length span source c.self.invariant) in
    if_ok c.octets_before.result _ _ (λ x p. lent_where c.args.self.now c.self.inside.source span c.args.left c.args.count (ap (λ z. z.source) c.self.view_is) c.self.invariant few p) c.octets_before.ensures.lent
