use Rattle.std.proofs.Common.{arith, refl, ◌≤◌, ◌-◌}
use Rattle.per_decoding.specs.Sources.{bits_of}
use Rattle.per_decoding.proofs.Spans.{first_of, row_length}
use Rattle.per_de.proofs.Decoder.take_presences.Goals as goal

pub returns : goal.returns
returns c =
    let span = c.self.inside.bits in
    let source = bits_of c.self.inside.source in
    let few : c.args.count ≤ span.end - span.begin = omega (arith, c.len-left.ensures, c.if-left-count.false) in
    rw (← c.self.view_is, c.behind-self-inside.ensures) (record { front = _; joins = first_of span source c.args.count few; spelled = (row_length span source c.args.count c.self.invariant few, refl) }, refl)
