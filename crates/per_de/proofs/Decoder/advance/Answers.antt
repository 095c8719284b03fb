use Rattle.std.proofs.Common.{◌≡◌, ◌≤◌, arith, ◌∙◌, ◌+◌, ◌-◌, ap, drop, length, refl}
use Rattle.per_decoding.specs.Sources.{bits_of, span_of}
use Rattle.per_decoding.specs.State.{State, with_bits}
use Rattle.per_decoding.proofs.Spans.{advanced, span_length}
use Rattle.per_de.proofs.Decoder.advance.Goals as goal

pub returns : goal.returns
returns c =
    let same = c.self.view_is in
    let span = c.self.inside.bits in
    let source = bits_of c.self.inside.source in
    let n = span.end - span.begin - c.args.left in
    let few : c.args.left ≤ span.end - span.begin = omega (arith, c.requires, ap (λ (z : State). length z.bits) same, span_length span source c.self.invariant) in
    let begin : span.end - c.args.left ≡ span.begin + n = omega (arith, few) in
    rw begin
    (ap (λ z. with_bits z (span_of (record { begin = span.begin + n; end = span.end }) source)) same ∙ ap (λ z. with_bits c.args.self.now z)
    (advanced span source c.args.left n c.self.invariant refl ∙ ap (λ z. drop (length z.bits - c.args.left) z.bits) same))
