use Rattle.std.proofs.Common.{◌≡◌, ◌∙◌, ◌∷◌, ap, sym, slice_get, Some}
use Rattle.per_decoding.specs.Sources.{span_of}
use Rattle.per_decoding.specs.declared.source.Span.{Span}
use Rattle.per_decoding.proofs.Spans.{behind, first_bit, one_more}
use Rattle.per_decoding.proofs.source.Span.next_bit.Goals as goal

pub returns : goal.returns
returns c =
    let span = c.args.self.now in
    let source = c.args.source.bits in
    let there : slice_get (span_of span source) 0 ≡ Some c.in_ok-bit.bit = sym c.in_ok-bit.ensures in
    first_bit (span_of span source) c.in_ok-bit.bit there
    ∙ ap (λ z. c.in_ok-bit.bit ∷ z) (behind span source 1 (one_more span source c.in_ok-bit.bit there) ∙ ap (λ (z : Span). span_of z source) (sym c.behind.ensures))
