use Rattle.std.proofs.Common.{◌≡◌, ◌∷◌, ◌+◌, ap, sym, ◌∙◌, rules, slice_get, Some}
use Rattle.per_decoding.specs.Sources.{bits_of, span_of}
use Rattle.per_decoding.specs.State.{State}
use Rattle.per_decoding.proofs.Spans.{behind, first_bit, one_more}
use Rattle.per_de.proofs.Decoder.take_presence.Goals as goal

pub returns-in-Some : goal.returns-in-Some
returns-in-Some c =
    let span = c.self.inside.presences in
    let source = bits_of c.self.inside.source in
    let same = c.self.view_is in
    let there : slice_get (span_of span source) 0 ≡ Some c.in-Some.bit = ap (λ z. slice_get z.presences 0) same ∙ sym c.first_presence.ensures ∙ c.in-Some.is in
    let rest = span_of (record { begin = span.begin + 1; end = span.end }) source in
    rw c.behind-self-inside.ensures (record {
      law = record {
        live = c.in_ok-check_unfailed.ensures.ok;
        first = ap (λ z. z.presences) (sym same) ∙ first_bit (span_of span source) c.in-Some.bit there ∙ ap (λ z. c.in-Some.bit ∷ z) (behind span source 1 (one_more span source c.in-Some.bit there));
        same = ap (λ (z : State). record z { presences = rest }) same;
      };
      behaves = search rules;
    })
