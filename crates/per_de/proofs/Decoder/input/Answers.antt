use Rattle.std.proofs.Common.{◌≡◌, ◌∙◌, ap, ◌+◌, ◌-◌, ◌%◌, ℕ, length, arith}
use Rattle.per_decoding.specs.Sources.{bits_of, place_of}
use Rattle.per_decoding.proofs.Spans.{span_length}
use Rattle.per_de.proofs.Decoder.input.Goals as goal

pub returns-clause-place : goal.returns-clause-place
returns-clause-place c =
    let span = c.self.inside.bits in let source = bits_of c.self.inside.source in
    let there : span.begin ≡ length source - ((length source - span.end) + length c.args.self.now.bits) =
    omega (arith, ap (λ z. length z.bits) c.self.view_is, span_length span source c.self.invariant, c.self.invariant.ordered, c.self.invariant.enough) in
    c.all_of.ensures.place ∙ ap (λ (n : ℕ). (n + span.begin) % 8) c.bits.ensures.place
    ∙ ap (λ (n : ℕ). (place_of c.self.inside.source + n) % 8) there ∙ ap (λ z. (z.place + (length z.bits - (z.behind + length c.args.self.now.bits))) % 8) (ap (λ z. z.source) c.self.view_is)
