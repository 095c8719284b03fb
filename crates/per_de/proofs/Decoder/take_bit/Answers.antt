use Rattle.std.proofs.Common.{◌∙◌, refl, sym, ap, rules}
use Rattle.per_decoding.specs.Sources.{bits_of}
use Rattle.per_decoding.proofs.Spans.{next_of, some_left}
use Rattle.per_de.proofs.Decoder.take_bit.Goals as goal

pub behind-self-inside-requires : goal.behind-self-inside-requires
behind-self-inside-requires c = some_left c.self.inside.bits (bits_of c.self.inside.source) c.input-bits.result.bits (c.input-bits.ensures.bits ∙ sym (ap (λ z. z.bits) c.self.view_is)) (search rules)

pub returns : goal.returns
returns c =
    let span = c.self.inside.bits in
    let source = bits_of c.self.inside.source in
    rw (← c.self.view_is, c.behind-self-inside.ensures)
    (record { front = _; joins = next_of span source c.input-bits.result.bits c.first_bit-bit.result (c.input-bits.ensures.bits ∙ sym (ap (λ z. z.bits) c.self.view_is)) (search rules) c.first_bit-bit.ensures; spelled = refl }, refl)
