use Rattle.rasn_jer.proofs.Writing.{leaf, over_ok}
use Rattle.std.proofs.Common.{subst, Option, ℕ}
use Rattle.rasn_jer.specs.Shown.{IsBits, shows_bits}
use Rattle.rasn_jer.proofs.encoder.EncoderEncoder.encode_bit_string.Goals as goal

pub returns : goal.returns
returns g c = leaf c.bits-text.result (λ t. t.items) c.args.self.now _ _ c.write.result c.write.new.self c.write.ensures
    (over_ok c.bits-text.result c.bits-text.ensures (λ t h. record { json = h.json; is_text = h.is_text; shows = shows_bits (subst (λ (f : Option ℕ). IsBits f c.args.value.now h.json) c.count_of.ensures h.are_bits) }))
