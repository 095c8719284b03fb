use Rattle.rasn_jer.proofs.Named.{named_shown}
use Rattle.rasn_jer.proofs.Writing.{leaf, over_ok}
use Rattle.rasn_jer.proofs.encoder.EncoderEncoder.encode_named_bits.Goals as goal

pub returns : goal.returns
returns g c = leaf c.named_bits-text.result (λ t. t.items) c.args.self.now _ _ c.write.result c.write.new.self c.write.ensures
    (over_ok c.named_bits-text.result c.named_bits-text.ensures (λ t h. record {
      json = h.json;
      is_text = h.is_text;
      shows = named_shown _ _ _ _ _ h.json c.least_count-least.ensures c.least_count-least.type_inv c.count_of.ensures h.are_bits;
    }))
