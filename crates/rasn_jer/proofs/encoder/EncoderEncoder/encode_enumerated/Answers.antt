use Rattle.rasn_jer.proofs.Writing.{leaf, over_ok}
use Rattle.rasn_jer.specs.Shown.{shows_item}
use Rattle.rasn_jer.proofs.encoder.EncoderEncoder.encode_enumerated.Goals as goal

pub returns : goal.returns
returns g c = leaf c.item-text.result (λ t. t.items) c.args.self.now _ _ c.write.result c.write.new.self c.write.ensures
    (over_ok c.item-text.result c.item-text.ensures (λ t h. record { json = _; is_text = h.is_text; shows = shows_item _ h.has_numbers }))
