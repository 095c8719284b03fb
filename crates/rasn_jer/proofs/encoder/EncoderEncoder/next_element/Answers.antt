use Rattle.rasn_jer.proofs.Listing.{element_next}
use Rattle.rasn_jer.proofs.encoder.EncoderEncoder.next_element.Goals as goal

pub returns : goal.returns
returns g c = element_next c.args.list.now.0 c.args.list.now.1 c.next_item.new.left c.args.self.now c.next_item.result c.next_item.new.self c.next_item.ensures
