use Rattle.rasn_jer.proofs.Listing.{member_next}
use Rattle.rasn_jer.proofs.encoder.EncoderEncoder.next_member.Goals as goal

pub returns : goal.returns
returns g c = member_next c.args.bag.now.0 c.args.bag.now.1 c.next_item.new.left c.args.self.now c.next_item.result c.next_item.new.self c.next_item.ensures
