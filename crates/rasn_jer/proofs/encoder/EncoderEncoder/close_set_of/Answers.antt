use Rattle.rasn_jer.proofs.Listing.{bag_closed, some_left}
use Rattle.rasn_jer.proofs.Turns.{values_untimely}
use Rattle.rasn_jer.proofs.encoder.EncoderEncoder.close_set_of.Goals as goal

pub returns : goal.returns
returns g c = record {
  closes = record {
    law = λ f x h. bag_closed f x c.args.bag c.args.self.now c.close_items.result c.close_items.new.self (c.close_items.ensures.closed h.counted) h;
    early = λ f x v vs h. some_left f x v vs c.args.bag c.args.self.now c.close_items.result c.close_items.new.self h c.close_items.ensures;
    behaves = c.close_items.ensures.behaves;
  };
  untimely = λ n i a. values_untimely n i c.args.self.now c.close_items.result a c.close_items.ensures.lacks;
}
