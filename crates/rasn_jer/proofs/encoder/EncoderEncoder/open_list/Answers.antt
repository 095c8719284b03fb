use Rattle.std.proofs.lemmas.Result.{err_from_is_err_and}
use Rattle.rasn_jer.proofs.Listing.{list_opened, list_unopened, opened_awaits}
use Rattle.rasn_jer.proofs.encoder.EncoderEncoder.open_list.Goals as goal

pub returns : goal.returns
returns g c = record {
  opens = record {
    law = list_opened _ _ c.args.count _ c.args.self.now c.in_ok-outside.outside c.enter.new.self c.in_ok-outside.ensures c.new-place.ensures;
    behaves = (let b = c.in_ok-outside.ensures.behaves in record { again = λ q. b.again q; fails = tt; kept = b.kept });
  };
  counts = opened_awaits _ c.args.self.now c.in_ok-outside.outside c.enter.new.self c.in_ok-outside.ensures c.new-place.ensures;
}

pub returns-in_err-outside : goal.returns-in_err-outside
returns-in_err-outside g c =
    let p = err_from_is_err_and c.from_residual.result c.from_residual.ensures.1 in
    rw (p.1, p.2) (record {
      opens = record {
        law = list_unopened _ _ c.args.count _ c.args.self.now _ c.enter.new.self c.in_err-outside.ensures;
        behaves = (let b = c.in_err-outside.ensures.behaves in record { again = λ q. b.again q; fails = b.fails; kept = b.kept });
      };
      counts = tt;
    })
