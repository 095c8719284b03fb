use Rattle.std.proofs.lemmas.Result.{IfOk-weaker}
use Rattle.per_read.proofs.Reader.skip_octet_string.Goals as goal

pub returns : goal.returns
returns c =
    let t = rw c.size.ensures at c.take_items.ensures in
    record { ok = IfOk-weaker c.take_items.result _ _ (λ n h. record { octets = h.codes; many = h.count; held = h.took }) t.ok; err = t.err; kept = t.kept }
