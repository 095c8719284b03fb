use Rattle.std.proofs.Common.{refl, rules}
use Rattle.std.proofs.lemmas.Result.{err_from_is_err_and}
use Rattle.rasn_traits.specs.AdditionsRead.{reads_added, reads_lacking}
use Rattle.rasn_record.proofs.OneAddition.{addition_unread}
use Rattle.rasn_additions.proofs.additions.AddedDecodeSide.decode_default.Goals as goal

pub returns-in_err-read : goal.returns-in_err-read
returns-in_err-read g c =
    let p = err_from_is_err_and c.from_residual.result c.from_residual.ensures.1 in
    record { law = rw (p.1, p.2) (addition_unread g.D.Decoder.rules c.in_err-read.ensures.law); behaves = search rules }

pub returns-in-Some : goal.returns-in-Some
returns-in-Some g c = record { law = reads_added (rw c.in-Some.is at c.in_ok-read.ensures.law); behaves = search rules }

pub returns-in-Ok : goal.returns-in-Ok
returns-in-Ok g c =
    let k = rw c.in-None.is at c.in_ok-read.ensures.law in
    record { law = rw c.in-Ok.ensures (reads_lacking refl k); behaves = search rules }
