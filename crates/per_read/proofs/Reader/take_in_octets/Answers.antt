use Rattle.std.proofs.Common.{◌+◌, inl, inr}
use Rattle.per_read.specs.ReaderState.{settings_of}
use Rattle.per_read.proofs.Calls.{takes_last, passes_on, too_short}
use Rattle.per_read.proofs.Forms.{counted, no_count, no_counted}
use Rattle.per_read.proofs.Reader.take_in_octets.Goals as goal

pub returns-in_err-more : goal.returns-in_err-more
returns-in_err-more c =
    let h = c.in_err-more.ensures.taken.err in
    passes_on _ _ c.from_residual.ensures.1 c.in_err-more.ensures.taken.kept (inl h.0, no_count (settings_of c.args.self.now) (c.args.greatest + 1) (too_short h.1))

pub returns : goal.returns
returns c =
    let a = settings_of c.args.self.now in
    let n = c.args.greatest + 1 in
    let more = c.in_ok-more.ensures.taken in
    takes_last c.take_on_octet.ensures more.kept (λ o b. counted a n c.in_ok-more.more o more.ok (rw more.kept at b)) (λ k h. (inr (c.in_ok-more.more, (_, more.ok, rw more.kept at h.0)), no_counted a n c.in_ok-more.more more.ok (rw more.kept at h.1)))
