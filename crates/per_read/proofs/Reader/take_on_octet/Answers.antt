use Rattle.std.proofs.Common.{inl, inr}
use Rattle.per_core.specs.Spellings.{BitField}
use Rattle.per_core.proofs.TakenInTurn.{took_then}
use Rattle.per_read.proofs.Calls.{passes_on, takes_last, too_short}
use Rattle.per_read.proofs.Forms.{no_padded}
use Rattle.per_read.proofs.Padding.{no_padding}
use Rattle.per_read.proofs.Reader.take_on_octet.Goals as goal

pub returns-in_err-take_padding : goal.returns-in_err-take_padding
returns-in_err-take_padding c =
    let h = c.in_err-take_padding.ensures in
    passes_on _ _ c.from_residual.ensures.1 h.kept (inl h.err.0, no_padding (BitField c.args.width) h.err.1)

pub returns : goal.returns
returns c =
    let p = c.in_ok-take_padding.ensures in
    takes_last c.take_bits.ensures p.kept (λ n a. took_then p.ok a) (λ k h. (inr (_, p.ok, h.0), no_padded _ p.ok (too_short h.1)))
