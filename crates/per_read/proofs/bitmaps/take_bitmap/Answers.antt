use Rattle.std.proofs.Common.{true, false, inl, inr}
use Rattle.per_read.proofs.Calls.{begins, ended, passes_on, takes_last}
use Rattle.per_read.proofs.OfFields.{in_marked}
use Rattle.per_core.specs.AdditionFaults.{IsOfLargeBitmap, IsOfSmallBitmap}
use Rattle.per_read.specs.ReaderState.{settings_of}
use Rattle.per_read.proofs.BitmapForms.{flags_after, large_gathers, large_took, no_bitmap, no_large, no_small, small_took}
use Rattle.per_read.proofs.bitmaps.take_bitmap.Goals as goal

pub returns-in_err-take_bit : goal.returns-in_err-take_bit
returns-in_err-take_bit c =
    let h = c.in_err-take_bit.ensures in
    passes_on _ _ c.from_residual.ensures.1 h.kept (inr (inl h.err.0, no_bitmap _ (ended h.err.1)))

pub returns-then-branch : goal.returns-then-branch
returns-then-branch c =
    let a = settings_of c.args.reader.now in
    let bit = c.in_ok-take_bit.ensures in
    let e = begins bit.ok c.if-branch.true in
    takes_last c.take_large_bitmap.ensures bit.kept (λ v t. record { flags = t.flags; are = flags_after true v t.flags _ e t.are; held = large_took a e t.flags _ (rw bit.kept at t.held) })
    (λ k h. large_gathers a e k (no_large a e) (rw bit.kept at h))

pub returns-else-branch : goal.returns-else-branch
returns-else-branch c =
    let a = settings_of c.args.reader.now in
    let bit = c.in_ok-take_bit.ensures in
    let e = begins bit.ok c.if-branch.false in
    takes_last c.take_small_bitmap.ensures bit.kept (λ v t. record { flags = t.flags; are = flags_after false v t.flags _ e t.are; held = small_took a e t.flags _ t.held })
    (λ k h. inr (in_marked IsOfSmallBitmap (IsOfLargeBitmap a) k e h.0, no_small a e h.1))
