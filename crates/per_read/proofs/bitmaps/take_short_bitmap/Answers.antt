use Rattle.std.proofs.Common.{false, inr, refl}
use Rattle.per_core.specs.AdditionFaults.{IsOfLargeBitmap, IsOfSmallBitmap}
use Rattle.per_read.specs.ReaderState.{settings_of}
use Rattle.per_read.proofs.BitmapForms.{flags_after, no_small, small_took}
use Rattle.per_read.proofs.Calls.{begins, takes_last}
use Rattle.per_read.proofs.OfFields.{in_marked}
use Rattle.per_read.proofs.bitmaps.take_short_bitmap.Goals as goal

pub returns : goal.returns
returns c =
    let a = settings_of c.args.reader.now in
    let bit = rw (c.in-Ok-false.is, c.in-Ok-false.field-0-test) at c.take_bit.ensures in
    let e = begins bit.ok refl in
    let small = rw (c.in-Ok-InPlace.is, c.in-Ok-InPlace.field-0-is) at c.take_small_bitmap.ensures in
    takes_last small bit.kept (λ v t. record { flags = t.flags; are = flags_after false v t.flags _ e t.are; held = small_took a e t.flags _ t.held })
    (λ k h. inr (in_marked IsOfSmallBitmap (IsOfLargeBitmap a) k e h.0, no_small a e h.1))
