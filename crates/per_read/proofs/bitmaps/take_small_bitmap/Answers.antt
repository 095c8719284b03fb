use Rattle.std.proofs.Common.{◌∙◌, inl, inr, arith}
use Rattle.per_read.proofs.Calls.{answers, passes_on}
use Rattle.per_read.proofs.Fields.{field_below}
use Rattle.per_read.proofs.BitmapForms.{no_small_bits, no_small_field, small_bits}
use Rattle.per_read.proofs.FrontItems.{last_front}
use Rattle.per_read.proofs.bitmaps.take_small_bitmap.Goals as goal

pub returns-in_err-more : goal.returns-in_err-more
returns-in_err-more c = let h = c.in_err-more.ensures in passes_on _ _ c.from_residual.ensures.1 h.kept (inl h.err.0, no_small_field h.err.1)

pub overflow_add-more : goal.overflow_add-more
overflow_add-more c = omega (arith, field_below c.in_ok-more.ensures.ok)

pub returns-in_err-take_front : goal.returns-in_err-take_front
returns-in_err-take_front c =
    let f = c.in_ok-more.ensures in
    let h = c.in_err-take_front.ensures in
    passes_on _ _ c.from_residual-in_err-take_front.ensures.1 (h.kept ∙ f.kept) (inr (c.in_ok-more.more, (_, f.ok, h.err.0)), no_small_bits _ f.ok h.err.1)

pub returns : goal.returns
returns c =
    let f = c.in_ok-more.ensures in
    let h = c.in_ok-take_front.ensures in
    answers _ (h.kept ∙ f.kept) (record { flags = _; are = last_front f.ok h.ok; held = small_bits _ f.ok _ h.ok })
