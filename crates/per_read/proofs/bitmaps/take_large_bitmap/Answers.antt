use Rattle.std.proofs.Common.{◌≡◌, ◌∙◌, ◌*◌, inl, inr, refl, ap, subst, arith}
use Rattle.per_core.specs.Spellings.{Took}
use Rattle.per_core.specs.AdditionFaults.{IsOfLargeBitmap}
use Rattle.per_core.specs.BitFieldFaults.{in_items, in_length}
use Rattle.per_core.specs.Lengths.{LengthOf}
use Rattle.per_read.specs.ReaderState.{settings_of}
use Rattle.per_core.specs.declared.lengths.Length.TheVariants.{Last}
use Rattle.per_read.proofs.Calls.{answers, passes_on, refuses}
use Rattle.per_read.proofs.OfFields.{as_lacking}
use Rattle.per_read.proofs.Refusals.{faulty_map}
use Rattle.per_read.proofs.BitmapForms.{empty_bits, fragment_bits, large_bits, no_large_bits, no_length_no_bits, no_front_no_bits, unsized_bits}
use Rattle.per_read.proofs.Pieces.{gathers}
use Rattle.per_read.proofs.FrontItems.{last_front}
use Rattle.per_read.proofs.bitmaps.take_large_bitmap.Goals as goal

pub returns-in_err-count : goal.returns-in_err-count
returns-in_err-count c =
    let h = rw c.ahead_of-ahead.ensures at c.in_err-count.ensures in
    passes_on _ _ c.from_residual.ensures.1 refl (inr (inl (in_length h.err.0), no_length_no_bits _ h.err.1))

pub returns-then-count-eq0 : goal.returns-then-count-eq0
returns-then-count-eq0 c =
    let x = c.args.reader.now in
    let f = rw c.ahead_of-ahead.ensures at c.in_ok-count.ensures in
    let l = subst (λ z. Took (LengthOf (settings_of x) z) x.bits c.take_unconstrained_length.new.self.bits) (c.in-Last.is ∙ ap Last c.if-count-eq0.true) f.ok in
    refuses _ refl (inr (inr (refl, _, l), empty_bits _ l))

pub returns-in_err-take_front-in-Last : goal.returns-in_err-take_front-in-Last
returns-in_err-take_front-in-Last c =
    let x = c.args.reader.now in
    let f = rw c.ahead_of-ahead.ensures at c.in_ok-count.ensures in
    let l = subst (λ z. Took (LengthOf (settings_of x) z) x.bits c.take_unconstrained_length.new.self.bits) c.in-Last.is f.ok in
    let h = c.in_err-take_front-in-Last.ensures in
    let wide : c.in-Last.count ≡ 1 * c.in-Last.count = omega arith in
    passes_on _ _ c.from_residual-in_err-take_front-in-Last.ensures.1 refl (inr (inl (in_items (Last c.in-Last.count) l (as_lacking wide h.err.0)), no_front_no_bits _ c.in-Last.count l h.err.1))

pub returns-in_err-take_bit_string-in-Fragment : goal.returns-in_err-take_bit_string-in-Fragment
returns-in_err-take_bit_string-in-Fragment c =
    let x = c.args.reader.now in
    let f = rw c.ahead_of-ahead.ensures at c.in_ok-count.ensures in
    let l = subst (λ z. Took (LengthOf (settings_of x) z) x.bits c.take_unconstrained_length.new.self.bits) c.in-Fragment.is f.ok in
    let h = c.in_err-take_bit_string-in-Fragment.ensures in
    passes_on _ _ c.from_residual-in_err-take_bit_string-in-Fragment.ensures.1 h.kept
    (gathers IsOfLargeBitmap _ _ l (no_large_bits _) (faulty_map _ (λ f. inl (unsized_bits _ _ _ f)) (λ none. none) h.err))

pub returns-in_ok-take_front-in-Last : goal.returns-in_ok-take_front-in-Last
returns-in_ok-take_front-in-Last c =
    let x = c.args.reader.now in
    let f = rw c.ahead_of-ahead.ensures at c.in_ok-count.ensures in
    let l = subst (λ z. Took (LengthOf (settings_of x) z) x.bits c.take_unconstrained_length.new.self.bits) c.in-Last.is f.ok in
    let h = c.in_ok-take_front-in-Last.ensures in
    answers _ (h.kept ∙ f.kept) (record {
      flags = _;
      are = last_front l h.ok;
      held = large_bits (settings_of x) c.in-Last.count _ (omega (arith, c.if-count-eq0.false)) l h.ok;
    })

pub returns-in_ok-take_bit_string-in-Fragment : goal.returns-in_ok-take_bit_string-in-Fragment
returns-in_ok-take_bit_string-in-Fragment c =
    let x = c.args.reader.now in
    let f = rw c.ahead_of-ahead.ensures at c.in_ok-count.ensures in
    let l = subst (λ z. Took (LengthOf (settings_of x) z) x.bits c.take_unconstrained_length.new.self.bits) c.in-Fragment.is f.ok in
    let h = c.in_ok-take_bit_string-in-Fragment.ensures in
    answers _ h.kept (record { flags = _; are = refl; held = fragment_bits (settings_of x) _ _ l h.ok })
