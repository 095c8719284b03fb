use Rattle.std.proofs.Common.{◌≡◌, ℕ, subst, inr, arith}
use Rattle.per_core.specs.Spellings.{BitField, Took}
use Rattle.per_read.specs.ReaderState.{settings_of}
use Rattle.per_read.proofs.Calls.{passes_on, takes_last}
use Rattle.per_read.proofs.Fields.{field_below}
use Rattle.per_decoding.proofs.DatesRead.{any_year, earlier_year, first_year, later_year, no_earlier_year, no_first_year, no_index, no_later_year, no_number_year, short_year}
use Rattle.per_decoding.proofs.dates.take_year.Goals as goal

pub returns-in_err-take_bits : goal.returns-in_err-take_bits
returns-in_err-take_bits c =
    let a = settings_of c.args.reader.now in
    let h = c.in_err-take_bits.ensures in
    passes_on _ _ c.from_residual.ensures.1 h.kept (inr (short_year a _ _ h.err.0, no_index a h.err.1))

pub returns-in-0 : goal.returns-in-0
returns-in-0 c =
    let a = settings_of c.args.reader.now in
    let h = c.in_ok-take_bits.ensures in
    let e : c.in_ok-take_bits.field-0 ≡ 0 = omega arith in
    let i = subst (λ (k : ℕ). Took (BitField 2 k) c.args.reader.now.bits c.take_bits.new.self.bits) e h.ok in
    takes_last c.take_integer.ensures h.kept (λ z b. first_year a z i (rw h.kept at b)) (λ k e. no_first_year a k i (rw h.kept at e))

pub returns-in-1 : goal.returns-in-1
returns-in-1 c =
    let a = settings_of c.args.reader.now in
    let h = c.in_ok-take_bits.ensures in
    let e : c.in_ok-take_bits.field-0 ≡ 1 = omega arith in
    let i = subst (λ (k : ℕ). Took (BitField 2 k) c.args.reader.now.bits c.take_bits.new.self.bits) e h.ok in
    takes_last c.take_integer-in-1.ensures h.kept (λ z b. later_year a z i (rw h.kept at b)) (λ k e. no_later_year a k i (rw h.kept at e))

pub returns-in-2 : goal.returns-in-2
returns-in-2 c =
    let a = settings_of c.args.reader.now in
    let h = c.in_ok-take_bits.ensures in
    let e : c.in_ok-take_bits.field-0 ≡ 2 = omega arith in
    let i = subst (λ (k : ℕ). Took (BitField 2 k) c.args.reader.now.bits c.take_bits.new.self.bits) e h.ok in
    takes_last c.take_integer-in-2.ensures h.kept (λ z b. earlier_year a z i (rw h.kept at b)) (λ k e. no_earlier_year a k i (rw h.kept at e))

pub returns-in_default : goal.returns-in_default
returns-in_default c =
    let a = settings_of c.args.reader.now in
    let h = c.in_ok-take_bits.ensures in
    let e : c.in_ok-take_bits.field-0 ≡ 3 = omega (arith, field_below h.ok) in
    let i = subst (λ (k : ℕ). Took (BitField 2 k) c.args.reader.now.bits c.take_bits.new.self.bits) e h.ok in
    takes_last c.take_integer-in_default.ensures h.kept (λ z b. any_year a z i (rw h.kept at b)) (λ k e. no_number_year a k i (rw h.kept at e))
