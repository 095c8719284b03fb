use Rattle.std.proofs.Common.{◌∙◌, arith, inl}
use Rattle.per_core.specs.Basic.{IsSemiConstrainedWhole}
use Rattle.per_core.specs.Spellings.{BitField}
use Rattle.per_core.specs.BitFieldFaults.{IsOfBitField, IsOfUnconstrained}
use Rattle.per_read.specs.ReaderState.{settings_of}
use Rattle.per_read.proofs.Calls.{answers, passes_on, takes_last, begins, ended}
use Rattle.per_read.proofs.SmallForms.{field_small, octets_small}
use Rattle.per_read.proofs.Fields.{field_below}
use Rattle.per_read.proofs.InPlace.{of_index}
use Rattle.per_read.proofs.OfFields.{in_marked}
use Rattle.per_read.proofs.Marked.{in_mark, mark_in, mark_past, no_mark, past_mark}
use Rattle.per_read.proofs.small_numbers.take_small.Goals as goal

pub returns-in_err-take_bit : goal.returns-in_err-take_bit
returns-in_err-take_bit c =
    let a = settings_of c.args.reader.now in
    let h = c.in_err-take_bit.ensures in
    passes_on _ _ c.from_residual.ensures.1 h.kept (field_small _ _ _ (inl h.err.0), no_mark (BitField 6) (IsSemiConstrainedWhole a) (ended h.err.1))

pub returns-then-branch : goal.returns-then-branch
returns-then-branch c =
    let a = settings_of c.args.reader.now in
    let bit = c.in_ok-take_bit.ensures in
    let e = begins bit.ok c.if-branch.true in
    takes_last c.take_index.ensures bit.kept (λ r t. of_index _ _ r (λ n. mark_past (BitField 6) (IsSemiConstrainedWhole a) e n _) (rw bit.kept at t))
    (λ k h. let g = rw bit.kept at h in (octets_small a _ _ k e g.0, λ n t b. g.1 n t (past_mark (BitField 6) (IsSemiConstrainedWhole a) e n t b)))

pub returns-in_err-number : goal.returns-in_err-number
returns-in_err-number c =
    let a = settings_of c.args.reader.now in
    let bit = c.in_ok-take_bit.ensures in
    let e = begins bit.ok c.if-branch.false in
    let h = c.in_err-number.ensures in
    passes_on _ _ c.from_residual-in_err-number.ensures.1 (h.kept ∙ bit.kept) (field_small _ _ _ (in_marked (IsOfBitField 6) (IsOfUnconstrained a 8) _ e h.err.0), λ n t b. h.err.1 n t (in_mark (BitField 6) (IsSemiConstrainedWhole a) e n t b))

pub overflow_cast-result : goal.overflow_cast-result
overflow_cast-result c = omega (arith, field_below c.in_ok-number.ensures.ok)

pub returns : goal.returns
returns c =
    let a = settings_of c.args.reader.now in
    let bit = c.in_ok-take_bit.ensures in
    let e = begins bit.ok c.if-branch.false in
    answers _ (c.in_ok-number.ensures.kept ∙ bit.kept) (mark_in (BitField 6) (IsSemiConstrainedWhole a) e _ _ c.in_ok-number.ensures.ok)
