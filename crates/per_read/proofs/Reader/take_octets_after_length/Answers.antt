use Rattle.std.proofs.Common.{◌∙◌, subst, arith}
use Rattle.per_core.specs.Spellings.{Took}
use Rattle.per_core.specs.BitFieldFaults.{in_items, in_length}
use Rattle.per_core.specs.Lengths.{LengthOf}
use Rattle.per_read.specs.ReaderState.{settings_of}
use Rattle.per_core.specs.declared.lengths.Length.TheVariants.{Last}
use Rattle.per_read.proofs.Calls.{too_short}
use Rattle.per_read.proofs.ReadAsField.{few_no_length, few_refused, few_short, few_took}
use Rattle.per_read.proofs.Reader.take_octets_after_length.Goals as goal

pub returns-in_err-take_unconstrained_length : goal.returns-in_err-take_unconstrained_length
returns-in_err-take_unconstrained_length c =
    let h = c.take_unconstrained_length.ensures in
    let i = c.in_err-take_unconstrained_length.ensures in
    few_refused _ _ c.from_residual.ensures.1 i.kept (in_length i.err.0, few_no_length _ _ i.err.1)

pub returns-in_err-number-in-Last-1-to-16 : goal.returns-in_err-number-in-Last-1-to-16
returns-in_err-number-in-Last-1-to-16 c =
    let h = c.in_ok-take_unconstrained_length.ensures in
    let i = c.in_err-number-in-Last-1-to-16.ensures in
    few_refused _ _ c.from_residual-in_err-number-in-Last-1-to-16.ensures.1 (i.kept ∙ h.kept)
    (in_items (Last c.in-Last-1-to-16.count) (subst (λ z. Took (LengthOf (settings_of c.args.self.now) z) c.args.self.now.bits c.take_unconstrained_length.new.self.bits) c.in-Last-1-to-16.is h.ok) i.err.0, few_short _ _ c.in-Last-1-to-16.count h.ok c.in-Last-1-to-16.is (too_short i.err.1))

pub returns-in_ok-number-in-Last-1-to-16 : goal.returns-in_ok-number-in-Last-1-to-16
returns-in_ok-number-in-Last-1-to-16 c =
    let h = c.in_ok-take_unconstrained_length.ensures in
    let i = c.in_ok-number-in-Last-1-to-16.ensures in
    let between = c.in-Last-1-to-16.count-is in
    record { ok = few_took c.in-Last-1-to-16.count _ h.ok c.in-Last-1-to-16.is (omega (arith, between)) (omega (arith, between)) i.ok; err = tt; kept = i.kept ∙ h.kept }
