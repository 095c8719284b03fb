use Rattle.rasn_constraints.specs.Constraints.{bounds_of}
use Rattle.per_read.specs.ReaderState.{settings_of}
use Rattle.per_read.proofs.Calls.{takes_last, passes_on, begins, ended}
use Rattle.per_decoding.proofs.Marks.{no_bit, in_root, past_root, faulty_root, faulty_past}
use Rattle.per_decoding.proofs.integers.take_extensible_integer.Goals as goal

pub returns-then-not-value : goal.returns-then-not-value
returns-then-not-value g c = rw c.if-not-value.true c.take_root_integer.ensures

pub returns-in_err-take_bit : goal.returns-in_err-take_bit
returns-in_err-take_bit g c =
    let h = c.in_err-take_bit.ensures in
    rw c.if-not-value.false (passes_on _ _ c.from_residual.ensures.1 h.kept (no_bit (settings_of c.args.reader.now) (bounds_of c.args.value.constraint) g.I.IntegerType.range _ (h.err.0, ended h.err.1)))

pub returns-then-branch : goal.returns-then-branch
returns-then-branch g c =
    let a = settings_of c.args.reader.now in
    let b = bounds_of c.args.value.constraint in
    let range = g.I.IntegerType.range in
    let bit = c.in_ok-take_bit.ensures in
    let e = begins bit.ok c.if-branch.true in
    rw c.if-not-value.false (takes_last c.take_unconstrained_integer.ensures bit.kept (λ i t. past_root a b range e _ _ (rw bit.kept at t)) (λ k h. faulty_past a b range k e (rw bit.kept at h)))

pub returns : goal.returns
returns g c =
    let a = settings_of c.args.reader.now in
    let b = bounds_of c.args.value.constraint in
    let range = g.I.IntegerType.range in
    let bit = c.in_ok-take_bit.ensures in
    let e = begins bit.ok c.if-branch.false in
    rw c.if-not-value.false (takes_last c.take_root_integer-2.ensures bit.kept (λ i t. in_root a b range e _ _ (rw bit.kept at t)) (λ k h. faulty_root a b range k e (rw bit.kept at h)))
