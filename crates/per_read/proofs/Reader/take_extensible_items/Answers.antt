use Rattle.rasn_constraints.specs.Constraints.{size_between}
use Rattle.per_read.specs.ReaderState.{settings_of}
use Rattle.per_read.proofs.Calls.{takes_last_items, passes_on_items, begins, ended}
use Rattle.per_read.proofs.Miscounts.{no_bit, in_size, past_size, faulty_in, faulty_past}
use Rattle.per_read.proofs.Reader.take_extensible_items.Goals as goal

pub returns-then-not-size : goal.returns-then-not-size
returns-then-not-size g c = rw c.if-not-size.true c.take_sized.ensures

pub returns-in_err-take_bit : goal.returns-in_err-take_bit
returns-in_err-take_bit g c =
    let h = c.in_err-take_bit.ensures in
    rw c.if-not-size.false (passes_on_items _ _ c.from_residual.ensures.1 h.kept
    (no_bit (settings_of c.args.self.now) (g.C.Collector.item c.args.items.now) (size_between c.args.size.constraint) _ (h.err.0, ended h.err.1)))

pub returns-then-branch : goal.returns-then-branch
returns-then-branch g c =
    let a = settings_of c.args.self.now in
    let i = g.C.Collector.item c.args.items.now in
    let size = size_between c.args.size.constraint in
    let bit = c.in_ok-take_bit.ensures in
    let e = begins bit.ok c.if-branch.true in
    rw c.if-not-size.false (takes_last_items c.take_unconstrained_items.ensures bit.kept (λ n b. past_size a i size e (rw bit.kept at b)) (λ k h. faulty_past a i size k e (rw bit.kept at h)))

pub returns : goal.returns
returns g c =
    let a = settings_of c.args.self.now in
    let i = g.C.Collector.item c.args.items.now in
    let size = size_between c.args.size.constraint in
    let bit = c.in_ok-take_bit.ensures in
    let e = begins bit.ok c.if-branch.false in
    rw c.if-not-size.false (takes_last_items c.take_sized-2.ensures bit.kept (λ n b. in_size a i size e (rw bit.kept at b)) (λ k h. faulty_in a i size k e (rw bit.kept at h)))
