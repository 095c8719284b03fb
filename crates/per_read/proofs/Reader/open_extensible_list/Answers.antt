use Rattle.std.proofs.Common.{inl}
use Rattle.std.proofs.lemmas.Bool.{not-true, not-false}
use Rattle.rasn_constraints.specs.Constraints.{size_between}
use Rattle.per_core.specs.Basic.{basic}
use Rattle.per_core.specs.SizeFaults.{IsOfListCount, IsOfNone}
use Rattle.per_read.specs.ReaderState.{settings_of}
use Rattle.per_read.proofs.Calls.{begins, ended, errs}
use Rattle.per_read.proofs.OfFields.{in_marked, past_marked}
use Rattle.per_read.proofs.Openings.{amid_inside, amid_outside, none_inside, none_marked, none_outside, opens_after}
use Rattle.per_read.proofs.Reader.open_extensible_list.Goals as goal

pub returns-then-not-size : goal.returns-then-not-size
returns-then-not-size c = rw (not-true c.args.size.extensible c.if-not-size.true) c.open_sized_list.ensures

pub returns-in_err-take_bit : goal.returns-in_err-take_bit
returns-in_err-take_bit c =
    let h = c.in_err-take_bit.ensures in
    let a = settings_of c.args.self.now in
    rw (not-false c.args.size.extensible c.if-not-size.false, errs _ _ c.from_residual.ensures.1)
    (record { ok = tt; err = (inl h.err.0, λ e. none_marked a (basic a e) (size_between c.args.size.constraint) (ended h.err.1)); leaves = tt; kept = h.kept })

pub returns-then-branch : goal.returns-then-branch
returns-then-branch c =
    let a = settings_of c.args.self.now in
    let size = size_between c.args.size.constraint in
    let bit = c.in_ok-take_bit.ensures in
    let i = begins bit.ok c.if-branch.true in
    rw (not-false c.args.size.extensible c.if-not-size.false)
    (opens_after c.open_sized_list-then-branch.ensures bit.kept (record { front = bit.ok.front; joins = bit.ok.joins }) (λ l e h. amid_outside a (basic a e) size i h) (λ k h. past_marked (IsOfListCount a size.least size.most) IsOfNone k i h) (λ e none. none_outside a (basic a e) size i none))

pub returns : goal.returns
returns c =
    let a = settings_of c.args.self.now in
    let size = size_between c.args.size.constraint in
    let bit = c.in_ok-take_bit.ensures in
    let i = begins bit.ok c.if-branch.false in
    rw (not-false c.args.size.extensible c.if-not-size.false)
    (opens_after c.open_sized_list-2.ensures bit.kept (record { front = bit.ok.front; joins = bit.ok.joins }) (λ l e h. amid_inside a (basic a e) size i h) (λ k h. in_marked (IsOfListCount a size.least size.most) IsOfNone k i h) (λ e none. none_inside a (basic a e) size i none))
