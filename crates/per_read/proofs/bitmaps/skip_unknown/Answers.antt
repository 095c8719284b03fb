use Rattle.std.proofs.Common.{◌≡◌, ◌∙◌, ◌∷◌, true, ap}
use Rattle.per_read.proofs.Calls.{passes_on}
use Rattle.per_read.proofs.Skipped.{none_skipped, skip_present, skip_refused}
use Rattle.per_read.proofs.bitmaps.skip_unknown.Goals as goal

pub loop-is_present-preserved-in-Continue-1 : goal.loop-is_present-preserved-in-Continue-1
loop-is_present-preserved-in-Continue-1 c =
    let h = c.loop-is_present.invariant in
    let s = rw h.3 at c.in_ok-skip_open.ensures in
    let e : c.loop-is_present.is_present-iterator ≡ true ∷ c.next.new.self = c.in-Some.ensures.steps ∙ ap (λ z. z ∷ c.next.new.self) c.if-is_present.true in
    (tt, tt, skip_present h.2 e s.ok, s.kept)

pub returns-in_err-skip_open : goal.returns-in_err-skip_open
returns-in_err-skip_open c =
    let h = c.loop-is_present.invariant in
    let k = rw c.into_iter-is_present-iterator.ensures.into_iter_gives at h.2 in
    let s = rw h.3 at c.in_err-skip_open.ensures in
    let e : c.loop-is_present.is_present-iterator ≡ true ∷ c.next.new.self = c.in-Some.ensures.steps ∙ ap (λ z. z ∷ c.next.new.self) c.if-is_present.true in
    passes_on _ _ c.from_residual.ensures.1 s.kept (skip_refused k _ e s.err.0, none_skipped k e s.err.1)
