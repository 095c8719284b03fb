use Rattle.std.proofs.Common.{◌≡◌, ◌≤◌, length, Some, None, sym, ◌∙◌, ap, arith}
use Rattle.std.specs.Prelude.{slice_get}
use Rattle.lawful_types.proofs.Fronts.{closed_all, closed_more, front_then, past}
use Rattle.lawful_types.proofs.newer.compare_all.Goals as goal

pub returns-in_default-clause-closed : goal.returns-in_default-clause-closed
returns-in_default-clause-closed c =
    let ps = c.loop-done.pairs.items in let i = c.loop-done.done in
    let none : slice_get ps i ≡ None = ap (λ l. slice_get l i) (sym c.deref.ensures.value) ∙ sym c.pair_at.ensures ∙ c.in_default.is in
    closed_all c.args.newer.now c.args.older.now ps i (past ps i none) c.loop-done.invariant.closed

pub loop-done-preserved : goal.loop-done-preserved
loop-done-preserved c =
    let ts' = c.args.newer.now in let ts = c.args.older.now in
    let ps = c.loop-done.pairs.items in let qs = c.compare_pair.new.pairs.items in let i = c.loop-done.done in
    let stands : Some c.in-Some.pair ≡ slice_get ps i = sym c.in-Some.is ∙ c.pair_at.ensures ∙ ap (λ l. slice_get l i) c.deref.ensures.value in
    record {
      front = front_then c.args.pairs.now.items ps qs c.loop-done.invariant.front c.compare_pair.ensures.front;
      closed = closed_more ts' ts ps qs i c.in-Some.pair stands c.compare_pair.ensures.front c.in_ok-compare_pair.ensures.newer c.loop-done.invariant.closed;
    }

pub returns-clause-closed : goal.returns-clause-closed
returns-clause-closed c =
    let v = c.loop-done.pairs in
    let short : length v.items ≤ c.loop-done.done = omega (arith, v.ok.0, v.ok.1, v.small, c.loop-done-test.false) in
    closed_all c.args.newer.now c.args.older.now v.items c.loop-done.done short c.loop-done.invariant.closed
