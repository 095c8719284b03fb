use Rattle.std.proofs.Common.{◌≡◌, ◌∙◌, sym, ap, ◌+◌, slice_get, arith}
use Rattle.rasn_types.specs.Alphabets.{restricted}
use Rattle.rasn_strings.specs.Intervals.{expand}
use Rattle.rasn_strings.specs.Walks.{from_on}
use Rattle.rasn_strings.proofs.Walking.{begins, next_some, next_none, drop_after, get_dropped, get_past}
use Rattle.rasn_strings.proofs.permitted.get.Goals as goal

pub loop-init : goal.loop-init
loop-init c = begins c.args.own.now c.args.permitted.now c.requires

pub returns-in_err-at : goal.returns-in_err-at
returns-in_err-at c = let t = c.loop-test.true in
    c.from_residual.ensures ∙ sym (get_past c.loop.counter c.args.index (restricted (expand c.args.own.now) c.args.permitted.now) (omega arith) (sym c.loop.invariant ∙ next_none c.args.own.now c.args.permitted.now c.loop.at c.in_err-at.ensures.value))

pub loop-preserved : goal.loop-preserved
loop-preserved c = sym (drop_after c.loop.counter c.in_ok-at.field-0 (restricted (expand c.args.own.now) c.args.permitted.now) (from_on (c.in_ok-at.field-0 + 1) (restricted (expand c.args.own.now) c.args.permitted.now)) (sym c.loop.invariant ∙ (next_some c.args.own.now c.args.permitted.now c.loop.at c.in_ok-at.field-0 c.requires c.in_ok-at.ensures.value).left))

pub returns : goal.returns
returns c = let t = c.loop-test.false in let u = c.loop.auto.counter-end in
    c.next_from-2.ensures.value ∙ ap (λ xs. slice_get xs 0) c.loop.invariant ∙ get_dropped c.loop.counter (restricted (expand c.args.own.now) c.args.permitted.now) ∙ ap (slice_get (restricted (expand c.args.own.now) c.args.permitted.now)) (let e : c.loop.counter ≡ c.args.index = omega arith in e)
