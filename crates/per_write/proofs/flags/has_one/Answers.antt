use Rattle.std.proofs.Common.{◌+◌, ◌≤◌, ◌∙◌, ◌||◌, sym, ap, false, drop, length, Option, Bool, arith}
use Rattle.std.specs.Prelude.{unwrap_or}
use Rattle.per_core.specs.Canon.{any_set}
use Rattle.per_write.proofs.BitmapsWritten.{next_set, none_past}
use Rattle.per_write.proofs.flags.has_one.Goals as goal

pub loop-index-preserved : goal.loop-index-preserved
loop-index-preserved g c =
    c.loop-index.invariant ∙ next_set c.args.bits.now c.loop-index.index
    ∙ ap (λ b. b || any_set (drop (c.loop-index.index + 1) c.args.bits.now)) (ap (λ (o : Option Bool). unwrap_or o false) (sym c.get.ensures) ∙ sym c.unwrap_or.ensures ∙ c.if-unwrap_or.false)

pub returns-then-unwrap_or : goal.returns-then-unwrap_or
returns-then-unwrap_or g c =
    sym (c.loop-index.invariant ∙ next_set c.args.bits.now c.loop-index.index
    ∙ ap (λ b. b || any_set (drop (c.loop-index.index + 1) c.args.bits.now)) (ap (λ (o : Option Bool). unwrap_or o false) (sym c.get.ensures) ∙ sym c.unwrap_or.ensures ∙ c.if-unwrap_or.true))

pub returns : goal.returns
returns g c =
    let past : length c.args.bits.now ≤ c.loop-index.index = omega arith in
    sym (c.loop-index.invariant ∙ none_past c.args.bits.now c.loop-index.index past)
