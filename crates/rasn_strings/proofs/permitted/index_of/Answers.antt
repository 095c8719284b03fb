use Rattle.std.proofs.Common.{◌∙◌, sym, ap, length, arith}
use Rattle.rasn_types.specs.Alphabets.{index_of, restricted}
use Rattle.rasn_strings.specs.Intervals.{expand}
use Rattle.rasn_strings.specs.Walks.{from_on}
use Rattle.rasn_strings.proofs.Ascending.{length-restricted}
use Rattle.rasn_strings.proofs.IntervalsOf.{later, later-zero}
use Rattle.rasn_strings.proofs.Walking.{begins, next_some, next_none, place_here, place_after}
use Rattle.rasn_strings.proofs.permitted.index_of.Goals as goal

pub loop-next-init : goal.loop-next-init
loop-next-init c = let b = begins c.args.own.now c.args.permitted.now c.requires in record {
  counted = omega (arith, ap length b);
  passed = later-zero (index_of c.args.character (from_on 0 (restricted (expand c.args.own.now) c.args.permitted.now))) ∙ ap (index_of c.args.character) b;
}

pub returns-then-next-character : goal.returns-then-next-character
returns-then-next-character c = sym (place_here c.loop-next.index c.args.character c.in-Some.next (from_on c.loop-next.at (restricted (expand c.args.own.now) c.args.permitted.now)) _ (next_some c.args.own.now c.args.permitted.now c.loop-next.at c.in-Some.next c.requires c.in-Some.ensures.value).left c.if-next-character.true)
    ∙ c.loop-next.invariant.passed

pub overflow_add-index : goal.overflow_add-index
overflow_add-index c = let n = length-restricted c.args.own.now c.args.permitted.now c.requires in omega arith

pub loop-next-smaller : goal.loop-next-smaller
loop-next-smaller c = omega (arith, ap length (next_some c.args.own.now c.args.permitted.now c.loop-next.at c.in-Some.next c.requires c.in-Some.ensures.value).left)

pub loop-next-preserved : goal.loop-next-preserved
loop-next-preserved c = let n = (next_some c.args.own.now c.args.permitted.now c.loop-next.at c.in-Some.next c.requires c.in-Some.ensures.value) in record {
  counted = omega (arith, ap length n.left);
  passed = sym (place_after c.loop-next.index c.args.character c.in-Some.next (from_on c.loop-next.at (restricted (expand c.args.own.now) c.args.permitted.now)) _ n.left c.if-next-character.false) ∙ c.loop-next.invariant.passed;
}

pub returns : goal.returns
returns c = sym (ap (λ xs. later c.loop-next.index (index_of c.args.character xs)) (next_none c.args.own.now c.args.permitted.now c.loop-next.at c.in_default.ensures.value))
    ∙ c.loop-next.invariant.passed
