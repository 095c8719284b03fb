use Rattle.std.proofs.Common.{◌∙◌, ap, length, subst, sym, ◌≤◌, ◌^◌, arith}
use Rattle.rasn_types.specs.Alphabets.{greatest}
use Rattle.rasn_strings.proofs.Ascending.{length-restricted}
use Rattle.rasn_strings.proofs.Walking.{begins, next_some, next_none}
use Rattle.rasn_strings.proofs.Searching.{restricted_listed}
use Rattle.rasn_strings.proofs.permitted.count_and_greatest.Goals as goal

pub count_and_last-requires-clause-few : goal.count_and_last-requires-clause-few
count_and_last-requires-clause-few c =
    let same = restricted_listed c.args.own.now c.args.permitted.now c.requires (sym c.is_ascending.ensures ∙ c.if-is_ascending.true) in
    subst (λ xs. length xs ≤ 2 ^ 16) same (length-restricted c.args.own.now c.args.permitted.now c.requires)

pub returns-then-is_ascending-clause-count : goal.returns-then-is_ascending-clause-count
returns-then-is_ascending-clause-count c =
    c.count_and_last.ensures.count ∙ ap length (sym (restricted_listed c.args.own.now c.args.permitted.now c.requires (sym c.is_ascending.ensures ∙ c.if-is_ascending.true)))

pub returns-then-is_ascending-clause-few : goal.returns-then-is_ascending-clause-few
returns-then-is_ascending-clause-few c =
    let same = restricted_listed c.args.own.now c.args.permitted.now c.requires (sym c.is_ascending.ensures ∙ c.if-is_ascending.true) in
    let few = length-restricted c.args.own.now c.args.permitted.now c.requires in
    omega (arith, c.count_and_last.ensures.count, ap length same, few)

pub returns-then-is_ascending-clause-greatest : goal.returns-then-is_ascending-clause-greatest
returns-then-is_ascending-clause-greatest c =
    c.count_and_last.ensures.greatest ∙ ap greatest (sym (restricted_listed c.args.own.now c.args.permitted.now c.requires (sym c.is_ascending.ensures ∙ c.if-is_ascending.true)))

pub loop-character-init : goal.loop-character-init
loop-character-init c = let b = begins c.args.own.now c.args.permitted.now c.requires in record {
  small = omega arith;
  passed = omega arith;
  counted = omega (arith, ap length b);
  compared = omega (arith, ap greatest b);
}

pub overflow_add-count : goal.overflow_add-count
overflow_add-count c = let n = length-restricted c.args.own.now c.args.permitted.now c.requires in omega arith

pub loop-character-smaller : goal.loop-character-smaller
loop-character-smaller c = omega (arith, ap length (next_some c.args.own.now c.args.permitted.now c.loop-character.at c.in-Some.character c.requires c.in-Some.ensures.value).left)

pub loop-character-preserved : goal.loop-character-preserved
loop-character-preserved c = let n = (next_some c.args.own.now c.args.permitted.now c.loop-character.at c.in-Some.character c.requires c.in-Some.ensures.value) in let s = c.in-Some.ensures.small in let f = n.from in record {
  small = omega arith;
  passed = omega arith;
  counted = omega (arith, ap length n.left);
  compared = omega (arith, ap greatest n.left);
}

pub returns-clause-count : goal.returns-clause-count
returns-clause-count c = omega (arith, ap length (next_none c.args.own.now c.args.permitted.now c.loop-character.at c.in_default.ensures.value))

pub returns-clause-few : goal.returns-clause-few
returns-clause-few c = let n = length-restricted c.args.own.now c.args.permitted.now c.requires in omega arith

pub returns-clause-greatest : goal.returns-clause-greatest
returns-clause-greatest c = omega (arith, ap greatest (next_none c.args.own.now c.args.permitted.now c.loop-character.at c.in_default.ensures.value))
