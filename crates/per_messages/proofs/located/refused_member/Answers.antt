use Rattle.std.proofs.Common.{ap, ◌∙◌, subst}
use Rattle.std.specs.Option.{option_and_then}
use Rattle.json.specs.Value.{members_view, value_view}
use Rattle.per_messages.specs.Paths.{IsRefused, member_at}
use Rattle.per_messages.proofs.Paths.{member_there, members_all, members_more, members_none}
use Rattle.per_messages.proofs.located.refused_member.Goals as goal

pub loop-member-init : goal.loop-member-init
loop-member-init c = λ r. members_none c.args.kinds.now c.args.levels c.args.kind.now (members_view c.args.members.now)

pub loop-member-preserved : goal.loop-member-preserved
loop-member-preserved c = λ r.
    members_more c.args.kinds.now c.args.levels c.args.kind.now c.args.members.now c.loop-member.member-index c.member-item.result c.member_type-of.result
    c.loop-member-test.true c.member-item.is c.member_type-of.ensures (c.in_ok-is_refused.ensures.no r c.if-branch.false) (c.loop-member.invariant r)

pub returns-clause-none : goal.returns-clause-none
returns-clause-none c = λ r n. members_all c.args.kinds.now c.args.levels c.args.kind.now c.args.members.now c.loop-member.member-index c.loop-member-test.false (c.loop-member.invariant r)

pub returns-then-branch-clause-found : goal.returns-then-branch-clause-found
returns-then-branch-clause-found c = λ j a.
    record {
      index = c.loop-member.member-index;
      there = ap (option_and_then (member_at c.loop-member.member-index)) a ∙ member_there c.args.members.now c.loop-member.member-index c.member-item.result c.loop-member-test.true c.member-item.is;
      refused = subst (λ o. IsRefused c.args.kinds.now c.args.levels o (value_view c.member-item.result.1)) c.member_type-of.ensures (c.in_ok-is_refused.ensures.yes c.if-branch.true);
    }
