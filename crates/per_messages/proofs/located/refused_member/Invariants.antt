use Rattle.std.proofs.Common.{◌≡◌, None}
use Rattle.json.specs.Value.{members_view}
use Rattle.per_messages.proofs.Paths.{MembersAreToldTo}
use Rattle.per_messages.proofs.located.refused_member.Given as goal

-- where any reason is asked for, the members up to an index tell values
abbrev pub invariant-loop-member : goal.invariant-loop-member
invariant-loop-member l = l.reason ≡ None → MembersAreToldTo l.kinds l.levels l.kind (members_view l.members) l.member-index
