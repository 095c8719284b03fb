use Rattle.std.proofs.Common.{◌≡◌, map, take}
use Rattle.per_messages.specs.Remarks.{told}
use Rattle.message_lines.specs.Remarks.{remark_lines}
use Rattle.message_lines.proofs.remarks.remark_lines.Given as goal

-- the lines so far are those of the remarks so far
abbrev pub invariant-loop-remark : goal.invariant-loop-remark
invariant-loop-remark l = l.lines.items ≡ remark_lines (map told (take l.remark-index l.remarks))
