use Rattle.std.proofs.Common.{inl, inr, subst, sym}
use Rattle.per_lines.specs.FaultTexts.{IsToldAs}
use Rattle.per_lines.proofs.show_fault.Fault.report.Goals as goal
use Rattle.per_lines.proofs.show_fault.Fault.report.Goals.{in-Ok, in-Err}

pub returns-clause-told : goal.returns-clause-told
returns-clause-told g c = elim c.match-told.branch [
  | in-Ok w ↦ (w.as_str.result.now, inl (subst (IsToldAs c.args.self.now) (sym w.as_str.ensures.value) w.in-Ok.ensures), rw w.faults-is w.write_line.ensures.front)
  | in-Err w ↦ (w.text.result.0.now, inr w.text.ensures.front, rw w.faults-is w.write_line-in-Err.ensures.front)
]
