use Rattle.std.proofs.Common.{◌-◌, length, sym}
use Rattle.rasn_strings.proofs.IntervalsOf.{has_at}
use Rattle.rasn_strings.proofs.intervals.last.Goals as goal

pub returns-in-Some : goal.returns-in-Some
returns-in-Some c = λ d h. has_at c.args.intervals.now (length c.args.intervals.now - 1) d c.in-Some.last.now (sym c.in-Some.ensures.value) h
