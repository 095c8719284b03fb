use Rattle.lawful_types.proofs.Lawful.{judged}
use Rattle.lawful_types.proofs.judge.judge.Goals as goal

pub returns : goal.returns
returns c = judged c.args.types.now.kinds.items c.judge_kinds.result (rw c.deref.ensures.value at c.judge_kinds.ensures)
