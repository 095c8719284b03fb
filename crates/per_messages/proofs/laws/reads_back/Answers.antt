use Rattle.rasn_dynamic_jer.proofs.Back.{reads_back}
use Rattle.per_messages.proofs.laws.reads_back.Goals as goal

pub returns : goal.returns
returns c = reads_back c.args.types.now.kinds.items c.args.place c.args.value.now c.args.text.now
