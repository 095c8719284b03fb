use Rattle.rasn_dynamic_jer.proofs.Back.{one_form}
use Rattle.per_messages.proofs.laws.one_text_one_form.Goals as goal

pub returns : goal.returns
returns c = one_form c.args.types.now.kinds.items c.args.place c.args.value.now c.args.other.now c.args.text.now
