use Rattle.std.proofs.Common.{◌∙◌, sym}
use Rattle.rasn_dynamic.specs.declared.values.Value.TheVariants.{rolls-Date}
use Rattle.rasn_dynamic.proofs.Trees.{not_date}
use Rattle.rasn_dynamic_codec.proofs.NoDate.{day_encoded}
use Rattle.rasn_dynamic_codec.proofs.write_simple.encode_date.Goals as goal

pub returns-in-Date : goal.returns-in-Date
returns-in-Date g c = day_encoded c.args.value.now c.in-Date.day _ _ _ (c.in-Date.is ∙ sym (rolls-Date c.in-Date.day)) (rw c.new.ensures at c.encode_date.ensures)

pub returns-in_default : goal.returns-in_default
returns-in_default g c = c.refuse_no_day.ensures (not_date c.args.value.now c.in_default.not-Date)
