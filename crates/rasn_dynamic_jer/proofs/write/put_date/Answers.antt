use Rattle.std.proofs.Common.{◌∙◌, sym}
use Rattle.rasn_dynamic.specs.declared.values.Value.TheVariants.{rolls-Date}
use Rattle.rasn_dynamic_jer.proofs.Knowns.{date_put}
use Rattle.rasn_dynamic_jer.proofs.write.put_date.Goals as goal

pub returns-in-Date : goal.returns-in-Date
returns-in-Date c ts n = date_put ts n _ c.in-Date.date _ (c.in-Date.is ∙ sym (rolls-Date c.in-Date.date)) (c.put_day.ensures n)
