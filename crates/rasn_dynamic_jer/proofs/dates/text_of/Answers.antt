use Rattle.rasn_dynamic_jer.proofs.DatesTold.{day_lawful}
use Rattle.rasn_dynamic_jer.proofs.dates.text_of.Goals as goal

pub returns-clause-lawful : goal.returns-clause-lawful
returns-clause-lawful c = day_lawful _ _ _ c.args.date c.date_to_parts-year.ensures.day c.date_to_parts-year.ensures.lawful
