use Rattle.rasn_dynamic.proofs.Levelled.{schema_levels}
use Rattle.rasn_dynamic.proofs.types.are_levelled.Goals as goal

pub returns : goal.returns
returns c = λ place n. schema_levels c.args.types.now.kinds.items n place
