use Rattle.std.proofs.Common.{rules}
use Rattle.std.proofs.lemmas.Iterator.{YieldsList-from_slice}
use Rattle.std.proofs.lemmas.Iterator.Search.{all_from_yields_List}
use borrow.Author.Tests.{tests}
use Rattle.rasn_dynamic.specs.declared.types.Row.{Row}
use Rattle.rasn_dynamic_jer.specs.DistinctNames.{is_row_apart}
use Rattle.per_messages.proofs.apart.are_rows_apart.Goals as goal

pub returns : goal.returns
returns c = all_from_yields_List (λ (r : Row). is_row_apart c.args.set.now r) _ _ c.all.result c.all.ensures.ran (YieldsList-from_slice c.args.set.now.rows.items cc) (λ x b q k. search (rules, tests))
