use Rattle.std.proofs.Common.{rules}
use Rattle.std.proofs.lemmas.Iterator.{YieldsList-from_slice}
use Rattle.std.proofs.lemmas.Iterator.Search.{all_from_yields_List}
use borrow.Author.Tests.{tests}
use Rattle.rasn_dynamic.specs.declared.types.Kind.{Kind}
use Rattle.rasn_dynamic_jer.specs.DistinctNames.{is_kind_apart}
use Rattle.per_messages.proofs.apart.are_kinds_apart.Goals as goal

pub returns : goal.returns
returns c = all_from_yields_List (λ (k : Kind). is_kind_apart c.args.kinds.now k) _ _ c.all.result c.all.ensures.ran (YieldsList-from_slice c.args.kinds.now cc) (λ x b q k. search (rules, tests))
