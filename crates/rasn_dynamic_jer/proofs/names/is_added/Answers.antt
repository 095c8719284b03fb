use Rattle.std.proofs.Common.{rules}
use Rattle.std.proofs.lemmas.Iterator.{YieldsList-from_slice}
use Rattle.std.proofs.lemmas.Iterator.Search.{any_from_yields_List}
use borrow.Author.Tests.{tests}
use Rattle.rasn_dynamic.specs.declared.types.Component.{Component}
use Rattle.rasn_dynamic_jer.specs.Shown.{group_in}
use Rattle.rasn_dynamic_jer.specs.FromJson.{is_addition}
use Rattle.rasn_dynamic_jer.proofs.names.is_added.Goals as goal

pub returns : goal.returns
returns c = any_from_yields_List (λ (k : Component). is_addition (group_in c.args.kinds.now k) k c.args.name.now) _ _ _ c.any.ensures.ran (YieldsList-from_slice c.args.components.now cc) (λ x b q k. search (rules, tests))
