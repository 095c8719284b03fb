use Rattle.std.proofs.Common.{rules, is_some}
use Rattle.std.proofs.lemmas.Iterator.{YieldsList-from_slice}
use Rattle.std.proofs.lemmas.Iterator.Search.{any_from_yields_List}
use borrow.Author.Tests.{tests}
use Rattle.rasn_dynamic.specs.declared.types.Component.{Component}
use Rattle.json.specs.Value.{value_view}
use Rattle.rasn_dynamic_jer.specs.FromJson.{own_member}
use Rattle.rasn_dynamic_jer.proofs.names.has_member.Goals as goal

pub returns : goal.returns
returns c = any_from_yields_List (λ (k : Component). is_some (own_member (value_view c.args.json.now) k)) _ _ _ c.any.ensures.ran (YieldsList-from_slice c.args.components.now cc) (λ x b q k. search (rules, tests))
