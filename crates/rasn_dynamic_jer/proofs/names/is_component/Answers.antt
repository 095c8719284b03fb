use Rattle.std.proofs.Common.{rules}
use Rattle.std.specs.Prelude.{string_bytes}
use Rattle.std.specs.Str.{bytes_eq}
use Rattle.std.proofs.lemmas.Iterator.{YieldsList-from_slice}
use Rattle.std.proofs.lemmas.Iterator.Search.{any_from_yields_List}
use borrow.Author.Tests.{tests}
use Rattle.rasn_dynamic.specs.declared.types.Component.{Component}
use Rattle.rasn_dynamic_jer.proofs.names.is_component.Goals as goal

pub returns : goal.returns
returns c = any_from_yields_List (λ (k : Component). bytes_eq (string_bytes k.name) c.args.name.now) _ _ _ c.any.ensures.ran (YieldsList-from_slice c.args.components.now cc) (λ x b q k. search (rules, tests))
