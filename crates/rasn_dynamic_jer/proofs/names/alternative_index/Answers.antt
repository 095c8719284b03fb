use Rattle.std.proofs.Common.{rules}
use Rattle.std.specs.Prelude.{string_bytes}
use Rattle.std.specs.Str.{bytes_eq}
use Rattle.std.proofs.lemmas.Iterator.{YieldsList-from_slice}
use Rattle.std.proofs.lemmas.Iterator.Search.{position_from_yields_List}
use borrow.Author.Tests.{tests}
use Rattle.rasn_dynamic.specs.declared.types.Alternative.{Alternative}
use Rattle.rasn_dynamic_jer.proofs.names.alternative_index.Goals as goal

pub returns : goal.returns
returns c = position_from_yields_List (λ (a : Alternative). bytes_eq (string_bytes a.name) c.args.name.now) _ _ _ c.position.ensures.ran (YieldsList-from_slice c.args.alternatives.now cc) (λ x b q k. search (rules, tests))
