use Rattle.std.proofs.Common.{◌∙◌, rules}
use Rattle.std.specs.Prelude.{string_bytes}
use Rattle.std.specs.Str.{bytes_eq}
use Rattle.std.proofs.lemmas.Iterator.{YieldsList-from_slice}
use Rattle.std.proofs.lemmas.Iterator.Search.{any_from_yields_List}
use borrow.Author.Tests.{tests}
use Rattle.rasn_dynamic.specs.declared.types.Alternative.{Alternative}
use Rattle.rasn_dynamic_jer.proofs.Differing.{any_name}
use Rattle.per_messages.proofs.apart.is_alternative.Goals as goal

pub returns : goal.returns
returns c =
    any_from_yields_List (λ (a : Alternative). bytes_eq (string_bytes a.name) c.args.name.now) _ _ _ c.any.ensures.ran (YieldsList-from_slice c.args.alternatives.now cc) (λ x b q k. search (rules, tests))
    ∙ any_name (λ (a : Alternative). string_bytes a.name) c.args.alternatives.now c.args.name.now
