use Rattle.std.proofs.Common.{◌∙◌, List, ℕ, rules}
use Rattle.std.proofs.lemmas.Iterator.{YieldsList-from_slice}
use Rattle.std.proofs.lemmas.Iterator.Search.{all_from_yields_List}
use borrow.Author.Tests.{tests}
use Rattle.rasn_dynamic_jer.specs.FromJson.{is_member}
use Rattle.rasn_dynamic_jer.proofs.Parts.{keys_all}
use Rattle.rasn_dynamic_jer.proofs.names.are_members.Goals as goal

pub returns : goal.returns
returns c =
    let test = λ (s : List ℕ). is_member c.args.kinds.now c.args.sequence.now s in
    all_from_yields_List (λ m. test m.0.now) _ _ c.all.result c.all.ensures.ran (YieldsList-from_slice c.args.members.now cc) (λ x b q k. search (rules, tests)) ∙ keys_all test c.args.members.now
