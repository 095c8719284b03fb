use Rattle.std.proofs.Common.{◌≡◌, refl, ap, ◌∙◌, subst, inr, Some, None, true, false, rules}
use Rattle.std.specs.Str.{is_utf8}
use Rattle.json.specs.Json.{string}
use Rattle.rasn_dynamic_jer.specs.Leaves.{utf8_json}
use Rattle.rasn_dynamic_jer.proofs.Tokens.{leaf, not_utf8, shown_utf8}
use Rattle.rasn_dynamic_jer.proofs.leaves.put_utf8.Goals as goal

pub returns-in-Ok : goal.returns-in-Ok
returns-in-Ok c n = leaf (string c.args.octets.now) _ _ n _ (search rules) tt refl (shown_utf8 _ c.in-Ok.ensures.cases.1) c.put_token.ensures

pub returns-in-Err : goal.returns-in-Err
returns-in-Err c n = record { law = inr (refl, not_utf8 _ c.in-Err.ensures.cases.0); before = refl }
