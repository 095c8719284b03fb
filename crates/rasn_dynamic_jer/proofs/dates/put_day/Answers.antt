use Rattle.std.proofs.Common.{◌≡◌, ◌∙◌, ap, refl, sym, Some, rules}
use Rattle.json.specs.Json.{string}
use Rattle.rasn_jer.specs.Strings.{day_text}
use Rattle.rasn_dynamic_jer.proofs.DatesTold.{day_there}
use Rattle.rasn_dynamic_jer.proofs.Tokens.{leaf}
use Rattle.rasn_dynamic_jer.proofs.dates.put_day.Goals as goal

pub returns : goal.returns
returns c n =
    let text : c.as_str.result.now ≡ day_text c.args.date.year c.args.date.month c.args.date.day = search rules in
    leaf (string c.as_str.result.now) _ _ n _ (search rules) tt refl (day_there c.args.date c.text_of.ensures.lawful ∙ ap (λ s. Some (string s)) (sym text)) c.put_token.ensures
