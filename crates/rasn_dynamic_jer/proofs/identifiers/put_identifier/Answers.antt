use Rattle.std.proofs.Common.{◌≡◌, ◌∙◌, ap, refl, sym, Some, inr, rules}
use Rattle.json.specs.Json.{string}
use Rattle.rasn_jer.specs.Strings.{dotted}
use Rattle.rasn_dynamic_jer.proofs.Arcs.{identifier_known}
use Rattle.rasn_dynamic_jer.proofs.Tokens.{leaf}
use Rattle.rasn_dynamic_jer.proofs.identifiers.put_identifier.Goals as goal

pub returns-in_ok-text-in-Ok : goal.returns-in_ok-text-in-Ok
returns-in_ok-text-in-Ok c n =
    let arcs = c.in-Ok.arcs.items in
    let shown = identifier_known arcs c.args.octets.now c.in-Ok.ensures.read c.in-Ok.ensures.lawful in
    let text : c.as_str.result.now ≡ dotted arcs = search rules in
    leaf (string c.as_str.result.now) _ _ n _ (search rules) tt refl (shown ∙ ap (λ s. Some (string s)) (sym text)) c.put_token.ensures
