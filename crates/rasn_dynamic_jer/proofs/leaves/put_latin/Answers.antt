use Rattle.std.proofs.Common.{◌≡◌, ◌∙◌, ap, refl, sym, Some, rules}
use Rattle.std.specs.Prelude.{encode_utf8_all}
use Rattle.json.specs.Json.{string}
use Rattle.rasn_dynamic_jer.proofs.Tokens.{latin_there, leaf}
use Rattle.rasn_dynamic_jer.proofs.leaves.put_latin.Goals as goal

pub returns : goal.returns
returns c n =
    let text : c.as_str.result.now ≡ encode_utf8_all c.args.octets.now = search rules in
    leaf (string c.as_str.result.now) _ _ n _ (search rules) tt refl (latin_there _ c.note_octets.ensures ∙ ap (λ s. Some (string s)) (sym text)) c.put_token.ensures
