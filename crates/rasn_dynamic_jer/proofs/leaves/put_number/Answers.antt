use Rattle.std.proofs.Common.{◌≡◌, refl, sym, ap, ◌∙◌, Some, None, true, rules}
use Rattle.std.specs.Fmt.{signed_decimal}
use Rattle.rasn_types.specs.Integers.{is_i128}
use Rattle.json.specs.Token.{Token}
use Rattle.rasn_dynamic_jer.specs.Puts.{PutsToken}
use Rattle.json.specs.Json.{number}
use Rattle.rasn_jer.proofs.Digits.{signed_number}
use Rattle.rasn_types.proofs.Reading.{is_i128-fits}
use Rattle.rasn_dynamic_jer.specs.Leaves.{number_json}
use Rattle.rasn_dynamic_jer.proofs.Tokens.{leaf, whole_shown}
use Rattle.rasn_dynamic_jer.proofs.leaves.put_number.Goals as goal

pub returns : goal.returns
returns c n =
    let z = c.in-Some.whole in
    let held : is_i128 z ≡ true = search (rules, c.put_whole.ensures.held) in
    let written : PutsToken (Token.number (signed_decimal z)) c.args.writer.now c.put_whole.result c.put_whole.new.writer = search (rules, c.put_whole.ensures.written) in
    leaf (number (signed_decimal z)) _ _ n _ refl (signed_number z (is_i128-fits z held)) refl
    (whole_shown _ _ _ z c.in-Integer.is c.in-Some.ensures held) written
