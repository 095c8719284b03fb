use Rattle.std.proofs.Common.{◌∙◌, ap, sym, subst, length, refl, arith, [], ◌∷◌, suc, ◌<◌, ◌^◌}
use Rattle.rasn_dynamic_jer.specs.Puts.{Puts}
use Rattle.std.proofs.Common.{◌++◌}
use Rattle.std.specs.Prelude.{codes, decimal}
use Rattle.json.specs.Token.{Token}
use Rattle.hex.specs.Hex.{encode_upper}
use Rattle.rasn_types.specs.Packed.{packed}
use Rattle.rasn_jer.proofs.Digits.{decimal_number}
use Rattle.rasn_dynamic_jer.proofs.Tokens.{counted_there, more, object_put}
use Rattle.rasn_dynamic_jer.proofs.leaves.put_counted_object.Goals as goal

pub returns : goal.returns
returns c n =
    let a = c.args.writer.now.tokens in
    let t1 = Token.begin_object ∷ [] in
    let t2 = t1 ++ Token.key (codes "value") ∷ [] in
    let t3 = t2 ++ Token.string (encode_upper (packed c.args.bits.now)) ∷ [] in
    let t4 = t3 ++ Token.key (codes "length") ∷ [] in
    let e1 = c.in_ok-put_token.ensures.law in
    let e2 = more a t1 _ e1 c.in_ok-put_token-2.ensures.law in
    let e3 = more a t2 _ e2 (c.in_ok-put_hexadecimal.ensures.law ∙ ap (λ os. c.put_token-2.new.writer.tokens ++ Token.string (encode_upper os) ∷ []) c.as_octets.ensures.octets) in
    let e4 = more a t3 _ e3 c.in_ok-put_token-3.ensures.law in
    let e5 = more a t4 _ e4 c.in_ok-put_count.ensures.law in
    let b = c.put_count.ensures.before ∙ c.put_token-3.ensures.before ∙ c.put_hexadecimal.ensures.before ∙ c.put_token-2.ensures.before ∙ c.put_token.ensures.before in
    let few : length c.args.bits.now < 2 ^ 64 = omega (arith, c.len.ensures) in
    subst (λ o. Puts o (suc n) c.args.writer.now c.put_token-4.result c.put_token-4.new.writer) (sym (counted_there c.args.bits.now few))
    (object_put c.args.bits.now n _ (decimal_number _ (omega arith)) (e5 ∙ ap (λ m. a ++ (t4 ++ Token.number (decimal m) ∷ [])) c.len.ensures) b c.put_token-4.ensures)
