use Rattle.std.proofs.Common.{◌≡◌, ap, ap₂, sym, ◌∙◌, List, [], ◌∷◌, ◌++◌, ℕ, true, false, eqb, eqb-true, Option, Some, None}
use Rattle.std.proofs.lemmas.Bool.{eqb-false}
use Rattle.std.specs.Option.{option_eq}
use Rattle.std.specs.Prelude.{◌≢◌, codes, decimal, length}
use Rattle.json.specs.Json.{string, number, object, member, no_members}
use Rattle.json.specs.Print.{print, quoted}
use Rattle.json.specs.Token.{Token}
use Rattle.hex.specs.Hex.{encode_upper}
use Rattle.rasn_types.specs.Packed.{packed}
use Rattle.rasn_jer.proofs.Writing.{over_ok}
use Rattle.rasn_jer.specs.Shown.{fixed_bits, counted_bits}
use Rattle.json.proofs.Printed.Decimals.{IsNumber-decimal}
use Rattle.rasn_jer.proofs.Printed.{is_printed}
use Rattle.json.specs.Print.{IsNumber}
use Rattle.std.proofs.Common.{subst}
use Rattle.rasn_jer.proofs.texts.bits.Goals as goal

ap_number : {m n : ℕ} → m ≡ n → IsNumber (decimal m) → IsNumber (decimal n)
ap_number e h = subst (λ (i : ℕ). IsNumber (decimal i)) e h

-- a count that is the fixed one, or another
fixed_to : (fixed : Option ℕ) (n : ℕ) → true ≡ option_eq eqb fixed (Some n) → fixed ≡ Some n
fixed_to (Some m) n h = ap Some (eqb-true m n (sym h))
fixed_to None n h = absurd cc

unfixed : (fixed : Option ℕ) (n : ℕ) → false ≡ option_eq eqb fixed (Some n) → fixed ≢ Some n
unfixed (Some m) n h e = eqb-false m n (sym h) (cc)
unfixed None n h e = absurd cc

pub returns-then-eq : goal.returns-then-eq
returns-then-eq g c = over_ok c.hexadecimal.result c.hexadecimal.ensures (λ t e. record {
  json = string (encode_upper (packed c.args.value.now));
  are_bits = fixed_bits (fixed_to c.args.fixed c.len.result c.if-eq.ensures ∙ ap Some c.len.ensures);
  is_text = e ∙ ap (λ (os : List ℕ). quoted (encode_upper os)) c.as_octets.ensures.octets;
})

pub returns : goal.returns
returns g c =
    let bs = c.args.value.now in
    let hex = encode_upper (packed bs) in
    let n = decimal (length bs) in
    let k = Token.key (codes "value") in
    let l = Token.key (codes "length") in
    let digits = c.as_str.ensures.value ∙ c.in_ok-digits.ensures ∙ ap encode_upper c.as_octets-2.ensures.octets in
    let t1 = c.in_ok-begin_object.ensures.ok ∙ ap (λ (ts : List Token). ts ++ Token.begin_object ∷ []) c.new-writer.ensures.tokens in
    let t2 = c.in_ok-key.ensures.ok ∙ ap (λ (ts : List Token). ts ++ k ∷ []) t1 in
    let t3 = c.in_ok-string.ensures.ok ∙ ap₂ (λ (ts : List Token) (d : List ℕ). ts ++ Token.string d ∷ []) t2 digits in
    let t4 = c.in_ok-key-2.ensures.ok ∙ ap (λ (ts : List Token). ts ++ l ∷ []) t3 in
    let t5 = c.in_ok-u64.ensures.ok ∙ ap₂ (λ (ts : List Token) (m : ℕ). ts ++ Token.number (decimal m) ∷ []) t4 c.len-2.ensures in
    let t6 = c.in_ok-end_object.ensures.ok ∙ ap (λ (ts : List Token). ts ++ Token.end_object ∷ []) t5 in
    let before = c.in_ok-end_object.ensures.room.0 ∙ c.in_ok-u64.ensures.room.0 ∙ c.in_ok-key-2.ensures.room.0 ∙ c.in_ok-string.ensures.room.0 ∙ c.in_ok-key.ensures.room.0 ∙ c.in_ok-begin_object.ensures.room.0
    ∙ c.new-writer.ensures.before ∙ c.new.ensures.items in
    let j = object (member (codes "value") (string hex) (member (codes "length") (number n) no_members)) in
    record {
      json = j;
      are_bits = counted_bits (λ h. unfixed c.args.fixed c.len.result c.if-eq.ensures (h ∙ ap Some (sym c.len.ensures))) (ap_number c.len-2.ensures (IsNumber-decimal c.len-2.result c.len-2.type_inv));
      is_text = c.into_inner.ensures.items ∙ ap₂ (λ (b : List ℕ) (ts : List Token). b ++ print ts) before t6 ∙ sym (is_printed j);
    }
