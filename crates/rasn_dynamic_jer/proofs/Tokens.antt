-- What is written in one token, and in several.
use Rattle.std.proofs.Common.{◌≡◌, refl, sym, ap, ◌∙◌, subst, inl, inr, ℕ, zero, suc, ◌+◌, ◌≤◌, List, [], ◌∷◌, ◌++◌, Option, Some, None, Result, Ok, Err, append_assoc, arith, Bool, true, false}
use Rattle.std.specs.Prelude.{◌⊎◌, if◌then◌else◌}
use Rattle.std.specs.Str.{IsUtf8, is_utf8}
use Rattle.std.proofs.lemmas.Str.{is_utf8-from_IsUtf8, IsUtf8-from_is_utf8}
use Rattle.std.specs.Prelude.{◌&&◌, decimal, encode_utf8_all, get_or, length, take, ◌<◌, codes}
use Rattle.std.specs.Char.{IsScalar, OutOfScalarRange}
use Rattle.std.specs.Str.{all_scalars}
use Rattle.std.proofs.Common.{add-one, ap₂}
use Rattle.std.proofs.lemmas.Bool.{and_parts}
use Rattle.std.proofs.Math.Bool.{and-false}
use lib.Utf8.{scalar, scalar_cases}
use Rattle.rasn_types.specs.Bits.{AreOctets, Bits, filled_up, trimmed}
use Rattle.rasn_schema.specs.Normal.{normal_bits}
use Rattle.std.specs.Option.{unwrap_or}
use Rattle.std.proofs.Common.{append-nil, lt-ltb, replicate, ◌^◌, ◌-◌}
use Rattle.rasn_types.specs.Packed.{packed}
use Rattle.hex.specs.Hex.{encode_upper}
use Rattle.json.specs.Print.{IsNumber}
use Rattle.std.specs.Prelude.{ℤ, nat_eq}
use Rattle.std.specs.Option.{option_eq}
use Rattle.std.specs.Fmt.{signed_decimal}
use Rattle.rasn_types.specs.Integers.{is_i128}
use Rattle.rasn_dynamic.specs.declared.types.Simple.{Simple}
use Rattle.rasn_dynamic.specs.declared.types.Simple.TheVariants as Simples
use Rattle.json.specs.Json.{Json, number, string}
use Rattle.json.specs.Token.{Token}
use Rattle.json.specs.Tree.{HasNumbers, depth, json_tokens}
use Rattle.json.specs.Written.{Written}
use Rattle.rasn_dynamic_jer.specs.Leaves.{bits_shown, counted, counted_json, digits_json, hexadecimal, latin_json, number_json, utf8_json}
use Rattle.rasn_dynamic_jer.specs.Puts.{IsRefused, Puts, PutsToken}
use Rattle.rasn_dynamic_jer.proofs.LeavesTold.{octets_noted}
use Rattle.rasn_dynamic_jer.specs.declared.error.ToJsonError.{ToJsonError}
use Rattle.rasn_dynamic_jer.specs.declared.error.ToJsonError.TheVariants.{NoJson, OutOfMemory}

-- JSON that is one token
pub leaf : (j : Json) (t : Token) (o : Option Json) (n : ℕ) {old new : Written} (r : Result (Unit {0}) ToJsonError)
    → json_tokens j ≡ t ∷ [] → HasNumbers j → depth j ≡ 0 → o ≡ Some j → PutsToken t old r new → Puts o n old r new
leaf j t o n {old} (Ok u) tokens numbers flat e h = record {
  law = record { json = j; shown = e; numbers = numbers; within = omega (arith, flat); tokens = h.law ∙ ap (λ ts. old.tokens ++ ts) (sym tokens) };
  before = h.before;
}
leaf j t o n (Err e) tokens numbers flat s h = record { law = inl h.law; before = h.before }

-- octets that are a text, and others
pub shown_utf8 : (os : List ℕ) → IsUtf8 os → utf8_json os ≡ Some (string os)
shown_utf8 os h = ap (λ b. if b then Some (string os) else None) (is_utf8-from_IsUtf8 os h)

unshown : (os : List ℕ) (b : Bool) → is_utf8 os ≡ b → ¬ IsUtf8 os → utf8_json os ≡ None
unshown os true e h = absurd (h (IsUtf8-from_is_utf8 os e))
unshown os false e h = ap (λ b. if b then Some (string os) else None) e

pub not_utf8 : (os : List ℕ) → ¬ IsUtf8 os → utf8_json os ≡ None
not_utf8 os h = unshown os (is_utf8 os) refl h

-- tokens after tokens
pub more : (a ts us : List Token) {b c : List Token} → b ≡ a ++ ts → c ≡ b ++ us → c ≡ a ++ (ts ++ us)
more a ts us e f = f ∙ ap (λ l. l ++ us) e ∙ append_assoc a ts us

-- the tokens of bits that tell how many they are, but the last
abbrev pub front_of : Bits → List Token
front_of bs = Token.begin_object ∷ Token.key (codes "value") ∷ Token.string (encode_upper (packed bs)) ∷ Token.key (codes "length") ∷ Token.number (decimal (length bs)) ∷ []

-- bits that tell how many they are, by the last of their tokens
pub object_put : (bs : Bits) (n : ℕ) {old before new : Written} (r : Result (Unit {0}) ToJsonError) → IsNumber (decimal (length bs))
    → before.tokens ≡ old.tokens ++ front_of bs → before.before ≡ old.before → PutsToken Token.end_object before r new
    → Puts (Some (counted bs)) (suc n) old r new
object_put bs n (Ok u) digits e b h = record {
  law = record { json = counted bs; shown = refl; numbers = (tt, (digits, tt)); within = omega arith; tokens = more _ (front_of bs) _ e h.law };
  before = h.before ∙ b;
}
object_put bs n (Err e) digits t b h = record { law = inl h.law; before = h.before ∙ b }

-- the first characters are scalar values
pub scalars_more : (cs : List ℕ) (i c : ℕ) → i < length cs → c ≡ get_or cs i 0 → scalar c ≡ true → all_scalars (take i cs) ≡ true
    → all_scalars (take (i + 1) cs) ≡ true
scalars_more [] i c l e s h = absurd (omega (arith, l))
scalars_more (d ∷ cs) zero c l e s h = ap (λ b. b && true) (ap scalar (sym e) ∙ s)
scalars_more (d ∷ cs) (suc i) c l e s h =
    let p : (scalar d ≡ true) × (all_scalars (take i cs) ≡ true) = and_parts _ _ h in
    let below : i < length cs = omega (arith, l) in
    let q : all_scalars (take (suc i) cs) ≡ true = rw add-one at (scalars_more cs i c below e s p.1) in
    rw add-one (ap₂ (λ a b. a && b) p.0 q)

-- one isn't
pub not_scalars : (cs : List ℕ) (i c : ℕ) → i < length cs → c ≡ get_or cs i 0 → scalar c ≡ false → all_scalars cs ≡ false
not_scalars [] i c l e s = absurd (omega (arith, l))
not_scalars (d ∷ cs) zero c l e s = ap (λ b. b && all_scalars cs) (ap scalar (sym e) ∙ s)
not_scalars (d ∷ cs) (suc i) c l e s = ap (λ b. scalar d && b) (not_scalars cs i c (omega (arith, l)) e s) ∙ and-false (scalar d)

unscalar : (c : ℕ) (b : Bool) → scalar c ≡ b → OutOfScalarRange c → scalar c ≡ false
unscalar c false e h = e
unscalar c true e h = absurd (elim (scalar_cases c e) [ inl low ↦ elim h [ inl r ↦ omega (arith, low, r) | inr g ↦ omega (arith, low, g) ] | inr high ↦ elim h [ inl r ↦ omega (arith, high, r) | inr g ↦ omega (arith, high, g) ] ])

pub out_of_range : (c : ℕ) → OutOfScalarRange c → scalar c ≡ false
out_of_range c h = unscalar c (scalar c) refl h

in_scalar : (c : ℕ) (b : Bool) → scalar c ≡ b → IsScalar c → scalar c ≡ true
in_scalar c b e h = h

-- characters that are scalar values, and others
pub shown_characters : (cs : List ℕ) → all_scalars cs ≡ true → (if all_scalars cs then Some (string (encode_utf8_all cs)) else None) ≡ Some (string (encode_utf8_all cs))
shown_characters cs h = ap (λ b. if b then Some (string (encode_utf8_all cs)) else None) h

pub unshown_characters : (cs : List ℕ) → all_scalars cs ≡ false → (if all_scalars cs then Some (string (encode_utf8_all cs)) else None) ≡ None
unshown_characters cs h = ap (λ b. if b then Some (string (encode_utf8_all cs)) else None) h

-- a number that an i128 holds
pub whole_shown : (k : Simple) (c : _) (w z : ℤ) → k ≡ Simples.Integer c → z ≡ w → is_i128 z ≡ true → number_json k w ≡ Some (number (signed_decimal z))
whole_shown k c w z e f h = ap (λ k. number_json k w) e ∙ ap (number_json (Simples.Integer c)) (sym f) ∙ ap (λ b. if b then Some (number (signed_decimal z)) else None) h

-- octets, and those that are characters
pub digits_there : (os : List ℕ) → AreOctets os → digits_json os ≡ Some (hexadecimal os)
digits_there os h = ap (λ b. if b then Some (hexadecimal os) else None) (octets_noted os h)

pub latin_there : (os : List ℕ) → AreOctets os → latin_json os ≡ Some (string (encode_utf8_all os))
latin_there os h = ap (λ b. if b then Some (string (encode_utf8_all os)) else None) (octets_noted os h)

-- bits that tell how many they are
pub counted_there : (bs : Bits) → length bs < 2 ^ 64 → counted_json bs ≡ Some (counted bs)
counted_there bs h = ap (λ b. if b then Some (counted bs) else None) (lt-ltb (length bs) (2 ^ 64) h)

-- the normal form of named bits
pub normal_there : (least : Option ℕ) (n : ℕ) (bs : Bits) → n ≡ unwrap_or least 0 → n < 2 ^ 64 → filled_up n (trimmed bs) ≡ normal_bits least bs
normal_there None n bs e h =
    let none : n - length (trimmed bs) ≡ 0 = omega (arith, e) in
    ap (λ (k : ℕ). trimmed bs ++ replicate k false) none ∙ append-nil (trimmed bs)
normal_there (Some l) n bs e h = ap (λ (k : ℕ). filled_up k (trimmed bs)) e ∙ sym (ap (λ b. if b then filled_up l (trimmed bs) else trimmed bs) (lt-ltb l (2 ^ 64) (subst (λ (k : ℕ). k < 2 ^ 64) e h)))

-- bits that have to tell how many they are
pub counted_shown : (n : ℕ) (fixed : Option ℕ) (bs : Bits) {old new : Written} (r : Result (Unit {0}) ToJsonError) → option_eq nat_eq fixed (Some (length bs)) ≡ false → (n ≡ 0 → ⊥)
    → ((m : ℕ) → Puts (counted_json bs) (suc m) old r new) → Puts (bits_shown n fixed bs) n old r new
counted_shown zero fixed bs r e some h = absurd (some refl)
counted_shown (suc m) fixed bs {old} {new} r e some h = subst (λ o. Puts o (suc m) old r new) (ap (λ b. if b then Some (hexadecimal (packed bs)) else counted_json bs) (sym e)) (h m)
