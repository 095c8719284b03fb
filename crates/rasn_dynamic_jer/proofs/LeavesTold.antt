-- What the JSON of leaves tells.
use Rattle.std.proofs.Common.{◌≡◌, ◌≢◌, refl, sym, ap, ◌∙◌, subst, ℕ, zero, suc, ◌+◌, ◌-◌, ◌^◌, ◌<◌, ◌≤◌, ◌/◌, Bool, true, false, cond, ◌&&◌, eqb, eqb-true, eq-eqb, ltb, lt-ltb, ltb-true, List, [], ◌∷◌, take, drop, length, Option, Some, None, option_map, ℤ, pos, negsuc, FitsSigned, arith}
use Rattle.std.specs.Prelude.{codes, decimal, encode_utf8_all, nat_eq, nat_lt, neg_ℤ}
use Rattle.std.specs.Fmt.{signed_decimal}
use Rattle.std.specs.Int.{div_ceil, w128}
use Rattle.std.specs.List.{AllPairs, list_all}
use Rattle.std.specs.Option.{option_and_then, option_eq}
use Rattle.std.specs.Result.{result_ok}
use Rattle.std.specs.Str.{all_scalars, chars}
use Rattle.std.specs.Str.Parse.{digits_value, IsNumeral, signed_digits_value, starts_with_minus, without_leading_plus, without_leading_sign}
use Rattle.std.proofs.lemmas.Bool.{and_from, and_parts, ne_eqb}
use Rattle.std.proofs.lemmas.Fmt.{decimal_is_IsNumeral_wide}
use Rattle.std.proofs.lemmas.Str.{chars-encodes}
use Rattle.std.proofs.lemmas.Str.Parse.{digit_from_value}
use Rattle.std.proofs.Math.Utf8.{low_scalar, scalar}
use Rattle.hex.specs.Hex.{encode_upper, IsBytes}
use Rattle.hex.proofs.HexLemmas.{decode_of-encode_upper}
use Rattle.json.specs.Find.{as_str}
use Rattle.json.specs.Json.{Json, string}
use Rattle.json.specs.Strict.{AreDistinct, HasUniqueKeys}
use Rattle.rasn_types.specs.Alphabets.{bmp, has_all}
use Rattle.rasn_types.specs.Bits.{AreOctets, Bits, unpack}
use Rattle.rasn_types.specs.Contents.{is_time, TimeKind}
use Rattle.rasn_types.specs.Integers.{is_i128}
use Rattle.rasn_types.specs.Packed.{packed}
use Rattle.rasn_types.specs.Values.{Value, bits, characters, octets, whole}
use Rattle.rasn_types.proofs.Octets.{length-pack, octets-pack}
use Rattle.rasn_types.proofs.Packing.{unpack-packed}
use Rattle.rasn_dynamic_jer.specs.Leaves.{are_octets, are_plain, below, bits_shown, counted, counted_json, hexadecimal}
use Rattle.rasn_dynamic_jer.specs.FromJson.{bits_in, bits_of, bits_told, both_told, characters_told, count_told, counted_told, fixed_told, latin_told, octets_in, time_told, whole_told}
use Rattle.rasn_dynamic_jer.proofs.Digits.{count_some, whole_some}

pub some_same : {A : Type 0} {x y : A} → Some x ≡ Some y → x ≡ y
some_same {x = x} e = ap (λ o. elim o [ None ↦ x | Some z ↦ z ]) e

-- what is there under a condition
pub given : {A : Type 0} (b : Bool) (x y : A) → cond b (Some x) None ≡ Some y → (b ≡ true) × (x ≡ y)
given true x y e = (refl, some_same e)
given false x y e = absurd cc

-- ---- octets

pub are_bytes : (os : List ℕ) → are_octets os ≡ true → IsBytes os
are_bytes [] h i = omega arith
are_bytes (o ∷ os) h zero = let p = and_parts (nat_lt o 256) (are_octets os) h in ltb-true o 256 p.0
are_bytes (o ∷ os) h (suc i) = let p = and_parts (nat_lt o 256) (are_octets os) h in are_bytes os p.1 i

pub octets_noted : (os : List ℕ) → AreOctets os → are_octets os ≡ true
octets_noted [] h = refl
octets_noted (o ∷ os) h = and_from (nat_lt o 256) (are_octets os) (lt-ltb o 256 h.0) (octets_noted os h.1)

pub octets_told : (os : List ℕ) → are_octets os ≡ true → octets_in (encode_upper os) ≡ Some os
octets_told os h = ap result_ok (decode_of-encode_upper os (are_bytes os h))

-- ---- numbers

no_sign : (ds : List ℕ) → IsNumeral 10 ds → (starts_with_minus ds ≡ false) × (without_leading_plus ds ≡ ds)
no_sign [] h = absurd (omega (arith, h.0))
no_sign (c ∷ cs) h =
    let r = digit_from_value c h.1.0 in
    (ne_eqb c 45 (λ e. absurd (omega (arith, r, e))), ap (λ (b : Bool). drop (cond b 1 0) (c ∷ cs)) (ne_eqb c 43 (λ e. absurd (omega (arith, r, e)))))

pub count_back : (n : ℕ) → n < 2 ^ 64 → count_told (decimal n) ≡ Some n
count_back n l =
    let ds = decimal n in
    let d = decimal_is_IsNumeral_wide n (omega (arith, l)) in
    let e = (no_sign ds d.0).1 in
    count_some ds (subst (λ (s : List ℕ). IsNumeral 10 s × (digits_value 10 s < 2 ^ 64)) (sym e) (d.0, subst (λ (k : ℕ). k < 2 ^ 64) (sym d.1) l))
    ∙ ap (λ (s : List ℕ). Some (digits_value 10 s)) e ∙ ap (λ (k : ℕ). Some k) d.1

signed_back : (z : ℤ) → FitsSigned w128 z → IsNumeral 10 (without_leading_sign (signed_decimal z)) × (signed_digits_value 10 (signed_decimal z) ≡ z)
signed_back (pos n) h =
    let s = decimal n in
    let d = decimal_is_IsNumeral_wide n (let f = h.sfits in omega arith) in
    let p = no_sign s d.0 in
    let e : without_leading_sign s ≡ s = ap (λ (b : Bool). cond b (drop 1 s) (without_leading_plus s)) p.0 ∙ p.1 in (
      subst (λ (t : List ℕ). IsNumeral 10 t) (sym e) d.0,
      ap (λ (b : Bool). cond b (neg_ℤ (pos (digits_value 10 (without_leading_sign s)))) (pos (digits_value 10 (without_leading_sign s)))) p.0
          ∙ ap (λ (t : List ℕ). pos (digits_value 10 t)) e ∙ ap pos d.1,
    )
signed_back (negsuc n) h =
    let d = decimal_is_IsNumeral_wide (suc n) (let f = h.sfits in omega arith) in
    (d.0, ap (λ (k : ℕ). neg_ℤ (pos k)) d.1)

pub whole_back : (z : ℤ) → FitsSigned w128 z → whole_told (signed_decimal z) ≡ Some (whole z)
whole_back z h =
    let s = signed_decimal z in
    let d = signed_back z h in
    whole_some s (d.0, subst (λ (y : ℤ). FitsSigned w128 y) (sym d.1) h) ∙ ap (λ (y : ℤ). Some (whole y)) d.1

-- ---- bits

bits_back : (bs : Bits) → bits_in (length bs) (encode_upper (packed bs)) ≡ Some (bits bs)
bits_back bs =
    let n = length bs in
    let os = packed bs in
    let l : length os ≡ div_ceil n 8 = length-pack ((n + 7) / 8) bs ∙ omega arith in
    ap (option_and_then (bits_of n)) (octets_told os (octets_noted os (octets-pack ((n + 7) / 8) bs)))
    ∙ ap (λ (b : Bool). cond b (Some (bits (take n (unpack os)))) None) (eq-eqb (length os) (div_ceil n 8) l)
    ∙ ap (λ cs. Some (bits cs)) (unpack-packed bs)

counted_back : (bs : Bits) → length bs < 2 ^ 64 → counted_told (counted bs) ≡ Some (bits bs)
counted_back bs l = ap (both_told (Some (encode_upper (packed bs)))) (count_back (length bs) l) ∙ bits_back bs

-- two names
pub two_distinct : (a b : List ℕ) → a ≢ b → AreDistinct (a ∷ b ∷ [])
two_distinct a b h zero (suc zero) d i j = h
two_distinct a b h zero zero d i j = absurd (omega (arith, i))
two_distinct a b h zero (suc (suc k)) d i j = absurd (omega (arith, j))
two_distinct a b h (suc i) (suc zero) d k j = absurd (omega (arith, k))
two_distinct a b h (suc i) zero d k j = absurd (omega (arith, k))
two_distinct a b h (suc i) (suc (suc k)) d l j = absurd (omega (arith, j))

counted_unique : (bs : Bits) → HasUniqueKeys (counted bs)
counted_unique bs = (two_distinct (codes "value") (codes "length") (λ e. absurd (let l : length (codes "value") ≡ length (codes "length") = ap length e in omega (arith, l))), (tt, (tt, tt)))

pub record ToldUniquely (o : Option Value) (v : Value) (j : Json) : Type 0 where
  pub told : o ≡ Some v
  pub unique : HasUniqueKeys j

fixed_count : (fixed : Option ℕ) (n : ℕ) → option_eq nat_eq fixed (Some n) ≡ true → fixed ≡ Some n
fixed_count None n e = absurd cc
fixed_count (Some m) n e = ap (λ (k : ℕ). Some k) (eqb-true m n e)

counted_shown : (n : ℕ) (fixed : Option ℕ) (bs : Bits) (j : Json) → below n (λ m. counted_json bs) ≡ Some j → ToldUniquely (bits_told fixed (as_str j) j) (bits bs) j
counted_shown zero fixed bs j e = absurd cc
counted_shown (suc n) fixed bs j e =
    let g = given (nat_lt (length bs) (2 ^ 64)) (counted bs) j e in
    subst (λ i. ToldUniquely (bits_told fixed (as_str i) i) (bits bs) i) g.1 (record {
      told = counted_back bs (ltb-true (length bs) (2 ^ 64) g.0);
      unique = counted_unique bs;
    })

pub bits_read : (n : ℕ) (fixed : Option ℕ) (bs : Bits) (j : Json) → bits_shown n fixed bs ≡ Some j → ToldUniquely (bits_told fixed (as_str j) j) (bits bs) j
bits_read n fixed bs j e = go (option_eq nat_eq fixed (Some (length bs))) refl e
  where
    go : (b : Bool) → option_eq nat_eq fixed (Some (length bs)) ≡ b → cond b (Some (hexadecimal (packed bs))) (below n (λ m. counted_json bs)) ≡ Some j → ToldUniquely (bits_told fixed (as_str j) j) (bits bs) j
    go true h e = subst (λ i. ToldUniquely (bits_told fixed (as_str i) i) (bits bs) i) (some_same e) (record {
      told = ap (λ o. fixed_told o (encode_upper (packed bs))) (fixed_count fixed (length bs) h) ∙ bits_back bs;
      unique = tt;
    })
    go false h e = counted_shown n fixed bs j e

-- ---- characters

octet_scalars : (os : List ℕ) → are_octets os ≡ true → all_scalars os ≡ true
octet_scalars [] h = refl
octet_scalars (o ∷ os) h =
    let p = and_parts (nat_lt o 256) (are_octets os) h in
    let l = ltb-true o 256 p.0 in
    and_from (scalar o) (all_scalars os) (low_scalar o (omega (arith, l))) (octet_scalars os p.1)

pub latin_back : (os : List ℕ) → are_octets os ≡ true → latin_told (encode_utf8_all os) ≡ Some (octets os)
latin_back os h =
    ap (λ cs. cond (list_all (λ c. nat_lt c 256) cs) (Some (octets cs)) None) (chars-encodes os (octet_scalars os h))
    ∙ ap (λ (b : Bool). cond b (Some (octets os)) None) h

pub characters_back : (cs : List ℕ) → are_plain cs ≡ true → characters_told (encode_utf8_all cs) ≡ Some (characters cs)
characters_back cs h =
    let p = and_parts (has_all bmp cs) (all_scalars cs) h in
    ap (λ ds. cond (has_all bmp ds) (Some (characters ds)) None) (chars-encodes cs p.1)
    ∙ ap (λ (b : Bool). cond b (Some (characters cs)) None) p.0

pub time_back : (kind : TimeKind) (cs : List ℕ) → is_time kind cs ≡ true → are_plain cs ≡ true → time_told kind (encode_utf8_all cs) ≡ Some (characters cs)
time_back kind cs t h =
    let p = and_parts (has_all bmp cs) (all_scalars cs) h in
    ap (λ ds. cond (is_time kind ds) (characters_told (encode_utf8_all cs)) None) (chars-encodes cs p.1)
    ∙ ap (λ (b : Bool). cond b (characters_told (encode_utf8_all cs)) None) t
    ∙ characters_back cs h
