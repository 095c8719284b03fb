-- Numbers by their decimal digits.
use Rattle.std.proofs.Common.{◌≡◌, refl, sym, ap, ◌∙◌, ℕ, ◌<◌, ◌^◌, Bool, true, false, cond, ◌&&◌, ltb, lt-ltb, ltb-true, List, [], ◌∷◌, length, Option, Some, None, option_map, ℤ, FitsSigned, arith}
use Rattle.std.specs.Prelude.{nat_lt}
use Rattle.std.specs.Char.{digit_value, is_digit}
use Rattle.std.specs.Int.{w128}
use Rattle.std.specs.List.{list_all}
use Rattle.std.specs.Str.Parse.{AllDigits, digits_value, IsNumeral, signed_digits_value, without_leading_plus, without_leading_sign}
use Rattle.std.proofs.lemmas.Bool.{and_from, and_parts}
use Rattle.rasn_types.specs.Integers.{is_i128}
use Rattle.rasn_types.specs.Values.{whole, Value}
use Rattle.rasn_types.proofs.Reading.{fits-is_i128, is_i128-fits}
use Rattle.rasn_dynamic_jer.specs.FromJson.{are_digits, count_told, whole_told}

all_true : (ds : List ℕ) → AllDigits 10 ds → list_all (λ c. is_digit c 10) ds ≡ true
all_true [] h = refl
all_true (c ∷ cs) h = and_from _ _ (lt-ltb (digit_value c) 10 h.0) (all_true cs h.1)

true_all : (ds : List ℕ) → list_all (λ c. is_digit c 10) ds ≡ true → AllDigits 10 ds
true_all [] e = tt
true_all (c ∷ cs) e = let p = and_parts (is_digit c 10) (list_all (λ c. is_digit c 10) cs) e in (ltb-true (digit_value c) 10 p.0, true_all cs p.1)

digits_true : (ds : List ℕ) → IsNumeral 10 ds → are_digits ds ≡ true
digits_true ds h = and_from _ _ (lt-ltb 0 (length ds) h.0) (all_true ds h.1)

true_digits : (ds : List ℕ) → are_digits ds ≡ true → IsNumeral 10 ds
true_digits ds e = let p = and_parts (nat_lt 0 (length ds)) (list_all (λ c. is_digit c 10) ds) e in (ltb-true 0 (length ds) p.0, true_all ds p.1)

pub whole_some : (s : List ℕ) → IsNumeral 10 (without_leading_sign s) × FitsSigned w128 (signed_digits_value 10 s) → whole_told s ≡ Some (whole (signed_digits_value 10 s))
whole_some s h = ap (λ b. cond b (Some (whole (signed_digits_value 10 s))) None) (and_from _ _ (digits_true (without_leading_sign s) h.0) (fits-is_i128 (signed_digits_value 10 s) h.1))

pub whole_none : (s : List ℕ) → ¬ (IsNumeral 10 (without_leading_sign s) × FitsSigned w128 (signed_digits_value 10 s)) → whole_told s ≡ None
whole_none s h = go (are_digits (without_leading_sign s) && is_i128 (signed_digits_value 10 s)) refl
  where
    go : (b : Bool) → (are_digits (without_leading_sign s) && is_i128 (signed_digits_value 10 s)) ≡ b → whole_told s ≡ None
    go true e = let p = and_parts (are_digits (without_leading_sign s)) (is_i128 (signed_digits_value 10 s)) e in absurd (h (true_digits (without_leading_sign s) p.0, is_i128-fits (signed_digits_value 10 s) p.1))
    go false e = ap (λ b. cond b (Some (whole (signed_digits_value 10 s))) None) e

pub count_some : (s : List ℕ) → IsNumeral 10 (without_leading_plus s) × (digits_value 10 (without_leading_plus s) < 2 ^ 64) → count_told s ≡ Some (digits_value 10 (without_leading_plus s))
count_some s h = ap (λ b. cond b (Some (digits_value 10 (without_leading_plus s))) None) (and_from _ _ (digits_true (without_leading_plus s) h.0) (lt-ltb (digits_value 10 (without_leading_plus s)) (2 ^ 64) h.1))

pub count_none : (s : List ℕ) → ¬ (IsNumeral 10 (without_leading_plus s) × (digits_value 10 (without_leading_plus s) < 2 ^ 64)) → count_told s ≡ None
count_none s h = go (are_digits (without_leading_plus s) && nat_lt (digits_value 10 (without_leading_plus s)) (2 ^ 64)) refl
  where
    go : (b : Bool) → (are_digits (without_leading_plus s) && nat_lt (digits_value 10 (without_leading_plus s)) (2 ^ 64)) ≡ b → count_told s ≡ None
    go true e = let p = and_parts (are_digits (without_leading_plus s)) (nat_lt (digits_value 10 (without_leading_plus s)) (2 ^ 64)) e in absurd (h (true_digits (without_leading_plus s) p.0, ltb-true (digits_value 10 (without_leading_plus s)) (2 ^ 64) p.1))
    go false e = ap (λ b. cond b (Some (digits_value 10 (without_leading_plus s))) None) e
