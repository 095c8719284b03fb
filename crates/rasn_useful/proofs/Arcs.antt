-- Decimal texts of arcs.
use Rattle.std.proofs.Common.{◌≡◌, ◌≢◌, refl, sym, subst, ap, ap₂, ◌∙◌, ℕ, zero, suc, ◌^◌, ◌<◌, Bool, true, false, ◌&&◌, List, [], ◌∷◌, ◌++◌, map, length, get_or, arith, Ok, Err, Result, ltb-true}
use Rattle.std.specs.Fmt.{decimal}
use Rattle.std.specs.Str.Parse.{ParsesUnsigned, AllDigits, digits_value}
use Rattle.std.proofs.lemmas.Bool.Decides.{nat_tests}
use Rattle.std.proofs.lemmas.List.{map-append}
use Rattle.std.proofs.lemmas.Str.Parse.{IsNumeralModel, numerals_by_value, tells_digits, parse_plain, not_in_digits}
use Rattle.std.proofs.lemmas.Fmt.{decimal-digits_value, parse-decimal, decimal_nonempty, digits_decimal, first_decimal, decimal_digit}
use Rattle.rasn_useful.specs.Texts.{are_held, begins_well, numbers_in, HasNoArcs}

own : IsNumeralModel (AllDigits 10) (digits_value 10)
own = numerals_by_value (AllDigits 10) tells_digits

no_plus : (t : List ℕ) → begins_well t ≡ true → get_or t 0 0 ≢ 43
no_plus t p e = grind (arith, nat_tests)

one_zero : (t : List ℕ) → begins_well t ≡ true → get_or t 0 0 ≡ 48 → length t ≡ 1
one_zero t p e = grind (arith, nat_tests)

same_ok : {E : Type 0} (r : Result ℕ E) (m n : ℕ) → r ≡ Ok m → r ≡ Ok n → m ≡ n
same_ok r m n d e = cc

-- such a text is read as the number whose text it is
pub read_as : (E : Type 0) (t : List ℕ) (r : Result ℕ E) (n : ℕ) → begins_well t ≡ true → ParsesUnsigned 32 10 t r → r ≡ Ok n → decimal n ≡ t
read_as E t (Ok m) n p h e =
    let f : (AllDigits 10 t × (0 < length t) × (digits_value 10 t < 2 ^ 32)) × (m ≡ digits_value 10 t) = parse_plain own {E = E} 32 t (Ok m) h (no_plus t p) in
    ap decimal (sym (same_ok (Ok m) m n refl e) ∙ f.1) ∙ decimal-digits_value own t f.0.0 f.0.1 (one_zero t p) (omega (arith, f.0.2))
read_as E t (Err x) n p h e = absurd (cc)

-- what isn't read is no number's text
pub not_read : {E : Type 0} (t : List ℕ) (r : Result ℕ E) (x : E) → ParsesUnsigned 32 10 t r → r ≡ Err x → (n : ℕ) → n < 2 ^ 32 → decimal n ≢ t
not_read t r x h e n l d = let o = parse-decimal 32 n t r l (omega arith) (sym d) h in absurd (cc)

-- the decimal text of a number begins so
decimal_begins_well : (n : ℕ) → n < 2 ^ 64 → begins_well (decimal n) ≡ true
decimal_begins_well n l =
    let some = decimal_nonempty n l in
    let plus = not_in_digits own (decimal n) 43 (digits_decimal own n l) (λ i. omega arith) 0 some in
    let nought : n ≡ 0 → length (decimal n) ≡ 1 = λ e. ap length (ap decimal e ∙ decimal_digit 0 (omega arith)) in
    let more : 0 < n → 48 < get_or (decimal n) 0 0 = λ h. first_decimal n h l in
    grind (arith, nat_tests)

pub not_well : (t : List ℕ) → begins_well t ≡ false → (n : ℕ) → n < 2 ^ 32 → decimal n ≢ t
not_well t p n l d = let w = decimal_begins_well n (omega arith) in absurd (cc)

both : (b c : Bool) → (b && c) ≡ true → (b ≡ true) × (c ≡ true)
both true c e = (refl, e)
both false c e = absurd (cc)

-- where one part of a text is no number's, no numbers have that text
no_arcs : (arcs : List ℕ) (k : ℕ) (t : List ℕ) → are_held arcs ≡ true → (k < length (map decimal arcs)) × (t ≡ get_or (map decimal arcs) k t) →
    ((n : ℕ) → n < 2 ^ 32 → decimal n ≢ t) → ⊥
no_arcs [] k t held here none = absurd (omega (arith, here.0))
no_arcs (a ∷ arcs) zero t held here none = none a (ltb-true a (2 ^ 32) (both _ _ held).0) (sym here.1)
no_arcs (a ∷ arcs) (suc k) t held here none = no_arcs arcs k t (both _ _ held).1 (omega (arith, here.0), here.1) none

pub has_no_arcs : (text : List ℕ) (k : ℕ) (t : List ℕ) → (k < length (numbers_in text)) × (t ≡ get_or (numbers_in text) k t) → ((n : ℕ) → n < 2 ^ 32 → decimal n ≢ t) → HasNoArcs text
has_no_arcs text k t here none = λ arcs held e.
    no_arcs arcs k t held (subst (λ (parts : List (List ℕ)). (k < length parts) × (t ≡ get_or parts k t)) (sym e) here) none

pub one_more : {A : Type 0} (f : A → List ℕ) (arcs : List ℕ) (xs : List A) (a : ℕ) (x : A) → map decimal arcs ≡ map f xs → decimal a ≡ f x → map decimal (arcs ++ a ∷ []) ≡ map f (xs ++ x ∷ [])
one_more f arcs xs a x e d = map-append decimal arcs (a ∷ []) ∙ ap₂ (λ ys zs. ys ++ zs) e (ap (λ y. y ∷ []) d) ∙ sym (map-append f xs (x ∷ []))
