-- The numbers that the text of arcs spells.
use Rattle.std.proofs.Common.{◌≡◌, ◌≢◌, refl, sym, ap, ◌∙◌, subst, inl, inr, ℕ, zero, suc, ◌+◌, ◌-◌, ◌*◌, ◌^◌, ◌<◌, ◌≤◌, ◌⊎◌, Bool, true, false, cond, ◌&&◌, ◌||◌, eqb, eqb-true, ltb, lt-ltb, ltb-true, List, [], ◌∷◌, ◌++◌, Option, Some, None, option_map, arith}
use Rattle.std.specs.Prelude.{decimal, flat_map, nat_lt}
use Rattle.std.specs.Char.{digit_value}
use Rattle.std.specs.List.{list_all}
use Rattle.std.specs.Option.{option_and_then}
use Rattle.std.specs.Str.{bytes_eq}
use Rattle.std.specs.Str.Parse.{AllDigits, digits_value, digits_value_after, IsNumeral}
use Rattle.std.proofs.lemmas.Bool.{and_from, and_parts, ne_eqb}
use Rattle.std.proofs.lemmas.Fmt.{decimal_is_IsNumeral_wide}
use Rattle.std.proofs.lemmas.Slice.Eq.{bytes_eq-Decides}
use Rattle.std.proofs.lemmas.Str.{digit_value_digit}
use Rattle.std.proofs.lemmas.Str.Parse.{digit_from_value}
use Rattle.rasn_types.specs.Identifiers.{are_arcs, contents}
use Rattle.rasn_types.specs.Values.{Value, octets}
use Rattle.rasn_jer.specs.Strings.{after_dot, dotted}
use Rattle.rasn_dynamic_jer.specs.Identifiers.{identifier_told, numbers_in, object_with, read_on}

grown : (cs : List ℕ) (m : ℕ) → m ≤ digits_value_after 10 m cs
grown [] m = omega arith
grown (c ∷ cs) m = let h = grown cs (m * 10 + digit_value c) in omega (arith, h)

one_digit : (n c m : ℕ) → digit_value c < 10 → m ≡ n * 10 + digit_value c → m < 2 ^ 32 → read_on n c ≡ Some m
one_digit n c m h e l =
    let r = digit_from_value c h in
    let v = digit_value_digit c r in
    let f : 10 * n + (c - 48) ≡ m = omega (arith, v, e) in
    ap (λ (k : ℕ). cond (ltb k (2 ^ 32)) (Some k) None) f ∙ ap (λ (b : Bool). cond b (Some m) None) (lt-ltb m (2 ^ 32) l)

no_dot : (c : ℕ) → digit_value c < 10 → c ≢ 46
no_dot c h e = let r = digit_from_value c h in absurd (omega (arith, e, r))

at_digit : (n c : ℕ) (cs : List ℕ) → c ≢ 46 → numbers_in n (c ∷ cs) ≡ option_and_then (λ m. numbers_in m cs) (read_on n c)
at_digit n c cs h = rw (ne_eqb c 46 h) refl

-- digits read a number on
digits_on : (ds t : List ℕ) (n : ℕ) → AllDigits 10 ds → digits_value_after 10 n ds < 2 ^ 32 → numbers_in n (ds ++ t) ≡ numbers_in (digits_value_after 10 n ds) t
digits_on [] t n h l = refl
digits_on (c ∷ cs) t n h l =
    let m = n * 10 + digit_value c in
    let g = grown cs m in
    at_digit n c (cs ++ t) (no_dot c h.0)
    ∙ ap (option_and_then (λ m. numbers_in m (cs ++ t))) (one_digit n c m h.0 refl (omega (arith, g, l)))
    ∙ digits_on cs t m h.1 l

first_number : (a : ℕ) (t : List ℕ) → a < 2 ^ 32 → numbers_in 0 (decimal a ++ t) ≡ numbers_in a t
first_number a t l =
    let d = decimal_is_IsNumeral_wide a (omega (arith, l)) in
    digits_on (decimal a) t 0 d.0.1 (subst (λ (k : ℕ). k < 2 ^ 32) (sym d.1) l)
    ∙ ap (λ (k : ℕ). numbers_in k t) d.1

-- the numbers with full stops between them are read back
spelled : (a : ℕ) (bs : List ℕ) → a < 2 ^ 32 → list_all (λ b. nat_lt b (2 ^ 32)) bs ≡ true → numbers_in 0 (decimal a ++ flat_map after_dot bs) ≡ Some (a ∷ bs)
spelled a [] l h = first_number a [] l
spelled a (b ∷ bs) l h =
    let p = and_parts (nat_lt b (2 ^ 32)) (list_all (λ b. nat_lt b (2 ^ 32)) bs) h in
    first_number a (46 ∷ (decimal b ++ flat_map after_dot bs)) l
    ∙ ap (option_map (λ ns. a ∷ ns)) (spelled b bs (ltb-true b (2 ^ 32) p.0) p.1)

small : (x y : ℕ) → (eqb x 2 || (ltb x 2 && ltb y 40)) ≡ true → x < 2 ^ 32
small x y h = go (eqb x 2) refl h
  where
    go : (b : Bool) → eqb x 2 ≡ b → (b || (ltb x 2 && ltb y 40)) ≡ true → x < 2 ^ 32
    go true e h = let f = eqb-true x 2 e in omega (arith, f)
    go false e h = let p = and_parts (ltb x 2) (ltb y 40) h in let l = ltb-true x 2 p.0 in omega (arith, l)

-- arcs are told by their text
pub arcs_told : (arcs : List ℕ) → are_arcs arcs ≡ true → identifier_told (dotted arcs) ≡ Some (octets (contents arcs))
arcs_told [] h = absurd cc
arcs_told (x ∷ []) h = absurd cc
arcs_told (x ∷ y ∷ zs) h =
    let p = and_parts (eqb x 2 || (ltb x 2 && ltb y 40)) (list_all (λ b. nat_lt b (2 ^ 32)) (y ∷ zs)) h in
    let arcs = x ∷ y ∷ zs in
    let s = dotted arcs in
    let same : bytes_eq s s ≡ true = (bytes_eq-Decides s s).1 refl in
    ap (option_and_then (object_with s)) (spelled x (y ∷ zs) (small x y p.0) p.1)
    ∙ ap (λ (b : Bool). cond b (Some (octets (contents arcs))) None) (and_from (are_arcs arcs) (bytes_eq s s) h same)
