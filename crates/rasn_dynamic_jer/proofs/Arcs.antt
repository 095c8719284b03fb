-- The arcs that octets hold, and those that characters spell.
use Rattle.std.proofs.Common.{◌≡◌, ◌≢◌, refl, sym, ap, ◌∙◌, subst, ℕ, zero, suc, ◌+◌, ◌-◌, ◌*◌, ◌/◌, ◌%◌, ◌^◌, ◌<◌, ◌≤◌, ◌⊎◌, inl, inr, Bool, true, false, cond, ◌&&◌, ◌||◌, eqb, ltb, List, [], ◌∷◌, ◌++◌, length, drop, Option, Some, None, option_map, get_or, arith, append_assoc, lt-ltb}
use Rattle.std.specs.Prelude.{nat_lt}
use Rattle.std.specs.Option.{option_and_then}
use Rattle.std.specs.Str.{bytes_eq}
use Rattle.std.proofs.lemmas.Bool.{and_from, ne_eqb, le-ltb}
use Rattle.std.proofs.lemmas.Slice.Eq.{bytes_eq-Decides}
use Rattle.std.proofs.lemmas.List.{drop_all, drop_more}
use borrow.Author.Tests.{ltb-true}
use Rattle.rasn_types.specs.Contents.{is_identifier}
use Rattle.rasn_types.specs.Identifiers.{are_arcs, contents, leading_octets, subidentifier, subidentifiers}
use Rattle.rasn_types.proofs.Writing.{subidentifier-is}
use Rattle.json.specs.Json.{string}
use Rattle.rasn_jer.specs.Strings.{dotted}
use Rattle.rasn_dynamic_jer.specs.Identifiers.{arcs_in, arcs_of, identifier_json, numbers_in, read_on, subidentifiers_in}

-- ---- the arcs that octets hold

-- an octet that others follow, and one that none does
on-high : (n o : ℕ) (os : List ℕ) → 128 ≤ o → subidentifiers_in n (o ∷ os) ≡ subidentifiers_in (128 * n + (o - 128)) os
on-high n o os h = ap (λ b. cond b ((128 * n + o) ∷ subidentifiers_in 0 os) (subidentifiers_in (128 * n + (o - 128)) os)) (le-ltb o 128 h)

on-last : (n o : ℕ) (os : List ℕ) → o < 128 → subidentifiers_in n (o ∷ os) ≡ (128 * n + o) ∷ subidentifiers_in 0 os
on-last n o os h = ap (λ b. cond b ((128 * n + o) ∷ subidentifiers_in 0 os) (subidentifiers_in (128 * n + (o - 128)) os)) (lt-ltb o 128 h)

-- the leading octets of a number begin a subidentifier with it
begun : (f n : ℕ) (t : List ℕ) → n ≤ f → subidentifiers_in 0 (leading_octets f n ++ t) ≡ subidentifiers_in n t
unfolding leading_octets
begun zero zero t h = refl
begun zero (suc n) t h = absurd (omega arith)
begun (suc f) zero t h = refl
begun (suc f) (suc n) t h =
    let m = suc n in
    let e : leading_octets (suc f) m ++ t ≡ leading_octets f (m / 128) ++ (128 + m % 128) ∷ t =
    rw (ne_eqb m 0 (λ e. omega arith)) (append_assoc (leading_octets f (m / 128)) ((128 + m % 128) ∷ []) t) in
    ap (subidentifiers_in 0) e ∙ begun f (m / 128) ((128 + m % 128) ∷ t) (omega arith) ∙ on-high (m / 128) (128 + m % 128) t (omega arith) ∙ ap (λ (k : ℕ). subidentifiers_in k t) (omega arith)

one : (n : ℕ) (t : List ℕ) → subidentifiers_in 0 (subidentifier n ++ t) ≡ n ∷ subidentifiers_in 0 t
one n t =
    ap (λ os. subidentifiers_in 0 (os ++ t)) (subidentifier-is n)
    ∙ ap (subidentifiers_in 0) (append_assoc (leading_octets (n / 128) (n / 128)) (n % 128 ∷ []) t)
    ∙ begun (n / 128) (n / 128) (n % 128 ∷ t) (omega arith)
    ∙ on-last (n / 128) (n % 128) t (omega arith)
    ∙ ap (λ (k : ℕ). k ∷ subidentifiers_in 0 t) (omega arith)

all : (ns : List ℕ) → subidentifiers_in 0 (subidentifiers ns) ≡ ns
all [] = refl
all (n ∷ ns) = one n (subidentifiers ns) ∙ ap (λ ms. n ∷ ms) (all ns)

first_true : (b c : Bool) → (b && c) ≡ true → b ≡ true
first_true true c e = refl
first_true false c e = absurd cc

-- the two arcs that the first subidentifier holds
low : (y : ℕ) (zs : List ℕ) → y < 40 → arcs_of (y ∷ zs) ≡ 0 ∷ y ∷ zs
low y zs h = rw (lt-ltb y 40 h) refl

middle : (y : ℕ) (zs : List ℕ) → y < 40 → arcs_of ((40 + y) ∷ zs) ≡ 1 ∷ y ∷ zs
middle y zs h = rw (le-ltb (40 + y) 40 (omega arith), lt-ltb (40 + y) 80 (omega arith)) (ap (λ (k : ℕ). 1 ∷ k ∷ zs) (omega arith))

high : (y : ℕ) (zs : List ℕ) → arcs_of ((80 + y) ∷ zs) ≡ 2 ∷ y ∷ zs
high y zs = rw (le-ltb (80 + y) 40 (omega arith), le-ltb (80 + y) 80 (omega arith)) (ap (λ (k : ℕ). 2 ∷ k ∷ zs) (omega arith))

two : (x y : ℕ) (zs : List ℕ) → are_arcs (x ∷ y ∷ zs) ≡ true → arcs_of ((40 * x + y) ∷ zs) ≡ x ∷ y ∷ zs
two zero y zs h = let e : 40 * 0 + y ≡ y = omega arith in ap (λ (k : ℕ). arcs_of (k ∷ zs)) e ∙ low y zs (ltb-true y 40 (first_true (ltb y 40) _ h))
two (suc zero) y zs h = let e : 40 * 1 + y ≡ 40 + y = omega arith in ap (λ (k : ℕ). arcs_of (k ∷ zs)) e ∙ middle y zs (ltb-true y 40 (first_true (ltb y 40) _ h))
two (suc (suc zero)) y zs h = let e : 40 * 2 + y ≡ 80 + y = omega arith in ap (λ (k : ℕ). arcs_of (k ∷ zs)) e ∙ high y zs
two (suc (suc (suc x))) y zs h =
    let n = suc (suc (suc x)) in
    let k : false ≡ true = rw (ne_eqb n 2 (λ e. omega arith), le-ltb n 2 (omega arith)) at h in
    absurd cc

written : (x y : ℕ) (zs : List ℕ) → are_arcs (x ∷ y ∷ zs) ≡ true → contents (x ∷ y ∷ zs) ≡ subidentifiers ((40 * x + y) ∷ zs)
unfolding contents
written x y zs h = rw h refl

pub arcs_back : (arcs : List ℕ) → are_arcs arcs ≡ true → arcs_in (contents arcs) ≡ arcs
arcs_back [] h = absurd cc
arcs_back (x ∷ []) h = absurd cc
arcs_back (x ∷ y ∷ zs) h = ap arcs_in (written x y zs h) ∙ ap arcs_of (all ((40 * x + y) ∷ zs)) ∙ two x y zs h

-- contents octets are those of arcs
pub lawful : (arcs os : List ℕ) → contents arcs ≡ os → is_identifier os ≡ true → are_arcs arcs ≡ true
unfolding contents is_identifier
lawful [] os e h = absurd cc
lawful (x ∷ []) os e h = absurd cc
lawful (x ∷ y ∷ zs) os e h = decided (are_arcs (x ∷ y ∷ zs)) refl
  where
    decided : (b : Bool) → are_arcs (x ∷ y ∷ zs) ≡ b → are_arcs (x ∷ y ∷ zs) ≡ true
    decided true f = f
    decided false f = let n : contents (x ∷ y ∷ zs) ≡ [] = rw f refl in absurd cc

pub identifier_known : (arcs os : List ℕ) → contents arcs ≡ os → is_identifier os ≡ true → identifier_json os ≡ Some (string (dotted arcs))
identifier_known arcs os e h =
    let f : arcs_in os ≡ arcs = ap arcs_in (sym e) ∙ arcs_back arcs (lawful arcs os e h) in
    let same : bytes_eq (contents (arcs_in os)) os ≡ true = ap (λ ns. bytes_eq (contents ns) os) f ∙ ap (λ ns. bytes_eq ns os) e ∙ (bytes_eq-Decides os os).1 refl in
    ap (λ (b : Bool). cond b (Some (string (dotted (arcs_in os)))) None) (and_from (is_identifier os) (bytes_eq (contents (arcs_in os)) os) h same)
    ∙ ap (λ ns. Some (string (dotted ns))) f

-- ---- the numbers that characters spell

at_dot : (n c : ℕ) (cs : List ℕ) → c ≡ 46 → numbers_in n (c ∷ cs) ≡ option_map (λ ns. n ∷ ns) (numbers_in 0 cs)
at_dot n c cs e = subst (λ (k : ℕ). numbers_in n (k ∷ cs) ≡ option_map (λ ns. n ∷ ns) (numbers_in 0 cs)) (sym e) refl

at_digit : (n c : ℕ) (cs : List ℕ) → c ≢ 46 → numbers_in n (c ∷ cs) ≡ option_and_then (λ m. numbers_in m cs) (read_on n c)
at_digit n c cs h = rw (ne_eqb c 46 h) refl

onto : (xs : List ℕ) (n : ℕ) (o : Option (List ℕ)) → option_map (λ ns. xs ++ ns) (option_map (λ ns. n ∷ ns) o) ≡ option_map (λ ns. (xs ++ n ∷ []) ++ ns) o
onto xs n None = refl
onto xs n (Some ns) = ap Some (sym (append_assoc xs (n ∷ []) ns))

-- at a full stop a number ends
pub ended : (s xs ys : List ℕ) (i n c : ℕ) → numbers_in 0 s ≡ option_map (λ ns. xs ++ ns) (numbers_in n (drop i s)) → i < length s → c ≡ get_or s i 0 → c ≡ 46 → ys ≡ xs ++ n ∷ []
    → numbers_in 0 s ≡ option_map (λ ns. ys ++ ns) (numbers_in 0 (drop (i + 1) s))
ended s xs ys i n c e l g h y = e ∙ ap (λ cs. option_map (λ ns. xs ++ ns) (numbers_in n cs)) (drop_more s i 0 l)
    ∙ ap (option_map (λ ns. xs ++ ns)) (at_dot n (get_or s i 0) (drop (i + 1) s) (sym g ∙ h))
    ∙ onto xs n (numbers_in 0 (drop (i + 1) s)) ∙ ap (λ zs. option_map (λ ns. zs ++ ns) (numbers_in 0 (drop (i + 1) s))) (sym y)

-- a digit reads a number on, or there is none
pub digit_read : (s xs : List ℕ) (i n c : ℕ) (o : Option ℕ) → numbers_in 0 s ≡ option_map (λ ns. xs ++ ns) (numbers_in n (drop i s)) → i < length s → c ≡ get_or s i 0 → c ≢ 46 → o ≡ read_on n c
    → numbers_in 0 s ≡ option_map (λ ns. xs ++ ns) (option_and_then (λ m. numbers_in m (drop (i + 1) s)) o)
digit_read s xs i n c o e l g h r = e ∙ ap (λ cs. option_map (λ ns. xs ++ ns) (numbers_in n cs)) (drop_more s i 0 l)
    ∙ ap (λ (k : ℕ). option_map (λ ns. xs ++ ns) (numbers_in n (k ∷ drop (i + 1) s))) (sym g)
    ∙ ap (option_map (λ ns. xs ++ ns)) (at_digit n c (drop (i + 1) s) h ∙ ap (option_and_then (λ m. numbers_in m (drop (i + 1) s))) (sym r))

-- the last number
pub last : (s xs ys : List ℕ) (i n : ℕ) → numbers_in 0 s ≡ option_map (λ ns. xs ++ ns) (numbers_in n (drop i s)) → length s ≤ i → ys ≡ xs ++ n ∷ [] → numbers_in 0 s ≡ Some ys
last s xs ys i n e l y = e ∙ ap (λ cs. option_map (λ ns. xs ++ ns) (numbers_in n cs)) (drop_all i s l) ∙ ap Some (sym y)
