-- Remarks on things one after another.
use Rattle.std.proofs.Common.{◌≡◌, refl, sym, ap, ◌∙◌, ℕ, zero, suc, ◌+◌, ◌<◌, ◌≤◌, ◌||◌, Bool, true, false, List, [], ◌∷◌, ◌++◌, length, get_or, map, take, arith, append_assoc, append-nil}
use Rattle.std.specs.Prelude.{slice_get}
use Rattle.std.specs.List.{list_any}
use Rattle.std.proofs.lemmas.List.Folds.{list_any-append}
use Rattle.std.proofs.lemmas.List.{take_all, take_more, length-take-le}
use Rattle.rasn_dynamic.specs.Types.{within}
use Rattle.rasn_dynamic.specs.declared.types.Kind.{Kind}
use Rattle.rasn_dynamic.specs.declared.values.Value.{Value}
use Rattle.per_messages.specs.Remarks.{Adds, each_from, each_of, of_type, remarks_at, Told, told}
use Rattle.per_messages.specs.declared.remarks.Remark.{Remark}

-- what is added
pub adds_none : (a : List Remark) → Adds a a []
adds_none a = sym (append-nil (map told a))

pub adds_both : (a b c : List Remark) (t u : List Told) → Adds a b t → Adds b c u → Adds a c (t ++ u)
adds_both a b c t u p q = q ∙ ap (λ l. l ++ u) p ∙ append_assoc (map told a) t u

-- one thing more
each_append : {A : Type 0} (f : ℕ → A → List Told) (k : ℕ) (xs : List A) (x : A) → each_from f k (xs ++ x ∷ []) ≡ each_from f k xs ++ f (k + length xs) x
each_append f k [] x =
    let e : k ≡ k + 0 = omega arith in append-nil (f k x) ∙ ap (λ m. f m x) e
each_append f k (y ∷ ys) x =
    let e : k + 1 + length ys ≡ k + suc (length ys) = omega arith in
    ap (λ l. f k y ++ l) (each_append f (k + 1) ys x) ∙ sym (append_assoc (f k y) (each_from f (k + 1) ys) (f (k + 1 + length ys) x))
    ∙ ap (λ m. (f k y ++ each_from f (k + 1) ys) ++ f m x) e

each_more : {A : Type 0} (f : ℕ → A → List Told) (k : ℕ) (xs : List A) (x : A) → k < length xs → x ≡ get_or xs k x → each_of f (take (k + 1) xs) ≡ each_of f (take k xs) ++ f k x
each_more f k xs x few is =
    let m : length (take k xs) ≡ k = length-take-le k xs (omega arith) in
    let n : 0 + length (take k xs) ≡ k = omega (arith, m) in
    ap (each_of f) (take_more xs k x few ∙ ap (λ z. take k xs ++ z ∷ []) (sym is)) ∙ each_append f 0 (take k xs) x
    ∙ ap (λ m. each_of f (take k xs) ++ f m x) n

pub adds_each : {A : Type 0} (f : ℕ → A → List Told) (k : ℕ) (xs : List A) (x : A) (a b c : List Remark) → k < length xs → x ≡ get_or xs k x
    → Adds a b (each_of f (take k xs)) → Adds b c (f k x) → Adds a c (each_of f (take (k + 1) xs))
adds_each f k xs x a b c few is p q =
    adds_both a b c (each_of f (take k xs)) (f k x) p q ∙ ap (λ l. map told a ++ l) (sym (each_more f k xs x few is))

pub adds_all : {A : Type 0} (f : ℕ → A → List Told) (k : ℕ) (xs : List A) (a b : List Remark) → length xs ≤ k → Adds a b (each_of f (take k xs)) → Adds a b (each_of f xs)
adds_all f k xs a b h p = p ∙ ap (λ l. map told a ++ each_of f l) (take_all k xs h)

or_false : (b : Bool) → (b || false) ≡ b
or_false true = refl
or_false false = refl

any_append : {A : Type 0} (p : A → Bool) (xs : List A) (x : A) → list_any p (xs ++ x ∷ []) ≡ (list_any p xs || p x)
any_append p xs x = list_any-append p xs (x ∷ []) ∙ ap (λ b. list_any p xs || b) (or_false (p x))

pub any_more : {A : Type 0} (p : A → Bool) (k : ℕ) (xs : List A) (x : A) → k < length xs → x ≡ get_or xs k x → list_any p (take (k + 1) xs) ≡ (list_any p (take k xs) || p x)
any_more p k xs x few is = ap (list_any p) (take_more xs k x few ∙ ap (λ z. take k xs ++ z ∷ []) (sym is)) ∙ any_append p (take k xs) x

pub any_all : {A : Type 0} (p : A → Bool) (k : ℕ) (xs : List A) → length xs ≤ k → list_any p (take k xs) ≡ list_any p xs
any_all p k xs h = ap (list_any p) (take_all k xs h)

-- levels
pub remarks_below : (ts : List Kind) (n m : ℕ) (path : List ℕ) (i : ℕ) (x : Value) → n ≡ suc m
    → remarks_at ts n path i x ≡ of_type ts (remarks_at ts m) path (within ts (slice_get ts i)) x
unfolding remarks_at
remarks_below ts zero m path i x e = absurd cc
remarks_below ts (suc n) m path i x e =
    let p : n ≡ m = cc in ap (λ (l : ℕ). of_type ts (remarks_at ts l) path (within ts (slice_get ts i)) x) p

pub remarks_last : (ts : List Kind) (n : ℕ) (path : List ℕ) (i : ℕ) (x : Value) → n ≡ 0 → remarks_at ts n path i x ≡ []
unfolding remarks_at
remarks_last ts zero path i x e = refl
remarks_last ts (suc n) path i x e = absurd cc

pub no_level : (n : ℕ) → ¬ (1 ≤ n) → n ≡ 0
no_level zero h = refl
no_level (suc n) h = absurd (h (omega arith))
