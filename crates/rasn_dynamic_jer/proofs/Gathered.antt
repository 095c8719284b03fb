-- What becomes of each of a list, so far as it has come.
use Rattle.std.proofs.Common.{◌≡◌, refl, sym, ap, ◌∙◌, ℕ, ◌+◌, ◌<◌, ◌≤◌, List, [], ◌∷◌, ◌++◌, map, length, drop, get_or, Option, Some, None, option_map, append-nil, append_assoc}
use Rattle.std.proofs.lemmas.List.{drop_more, drop_all}
use Rattle.rasn_types.specs.AllOf.{all_of, joined}

-- some before others, where these are there
abbrev pub before : {Y : Type 0} → List Y → Option (List Y) → Option (List Y)
before ys o = option_map (λ zs. ys ++ zs) o

-- one more at the end of those before
joined_before : {V Y : Type 0} (g : V → Y) (vs : List V) (v : V) (zs : List Y) → map g vs ++ g v ∷ zs ≡ map g (vs ++ v ∷ []) ++ zs
joined_before g [] v zs = refl
joined_before g (w ∷ vs) v zs = ap (λ ys. g w ∷ ys) (joined_before g vs v zs)

moved : {V Y : Type 0} (g : V → Y) (vs : List V) (v : V) (o : Option (List Y)) → before (map g vs) (joined (Some (g v)) o) ≡ before (map g (vs ++ v ∷ [])) o
moved g vs v None = refl
moved g vs v (Some zs) = ap Some (joined_before g vs v zs)

-- the next of a list and those after it
next : {X Y : Type 0} (f : X → Option Y) (xs : List X) (i : ℕ) (x : X) → i < length xs → x ≡ get_or xs i x → all_of f (drop i xs) ≡ joined (f x) (all_of f (drop (i + 1) xs))
next f xs i x l e = ap (all_of f) (drop_more xs i x l ∙ ap (λ u. u ∷ drop (i + 1) xs) (sym e))

pub one_more : {X V Y : Type 0} (f : X → Option Y) (g : V → Y) (xs : List X) (vs : List V) (i : ℕ) (x : X) (v : V) → i < length xs → x ≡ get_or xs i x → f x ≡ Some (g v)
    → before (map g vs) (all_of f (drop i xs)) ≡ all_of f xs → before (map g (vs ++ v ∷ [])) (all_of f (drop (i + 1) xs)) ≡ all_of f xs
one_more f g xs vs i x v l e h k =
    sym (moved g vs v (all_of f (drop (i + 1) xs)))
    ∙ ap (λ o. before (map g vs) (joined o (all_of f (drop (i + 1) xs)))) (sym h)
    ∙ ap (before (map g vs)) (sym (next f xs i x l e))
    ∙ k

-- all are gathered
pub no_more : {X V Y : Type 0} (f : X → Option Y) (g : V → Y) (xs : List X) (vs : List V) (i : ℕ) → length xs ≤ i → before (map g vs) (all_of f (drop i xs)) ≡ all_of f xs → all_of f xs ≡ Some (map g vs)
no_more f g xs vs i l k = sym k ∙ ap (λ ys. before (map g vs) (all_of f ys)) (drop_all i xs l) ∙ ap Some (append-nil (map g vs))

-- nothing becomes of one
pub one_lacks : {X V Y : Type 0} (f : X → Option Y) (g : V → Y) (xs : List X) (vs : List V) (i : ℕ) (x : X) → i < length xs → x ≡ get_or xs i x → f x ≡ None
    → before (map g vs) (all_of f (drop i xs)) ≡ all_of f xs → all_of f xs ≡ None
one_lacks f g xs vs i x l e h k =
    sym k
    ∙ ap (before (map g vs)) (next f xs i x l e)
    ∙ ap (λ o. before (map g vs) (joined o (all_of f (drop (i + 1) xs)))) h
