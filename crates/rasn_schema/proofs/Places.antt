-- The place of the alternative that goes by a tag.
use Rattle.std.proofs.Common.{◌≡◌, ◌∙◌, refl, sym, ap, ℕ, Bool, true, false, not, ◌&&◌, eqb, List, [], ◌∷◌, length, slice_get, slice_index_or, map, cond, Option, Some, ◌+◌, ◌<◌, zero, suc, arith}
use Rattle.std.specs.List.{position_from}
use Rattle.std.proofs.lemmas.Bool.{eq-eqb, eqb-true}
use Rattle.rasn_schema.specs.Lawful.{are_distinct, is_new, same_tag}
use Rattle.rasn_schema.specs.Schemas.{Tag}

by_head : {o q : Option ℕ} (b : Bool) (i : ℕ) → o ≡ q → cond b (Some i) o ≡ cond b (Some i) q
by_head true i e = refl
by_head false i e = e

-- the place in a list that is made of another one
pub position_from-map : {A B : Type 0} (p : B → Bool) (f : A → B) (i : ℕ) (xs : List A) → position_from p i (map f xs) ≡ position_from (λ x. p (f x)) i xs
position_from-map p f i [] = refl
position_from-map p f i (x ∷ xs) = by_head (p (f x)) i (position_from-map p f (i + 1) xs)

-- a list that is made of another one has an element where that has
pub slice_get-map : {A B : Type 0} (f : A → B) (xs : List A) (i : ℕ) (d : A) → i < length xs → slice_get (map f xs) i ≡ Some (f (slice_index_or xs i d))
slice_get-map f [] i d h = absurd (omega arith)
slice_get-map f (x ∷ xs) zero d h = refl
slice_get-map f (x ∷ xs) (suc i) d h = slice_get-map f xs i d (omega arith)

pub and_first : (x y : Bool) → (x && y) ≡ true → x ≡ true
and_first true y e = refl
and_first false y e = absurd cc

pub and_second : (x y : Bool) → (x && y) ≡ true → y ≡ true
and_second true y e = e
and_second false y e = absurd cc

pub not_false : (b : Bool) → not b ≡ true → b ≡ false
not_false false e = refl
not_false true e = absurd cc

-- a tag that isn't in a list is none of its tags
not_there : (us : List Tag) (i : ℕ) (u t : Tag) → is_new u us ≡ true → slice_get us i ≡ Some t → same_tag u t ≡ false
not_there [] i u t n e = absurd cc
not_there (v ∷ vs) zero u t n e = let d : v ≡ t = cc in ap (same_tag u) (sym d) ∙ not_false (same_tag u v) (and_first (not (same_tag u v)) (is_new u vs) n)
not_there (v ∷ vs) (suc i) u t n e = not_there vs i u t (and_second (not (same_tag u v)) (is_new u vs) n) e

-- two tags are the same in either order
same_back : (b : Bool) (t u : Tag) → same_tag t u ≡ b → same_tag u t ≡ false → same_tag t u ≡ false
same_back false t u e n = e
same_back true t u e n =
    let c = eqb-true t.class u.class (and_first (eqb t.class u.class) (eqb t.number u.number) e) in
    let m = eqb-true t.number u.number (and_second (eqb t.class u.class) (eqb t.number u.number) e) in
    let same : same_tag u t ≡ true = rw (eq-eqb u.class t.class (sym c), eq-eqb u.number t.number (sym m)) refl in
    absurd cc

-- of tags that differ, each is found at its own place
pub found_at : (ts : List Tag) (i j : ℕ) (t : Tag) → are_distinct ts ≡ true → slice_get ts i ≡ Some t → position_from (same_tag t) j ts ≡ Some (j + i)
found_at [] i j t d e = absurd cc
found_at (u ∷ us) zero j t d e =
    let s : u ≡ t = cc in
    rw (s, eq-eqb t.class t.class refl, eq-eqb t.number t.number refl) (ap Some (let n : j ≡ j + 0 = omega arith in n))
found_at (u ∷ us) (suc i) j t d e =
    let n = not_there us i u t (and_first (is_new u us) (are_distinct us) d) e in
    rw (same_back (same_tag t u) t u refl n) (found_at us i (j + 1) t (and_second (is_new u us) (are_distinct us) d) e ∙ ap Some (let m : j + 1 + i ≡ j + suc i = omega arith in m))
