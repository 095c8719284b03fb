-- The members of a SET OF stand in one order, whatever order they came in (ITU-T X.691, 22).
use Rattle.std.proofs.Common.{◌≡◌, refl, sym, ap, ◌∙◌, ℕ, ◌<◌, Less, Equal, Greater, Bool, true, false, cond, eqb, List, [], ◌∷◌, map, arith, inl, inr, ◌⊎◌, lt-ltb, le-ltb, eq-eqb, Option, Some, None, nat_lt, ◌==◌, is_some}
use Rattle.std.specs.Cmp.{IsStrictWeakOrder, nat_cmp_total}
use Rattle.std.specs.Cmp.Lexicographic.{lists_total, slice_cmp}
use Rattle.std.specs.Ordering.{is_lt, nat_cmp, ordering_then}
use Rattle.std.proofs.lemmas.List.Sorted.{ranks_by}
use Rattle.rasn_types.specs.Values.{Value, as_values, bag_of, before, code, equal_lists, put, same, sorted, values}
use Rattle.rasn_types.specs.Variants.{Variant}
use Rattle.rasn_types.proofs.Values.{values-as_values}
use Rattle.rasn_constraints.specs.Bounds.{Size}
use Rattle.rasn_schema.specs.Schemas.{Schema}
use Rattle.per_core.specs.Canon.{ascending, bytes, canon, completed, octet_key}
use Rattle.per_core.specs.Counts.{counted, list_items}
use Rattle.rasn_types.specs.AllOf.{all_of, joined}
use Rattle.per_core.specs.Writers.{Writer, written_if}
use Rattle.rasn_schema.proofs.Bags.{bag_becomes, some_list, sort}
use Rattle.per_core.proofs.Laws.{same_bytes}
use Rattle.per_enc.specs.Writable.{AreWritten}
use Rattle.rasn_schema.proofs.Sorting.{map_sorted}

-- the order of a dictionary is that of lists of numbers
pub before_is : (xs ys : List ℕ) → before xs ys ≡ is_lt (slice_cmp nat_cmp xs ys)
before_is [] [] = refl
before_is [] (y ∷ ys) = refl
before_is (x ∷ xs) [] = refl
before_is (x ∷ xs) (y ∷ ys) = go (nat_lt x y) (x == y) (before_is xs ys)
  where
    go : (a b : Bool) → before xs ys ≡ is_lt (slice_cmp nat_cmp xs ys) →
        cond a true (cond b (before xs ys) false) ≡ is_lt (ordering_then (cond a Less (cond b Equal Greater)) (slice_cmp nat_cmp xs ys))
    go true b e = refl
    go false true e = e
    go false false e = refl

pub weak : {A : Type 0} (key : A → List ℕ) → IsStrictWeakOrder (λ x y. before (key x) (key y))
weak {A} key =
    let o : IsStrictWeakOrder (λ (x y : A). is_lt (slice_cmp nat_cmp (key x) (key y))) = ranks_by (lists_total nat_cmp_total) key in
    record {
      one_way = λ x y e. before_is (key y) (key x) ∙ o.one_way x y (sym (before_is (key x) (key y)) ∙ e);
      chain = λ x y z e f. before_is (key x) (key z) ∙ o.chain x y z (sym (before_is (key x) (key y)) ∙ e) (sym (before_is (key y) (key z)) ∙ f);
    }

-- what ties in a dictionary is one
before_lt : (x y : ℕ) (xs ys : List ℕ) → x < y → before (x ∷ xs) (y ∷ ys) ≡ true
before_lt x y xs ys h = ap (λ c. cond c true (cond (eqb x y) (before xs ys) false)) (lt-ltb x y h)

before_eq : (x y : ℕ) (xs ys : List ℕ) → x ≡ y → before (x ∷ xs) (y ∷ ys) ≡ before xs ys
before_eq x y xs ys h = ap (λ c. cond c true (cond (eqb x y) (before xs ys) false)) (le-ltb x y (omega arith)) ∙ ap (λ c. cond c (before xs ys) false) (eq-eqb x y h)

tri : (x y : ℕ) → (x < y) ⊎ ((x ≡ y) ⊎ (y < x))
tri x y = grind arith

before_tie : (xs ys : List ℕ) → before xs ys ≡ false → before ys xs ≡ false → xs ≡ ys
before_tie [] [] e f = refl
before_tie [] (y ∷ ys) e f = absurd (cc)
before_tie (x ∷ xs) [] e f = absurd (cc)
before_tie (x ∷ xs) (y ∷ ys) e f = go (tri x y) (before_tie xs ys)
  where
    go : (x < y) ⊎ ((x ≡ y) ⊎ (y < x)) → (before xs ys ≡ false → before ys xs ≡ false → xs ≡ ys) → x ∷ xs ≡ y ∷ ys
    go (inl h) ih = let g = before_lt x y xs ys h in absurd (cc)
    go (inr (inr h)) ih = let g = before_lt y x ys xs h in absurd (cc)
    go (inr (inl h)) ih = let r : xs ≡ ys = ih (sym (before_eq x y xs ys h) ∙ e) (sym (before_eq y x ys xs (sym h)) ∙ f) in cc

-- two put one after the other stand in one order, where they are one if they tie
module _ {A : Type 0} (less : A → A → Bool) (o : IsStrictWeakOrder less) where
  co : (x y z : A) → less z y ≡ true → less z x ≡ false → less x y ≡ true
  co x y z e f = go (less x y) refl
    where
      go : (b : Bool) → less x y ≡ b → less x y ≡ true
      go true g = g
      go false g = let h : less z y ≡ false = o.chain z x y f g in absurd cc

  later : (x z : A) (l : List A) → less z x ≡ true → put less x (z ∷ l) ≡ z ∷ put less x l
  later x z l e = ap (λ c. cond c (z ∷ put less x l) (x ∷ z ∷ l)) e

  here : (x z : A) (l : List A) → less z x ≡ false → put less x (z ∷ l) ≡ x ∷ z ∷ l
  here x z l e = ap (λ c. cond c (z ∷ put less x l) (x ∷ z ∷ l)) e

  module _ (x y : A) (tie : less x y ≡ false → less y x ≡ false → x ≡ y) where
    two : (l : List A) (a b : Bool) → less y x ≡ a → less x y ≡ b → cond a (y ∷ x ∷ l) (x ∷ y ∷ l) ≡ cond b (x ∷ y ∷ l) (y ∷ x ∷ l)
    two l true true e f = let h : less x y ≡ false = o.one_way y x e in absurd (cc)
    two l true false e f = refl
    two l false true e f = refl
    two l false false e f = let h : x ≡ y = tie f e in cc

    pub put_comm : (l : List A) → put less x (put less y l) ≡ put less y (put less x l)
    put_comm [] = two [] (less y x) (less x y) refl refl
    put_comm (z ∷ l) = go (less z x) (less z y) refl refl (put_comm l)
      where
        go : (a b : Bool) → less z x ≡ a → less z y ≡ b → put less x (put less y l) ≡ put less y (put less x l) → put less x (put less y (z ∷ l)) ≡ put less y (put less x (z ∷ l))
        go true true e f ih = ap (put less x) (later y z l f) ∙ later x z (put less y l) e ∙ ap (λ k. z ∷ k) ih ∙ sym (later y z (put less x l) f) ∙ ap (put less y) (sym (later x z l e))
        go true false e f ih = ap (put less x) (here y z l f) ∙ later x y (z ∷ l) (co y x z e f) ∙ ap (λ k. y ∷ k) (later x z l e)
            ∙ sym (here y z (put less x l) f) ∙ ap (put less y) (sym (later x z l e))
        go false true e f ih = ap (put less x) (later y z l f) ∙ here x z (put less y l) e ∙ ap (λ k. x ∷ k) (sym (later y z l f))
            ∙ sym (later y x (z ∷ l) (co x y z f e)) ∙ ap (put less y) (sym (here x z l e))
        go false false e f ih = ap (put less x) (here y z l f)
            ∙ (ap (λ k. cond (less y x) (y ∷ k) (x ∷ y ∷ z ∷ l)) (here x z l e) ∙ two (z ∷ l) (less y x) (less x y) refl refl ∙ ap (λ k. cond (less x y) (x ∷ k) (y ∷ x ∷ z ∷ l)) (sym (here y z l f)))
            ∙ ap (put less y) (sym (here x z l e))

-- in what order values come doesn't count, where values that tie are one
module _ (by : Value → Value → Bool) (writes : Value → Writer) (less : Value → Value → Bool) (o : IsStrictWeakOrder less)
    (tie : (v w : Value) → is_some (writes v 0) ≡ true → is_some (writes w 0) ≡ true → less v w ≡ false → less w v ≡ false → v ≡ w) where
  written_put : (v : Value) (l : List Value) → is_some (writes v 0) ≡ true → AreWritten writes l → AreWritten writes (put by v l)
  written_put v [] h k = (h, tt)
  written_put v (w ∷ ws) h k = go (by w v) (written_put v ws h k.1)
    where
      go : (b : Bool) → AreWritten writes (put by v ws) → AreWritten writes (cond b (w ∷ put by v ws) (v ∷ w ∷ ws))
      go true ih = (k.0, ih)
      go false ih = (h, k)

  written_sorted : (vs : List Value) → AreWritten writes vs → AreWritten writes (sorted by vs)
  written_sorted [] k = tt
  written_sorted (v ∷ vs) k = written_put v (sorted by vs) k.0 (written_sorted vs k.1)

  sorted_put : (v : Value) (l : List Value) → is_some (writes v 0) ≡ true → AreWritten writes l → sorted less (put by v l) ≡ put less v (sorted less l)
  sorted_put v [] h k = refl
  sorted_put v (w ∷ ws) h k = go (by w v) (sorted_put v ws h k.1)
    where
      go : (b : Bool) → sorted less (put by v ws) ≡ put less v (sorted less ws) → sorted less (cond b (w ∷ put by v ws) (v ∷ w ∷ ws)) ≡ put less v (put less w (sorted less ws))
      go true ih = ap (put less w) ih ∙ put_comm less o w v (tie w v k.0 h) (sorted less ws)
      go false ih = refl

  pub sorted_sorted : (vs : List Value) → AreWritten writes vs → sorted less (sorted by vs) ≡ sorted less vs
  sorted_sorted [] k = refl
  sorted_sorted (v ∷ vs) k = sorted_put v (sorted by vs) k.0 (written_sorted vs k.1) ∙ ap (put less v) (sorted_sorted vs k.1)

completed_key : (o : Option (List Bool)) → is_some o ≡ true → completed o ≡ Some (octet_key o)
completed_key None e = absurd cc
completed_key (Some bs) e = refl

-- values that are written and tie are one (X.691 11.1)
tie_values : (a : Variant) (e : Schema) (v w : Value) → is_some (canon a e v 0) ≡ true → is_some (canon a e w 0) ≡ true
    → before (octet_key (canon a e v 0)) (octet_key (canon a e w 0)) ≡ false → before (octet_key (canon a e w 0)) (octet_key (canon a e v 0)) ≡ false → v ≡ w
unfolding bytes
tie_values a e v w h k f g =
    let same_key = before_tie (octet_key (canon a e v 0)) (octet_key (canon a e w 0)) f g in
    same_bytes a e v w (octet_key (canon a e w 0)) (completed_key (canon a e v 0) h ∙ ap Some same_key) (completed_key (canon a e w 0) k)

-- the writers of a bag's members, in order, are those of its members as they came
pub ascending_sort : (a : Variant) (e : Schema) (vs : List Value) → AreWritten (canon a e) vs → ascending (map (canon a e) (sort vs)) ≡ ascending (map (canon a e) vs)
unfolding sort
ascending_sort a e vs k =
    let less = λ (v w : Value). before (octet_key (canon a e v 0)) (octet_key (canon a e w 0)) in
    let other = λ (f g : Writer). before (octet_key (f 0)) (octet_key (g 0)) in
    sym (map_sorted (canon a e) less other (λ x y. refl) (sort vs))
    ∙ ap (map (canon a e)) (sorted_sorted (λ v w. before (code v) (code w)) (canon a e) less (weak (λ v. octet_key (canon a e v 0))) (tie_values a e) vs k)
    ∙ map_sorted (canon a e) less other (λ x y. refl) vs

-- a bag of a bag's elements is that bag
all_same : (vs : List Value) → all_of (λ v. Some v) vs ≡ Some vs
all_same [] = refl
all_same (v ∷ vs) = ap (joined (Some v)) (all_same vs)

bag_sort : (vs : List Value) → bag_of (sort vs) ≡ bag_of vs
unfolding sort
bag_sort vs =
    let q = bag_becomes (λ v. Some v) vs vs (all_same vs) in
    ap bag_of (some_list (sort vs) q.0 (sym (all_same (sort vs)) ∙ q.1)) ∙ q.2

equal_self : (xs : List ℕ) → equal_lists xs xs ≡ true
equal_self [] = refl
equal_self (x ∷ xs) = ap (λ c. cond c (equal_lists xs xs) false) (eq-eqb x x refl) ∙ equal_self xs

same_self : (v w : Value) → v ≡ w → same v w ≡ true
unfolding same
same_self v w e = ap (λ z. equal_lists (code z) (code w)) e ∙ equal_self (code w)

-- X.691 22: the members of a bag are written in ascending order, whatever order they came in
pub bag_canon : (a : Variant) (e : Schema) (size : Size) (mark : Bool) (vs : List Value) → AreWritten (canon a e) vs
    → canon a (Schema.set_of e size mark) (bag_of vs) ≡ counted a size mark list_items (ascending (map (canon a e) vs))
unfolding canon bag_of sort
bag_canon a e size mark vs k =
    let there : values (as_values (sort vs)) ≡ sort vs = values-as_values (sort vs) in
    let test : same (bag_of (values (as_values (sort vs)))) (bag_of vs) ≡ true = same_self _ _ (ap bag_of there ∙ bag_sort vs) in
    ap (λ b. written_if b (counted a size mark list_items (ascending (map (canon a e) (values (as_values (sort vs))))))) test
    ∙ ap (λ l. counted a size mark list_items (ascending (map (canon a e) l))) there
    ∙ ap (counted a size mark list_items) (ascending_sort a e vs k)
