-- A bag's elements in its one order, whatever order they came in.
use Rattle.std.proofs.Common.{◌≡◌, refl, sym, ap, ◌∙◌, ℕ, ◌<◌, Bool, true, false, cond, eqb, List, [], ◌∷◌, ◌++◌, map, arith, inl, inr, ◌⊎◌, lt-ltb, le-ltb, eq-eqb, ne_eqb, Option, Some, None, ◌||◌}
use Rattle.std.proofs.lemmas.Bool.{or_parts}
use Rattle.rasn_types.proofs.Codes.{code_same}
use Rattle.rasn_types.specs.AllOf.{all_of, joined}
use Rattle.rasn_types.specs.Values.{Value, before, put, sorted, code, bag, as_values, bag_of}
use Rattle.rasn_schema.specs.Depth.{any_of}

-- what `joined` was made of
pub joined_of : {A : Type 0} (o : Option A) (q : Option (List A)) (us : List A) → joined o q ≡ Some us → (u : A) × (us1 : List A) × (o ≡ Some u) × (q ≡ Some us1) × (us ≡ u ∷ us1)
joined_of None q us e = absurd (cc)
joined_of (Some u) None us e = absurd (cc)
joined_of (Some u) (Some us1) us e = (u, us1, refl, refl, cc)

-- the elements of a bag, as its value keeps them
unfoldable pub sort : List Value → List Value
sort vs = sorted (λ v w. before (code v) (code w)) vs

module _ {A : Type 0} (less : A → A → Bool) (asym : (x y : A) → less x y ≡ true → less y x ≡ false)
    (co : (x y z : A) → less z y ≡ true → less z x ≡ false → less x y ≡ true) (tie : (x y : A) → less x y ≡ false → less y x ≡ false → x ≡ y) where
  later : (x z : A) (l : List A) → less z x ≡ true → put less x (z ∷ l) ≡ z ∷ put less x l
  later x z l e = ap (λ c. cond c (z ∷ put less x l) (x ∷ z ∷ l)) e

  here : (x z : A) (l : List A) → less z x ≡ false → put less x (z ∷ l) ≡ x ∷ z ∷ l
  here x z l e = ap (λ c. cond c (z ∷ put less x l) (x ∷ z ∷ l)) e

  -- before a list where both are in front
  two : (x y : A) (l : List A) (a b : Bool) → less y x ≡ a → less x y ≡ b → cond a (y ∷ x ∷ l) (x ∷ y ∷ l) ≡ cond b (x ∷ y ∷ l) (y ∷ x ∷ l)
  two x y l true true e f = let h : less x y ≡ false = asym y x e in absurd (cc)
  two x y l true false e f = refl
  two x y l false true e f = refl
  two x y l false false e f = let h : x ≡ y = tie x y f e in cc

  pub put_comm : (x y : A) (l : List A) → put less x (put less y l) ≡ put less y (put less x l)
  put_comm x y [] = two x y [] (less y x) (less x y) refl refl
  put_comm x y (z ∷ l) = go (less z x) (less z y) refl refl (put_comm x y l)
    where
      go : (a b : Bool) → less z x ≡ a → less z y ≡ b → put less x (put less y l) ≡ put less y (put less x l) → put less x (put less y (z ∷ l)) ≡ put less y (put less x (z ∷ l))
      go true true e f ih = ap (put less x) (later y z l f) ∙ later x z (put less y l) e ∙ ap (λ k. z ∷ k) ih ∙ sym (later y z (put less x l) f) ∙ ap (put less y) (sym (later x z l e))
      go true false e f ih = ap (put less x) (here y z l f) ∙ later x y (z ∷ l) (co y x z e f) ∙ ap (λ k. y ∷ k) (later x z l e)
          ∙ sym (here y z (put less x l) f) ∙ ap (put less y) (sym (later x z l e))
      go false true e f ih = ap (put less x) (later y z l f) ∙ here x z (put less y l) e ∙ ap (λ k. x ∷ k) (sym (later y z l f))
          ∙ sym (later y x (z ∷ l) (co x y z f e)) ∙ ap (put less y) (sym (here x z l e))
      go false false e f ih = ap (put less x) (here y z l f)
          ∙ (ap (λ k. cond (less y x) (y ∷ k) (x ∷ y ∷ z ∷ l)) (here x z l e) ∙ two x y (z ∷ l) (less y x) (less x y) refl refl ∙ ap (λ k. cond (less x y) (x ∷ k) (y ∷ x ∷ z ∷ l)) (sym (here y z l f)))
          ∙ ap (put less y) (sym (here x z l e))

  -- the same elements, in the order of another list
  pub placed : {B : Type 0} (c : A → B) (other : B → B → Bool) (v : A) (ws : List A) → (us : List A) × (map c us ≡ put other (c v) (map c ws)) × (sorted less us ≡ put less v (sorted less ws))
  placed c other v [] = (v ∷ [], refl, refl)
  placed {B} c other v (w ∷ ws) = go (other (c w) (c v)) refl (placed c other v ws)
    where
      go : (t : Bool) → other (c w) (c v) ≡ t → ((us : List A) × (map c us ≡ put other (c v) (map c ws)) × (sorted less us ≡ put less v (sorted less ws))) →
          (us : List A) × (map c us ≡ put other (c v) (map c (w ∷ ws))) × (sorted less us ≡ put less v (sorted less (w ∷ ws)))
      go true e r = (w ∷ r.0, ap (λ k. c w ∷ k) r.1 ∙ sym (ap (λ t. cond t (c w ∷ put other (c v) (map c ws)) (c v ∷ c w ∷ map c ws)) e), ap (put less w) r.2 ∙ put_comm w v (sorted less ws))
      go false e r = (v ∷ w ∷ ws, sym (ap (λ t. cond t (c w ∷ put other (c v) (map c ws)) (c v ∷ c w ∷ map c ws)) e), refl)

  pub rearranged : {B : Type 0} (c : A → B) (other : B → B → Bool) (vs : List A) → (ws : List A) × (map c ws ≡ sorted other (map c vs)) × (sorted less ws ≡ sorted less vs)
  rearranged c other [] = ([], refl, refl)
  rearranged c other (v ∷ vs) = let r = rearranged c other vs in let q = placed c other v r.0 in
      (q.0, q.1 ∙ ap (put other (c v)) r.1, q.2 ∙ ap (put less v) r.2)

  -- the same of what each element becomes
  pub put_project : (f : A → Option A) (v w : A) (xs us : List A) → f v ≡ Some w → all_of f xs ≡ Some us → (us' : List A) × (all_of f (put less v xs) ≡ Some us') × (sorted less us' ≡ put less w (sorted less us))
  put_project f v w [] us e h = let u : [] ≡ us = cc in (w ∷ [], ap (λ o. joined o (Some [])) e, ap (λ l. put less w (sorted less l)) u)
  put_project f v w (x ∷ xs) us e h = let q = joined_of (f x) (all_of f xs) us h in go (less x v) refl q (put_project f v w xs q.1 e q.3)
    where
      go : (t : Bool) → less x v ≡ t → (q : (u : A) × (us1 : List A) × (f x ≡ Some u) × (all_of f xs ≡ Some us1) × (us ≡ u ∷ us1)) →
          ((us' : List A) × (all_of f (put less v xs) ≡ Some us') × (sorted less us' ≡ put less w (sorted less q.1))) →
          (us' : List A) × (all_of f (put less v (x ∷ xs)) ≡ Some us') × (sorted less us' ≡ put less w (sorted less us))
      go true t q r = (
        q.0 ∷ r.0,
        ap (λ l. all_of f l) (later v x xs t) ∙ ap (λ o. joined o (all_of f (put less v xs))) q.2 ∙ ap (λ o. joined (Some q.0) o) r.1,
        ap (put less q.0) r.2 ∙ put_comm q.0 w (sorted less q.1) ∙ ap (λ l. put less w (sorted less l)) (sym q.4),
      )
      go false t q r = (w ∷ us, ap (λ l. all_of f l) (here v x xs t) ∙ ap (λ o. joined o (all_of f (x ∷ xs))) e ∙ ap (λ o. joined (Some w) o) h, refl)

  pub sort_project : (f : A → Option A) (xs us : List A) → all_of f xs ≡ Some us → (us' : List A) × (all_of f (sorted less xs) ≡ Some us') × (sorted less us' ≡ sorted less us)
  sort_project f [] us h = let u : [] ≡ us = cc in ([], refl, ap (sorted less) u)
  sort_project f (x ∷ xs) us h =
      let q = joined_of (f x) (all_of f xs) us h in
      let r = sort_project f xs q.1 q.3 in
      let t = put_project f x q.0 (sorted less xs) r.0 q.2 r.1 in
      (t.0, t.1, t.2 ∙ ap (put less q.0) r.2 ∙ ap (sorted less) (sym q.4))

  -- what all of the sorted list becomes, all of the list becomes
  put_some : (f : A → Option A) (v : A) (xs us : List A) → all_of f (put less v xs) ≡ Some us → (w : A) × (us1 : List A) × (f v ≡ Some w) × (all_of f xs ≡ Some us1)
  put_some f v [] us e = let q = joined_of (f v) (Some []) us e in (q.0, [], q.2, refl)
  put_some f v (x ∷ xs) us e = go (less x v) refl (put_some f v xs)
    where
      go : (t : Bool) → less x v ≡ t → ((us : List A) → all_of f (put less v xs) ≡ Some us → (w : A) × (us1 : List A) × (f v ≡ Some w) × (all_of f xs ≡ Some us1)) →
          (w : A) × (us1 : List A) × (f v ≡ Some w) × (all_of f (x ∷ xs) ≡ Some us1)
      go true t ih =
          let q = joined_of (f x) (all_of f (put less v xs)) us (ap (all_of f) (sym (later v x xs t)) ∙ e) in
          let r = ih q.1 q.3 in
          (r.0, q.0 ∷ r.1, r.2, ap (λ o. joined o (all_of f xs)) q.2 ∙ ap (λ o. joined (Some q.0) o) r.3)
      go false t ih =
          let q = joined_of (f v) (all_of f (x ∷ xs)) us (ap (all_of f) (sym (here v x xs t)) ∙ e) in
          (q.0, q.1, q.2, q.3)

  pub sorted_some : (f : A → Option A) (xs us : List A) → all_of f (sorted less xs) ≡ Some us → (ws : List A) × (all_of f xs ≡ Some ws)
  sorted_some f [] us e = ([], refl)
  sorted_some f (x ∷ xs) us e =
      let q = put_some f x (sorted less xs) us e in
      let r = sorted_some f xs q.1 q.3 in
      (q.0 ∷ r.0, ap (λ o. joined o (all_of f xs)) q.2 ∙ ap (λ o. joined (Some q.0) o) r.1)

  -- what holds of no element of the sorted list holds of none
  any_put : (K : A → Bool) (v : A) (xs : List A) → any_of K (put less v xs) ≡ false → (K v ≡ false) × (any_of K xs ≡ false)
  any_put K v [] e = ((or_parts (K v) false e).0, refl)
  any_put K v (x ∷ xs) e = go (less x v) refl (any_put K v xs)
    where
      go : (t : Bool) → less x v ≡ t → (any_of K (put less v xs) ≡ false → (K v ≡ false) × (any_of K xs ≡ false)) → (K v ≡ false) × (any_of K (x ∷ xs) ≡ false)
      go true t ih = let h : (K x || any_of K (put less v xs)) ≡ false = sym (ap (any_of K) (later v x xs t)) ∙ e in
          let q = or_parts (K x) (any_of K (put less v xs)) h in
          let r = ih q.1 in
          (r.0, ap (λ c. c || any_of K xs) q.0 ∙ r.1)
      go false t ih = let h : (K v || any_of K (x ∷ xs)) ≡ false = sym (ap (any_of K) (here v x xs t)) ∙ e in
          or_parts (K v) (any_of K (x ∷ xs)) h

  pub any_sorted : (K : A → Bool) (xs : List A) → any_of K (sorted less xs) ≡ false → any_of K xs ≡ false
  any_sorted K [] e = refl
  any_sorted K (x ∷ xs) e = let r = any_put K x (sorted less xs) e in ap (λ c. c || any_of K xs) r.0 ∙ any_sorted K xs r.1

-- the dictionary's order
before_lt : (x y : ℕ) (xs ys : List ℕ) → x < y → before (x ∷ xs) (y ∷ ys) ≡ true
before_lt x y xs ys h = ap (λ c. cond c true (cond (eqb x y) (before xs ys) false)) (lt-ltb x y h)

before_eq : (x y : ℕ) (xs ys : List ℕ) → x ≡ y → before (x ∷ xs) (y ∷ ys) ≡ before xs ys
before_eq x y xs ys h = ap (λ c. cond c true (cond (eqb x y) (before xs ys) false)) (le-ltb x y (omega arith)) ∙ ap (λ c. cond c (before xs ys) false) (eq-eqb x y h)

before_gt : (x y : ℕ) (xs ys : List ℕ) → y < x → before (x ∷ xs) (y ∷ ys) ≡ false
before_gt x y xs ys h = ap (λ c. cond c true (cond (eqb x y) (before xs ys) false)) (le-ltb x y (omega arith)) ∙ ap (λ c. cond c (before xs ys) false) (ne_eqb x y (λ e. omega arith))

tri : (x y : ℕ) → (x < y) ⊎ ((x ≡ y) ⊎ (y < x))
tri x y = grind arith

before_asym : (xs ys : List ℕ) → before xs ys ≡ true → before ys xs ≡ false
before_asym [] [] e = refl
before_asym [] (y ∷ ys) e = refl
before_asym (x ∷ xs) [] e = absurd (cc)
before_asym (x ∷ xs) (y ∷ ys) e = go (tri x y) (before_asym xs ys)
  where
    go : (x < y) ⊎ ((x ≡ y) ⊎ (y < x)) → (before xs ys ≡ true → before ys xs ≡ false) → before (y ∷ ys) (x ∷ xs) ≡ false
    go (inl h) ih = before_gt y x ys xs h
    go (inr (inl h)) ih = before_eq y x ys xs (sym h) ∙ ih (sym (before_eq x y xs ys h) ∙ e)
    go (inr (inr h)) ih = let f = before_gt x y xs ys h in absurd (cc)

before_co : (xs ys zs : List ℕ) → before zs ys ≡ true → before zs xs ≡ false → before xs ys ≡ true
before_co [] [] [] e f = absurd (cc)
before_co [] (y ∷ ys) zs e f = refl
before_co [] [] (z ∷ zs) e f = absurd (cc)
before_co (x ∷ xs) ys [] e f = absurd (cc)
before_co (x ∷ xs) [] (z ∷ zs) e f = absurd (cc)
before_co (x ∷ xs) (y ∷ ys) (z ∷ zs) e f = go (tri z y) (tri z x) (before_co xs ys zs)
  where
    go : (z < y) ⊎ ((z ≡ y) ⊎ (y < z)) → (z < x) ⊎ ((z ≡ x) ⊎ (x < z)) → (before zs ys ≡ true → before zs xs ≡ false → before xs ys ≡ true) → before (x ∷ xs) (y ∷ ys) ≡ true
    go a (inl k) ih = let g = before_lt z x zs xs k in absurd (cc)
    go (inr (inr h)) b ih = let g = before_gt z y zs ys h in absurd (cc)
    go (inl h) (inr (inl k)) ih = before_lt x y xs ys (omega arith)
    go (inl h) (inr (inr k)) ih = before_lt x y xs ys (omega arith)
    go (inr (inl h)) (inr (inl k)) ih = before_eq x y xs ys (omega arith) ∙ ih (sym (before_eq z y zs ys h) ∙ e) (sym (before_eq z x zs xs k) ∙ f)
    go (inr (inl h)) (inr (inr k)) ih = before_lt x y xs ys (omega arith)

before_tie : (xs ys : List ℕ) → before xs ys ≡ false → before ys xs ≡ false → xs ≡ ys
before_tie [] [] e f = refl
before_tie [] (y ∷ ys) e f = absurd (cc)
before_tie (x ∷ xs) [] e f = absurd (cc)
before_tie (x ∷ xs) (y ∷ ys) e f = go (tri x y) (before_tie xs ys)
  where
    go : (x < y) ⊎ ((x ≡ y) ⊎ (y < x)) → (before xs ys ≡ false → before ys xs ≡ false → xs ≡ ys) → x ∷ xs ≡ y ∷ ys
    go (inl h) ih = let g = before_lt x y xs ys h in absurd (cc)
    go (inr (inr h)) ih = let g = before_lt y x ys xs h in absurd (cc)
    go (inr (inl h)) ih = let r : xs ≡ ys = ih (sym (before_eq x y xs ys h) ∙ e) (sym (before_eq y x ys xs (sym h)) ∙ f) in cc

code_tie : (v w : Value) → before (code v) (code w) ≡ false → before (code w) (code v) ≡ false → v ≡ w
code_tie v w e f = let h : code v ≡ code w = before_tie (code v) (code w) e f in (code_same v w [] [] (ap (λ z. z ++ []) h)).0

-- what is written of a bag is written of some list with that bag
pub bag_rearranged : {B : Type 0} (c : Value → B) (other : B → B → Bool) (vs : List Value) → (ws : List Value) × (map c ws ≡ sorted other (map c vs)) × (bag_of ws ≡ bag_of vs)
unfolding bag_of
bag_rearranged c other vs =
    let r = rearranged (λ v w. before (code v) (code w)) (λ x y. before_asym (code x) (code y)) (λ x y z. before_co (code x) (code y) (code z)) code_tie c other vs in
    (r.0, r.1, ap (λ l. bag (as_values l)) r.2)

-- a bag of which each element becomes another
pub bag_becomes : (f : Value → Option Value) (vs ws : List Value) → all_of f vs ≡ Some ws →
    (us : List Value) × (all_of f (sorted (λ v w. before (code v) (code w)) vs) ≡ Some us) × (bag_of us ≡ bag_of ws)
unfolding bag_of
bag_becomes f vs ws e =
    let r = sort_project (λ v w. before (code v) (code w)) (λ x y. before_asym (code x) (code y)) (λ x y z. before_co (code x) (code y) (code z)) code_tie f vs ws e in
    (r.0, r.1, ap (λ l. bag (as_values l)) r.2)

pub any_in_bag : (K : Value → Bool) (vs : List Value) → any_of K (sorted (λ v w. before (code v) (code w)) vs) ≡ false → any_of K vs ≡ false
any_in_bag K vs e = any_sorted (λ v w. before (code v) (code w)) (λ x y. before_asym (code x) (code y)) (λ x y z. before_co (code x) (code y) (code z)) code_tie K vs e

pub some_list : (us ws : List Value) → ◌≡◌ {A = Option (List Value)} (Some us) (Some ws) → us ≡ ws
some_list us ws e = cc

-- what a bag's sorted elements become, its elements become
pub bag_source : (f : Value → Option Value) (vs us : List Value) → all_of f (sorted (λ v w. before (code v) (code w)) vs) ≡ Some us →
    (ws : List Value) × (all_of f vs ≡ Some ws) × (bag_of us ≡ bag_of ws)
bag_source f vs us e =
    let r = sorted_some (λ v w. before (code v) (code w)) (λ x y. before_asym (code x) (code y)) (λ x y z. before_co (code x) (code y) (code z)) code_tie f vs us e in
    let q = bag_becomes f vs r.0 r.1 in
    (r.0, r.1, ap bag_of (some_list us q.0 (sym e ∙ q.1)) ∙ q.2)
