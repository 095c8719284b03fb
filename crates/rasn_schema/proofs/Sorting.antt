-- What a stable sort gives is the one ascending list in which what ties keeps its order.
use Rattle.std.proofs.Common.{◌≡◌, refl, sym, ap, subst, ◌∙◌, ℕ, suc, Bool, true, false, not, ◌&&◌, cond, List, [], ◌∷◌, map, arith, get_or, ◌+◌}
use Rattle.std.specs.Cmp.{IsStrictWeakOrder}
use Rattle.std.specs.List.{filter}
use Rattle.std.specs.List.Sorted.{IsSortedBy, IsStableBy, ties}
use Rattle.rasn_types.specs.Values.{put, sorted}

-- what passes a test, and what doesn't
filter_in : {X : Type 0} (test : X → Bool) (x : X) (xs : List X) → test x ≡ true → filter test (x ∷ xs) ≡ x ∷ filter test xs
filter_in test x xs e = ap (λ b. cond b (x ∷ filter test xs) (filter test xs)) e

filter_out : {X : Type 0} (test : X → Bool) (x : X) (xs : List X) → test x ≡ false → filter test (x ∷ xs) ≡ filter test xs
filter_out test x xs e = ap (λ b. cond b (x ∷ filter test xs) (filter test xs)) e

heads : {X : Type 0} (x y : X) (xs ys : List X) → x ∷ xs ≡ y ∷ ys → x ≡ y
heads x y xs ys e = cc

tails : {X : Type 0} (x y : X) (xs ys : List X) → x ∷ xs ≡ y ∷ ys → xs ≡ ys
tails x y xs ys e = cc

module _ {X : Type 0} (lt : X → X → Bool) (o : IsStrictWeakOrder lt) where
  -- none of these is less than y
  abbrev pub Low : X → List X → Type 0
  Low y [] = Unit {0}
  Low y (z ∷ zs) = (lt z y ≡ false) × Low y zs

  abbrev pub Up : List X → Type 0
  Up [] = Unit {0}
  Up (y ∷ ys) = Low y ys × Up ys

  irreflexive : (x : X) → lt x x ≡ false
  irreflexive x = go (lt x x) refl
    where
      go : (b : Bool) → lt x x ≡ b → lt x x ≡ false
      go true e = o.one_way x x e
      go false e = e

  tie : (x y : X) → lt x y ≡ false → lt y x ≡ false → ties lt x y ≡ true
  tie x y e f = ap (λ b. not b && not (lt y x)) e ∙ ap not f

  tie_of : (x y : X) → ties lt x y ≡ true → (lt x y ≡ false) × (lt y x ≡ false)
  tie_of x y = go (lt x y) (lt y x)
    where
      go : (a b : Bool) → (not a && not b) ≡ true → (a ≡ false) × (b ≡ false)
      go false false e = (refl, refl)
      go false true e = absurd cc
      go true b e = absurd cc

  tie_self : (x : X) → ties lt x x ≡ true
  tie_self x = tie x x (irreflexive x) (irreflexive x)

  no_tie : (x y : X) → lt x y ≡ true → ties lt x y ≡ false
  no_tie x y e = ap (λ b. not b && not (lt y x)) e

  no_tie_back : (x y : X) → lt y x ≡ true → ties lt x y ≡ false
  no_tie_back x y e = ap (λ b. not b && not (lt y x)) (o.one_way y x e) ∙ ap not e

  -- what a filter of these begins with isn't less
  in_filter : (test : X → Bool) (y z : X) (zs l : List X) → Low z zs → filter test zs ≡ y ∷ l → lt y z ≡ false
  in_filter test y z [] l u e = absurd cc
  in_filter test y z (w ∷ ws) l u e = go (test w) refl (in_filter test y z ws l u.1)
    where
      go : (b : Bool) → test w ≡ b → (filter test ws ≡ y ∷ l → lt y z ≡ false) → lt y z ≡ false
      go true f ih = let h : w ≡ y = heads w y (filter test ws) l (sym (filter_in test w ws f) ∙ e) in subst (λ v. lt v z ≡ false) h u.0
      go false f ih = ih (sym (filter_out test w ws f) ∙ e)

  -- the rests agree where the firsts do
  rests : (x y z : X) (ys zs : List X) → y ≡ z → filter (ties lt x) (y ∷ ys) ≡ filter (ties lt x) (z ∷ zs) → filter (ties lt x) ys ≡ filter (ties lt x) zs
  rests x y z ys zs h e = go (ties lt x y) refl
    where
      go : (b : Bool) → ties lt x y ≡ b → filter (ties lt x) ys ≡ filter (ties lt x) zs
      go true f = tails y z (filter (ties lt x) ys) (filter (ties lt x) zs) (sym (filter_in (ties lt x) y ys f) ∙ e ∙ filter_in (ties lt x) z zs (ap (ties lt x) (sym h) ∙ f))
      go false f = sym (filter_out (ties lt x) y ys f) ∙ e ∙ filter_out (ties lt x) z zs (ap (ties lt x) (sym h) ∙ f)

  absurd_less : (x y : X) → lt x y ≡ true → lt x y ≡ false → ⊥
  absurd_less x y e f = let h : true ≡ false = sym e ∙ f in absurd cc

  -- there is one ascending list with the same rows of what ties
  unique : (ys zs : List X) → Up ys → Up zs → ((x : X) → filter (ties lt x) ys ≡ filter (ties lt x) zs) → ys ≡ zs
  unique [] [] u w f = refl
  unique [] (z ∷ zs) u w f = let h : [] ≡ z ∷ filter (ties lt z) zs = f z ∙ filter_in (ties lt z) z zs (tie_self z) in absurd cc
  unique (y ∷ ys) [] u w f = let h : y ∷ filter (ties lt y) ys ≡ [] = sym (filter_in (ties lt y) y ys (tie_self y)) ∙ f y in absurd cc
  unique (y ∷ ys) (z ∷ zs) u w f = go (lt y z) (lt z y) refl refl (unique ys zs u.1 w.1)
    where
      go : (a b : Bool) → lt y z ≡ a → lt z y ≡ b → (((x : X) → filter (ties lt x) ys ≡ filter (ties lt x) zs) → ys ≡ zs) → y ∷ ys ≡ z ∷ zs
      go true b e g ih =
          let h : filter (ties lt y) zs ≡ y ∷ filter (ties lt y) ys = sym (filter_out (ties lt y) z zs (no_tie y z e)) ∙ sym (f y) ∙ filter_in (ties lt y) y ys (tie_self y) in
          absurd (absurd_less y z e (in_filter (ties lt y) y z zs (filter (ties lt y) ys) w.0 h))
      go false true e g ih =
          let h : filter (ties lt z) ys ≡ z ∷ filter (ties lt z) zs = sym (filter_out (ties lt z) y ys (no_tie z y g)) ∙ f z ∙ filter_in (ties lt z) z zs (tie_self z) in
          absurd (absurd_less z y g (in_filter (ties lt z) z y ys (filter (ties lt z) zs) u.0 h))
      go false false e g ih =
          let h : y ≡ z = heads y z (filter (ties lt y) ys) (filter (ties lt y) zs)
          (sym (filter_in (ties lt y) y ys (tie_self y)) ∙ f y ∙ filter_in (ties lt y) z zs (tie y z e g)) in
          let r : ys ≡ zs = ih (λ x. rests x y z ys zs h (f x)) in
          ap (λ v. v ∷ ys) h ∙ ap (λ l. z ∷ l) r

  pub low_below : (x w : X) (ws : List X) → lt w x ≡ false → Low w ws → Low x ws
  low_below x w [] e u = tt
  low_below x w (z ∷ zs) e u = (o.chain z w x u.0 e, low_below x w zs e u.1)

  low_put : (y x : X) (l : List X) → lt x y ≡ false → Low y l → Low y (put lt x l)
  low_put y x [] e u = (e, tt)
  low_put y x (w ∷ ws) e u = go (lt w x) (low_put y x ws e u.1)
    where
      go : (b : Bool) → Low y (put lt x ws) → Low y (cond b (w ∷ put lt x ws) (x ∷ w ∷ ws))
      go true ih = (u.0, ih)
      go false ih = (e, u)

  up_put : (x : X) (l : List X) → Up l → Up (put lt x l)
  up_put x [] u = (tt, tt)
  up_put x (w ∷ ws) u = go (lt w x) refl (up_put x ws u.1)
    where
      go : (b : Bool) → lt w x ≡ b → Up (put lt x ws) → Up (cond b (w ∷ put lt x ws) (x ∷ w ∷ ws))
      go true e ih = (low_put w x ws (o.one_way w x e) u.0, ih)
      go false e ih = ((e, low_below x w ws e u.0), u)

  pub up_sorted : (xs : List X) → Up (sorted lt xs)
  up_sorted [] = tt
  up_sorted (x ∷ xs) = up_put x (sorted lt xs) (up_sorted xs)

  -- what ties keeps its order
  filter_put : (x a : X) (l : List X) → filter (ties lt x) (put lt a l) ≡ filter (ties lt x) (a ∷ l)
  filter_put x a [] = refl
  filter_put x a (y ∷ ys) = go (lt y a) refl (filter_put x a ys)
    where
      swap : (p q : Bool) (F G : List X) → (p ≡ true → q ≡ true → ⊥) → F ≡ cond q (a ∷ G) G → cond p (y ∷ F) F ≡ cond q (a ∷ cond p (y ∷ G) G) (cond p (y ∷ G) G)
      swap true true F G n e = absurd (n refl refl)
      swap true false F G n e = ap (λ l. y ∷ l) e
      swap false true F G n e = e
      swap false false F G n e = e

      not_both : lt y a ≡ true → ties lt x y ≡ true → ties lt x a ≡ true → ⊥
      not_both e p q = absurd_less y a e (o.chain y x a (tie_of x y p).1 (tie_of x a q).0)

      go : (b : Bool) → lt y a ≡ b → filter (ties lt x) (put lt a ys) ≡ filter (ties lt x) (a ∷ ys) → filter (ties lt x) (cond b (y ∷ put lt a ys) (a ∷ y ∷ ys)) ≡ filter (ties lt x) (a ∷ y ∷ ys)
      go true e ih = swap (ties lt x y) (ties lt x a) (filter (ties lt x) (put lt a ys)) (filter (ties lt x) ys) (not_both e) ih
      go false e ih = refl

  filter_sorted : (x : X) (xs : List X) → filter (ties lt x) (sorted lt xs) ≡ filter (ties lt x) xs
  filter_sorted x [] = refl
  filter_sorted x (a ∷ xs) = filter_put x a (sorted lt xs) ∙ ap (λ l. cond (ties lt x a) (a ∷ l) l) (filter_sorted x xs)

  -- from the words of the sort
  up_from : (xs : List X) → IsSortedBy lt xs → Up xs
  up_from [] h = tt
  up_from (x ∷ []) h = (tt, tt)
  up_from (x ∷ y ∷ ys) h =
      let r = up_from (y ∷ ys) (λ k d l b. behind k d (h (k + 1) d (omega arith) (omega (arith, b)))) in
      let e : lt y x ≡ false = h 0 x (omega arith) (omega arith) in
      ((e, low_below x y ys e r.0), r)
    where
      one_more : (k : ℕ) → k + 1 + 1 ≡ suc (k + 1)
      one_more k = omega arith

      one : (k : ℕ) → k + 1 ≡ suc k
      one k = omega arith

      behind : (k : ℕ) (d : X) → lt (get_or (x ∷ y ∷ ys) (k + 1 + 1) d) (get_or (x ∷ y ∷ ys) (k + 1) d) ≡ false
          → lt (get_or (y ∷ ys) (k + 1) d) (get_or (y ∷ ys) k d) ≡ false
      behind k d e =
          sym (ap (λ n. lt (get_or (x ∷ y ∷ ys) n d) (get_or (x ∷ y ∷ ys) (suc k) d)) (one_more k))
          ∙ sym (ap (λ n. lt (get_or (x ∷ y ∷ ys) (k + 1 + 1) d) (get_or (x ∷ y ∷ ys) n d)) (one k)) ∙ e

  pub stable_is_sorted : (xs ys : List X) → IsSortedBy lt ys → IsStableBy lt xs ys → ys ≡ sorted lt xs
  stable_is_sorted xs ys s t = unique ys (sorted lt xs) (up_from ys s) (up_sorted xs) (λ x. t x ∙ sym (filter_sorted x xs))

-- what a sorted list is mapped to, by a function that keeps the order
module _ {X Y : Type 0} (f : X → Y) (less : X → X → Bool) (other : Y → Y → Bool) (same : (x y : X) → other (f x) (f y) ≡ less x y) where
  map_put : (x : X) (l : List X) → map f (put less x l) ≡ put other (f x) (map f l)
  map_put x [] = refl
  map_put x (y ∷ ys) = go (less y x) (other (f y) (f x)) (same y x) (map_put x ys)
    where
      go : (a b : Bool) → b ≡ a → map f (put less x ys) ≡ put other (f x) (map f ys) → map f (cond a (y ∷ put less x ys) (x ∷ y ∷ ys)) ≡ cond b (f y ∷ put other (f x) (map f ys)) (f x ∷ f y ∷ map f ys)
      go true true e ih = ap (λ l. f y ∷ l) ih
      go false false e ih = refl
      go true false e ih = absurd cc
      go false true e ih = absurd cc

  pub map_sorted : (xs : List X) → map f (sorted less xs) ≡ sorted other (map f xs)
  map_sorted [] = refl
  map_sorted (x ∷ xs) = map_put x (sorted less xs) ∙ ap (put other (f x)) (map_sorted xs)
