-- Where a name is found among names that differ.
use Rattle.std.proofs.Common.{◌≡◌, ◌≢◌, refl, sym, ap, ◌∙◌, subst, ℕ, zero, suc, ◌+◌, ◌<◌, ◌≤◌, Bool, true, false, cond, not, ◌&&◌, ◌||◌, ltb, lt-ltb, ltb-true, ltb-false, List, [], ◌∷◌, ◌++◌, map, length, Option, Some, None, option_map, arith}
use Rattle.std.specs.Prelude.{slice_get}
use Rattle.std.specs.List.{AllPairs, list_any, position, prefix_len, slice_index_or}
use Rattle.std.specs.Str.{bytes_eq}
use Rattle.std.proofs.lemmas.Bool.{and_from, and_parts, le-ltb}
use Rattle.std.proofs.lemmas.List.Folds.{list_any-append}
use Rattle.std.proofs.lemmas.Slice.Eq.{bytes_eq-Decides}
use Rattle.json.specs.Strict.{AreDistinct}
use Rattle.rasn_dynamic_jer.specs.DistinctNames.{differ, is_among}

pub same_name : (a b : List ℕ) → bytes_eq a b ≡ true → a ≡ b
same_name a b e = (bytes_eq-Decides a b).0 e

pub own_name : (a : List ℕ) → bytes_eq a a ≡ true
own_name a = (bytes_eq-Decides a a).1 refl

pub or_none : (a b : Bool) → (a || b) ≡ false → (a ≡ false) × (b ≡ false)
or_none true b e = absurd cc
or_none false b e = (refl, e)

pub or_right : (a b : Bool) → b ≡ true → (a || b) ≡ true
or_right true b e = refl
or_right false b e = e

pub or_left : (a b : Bool) → a ≡ true → (a || b) ≡ true
or_left a b e = ap (λ c. c || b) e

pub not_true : (b : Bool) → not b ≡ true → b ≡ false
not_true true e = absurd cc
not_true false e = refl

-- a name that is among some, and one that isn't
pub among_append : (ns ms : List (List ℕ)) (n : List ℕ) → is_among (ns ++ ms) n ≡ (is_among ns n || is_among ms n)
among_append ns ms n = list_any-append (λ m. bytes_eq m n) ns ms

-- names that differ, in two parts
pub differ_parts : (n : List ℕ) (ns : List (List ℕ)) → differ (n ∷ ns) ≡ true → (is_among ns n ≡ false) × (differ ns ≡ true)
differ_parts n ns e = let p = and_parts (not (is_among ns n)) (differ ns) e in (not_true (is_among ns n) p.0, p.1)

pub differ_left : (ns ms : List (List ℕ)) → differ (ns ++ ms) ≡ true → differ ns ≡ true
differ_left [] ms e = refl
differ_left (n ∷ ns) ms e =
    let p = differ_parts n (ns ++ ms) e in
    let q = or_none (is_among ns n) (is_among ms n) (sym (among_append ns ms n) ∙ p.0) in
    and_from (not (is_among ns n)) (differ ns) (ap not q.0) (differ_left ns ms p.1)

pub differ_right : (ns ms : List (List ℕ)) → differ (ns ++ ms) ≡ true → differ ms ≡ true
differ_right [] ms e = e
differ_right (n ∷ ns) ms e = differ_right ns ms (differ_parts n (ns ++ ms) e).1

pub differ_apart : (ns ms : List (List ℕ)) (m : List ℕ) → differ (ns ++ ms) ≡ true → is_among ms m ≡ true → is_among ns m ≡ false
differ_apart [] ms m e h = refl
differ_apart (n ∷ ns) ms m e h = go (bytes_eq n m) refl (differ_apart ns ms m p.1 h)
  where
    p : (is_among (ns ++ ms) n ≡ false) × (differ (ns ++ ms) ≡ true)
    p = differ_parts n (ns ++ ms) e

    go : (b : Bool) → bytes_eq n m ≡ b → is_among ns m ≡ false → is_among (n ∷ ns) m ≡ false
    go true f k =
        let q = or_none (is_among ns n) (is_among ms n) (sym (among_append ns ms n) ∙ p.0) in
        let l : true ≡ false = sym h ∙ ap (is_among ms) (sym (same_name n m f)) ∙ q.1 in
        absurd cc
    go false f k = ap (λ b. b || is_among ns m) f ∙ k

-- and from two parts
pub differ_both : (ns ms : List (List ℕ)) → differ ns ≡ true → differ ms ≡ true → ((n : List ℕ) → is_among ns n ≡ true → is_among ms n ≡ false) → differ (ns ++ ms) ≡ true
differ_both [] ms e f h = f
differ_both (n ∷ ns) ms e f h =
    let p = differ_parts n ns e in
    let here : is_among (n ∷ ns) n ≡ true = or_left (bytes_eq n n) (is_among ns n) (own_name n) in
    let none : is_among (ns ++ ms) n ≡ false = among_append ns ms n ∙ ap (λ b. b || is_among ms n) p.0 ∙ h n here in
    and_from (not (is_among (ns ++ ms) n)) (differ (ns ++ ms)) (ap not none) (differ_both ns ms p.1 f (λ m i. h m (or_right (bytes_eq n m) (is_among ns m) i)))

-- they are distinct
none_at : (ns : List (List ℕ)) (n : List ℕ) (k : ℕ) (d : List ℕ) → is_among ns n ≡ false → k < length ns → n ≢ slice_index_or ns k d
none_at [] n k d e l = absurd (omega (arith, l))
none_at (m ∷ ns) n zero d e l = λ f. let q = or_none (bytes_eq m n) (is_among ns n) e in let k : true ≡ false = sym (own_name n) ∙ ap (λ x. bytes_eq x n) f ∙ q.0 in absurd cc
none_at (m ∷ ns) n (suc k) d e l = none_at ns n k d (or_none (bytes_eq m n) (is_among ns n) e).1 (omega (arith, l))

pub differ_distinct : (ns : List (List ℕ)) → differ ns ≡ true → AreDistinct ns
differ_distinct [] e i j d l k = absurd (omega (arith, k))
differ_distinct (n ∷ ns) e i zero d l k = absurd (omega (arith, l))
differ_distinct (n ∷ ns) e zero (suc j) d l k = none_at ns n j d (differ_parts n ns e).0 (omega (arith, k))
differ_distinct (n ∷ ns) e (suc i) (suc j) d l k = differ_distinct ns (differ_parts n ns e).1 i j d (omega (arith, l)) (omega (arith, k))

-- ---- the first of some things that has a name

module _ {X : Type 0} (name : X → List ℕ) where
  abbrev called : List ℕ → X → Bool
  called n x = bytes_eq (name x) n

  abbrev first_from : List ℕ → List X → Bool → Option ℕ
  first_from n xs b =
      let k = cond (not b) (1 + prefix_len (λ x. not (called n x)) xs) 0 in
      cond (ltb k (suc (length xs))) (Some k) None

  found_here : (n : List ℕ) (x : X) (xs : List X) → called n x ≡ true → position (called n) (x ∷ xs) ≡ Some 0
  found_here n x xs e = ap (first_from n xs) e ∙ ap (λ (b : Bool). cond b (Some 0) None) (lt-ltb 0 (suc (length xs)) (omega arith))

  found_later : (n : List ℕ) (x : X) (xs : List X) → called n x ≡ false → position (called n) (x ∷ xs) ≡ option_map suc (position (called n) xs)
  found_later n x xs e = ap (first_from n xs) e ∙ go (ltb k l) refl
    where
      k : ℕ
      k = prefix_len (λ x. not (called n x)) xs

      l : ℕ
      l = length xs

      go : (b : Bool) → ltb k l ≡ b → cond (ltb (1 + k) (suc l)) (Some (1 + k)) None ≡ option_map suc (cond (ltb k l) (Some k) None)
      go true h =
          let i = ltb-true k l h in
          ap (λ (b : Bool). cond b (Some (1 + k)) None) (lt-ltb (1 + k) (suc l) (omega (arith, i)))
          ∙ ap (λ (m : ℕ). Some m) (let s : 1 + k ≡ suc k = omega arith in s)
          ∙ sym (ap (λ (b : Bool). option_map suc (cond b (Some k) None)) h)
      go false h =
          let i = ltb-false k l h in
          ap (λ (b : Bool). cond b (Some (1 + k)) None) (le-ltb (1 + k) (suc l) (omega (arith, i)))
          ∙ sym (ap (λ (b : Bool). option_map suc (cond b (Some k) None)) h)

  pub nowhere : (n : List ℕ) (xs : List X) → is_among (map name xs) n ≡ false → position (called n) xs ≡ None
  nowhere n [] e = refl
  nowhere n (x ∷ xs) e =
      let p = or_none (called n x) (is_among (map name xs) n) e in
      found_later n x xs p.0 ∙ ap (option_map suc) (nowhere n xs p.1)

  pub is_present : (xs : List X) (k : ℕ) (x : X) → slice_get xs k ≡ Some x → is_among (map name xs) (name x) ≡ true
  is_present [] k x e = absurd cc
  is_present (y ∷ xs) zero x e = let f : y ≡ x = cc in or_left (called (name x) y) (is_among (map name xs) (name x)) (ap (λ z. bytes_eq (name z) (name x)) f ∙ own_name (name x))
  is_present (y ∷ xs) (suc k) x e = or_right (called (name x) y) (is_among (map name xs) (name x)) (is_present xs k x e)

  pub first_at : (xs : List X) (k : ℕ) (x : X) → differ (map name xs) ≡ true → slice_get xs k ≡ Some x → position (called (name x)) xs ≡ Some k
  first_at [] k x d e = absurd cc
  first_at (y ∷ xs) zero x d e = let f : y ≡ x = cc in found_here (name x) y xs (ap (λ z. bytes_eq (name z) (name x)) f ∙ own_name (name x))
  first_at (y ∷ xs) (suc k) x d e = found_later (name x) y xs (other (called (name x) y) refl) ∙ ap (option_map suc) (first_at xs k x (differ_parts (name y) (map name xs) d).1 e)
    where
      other : (b : Bool) → called (name x) y ≡ b → called (name x) y ≡ false
      other false f = f
      other true f =
          let p = differ_parts (name y) (map name xs) d in
          let k : true ≡ false = sym (is_present xs k x e) ∙ ap (is_among (map name xs)) (sym (same_name (name y) (name x) f)) ∙ p.0 in
          absurd cc
