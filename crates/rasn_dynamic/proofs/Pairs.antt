-- Tests of two lists, item for item, as loops go through them.
use Rattle.std.proofs.Common.{◌≡◌, refl, sym, ap, ap₂, ◌∙◌, ℕ, zero, suc, ◌+◌, ◌<◌, ◌≤◌, Bool, true, false, List, [], ◌∷◌, map, length, drop, get_or, arith}
use Rattle.std.specs.Bool.{Decides}
use Rattle.std.specs.Prelude.{◌&&◌}
use Rattle.std.proofs.lemmas.Bool.Decides.{same_from_decides}
use Rattle.std.proofs.lemmas.List.{drop_more, drop_all}
use Rattle.rasn_dynamic.specs.Defaults.{all_pairs}

-- an item of a list, and those after it
pub item_more : {A : Type 0} (xs : List A) (i : ℕ) (x : A) → i < length xs → x ≡ get_or xs i x → drop i xs ≡ x ∷ drop (i + 1) xs
item_more xs i x l e = drop_more xs i x l ∙ ap (λ u. u ∷ drop (i + 1) xs) (sym e)

-- and of what a function makes of a list's items
pub image_more : {A B : Type 0} (f : A → B) (xs : List A) (i : ℕ) (x : A) → i < length xs → x ≡ get_or xs i x → drop i (map f xs) ≡ f x ∷ drop (i + 1) (map f xs)
image_more f [] i x l e = absurd (omega (arith, l))
image_more f (y ∷ xs) zero x l e = ap (λ z. f z ∷ map f xs) (sym e)
image_more f (y ∷ xs) (suc i) x l e =
    let d : suc (i + 1) ≡ suc i + 1 = omega arith in
    image_more f xs i x (omega (arith, l)) e ∙ ap (λ (j : ℕ). f x ∷ drop j (f y ∷ map f xs)) d

-- lists of two lengths
pub uneven : {A B : Type 0} (f : A → B → Bool) (xs : List A) (ys : List B) → (length xs ≡ length ys → ⊥) → false ≡ all_pairs f xs ys
uneven f [] [] h = absurd (h refl)
uneven f [] (y ∷ ys) h = refl
uneven f (x ∷ xs) [] h = refl
uneven f (x ∷ xs) (y ∷ ys) h = go (f x y) (uneven f xs ys (λ e. h (ap suc e)))
  where
    go : (b : Bool) → false ≡ all_pairs f xs ys → false ≡ (b && all_pairs f xs ys)
    go true e = e
    go false e = refl

-- what is left of lists passes a test as all of them do, at each depth that is enough
pub record Pairing {A B : Type 0} (k : ℕ) (f : ℕ → A → B → Bool) (xs : ℕ → List A) (ys : ℕ → List B) (i : ℕ) : Type 0 where
  pub at : (n : ℕ) → k ≤ n → all_pairs (f n) (drop i (xs n)) (drop i (ys n)) ≡ all_pairs (f n) (xs n) (ys n)

module _ {A B : Type 0} (k : ℕ) (f : ℕ → A → B → Bool) (xs : ℕ → List A) (ys : ℕ → List B) where
  pub begun : Pairing k f xs ys 0
  begun = record { at = λ n le. refl }

  module _ (i : ℕ) (p : Pairing k f xs ys i) where
    -- all items passed
    pub ended : (n : ℕ) → k ≤ n → length (xs n) ≤ i → length (ys n) ≤ i → true ≡ all_pairs (f n) (xs n) (ys n)
    ended n le l m = ap₂ (all_pairs (f n)) (sym (drop_all i (xs n) l)) (sym (drop_all i (ys n) m)) ∙ p.at n le

    module _ (b : Bool) (x : ℕ → A) (y : ℕ → B) (to : (n : ℕ) → k ≤ n → b ≡ f n (x n) (y n))
        (of_x : (n : ℕ) → drop i (xs n) ≡ x n ∷ drop (i + 1) (xs n)) (of_y : (n : ℕ) → drop i (ys n) ≡ y n ∷ drop (i + 1) (ys n)) where
      next : (n : ℕ) → k ≤ n → (b && all_pairs (f n) (drop (i + 1) (xs n)) (drop (i + 1) (ys n))) ≡ all_pairs (f n) (xs n) (ys n)
      next n le =
          ap (λ a. a && all_pairs (f n) (drop (i + 1) (xs n)) (drop (i + 1) (ys n))) (to n le)
          ∙ ap₂ (all_pairs (f n)) (sym (of_x n)) (sym (of_y n))
          ∙ p.at n le

      -- one that passed
      pub passed : b ≡ true → Pairing k f xs ys (i + 1)
      passed e = record { at = λ n le. ap (λ a. a && all_pairs (f n) (drop (i + 1) (xs n)) (drop (i + 1) (ys n))) (sym e) ∙ next n le }

      -- one that didn't
      pub failed : b ≡ false → (n : ℕ) → k ≤ n → false ≡ all_pairs (f n) (xs n) (ys n)
      failed e n le = ap (λ a. a && all_pairs (f n) (drop (i + 1) (xs n)) (drop (i + 1) (ys n))) (sym e) ∙ next n le

-- a test of pairs of what two functions make of items
pub pairs_of : {A B C D : Type 0} (f : C → D → Bool) (g : A → C) (h : B → D) (xs : List A) (ys : List B) → all_pairs (λ x y. f (g x) (h y)) xs ys ≡ all_pairs f (map g xs) (map h ys)
pairs_of f g h [] [] = refl
pairs_of f g h [] (y ∷ ys) = refl
pairs_of f g h (x ∷ xs) [] = refl
pairs_of f g h (x ∷ xs) (y ∷ ys) = ap (λ a. f (g x) (h y) && a) (pairs_of f g h xs ys)

-- two tests, one after the other
pub both_decide : {P Q R : Type 0} (a b : Bool) → Decides a P → Decides b Q → (P → Q → R) → (R → P × Q) → Decides (a && b) R
both_decide true b p q to of = (λ e. to (p.0 refl) (q.0 e), λ c. q.1 (of c).1)
both_decide false b p q to of = (λ e. absurd (cc), λ c. p.1 (of c).0)

-- a test that decides whether items are one decides whether lists are
pub pairs_decide : {A : Type 0} (f : A → A → Bool) → ((x y : A) → Decides (f x y) (x ≡ y)) → (xs ys : List A) → Decides (all_pairs f xs ys) (xs ≡ ys)
pairs_decide f h [] [] = (λ e. refl, λ e. refl)
pairs_decide f h [] (y ∷ ys) = (λ e. absurd (cc), λ e. absurd (cc))
pairs_decide f h (x ∷ xs) [] = (λ e. absurd (cc), λ e. absurd (cc))
pairs_decide f h (x ∷ xs) (y ∷ ys) = both_decide (f x y) (all_pairs f xs ys) (h x y) (pairs_decide f h xs ys) (λ e d. cc) (λ e. (cc, cc))
