-- Loops through two lists, item for item.
use Rattle.std.proofs.Common.{◌≡◌, refl, ap, ℕ, ◌+◌, ◌<◌, ◌≤◌, Bool, true, false, ◌&&◌, List, [], ◌∷◌, map, length, get_or, arith}
use Rattle.rasn_dynamic.specs.Defaults.{all_pairs}
use Rattle.rasn_dynamic.proofs.Pairs.{begun, ended, failed, item_more, Pairing, passed, uneven}

-- a test of what a function makes of the items of the second list
pub pairs_mapped : {A B C : Type 0} (f : A → C → Bool) (h : B → C) (xs : List A) (ys : List B) → all_pairs (λ x y. f x (h y)) xs ys ≡ all_pairs f xs (map h ys)
pairs_mapped f h [] [] = refl
pairs_mapped f h [] (y ∷ ys) = refl
pairs_mapped f h (x ∷ xs) [] = refl
pairs_mapped f h (x ∷ xs) (y ∷ ys) = ap (λ b. f x (h y) && b) (pairs_mapped f h xs ys)

-- a test at each depth that is enough
module _ {A B : Type 0} (d : ℕ) (f : ℕ → A → B → Bool) (xs : List A) (ys : List B) where
  abbrev pub PairedTo : ℕ → Type 0
  PairedTo k = Pairing d f (λ n. xs) (λ n. ys) k

  pub paired_begun : PairedTo 0
  paired_begun = begun d f (λ n. xs) (λ n. ys)

  pub paired_uneven : (length xs ≡ length ys → ⊥) → (n : ℕ) → d ≤ n → false ≡ all_pairs (f n) xs ys
  paired_uneven h n le = uneven (f n) xs ys h

  module _ (k : ℕ) (p : PairedTo k) where
    pub paired_ended : length xs ≡ length ys → length ys ≤ k → (n : ℕ) → d ≤ n → true ≡ all_pairs (f n) xs ys
    paired_ended e l n le = ended d f (λ n. xs) (λ n. ys) k p n le (omega (arith, e, l)) l

    module _ (x : A) (y : B) (b : Bool) (l : k < length xs) (e : x ≡ get_or xs k x) (m : k < length ys) (g : y ≡ get_or ys k y) (h : (n : ℕ) → d ≤ n → b ≡ f n x y) where
      pub paired_passed : b ≡ true → PairedTo (k + 1)
      paired_passed t = passed d f (λ n. xs) (λ n. ys) k p b (λ n. x) (λ n. y) h (λ n. item_more xs k x l e) (λ n. item_more ys k y m g) t

      pub paired_failed : b ≡ false → (n : ℕ) → d ≤ n → false ≡ all_pairs (f n) xs ys
      paired_failed t = failed d f (λ n. xs) (λ n. ys) k p b (λ n. x) (λ n. y) h (λ n. item_more xs k x l e) (λ n. item_more ys k y m g) t
