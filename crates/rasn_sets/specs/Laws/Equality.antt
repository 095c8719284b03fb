-- Bags are equal where each member stands as often in the one as in the other: this decides it, and is an equivalence.
use Rattle.std.proofs.Common.{◌≡◌, refl, sym, ap, ◌∙◌, suc, Bool, true, false, ◌&&◌, ◌⊎◌, inl, inr, List, [], ◌∷◌}
use Rattle.std.specs.Cmp.{IsEquivalence, first_so, second_so}
use Rattle.std.specs.Prelude.{if◌then◌else◌, ◌==◌}
use Rattle.std.specs.Bool.{Decides, one_answer}
use Rattle.std.proofs.lemmas.Bool.{eqb-true, eq-eqb}
use Rattle.rasn_sets.specs.Equality.{same_bag, stand_alike, times}

module _ {K : Type 0} {eq : K → K → Bool} (laws : IsEquivalence eq) where
  times_congr : (xs : List K) (q x : K) → eq q x ≡ true → times eq q xs ≡ times eq x xs
  times_congr [] q x e = refl
  times_congr (y ∷ xs) q x e = λ i. if laws.congr q x y e i then suc
      (times_congr xs q x e i) else times_congr xs q x e i

  -- a member of no list of those that are looked at is nowhere there
  looked_at : (xs ys ls : List K) → stand_alike eq xs ys ls ≡ true → (q : K)
      → (times eq q xs ≡ times eq q ys) ⊎ (times eq q ls ≡ 0)
  looked_at xs ys [] h q = inr refl
  looked_at xs ys (x ∷ ls) h q = by (eq q x) refl (looked_at xs ys ls
      (second_so (times eq x xs == times eq x ys) _ h) q)
    where
      by : (b : Bool) → eq q x ≡ b → (times eq q xs ≡ times eq q ys) ⊎ (times eq q ls ≡ 0)
          → (times eq q xs ≡ times eq q ys) ⊎ (times eq q (x ∷ ls) ≡ 0)
      by true e r = inl (times_congr xs q x e ∙ eqb-true _ _ (first_so _ _ h) ∙ sym (times_congr ys q x e))
      by false e (inl g) = inl g
      by false e (inr z) = inr (ap (λ b. if b then suc (times eq q ls) else times eq q ls) e ∙ z)

  each_alike : (xs ys ls : List K) → ((q : K) → times eq q xs ≡ times eq q ys) → stand_alike eq xs ys ls ≡ true
  each_alike xs ys [] h = refl
  each_alike xs ys (x ∷ ls) h = ap (λ b. b && stand_alike eq xs ys ls) (eq-eqb _ _ (h x)) ∙ each_alike xs ys ls h

  -- X.680 28: bags are equal where any value stands as often in the one as in the other
  pub same_bag_decides : (xs ys : List K) → Decides (same_bag eq xs ys) ((q : K) → times eq q xs ≡ times eq q ys)
  same_bag_decides xs ys = (
    λ h q. by q (looked_at xs ys xs (first_so _ _ h) q)
        (looked_at xs ys ys (second_so (stand_alike eq xs ys xs) _ h) q),
    λ h i. each_alike xs ys xs h i && each_alike xs ys ys h i,
  )
    where
      by : (q : K) → (times eq q xs ≡ times eq q ys) ⊎ (times eq q xs ≡ 0)
          → (times eq q xs ≡ times eq q ys) ⊎ (times eq q ys ≡ 0) → times eq q xs ≡ times eq q ys
      by q (inl g) r = g
      by q (inr z) (inl g) = g
      by q (inr z) (inr w) = z ∙ sym w

  pub same_bag_equiv : IsEquivalence (same_bag eq)
  same_bag_equiv = record {
    refl = λ s. (same_bag_decides s s).1 (λ q. refl);
    symm = λ s t. one_answer _ _ (same_bag_decides s t)
        (λ h q. sym ((same_bag_decides t s).0 h q), λ h. (same_bag_decides t s).1 (λ q. sym (h q)));
    congr = λ s t u e. one_answer _ _ (same_bag_decides s u) (
      λ h q. (same_bag_decides s t).0 e q ∙ (same_bag_decides t u).0 h q,
      λ h. (same_bag_decides t u).1 (λ q. sym ((same_bag_decides s t).0 e q) ∙ h q),
    );
  }
