-- Values that stand for the items of a list, one after another.
use Rattle.std.proofs.Common.{◌≡◌, refl, sym, ap, ◌∙◌, ℕ, ◌+◌, ◌<◌, ◌≤◌, List, [], ◌∷◌, ◌++◌, map, length, drop, get_or, Option, append-nil}
use Rattle.std.proofs.lemmas.List.{drop_more, drop_all}
use Rattle.rasn_types.specs.Values.{Value as Content}
use Rattle.rasn_dynamic.specs.declared.values.Value.{Value}
use Rattle.rasn_dynamic.specs.Values.{slot_of}

-- one value more
push_slot : (xs : List Value) (v : Value) (rs : List (Option Content)) → map slot_of (xs ++ v ∷ []) ++ rs ≡ map slot_of xs ++ slot_of v ∷ rs
push_slot [] v rs = refl
push_slot (x ∷ xs) v rs = ap (λ ss. slot_of x ∷ ss) (push_slot xs v rs)

module _ {A : Type 0} (f : A → Option Content) where
  pub one_more : (cs : List Value) (vs : List A) (i : ℕ) (v : Value) (w : A) → i < length vs → w ≡ get_or vs i w → slot_of v ≡ f w
      → (map slot_of cs ++ map f (drop i vs)) ≡ map f vs → (map slot_of (cs ++ v ∷ []) ++ map f (drop (i + 1) vs)) ≡ map f vs
  one_more cs vs i v w l e s h =
      push_slot cs v (map f (drop (i + 1) vs))
      ∙ ap (λ o. map slot_of cs ++ o ∷ map f (drop (i + 1) vs)) s
      ∙ ap (λ ws. map slot_of cs ++ map f ws) (sym (drop_more vs i w l ∙ ap (λ u. u ∷ drop (i + 1) vs) (sym e)))
      ∙ h

  -- all are there
  pub no_more : (cs : List Value) (vs : List A) (i : ℕ) → length vs ≤ i → (map slot_of cs ++ map f (drop i vs)) ≡ map f vs → map slot_of cs ≡ map f vs
  no_more cs vs i l h = sym (append-nil (map slot_of cs)) ∙ ap (λ ws. map slot_of cs ++ map f ws) (sym (drop_all i vs l)) ∙ h
