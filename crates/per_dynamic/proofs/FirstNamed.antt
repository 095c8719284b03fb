-- The first row with a name.
use Rattle.std.proofs.Common.{◌≡◌, ◌∙◌, refl, sym, ap, ℕ, zero, suc, ◌+◌, Bool, true, false, cond, List, [], ◌∷◌, Option, Some, None, option_map, nat_eq, take, arith, ◌&&◌}
use Rattle.std.specs.Prelude.{position, slice_get, string_bytes}
use Rattle.std.specs.List.{position_from}
use Rattle.std.specs.Option.{option_and_then, option_eq}
use Rattle.std.proofs.lemmas.Bool.{eq-eqb}
use Rattle.std.specs.Str.{bytes_eq}
use Rattle.std.proofs.lemmas.Iterator.Adapters.{position_from-zero}
use Rattle.rasn_dynamic.specs.declared.types.Row.{Row}
use Rattle.per_dynamic.specs.OpenTypes.{first_named, of_one_type}

module _ {X : Type 0} (p : X → Bool) where
  from_front : (xs : List X) (k n j : ℕ) → position_from p n (take k xs) ≡ Some j → position_from p n xs ≡ Some j
  from_front [] zero n j h = h
  from_front [] (suc k) n j h = h
  from_front (x ∷ xs) zero n j h = absurd cc
  from_front (x ∷ xs) (suc k) n j h = step (p x) (from_front xs k (n + 1) j) h
    where
      step : (b : Bool) → (position_from p (n + 1) (take k xs) ≡ Some j → position_from p (n + 1) xs ≡ Some j)
          → cond b (Some n) (position_from p (n + 1) (take k xs)) ≡ Some j → cond b (Some n) (position_from p (n + 1) xs) ≡ Some j
      step true f e = e
      step false f e = f e

  from_here : (xs : List X) (k n : ℕ) (r : X) → slice_get xs k ≡ Some r → p r ≡ true → position_from p n (take k xs) ≡ None
      → position_from p n xs ≡ Some (n + k)
  from_here [] k n r e h none = absurd cc
  from_here (x ∷ xs) zero n r e h none =
      let q : x ≡ r = cc in ap (λ b. cond b (Some n) (position_from p (n + 1) xs)) (ap p q ∙ h) ∙ ap Some (omega (arith))
  from_here (x ∷ xs) (suc k) n r e h none = step (p x) (from_here xs k (n + 1) r e h) none
    where
      step : (b : Bool) → (position_from p (n + 1) (take k xs) ≡ None → position_from p (n + 1) xs ≡ Some (n + 1 + k))
          → cond b (Some n) (position_from p (n + 1) (take k xs)) ≡ None → cond b (Some n) (position_from p (n + 1) xs) ≡ Some (n + suc k)
      step true f e = absurd cc
      step false f e = f e ∙ ap Some (omega (arith))

  -- the first that passes is in front of an index
  first_in_front : (xs : List X) (k j : ℕ) → position p (take k xs) ≡ Some j → position p xs ≡ Some j
  first_in_front xs k j h = position_from-zero p xs ∙ from_front xs k 0 j (sym (position_from-zero p (take k xs)) ∙ h)

  -- where none does, what is there is the first that passes
  first_is_here : (xs : List X) (k : ℕ) (r : X) → slice_get xs k ≡ Some r → p r ≡ true → position p (take k xs) ≡ None
      → position p xs ≡ Some k
  first_is_here xs k r e h none =
      position_from-zero p xs ∙ from_here xs k 0 r e h (sym (position_from-zero p (take k xs)) ∙ none) ∙ ap Some (omega (arith))

-- a name is its own
name_same : (xs : List ℕ) → bytes_eq xs xs ≡ true
name_same [] = refl
name_same (x ∷ xs) = ap (λ b. b && bytes_eq xs xs) (eq-eqb x x refl) ∙ name_same xs

-- the index of a row whose type is its own
own_type : (rs : List Row) (k : ℕ) (r : Row) → slice_get rs k ≡ Some r → of_one_type rs r (Some k) ≡ Some k
own_type rs k r e =
    ap (λ o. cond (option_eq nat_eq (option_map (λ (q : Row). q.of) o) (Some r.of)) (Some k) None) e
    ∙ ap (λ b. cond b (Some k) None) (eq-eqb r.of r.of refl)

-- the first row with a name is in front of one that has it, or this one
module _ (rs : List Row) (k : ℕ) (r : Row) (e : slice_get rs k ≡ Some r) where
  abbrev has_its_name : Row → Bool
  has_its_name q = bytes_eq (string_bytes q.name) (string_bytes r.name)

  pub named_in_front : (j : ℕ) → position has_its_name (take k rs) ≡ Some j
      → of_one_type rs r (Some j) ≡ option_and_then (first_named rs) (slice_get rs k)
  named_in_front j h = ap (of_one_type rs r) (sym (first_in_front has_its_name rs k j h)) ∙ ap (option_and_then (first_named rs)) (sym e)

  pub named_here : position has_its_name (take k rs) ≡ None → Some k ≡ option_and_then (first_named rs) (slice_get rs k)
  named_here h =
      sym (own_type rs k r e) ∙ ap (of_one_type rs r) (sym (first_is_here has_its_name rs k r e (name_same (string_bytes r.name)) h))
      ∙ ap (option_and_then (first_named rs)) (sym e)
