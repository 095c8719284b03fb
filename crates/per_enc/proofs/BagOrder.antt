-- The members of a bag in ascending order are a list (ITU-T X.691, 22).
use Rattle.std.proofs.Common.{◌≡◌, refl, sym, ap, ◌∙◌, ℕ, zero, suc, ◌<◌, Bool, true, false, cond, List, [], ◌∷◌, map, length, drop, get_or, arith, is_some}
use Rattle.rasn_types.specs.Values.{Value, bag_of, before, put, sorted}
use Rattle.rasn_types.specs.Variants.{Variant}
use Rattle.rasn_types.proofs.Values.{values-as_values}
use Rattle.rasn_constraints.specs.Bounds.{Size}
use Rattle.rasn_schema.specs.Structures.{list_value}
use Rattle.rasn_schema.specs.Schemas.{Schema}
use Rattle.per_core.specs.Canon.{ascending, canon, octet_key}
use Rattle.per_core.specs.Counts.{counted, list_items}
use Rattle.per_core.specs.Writers.{Writer}
use Rattle.per_pieces.specs.Pieces.{Piece, writer_of}
use Rattle.per_enc.specs.Members.{writers_of}
use Rattle.per_enc.specs.Writable.{AreWritten}
use Rattle.per_enc.proofs.MemberOrder.{bag_canon}
use Rattle.rasn_schema.proofs.Sorting.{map_sorted}
use Rattle.per_core.specs.WritingFaults.{HasElement, element_here, element_after}

module _ {X : Type 0} (less : X → X → Bool) where
  length_put : (x : X) (l : List X) → length (put less x l) ≡ suc (length l)
  length_put x [] = refl
  length_put x (y ∷ ys) = go (less y x) (length_put x ys)
    where
      go : (b : Bool) → length (put less x ys) ≡ suc (length ys) → length (cond b (y ∷ put less x ys) (x ∷ y ∷ ys)) ≡ suc (suc (length ys))
      go true e = ap suc e
      go false e = refl

  pub length_sorted : (xs : List X) → length (sorted less xs) ≡ length xs
  length_sorted [] = refl
  length_sorted (x ∷ xs) = length_put x (sorted less xs) ∙ ap suc (length_sorted xs)

-- an element after another one that moves on
element_turn : (v w u : Value) (us l : List Value) → (HasElement v (w ∷ us) → HasElement v l) → HasElement v (w ∷ u ∷ us) → HasElement v (u ∷ l)
element_turn v w u us l r element_here = element_after (r element_here)
element_turn v w u us l r (element_after element_here) = element_here
element_turn v w u us l r (element_after (element_after k)) = element_after (r (element_after k))

element_between : (v w u : Value) (us : List Value) → HasElement v (w ∷ us) → HasElement v (w ∷ u ∷ us)
element_between v w u us element_here = element_here
element_between v w u us (element_after k) = element_after (element_after k)

element_back : (v w u : Value) (us l : List Value) → (HasElement v l → HasElement v (w ∷ us)) → HasElement v (u ∷ l) → HasElement v (w ∷ u ∷ us)
element_back v w u us l r element_here = element_after element_here
element_back v w u us l r (element_after k) = element_between v w u us (r k)

element_first : (v w : Value) (us l : List Value) → HasElement v (w ∷ l) → (HasElement v l → HasElement v us) → HasElement v (w ∷ us)
element_first v w us l element_here r = element_here
element_first v w us l (element_after k) r = element_after (r k)

-- each element is in the sorted list, and no other
module _ (by : Value → Value → Bool) where
  element_put : (v w : Value) (l : List Value) → HasElement v (w ∷ l) → HasElement v (put by w l)
  element_put v w [] h = h
  element_put v w (u ∷ us) h = go (by u w) (element_put v w us)
    where
      go : (b : Bool) → (HasElement v (w ∷ us) → HasElement v (put by w us)) → HasElement v (cond b (u ∷ put by w us) (w ∷ u ∷ us))
      go true r = element_turn v w u us (put by w us) r h
      go false r = h

  pub element_sorted : (v : Value) (l : List Value) → HasElement v l → HasElement v (sorted by l)
  element_sorted v [] h = h
  element_sorted v (w ∷ ws) element_here = element_put v w (sorted by ws) element_here
  element_sorted v (w ∷ ws) (element_after k) = element_put v w (sorted by ws) (element_after (element_sorted v ws k))

  element_taken : (v w : Value) (l : List Value) → HasElement v (put by w l) → HasElement v (w ∷ l)
  element_taken v w [] h = h
  element_taken v w (u ∷ us) h = go (by u w) (element_taken v w us) h
    where
      go : (b : Bool) → (HasElement v (put by w us) → HasElement v (w ∷ us)) → HasElement v (cond b (u ∷ put by w us) (w ∷ u ∷ us)) → HasElement v (w ∷ u ∷ us)
      go true r k = element_back v w u us (put by w us) r k
      go false r k = k

  pub element_unsorted : (v : Value) (l : List Value) → HasElement v (sorted by l) → HasElement v l
  element_unsorted v [] h = h
  element_unsorted v (w ∷ ws) h = element_first v w ws (sorted by ws) (element_taken v w (sorted by ws) h) (element_unsorted v ws)

-- X.691 22: a bag's members in ascending order of their complete encodings
pub in_order : Variant → Schema → List Value → List Value
in_order a e vs = sorted (λ v w. before (octet_key (canon a e v 0)) (octet_key (canon a e w 0))) vs

pub ordered_writers : (a : Variant) (e : Schema) (vs : List Value) → map (canon a e) (in_order a e vs) ≡ ascending (map (canon a e) vs)
unfolding in_order
ordered_writers a e vs =
    map_sorted (canon a e) (λ v w. before (octet_key (canon a e v 0)) (octet_key (canon a e w 0))) (λ f g. before (octet_key (f 0)) (octet_key (g 0))) (λ x y. refl) vs

pub length_in_order : (a : Variant) (e : Schema) (vs : List Value) → length (in_order a e vs) ≡ length vs
unfolding in_order
length_in_order a e vs = length_sorted (λ v w. before (octet_key (canon a e v 0)) (octet_key (canon a e w 0))) vs

pub element_of_ordered : (a : Variant) (e : Schema) (vs : List Value) (v : Value) → HasElement v (in_order a e vs) → HasElement v vs
unfolding in_order
element_of_ordered a e vs v h = element_unsorted (λ v w. before (octet_key (canon a e v 0)) (octet_key (canon a e w 0))) v vs h

-- members that were written by themselves can be written
pub are_written : (f : Value → Writer) (vs : List Value) (ms : List (List Piece)) → writers_of ms ≡ map f vs → AreWritten f vs
are_written f [] ms e = tt
are_written f (v ∷ vs) [] e = absurd cc
are_written f (v ∷ vs) (m ∷ ms) e =
    let h : writer_of m ≡ f v = cc in
    let t : writers_of ms ≡ map f vs = cc in
    (ap (λ (w : Writer). is_some (w 0)) (sym h), are_written f vs ms t)

listed : (a : Variant) (e : Schema) (size : Size) (mark : Bool) (ws : List Value) (p : ℕ) → canon a (Schema.list e size mark) (list_value ws) p ≡ counted a size mark list_items (map (canon a e) ws) p
unfolding canon
listed a e size mark ws p = ap (λ us. counted a size mark list_items (map (canon a e) us) p) (values-as_values ws)

-- the list of them is the bag
pub list_is_bag : (a : Variant) (e : Schema) (size : Size) (mark : Bool) (vs : List Value) → AreWritten (canon a e) vs → (p : ℕ)
    → canon a (Schema.list e size mark) (list_value (in_order a e vs)) p ≡ canon a (Schema.set_of e size mark) (bag_of vs) p
list_is_bag a e size mark vs k p = listed a e size mark (in_order a e vs) p ∙ ap (λ ws. counted a size mark list_items ws p) (ordered_writers a e vs) ∙ ap (λ (w : Writer). w p) (sym (bag_canon a e size mark vs k))

-- the member at a place
pub at_place : (ms : List (List Piece)) (f : Value → Writer) (vs : List Value) (i : ℕ) (d : List Piece) → writers_of ms ≡ map f vs → i < length ms
    → (v : Value) × (drop i vs ≡ v ∷ drop (suc i) vs) × (writer_of (get_or ms i d) ≡ f v)
at_place [] f vs i d e h = absurd (omega (arith, h))
at_place (m ∷ ms) f [] i d e h = absurd cc
at_place (m ∷ ms) f (v ∷ vs) zero d e h = let q : writer_of m ≡ f v = cc in (v, refl, q)
at_place (m ∷ ms) f (v ∷ vs) (suc i) d e h = let t : writers_of ms ≡ map f vs = cc in at_place ms f vs i d t (omega (arith, h))
