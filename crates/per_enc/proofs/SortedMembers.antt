-- Members that were sorted by their complete encodings are written in ascending order of these (ITU-T X.691, 22).
use Rattle.std.proofs.Common.{Bor, Ordering, ◌≡◌, refl, sym, ap, subst, ◌∙◌, Bool, true, false, cond, List, [], ◌∷◌, ◌++◌, map}
use Rattle.std.specs.Fn.{Called, Mut}
use Rattle.std.specs.List.Sorted.{IsSortedBy, IsSortedByClosure, IsStableBy, IsStableByClosure}
use Rattle.std.specs.Ordering.{is_lt, nat_cmp}
use Rattle.std.specs.Cmp.Lexicographic.{slice_cmp}
use Rattle.std.proofs.lemmas.Fn.{always_returns_same}
use Rattle.rasn_types.specs.Values.{before, put, sorted}
use Rattle.per_core.specs.Canon.{ascending, octet_key}
use Rattle.per_core.specs.Writers.{Writer, complete}
use Rattle.per_pieces.specs.Pieces.{placed_bits, writer_of}
use Rattle.per_enc.specs.declared.members.Member.{Member}
use Rattle.per_enc.specs.Members.{AreKeyed, Every, IsKeyed, comes_before, pieces_of, writers_of}
use Rattle.per_enc.proofs.MemberOrder.{before_is, weak}
use Rattle.rasn_schema.proofs.Sorting.{stable_is_sorted}

-- what holds of each holds of each of the sorted list
module _ {X : Type 0} (P : X → Type 0) (less : X → X → Bool) where
  every_put : (x : X) (l : List X) → P x → Every P l → Every P (put less x l)
  every_put x [] h k = (h, tt)
  every_put x (y ∷ ys) h k = go (less y x) (every_put x ys h k.1)
    where
      go : (b : Bool) → Every P (put less x ys) → Every P (cond b (y ∷ put less x ys) (x ∷ y ∷ ys))
      go true ih = (k.0, ih)
      go false ih = (h, k)

  every_sorted : (xs : List X) → Every P xs → Every P (sorted less xs)
  every_sorted [] k = tt
  every_sorted (x ∷ xs) k = every_put x (sorted less xs) k.0 (every_sorted xs k.1)

  -- and what the sorted list is mapped to is sorted, where the function keeps the order of these
  module _ {Y : Type 0} (f : X → Y) (other : Y → Y → Bool) (same : (x y : X) → P x → P y → other (f x) (f y) ≡ less x y) where
    map_put : (x : X) (l : List X) → P x → Every P l → map f (put less x l) ≡ put other (f x) (map f l)
    map_put x [] h k = refl
    map_put x (y ∷ ys) h k = go (less y x) (other (f y) (f x)) (same y x k.0 h) (map_put x ys h k.1)
      where
        go : (a b : Bool) → b ≡ a → map f (put less x ys) ≡ put other (f x) (map f ys) → map f (cond a (y ∷ put less x ys) (x ∷ y ∷ ys)) ≡ cond b (f y ∷ put other (f x) (map f ys)) (f x ∷ f y ∷ map f ys)
        go true true e ih = ap (λ l. f y ∷ l) ih
        go false false e ih = refl
        go true false e ih = absurd cc
        go false true e ih = absurd cc

    map_of_sorted : (xs : List X) → Every P xs → map f (sorted less xs) ≡ sorted other (map f xs)
    map_of_sorted [] k = refl
    map_of_sorted (x ∷ xs) k = map_put x (sorted less xs) k.0 (every_sorted xs k.1) ∙ ap (put other (f x)) (map_of_sorted xs k.1)

module _ {A : Type 0} where
  -- how a member is written
  abbrev written : Member A → Writer
  written m = writer_of m.pieces.list

  all_written : (ms : List (Member A)) → writers_of (pieces_of ms) ≡ map written ms
  all_written [] = refl
  all_written (m ∷ ms) = ap (λ l. written m ∷ l) (all_written ms)

  same_order : (m n : Member A) → IsKeyed m → IsKeyed n → before (octet_key (writer_of m.pieces.list 0)) (octet_key (writer_of n.pieces.list 0)) ≡ comes_before m n
  same_order m n h k =
      ap (λ z. before z (complete (placed_bits n.pieces.list 0))) (sym h) ∙ ap (λ z. before m.key.items z) (sym k)

  module _ (ms ns : List (Member A)) (keyed : AreKeyed ms) (up : IsSortedBy comes_before ns) (stable : IsStableBy comes_before ms ns) where
    one_list : ns ≡ sorted comes_before ms
    one_list = stable_is_sorted comes_before (weak (λ (m : Member A). m.key.items)) ms ns up stable

    pub still_keyed : AreKeyed ns
    still_keyed = subst AreKeyed (sym one_list) (every_sorted IsKeyed comes_before ms keyed)

    pub in_order : writers_of (pieces_of ns) ≡ ascending (writers_of (pieces_of ms))
    in_order =
        all_written ns ∙ ap (map written) one_list
        ∙ map_of_sorted IsKeyed comes_before written (λ f g. before (octet_key (f 0)) (octet_key (g 0))) same_order ms keyed
        ∙ ap ascending (sym (all_written ms))

  -- what the sort of the library does with members, each of which is compared by its key
  pub sorts_members : {F : Type 0} {g : Mut F (Bor (Member A) × (Bor (Member A) × Unit {0})) Ordering} {f : F} (ms ns : List (Member A)) → AreKeyed ms
      → IsSortedByClosure g f ns → IsStableByClosure g f ms ns
      → ((a : Bor (Member A) × (Bor (Member A) × Unit {0})) (r : Ordering) (f' : F) → Called g f a r f' → (r ≡ slice_cmp nat_cmp a.0.now.key.items a.1.0.now.key.items) × (f' ≡ f))
      → AreKeyed ns × (writers_of (pieces_of ns) ≡ ascending (writers_of (pieces_of ms)))
  sorts_members {g = g} {f = f} ms ns keyed up stable h =
      let by_key = always_returns_same g (λ a r. is_lt r ≡ comes_before a.0.now a.1.0.now) f
      (λ a r f' k. let q = h a r f' k in (ap is_lt q.0 ∙ sym (before_is a.0.now.key.items a.1.0.now.key.items), q.1)) in
      let o = weak (λ (m : Member A). m.key.items) in
      let u = up comes_before o by_key in
      let t = stable comes_before o by_key in
      (still_keyed ms ns keyed u t, in_order ms ns keyed u t)

  -- a member more
  pub keyed_more : (ms : List (Member A)) (m : Member A) → AreKeyed ms → IsKeyed m → AreKeyed (ms ++ m ∷ [])
  keyed_more [] m k h = (h, tt)
  keyed_more (n ∷ ms) m k h = (k.0, keyed_more ms m k.1 h)

  pub pieces_more : (ms : List (Member A)) (m : Member A) → pieces_of (ms ++ m ∷ []) ≡ pieces_of ms ++ m.pieces.list ∷ []
  pieces_more [] m = refl
  pieces_more (n ∷ ms) m = ap (λ l. n.pieces.list ∷ l) (pieces_more ms m)
