-- What is put in order of tags is sorted by its tags, and what ties stays as it was.
use Rattle.std.proofs.Common.{Bor, Less, Equal, Greater, nat_lt, ◌≡◌, refl, sym, ap, ◌∙◌, ℕ, suc, Bool, true, false, cond, List, [], ◌∷◌, map, ◌+◌, arith}
use Rattle.std.proofs.lemmas.Bool.Decides.{nat_tests}
use Rattle.std.specs.Cmp.{IsStrictWeakOrder}
use Rattle.std.proofs.lemmas.Fn.{always_returns_same}
use Rattle.std.specs.Fn.{Called, ComputesKey, Mut}
use Rattle.std.specs.List.Sorted.{IsSortedByKeyClosure, IsStableByKeyClosure}
use Rattle.std.specs.Bool.{◌==◌}
use Rattle.std.specs.Ordering.{is_lt, nat_cmp}
use Rattle.rasn_types.specs.contracts.types.TagOrd.TheImpl as TagOrd
use Rattle.rasn_types.specs.declared.types.Class.{Class}
use Rattle.rasn_types.specs.declared.types.Class.TheVariants.{Universal, Application, Context, Private}
use Rattle.rasn_types.specs.declared.types.Tag as Rust
use Rattle.rasn_types.specs.Values.{put, sorted}
use Rattle.rasn_schema.specs.Fields.{Shape, in_tag_order, shape_of}
use Rattle.rasn_schema.specs.Structures.{class_number, tag_of}
use Rattle.rasn_schema.specs.declared.fields.Field.{Field}
use Rattle.rasn_schema.specs.Orders.{insert_at, how_many_less, by_tags}
use Rattle.rasn_schema.specs.Schemas.{Tag, tag_less}
use Rattle.rasn_schema.proofs.Sorting.{Low, Up, low_below, map_sorted, stable_is_sorted, up_sorted}

tag_one_way : (t u : Tag) → tag_less t u ≡ true → tag_less u t ≡ false
tag_one_way t u e = grind (arith, nat_tests)

tag_chain : (t u v : Tag) → tag_less t u ≡ false → tag_less u v ≡ false → tag_less t v ≡ false
tag_chain t u v e f = grind (arith, nat_tests)

module _ {A : Type 0} (tag : A → Tag) where
  -- the order by tags
  abbrev pub comes_before : A → A → Bool
  comes_before x y = tag_less (tag x) (tag y)

  pub weak_order : IsStrictWeakOrder comes_before
  weak_order = record {
    one_way = λ x y e. tag_one_way (tag x) (tag y) e;
    chain = λ x y z e f. tag_chain (tag x) (tag y) (tag z) e f;
  }

  -- where none is less
  none_less : (x : A) (l : List A) → Low comes_before weak_order x l → how_many_less (tag x) (map tag l) ≡ 0
  none_less x [] u = refl
  none_less x (z ∷ zs) u =
      let h : ◌≡◌ {A = ℕ} (cond (tag_less (tag z) (tag x)) 1 0) 0 = ap (λ b. cond b 1 0) u.0 in
      let k = none_less x zs u.1 in omega arith

  -- the place of x in an ascending list
  put_is_insert : (x : A) (l : List A) → Up comes_before weak_order l → put comes_before x l ≡ insert_at (how_many_less (tag x) (map tag l)) x l
  put_is_insert x [] u = refl
  put_is_insert x (y ∷ ys) u = go (tag_less (tag y) (tag x)) refl (put_is_insert x ys u.1)
    where
      go : (b : Bool) → tag_less (tag y) (tag x) ≡ b → put comes_before x ys ≡ insert_at (how_many_less (tag x) (map tag ys)) x ys
          → cond b (y ∷ put comes_before x ys) (x ∷ y ∷ ys) ≡ insert_at (cond b 1 0 + how_many_less (tag x) (map tag ys)) x (y ∷ ys)
      go true e ih =
          let n = how_many_less (tag x) (map tag ys) in
          let h : 1 + n ≡ suc n = omega arith in ap (λ l. y ∷ l) ih ∙ ap (λ k. insert_at k x (y ∷ ys)) (sym h)
      go false e ih =
          let k = none_less x ys (low_below comes_before weak_order x y ys e u.0) in
          let h : 0 + how_many_less (tag x) (map tag ys) ≡ 0 = omega arith in ap (λ n. insert_at n x (y ∷ ys)) (sym h)

  -- as many are less, in whatever order
  less_put : (t : Tag) (a : A) (l : List A) → how_many_less t (map tag (put comes_before a l)) ≡ how_many_less t (map tag (a ∷ l))
  less_put t a [] = refl
  less_put t a (y ∷ ys) = go (tag_less (tag y) (tag a)) (less_put t a ys)
    where
      go : (b : Bool) → how_many_less t (map tag (put comes_before a ys)) ≡ how_many_less t (map tag (a ∷ ys))
          → how_many_less t (map tag (cond b (y ∷ put comes_before a ys) (a ∷ y ∷ ys))) ≡ how_many_less t (map tag (a ∷ y ∷ ys))
      go true ih = omega arith
      go false ih = refl

  less_sorted : (t : Tag) (xs : List A) → how_many_less t (map tag (sorted comes_before xs)) ≡ how_many_less t (map tag xs)
  less_sorted t [] = refl
  less_sorted t (a ∷ xs) = less_put t a (sorted comes_before xs) ∙ ap (λ n. cond (tag_less (tag a) t) 1 0 + n) (less_sorted t xs)

  -- in order of tags is sorted
  pub by_tags_sorted : (xs : List A) → by_tags (map tag xs) xs ≡ sorted comes_before xs
  by_tags_sorted [] = refl
  by_tags_sorted (x ∷ xs) =
      let l = sorted comes_before xs in
      ap (insert_at (how_many_less (tag x) (map tag xs)) x) (by_tags_sorted xs)
      ∙ ap (λ n. insert_at n x l) (sym (less_sorted (tag x) xs))
      ∙ sym (put_is_insert x l (up_sorted comes_before weak_order xs))

-- the order of tags in code
in_class : (m n : ℕ) → is_lt (nat_cmp m n) ≡ nat_lt m n
in_class m n = go (nat_lt m n) (m == n)
  where
    go : (a b : Bool) → is_lt (cond a Less (cond b Equal Greater)) ≡ a
    go true b = refl
    go false true = refl
    go false false = refl

by_class : (c d : Class) (m n : ℕ) → is_lt (TagOrd.ghosts.cmp (record { class = c; value = m }) (record { class = d; value = n }))
    ≡ tag_less (record { class = class_number c; number = m }) (record { class = class_number d; number = n })
by_class Universal Universal m n = in_class m n
by_class Application Application m n = in_class m n
by_class Context Context m n = in_class m n
by_class Private Private m n = in_class m n
by_class c d m n = refl

pub tags_compare : (s t : Rust.Tag) → is_lt (TagOrd.ghosts.cmp s t) ≡ tag_less (tag_of s) (tag_of t)
tags_compare s t = by_class s.class t.class s.value t.value

-- what the sort of the library does with fields, each by its tag
pub sorts_fields : {F : Type 0} {g : Mut F (Bor Field × Unit {0}) Rust.Tag} {f : F} (xs ys : List Field)
    → IsSortedByKeyClosure g TagOrd.ghosts.cmp f ys → IsStableByKeyClosure g TagOrd.ghosts.cmp f xs ys
    → ((a : Bor Field × Unit {0}) (r : Rust.Tag) (f' : F) → Called g f a r f' → (r ≡ a.0.now.tag) × (f' ≡ f)) → map shape_of ys ≡ in_tag_order (map shape_of xs)
sorts_fields {g = g} {f = f} xs ys up stable h =
    let key = λ (x : Field). x.tag in
    let tag = λ (s : Shape). s.tag in
    let by_key : ComputesKey g key f = always_returns_same g (λ a r. r ≡ key a.0.now) f h in
    let lt = λ (x y : Field). is_lt (TagOrd.ghosts.cmp x.tag y.tag) in
    let weak : IsStrictWeakOrder lt = record {
      one_way = λ x y e. tags_compare y.tag x.tag ∙ tag_one_way (tag_of x.tag) (tag_of y.tag) (sym (tags_compare x.tag y.tag) ∙ e);
      chain = λ x y z d e. tags_compare x.tag z.tag ∙ tag_chain (tag_of x.tag) (tag_of y.tag) (tag_of z.tag) (sym (tags_compare x.tag y.tag) ∙ d) (sym (tags_compare y.tag z.tag) ∙ e);
    } in
    ap (map shape_of) (stable_is_sorted lt weak xs ys (up key by_key) (stable key by_key))
    ∙ map_sorted shape_of lt (comes_before tag) (λ x y. sym (tags_compare x.tag y.tag)) xs
    ∙ sym (by_tags_sorted tag (map shape_of xs))
