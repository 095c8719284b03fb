-- The leaves of the tree that a constant states are those of its tag tree, and the least of them is its smallest tag.
use Rattle.std.proofs.Common.{◌≡◌, refl, sym, ap, ap₂, ◌∙◌, Bool, true, false, ◌||◌, List, [], ◌∷◌, ◌++◌, map, drop, length, get_or, ℕ, ◌+◌, ◌<◌, Option, Some, None, arith, subst}
use Rattle.std.proofs.lemmas.Bool.Decides.{nat_tests}
use Rattle.std.proofs.lemmas.List.{drop_more}
use Rattle.rasn_schema.specs.Fields.{and_tree, choice_tree, tree_of, tree_step, trees_of}
use Rattle.rasn_schema.specs.Structures.{tag_of}
use Rattle.rasn_schema.specs.Lawful.{leaves, leaves_of, same_tag}
use Rattle.rasn_schema.specs.Schemas
use Rattle.rasn_schema.specs.Schemas.{Tag, TagTrees, leaf, one_of, no_trees, tree, lesser, smallest, least_of}
use Rattle.rasn_schema.specs.TreeTags.{has_tag, least, leaves_in, leaves_step, lesser_there, one_after_another}
use Rattle.rasn_schema.specs.declared.fields.TagTree.{TagTree}
use Rattle.rasn_schema.specs.declared.fields.TagTree.TheViews.{roll-TagTree}
use Rattle.rasn_schema.specs.declared.fields.TagTree.TheFolds.{fold-roll-TagTree, map-TagTree, ind-TagTree}
use Rattle.rasn_schema.specs.declared.fields.TagTree.TheOpen.{TagTree-F, Leaf, Choice}

-- the lesser of tags

pub lesser_both_ways : (s t : Tag) → lesser s t ≡ lesser t s
lesser_both_ways s t = grind (arith, nat_tests)

pub lesser_through : (s t u : Tag) → lesser (lesser s t) u ≡ lesser s (lesser t u)
lesser_through s t u = grind (arith, nat_tests)

pub there_through : (s t u : Option Tag) → lesser_there (lesser_there s t) u ≡ lesser_there s (lesser_there t u)
there_through None t u = refl
there_through (Some s) None u = refl
there_through (Some s) (Some t) None = refl
there_through (Some s) (Some t) (Some u) = ap Some (lesser_through s t u)

pub there_both_ways : (s t : Option Tag) → lesser_there s t ≡ lesser_there t s
there_both_ways None None = refl
there_both_ways None (Some t) = refl
there_both_ways (Some s) None = refl
there_both_ways (Some s) (Some t) = ap Some (lesser_both_ways s t)

-- of tags after others
pub least_after : (ts us : List Tag) → least (ts ++ us) ≡ lesser_there (least ts) (least us)
least_after [] us = refl
least_after (t ∷ ts) us = ap (lesser_there (Some t)) (least_after ts us) ∙ sym (there_through (Some t) (least ts) (least us))

pub has_after : (t : Tag) (us vs : List Tag) → has_tag t (us ++ vs) ≡ (has_tag t us || has_tag t vs)
has_after t [] vs = refl
has_after t (u ∷ us) vs = go (same_tag t u) (has_after t us vs)
  where
    go : (b : Bool) → has_tag t (us ++ vs) ≡ (has_tag t us || has_tag t vs) → (b || has_tag t (us ++ vs)) ≡ ((b || has_tag t us) || has_tag t vs)
    go true h = refl
    go false h = h

-- the leaves of trees from a place on
pub has_from : (t : Tag) (xs : List TagTree) (i : ℕ) (x : TagTree) → i < length xs → x ≡ get_or xs i x
    → has_tag t (one_after_another (map leaves_in (drop i xs))) ≡ (has_tag t (leaves_in x) || has_tag t (one_after_another (map leaves_in (drop (i + 1) xs))))
has_from t xs i x l e =
    ap (λ ys. has_tag t (one_after_another (map leaves_in ys))) (drop_more xs i x l ∙ ap (λ y. y ∷ drop (i + 1) xs) (sym e))
    ∙ has_after t (leaves_in x) (one_after_another (map leaves_in (drop (i + 1) xs)))

pub least_from : (xs : List TagTree) (i : ℕ) (x : TagTree) → i < length xs → x ≡ get_or xs i x
    → least (one_after_another (map leaves_in (drop i xs))) ≡ lesser_there (least (leaves_in x)) (least (one_after_another (map leaves_in (drop (i + 1) xs))))
least_from xs i x l e =
    ap (λ ys. least (one_after_another (map leaves_in ys))) (drop_more xs i x l ∙ ap (λ y. y ∷ drop (i + 1) xs) (sym e))
    ∙ least_after (leaves_in x) (one_after_another (map leaves_in (drop (i + 1) xs)))

-- the smallest tag of a tag tree is the least of its leaves
mutual
  unfolding leaves smallest

  pub smallest_is_least : (t : Schemas.TagTree) → least (leaves t) ≡ Some (smallest t)
  smallest_is_least (leaf t) = refl
  smallest_is_least (one_of t ts) = least_after (leaves t) (leaves_of ts) ∙ ap (λ o. lesser_there o (least (leaves_of ts))) (smallest_is_least t) ∙ least_of_is_least (smallest t) ts

  pub least_of_is_least : (t : Tag) (ts : TagTrees) → lesser_there (Some t) (least (leaves_of ts)) ≡ Some (least_of t ts)
  least_of_is_least t no_trees = refl
  least_of_is_least t (tree u us) =
      ap (lesser_there (Some t)) (least_after (leaves u) (leaves_of us))
      ∙ there_both_ways (Some t) (lesser_there (least (leaves u)) (least (leaves_of us)))
      ∙ there_through (least (leaves u)) (least (leaves_of us)) (Some t)
      ∙ ap (lesser_there (least (leaves u))) (there_both_ways (least (leaves_of us)) (Some t) ∙ least_of_is_least t us)
      ∙ ap (λ o. lesser_there o (Some (least_of t us))) (smallest_is_least u)

-- a tree without further ones
leaves_alone : (t : Schemas.TagTree) → leaves_of (tree t no_trees) ≡ leaves t
unfolding leaves
leaves_alone t = after_none (leaves t)
  where
    after_none : (ts : List Tag) → (ts ++ []) ≡ ts
    after_none [] = refl
    after_none (t ∷ ts) = ap (λ us. t ∷ us) (after_none ts)

-- the leaves of a constant's tree are those of the tag tree that it states
abbrev HasLeaves : TagTree → Type 0
HasLeaves x = (t : Schemas.TagTree) → tree_of x ≡ Some t → leaves_in x ≡ leaves t

-- what is there
abbrev trees_there : Option TagTrees → TagTrees
trees_there None = no_trees
trees_there (Some ts) = ts

abbrev tree_there : Option Schemas.TagTree → TagTrees
tree_there None = no_trees
tree_there (Some t) = tree t no_trees

leaves_of_all : (es : List ((x : TagTree) × HasLeaves x)) (ts : TagTrees) → trees_of (map tree_of (map (λ e. e.0) es)) ≡ Some ts → one_after_another (map leaves_in (map (λ e. e.0) es)) ≡ leaves_of ts
unfolding leaves
leaves_of_all [] ts e = ap leaves_of (ap trees_there e)
leaves_of_all (x ∷ es) ts e = go (leaves_of_all es) (tree_of x.0) refl (trees_of (map tree_of (map (λ e. e.0) es))) refl ts e
  where
    go : ((us : TagTrees) → trees_of (map tree_of (map (λ e. e.0) es)) ≡ Some us → one_after_another (map leaves_in (map (λ e. e.0) es)) ≡ leaves_of us)
        → (o : Option Schemas.TagTree) → tree_of x.0 ≡ o → (p : Option TagTrees) → trees_of (map tree_of (map (λ e. e.0) es)) ≡ p → (ts : TagTrees) → trees_of (o ∷ map tree_of (map (λ e. e.0) es)) ≡ Some ts
        → (leaves_in x.0 ++ one_after_another (map leaves_in (map (λ e. e.0) es))) ≡ leaves_of ts
    go ih (Some t) f (Some us) h ts g =
        ap₂ (λ a b. a ++ b) (x.1 t f) (ih us h) ∙ ap leaves_of (ap trees_there (sym (ap (and_tree t) h) ∙ g))
    go ih (Some t) f None h ts g = let q : None ≡ Some ts = sym (ap (and_tree t) h) ∙ g in absurd (cc)
    go ih None f p h ts g = absurd (cc)

-- one level of a constant's tree, of which the alternatives' trees have the leaves that they state
abbrev Layer : TagTree-F TagTree → Type 0
Layer (Leaf u) = Unit {0}
Layer (Choice ts) = (us : TagTrees) → trees_of (map tree_of ts.now) ≡ Some us → one_after_another (map leaves_in ts.now) ≡ leaves_of us

one_level : (x : TagTree-F TagTree) → Layer x → HasLeaves (roll-TagTree x)
unfolding leaves
one_level (Leaf u) l t e =
    fold-roll-TagTree (List Tag) leaves_step (Leaf u)
    ∙ go t (sym (fold-roll-TagTree (Option Schemas.TagTree) tree_step (Leaf u)) ∙ e)
  where
    go : (t : Schemas.TagTree) → Some (leaf (tag_of u)) ≡ Some t → (tag_of u ∷ []) ≡ leaves t
    go t q = subst (λ o. (tag_of u ∷ []) ≡ leaves_of (tree_there o)) q refl ∙ leaves_alone t
one_level (Choice ts) l t e =
    fold-roll-TagTree (List Tag) leaves_step (Choice ts)
    ∙ go (trees_of (map tree_of ts.now)) refl t (sym (fold-roll-TagTree (Option Schemas.TagTree) tree_step (Choice ts)) ∙ e)
  where
    go : (o : Option TagTrees) → trees_of (map tree_of ts.now) ≡ o → (t : Schemas.TagTree) → choice_tree (trees_of (map tree_of ts.now)) ≡ Some t → one_after_another (map leaves_in ts.now) ≡ leaves t
    go None h t g = let q : None ≡ Some t = sym (ap choice_tree h) ∙ g in absurd (cc)
    go (Some no_trees) h t g = let q : None ≡ Some t = sym (ap choice_tree h) ∙ g in absurd (cc)
    go (Some (tree u us)) h t g =
        l (tree u us) h ∙ sym (leaves_alone (one_of u us)) ∙ ap leaves_of (ap tree_there (sym (ap choice_tree h) ∙ g)) ∙ leaves_alone t

pub leaves_shown : (x : TagTree) → HasLeaves x
leaves_shown = ind-TagTree HasLeaves (λ x y is. one_level x (subst Layer is (elim y as (λ k. Layer (map-TagTree ((x : TagTree) × HasLeaves x) TagTree (λ e. e.0) k)) [ Leaf u ↦ tt | Choice ts ↦ leaves_of_all ts.now ])))
