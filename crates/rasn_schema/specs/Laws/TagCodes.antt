-- A code for tag trees, by which a proof tells them apart: a tree is written out in words, each of which makes a tree
-- of those after it.
use Rattle.std.specs.Prelude.{◌≡◌, ℕ, zero, suc, List, [], ◌∷◌, refl}
use Rattle.std.proofs.Common.{◌∙◌, ap}
use Rattle.std.specs.Coded.{Coded, code_by, coded_ℕ, coded_list, coded×}
use Rattle.rasn_schema.specs.Schemas.{TagTree, TagTrees, leaf, one_of, no_trees, tree}

-- a word: 0 and a tag for a leaf; 1 for a choice of a tree and further ones; 2 where further ones end; 3 for one of
-- them before others
abbrev pub Word : Type 0
Word = ℕ × (ℕ × ℕ)

abbrev mutual
  -- a tree in words, in front of others
  pub tree_words : TagTree → List Word → List Word
  tree_words (leaf t) ws = (0, (t.class, t.number)) ∷ ws
  tree_words (one_of t ts) ws = (1, (0, 0)) ∷ tree_words t (trees_words ts ws)

  -- further trees in words, in front of others
  pub trees_words : TagTrees → List Word → List Word
  trees_words no_trees ws = (2, (0, 0)) ∷ ws
  trees_words (tree t ts) ws = (3, (0, 0)) ∷ tree_words t (trees_words ts ws)

-- what words have made: trees, and further trees
abbrev pub Made : Type 0
Made = List TagTree × List TagTrees

-- what one word makes of that
abbrev pub make : Word → Made → Made
make (zero, (c, n)) (ts, fs) = (leaf (record { class = c; number = n }) ∷ ts, fs)
make (suc zero, p) (t ∷ ts, f ∷ fs) = (one_of t f ∷ ts, fs)
make (suc (suc zero), p) (ts, fs) = (ts, no_trees ∷ fs)
make (suc (suc (suc k)), p) (t ∷ ts, f ∷ fs) = (ts, tree t f ∷ fs)
make _ m = m

abbrev pub made : List Word → Made
made [] = ([], [])
made (w ∷ ws) = make w (made ws)

-- the first tree
abbrev pub first_tree : Made → TagTree
first_tree ([], fs) = leaf (record { class = 0; number = 0 })
first_tree (t ∷ ts, fs) = t

mutual
  pub made_tree : (t : TagTree) (ws : List Word) → made (tree_words t ws) ≡ (t ∷ (made ws).0, (made ws).1)
  made_tree (leaf t) ws = refl
  made_tree (one_of t ts) ws = ap (make (1, (0, 0))) (made_tree t (trees_words ts ws) ∙ ap (λ m. (t ∷ m.0, m.1))
      (made_trees ts ws))

  pub made_trees : (ts : TagTrees) (ws : List Word) → made (trees_words ts ws) ≡ ((made ws).0, ts ∷ (made ws).1)
  made_trees no_trees ws = refl
  made_trees (tree t ts) ws = ap (make (3, (0, 0))) (made_tree t (trees_words ts ws) ∙ ap (λ m. (t ∷ m.0, m.1))
      (made_trees ts ws))

abbrev pub tree_code : Coded TagTree
tree_code = code_by (List Word) (coded_list (coded× coded_ℕ (coded× coded_ℕ coded_ℕ)))
    (λ t. tree_words t []) (λ ws. first_tree (made ws)) (λ t. ap first_tree (made_tree t []))
