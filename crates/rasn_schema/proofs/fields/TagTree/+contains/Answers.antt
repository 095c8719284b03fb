use Rattle.std.proofs.Common.{rules, arith, ◌≡◌, ◌∙◌, ◌+◌, ◌||◌, ap, sym, drop, map, false, true, []}
use Rattle.std.proofs.lemmas.List.{drop_all}
use Rattle.rasn_schema.specs.Structures.{tag_of}
use Rattle.rasn_schema.specs.TreeTags.{has_tag, leaves_in, one_after_another}
use Rattle.rasn_schema.specs.declared.fields.TagTree.TheFolds.{fold-roll-TagTree, fold_out-TagTree}
use Rattle.rasn_schema.specs.declared.fields.TagTree.TheViews.{the_lemmas}
use Rattle.rasn_schema.proofs.TreeTags.{has_from, leaves_shown}
use Rattle.rasn_schema.proofs.fields.TagTree.+contains.Goals as goal

pub returns-then-contains-clause-leaves : goal.returns-then-contains-clause-leaves
returns-then-contains-clause-leaves t c =
    let i = c.loop-tree.tree-index in let xs = c.in-Choice.trees.now in let x = c.tree-item.result in let u = tag_of c.args.tag in
    let yes : has_tag u (leaves_in x) ≡ true = sym c.contains.ensures.leaves ∙ c.if-contains.true in
    sym (ap (λ b. b || has_tag u (one_after_another (map leaves_in (drop (i + 1) xs)))) yes) ∙ sym (has_from u xs i x c.loop-tree-test.true c.tree-item.is) ∙ c.loop-tree.invariant

pub returns-then-contains-clause-tree : goal.returns-then-contains-clause-tree
returns-then-contains-clause-tree t c = λ tree e. returns-then-contains-clause-leaves t c ∙ ap (has_tag (tag_of c.args.tag)) (leaves_shown c.args.self.now tree e)

pub loop-tree-preserved : goal.loop-tree-preserved
loop-tree-preserved t c =
    let i = c.loop-tree.tree-index in let xs = c.in-Choice.trees.now in let x = c.tree-item.result in let u = tag_of c.args.tag in
    let no : has_tag u (leaves_in x) ≡ false = sym c.contains.ensures.leaves ∙ c.if-contains.false in
    sym (ap (λ b. b || has_tag u (one_after_another (map leaves_in (drop (i + 1) xs)))) no) ∙ sym (has_from u xs i x c.loop-tree-test.true c.tree-item.is) ∙ c.loop-tree.invariant

pub returns-in-Leaf-clause-tree : goal.returns-in-Leaf-clause-tree
returns-in-Leaf-clause-tree t c = λ tree e.
    let h : c.is_same_tag.result ≡ has_tag (tag_of c.args.tag) (leaves_in c.args.self.now) = search (rules, the_lemmas, fold-roll-TagTree, fold_out-TagTree) in
    h ∙ ap (has_tag (tag_of c.args.tag)) (leaves_shown c.args.self.now tree e)

pub returns-after-loop-tree-clause-tree : goal.returns-after-loop-tree-clause-tree
returns-after-loop-tree-clause-tree t c = λ tree e.
    let gone : drop c.loop-tree.tree-index c.in-Choice.trees.now ≡ [] = drop_all c.loop-tree.tree-index c.in-Choice.trees.now (omega (arith, c.loop-tree-test.false)) in
    sym (ap (λ ys. has_tag (tag_of c.args.tag) (one_after_another (map leaves_in ys))) gone) ∙ c.loop-tree.invariant
    ∙ ap (has_tag (tag_of c.args.tag)) (leaves_shown c.args.self.now tree e)
