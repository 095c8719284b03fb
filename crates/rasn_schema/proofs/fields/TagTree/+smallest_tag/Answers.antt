use Rattle.std.proofs.Common.{rules, arith, ◌≡◌, ◌∙◌, ◌+◌, ap, sym, Some, None, option_map, drop, map, []}
use Rattle.std.proofs.lemmas.List.{drop_all}
use Rattle.rasn_schema.specs.Structures.{tag_of}
use Rattle.rasn_schema.specs.TreeTags.{least, leaves_in, lesser_there, one_after_another}
use Rattle.rasn_schema.specs.declared.fields.TagTree.TheFolds.{fold-roll-TagTree, fold_out-TagTree}
use Rattle.rasn_schema.specs.declared.fields.TagTree.TheViews.{the_lemmas}
use Rattle.rasn_schema.proofs.TreeTags.{least_from, leaves_shown, smallest_is_least, there_both_ways, there_through}
use Rattle.rasn_schema.proofs.fields.TagTree.+smallest_tag.Goals as goal

pub loop-tree-preserved : goal.loop-tree-preserved
loop-tree-preserved t c =
    let i = c.loop-tree.tree-index in let xs = c.in-Choice.trees.now in let x = c.tree-item.result in
    let before = option_map tag_of c.loop-tree.smallest in let behind = least (one_after_another (map leaves_in (drop (i + 1) xs))) in
    ap (λ o. lesser_there o behind) (c.lesser-smallest.ensures ∙ ap (lesser_there before) c.smallest_tag.ensures.least)
    ∙ there_through before (least (leaves_in x)) behind
    ∙ ap (lesser_there before) (sym (least_from xs i x c.loop-tree-test.true c.tree-item.is))
    ∙ c.loop-tree.invariant

pub returns-in-Leaf-clause-smallest : goal.returns-in-Leaf-clause-smallest
returns-in-Leaf-clause-smallest t c = λ tree e.
    let h : Some (tag_of c.in-Leaf.tag) ≡ least (leaves_in c.args.self.now) = search (rules, the_lemmas, fold-roll-TagTree, fold_out-TagTree) in
    h ∙ ap least (leaves_shown c.args.self.now tree e) ∙ smallest_is_least tree

pub returns-after-loop-tree-clause-smallest : goal.returns-after-loop-tree-clause-smallest
returns-after-loop-tree-clause-smallest t c = λ tree e.
    let found = option_map tag_of c.loop-tree.smallest in
    let gone : drop c.loop-tree.tree-index c.in-Choice.trees.now ≡ [] = drop_all c.loop-tree.tree-index c.in-Choice.trees.now (omega (arith, c.loop-tree-test.false)) in
    sym (there_both_ways found None) ∙ sym (ap (λ ys. lesser_there found (least (one_after_another (map leaves_in ys)))) gone) ∙ c.loop-tree.invariant
    ∙ ap least (leaves_shown c.args.self.now tree e) ∙ smallest_is_least tree
