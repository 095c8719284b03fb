use Rattle.std.proofs.Common.{rules, ◌≡◌, ap, map, sym, ◌∙◌}
use Rattle.std.proofs.lemmas.Simd.{map-map}
use Rattle.rasn_schema.specs.Choices.{VariantShapes, tree_with, variant_shape}
use Rattle.rasn_schema.specs.Fields.{choice_tree, tree_of, trees_of}
use Rattle.rasn_schema.specs.declared.fields.TagTree.TheFolds.{fold_out-TagTree}
use Rattle.rasn_schema.specs.declared.fields.TagTree.TheViews
use Rattle.rasn_schema.specs.declared.fields.TagTree.TheViews.{the_lemmas}
use Rattle.rasn_schema.proofs.alternatives.ChoiceKindKind.TAG_TREE.Goals as goal

pub returns : goal.returns
returns g c =
    let list = c.ALTERNATIVES-2.inside.root in
    let one : tree_of (TheViews.Choice list) ≡ choice_tree (trees_of (map tree_of list.now)) = search (rules, the_lemmas, fold_out-TagTree) in
    one
    ∙ ap (λ ts. choice_tree (trees_of ts)) (sym (map-map (λ v. v.tree) variant_shape list.now))
    ∙ ap (λ (s : VariantShapes). tree_with s.before) (c.ALTERNATIVES-2.view_is ∙ c.ALTERNATIVES.ensures)
