-- What holds of a choice's variants: they are those of its alternatives.
use Rattle.std.specs.Prelude.{◌≡◌, suc, List, length, map, Some, refl}
use Rattle.std.proofs.Common.{ap, ◌∙◌}
use Rattle.rasn_schema.specs.Choices.{VariantShape, tree_with, trees_in, variants_of}
use Rattle.rasn_schema.specs.Structures.{tags_of}
use Rattle.rasn_schema.specs.Fields.{and_tree, choice_tree, trees_of}
use Rattle.rasn_schema.specs.Schemas.{Parts, no_parts, part}

trees_stated : (ps : Parts) → trees_of (map (λ v. v.tree) (variants_of ps)) ≡ Some (trees_in ps)
trees_stated no_parts = refl
trees_stated (part t p s ps) = ap (and_tree t) (trees_stated ps)

-- the tag tree of an untagged choice is that of its alternatives
pub tree_described : {vs : List VariantShape} (ps : Parts) → vs ≡ variants_of ps
    → tree_with vs ≡ choice_tree (Some (trees_in ps))
tree_described ps e = ap tree_with e ∙ ap choice_tree (trees_stated ps)

length-variants : (ps : Parts) → length (variants_of ps) ≡ length (tags_of ps)
length-variants no_parts = refl
length-variants (part t p s ps) = ap suc (length-variants ps)

-- there is a variant for each alternative
pub variants_counted : {vs : List VariantShape} (ps : Parts) → vs ≡ variants_of ps → length vs ≡ length (tags_of ps)
variants_counted ps e = ap length e ∙ length-variants ps
