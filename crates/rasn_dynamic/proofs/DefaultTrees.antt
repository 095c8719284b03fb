-- What a default is, by its outermost level.
use Rattle.std.proofs.Common.{◌≡◌, refl, sym, ap, ◌∙◌, List, [], ◌∷◌, map, Option, Some, None}
use Rattle.std.specs.Global.{Vec}
use Rattle.rasn_types.specs.Values.{Value as Content}
use Rattle.rasn_schema.specs.Structures.{list_value}
use Rattle.rasn_dynamic.specs.declared.types.DefaultTree.{DefaultTree}
use Rattle.rasn_dynamic.specs.declared.types.DefaultTree.TheOpen.{DefaultTree-F, Elements}
use Rattle.rasn_dynamic.specs.declared.types.DefaultTree.TheViews
use Rattle.rasn_dynamic.specs.declared.types.DefaultTree.TheViews.{roll-DefaultTree}
use Rattle.rasn_dynamic.specs.declared.types.DefaultTree.TheVariants.{rolls-Elements}
use Rattle.rasn_dynamic.specs.declared.types.DefaultTree.TheFolds.{fold-roll-DefaultTree, map-DefaultTree}
use Rattle.rasn_dynamic.specs.declared.values.Value.{Value}
use Rattle.rasn_dynamic.specs.declared.values.Value.TheViews as Values
use Rattle.rasn_dynamic.specs.Types.{stated, tree_slot, tree_step, tree_value}
use Rattle.rasn_dynamic.specs.Values.{slot_of, there, value_of}
use Rattle.rasn_dynamic.proofs.Trees.{elements_slot}

roll_tree : (x : DefaultTree-F DefaultTree) → tree_slot (roll-DefaultTree x) ≡ tree_step (map-DefaultTree DefaultTree (Option Content) tree_slot x)
roll_tree x = fold-roll-DefaultTree (Option Content) tree_step x

all_stated : (ds : List DefaultTree) → map stated (map tree_slot ds) ≡ map tree_value ds
all_stated [] = refl
all_stated (d ∷ ds) = ap (λ ws. tree_value d ∷ ws) (all_stated ds)

pub tree_elements : (x : _) → tree_slot (TheViews.Elements x) ≡ Some (list_value (map tree_value x.items))
tree_elements x = ap tree_slot (sym (rolls-Elements x)) ∙ roll_tree (Elements x) ∙ ap (λ vs. Some (list_value vs)) (all_stated x.items)

-- values that stand for defaults
all_there : (vs : List Value) → map there (map slot_of vs) ≡ map value_of vs
all_there [] = refl
all_there (v ∷ vs) = ap (λ ws. value_of v ∷ ws) (all_there vs)

some_there : (ds : List DefaultTree) → map there (map (λ d. Some (tree_value d)) ds) ≡ map tree_value ds
some_there [] = refl
some_there (d ∷ ds) = ap (λ ws. tree_value d ∷ ws) (some_there ds)

pub elements_made : (x : Vec Value) (y : Vec DefaultTree) (ds : List DefaultTree) (d : DefaultTree) → map slot_of x.items ≡ map (λ d. Some (tree_value d)) ds → ds ≡ y.items → d ≡ TheViews.Elements y → slot_of (Values.Elements x) ≡ tree_slot d
elements_made x y ds d e f h =
    elements_slot x
    ∙ ap (λ vs. Some (list_value vs)) (sym (all_there x.items) ∙ ap (map there) e ∙ some_there ds ∙ ap (map tree_value) f)
    ∙ sym (ap tree_slot h ∙ tree_elements y)

pub elements_stated : (y : Vec DefaultTree) (ds : List DefaultTree) (d : DefaultTree) → ds ≡ y.items → d ≡ TheViews.Elements y → list_value (map tree_value ds) ≡ tree_value d
elements_stated y ds d f h = ap (λ us. list_value (map tree_value us)) f ∙ sym (ap stated (ap tree_slot h ∙ tree_elements y))
