-- Values by a table whose normal forms are defaults.
use Rattle.std.proofs.Common.{◌≡◌, refl, sym, ap, ap₂, ◌∙◌, subst, ℕ, zero, suc, max, ◌+◌, ◌<◌, ◌≤◌, Bool, true, false, List, [], ◌∷◌, map, length, drop, get_or, Option, Some, None, arith}
use Rattle.std.specs.Prelude.{◌&&◌, is_some, slice_get}
use Rattle.std.proofs.lemmas.Bool.Decides.{same_from_decides}
use Rattle.rasn_types.specs.Values
use Rattle.rasn_types.specs.Values.{Value as Content, alternative, bag_of, same}
use Rattle.rasn_schema.specs.Normal.{AtDepths, are_idle, is_idle, is_vacant, normal, normals, settle}
use Rattle.rasn_schema.specs.Lists.{deepest}
use Rattle.rasn_schema.specs.Structures.{list_value, record_value}
use Rattle.rasn_schema.specs.Schemas
use Rattle.rasn_schema.specs.Schemas.{Schema}
use Rattle.rasn_schema.specs.declared.items.Place.{Place}
use Rattle.rasn_schema.specs.declared.items.Place.TheVariants.{Root, Added}
use Rattle.rasn_traits.specs.Counted.{index_in, item_at, side_of}
use Rattle.rasn_dynamic.specs.declared.types.Component.{Component}
use Rattle.rasn_dynamic.specs.declared.types.DefaultTree.{DefaultTree}
use Rattle.rasn_dynamic.specs.declared.types.Kind.{Kind}
use Rattle.rasn_dynamic.specs.declared.types.Kind.TheVariants.{Record as RecordKind}
use Rattle.rasn_dynamic.specs.declared.types.Presence.{Presence}
use Rattle.rasn_dynamic.specs.declared.types.Presence.TheVariants.{Default, Group, Optional, Required}
use Rattle.rasn_dynamic.specs.declared.types.Record.{Record}
use Rattle.rasn_dynamic.specs.declared.values.Value.{Value}
use Rattle.rasn_dynamic.specs.declared.values.Value.TheOpen.{Value-F, Elements, Fields, Alternative}
use Rattle.rasn_dynamic.specs.declared.values.Value.TheViews
use Rattle.rasn_dynamic.specs.declared.values.Value.TheViews.{roll-Value}
use Rattle.rasn_dynamic.specs.declared.values.Value.TheVariants.{rolls-Elements, rolls-Fields, rolls-Alternative}
use Rattle.rasn_dynamic.specs.declared.values.Value.TheFolds.{fold-roll-Value, ind-Value, map-Value}
use Rattle.rasn_dynamic.specs.Defaults.{all_pairs, chosen_place, components_at, element_place, group_of, groups, record_of, same_slot, settled}
use Rattle.rasn_dynamic.specs.Types.{behind, grouped, in_root, parts_in, presence_of, record_schema, schema_at, tree_slot, tree_value}
use Rattle.rasn_dynamic.specs.Values.{levels_of, slot_of, slot_step, there, value_of}
use Rattle.rasn_dynamic.proofs.NormalForms.{chosen_normal, elements_normal, fields_normal, idle_pairs, lists_same, of_shape, records_same, same_decides, shape}
use Rattle.rasn_dynamic.proofs.Pairs.{both_decide, pairs_of}
use Rattle.rasn_dynamic.proofs.Places.{record_there}
use Rattle.rasn_dynamic.proofs.SameDefaults.{same_self}
use Rattle.rasn_dynamic.proofs.Trees.{alternative_levels, alternative_value, elements_levels, elements_value, fields_levels, fields_value}

roll_slot : (x : Value-F Value) → slot_of (roll-Value x) ≡ slot_step (map-Value Value (Option Content) slot_of x)
roll_slot x = fold-roll-Value (Option Content) slot_step x

-- ---- values that aren't of a variant

abbrev Unlisted : Value → Type 0
Unlisted v = ((y : _) → v ≡ TheViews.Elements y → ⊥) → shape (value_of v) ≡ 1 → ⊥

unlisted_roll : (x : Value-F Value) → Unlisted (roll-Value x)
unfolding bag_of
unlisted_roll (Elements y) h = absurd (h y (rolls-Elements y))
unlisted_roll x h = subst (λ w. shape w ≡ 1 → ⊥) (sym (ap there (roll_slot x))) (λ e. cc)

no_list_shape : (v : Value) → Unlisted v
no_list_shape = ind-Value Unlisted (λ x y is. unlisted_roll x)

abbrev Unrecorded : Value → Type 0
Unrecorded v = ((y z : _) → v ≡ TheViews.Fields y z → ⊥) → shape (value_of v) ≡ 2 → ⊥

unrecorded_roll : (x : Value-F Value) → Unrecorded (roll-Value x)
unfolding bag_of
unrecorded_roll (Fields y z) h = absurd (h y z (rolls-Fields y z))
unrecorded_roll x h = subst (λ w. shape w ≡ 2 → ⊥) (sym (ap there (roll_slot x))) (λ e. cc)

pub no_record_shape : (v : Value) → Unrecorded v
no_record_shape = ind-Value Unrecorded (λ x y is. unrecorded_roll x)

abbrev Unchosen : Value → Type 0
Unchosen v = ((y z : _) → v ≡ TheViews.Alternative y z → ⊥) → shape (value_of v) ≡ 3 → ⊥

unchosen_roll : (x : Value-F Value) → Unchosen (roll-Value x)
unfolding bag_of
unchosen_roll (Alternative y z) h = absurd (h y z (rolls-Alternative y z))
unchosen_roll x h = subst (λ w. shape w ≡ 3 → ⊥) (sym (ap there (roll_slot x))) (λ e. cc)

no_choice_shape : (v : Value) → Unchosen v
no_choice_shape = ind-Value Unchosen (λ x y is. unchosen_roll x)

-- ---- two alternatives

pub chosen_same : (p q : Place) (w d : Content) → (same (item_at p) (item_at q) && same w d) ≡ same (alternative (side_of p) (index_in p) w) (alternative (side_of q) (index_in q) d)
chosen_same p q w d =
    same_from_decides _ _ (both_decide (same (item_at p) (item_at q)) (same w d) (same_decides (item_at p) (item_at q)) (same_decides w d) (to p q) (of p q)) (same_decides (alternative (side_of p) (index_in p) w) (alternative (side_of q) (index_in q) d))
  where
    to : (p q : Place) → item_at p ≡ item_at q → w ≡ d → alternative (side_of p) (index_in p) w ≡ alternative (side_of q) (index_in q) d
    to (Root i) (Root j) e f = cc
    to (Root i) (Added j) e f = absurd cc
    to (Added i) (Root j) e f = absurd cc
    to (Added i) (Added j) e f = cc

    of : (p q : Place) → alternative (side_of p) (index_in p) w ≡ alternative (side_of q) (index_in q) d → (item_at p ≡ item_at q) × (w ≡ d)
    of (Root i) (Root j) e = (cc, cc)
    of (Root i) (Added j) e = absurd cc
    of (Added i) (Root j) e = absurd cc
    of (Added i) (Added j) e = (cc, cc)

pub same_chosen : (p : Place) (w d : Content) → same w d ≡ same (alternative (side_of p) (index_in p) w) (alternative (side_of p) (index_in p) d)
same_chosen p w d = ap (λ a. a && same w d) (sym (same_self (item_at p))) ∙ chosen_same p p w d

normals_mapped : (s : Schema) (vs : List Value) → map (normal s) (map value_of vs) ≡ map (λ w. normal s (value_of w)) vs
normals_mapped s [] = refl
normals_mapped s (v ∷ vs) = ap (λ ws. normal s (value_of v) ∷ ws) (normals_mapped s vs)

-- ---- what holds values, by what it holds

module _ (ts : List Kind) (i : ℕ) (v : Value) where
  pub list_told : (x : _) (ds : List DefaultTree) (b : Bool) → v ≡ TheViews.Elements x
      → AtDepths (schema_at ts (element_place ts i)) (deepest levels_of x.items) (λ s. b ≡ all_pairs (λ w d. same (normal s (value_of w)) (tree_value d)) x.items ds)
      → AtDepths (schema_at ts i) (levels_of v) (λ s. b ≡ same (normal s (value_of v)) (list_value (map tree_value ds)))
  list_told x ds b e h = record { at = go }
    where
      f : v ≡ roll-Value (Elements x)
      f = e ∙ sym (rolls-Elements x)

      go : (n : ℕ) → levels_of v ≤ n → b ≡ same (normal (schema_at ts i n) (value_of v)) (list_value (map tree_value ds))
      go zero le = absurd (omega (arith, le, elements_levels v x f))
      go (suc n) le =
          let t = schema_at ts (element_place ts i) n in
          h.at n (omega (arith, le, elements_levels v x f))
          ∙ pairs_of same (λ w. normal t (value_of w)) tree_value x.items ds
          ∙ lists_same (map (λ w. normal t (value_of w)) x.items) (map tree_value ds)
          ∙ ap (λ w. same w (list_value (map tree_value ds))) (sym (ap (normal (schema_at ts i (suc n))) (elements_value v x f) ∙ elements_normal ts i n (map value_of x.items) ∙ ap list_value (normals_mapped t x.items)))

  pub no_list_told : (ds : List DefaultTree) → ((y : _) → v ≡ TheViews.Elements y → ⊥)
      → AtDepths (schema_at ts i) (levels_of v) (λ s. false ≡ same (normal s (value_of v)) (list_value (map tree_value ds)))
  no_list_told ds h = record { at = λ n le. of_shape (schema_at ts i n) (value_of v) (list_value (map tree_value ds)) (no_list_shape v h) }

  -- whether the parts of a record, after its marker or before it, come to those of a default
  abbrev pub PartsCome : Bool → List Value → List DefaultTree → Bool → ℕ → Type 0
  PartsCome g vs ds b n = b ≡ all_pairs same_slot (normals (parts_in (groups g ts) (λ j. schema_at ts j n) (components_at ts i g)) (map slot_of vs)) (map tree_slot ds)

  module _ (x y : _) (e : v ≡ TheViews.Fields x y) (rs xs : List DefaultTree) where
    f : v ≡ roll-Value (Fields x y)
    f = e ∙ sym (rolls-Fields x y)

    both_told : (a b : Bool) (n : ℕ) → PartsCome false x.items rs a n → PartsCome true y.items xs b n
        → (a && b) ≡ same (normal (schema_at ts i (suc n)) (value_of v)) (record_value (map tree_slot rs) (map tree_slot xs))
    both_told a b n h k =
        ap₂ (λ p q. p && q) h k
        ∙ records_same _ _ (map tree_slot rs) (map tree_slot xs)
        ∙ ap (λ w. same w (record_value (map tree_slot rs) (map tree_slot xs))) (sym (ap (normal (schema_at ts i (suc n))) (fields_value v x y f) ∙ fields_normal ts i n (map slot_of x.items) (map slot_of y.items)))

    pub record_told : (a b : Bool) → a ≡ true → ((n : ℕ) → deepest levels_of x.items ≤ n → PartsCome false x.items rs a n) → ((n : ℕ) → deepest levels_of y.items ≤ n → PartsCome true y.items xs b n)
        → AtDepths (schema_at ts i) (levels_of v) (λ s. b ≡ same (normal s (value_of v)) (record_value (map tree_slot rs) (map tree_slot xs)))
    record_told a b t h k = record { at = go }
      where
        go : (n : ℕ) → levels_of v ≤ n → b ≡ same (normal (schema_at ts i n) (value_of v)) (record_value (map tree_slot rs) (map tree_slot xs))
        go zero le = absurd (omega (arith, le, fields_levels v x y f))
        go (suc n) le = sym (ap (λ p. p && b) t) ∙ both_told a b n (h n (omega (arith, le, fields_levels v x y f))) (k n (omega (arith, le, fields_levels v x y f)))

    pub record_untold : (a : Bool) → a ≡ false → ((n : ℕ) → deepest levels_of x.items ≤ n → PartsCome false x.items rs a n)
        → AtDepths (schema_at ts i) (levels_of v) (λ s. false ≡ same (normal s (value_of v)) (record_value (map tree_slot rs) (map tree_slot xs)))
    record_untold a t h = record { at = go }
      where
        go : (n : ℕ) → levels_of v ≤ n → false ≡ same (normal (schema_at ts i n) (value_of v)) (record_value (map tree_slot rs) (map tree_slot xs))
        go zero le = absurd (omega (arith, le, fields_levels v x y f))
        go (suc n) le =
            let b = all_pairs same_slot (normals (parts_in (groups true ts) (λ j. schema_at ts j n) (components_at ts i true)) (map slot_of y.items)) (map tree_slot xs) in
            sym (ap (λ p. p && b) t) ∙ both_told a b n (h n (omega (arith, le, fields_levels v x y f))) refl

  pub no_record_told : (d : List (Option Content)) (e : List (Option Content)) → ((y z : _) → v ≡ TheViews.Fields y z → ⊥)
      → AtDepths (schema_at ts i) (levels_of v) (λ s. false ≡ same (normal s (value_of v)) (record_value d e))
  no_record_told d e h = record { at = λ n le. of_shape (schema_at ts i n) (value_of v) (record_value d e) (no_record_shape v h) }

  module _ (p q : Place) (x : _) (e : v ≡ TheViews.Alternative p x) (d : DefaultTree) (a : Bool) (same_place : a ≡ same (item_at p) (item_at q)) where
    u : v ≡ roll-Value (Alternative p x)
    u = e ∙ sym (rolls-Alternative p x)

    alternative_told : (b : Bool) (n : ℕ) → b ≡ same (normal (schema_at ts (chosen_place ts i p) n) (value_of x.value)) (tree_value d)
        → (a && b) ≡ same (normal (schema_at ts i (suc n)) (value_of v)) (alternative (side_of q) (index_in q) (tree_value d))
    alternative_told b n h =
        ap₂ (λ m l. m && l) same_place h
        ∙ chosen_same p q _ (tree_value d)
        ∙ ap (λ w. same w (alternative (side_of q) (index_in q) (tree_value d))) (sym (ap (normal (schema_at ts i (suc n))) (alternative_value v p x u) ∙ chosen_normal ts i n p (value_of x.value)))

    pub chosen_told : (b : Bool) → a ≡ true → AtDepths (schema_at ts (chosen_place ts i p)) (levels_of x.value) (λ s. b ≡ same (normal s (value_of x.value)) (tree_value d))
        → AtDepths (schema_at ts i) (levels_of v) (λ s. b ≡ same (normal s (value_of v)) (alternative (side_of q) (index_in q) (tree_value d)))
    chosen_told b t h = record { at = go }
      where
        go : (n : ℕ) → levels_of v ≤ n → b ≡ same (normal (schema_at ts i n) (value_of v)) (alternative (side_of q) (index_in q) (tree_value d))
        go zero le = absurd (omega (arith, le, alternative_levels v p x u))
        go (suc n) le = sym (ap (λ m. m && b) t) ∙ alternative_told b n (h.at n (omega (arith, le, alternative_levels v p x u)))

    pub other_chosen : a ≡ false → AtDepths (schema_at ts i) (levels_of v) (λ s. false ≡ same (normal s (value_of v)) (alternative (side_of q) (index_in q) (tree_value d)))
    other_chosen t = record { at = go }
      where
        go : (n : ℕ) → levels_of v ≤ n → false ≡ same (normal (schema_at ts i n) (value_of v)) (alternative (side_of q) (index_in q) (tree_value d))
        go zero le = absurd (omega (arith, le, alternative_levels v p x u))
        go (suc n) le =
            let b = same (normal (schema_at ts (chosen_place ts i p) n) (value_of x.value)) (tree_value d) in
            sym (ap (λ m. m && b) t) ∙ alternative_told b n refl

  pub no_choice_told : (d : Values.Side) (k : ℕ) (w : Content) → ((y z : _) → v ≡ TheViews.Alternative y z → ⊥)
      → AtDepths (schema_at ts i) (levels_of v) (λ s. false ≡ same (normal s (value_of v)) (alternative d k w))
  no_choice_told d k w h = record { at = λ n le. of_shape (schema_at ts i n) (value_of v) (alternative d k w) (no_choice_shape v h) }
