-- Defaults that hold values, by what they hold.
use Rattle.std.proofs.Common.{◌≡◌, refl, sym, ap, ap₂, ◌∙◌, ℕ, zero, suc, max, ◌+◌, ◌^◌, ◌<◌, ◌≤◌, Bool, true, false, cond, ◌&&◌, List, [], ◌∷◌, map, length, take, get_or, Option, Some, None, arith, lt-ltb}
use Rattle.std.specs.Prelude.{is_some, not, slice_get, nat_lt}
use Rattle.std.proofs.lemmas.List.{take_all}
use Rattle.rasn_types.specs.Values
use Rattle.rasn_types.specs.Values.{Value, alternative, as_slots, as_values, same, slots, values}
use Rattle.rasn_types.proofs.Codes.{same_true}
use Rattle.rasn_types.proofs.Values.{slots-as_slots, values-as_values}
use Rattle.rasn_schema.specs.Normal.{AtDepths, are_idle, is_idle, is_vacant, normal, normals}
use Rattle.rasn_schema.specs.Lawful.{all_pass, are_values, if_bag, is_countable, is_value, is_value_at, slot_passes}
use Rattle.rasn_schema.specs.Lists.{deepest}
use Rattle.rasn_schema.specs.Structures.{list_value, record_value}
use Rattle.rasn_schema.specs.Schemas
use Rattle.rasn_schema.specs.Schemas.{Schema}
use Rattle.rasn_schema.specs.declared.items.Place.{Place}
use Rattle.rasn_schema.specs.declared.items.Place.TheVariants.{Root, Added}
use Rattle.rasn_traits.specs.Counted.{index_in, side_of}
use Rattle.per_laws.specs.Levels.{levels_of, levels_of_slots, levels_of_values}
use Rattle.rasn_dynamic.specs.declared.types.Alternative.{Alternative}
use Rattle.rasn_dynamic.specs.declared.types.Component.{Component}
use Rattle.rasn_dynamic.specs.declared.types.DefaultTree.{DefaultTree}
use Rattle.rasn_dynamic.specs.declared.types.DefaultTree.TheViews
use Rattle.rasn_dynamic.specs.declared.types.DefaultValue.{DefaultValue}
use Rattle.rasn_dynamic.specs.declared.types.Kind.{Kind}
use Rattle.rasn_dynamic.specs.declared.types.Kind.TheVariants.{Simple as SimpleKind, Date, List as ListKind, SetOf, Record as RecordKind, Choice as ChoiceKind, Containing, Open as OpenKind}
use Rattle.rasn_dynamic.specs.declared.types.Presence.{Presence}
use Rattle.rasn_dynamic.specs.declared.types.Presence.TheVariants.{Default, Group, Optional, Required}
use Rattle.rasn_dynamic.specs.declared.types.Simple.{Simple}
use Rattle.rasn_dynamic.specs.declared.types.Simple.TheVariants.{Boolean}
use Rattle.rasn_dynamic.specs.declared.types.Record.{Record}
use Rattle.rasn_dynamic.specs.Defaults.{all_pairs, chosen_in, chosen_place, group_of, groups, place_in, record_of, same_slot, settled}
use Rattle.rasn_dynamic.specs.Types.{alternatives_in, at_place, behind, default_value, grouped, in_root, parts_in, plain_at, presence_of, record_schema, schema_at, simple_schema, stated, tree_slot, tree_value, within}
use Rattle.rasn_schema.proofs.Places.{and_second}
use Rattle.rasn_dynamic.proofs.ComparedParts.{group_stands, settle_part}
use Rattle.rasn_dynamic.proofs.Comparing.{same_chosen}
use Rattle.rasn_dynamic.proofs.NormalForms.{chosen_normal, idle_pairs, lists_same, past_none, records_same, shape, within_normal}
use Rattle.rasn_dynamic.proofs.Places.{containing_there, none_there, plain_there, record_there}
use Rattle.lawful_types.specs.TypeRules.{is_default_of, is_right, is_right_slot, list_of, tree_levels}
use Rattle.lawful_types.proofs.Lawful.{plain_right}
use Rattle.lawful_types.proofs.Pairwise.{pairs_mapped}
use Rattle.lawful_types.proofs.SameTrees.{unrecorded}

-- ---- how many levels a default takes

pub list_levels : (ds : List DefaultTree) → levels_of (list_value (map tree_value ds)) ≡ suc (deepest tree_levels ds)
unfolding levels_of
list_levels ds = ap suc (go ds)
  where
    go : (ds : List DefaultTree) → levels_of_values (as_values (map tree_value ds)) ≡ deepest tree_levels ds
    go [] = refl
    go (d ∷ ds) = ap (max (tree_levels d)) (go ds)

slots_deep : (ds : List DefaultTree) → levels_of_slots (as_slots (map tree_slot ds)) ≡ deepest tree_levels ds
unfolding levels_of
slots_deep [] = refl
slots_deep (d ∷ ds) = go (tree_slot d) (slots_deep ds)
  where
    go : (o : Option Value) → levels_of_slots (as_slots (map tree_slot ds)) ≡ deepest tree_levels ds → levels_of_slots (as_slots (o ∷ map tree_slot ds)) ≡ max (levels_of (stated o)) (deepest tree_levels ds)
    go None h = h ∙ omega arith
    go (Some v) h = ap (max (levels_of v)) h

pub record_levels : (rs xs : List DefaultTree) → levels_of (record_value (map tree_slot rs) (map tree_slot xs)) ≡ suc (max (deepest tree_levels rs) (deepest tree_levels xs))
unfolding levels_of
record_levels rs xs = ap₂ (λ a b. suc (max a b)) (slots_deep rs) (slots_deep xs)

-- ---- what is at a place, or is contained there

within_value : (ts : List Kind) (i n : ℕ) (v : Value) → is_value (schema_at ts i n) v ≡ is_value (at_place (λ k. plain_at ts k n) (within ts (slice_get ts i))) v
unfolding is_value
within_value ts i n v = go (slice_get ts i) refl
  where
    go : (o : Option Kind) → slice_get ts i ≡ o → is_value (schema_at ts i n) v ≡ is_value (at_place (λ k. plain_at ts k n) (within ts o)) v
    go None e = ap (λ s. is_value s v) (none_there ts i e n)
    go (Some (Containing j)) e = ap (λ s. is_value s v) (containing_there ts i j e n)
    go (Some k) e = ap (λ s. is_value s v) (plain_there ts i k e (λ j f. absurd cc) n)

within_right : (ts : List Kind) (i n : ℕ) (v : Value) → is_right (schema_at ts i n) v ≡ is_right (at_place (λ k. plain_at ts k n) (within ts (slice_get ts i))) v
within_right ts i n v = ap₂ (λ a w. a && same w v) (within_value ts i n v) (within_normal ts i n v)

-- past the table there are none
past_value : (ts : List Kind) (n : ℕ) (v : Value) → is_value (schema_at ts (length ts) n) v ≡ false
unfolding is_value
past_value ts n v = ap (λ s. is_value s v) (none_there ts (length ts) (past_none ts) n)

and_four : (a b c d : Bool) → ((a && b) && (c && d)) ≡ ((a && c) && (b && d))
and_four true b true d = refl
and_four true true false d = refl
and_four true false false d = refl
and_four false b c d = refl

-- ---- types in which no other stands

simple_no_elements : (k : Simple) (vs : Values.Values) → is_value (simple_schema k) (Values.elements vs) ≡ false
unfolding is_value
simple_no_elements Boolean vs = refl
simple_no_elements _ vs = refl

simple_no_fields : (k : Simple) (rs xs : Values.Slots) → is_value (simple_schema k) (Values.fields rs xs) ≡ false
unfolding is_value
simple_no_fields Boolean rs xs = refl
simple_no_fields _ rs xs = refl

simple_no_choice : (k : Simple) (d : Values.Side) (i : ℕ) (w : Value) → is_value (simple_schema k) (alternative d i w) ≡ false
unfolding is_value
simple_no_choice Boolean d i w = refl
simple_no_choice _ d i w = refl

-- ---- lists

all_right : (s : Schema) (vs : List Value) → (all_pass (is_value s) vs && all_pairs same (map (normal s) vs) vs) ≡ all_pass (is_right s) vs
all_right s [] = refl
all_right s (v ∷ vs) = and_four (is_value s v) (all_pass (is_value s) vs) (same (normal s v) v) (all_pairs same (map (normal s) vs) vs) ∙ ap (λ b. is_right s v && b) (all_right s vs)

all_mapped : (s : Schema) (ds : List DefaultTree) → all_pass (is_right s) (map tree_value ds) ≡ all_pass (λ d. is_right s (tree_value d)) ds
all_mapped s [] = refl
all_mapped s (d ∷ ds) = ap (λ b. is_right s (tree_value d) && b) (all_mapped s ds)

map_count : {A B : Type 0} (f : A → B) (xs : List A) → length (map f xs) ≡ length xs
map_count f [] = refl
map_count f (x ∷ xs) = ap suc (map_count f xs)

module _ (ts : List Kind) (i n : ℕ) (ds : List DefaultTree) where
  pub list_right : (j : ℕ) (c : _) → within ts (slice_get ts i) ≡ Some (ListKind j c) → nat_lt (length ds) (2 ^ 64) ≡ true → is_right (schema_at ts i (suc n)) (list_value (map tree_value ds)) ≡ all_pass (λ d. is_right (schema_at ts j n) (tree_value d)) ds
  unfolding is_value normal
  list_right j c e l =
      within_right ts i (suc n) (list_value (map tree_value ds))
      ∙ ap (λ o. is_right (at_place (λ k. plain_at ts k (suc n)) o) (list_value (map tree_value ds))) e
      ∙ ap (λ vs. (is_countable vs && all_pass (is_value (schema_at ts j n)) vs) && same (list_value (map (normal (schema_at ts j n)) vs)) (list_value (map tree_value ds))) (values-as_values (map tree_value ds))
      ∙ ap (λ b. (b && all_pass (is_value (schema_at ts j n)) (map tree_value ds)) && same (list_value (map (normal (schema_at ts j n)) (map tree_value ds))) (list_value (map tree_value ds))) (ap (λ (k : ℕ). nat_lt k (2 ^ 64)) (map_count tree_value ds) ∙ l)
      ∙ ap (λ b. all_pass (is_value (schema_at ts j n)) (map tree_value ds) && b) (sym (lists_same (map (normal (schema_at ts j n)) (map tree_value ds)) (map tree_value ds)))
      ∙ all_right (schema_at ts j n) (map tree_value ds)
      ∙ all_mapped (schema_at ts j n) ds

  pub no_list_right : ((j : ℕ) (c : _) → within ts (slice_get ts i) ≡ Some (ListKind j c) → ⊥) → false ≡ is_right (schema_at ts i (suc (suc n))) (list_value (map tree_value ds))
  unfolding is_value if_bag
  no_list_right h = go (within ts (slice_get ts i)) h ∙ sym (within_right ts i (suc (suc n)) (list_value (map tree_value ds)))
    where
      go : (o : Option Kind) → ((j : ℕ) (c : _) → o ≡ Some (ListKind j c) → ⊥) → false ≡ is_right (at_place (λ k. plain_at ts k (suc (suc n))) o) (list_value (map tree_value ds))
      go None h = refl
      go (Some (SimpleKind k)) h = ap (λ b. b && same (normal (simple_schema k) (list_value (map tree_value ds))) (list_value (map tree_value ds))) (sym (simple_no_elements k (as_values (map tree_value ds))))
      go (Some Date) h = refl
      go (Some (ListKind j c)) h = absurd (h j c refl)
      go (Some (SetOf j c)) h = refl
      go (Some (RecordKind r)) h = refl
      go (Some (ChoiceKind c)) h = refl
      go (Some (Containing j)) h = refl
      go (Some (OpenKind o)) h = refl

-- ---- choices

is_in_place : (ts : List Kind) (n : ℕ) (cs : List Alternative) (i : ℕ) (v : Value) → is_value_at (alternatives_in (λ j. schema_at ts j n) cs) i v ≡ is_value (schema_at ts (place_in ts (slice_get cs i)) n) v
unfolding is_value
is_in_place ts n [] i v = sym (past_value ts n v)
is_in_place ts n (c ∷ cs) zero v = refl
is_in_place ts n (c ∷ cs) (suc i) v = is_in_place ts n cs i v

module _ (ts : List Kind) (i n : ℕ) (p : Place) (v : Value) where
  chosen_value : is_value (schema_at ts i (suc (suc n))) (alternative (side_of p) (index_in p) v) ≡ is_value (schema_at ts (chosen_place ts i p) (suc n)) v
  unfolding is_value if_bag
  chosen_value = within_value ts i (suc (suc n)) (alternative (side_of p) (index_in p) v) ∙ go (within ts (slice_get ts i)) p
    where
      past : (p : Place) → false ≡ is_value (schema_at ts (length ts) (suc n)) v
      past p = sym (past_value ts (suc n) v)

      go : (o : Option Kind) (p : Place) → is_value (at_place (λ k. plain_at ts k (suc (suc n))) o) (alternative (side_of p) (index_in p) v) ≡ is_value (schema_at ts (chosen_in ts o p) (suc n)) v
      go None p = past p
      go (Some (SimpleKind k)) p = simple_no_choice k (side_of p) (index_in p) v ∙ past p
      go (Some Date) p = past p
      go (Some (ListKind j c)) p = past p
      go (Some (SetOf j c)) p = past p
      go (Some (RecordKind r)) p = past p
      go (Some (ChoiceKind c)) (Root k) = is_in_place ts (suc n) c.roots.items k v
      go (Some (ChoiceKind c)) (Added k) = is_in_place ts (suc n) (behind c.addeds) k v
      go (Some (Containing j)) p = past p
      go (Some (OpenKind o)) p = past p

  pub chosen_right : is_right (schema_at ts i (suc (suc n))) (alternative (side_of p) (index_in p) v) ≡ is_right (schema_at ts (chosen_place ts i p) (suc n)) v
  chosen_right = ap₂ (λ a w. a && same w (alternative (side_of p) (index_in p) v)) chosen_value (chosen_normal ts i (suc n) p v) ∙ ap (λ b. is_value (schema_at ts (chosen_place ts i p) (suc n)) v && b) (same_inside p)
    where
      same_inside : (p : Place) → same (alternative (side_of p) (index_in p) (normal (schema_at ts (chosen_place ts i p) (suc n)) v)) (alternative (side_of p) (index_in p) v) ≡ same (normal (schema_at ts (chosen_place ts i p) (suc n)) v) v
      same_inside p = sym (same_chosen p (normal (schema_at ts (chosen_place ts i p) (suc n)) v) v)

-- ---- records

module _ (b : Bool) (ts : List Kind) (n : ℕ) where
  abbrev ps : List Component → Schemas.Parts
  ps cs = parts_in (groups b ts) (λ j. schema_at ts j n) cs

  slots_right : (cs : List Component) (os : List (Option Value)) → (are_values (ps cs) os && all_pairs same_slot (normals (ps cs) os) os) ≡ all_pairs (is_right_slot b ts n) cs os
  unfolding is_value normal
  slots_right [] [] = refl
  slots_right [] (o ∷ os) = refl
  slots_right (c ∷ cs) [] = refl
  slots_right (c ∷ cs) (None ∷ os) =
      and_four (slot_passes (presence_of (groups b ts c) c.presence) (is_value (schema_at ts c.of n)) None) (are_values (ps cs) os) true (all_pairs same_slot (normals (ps cs) os) os)
      ∙ ap (λ a. is_right_slot b ts n c None && a) (slots_right cs os)
  slots_right (c ∷ cs) (Some v ∷ os) =
      and_four (is_value (schema_at ts c.of n) v) (are_values (ps cs) os) (same_slot (settled (groups b ts) (λ j. schema_at ts j n) (Some c) (Some v)) (Some v)) (all_pairs same_slot (normals (ps cs) os) os)
      ∙ ap (λ a. is_right_slot b ts n c (Some v) && a) (slots_right cs os)

module _ (ts : List Kind) (i n : ℕ) (rs xs : List (Option Value)) where
  pub record_right : (r : Record) → within ts (slice_get ts i) ≡ Some (RecordKind r) → is_right (schema_at ts i (suc n)) (record_value rs xs) ≡ (all_pairs (is_right_slot false ts n) r.root.items rs && all_pairs (is_right_slot true ts n) (behind r.additions) xs)
  unfolding is_value normal
  record_right r e =
      let p = parts_in in_root (λ j. schema_at ts j n) r.root.items in
      let q = parts_in (grouped ts) (λ j. schema_at ts j n) (behind r.additions) in
      within_right ts i (suc n) (record_value rs xs)
      ∙ ap (λ o. is_right (at_place (λ k. plain_at ts k (suc n)) o) (record_value rs xs)) e
      ∙ ap₂ (λ us ws. (are_values p us && are_values q ws) && same (record_value (normals p us) (normals q ws)) (record_value rs xs)) (slots-as_slots rs) (slots-as_slots xs)
      ∙ ap (λ b. (are_values p rs && are_values q xs) && b) (sym (records_same (normals p rs) (normals q xs) rs xs))
      ∙ and_four (are_values p rs) (are_values q xs) (all_pairs same_slot (normals p rs) rs) (all_pairs same_slot (normals q xs) xs)
      ∙ ap₂ (λ a b. a && b) (slots_right false ts n r.root.items rs) (slots_right true ts n (behind r.additions) xs)

  pub no_record_right : ((r : Record) → within ts (slice_get ts i) ≡ Some (RecordKind r) → ⊥) → false ≡ is_right (schema_at ts i (suc (suc n))) (record_value rs xs)
  unfolding is_value if_bag
  no_record_right h = go (within ts (slice_get ts i)) h ∙ sym (within_right ts i (suc (suc n)) (record_value rs xs))
    where
      go : (o : Option Kind) → ((r : Record) → o ≡ Some (RecordKind r) → ⊥) → false ≡ is_right (at_place (λ k. plain_at ts k (suc (suc n))) o) (record_value rs xs)
      go None h = refl
      go (Some (SimpleKind k)) h = ap (λ b. b && same (normal (simple_schema k) (record_value rs xs)) (record_value rs xs)) (sym (simple_no_fields k (as_slots rs) (as_slots xs)))
      go (Some Date) h = refl
      go (Some (ListKind j c)) h = refl
      go (Some (SetOf j c)) h = refl
      go (Some (RecordKind r)) h = absurd (h r refl)
      go (Some (ChoiceKind c)) h = refl
      go (Some (Containing j)) h = refl
      go (Some (OpenKind o)) h = refl

-- ---- one part

none_passes : (b : Bool) (p : Presence) (f g : Value → Bool) → slot_passes (presence_of b p) f None ≡ slot_passes (presence_of true p) g None
none_passes b Required f g = refl
none_passes b Optional f g = refl
none_passes true Group f g = refl
none_passes false Group f g = refl
none_passes b (Default d) f g = refl

module _ (b : Bool) (ts : List Kind) (n : ℕ) (c : Component) where
  -- an absent one
  pub absent_right : (o : Option Value) (t r : Bool) → t ≡ is_some o → t ≡ false → r ≡ slot_passes (presence_of true c.presence) (λ v. true) None → r ≡ is_right_slot b ts n c o
  absent_right (Some v) t r e f h = absurd (let k : true ≡ false = sym e ∙ f in cc)
  absent_right None t r e f h = h ∙ sym (none_passes (groups b ts c) c.presence (is_value (schema_at ts c.of n)) (λ v. true)) ∙ and_true (slot_passes (presence_of (groups b ts c) c.presence) (is_value (schema_at ts c.of n)) None)
    where
      and_true : (a : Bool) → a ≡ (a && true)
      and_true true = refl
      and_true false = refl

  -- one that is there
  part_there : (v : Value) → is_right_slot b ts n c (Some v) ≡ (is_right (schema_at ts c.of n) v && not (is_some (group_of ts b c) && is_vacant (schema_at ts c.of n) (normal (schema_at ts c.of n) v)))
  part_there v =
      let s = schema_at ts c.of n in
      ap (λ o. is_value s v && same_slot o (Some v)) (settle_part ts b c s (normal s v)) ∙ go (is_value s v) (is_some (group_of ts b c) && is_vacant s (normal s v)) (normal s v)
    where
      go : (a g : Bool) (w : Value) → (a && same_slot (cond g None (Some w)) (Some v)) ≡ ((a && same w v) && not g)
      go true true w = last (same w v)
        where
          last : (b : Bool) → false ≡ (b && false)
          last true = refl
          last false = refl
      go true false w = last (same w v)
        where
          last : (b : Bool) → b ≡ (b && true)
          last true = refl
          last false = refl
      go false g w = refl

  pub part_wrong : (o : Option Value) (t r : Bool) → t ≡ is_some o → t ≡ true → r ≡ is_right (schema_at ts c.of n) (stated o) → r ≡ false → false ≡ is_right_slot b ts n c o
  part_wrong None t r e f h k = absurd (let q : true ≡ false = sym f ∙ e in cc)
  part_wrong (Some v) t r e f h k = ap (λ a. a && not (is_some (group_of ts b c) && is_vacant (schema_at ts c.of n) (normal (schema_at ts c.of n) v))) (sym k ∙ h) ∙ sym (part_there v)

  pub part_right : (o : Option Value) (t r g : Bool) → t ≡ is_some o → t ≡ true → r ≡ is_right (schema_at ts c.of n) (stated o) → r ≡ true → g ≡ (is_some (group_of ts b c) && is_vacant (schema_at ts c.of n) (stated o)) → not g ≡ is_right_slot b ts n c o
  part_right None t r g e f h k l = absurd (let q : true ≡ false = sym f ∙ e in cc)
  part_right (Some v) t r g e f h k l =
      let s = schema_at ts c.of n in
      let right : is_right s v ≡ true = sym h ∙ k in
      let still : normal s v ≡ v = same_true (normal s v) v (and_second (is_value s v) (same (normal s v) v) right) in
      ap not l ∙ ap (λ w. not (is_some (group_of ts b c) && is_vacant s w)) (sym still) ∙ ap (λ a. a && not (is_some (group_of ts b c) && is_vacant s (normal s v))) (sym right) ∙ sym (part_there v)

-- ---- groups that hold nothing

idle_either : (b : Bool) (p : Presence) (o : Option Value) → is_idle (presence_of b p) o ≡ is_idle (presence_of true p) o
unfolding is_idle
idle_either b Required o = refl
idle_either b Optional None = refl
idle_either b Optional (Some v) = refl
idle_either true Group o = refl
idle_either false Group None = refl
idle_either false Group (Some v) = refl
idle_either b (Default d) None = refl
idle_either b (Default d) (Some v) = refl

abbrev pub idle_test : Component → Option Value → Bool
idle_test c o = is_idle (presence_of true c.presence) o

idle_all : (g : Component → Bool) (s : ℕ → Schema) (cs : List Component) (os : List (Option Value)) → all_pairs idle_test cs os ≡ are_idle (parts_in g s cs) os
idle_all g s cs os = same_tests cs os ∙ idle_pairs g s cs os
  where
    same_tests : (cs : List Component) (os : List (Option Value)) → all_pairs idle_test cs os ≡ all_pairs (λ c o. is_idle (presence_of (g c) c.presence) o) cs os
    same_tests [] [] = refl
    same_tests [] (o ∷ os) = refl
    same_tests (c ∷ cs) [] = refl
    same_tests (c ∷ cs) (o ∷ os) = ap₂ (λ a b. a && b) (sym (idle_either (g c) c.presence o)) (same_tests cs os)

pub record_idle : (r : Record) (rs xs : List (Option Value)) (ts : List Kind) (n : ℕ) → (all_pairs idle_test r.root.items rs && all_pairs idle_test (behind r.additions) xs) ≡ is_vacant (record_schema ts r (suc n)) (record_value rs xs)
unfolding is_vacant
record_idle r rs xs ts n =
    let p = parts_in in_root (λ j. schema_at ts j n) r.root.items in
    let q = parts_in (grouped ts) (λ j. schema_at ts j n) (behind r.additions) in
    ap₂ (λ a b. a && b) (idle_all in_root (λ j. schema_at ts j n) r.root.items rs) (idle_all (grouped ts) (λ j. schema_at ts j n) (behind r.additions) xs)
    ∙ ap₂ (λ us ws. are_idle p us && are_idle q ws) (sym (slots-as_slots rs)) (sym (slots-as_slots xs))

pub group_idle : (b : Bool) (ts : List Kind) (c : Component) (r : Record) (n : ℕ) (v : Value) (t : Bool) → group_of ts b c ≡ Some r → t ≡ is_vacant (record_schema ts r (suc n)) v → t ≡ (is_some (group_of ts b c) && is_vacant (schema_at ts c.of (suc n)) v)
group_idle b ts c r n v t e h =
    h ∙ ap (λ s. is_vacant s v) (sym (record_there ts c.of r (group_stands ts b c r e) (suc n)))
    ∙ ap (λ o. is_some o && is_vacant (schema_at ts c.of (suc n)) v) (sym e)

-- ---- all defaults of a list

pub tree_below : (ds : List DefaultTree) (i : ℕ) (d : DefaultTree) → i < length ds → d ≡ get_or ds i d → tree_levels d + 2 ≤ deepest tree_levels ds + 2
tree_below [] i d l e = absurd (omega (arith, l))
tree_below (x ∷ ds) zero d l e = let h : tree_levels d ≡ tree_levels x = ap tree_levels e in omega (arith, h)
tree_below (x ∷ ds) (suc i) d l e = let h = tree_below ds i d (omega (arith, l)) e in omega (arith, h)

pub all_passed : {A : Type 0} (f : A → Bool) (xs : List A) (i : ℕ) → length xs ≤ i → all_pass f (take i xs) ≡ true → true ≡ all_pass f xs
all_passed f xs i l e = sym e ∙ ap (all_pass f) (take_all i xs l)

-- ---- one that holds no values

pub plain_told : (ts : List Kind) (i : ℕ) (d : DefaultTree) (p : DefaultValue) (b : Bool) → b ≡ is_default_of ts p (slice_get ts i) → tree_value d ≡ default_value p → AtDepths (schema_at ts i) (tree_levels d + 2) (λ s. b ≡ is_right s (tree_value d))
plain_told ts i d p b h e = record { at = go }
  where
    go : (n : ℕ) → tree_levels d + 2 ≤ n → b ≡ is_right (schema_at ts i n) (tree_value d)
    go zero le = absurd (omega (arith, le))
    go (suc zero) le = absurd (omega (arith, le))
    go (suc (suc n)) le = h ∙ plain_right ts i n p ∙ ap (is_right (schema_at ts i (suc (suc n)))) (sym e)

-- ---- a part that is there

pub fits : (b : Bool) (ts : List Kind) (n k : ℕ) (c : Component) (o : Option Value) (t r g : Bool) → k + 2 ≤ n → t ≡ is_some o → t ≡ true → r ≡ is_right (schema_at ts c.of n) (stated o) → r ≡ true
    → ((m : ℕ) → g ≡ (is_some (group_of ts b c) && is_vacant (schema_at ts c.of (suc m)) (stated o))) → not g ≡ is_right_slot b ts n c o
fits b ts zero k c o t r g le e f h l v = absurd (omega (arith, le))
fits b ts (suc n) k c o t r g le e f h l v = part_right b ts (suc n) c o t r g e f h l (v n)

-- ---- what holds values, by what is at its place

module _ (ts : List Kind) (i : ℕ) (ds : List DefaultTree) where
  abbrev pub IsListTold : Bool → Type 0
  IsListTold b = AtDepths (schema_at ts i) (deepest tree_levels ds + 3) (λ s. b ≡ is_right s (list_value (map tree_value ds)))

  pub list_told : (b : Bool) (j : ℕ) (c : _) → within ts (slice_get ts i) ≡ Some (ListKind j c) → length ds < 2 ^ 64
      → AtDepths (schema_at ts j) (deepest tree_levels ds + 2) (λ s. b ≡ all_pass (λ d. is_right s (tree_value d)) ds) → IsListTold b
  list_told b j c e l h = record { at = go }
    where
      go : (n : ℕ) → deepest tree_levels ds + 3 ≤ n → b ≡ is_right (schema_at ts i n) (list_value (map tree_value ds))
      go zero le = absurd (omega (arith, le))
      go (suc n) le = h.at n (omega (arith, le)) ∙ sym (list_right ts i n ds j c e (lt-ltb (length ds) (2 ^ 64) l))

  pub no_list_told : ((j : ℕ) (c : _) → within ts (slice_get ts i) ≡ Some (ListKind j c) → ⊥) → IsListTold false
  no_list_told h = record { at = go }
    where
      go : (n : ℕ) → deepest tree_levels ds + 3 ≤ n → false ≡ is_right (schema_at ts i n) (list_value (map tree_value ds))
      go zero le = absurd (omega (arith, le))
      go (suc zero) le = absurd (omega (arith, le))
      go (suc (suc n)) le = no_list_right ts i n ds h

  -- the list that a default is
  pub elements_told : (d : DefaultTree) (b : Bool) → list_value (map tree_value ds) ≡ tree_value d → IsListTold b → AtDepths (schema_at ts i) (tree_levels d + 2) (λ s. b ≡ is_right s (tree_value d))
  elements_told d b e h = record {
    at = λ n le.
        let k : levels_of (list_value (map tree_value ds)) ≡ tree_levels d = ap levels_of e in
        let m : deepest tree_levels ds + 3 ≤ n = omega (arith, le, k, list_levels ds) in
        h.at n m ∙ ap (is_right (schema_at ts i n)) e;
  }

-- a list or a record that is somewhere
listed_there : (o : Option Kind) (j : ℕ) → list_of o ≡ Some j → (c : _) × (o ≡ Some (ListKind j c))
listed_there (Some (ListKind i c)) j e = let h : i ≡ j = cc in (c, ap (λ k. Some (ListKind k c)) h)
listed_there None j e = absurd cc
listed_there (Some k) j e = absurd cc

not_listed : (o : Option Kind) → list_of o ≡ None → (j : ℕ) (c : _) → o ≡ Some (ListKind j c) → ⊥
not_listed o e j c h = let k : None ≡ Some j = sym e ∙ ap list_of h in cc

recorded_there : (o : Option Kind) (r : Record) → record_of o ≡ Some r → o ≡ Some (RecordKind r)
recorded_there (Some (RecordKind q)) r e = let h : q ≡ r = cc in ap (λ k. Some (RecordKind k)) h
recorded_there None r e = absurd cc
recorded_there (Some k) r e = absurd cc

not_recorded : (o : Option Kind) → record_of o ≡ None → (r : Record) → o ≡ Some (RecordKind r) → ⊥
not_recorded o e r h = let k : None ≡ Some r = sym e ∙ ap record_of h in cc

pub in_list : (ts : List Kind) (i : ℕ) (ds : List DefaultTree) (b : Bool) (j : ℕ) → list_of (within ts (slice_get ts i)) ≡ Some j → length ds < 2 ^ 64
    → AtDepths (schema_at ts j) (deepest tree_levels ds + 2) (λ s. b ≡ all_pass (λ d. is_right s (tree_value d)) ds) → IsListTold ts i ds b
in_list ts i ds b j e l h = let k = listed_there (within ts (slice_get ts i)) j e in list_told ts i ds b j k.0 k.1 l h

pub in_no_list : (ts : List Kind) (i : ℕ) (ds : List DefaultTree) → list_of (within ts (slice_get ts i)) ≡ None → IsListTold ts i ds false
in_no_list ts i ds e = no_list_told ts i ds (not_listed (within ts (slice_get ts i)) e)

module _ (ts : List Kind) (i : ℕ) (rs xs : List DefaultTree) where
  abbrev pub IsRecordTold : Bool → Type 0
  IsRecordTold b = (n : ℕ) → deepest tree_levels rs + 3 ≤ n → deepest tree_levels xs + 3 ≤ n → b ≡ is_right (schema_at ts i n) (record_value (map tree_slot rs) (map tree_slot xs))

  abbrev pub ArePartsTold : Bool → List Component → List DefaultTree → Bool → Type 0
  ArePartsTold g cs ds b = (n : ℕ) → deepest tree_levels ds + 2 ≤ n → b ≡ all_pairs (λ c d. is_right_slot g ts n c (tree_slot d)) cs ds

  both_told : (r : Record) → within ts (slice_get ts i) ≡ Some (RecordKind r) → (a b : Bool) (n : ℕ)
      → a ≡ all_pairs (λ c d. is_right_slot false ts n c (tree_slot d)) r.root.items rs → b ≡ all_pairs (λ c d. is_right_slot true ts n c (tree_slot d)) (behind r.additions) xs
      → (a && b) ≡ is_right (schema_at ts i (suc n)) (record_value (map tree_slot rs) (map tree_slot xs))
  both_told r e a b n h k =
      ap₂ (λ p q. p && q) (h ∙ pairs_mapped (is_right_slot false ts n) tree_slot r.root.items rs) (k ∙ pairs_mapped (is_right_slot true ts n) tree_slot (behind r.additions) xs)
      ∙ sym (record_right ts i n (map tree_slot rs) (map tree_slot xs) r e)

  pub record_told : (r : Record) → within ts (slice_get ts i) ≡ Some (RecordKind r) → (a b : Bool) → a ≡ true → ArePartsTold false r.root.items rs a → ArePartsTold true (behind r.additions) xs b → IsRecordTold b
  record_told r e a b t h k zero le me = absurd (omega (arith, le))
  record_told r e a b t h k (suc n) le me = sym (ap (λ p. p && b) t) ∙ both_told r e a b n (h n (omega (arith, le))) (k n (omega (arith, me)))

  pub record_untold : (r : Record) → within ts (slice_get ts i) ≡ Some (RecordKind r) → (a : Bool) → a ≡ false → ArePartsTold false r.root.items rs a → IsRecordTold false
  record_untold r e a t h zero le me = absurd (omega (arith, le))
  record_untold r e a t h (suc n) le me =
      let b = all_pairs (λ c d. is_right_slot true ts n c (tree_slot d)) (behind r.additions) xs in
      sym (ap (λ p. p && b) t) ∙ both_told r e a b n (h n (omega (arith, le))) refl

  pub no_record_told : ((r : Record) → within ts (slice_get ts i) ≡ Some (RecordKind r) → ⊥) → IsRecordTold false
  no_record_told h zero le me = absurd (omega (arith, le))
  no_record_told h (suc zero) le me = absurd (omega (arith, le))
  no_record_told h (suc (suc n)) le me = no_record_right ts i n (map tree_slot rs) (map tree_slot xs) h

  -- the record that a default is
  pub fields_told : (d : DefaultTree) (b : Bool) → record_value (map tree_slot rs) (map tree_slot xs) ≡ tree_value d → IsRecordTold b → AtDepths (schema_at ts i) (tree_levels d + 2) (λ s. b ≡ is_right s (tree_value d))
  fields_told d b e h = record {
    at = λ n le.
        let k : levels_of (record_value (map tree_slot rs) (map tree_slot xs)) ≡ tree_levels d = ap levels_of e in
        let l : deepest tree_levels rs + 3 ≤ n = omega (arith, le, k, record_levels rs xs) in
        let m : deepest tree_levels xs + 3 ≤ n = omega (arith, le, k, record_levels rs xs) in
        h n l m ∙ ap (is_right (schema_at ts i n)) e;
  }

  module _ (d : DefaultTree) (e : record_value (map tree_slot rs) (map tree_slot xs) ≡ tree_value d) where
    pub in_record : (r : Record) → record_of (within ts (slice_get ts i)) ≡ Some r → (a b : Bool) → a ≡ true → ArePartsTold false r.root.items rs a → ArePartsTold true (behind r.additions) xs b
        → AtDepths (schema_at ts i) (tree_levels d + 2) (λ s. b ≡ is_right s (tree_value d))
    in_record r f a b t h k = fields_told d b e (record_told r (recorded_there (within ts (slice_get ts i)) r f) a b t h k)

    pub in_record_wrong : (r : Record) → record_of (within ts (slice_get ts i)) ≡ Some r → (a : Bool) → a ≡ false → ArePartsTold false r.root.items rs a
        → AtDepths (schema_at ts i) (tree_levels d + 2) (λ s. false ≡ is_right s (tree_value d))
    in_record_wrong r f a t h = fields_told d false e (record_untold r (recorded_there (within ts (slice_get ts i)) r f) a t h)

    pub in_no_record : record_of (within ts (slice_get ts i)) ≡ None → AtDepths (schema_at ts i) (tree_levels d + 2) (λ s. false ≡ is_right s (tree_value d))
    in_no_record f = fields_told d false e (no_record_told (not_recorded (within ts (slice_get ts i)) f))

-- the alternative that a default is
pub alternative_told : (ts : List Kind) (i : ℕ) (p : Place) (w d : DefaultTree) (b : Bool) → alternative (side_of p) (index_in p) (tree_value w) ≡ tree_value d
    → AtDepths (schema_at ts (chosen_place ts i p)) (tree_levels w + 2) (λ s. b ≡ is_right s (tree_value w)) → AtDepths (schema_at ts i) (tree_levels d + 2) (λ s. b ≡ is_right s (tree_value d))
unfolding levels_of
alternative_told ts i p w d b e h = record { at = go }
  where
    k : suc (tree_levels w) ≡ tree_levels d
    k = ap levels_of e

    go : (n : ℕ) → tree_levels d + 2 ≤ n → b ≡ is_right (schema_at ts i n) (tree_value d)
    go zero le = absurd (omega (arith, le))
    go (suc zero) le = absurd (omega (arith, le))
    go (suc (suc n)) le = h.at (suc n) (omega (arith, le, k)) ∙ sym (chosen_right ts i n p (tree_value w)) ∙ ap (is_right (schema_at ts i (suc (suc n)))) e

-- ---- groups that hold nothing, by what is there

module _ (r : Record) (rs xs : List DefaultTree) (d : DefaultTree) where
  both_idle : (a b : Bool) → a ≡ all_pairs (λ c d. idle_test c (tree_slot d)) r.root.items rs → b ≡ all_pairs (λ c d. idle_test c (tree_slot d)) (behind r.additions) xs → record_value (map tree_slot rs) (map tree_slot xs) ≡ tree_value d
      → (ts : List Kind) (n : ℕ) → (a && b) ≡ is_vacant (record_schema ts r (suc n)) (tree_value d)
  both_idle a b h k e ts n =
      ap₂ (λ p q. p && q) (h ∙ pairs_mapped idle_test tree_slot r.root.items rs) (k ∙ pairs_mapped idle_test tree_slot (behind r.additions) xs)
      ∙ record_idle r (map tree_slot rs) (map tree_slot xs) ts n ∙ ap (is_vacant (record_schema ts r (suc n))) e

  pub record_idle_told : (a b : Bool) → a ≡ all_pairs (λ c d. idle_test c (tree_slot d)) r.root.items rs → a ≡ true → b ≡ all_pairs (λ c d. idle_test c (tree_slot d)) (behind r.additions) xs → record_value (map tree_slot rs) (map tree_slot xs) ≡ tree_value d
      → (ts : List Kind) (n : ℕ) → b ≡ is_vacant (record_schema ts r (suc n)) (tree_value d)
  record_idle_told a b h t k e ts n = sym (ap (λ p. p && b) t) ∙ both_idle a b h k e ts n

  pub record_full : (a : Bool) → a ≡ all_pairs (λ c d. idle_test c (tree_slot d)) r.root.items rs → a ≡ false → record_value (map tree_slot rs) (map tree_slot xs) ≡ tree_value d
      → (ts : List Kind) (n : ℕ) → false ≡ is_vacant (record_schema ts r (suc n)) (tree_value d)
  record_full a h t e ts n = let b = all_pairs (λ c d. idle_test c (tree_slot d)) (behind r.additions) xs in sym (ap (λ p. p && b) t) ∙ both_idle a b h refl e ts n

other_vacant : (s : Schema) (w : Value) → (shape w ≡ 2 → ⊥) → false ≡ is_vacant s w
unfolding is_vacant
other_vacant s (Values.fields r x) h = absurd (h refl)
other_vacant s w h = refl

pub no_record_idle : (r : Record) (d : DefaultTree) → ((y z : _) → d ≡ TheViews.Fields y z → ⊥) → (ts : List Kind) (n : ℕ) → false ≡ is_vacant (record_schema ts r (suc n)) (tree_value d)
no_record_idle r d h ts n = go (tree_value d) (unrecorded d h)
  where
    go : (v : Value) → (shape v ≡ 2 → ⊥) → false ≡ is_vacant (record_schema ts r (suc n)) v
    go v k = other_vacant (record_schema ts r (suc n)) v k

-- ---- parts that are absent or at their defaults

pub idle_required : (p : Presence) (o : Option Value) → p ≡ Required → false ≡ is_idle (presence_of true p) o
unfolding is_idle
idle_required p o e = rw e refl

pub idle_optional : (p : Presence) (o : Option Value) (t : Bool) → p ≡ Optional → t ≡ is_some o → not t ≡ is_idle (presence_of true p) o
unfolding is_idle
idle_optional p None t e h = rw (e, h) refl
idle_optional p (Some v) t e h = rw (e, h) refl

pub idle_group : (p : Presence) (o : Option Value) (t : Bool) → p ≡ Group → t ≡ is_some o → not t ≡ is_idle (presence_of true p) o
unfolding is_idle
idle_group p None t e h = rw (e, h) refl
idle_group p (Some v) t e h = rw (e, h) refl

pub absent_idle : (p : Presence) (d : DefaultTree) (o : Option Value) (t : Bool) → p ≡ Default d → t ≡ is_some o → t ≡ false → true ≡ is_idle (presence_of true p) o
unfolding is_idle
absent_idle p d None t e h f = rw e refl
absent_idle p d (Some v) t e h f = absurd (let k : true ≡ false = sym h ∙ f in cc)

pub idle_default : (p : Presence) (d : DefaultTree) (o : Option Value) (t r : Bool) → p ≡ Default d → t ≡ is_some o → t ≡ true → r ≡ same (stated o) (tree_value d) → r ≡ is_idle (presence_of true p) o
unfolding is_idle
idle_default p d None t r e h f k = absurd (let l : true ≡ false = sym f ∙ h in cc)
idle_default p d (Some v) t r e h f k = k ∙ ap (λ q. is_idle (presence_of true q) (Some v)) (sym e)
