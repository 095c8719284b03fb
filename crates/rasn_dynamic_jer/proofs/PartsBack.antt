-- What the JSON of lists, choices and records tells, by what that of their parts does.
use Rattle.std.proofs.Common.{◌≡◌, refl, sym, ap, ap₂, ◌∙◌, subst, ℕ, zero, suc, Bool, true, false, cond, not, ◌&&◌, ◌||◌, eqb, eqb-true, List, [], ◌∷◌, ◌++◌, map, length, Option, Some, None, option_map, append-nil, arith}
use Rattle.std.specs.Prelude.{flat_map, is_some, position, slice_get, string_bytes}
use Rattle.std.specs.List.{list_all}
use Rattle.std.specs.Option.{option_and_then, unwrap_or}
use Rattle.std.specs.Str.{bytes_eq}
use Rattle.std.proofs.lemmas.Bool.{and_from, and_parts}
use Rattle.json.specs.Find.{as_object, as_str, get, get_member, later_or}
use Rattle.json.specs.Json.{array, Json, Members, no_members, member, object}
use Rattle.json.specs.Strict.{HasUniqueKeys, ItemsHaveUniqueKeys, keys}
use Rattle.json.specs.Value.{items_of}
use Rattle.rasn_types.specs.AllOf.{all_of, joined}
use Rattle.rasn_types.specs.Values.{Value, alternative, as_slots, as_values, bag_of, fields, root, slots, values}
use Rattle.rasn_types.proofs.Values.{slots-as_slots, values-as_values}
use Rattle.rasn_schema.proofs.Bags.{bag_becomes, sort}
use Rattle.rasn_schema.specs.Structures.{list_value, record_value}
use Rattle.rasn_schema.specs.Normal.{over_bag, over_elements}
use Rattle.rasn_schema.specs.declared.items.Place.{Place}
use Rattle.rasn_schema.specs.declared.items.Place.TheVariants.{Root, Added}
use Rattle.rasn_traits.specs.Counted.{index_in, side_of}
use Rattle.rasn_dynamic.specs.Types.{behind, row_at, standing, tree_value}
use Rattle.rasn_dynamic.specs.Values.{slot_of, slot_step, there, value_of}
use Rattle.rasn_dynamic.specs.declared.types.Alternative.{Alternative}
use Rattle.rasn_dynamic.specs.declared.types.Choice.{Choice}
use Rattle.rasn_dynamic.specs.declared.types.Component.{Component}
use Rattle.rasn_dynamic.specs.declared.types.Kind.{Kind}
use Rattle.rasn_dynamic.specs.declared.types.Kind.TheVariants.{Record as RecordKind}
use Rattle.rasn_dynamic.specs.declared.types.ObjectSet.{ObjectSet}
use Rattle.rasn_dynamic.specs.declared.types.Presence.{Presence}
use Rattle.rasn_dynamic.specs.declared.types.Presence.TheVariants.{Required, Optional, Group, Default}
use Rattle.rasn_dynamic.specs.declared.types.Record.{Record}
use Rattle.rasn_dynamic.specs.declared.types.Row.{Row}
use Rattle.rasn_dynamic.specs.declared.values.Value.{Value as Tree}
use Rattle.rasn_dynamic.specs.declared.values.Value.TheFolds.{fold-roll-Value, ind-Value, map-Value}
use Rattle.rasn_dynamic.specs.declared.values.Value.TheOpen.{Value-F, Fields}
use Rattle.rasn_dynamic.specs.declared.values.Value.TheViews.{roll-Value}
use Rattle.rasn_dynamic.proofs.Trees.{fields_slot}
use Rattle.rasn_dynamic_jer.specs.DistinctNames.{addition_names, alternative_names, are_rows_apart, component_names, differ, is_among, is_row_apart, is_row_of, member_names}
use Rattle.rasn_dynamic_jer.specs.Normal.{addition_normal, additions_normal, are_idle, choice_normal, chosen_normal, group_normal, is_idle, open_normal, part_normal, record_normal, row_index, row_normal, slot_normal, slots_normal}
use Rattle.rasn_dynamic_jer.specs.Shown.{all_json, alternative_json, array_json, both, component_members, fields_members, group_among, group_in, is_default, is_default_of, is_optional, json_at, json_by, Known, known, list_members, Member, members_from, members_of, members_there, named, one_member, record_members, record_of_group, row_json}
use Rattle.rasn_dynamic_jer.specs.FromJson.{absent_told, addition_told, additions_told, alternative_place, alternative_told, choice_told, chosen_told, component_told, components_told, fields_told, group_told, has_member, is_member, items_list, items_told, members_told, one_row_told, one_told, open_told, own_member, read_told, record_told, row_place, row_told, slot_told, values_told}
use Rattle.rasn_dynamic_jer.proofs.Differing.{member_is}
use Rattle.rasn_dynamic_jer.proofs.Knowns.{knows_slot, roll_known}
use Rattle.rasn_dynamic_jer.proofs.LeavesTold.{given, some_same}
use Rattle.rasn_dynamic_jer.proofs.MembersBack.{AgreesOn, both_tell, lookup, lookup_none, lookup_one, names_of, none_tell, object_told, object_unique, one_tells, Tells}
use Rattle.rasn_dynamic_jer.proofs.Named.{differ_distinct, differ_left, differ_right, or_left, or_none, or_right, own_name, same_name}
use Rattle.rasn_dynamic_jer.proofs.SimpleBack.{place_back, ReadAs, thing_at, was_mapped}

-- ---- two parts of a list

record WasJoined {A : Type 0} (o : Option A) (p : Option (List A)) (xs : List A) : Type 0 where
  first : A
  rest : List A
  is_first : o ≡ Some first
  is_rest : p ≡ Some rest
  are : first ∷ rest ≡ xs

was_joined : {A : Type 0} (o : Option A) (p : Option (List A)) (xs : List A) → joined o p ≡ Some xs → WasJoined o p xs
was_joined None p xs e = absurd cc
was_joined (Some x) None xs e = absurd cc
was_joined (Some x) (Some ys) xs e = record { first = x; rest = ys; is_first = refl; is_rest = refl; are = some_same e }

record WereBoth (o p : Option (List Member)) (ms : List Member) : Type 0 where
  first : List Member
  rest : List Member
  is_first : o ≡ Some first
  is_rest : p ≡ Some rest
  are : first ++ rest ≡ ms

were_both : (o p : Option (List Member)) (ms : List Member) → both o p ≡ Some ms → WereBoth o p ms
were_both None p ms e = absurd cc
were_both (Some xs) None ms e = absurd cc
were_both (Some xs) (Some ys) ms e = record { first = xs; rest = ys; is_first = refl; is_rest = refl; are = some_same e }

-- a member of a name
record WasNamed (name : List ℕ) (o : Option Json) (ms : List Member) : Type 0 where
  json : Json
  is_json : o ≡ Some json
  are : (name, json) ∷ [] ≡ ms

was_named : (name : List ℕ) (o : Option Json) (ms : List Member) → named name o ≡ Some ms → WasNamed name o ms
was_named name o ms e = let w = was_mapped (λ j. (name, j) ∷ []) o ms e in record { json = w.source; is_json = w.is_source; are = w.is_image }

-- ---- lists

items_back : (js : List Json) → items_list (items_of js) ≡ js
items_back [] = refl
items_back (j ∷ js) = ap (λ l. j ∷ l) (items_back js)

all_map : (f : Value → Value) (vs : List Value) → all_of (λ v. Some (f v)) vs ≡ Some (map f vs)
all_map f [] = refl
all_map f (v ∷ vs) = ap (joined (Some (f v))) (all_map f vs)

bag_map : (f : Value → Value) (vs : List Value) → bag_of (map f (sort vs)) ≡ bag_of (map f vs)
unfolding sort
bag_map f vs =
    let q = bag_becomes (λ v. Some (f v)) vs (map f vs) (all_map f vs) in
    ap bag_of (some_same (sym (all_map f (sort vs)) ∙ q.1)) ∙ q.2

pub over_list : (f : Value → Value) (vs : List Value) → over_elements f (list_value vs) ≡ list_value (map f vs)
over_list f vs = ap (λ l. list_value (map f l)) (values-as_values vs)

pub over_bag_of : (f : Value → Value) (vs : List Value) → over_bag f (bag_of vs) ≡ bag_of (map f vs)
unfolding over_bag bag_of sort
over_bag_of f vs = ap (λ l. bag_of (map f l)) (values-as_values (sort vs)) ∙ bag_map f vs

-- what is told at places: of each value that is shown there its normal form
module _ (ts : List Kind) (m : ℕ) (g : ℕ → Json → Option Value) (f : ℕ → Value → Value)
    (back : (i : ℕ) (x : Tree) (j : Json) → json_at ts m i x ≡ Some j → ReadAs (slot_of x) (g i j) (f i) j) where
  pub record AllRead (i : ℕ) (xs : List Tree) (js : List Json) : Type 0 where
    pub read : List Value
    pub are : map value_of xs ≡ read
    pub told : all_of (g i) js ≡ Some (map (f i) read)
    pub unique : ItemsHaveUniqueKeys (items_of js)

  pub all_read : (i : ℕ) (xs : List Tree) (js : List Json) → all_json ts m i (map (known ts) xs) ≡ Some js → AllRead i xs js
  all_read i [] js e = subst (λ ks. AllRead i [] ks) (some_same e) (record { read = []; are = refl; told = refl; unique = tt })
  all_read i (x ∷ xs) js e =
      let q = was_joined (json_at ts m i x) (all_json ts m i (map (known ts) xs)) js e in
      let h = back i x q.first q.is_first in
      let r = all_read i xs q.rest q.is_rest in
      subst (λ ks. AllRead i (x ∷ xs) ks) q.are (record {
        read = h.value ∷ r.read;
        are = ap₂ (λ v vs. v ∷ vs) (ap there h.is_there) r.are;
        told = ap₂ joined h.told r.told;
        unique = (h.unique, r.unique);
      })

  -- values by the items of an array
  pub array_told : (i : ℕ) (xs : List Tree) (js : List Json) (r : AllRead i xs js) → values_told (g i) (array (items_of js)) ≡ Some (map (f i) r.read)
  array_told i xs js r = ap (all_of (g i)) (items_back js) ∙ r.told

  pub list_read : (i : ℕ) (xs : List Tree) (j : Json) → array_json ts m i (map (known ts) xs) ≡ Some j
      → ReadAs (Some (list_value (map value_of xs))) (option_map list_value (values_told (g i) j)) (over_elements (f i)) j
  list_read i xs j e =
      let w = was_mapped (λ js. array (items_of js)) (all_json ts m i (map (known ts) xs)) j e in
      let r = all_read i xs w.source w.is_source in
      subst (λ k. ReadAs (Some (list_value (map value_of xs))) (option_map list_value (values_told (g i) k)) (over_elements (f i)) k) w.is_image (record {
        value = list_value r.read;
        is_there = ap (λ vs. Some (list_value vs)) r.are;
        told = ap (option_map list_value) (array_told i xs w.source r) ∙ ap (λ v. Some v) (sym (over_list (f i) r.read));
        unique = r.unique;
      })

  pub bag_read : (i : ℕ) (xs : List Tree) (j : Json) → array_json ts m i (map (known ts) xs) ≡ Some j
      → ReadAs (Some (bag_of (map value_of xs))) (option_map bag_of (values_told (g i) j)) (over_bag (f i)) j
  bag_read i xs j e =
      let w = was_mapped (λ js. array (items_of js)) (all_json ts m i (map (known ts) xs)) j e in
      let r = all_read i xs w.source w.is_source in
      subst (λ k. ReadAs (Some (bag_of (map value_of xs))) (option_map bag_of (values_told (g i) k)) (over_bag (f i)) k) w.is_image (record {
        value = bag_of r.read;
        is_there = ap (λ vs. Some (bag_of vs)) r.are;
        told = ap (option_map bag_of) (array_told i xs w.source r) ∙ ap (λ v. Some v) (sym (over_bag_of (f i) r.read));
        unique = r.unique;
      })

  -- ---- an object of one member

  record OneRead (name : List ℕ) (i : ℕ) (x : Tree) (j : Json) : Type 0 where
    inner : Json
    is_object : object (member name inner no_members) ≡ j
    read : ReadAs (slot_of x) (g i inner) (f i) inner

  one_read : (name : List ℕ) (i : ℕ) (x : Tree) (j : Json) → one_member ts m name i (known ts x) ≡ Some j → OneRead name i x j
  one_read name i x j e =
      let w = was_mapped (λ ms. object (members_from ms)) (named name (json_at ts m i x)) j e in
      let q = was_named name (json_at ts m i x) w.source w.is_source in
      record {
        inner = q.json;
        is_object = ap (λ ms. object (members_from ms)) q.are ∙ w.is_image;
        read = back i x q.json q.is_json;
      }

  lone_unique : (name : List ℕ) (j : Json) → HasUniqueKeys j → HasUniqueKeys (object (member name j no_members))
  lone_unique name j u = (differ_distinct (name ∷ []) refl, (u, tt))

  -- ---- choices

  chosen_is : (c : Choice) (p : Place) (a : Alternative) (v : Value) → standing c p ≡ Some a
      → choice_normal f c (alternative (side_of p) (index_in p) v) ≡ alternative (side_of p) (index_in p) (f a.of v)
  chosen_is c (Root k) a v e = ap (λ o. alternative root k (chosen_normal f o v)) e
  chosen_is c (Added k) a v e = ap (λ o. alternative (side_of (Added k)) k (chosen_normal f o v)) e

  stands : (c : Choice) (p : Place) → standing c p ≡ thing_at c.roots.items (behind c.addeds) p
  stands c (Root k) = refl
  stands c (Added k) = refl

  pub choice_read : (c : Choice) (p : Place) (x : Tree) (j : Json) → differ (alternative_names c) ≡ true → alternative_json ts m (standing c p) (known ts x) ≡ Some j
      → ReadAs (Some (alternative (side_of p) (index_in p) (value_of x))) (choice_told g c j) (choice_normal f c) j
  choice_read c p x j d e = go (standing c p) refl e
    where
      go : (o : Option Alternative) → standing c p ≡ o → alternative_json ts m o (known ts x) ≡ Some j
          → ReadAs (Some (alternative (side_of p) (index_in p) (value_of x))) (choice_told g c j) (choice_normal f c) j
      go None h e = absurd cc
      go (Some a) h e =
          let n = string_bytes a.name in
          let w = one_read n a.of x j e in
          let v = w.read.value in
          let found : alternative_place c n ≡ Some p = place_back (λ b. string_bytes b.name) c.roots.items (behind c.addeds) p a d (sym (stands c p) ∙ h) in
          subst (λ k. ReadAs (Some (alternative (side_of p) (index_in p) (value_of x))) (choice_told g c k) (choice_normal f c) k) w.is_object (record {
            value = alternative (side_of p) (index_in p) v;
            is_there = ap (λ s. Some (alternative (side_of p) (index_in p) (there s))) w.read.is_there;
            told = ap (λ o. alternative_told g c o w.inner) found ∙ ap (λ o. chosen_told g p o w.inner) h
                ∙ ap (option_map (alternative (side_of p) (index_in p))) w.read.told ∙ ap (λ y. Some y) (sym (chosen_is c p a v h));
            unique = lone_unique n w.inner w.read.unique;
          })

  -- ---- open types

  all_at : {X : Type 0} (t : X → Bool) (xs : List X) (k : ℕ) (x : X) → list_all t xs ≡ true → slice_get xs k ≡ Some x → t x ≡ true
  all_at t [] k x h e = absurd cc
  all_at t (y ∷ xs) zero x h e = ap t (sym (some_same e)) ∙ (and_parts (t y) (list_all t xs) h).0
  all_at t (y ∷ xs) (suc k) x h e = all_at t xs k x (and_parts (t y) (list_all t xs) h).1 e

  -- the first row with a name
  record FirstRow (s : ObjectSet) (r : Row) : Type 0 where
    index : ℕ
    found : row_index s (string_bytes r.name) ≡ Some index
    row : Row
    is_row : slice_get s.rows.items index ≡ Some row
    same_type : row.of ≡ r.of

  first_row : (s : ObjectSet) (r : Row) → is_row_of r.of (option_and_then (row_at s) (row_place s (string_bytes r.name))) ≡ true → FirstRow s r
  first_row s r h = go (row_index s (string_bytes r.name)) refl h
    where
      at : (k : ℕ) → row_index s (string_bytes r.name) ≡ Some k → (o : Option Row) → slice_get s.rows.items k ≡ o → is_row_of r.of o ≡ true → FirstRow s r
      at k e None f i = absurd cc
      at k e (Some q) f i = record { index = k; found = e; row = q; is_row = f; same_type = eqb-true q.of r.of i }

      go : (o : Option ℕ) → row_index s (string_bytes r.name) ≡ o → is_row_of r.of (option_and_then (row_at s) (option_map Root o)) ≡ true → FirstRow s r
      go None e i = absurd cc
      go (Some k) e i = at k e (slice_get s.rows.items k) refl i

  open_is : (s : ObjectSet) (k : ℕ) (r : Row) (v : Value) (w : FirstRow s r) → slice_get s.rows.items k ≡ Some r
      → open_normal f s (alternative root k v) ≡ alternative root w.index (f r.of v)
  open_is s k r v w e =
      ap (λ o. row_normal f s k o v) e
      ∙ ap (λ o. alternative root (unwrap_or o k) (f r.of v)) w.found

  root_read : (s : ObjectSet) (k : ℕ) (x : Tree) (j : Json) → are_rows_apart s ≡ true → row_json ts m (slice_get s.rows.items k) (known ts x) ≡ Some j
      → ReadAs (Some (alternative root k (value_of x))) (open_told g s (as_str j) j) (open_normal f s) j
  root_read s k x j d e = go (slice_get s.rows.items k) refl e
    where
      go : (o : Option Row) → slice_get s.rows.items k ≡ o → row_json ts m o (known ts x) ≡ Some j
          → ReadAs (Some (alternative root k (value_of x))) (open_told g s (as_str j) j) (open_normal f s) j
      go None h e = absurd cc
      go (Some r) h e =
          let n = string_bytes r.name in
          let w = one_read n r.of x j e in
          let v = w.read.value in
          let q = first_row s r (all_at (is_row_apart s) s.rows.items k r d h) in
          subst (λ i. ReadAs (Some (alternative root k (value_of x))) (open_told g s (as_str i) i) (open_normal f s) i) w.is_object (record {
            value = alternative root k v;
            is_there = ap (λ y. Some (alternative root k (there y))) w.read.is_there;
            told = ap (λ o. row_told g s (option_map Root o) w.inner) q.found ∙ ap (λ o. read_told g (Root q.index) o w.inner) q.is_row
                ∙ ap (λ (i : ℕ). option_map (alternative root q.index) (g i w.inner)) q.same_type
                ∙ ap (option_map (alternative root q.index)) w.read.told ∙ ap (λ y. Some y) (sym (open_is s k r v q h));
            unique = lone_unique n w.inner w.read.unique;
          })

  pub row_read : (s : ObjectSet) (p : Place) (x : Tree) (j : Json) → are_rows_apart s ≡ true → row_json ts m (row_at s p) (known ts x) ≡ Some j
      → ReadAs (Some (alternative (side_of p) (index_in p) (value_of x))) (open_told g s (as_str j) j) (open_normal f s) j
  row_read s (Root k) x j d e = root_read s k x j d e
  row_read s (Added k) x j d e = absurd cc

  -- ---- components

  -- whether there are no members
  abbrev are_none : List Member → Bool
  are_none [] = true
  are_none (m ∷ ms) = false

  none_both : (ms ns : List Member) → are_none (ms ++ ns) ≡ (are_none ms && are_none ns)
  none_both [] ns = refl
  none_both (m ∷ ms) ns = refl

  absent_none : (p : Presence) → is_optional p ≡ true → absent_told p ≡ Some None
  absent_none Optional e = refl
  absent_none Group e = refl
  absent_none Required e = absurd cc
  absent_none (Default d) e = absurd cc

  default_part : (p : Presence) (i : ℕ) (v : Value) → is_default_of ts p i v ≡ true → absent_told p ≡ Some (Some (part_normal ts f i p v))
  default_part (Default d) i v e = ap (λ b. Some (Some (cond b (tree_value d) (f i v)))) (sym e)
  default_part Required i v e = absurd cc
  default_part Optional i v e = absurd cc
  default_part Group i v e = absurd cc

  other_part : (p : Presence) (i : ℕ) (v : Value) → is_default_of ts p i v ≡ false → part_normal ts f i p v ≡ f i v
  other_part (Default d) i v e = ap (λ b. cond b (tree_value d) (f i v)) e
  other_part Required i v e = refl
  other_part Optional i v e = refl
  other_part Group i v e = refl

  -- a component that isn't a group
  record PartRead (c : Component) (s : Option Value) (ms : List Member) : Type 0 where
    tells : Tells (string_bytes c.name ∷ []) (λ js. component_told g (object js) c) (slot_normal ts f c s) ms
    idle : is_idle ts c s ≡ are_none ms

  part_read : (c : Component) (x : Tree) (ms : List Member) → members_of ts m None c (known ts x) (slot_of x) ≡ Some ms → PartRead c (slot_of x) ms
  part_read c x ms e = go (slot_of x) refl e
    where
      n : List ℕ
      n = string_bytes c.name

      default_left : (v : Value) → is_default ts c v ≡ true → PartRead c (Some v) []
      default_left v h = record {
        tells = none_tell n (λ js. component_told g (object js) c) (slot_normal ts f c (Some v)) (λ js k. ap (slot_told g c) k ∙ default_part c.presence c.of v h);
        idle = h;
      }

      is_there : (v : Value) → slot_of x ≡ Some v → is_default ts c v ≡ false → named n (json_at ts m c.of x) ≡ Some ms → PartRead c (Some v) ms
      is_there v h d e =
          let w = was_named n (json_at ts m c.of x) ms e in
          let r = back c.of x w.json w.is_json in
          let same : r.value ≡ v = some_same (sym r.is_there ∙ h) in
          subst (λ os. PartRead c (Some v) os) w.are (record {
            tells = one_tells n w.json (λ js. component_told g (object js) c) (slot_normal ts f c (Some v)) r.unique
                (λ js k. ap (slot_told g c) k ∙ ap (option_map Some) r.told ∙ ap (λ y. Some (Some y)) (ap (f c.of) same ∙ sym (other_part c.presence c.of v d)));
            idle = d;
          })

      judged : (v : Value) → slot_of x ≡ Some v → (b : Bool) → is_default ts c v ≡ b → cond b (Some []) (members_there ts m None c (known ts x)) ≡ Some ms → PartRead c (Some v) ms
      judged v h true d e = subst (λ os. PartRead c (Some v) os) (some_same e) (default_left v d)
      judged v h false d e = is_there v h d e

      go : (s : Option Value) → slot_of x ≡ s → members_of ts m None c (known ts x) s ≡ Some ms → PartRead c s ms
      go None h e =
          let w = given (is_optional c.presence) [] ms e in
          subst (λ os. PartRead c None os) w.1 (record {
            tells = none_tell n (λ js. component_told g (object js) c) None (λ js k. ap (slot_told g c) k ∙ absent_none c.presence w.0);
            idle = refl;
          })
      go (Some v) h e = judged v h (is_default ts c v) refl e

  record PartsRead (cs : List Component) (ss : List (Option Value)) (ms : List Member) : Type 0 where
    tells : Tells (component_names cs) (λ js. components_told g (object js) cs) (slots_normal ts f cs ss) ms
    idle : are_idle ts cs ss ≡ are_none ms

  no_names : {W : Type 0} (told : Members → Option W) (w : W) → ((js : Members) → told js ≡ Some w) → Tells [] told w []
  no_names told w t = record { tells = λ js a. t js; named = λ n e. absurd cc; distinct = refl; unique = tt }

  parts_read : (cs : List Component) (xs : List Tree) (ms : List Member) → differ (component_names cs) ≡ true
      → list_members ts false m cs (map (known ts) xs) ≡ Some ms → PartsRead cs (map slot_of xs) ms
  parts_read [] [] ms d e = subst (λ os. PartsRead [] [] os) (some_same e) (record {
    tells = no_names (λ js. components_told g (object js) []) [] (λ js. refl);
    idle = refl;
  })
  parts_read [] (x ∷ xs) ms d e = absurd cc
  parts_read (c ∷ cs) [] ms d e = absurd cc
  parts_read (c ∷ cs) (x ∷ xs) ms d e =
      let n = string_bytes c.name in
      let q = were_both (component_members ts false m c (known ts x)) (list_members ts false m cs (map (known ts) xs)) ms e in
      let h = part_read c x q.first (ap (members_of ts m None c (known ts x)) (sym (knows_slot ts x)) ∙ q.is_first) in
      let r = parts_read cs xs q.rest (differ_right (n ∷ []) (component_names cs) d) q.is_rest in
      subst (λ os. PartsRead (c ∷ cs) (map slot_of (x ∷ xs)) os) q.are (record {
        tells = both_tell (n ∷ []) (component_names cs) (λ js. component_told g (object js) c) (λ js. components_told g (object js) cs)
            (slot_normal ts f c (slot_of x)) (slots_normal ts f cs (map slot_of xs)) q.first q.rest h.tells r.tells d
            (λ js. components_told g (object js) (c ∷ cs)) (slots_normal ts f (c ∷ cs) (map slot_of (x ∷ xs)))
            (λ js a b. ap₂ joined a b);
        idle = ap₂ (λ a b. a && b) h.idle r.idle ∙ sym (none_both q.first q.rest);
      })

  -- ---- groups

  -- what a component's members have, one of them has
  no_member : (cs : List Component) (js : Members) → ((n : List ℕ) → is_among (component_names cs) n ≡ true → get_member n js ≡ None) → has_member (object js) cs ≡ false
  no_member [] js h = refl
  no_member (c ∷ cs) js h =
      let n = string_bytes c.name in
      let here = h n (or_left (bytes_eq n n) (is_among (component_names cs) n) (own_name n)) in
      ap (λ o. is_some o || has_member (object js) cs) here
      ∙ no_member cs js (λ k e. h k (or_right (bytes_eq n k) (is_among (component_names cs) k) e))

  some_member : (cs : List Component) (js : Members) (n : List ℕ) (j : Json) → is_among (component_names cs) n ≡ true → get_member n js ≡ Some j → has_member (object js) cs ≡ true
  some_member [] js n j e h = absurd cc
  some_member (c ∷ cs) js n j e h = go (bytes_eq (string_bytes c.name) n) refl e (some_member cs js n j)
    where
      go : (b : Bool) → bytes_eq (string_bytes c.name) n ≡ b → (b || is_among (component_names cs) n) ≡ true
          → (is_among (component_names cs) n ≡ true → get_member n js ≡ Some j → has_member (object js) cs ≡ true) → has_member (object js) (c ∷ cs) ≡ true
      go true q i r =
          let k : get_member (string_bytes c.name) js ≡ Some j = ap (λ l. get_member l js) (same_name (string_bytes c.name) n q) ∙ h in
          ap (λ o. is_some o || has_member (object js) cs) k
      go false q i r = or_right (is_some (own_member (object js) c)) (has_member (object js) cs) (r i h)

  later_some : (o : Option Json) (j : Json) → (k : Json) × (later_or o (Some j) ≡ Some k)
  later_some None j = (j, refl)
  later_some (Some i) j = (i, refl)

  has_parts : {W : Type 0} (cs : List Component) (told : Members → Option W) (w : W) (ms : List Member) → Tells (component_names cs) told w ms
      → (js : Members) → AgreesOn (component_names cs) js ms → has_member (object js) cs ≡ not (are_none ms)
  has_parts cs told w [] t js a = no_member cs js a
  has_parts cs told w (o ∷ ms) t js a =
      let here = t.named o.0 (or_left (bytes_eq o.0 o.0) (is_among (names_of ms) o.0) (own_name o.0)) in
      let k = later_some (lookup o.0 ms) o.1 in
      some_member cs js o.0 k.0 here (a o.0 here ∙ ap (λ b. later_or (lookup o.0 ms) (cond b (Some o.1) None)) (own_name o.0) ∙ k.1)

  -- what a group of some parts becomes
  group_told_by : (b : Bool) (js : Members) (cs : List Component) (vs : List (Option Value)) → has_member (object js) cs ≡ not b → components_told g (object js) cs ≡ Some vs
      → cond (has_member (object js) cs) (option_map (λ ss. Some (record_value ss [])) (components_told g (object js) cs)) (Some None) ≡ Some (cond b None (Some (record_value vs [])))
  group_told_by true js cs vs h k = ap (λ b. cond b (option_map (λ ss. Some (record_value ss [])) (components_told g (object js) cs)) (Some None)) h
  group_told_by false js cs vs h k =
      ap (λ b. cond b (option_map (λ ss. Some (record_value ss [])) (components_told g (object js) cs)) (Some None)) h
      ∙ ap (option_map (λ ss. Some (record_value ss []))) k

  group_is : (r : Record) (ss : List (Option Value)) → group_normal ts f r (record_value ss []) ≡ cond (are_idle ts r.root.items ss) None (Some (record_value (slots_normal ts f r.root.items ss) []))
  group_is r ss = ap (λ l. cond (are_idle ts r.root.items l) None (Some (record_value (slots_normal ts f r.root.items l) []))) (slots-as_slots ss)

  -- members of a group that is there
  record GroupRead (r : Record) (s : Option Value) (ms : List Member) : Type 0 where
    slots : List (Option Value)
    is_there : s ≡ Some (record_value slots [])
    parts : PartsRead r.root.items slots ms

  no_after : {A : Type 0} (xs : List A) → eqb (length xs) 0 ≡ true → xs ≡ []
  no_after [] e = refl
  no_after (x ∷ xs) e = absurd (omega (arith, eqb-true (suc (length xs)) 0 e))

  no_additions : (bs : List Tree) (ms : List Member) → list_members ts true m [] (map (known ts) bs) ≡ Some ms → (bs ≡ []) × (ms ≡ [])
  no_additions [] ms e = (refl, sym (some_same e))
  no_additions (b ∷ bs) ms e = absurd cc

  held_read : (r : Record) (x : Value-F Tree) (ms : List Member) → behind r.additions ≡ [] → differ (component_names r.root.items) ≡ true
      → fields_members ts m r (map-Value Tree Known (known ts) x) ≡ Some ms → GroupRead r (slot_step (map-Value Tree (Option Value) slot_of x)) ms
  held_read r (Fields v w) ms none d e =
      let q = were_both (list_members ts false m r.root.items (map (known ts) v.items)) (list_members ts true m (behind r.additions) (map (known ts) w.items)) ms e in
      let h = no_additions w.items q.rest (ap (λ cs. list_members ts true m cs (map (known ts) w.items)) (sym none) ∙ q.is_rest) in
      let same : q.first ≡ ms = sym (append-nil q.first) ∙ ap (λ l. q.first ++ l) (sym h.1) ∙ q.are in
      record {
        slots = map slot_of v.items;
        is_there = ap (λ bs. Some (record_value (map slot_of v.items) (map slot_of bs))) h.0;
        parts = subst (λ os. PartsRead r.root.items (map slot_of v.items) os) same (parts_read r.root.items v.items q.first d q.is_first);
      }
  held_read r x ms none d e = absurd cc

  roll_slot : (x : Value-F Tree) → slot_of (roll-Value x) ≡ slot_step (map-Value Tree (Option Value) slot_of x)
  roll_slot x = fold-roll-Value (Option Value) slot_step x

  abbrev GroupsRead : Tree → Type 0
  GroupsRead x = (r : Record) (ms : List Member) → behind r.additions ≡ [] → differ (component_names r.root.items) ≡ true → (known ts x).members m r ≡ Some ms → GroupRead r (slot_of x) ms

  groups_read : (x : Tree) → GroupsRead x
  groups_read = ind-Value GroupsRead (λ x y is r ms none d e.
      subst (λ s. GroupRead r s ms) (sym (roll_slot x)) (held_read r x ms none d (ap (λ k. k.members m r) (sym (roll_known ts x)) ∙ e)))

  -- an addition
  abbrev AdditionRead : Option Record → Component → Option Value → List Member → Type 0
  AdditionRead o c s ms = Tells (addition_names o c) (λ js. addition_told g (object js) o c) (addition_normal ts f o c s) ms

  group_part : (r : Record) (c : Component) (s : Option Value) (ms : List Member) → GroupRead r s ms → AdditionRead (Some r) c s ms
  group_part r c s ms h =
      let t = h.parts.tells in
      let cs = r.root.items in
      let vs = slots_normal ts f cs h.slots in
      let b = are_none ms in
      let normal : addition_normal ts f (Some r) c s ≡ cond b None (Some (record_value vs [])) =
      ap (option_and_then (group_normal ts f r)) h.is_there ∙ group_is r h.slots ∙ ap (λ i. cond i None (Some (record_value vs []))) h.parts.idle in
      record {
        tells = λ js a. group_told_by b js cs vs (has_parts cs (λ ks. components_told g (object ks) cs) vs ms t js a) (t.tells js a) ∙ ap (λ w. Some w) (sym normal);
        named = t.named;
        distinct = t.distinct;
        unique = t.unique;
      }

  -- a group's presence, and its type
  record IsGroup (p : Presence) (k : Option Kind) (r : Record) : Type 0 where
    presence : p ≡ Group
    alone : behind r.additions ≡ []

  is_group : (p : Presence) (k : Option Kind) (r : Record) → record_of_group p k ≡ Some r → IsGroup p k r
  is_group Group (Some (RecordKind q)) r e =
      let w = given (eqb (length (behind q.additions)) 0) q r e in
      record { presence = refl; alone = subst (λ z. behind z.additions ≡ []) w.1 (no_after (behind q.additions) w.0) }
  is_group p k r e = absurd cc

  addition_read : (c : Component) (x : Tree) (ms : List Member) → differ (addition_names (group_in ts c) c) ≡ true → members_of ts m (group_in ts c) c (known ts x) (slot_of x) ≡ Some ms
      → AdditionRead (group_in ts c) c (slot_of x) ms
  addition_read c x ms d e = go (group_in ts c) refl d e
    where
      no_group : (r : Record) → Tells (component_names r.root.items) (λ js. group_told g (object js) r) None []
      no_group r = record {
        tells = λ js a. ap (λ b. cond b (option_map (λ ss. Some (record_value ss [])) (components_told g (object js) r.root.items)) (Some None)) (no_member r.root.items js a);
        named = λ n e. absurd cc;
        distinct = refl;
        unique = tt;
      }

      held : (r : Record) → differ (component_names r.root.items) ≡ true → behind r.additions ≡ [] → (s : Option Value) → slot_of x ≡ s
          → members_of ts m (Some r) (record { name = c.name; tag = c.tag; presence = Group; of = c.of }) (known ts x) s ≡ Some ms → AdditionRead (Some r) c (slot_of x) ms
      held r d alone None h e = subst (λ s. AdditionRead (Some r) c s ms) (sym h) (subst (λ os. AdditionRead (Some r) c None os) (some_same e) (no_group r))
      held r d alone (Some v) h e = group_part r c (slot_of x) ms (groups_read x r ms alone d e)

      go : (o : Option Record) → group_in ts c ≡ o → differ (addition_names o c) ≡ true → members_of ts m o c (known ts x) (slot_of x) ≡ Some ms → AdditionRead o c (slot_of x) ms
      go None h d e = (part_read c x ms e).tells
      go (Some r) h d e =
          let q = is_group c.presence (slice_get ts c.of) r h in
          held r d q.alone (slot_of x) refl (ap (λ p. members_of ts m (Some r) (record { name = c.name; tag = c.tag; presence = p; of = c.of }) (known ts x) (slot_of x)) (sym q.presence) ∙ e)

  abbrev all_names : List Component → List (List ℕ)
  all_names cs = flat_map (λ c. addition_names (group_in ts c) c) cs

  additions_read : (cs : List Component) (xs : List Tree) (ms : List Member) → differ (all_names cs) ≡ true → list_members ts true m cs (map (known ts) xs) ≡ Some ms
      → Tells (all_names cs) (λ js. additions_told ts g (object js) cs) (additions_normal ts f cs (map slot_of xs)) ms
  additions_read [] [] ms d e = subst (λ os. Tells [] (λ js. additions_told ts g (object js) []) [] os) (some_same e) (no_names (λ js. additions_told ts g (object js) []) [] (λ js. refl))
  additions_read [] (x ∷ xs) ms d e = absurd cc
  additions_read (c ∷ cs) [] ms d e = absurd cc
  additions_read (c ∷ cs) (x ∷ xs) ms d e =
      let o = group_in ts c in
      let q = were_both (component_members ts true m c (known ts x)) (list_members ts true m cs (map (known ts) xs)) ms e in
      let h = addition_read c x q.first (differ_left (addition_names o c) (all_names cs) d) (ap (members_of ts m o c (known ts x)) (sym (knows_slot ts x)) ∙ q.is_first) in
      let r = additions_read cs xs q.rest (differ_right (addition_names o c) (all_names cs) d) q.is_rest in
      subst (λ os. Tells (all_names (c ∷ cs)) (λ js. additions_told ts g (object js) (c ∷ cs)) (additions_normal ts f (c ∷ cs) (map slot_of (x ∷ xs))) os) q.are
      (both_tell (addition_names o c) (all_names cs) (λ js. addition_told g (object js) o c) (λ js. additions_told ts g (object js) cs)
      (addition_normal ts f o c (slot_of x)) (additions_normal ts f cs (map slot_of xs)) q.first q.rest h r d
      (λ js. additions_told ts g (object js) (c ∷ cs)) (additions_normal ts f (c ∷ cs) (map slot_of (x ∷ xs)))
      (λ js a b. ap₂ joined a b))

  -- ---- records

  all_members : (t : List ℕ → Bool) (ks : List (List ℕ)) → ((n : List ℕ) → is_among ks n ≡ true → t n ≡ true) → list_all t ks ≡ true
  all_members t [] h = refl
  all_members t (k ∷ ks) h =
      and_from (t k) (list_all t ks) (h k (or_left (bytes_eq k k) (is_among ks k) (own_name k)))
      (all_members t ks (λ n e. h n (or_right (bytes_eq k n) (is_among ks n) e)))

  both_fields : (o p : Option (List (Option Value))) (vs ws : List (Option Value)) → o ≡ Some vs → p ≡ Some ws → fields_told o p ≡ Some (record_value vs ws)
  both_fields o p vs ws e h = ap₂ fields_told e h

  record_is : (r : Record) (ss us : List (Option Value)) → record_normal ts f r (record_value ss us) ≡ record_value (slots_normal ts f r.root.items ss) (additions_normal ts f (behind r.additions) us)
  record_is r ss us = ap₂ (λ a b. record_value (slots_normal ts f r.root.items a) (additions_normal ts f (behind r.additions) b)) (slots-as_slots ss) (slots-as_slots us)

  abbrev object_of : Option (List Member) → Option Json
  object_of o = option_map (λ ms. object (members_from ms)) o

  pub record_read : (r : Record) (xs ys : List Tree) (j : Json) → differ (member_names ts r) ≡ true → object_of (record_members ts m r (map (known ts) xs) (map (known ts) ys)) ≡ Some j
      → ReadAs (Some (record_value (map slot_of xs) (map slot_of ys))) (record_told ts g r j) (record_normal ts f r) j
  record_read r xs ys j d e =
      let cs = r.root.items in
      let adds = behind r.additions in
      let w = was_mapped (λ ms. object (members_from ms)) (record_members ts m r (map (known ts) xs) (map (known ts) ys)) j e in
      let q = were_both (list_members ts false m cs (map (known ts) xs)) (list_members ts true m adds (map (known ts) ys)) w.source w.is_source in
      let h = parts_read cs xs q.first (differ_left (component_names cs) (all_names adds) d) q.is_first in
      let k = additions_read adds ys q.rest (differ_right (component_names cs) (all_names adds) d) q.is_rest in
      let vs = slots_normal ts f cs (map slot_of xs) in
      let ws = additions_normal ts f adds (map slot_of ys) in
      let told = λ (js : Members). fields_told (components_told g (object js) cs) (additions_told ts g (object js) adds) in
      let t : Tells (component_names cs ++ all_names adds) told (record_value vs ws) (q.first ++ q.rest) =
      both_tell (component_names cs) (all_names adds) (λ js. components_told g (object js) cs) (λ js. additions_told ts g (object js) adds) vs ws q.first q.rest h.tells k d
      told (record_value vs ws) (λ js a b. ap₂ fields_told a b) in
      let all : list_all (is_member ts r) (names_of (q.first ++ q.rest)) ≡ true =
      all_members (is_member ts r) (names_of (q.first ++ q.rest)) (λ n e. sym (member_is ts r n) ∙ t.named n e) in
      subst (λ i. ReadAs (Some (record_value (map slot_of xs) (map slot_of ys))) (record_told ts g r i) (record_normal ts f r) i) (ap (λ ms. object (members_from ms)) q.are ∙ w.is_image) (record {
        value = record_value (map slot_of xs) (map slot_of ys);
        is_there = refl;
        told = ap (λ b. cond b (told (members_from (q.first ++ q.rest))) None) all
            ∙ object_told (component_names cs ++ all_names adds) told (record_value vs ws) (q.first ++ q.rest) t
            ∙ ap (λ v. Some v) (sym (record_is r (map slot_of xs) (map slot_of ys)));
        unique = object_unique (component_names cs ++ all_names adds) told (record_value vs ws) (q.first ++ q.rest) t;
      })
