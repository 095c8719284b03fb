-- Loops over lists of values that are compared with defaults, and the parts of records.
use Rattle.std.proofs.Common.{◌≡◌, refl, sym, ap, ap₂, ◌∙◌, subst, ℕ, zero, suc, max, ◌+◌, ◌<◌, ◌≤◌, Bool, true, false, cond, List, [], ◌∷◌, map, length, drop, get_or, Option, Some, None, arith, le_trans}
use Rattle.std.specs.Prelude.{◌&&◌, is_some, not, slice_get}
use Rattle.std.specs.Global.{Vec}
use Rattle.rasn_types.specs.Values
use Rattle.rasn_types.specs.Values.{Value as Content, same}
use Rattle.rasn_types.proofs.Values.{slots-as_slots}
use Rattle.rasn_schema.specs.Normal.{AtDepths, are_idle, is_idle, is_vacant, normal, normals, settle}
use Rattle.rasn_schema.specs.Lists.{deepest}
use Rattle.rasn_schema.specs.Structures.{list_value, record_value}
use Rattle.rasn_schema.specs.Schemas
use Rattle.rasn_schema.specs.Schemas.{Schema}
use Rattle.rasn_dynamic.specs.declared.types.Component.{Component}
use Rattle.rasn_dynamic.specs.declared.types.DefaultTree.{DefaultTree}
use Rattle.rasn_dynamic.specs.declared.types.Kind.{Kind}
use Rattle.rasn_dynamic.specs.declared.types.Kind.TheVariants.{Simple as SimpleKind, Date, List as ListKind, SetOf, Record as RecordKind, Choice as ChoiceKind, Containing, Open as OpenKind}
use Rattle.rasn_dynamic.specs.declared.types.Presence.{Presence}
use Rattle.rasn_dynamic.specs.declared.types.Presence.TheVariants.{Default, Group, Optional, Required}
use Rattle.rasn_dynamic.specs.declared.types.Record.{Record}
use Rattle.rasn_dynamic.specs.declared.values.Value.{Value}
use Rattle.rasn_dynamic.specs.declared.values.Value.TheOpen.{Fields}
use Rattle.rasn_dynamic.specs.declared.values.Value.TheViews
use Rattle.rasn_dynamic.specs.declared.values.Value.TheViews.{roll-Value}
use Rattle.rasn_dynamic.specs.declared.values.Value.TheVariants.{rolls-Fields}
use Rattle.rasn_dynamic.specs.Defaults.{all_pairs, group_in, group_of, groups, record_of, same_slot, settled}
use Rattle.rasn_dynamic.specs.Types.{behind, grouped, in_root, is_not_required, parts_in, presence_of, record_schema, required_in, schema_at, tree_slot, tree_value}
use Rattle.rasn_dynamic.specs.Values.{levels_of, slot_of, there, value_of}
use Rattle.rasn_dynamic.proofs.Comparing.{no_record_shape}
use Rattle.rasn_dynamic.proofs.NormalForms.{idle_pairs, normals_count, part_more, past_normal, shape, shape_kept}
use Rattle.rasn_dynamic.proofs.Pairs.{begun, ended, failed, image_more, item_more, Pairing, passed, uneven}
use Rattle.rasn_dynamic.proofs.Places.{record_there}
use Rattle.rasn_dynamic.proofs.Trees.{deepest_at, fields_levels, fields_value}

map_count : {A B : Type 0} (f : A → B) (xs : List A) → length (map f xs) ≡ length xs
map_count f [] = refl
map_count f (x ∷ xs) = ap suc (map_count f xs)

pub item_there : {A : Type 0} (xs : List A) (i : ℕ) (x : A) → i < length xs → x ≡ get_or xs i x → slice_get xs i ≡ Some x
item_there [] i x l e = absurd (omega (arith, l))
item_there (y ∷ xs) zero x l e = ap Some (sym e)
item_there (y ∷ xs) (suc i) x l e = item_there xs i x (omega (arith, l)) e

-- ---- elements

module _ (ts : List Kind) (i : ℕ) (vs : List Value) (ds : List DefaultTree) where
  abbrev pub element_test : ℕ → Value → DefaultTree → Bool
  element_test n v d = same (normal (schema_at ts i n) (value_of v)) (tree_value d)

  abbrev pub ElementsTo : ℕ → Type 0
  ElementsTo k = Pairing (deepest levels_of vs) element_test (λ n. vs) (λ n. ds) k

  abbrev pub ElementsCome : Bool → Type 0
  ElementsCome b = AtDepths (schema_at ts i) (deepest levels_of vs) (λ s. b ≡ all_pairs (λ v d. same (normal s (value_of v)) (tree_value d)) vs ds)

  pub elements_begun : ElementsTo 0
  elements_begun = begun (deepest levels_of vs) element_test (λ n. vs) (λ n. ds)

  pub elements_uneven : (length vs ≡ length ds → ⊥) → ElementsCome false
  elements_uneven h = record { at = λ n le. uneven (element_test n) vs ds h }

  module _ (k : ℕ) (p : ElementsTo k) where
    pub elements_ended : length vs ≡ length ds → length ds ≤ k → ElementsCome true
    elements_ended e l = record { at = λ n le. ended (deepest levels_of vs) element_test (λ n. vs) (λ n. ds) k p n le (omega arith) l }

    module _ (v : Value) (d : DefaultTree) (b : Bool) (l : k < length vs) (e : v ≡ get_or vs k v) (m : k < length ds) (f : d ≡ get_or ds k d)
        (h : AtDepths (schema_at ts i) (levels_of v) (λ s. b ≡ same (normal s (value_of v)) (tree_value d))) where
      told : (n : ℕ) → deepest levels_of vs ≤ n → b ≡ element_test n v d
      told n le = h.at n (le_trans (deepest_at vs k v l e) le)

      pub elements_passed : b ≡ true → ElementsTo (k + 1)
      elements_passed t = passed (deepest levels_of vs) element_test (λ n. vs) (λ n. ds) k p b (λ n. v) (λ n. d) told (λ n. item_more vs k v l e) (λ n. item_more ds k d m f) t

      pub elements_failed : b ≡ false → ElementsCome false
      elements_failed t = record { at = failed (deepest levels_of vs) element_test (λ n. vs) (λ n. ds) k p b (λ n. v) (λ n. d) told (λ n. item_more vs k v l e) (λ n. item_more ds k d m f) t }

-- ---- parts of records

module _ (ts : List Kind) (g : Bool) (cs : List Component) (vs : List Value) where
  abbrev pub parts_normal : ℕ → List (Option Content)
  parts_normal n = normals (parts_in (groups g ts) (λ j. schema_at ts j n) cs) (map slot_of vs)

  parts_count : (n : ℕ) → length (parts_normal n) ≡ length vs
  parts_count n = normals_count (groups g ts) (λ j. schema_at ts j n) cs (map slot_of vs) ∙ map_count slot_of vs

  module _ (ds : List DefaultTree) where
    abbrev pub PartsTo : ℕ → Type 0
    PartsTo k = Pairing (deepest levels_of vs) (λ n. same_slot) parts_normal (λ n. map tree_slot ds) k

    abbrev pub PartsCome : Bool → Type 0
    PartsCome b = (n : ℕ) → deepest levels_of vs ≤ n → b ≡ all_pairs same_slot (parts_normal n) (map tree_slot ds)

    pub parts_begun : PartsTo 0
    parts_begun = begun (deepest levels_of vs) (λ n. same_slot) parts_normal (λ n. map tree_slot ds)

    pub parts_uneven : (length vs ≡ length ds → ⊥) → PartsCome false
    parts_uneven h n le = uneven same_slot (parts_normal n) (map tree_slot ds) (λ e. h (sym (parts_count n) ∙ e ∙ map_count tree_slot ds))

    module _ (k : ℕ) (p : PartsTo k) where
      pub parts_ended : length vs ≡ length ds → length ds ≤ k → PartsCome true
      parts_ended e l n le = ended (deepest levels_of vs) (λ n. same_slot) parts_normal (λ n. map tree_slot ds) k p n le (omega (arith, parts_count n)) (omega (arith, map_count tree_slot ds))

      module _ (v : Value) (d : DefaultTree) (o : Option Component) (b : Bool) (l : k < length vs) (e : v ≡ get_or vs k v) (m : k < length ds) (f : d ≡ get_or ds k d) (q : o ≡ slice_get cs k)
          (h : (n : ℕ) → levels_of v ≤ n → b ≡ same_slot (settled (groups g ts) (λ j. schema_at ts j n) o (slot_of v)) (tree_slot d)) where
        abbrev pub own : ℕ → Option Content
        own n = settled (groups g ts) (λ j. schema_at ts j n) (slice_get cs k) (slot_of v)

        told_part : (n : ℕ) → deepest levels_of vs ≤ n → b ≡ same_slot (own n) (tree_slot d)
        told_part n le = h n (le_trans (deepest_at vs k v l e) le) ∙ ap (λ c. same_slot (settled (groups g ts) (λ j. schema_at ts j n) c (slot_of v)) (tree_slot d)) q

        pub parts_passed : b ≡ true → PartsTo (k + 1)
        parts_passed t = passed (deepest levels_of vs) (λ n. same_slot) parts_normal (λ n. map tree_slot ds) k p b own (λ n. tree_slot d) told_part (λ n. part_more (groups g ts) (λ j. schema_at ts j n) cs vs k v l e) (λ n. image_more tree_slot ds k d m f) t

        pub parts_failed : b ≡ false → PartsCome false
        parts_failed t = failed (deepest levels_of vs) (λ n. same_slot) parts_normal (λ n. map tree_slot ds) k p b own (λ n. tree_slot d) told_part (λ n. part_more (groups g ts) (λ j. schema_at ts j n) cs vs k v l e) (λ n. image_more tree_slot ds k d m f) t

  -- ---- whether they are absent or at their defaults

  abbrev pub idle_test : ℕ → Component → Option Content → Bool
  idle_test n c o = is_idle (presence_of (groups g ts c) c.presence) o

  abbrev pub IdleTo : ℕ → Type 0
  IdleTo k = Pairing (deepest levels_of vs) idle_test (λ n. cs) parts_normal k

  abbrev pub AreIdle : Bool → Type 0
  AreIdle b = (n : ℕ) → deepest levels_of vs ≤ n → b ≡ are_idle (parts_in (groups g ts) (λ j. schema_at ts j n) cs) (parts_normal n)

  idle_all : (n : ℕ) → all_pairs (idle_test n) cs (parts_normal n) ≡ are_idle (parts_in (groups g ts) (λ j. schema_at ts j n) cs) (parts_normal n)
  idle_all n = idle_pairs (groups g ts) (λ j. schema_at ts j n) cs (parts_normal n)

  pub idle_begun : IdleTo 0
  idle_begun = begun (deepest levels_of vs) idle_test (λ n. cs) parts_normal

  pub idle_uneven : (length vs ≡ length cs → ⊥) → AreIdle false
  idle_uneven h n le = uneven (idle_test n) cs (parts_normal n) (λ e. h (sym (parts_count n) ∙ sym e)) ∙ idle_all n

  module _ (k : ℕ) (p : IdleTo k) where
    pub idle_ended : length vs ≡ length cs → length cs ≤ k → AreIdle true
    idle_ended e l n le = ended (deepest levels_of vs) idle_test (λ n. cs) parts_normal k p n le l (omega (arith, parts_count n)) ∙ idle_all n

    module _ (v : Value) (c : Component) (b : Bool) (l : k < length vs) (e : v ≡ get_or vs k v) (m : k < length cs) (f : c ≡ get_or cs k c)
        (h : (n : ℕ) → levels_of v ≤ n → b ≡ is_idle (presence_of (groups g ts c) c.presence) (settled (groups g ts) (λ j. schema_at ts j n) (Some c) (slot_of v))) where
      abbrev pub idle_own : ℕ → Option Content
      idle_own n = settled (groups g ts) (λ j. schema_at ts j n) (slice_get cs k) (slot_of v)

      idle_told : (n : ℕ) → deepest levels_of vs ≤ n → b ≡ idle_test n c (idle_own n)
      idle_told n le = h n (le_trans (deepest_at vs k v l e) le) ∙ ap (λ o. idle_test n c (settled (groups g ts) (λ j. schema_at ts j n) o (slot_of v))) (sym (item_there cs k c m f))

      pub idle_passed : b ≡ true → IdleTo (k + 1)
      idle_passed t = passed (deepest levels_of vs) idle_test (λ n. cs) parts_normal k p b (λ n. c) idle_own idle_told (λ n. item_more cs k c m f) (λ n. part_more (groups g ts) (λ j. schema_at ts j n) cs vs k v l e) t

      pub idle_failed : b ≡ false → AreIdle false
      idle_failed t n le = failed (deepest levels_of vs) idle_test (λ n. cs) parts_normal k p b (λ n. c) idle_own idle_told (λ n. item_more cs k c m f) (λ n. part_more (groups g ts) (λ j. schema_at ts j n) cs vs k v l e) t n le ∙ idle_all n

-- ---- one part

-- what becomes of a part that is there, by whether it is a group
settle_group : (o : Option Kind) (p : Presence) (s : Schema) (v : Content) → settle (presence_of (is_some (required_in o)) p) s v ≡ cond (is_some (group_in p o) && is_vacant s v) None (Some v)
unfolding settle
settle_group o Required s v = refl
settle_group o Optional s v = refl
settle_group o (Default d) s v = refl
settle_group None Group s v = refl
settle_group (Some (SimpleKind k)) Group s v = refl
settle_group (Some Date) Group s v = refl
settle_group (Some (ListKind j c)) Group s v = refl
settle_group (Some (SetOf j c)) Group s v = refl
settle_group (Some (RecordKind r)) Group s v = refl
settle_group (Some (ChoiceKind c)) Group s v = refl
settle_group (Some (Containing j)) Group s v = refl
settle_group (Some (OpenKind x)) Group s v = refl

settle_root : (p : Presence) (s : Schema) (v : Content) → settle (presence_of false p) s v ≡ Some v
unfolding settle
settle_root Required s v = refl
settle_root Optional s v = refl
settle_root (Default d) s v = refl
settle_root Group s v = refl

pub settle_part : (ts : List Kind) (g : Bool) (c : Component) (s : Schema) (v : Content) → settle (presence_of (groups g ts c) c.presence) s v ≡ cond (is_some (group_of ts g c) && is_vacant s v) None (Some v)
settle_part ts true c s v = settle_group (slice_get ts c.of) c.presence s v
settle_part ts false c s v = settle_root c.presence s v

slot_is : (o : Option Content) → is_some o ≡ true → o ≡ Some (there o)
slot_is None e = absurd cc
slot_is (Some v) e = refl

-- an absent part
pub part_absent : (g : Component → Bool) (s : ℕ → Schema) (o : Option Component) (x y : Option Content) (a b : Bool) → a ≡ is_some x → a ≡ false → b ≡ is_some y → not b ≡ same_slot (settled g s o x) y
part_absent g s o (Some v) y a b e f h = absurd (let k : true ≡ false = sym e ∙ f in cc)
part_absent g s None None None a b e f h = ap not h
part_absent g s None None (Some w) a b e f h = ap not h
part_absent g s (Some c) None None a b e f h = ap not h
part_absent g s (Some c) None (Some w) a b e f h = ap not h

-- a default that is there, or isn't
pub slot_untold : (v : Content) (y : Option Content) (b : Bool) → b ≡ is_some y → b ≡ false → false ≡ same_slot (Some v) y
slot_untold v None b e f = refl
slot_untold v (Some w) b e f = absurd (let k : true ≡ false = sym e ∙ f in cc)

pub slot_told : (v : Content) (d : DefaultTree) (a b : Bool) → b ≡ is_some (tree_slot d) → b ≡ true → a ≡ same v (tree_value d) → a ≡ same_slot (Some v) (tree_slot d)
slot_told v d a b e f h = go (tree_slot d) e h
  where
    go : (y : Option Content) → b ≡ is_some y → a ≡ same v (Rattle.rasn_dynamic.specs.Types.stated y) → a ≡ same_slot (Some v) y
    go None e h = absurd (let k : true ≡ false = sym f ∙ e in cc)
    go (Some w) e h = h

-- a part past the components
pub part_past : (ts : List Kind) (g : Component → Bool) (n : ℕ) (x : Option Content) (d : DefaultTree) (a b : Bool) → a ≡ is_some x → a ≡ true
    → b ≡ same_slot (Some (normal (schema_at ts (length ts) n) (there x))) (tree_slot d) → b ≡ same_slot (settled g (λ j. schema_at ts j n) None x) (tree_slot d)
part_past ts g n None d a b e f h = absurd (let k : true ≡ false = sym f ∙ e in cc)
part_past ts g n (Some v) d a b e f h = h ∙ ap (λ w. same_slot (Some w) (tree_slot d)) (past_normal ts n v)

module _ (ts : List Kind) (g : Bool) (c : Component) (n : ℕ) (v : Content) (a : Bool) (h : a ≡ (is_some (group_of ts g c) && is_vacant (schema_at ts c.of n) (normal (schema_at ts c.of n) v))) where
  part_is : settled (groups g ts) (λ j. schema_at ts j n) (Some c) (Some v) ≡ cond a None (Some (normal (schema_at ts c.of n) v))
  part_is = settle_part ts g c (schema_at ts c.of n) (normal (schema_at ts c.of n) v) ∙ ap (λ b. cond b None (Some (normal (schema_at ts c.of n) v))) (sym h)

  pub part_vacant : (y : Option Content) (b : Bool) → a ≡ true → b ≡ is_some y → not b ≡ same_slot (settled (groups g ts) (λ j. schema_at ts j n) (Some c) (Some v)) y
  part_vacant y b e f = ap not f ∙ none_same y ∙ ap (λ o. same_slot o y) (sym (part_is ∙ ap (λ t. cond t None (Some (normal (schema_at ts c.of n) v))) e))
    where
      none_same : (y : Option Content) → not (is_some y) ≡ same_slot None y
      none_same None = refl
      none_same (Some w) = refl

  pub part_full : (y : Option Content) (b : Bool) → a ≡ false → b ≡ same_slot (Some (normal (schema_at ts c.of n) v)) y → b ≡ same_slot (settled (groups g ts) (λ j. schema_at ts j n) (Some c) (Some v)) y
  part_full y b e f = f ∙ ap (λ o. same_slot o y) (sym (part_is ∙ ap (λ t. cond t None (Some (normal (schema_at ts c.of n) v))) e))

-- the same, of a slot that is there
pub at_there : (P : Option Content → Type 0) (o : Option Content) → is_some o ≡ true → P (Some (there o)) → P o
at_there P None e h = absurd cc
at_there P (Some v) e h = h

-- ---- vacant groups

pub group_stands : (ts : List Kind) (g : Bool) (c : Component) (r : Record) → group_of ts g c ≡ Some r → slice_get ts c.of ≡ Some (RecordKind r)
group_stands ts false c r e = absurd cc
group_stands ts true c r e = go c.presence (slice_get ts c.of) e
  where
    go : (p : Presence) (o : Option Kind) → group_in p o ≡ Some r → o ≡ Some (RecordKind r)
    go Required o e = absurd cc
    go Optional o e = absurd cc
    go (Default d) o e = absurd cc
    go Group (Some (RecordKind q)) e = let f : q ≡ r = cc in ap (λ x. Some (RecordKind x)) f
    go Group o e = absurd cc

pub group_vacant : (ts : List Kind) (g : Bool) (c : Component) (r : Record) (n : ℕ) (v : Content) (b : Bool) → group_of ts g c ≡ Some r → b ≡ is_vacant (record_schema ts r n) (normal (record_schema ts r n) v)
    → b ≡ (is_some (group_of ts g c) && is_vacant (schema_at ts c.of n) (normal (schema_at ts c.of n) v))
group_vacant ts g c r n v b e h =
    h ∙ ap (λ s. is_vacant s (normal s v)) (sym (record_there ts c.of r (group_stands ts g c r e) n))
    ∙ ap (λ o. is_some o && is_vacant (schema_at ts c.of n) (normal (schema_at ts c.of n) v)) (sym e)

pub no_group_vacant : (o : Option Record) (b : Bool) → o ≡ None → false ≡ (is_some o && b)
no_group_vacant o b e = ap (λ p. is_some p && b) (sym e)

other_vacant : (s : Schema) (w : Content) → (shape w ≡ 2 → ⊥) → false ≡ is_vacant s w
unfolding is_vacant
other_vacant s (Values.fields r x) h = absurd (h refl)
other_vacant s w h = refl

pub no_record_vacant : (F : ℕ → Schema) (v : Value) → ((y z : _) → v ≡ TheViews.Fields y z → ⊥) → AtDepths F (levels_of v) (λ s. false ≡ is_vacant s (normal s (value_of v)))
no_record_vacant F v h = record { at = λ n le. other_vacant (F n) (normal (F n) (value_of v)) (λ e. no_record_shape v h (sym (shape_kept (F n) (value_of v)) ∙ e)) }

module _ (ts : List Kind) (r : Record) (v : Value) (x y : _) (e : v ≡ TheViews.Fields x y) where
  fields_rolled : v ≡ roll-Value (Fields x y)
  fields_rolled = e ∙ sym (rolls-Fields x y)

  vacant_fields : (n : ℕ) (a b : Bool) → a ≡ are_idle (parts_in in_root (λ j. schema_at ts j n) r.root.items) (parts_normal ts false r.root.items x.items n)
      → b ≡ are_idle (parts_in (grouped ts) (λ j. schema_at ts j n) (behind r.additions)) (parts_normal ts true (behind r.additions) y.items n)
      → (a && b) ≡ is_vacant (record_schema ts r (suc n)) (normal (record_schema ts r (suc n)) (value_of v))
  unfolding normal is_vacant
  vacant_fields n a b h k =
      let ps = parts_in in_root (λ j. schema_at ts j n) r.root.items in
      let qs = parts_in (grouped ts) (λ j. schema_at ts j n) (behind r.additions) in
      ap₂ (λ p q. p && q) h k
      ∙ ap₂ (λ us ws. are_idle ps (normals ps us) && are_idle qs (normals qs ws)) (sym (slots-as_slots (map slot_of x.items))) (sym (slots-as_slots (map slot_of y.items)))
      ∙ ap₂ (λ us ws. are_idle ps us && are_idle qs ws) (sym (slots-as_slots _)) (sym (slots-as_slots _))
      ∙ ap (λ w. is_vacant (record_schema ts r (suc n)) (normal (record_schema ts r (suc n)) w)) (sym (fields_value v x y fields_rolled))

  pub record_vacant : (a b : Bool) → a ≡ true → AreIdle ts false r.root.items x.items a → AreIdle ts true (behind r.additions) y.items b
      → AtDepths (record_schema ts r) (levels_of v) (λ s. b ≡ is_vacant s (normal s (value_of v)))
  record_vacant a b t h k = record { at = go }
    where
      go : (n : ℕ) → levels_of v ≤ n → b ≡ is_vacant (record_schema ts r n) (normal (record_schema ts r n) (value_of v))
      go zero le = absurd (omega (arith, le, fields_levels v x y fields_rolled))
      go (suc n) le = sym (ap (λ p. p && b) t) ∙ vacant_fields n a b (h n (omega (arith, le, fields_levels v x y fields_rolled))) (k n (omega (arith, le, fields_levels v x y fields_rolled)))

  pub record_full : (a : Bool) → a ≡ false → AreIdle ts false r.root.items x.items a → AtDepths (record_schema ts r) (levels_of v) (λ s. false ≡ is_vacant s (normal s (value_of v)))
  record_full a t h = record { at = go }
    where
      go : (n : ℕ) → levels_of v ≤ n → false ≡ is_vacant (record_schema ts r n) (normal (record_schema ts r n) (value_of v))
      go zero le = absurd (omega (arith, le, fields_levels v x y fields_rolled))
      go (suc n) le =
          let b = are_idle (parts_in (grouped ts) (λ j. schema_at ts j n) (behind r.additions)) (parts_normal ts true (behind r.additions) y.items n) in
          sym (ap (λ p. p && b) t) ∙ vacant_fields n a b (h n (omega (arith, le, fields_levels v x y fields_rolled))) refl

-- ---- idle parts

absent_idle : (h : Bool) (p : Presence) → is_not_required p ≡ is_idle (presence_of h p) None
unfolding is_idle
absent_idle h Required = refl
absent_idle h Optional = refl
absent_idle true Group = refl
absent_idle false Group = refl
absent_idle h (Default d) = refl

pub idle_absent : (g : Component → Bool) (s : ℕ → Schema) (c : Component) (x : Option Content) (a b : Bool) → a ≡ is_some x → a ≡ false → b ≡ is_not_required c.presence → b ≡ is_idle (presence_of (g c) c.presence) (settled g s (Some c) x)
idle_absent g s c (Some v) a b e f h = absurd (let q : true ≡ false = sym e ∙ f in cc)
idle_absent g s c None a b e f h = h ∙ absent_idle (g c) c.presence

-- a part that is there
module _ (ts : List Kind) (g : Bool) (c : Component) (n : ℕ) (v : Content) where
  abbrev pub idle_there : Bool
  idle_there = is_idle (presence_of (groups g ts c) c.presence) (settled (groups g ts) (λ j. schema_at ts j n) (Some c) (Some v))

  idle_settled : (p : Presence) → c.presence ≡ p → idle_there ≡ is_idle (presence_of (groups g ts c) p) (settle (presence_of (groups g ts c) p) (schema_at ts c.of n) (normal (schema_at ts c.of n) v))
  idle_settled p e = ap (λ q. is_idle (presence_of (groups g ts c) q) (settle (presence_of (groups g ts c) q) (schema_at ts c.of n) (normal (schema_at ts c.of n) v))) e

  pub idle_required : c.presence ≡ Required → false ≡ idle_there
  unfolding is_idle settle
  idle_required e = sym (idle_settled Required e)

  pub idle_optional : c.presence ≡ Optional → false ≡ idle_there
  unfolding is_idle settle
  idle_optional e = sym (idle_settled Optional e)

  pub idle_default : (d : DefaultTree) (b : Bool) → c.presence ≡ Default d → b ≡ same (normal (schema_at ts c.of n) v) (tree_value d) → b ≡ idle_there
  unfolding is_idle settle
  idle_default d b e h = h ∙ sym (idle_settled (Default d) e)

  pub idle_group : (a : Bool) → c.presence ≡ Group → a ≡ (is_some (group_of ts g c) && is_vacant (schema_at ts c.of n) (normal (schema_at ts c.of n) v)) → a ≡ idle_there
  unfolding is_idle
  idle_group a e h = go (groups g ts c) a ∙ sym (ap (is_idle (presence_of (groups g ts c) c.presence)) (settle_part ts g c (schema_at ts c.of n) w ∙ ap (λ b. cond b None (Some w)) (sym h)) ∙ ap (λ p. is_idle (presence_of (groups g ts c) p) (cond a None (Some w))) e)
    where
      w : Content
      w = normal (schema_at ts c.of n) v

      go : (b a : Bool) → a ≡ is_idle (presence_of b Group) (cond a None (Some w))
      go true true = refl
      go true false = refl
      go false true = refl
      go false false = refl
