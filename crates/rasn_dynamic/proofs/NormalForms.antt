-- What the normal form of a value by a table is, by its outermost level and by what is at its place.
use Rattle.std.proofs.Common.{◌≡◌, refl, sym, ap, ap₂, ◌∙◌, ℕ, zero, suc, ◌+◌, ◌<◌, ◌≤◌, Bool, true, false, List, [], ◌∷◌, map, length, drop, get_or, Option, Some, None, arith}
use Rattle.std.specs.Bool.{Decides}
use Rattle.std.specs.Prelude.{◌&&◌, slice_get}
use Rattle.std.proofs.lemmas.Bool.Decides.{same_from_decides}
use Rattle.rasn_types.specs.Values
use Rattle.rasn_types.specs.Values.{Value as Content, alternative, as_slots, as_values, bag_of, same, slots, values}
use Rattle.rasn_types.proofs.Codes.{same_true}
use Rattle.rasn_types.proofs.Values.{slots-as_slots, values-as_values}
use Rattle.rasn_schema.specs.Structures.{list_value, record_value}
use Rattle.rasn_schema.specs.Normal.{are_idle, each_slot, is_idle, is_vacant, normal, normal_at, normals, over_bag, settle}
use Rattle.rasn_schema.specs.Schemas
use Rattle.rasn_schema.specs.Schemas.{Schema}
use Rattle.rasn_schema.specs.declared.items.Place.{Place}
use Rattle.rasn_schema.specs.declared.items.Place.TheVariants.{Root, Added}
use Rattle.rasn_traits.specs.Counted.{index_in, side_of}
use Rattle.rasn_traits.specs.Moments.{date_at}
use Rattle.rasn_dynamic.specs.declared.types.Alternative.{Alternative}
use Rattle.rasn_dynamic.specs.declared.types.Component.{Component}
use Rattle.rasn_dynamic.specs.declared.types.Kind.{Kind}
use Rattle.rasn_dynamic.specs.declared.types.Kind.TheVariants.{Simple as SimpleKind, Date, List as ListKind, SetOf, Record as RecordKind, Choice as ChoiceKind, Containing, Open as OpenKind}
use Rattle.rasn_dynamic.specs.declared.types.Simple.{Simple}
use Rattle.rasn_dynamic.specs.declared.types.Simple.TheVariants.{NamedBits}
use Rattle.rasn_dynamic.specs.declared.values.Value.{Value}
use Rattle.rasn_dynamic.specs.Defaults.{all_pairs, chosen_in, chosen_place, components_at, element_place, elements_of, groups, place_in, root_in, after_in, same_slot, settled}
use Rattle.rasn_dynamic.specs.Types.{alternatives_in, at_place, behind, grouped, in_root, parts_in, plain_at, presence_of, schema_at, simple_schema, within}
use Rattle.rasn_dynamic.specs.Values.{slot_of, value_of}
use Rattle.rasn_dynamic.proofs.Pairs.{both_decide, pairs_decide}
use Rattle.rasn_dynamic.proofs.Places.{containing_there, none_there, plain_there}
use Rattle.rasn_dynamic.proofs.SameDefaults.{same_self}

-- ---- values are one where their parts are

pub same_decides : (v w : Content) → Decides (same v w) (v ≡ w)
same_decides v w = (same_true v w, λ e. rw e (same_self w))

slot_decides : (r d : Option Content) → Decides (same_slot r d) (r ≡ d)
slot_decides None None = (λ e. refl, λ e. refl)
slot_decides None (Some w) = (λ e. absurd (cc), λ e. absurd (cc))
slot_decides (Some v) None = (λ e. absurd (cc), λ e. absurd (cc))
slot_decides (Some v) (Some w) = let d = same_decides v w in (λ e. ap Some (d.0 e), λ e. d.1 (cc))

lists_one : (vs ws : List Content) → list_value vs ≡ list_value ws → vs ≡ ws
lists_one vs ws e = let h : as_values vs ≡ as_values ws = cc in sym (values-as_values vs) ∙ ap values h ∙ values-as_values ws

pub lists_same : (vs ws : List Content) → all_pairs same vs ws ≡ same (list_value vs) (list_value ws)
lists_same vs ws =
    let d = pairs_decide same same_decides vs ws in let s = same_decides (list_value vs) (list_value ws) in
    same_from_decides _ _ d (λ e. lists_one vs ws (s.0 e), λ e. s.1 (ap list_value e))

slots_one : (rs ds : List (Option Content)) → as_slots rs ≡ as_slots ds → rs ≡ ds
slots_one rs ds e = sym (slots-as_slots rs) ∙ ap slots e ∙ slots-as_slots ds

records_one : (rs xs ds es : List (Option Content)) → record_value rs xs ≡ record_value ds es → (rs ≡ ds) × (xs ≡ es)
records_one rs xs ds es e =
    let h : as_slots rs ≡ as_slots ds = cc in
    let k : as_slots xs ≡ as_slots es = cc in
    (slots_one rs ds h, slots_one xs es k)

pub records_same : (rs xs ds es : List (Option Content)) → (all_pairs same_slot rs ds && all_pairs same_slot xs es) ≡ same (record_value rs xs) (record_value ds es)
records_same rs xs ds es = same_from_decides _ _
    (both_decide (all_pairs same_slot rs ds) (all_pairs same_slot xs es) (pairs_decide same_slot slot_decides rs ds) (pairs_decide same_slot slot_decides xs es) (λ e f. cc) (records_one rs xs ds es))
    (same_decides (record_value rs xs) (record_value ds es))

-- ---- the normal form of what is at a place

pub within_normal : (ts : List Kind) (i n : ℕ) (v : Content) → normal (schema_at ts i n) v ≡ normal (at_place (λ k. plain_at ts k n) (within ts (slice_get ts i))) v
unfolding normal
within_normal ts i n v = go (slice_get ts i) refl
  where
    go : (o : Option Kind) → slice_get ts i ≡ o → normal (schema_at ts i n) v ≡ normal (at_place (λ k. plain_at ts k n) (within ts o)) v
    go None e = ap (λ s. normal s v) (none_there ts i e n)
    go (Some (Containing j)) e = ap (λ s. normal s v) (containing_there ts i j e n)
    go (Some k) e = ap (λ s. normal s v) (plain_there ts i k e (λ j f. absurd cc) n)

pub past_none : (ts : List Kind) → slice_get ts (length ts) ≡ None
past_none [] = refl
past_none (t ∷ ts) = past_none ts

-- past the table values stay
pub past_normal : (ts : List Kind) (n : ℕ) (v : Content) → normal (schema_at ts (length ts) n) v ≡ v
unfolding normal
past_normal ts n v = ap (λ s. normal s v) (none_there ts (length ts) (past_none ts) n)

date_normal : (n : ℕ) (v : Content) → normal (date_at n) v ≡ v
unfolding normal
date_normal zero v = refl
date_normal (suc zero) v = refl
date_normal (suc (suc n)) v = refl

map_same : (f : Content → Content) → ((v : Content) → f v ≡ v) → (vs : List Content) → vs ≡ map f vs
map_same f h [] = refl
map_same f h (v ∷ vs) = ap₂ (λ w ws. w ∷ ws) (sym (h v)) (map_same f h vs)

-- ---- of a list

simple_elements : (k : Simple) (vs : Values.Values) → normal (simple_schema k) (Values.elements vs) ≡ Values.elements vs
unfolding normal
simple_elements (NamedBits c) vs = refl
simple_elements _ vs = refl

pub elements_normal : (ts : List Kind) (i n : ℕ) (ws : List Content) → normal (schema_at ts i (suc n)) (list_value ws) ≡ list_value (map (normal (schema_at ts (element_place ts i) n)) ws)
unfolding normal over_bag
elements_normal ts i n ws = within_normal ts i (suc n) (list_value ws) ∙ go (within ts (slice_get ts i))
  where
    stay : list_value ws ≡ list_value (map (normal (schema_at ts (length ts) n)) ws)
    stay = ap list_value (map_same (normal (schema_at ts (length ts) n)) (past_normal ts n) ws)

    go : (o : Option Kind) → normal (at_place (λ k. plain_at ts k (suc n)) o) (list_value ws) ≡ list_value (map (normal (schema_at ts (elements_of ts o) n)) ws)
    go None = stay
    go (Some (SimpleKind k)) = simple_elements k (as_values ws) ∙ stay
    go (Some Date) = date_normal (suc n) (list_value ws) ∙ stay
    go (Some (ListKind j c)) = ap (λ us. list_value (map (normal (schema_at ts j n)) us)) (values-as_values ws)
    go (Some (SetOf j c)) = stay
    go (Some (RecordKind r)) = stay
    go (Some (ChoiceKind c)) = stay
    go (Some (Containing j)) = stay
    go (Some (OpenKind o)) = stay

-- ---- of a record

simple_fields : (k : Simple) (rs xs : Values.Slots) → normal (simple_schema k) (Values.fields rs xs) ≡ Values.fields rs xs
unfolding normal
simple_fields (NamedBits c) rs xs = refl
simple_fields _ rs xs = refl

pub fields_normal : (ts : List Kind) (i n : ℕ) (rs xs : List (Option Content)) → normal (schema_at ts i (suc n)) (record_value rs xs)
    ≡ record_value (normals (parts_in (groups false ts) (λ j. schema_at ts j n) (components_at ts i false)) rs) (normals (parts_in (groups true ts) (λ j. schema_at ts j n) (components_at ts i true)) xs)
unfolding normal over_bag
fields_normal ts i n rs xs = within_normal ts i (suc n) (record_value rs xs) ∙ go (within ts (slice_get ts i))
  where
    go : (o : Option Kind) → normal (at_place (λ k. plain_at ts k (suc n)) o) (record_value rs xs)
        ≡ record_value (normals (parts_in in_root (λ j. schema_at ts j n) (root_in o)) rs) (normals (parts_in (grouped ts) (λ j. schema_at ts j n) (after_in o)) xs)
    go None = refl
    go (Some (SimpleKind k)) = simple_fields k (as_slots rs) (as_slots xs)
    go (Some Date) = date_normal (suc n) (record_value rs xs)
    go (Some (ListKind j c)) = refl
    go (Some (SetOf j c)) = refl
    go (Some (RecordKind r)) = ap₂ (λ us vs. record_value (normals (parts_in in_root (λ j. schema_at ts j n) r.root.items) us) (normals (parts_in (grouped ts) (λ j. schema_at ts j n) (behind r.additions)) vs)) (slots-as_slots rs) (slots-as_slots xs)
    go (Some (ChoiceKind c)) = refl
    go (Some (Containing j)) = refl
    go (Some (OpenKind o)) = refl

-- ---- of a choice

simple_chosen : (k : Simple) (d : Values.Side) (i : ℕ) (w : Content) → normal (simple_schema k) (alternative d i w) ≡ alternative d i w
unfolding normal
simple_chosen (NamedBits c) d i w = refl
simple_chosen _ d i w = refl

alternative_normal : (ts : List Kind) (n : ℕ) (cs : List Alternative) (i : ℕ) (w : Content) → normal_at (alternatives_in (λ j. schema_at ts j n) cs) i w ≡ normal (schema_at ts (place_in ts (slice_get cs i)) n) w
unfolding normal
alternative_normal ts n [] i w = sym (past_normal ts n w)
alternative_normal ts n (c ∷ cs) zero w = refl
alternative_normal ts n (c ∷ cs) (suc i) w = alternative_normal ts n cs i w

pub chosen_normal : (ts : List Kind) (i n : ℕ) (p : Place) (w : Content) → normal (schema_at ts i (suc n)) (alternative (side_of p) (index_in p) w)
    ≡ alternative (side_of p) (index_in p) (normal (schema_at ts (chosen_place ts i p) n) w)
unfolding normal over_bag
chosen_normal ts i n p w = within_normal ts i (suc n) (alternative (side_of p) (index_in p) w) ∙ go (within ts (slice_get ts i)) p
  where
    stay : (p : Place) → alternative (side_of p) (index_in p) w ≡ alternative (side_of p) (index_in p) (normal (schema_at ts (length ts) n) w)
    stay p = ap (alternative (side_of p) (index_in p)) (sym (past_normal ts n w))

    go : (o : Option Kind) (p : Place) → normal (at_place (λ k. plain_at ts k (suc n)) o) (alternative (side_of p) (index_in p) w)
        ≡ alternative (side_of p) (index_in p) (normal (schema_at ts (chosen_in ts o p) n) w)
    go None p = stay p
    go (Some (SimpleKind k)) p = simple_chosen k (side_of p) (index_in p) w ∙ stay p
    go (Some Date) p = date_normal (suc n) (alternative (side_of p) (index_in p) w) ∙ stay p
    go (Some (ListKind j c)) p = stay p
    go (Some (SetOf j c)) p = stay p
    go (Some (RecordKind r)) p = stay p
    go (Some (ChoiceKind c)) (Root k) = ap (alternative Values.root k) (alternative_normal ts n c.roots.items k w)
    go (Some (ChoiceKind c)) (Added k) = ap (alternative Values.added k) (alternative_normal ts n (behind c.addeds) k w)
    go (Some (Containing j)) p = stay p
    go (Some (OpenKind o)) p = stay p

-- ---- what isn't of a kind isn't so in normal form

abbrev pub shape : Content → ℕ
shape (Values.elements vs) = 1
shape (Values.fields rs xs) = 2
shape (Values.alternative d i v) = 3
shape _ = 0

pub shape_kept : (s : Schema) (v : Content) → shape (normal s v) ≡ shape v
unfolding normal over_bag bag_of
shape_kept (Schemas.containing s) v = shape_kept s v
shape_kept (Schemas.bit_string z m true) (Values.bits bs) = refl
shape_kept (Schemas.bit_string z m true) v = refl
shape_kept (Schemas.bit_string z m false) v = refl
shape_kept (Schemas.list s z m) (Values.elements vs) = refl
shape_kept (Schemas.list s z m) v = refl
shape_kept (Schemas.set_of s z m) (Values.bag vs) = refl
shape_kept (Schemas.set_of s z m) v = refl
shape_kept (Schemas.sequence o ps x qs) (Values.fields r a) = refl
shape_kept (Schemas.sequence o ps x qs) v = refl
shape_kept (Schemas.choice ps qs x) (Values.alternative Values.root i v) = refl
shape_kept (Schemas.choice ps qs x) (Values.alternative Values.added i v) = refl
shape_kept (Schemas.choice ps qs x) v = refl
shape_kept _ v = refl

pub of_shape : (s : Schema) (v w : Content) → (shape v ≡ shape w → ⊥) → false ≡ same (normal s v) w
of_shape s v w h = go (same (normal s v) w) refl
  where
    go : (b : Bool) → same (normal s v) w ≡ b → false ≡ same (normal s v) w
    go false q = sym q
    go true q = absurd (h (sym (shape_kept s v) ∙ ap shape (same_true (normal s v) w q)))

-- ---- the parts of a record, one by one

module _ (g : Component → Bool) (s : ℕ → Schema) where
  first_part : (c : Component) (cs : List Component) (o : Option Content) (os : List (Option Content)) → normals (parts_in g s (c ∷ cs)) (o ∷ os) ≡ settled g s (Some c) o ∷ normals (parts_in g s cs) os
  unfolding normal
  first_part c cs None os = refl
  first_part c cs (Some v) os = refl

  pub normals_count : (cs : List Component) (os : List (Option Content)) → length (normals (parts_in g s cs) os) ≡ length os
  unfolding normal
  normals_count [] os = refl
  normals_count (c ∷ cs) [] = refl
  normals_count (c ∷ cs) (o ∷ os) = ap length (first_part c cs o os) ∙ ap suc (normals_count cs os)

  pub part_more : (cs : List Component) (vs : List Value) (i : ℕ) (v : Value) → i < length vs → v ≡ get_or vs i v
      → drop i (normals (parts_in g s cs) (map slot_of vs)) ≡ settled g s (slice_get cs i) (slot_of v) ∷ drop (i + 1) (normals (parts_in g s cs) (map slot_of vs))
  unfolding normal
  part_more cs [] i v l e = absurd (omega (arith, l))
  part_more [] (w ∷ vs) zero v l e = ap (λ u. slot_of u ∷ map slot_of vs) (sym e)
  part_more [] (w ∷ vs) (suc i) v l e =
      let d : suc (i + 1) ≡ suc i + 1 = omega arith in
      part_more [] vs i v (omega (arith, l)) e ∙ ap (λ (j : ℕ). slot_of v ∷ drop j (slot_of w ∷ map slot_of vs)) d
  part_more (c ∷ cs) (w ∷ vs) zero v l e =
      let f = first_part c cs (slot_of w) (map slot_of vs) in
      f ∙ ap (λ u. settled g s (Some c) (slot_of u) ∷ normals (parts_in g s cs) (map slot_of vs)) (sym e)
      ∙ ap (λ us. settled g s (Some c) (slot_of v) ∷ us) (sym (ap (drop 1) f))
  part_more (c ∷ cs) (w ∷ vs) (suc i) v l e =
      let f = first_part c cs (slot_of w) (map slot_of vs) in
      let d : suc (i + 1) ≡ suc i + 1 = omega arith in
      ap (drop (suc i)) f ∙ part_more cs vs i v (omega (arith, l)) e
      ∙ ap (λ us. settled g s (slice_get cs i) (slot_of v) ∷ us) (sym (ap (drop (suc (i + 1))) f))
      ∙ ap (λ (j : ℕ). settled g s (slice_get cs i) (slot_of v) ∷ drop j (normals (parts_in g s (c ∷ cs)) (map slot_of (w ∷ vs)))) d

  -- whether they are absent or at their defaults
  pub idle_pairs : (cs : List Component) (os : List (Option Content)) → all_pairs (λ c o. is_idle (presence_of (g c) c.presence) o) cs os ≡ are_idle (parts_in g s cs) os
  unfolding are_idle
  idle_pairs [] [] = refl
  idle_pairs [] (o ∷ os) = refl
  idle_pairs (c ∷ cs) [] = refl
  idle_pairs (c ∷ cs) (o ∷ os) = ap (λ b. is_idle (presence_of (g c) c.presence) o && b) (idle_pairs cs os)
