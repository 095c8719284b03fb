-- Names of bits change nothing of what is read and written, and nothing of what one version is in another.
use Rattle.std.proofs.Common.{◌≡◌, ◌↔◌, refl, sym, ap, ◌∙◌, ap₂, subst, ℕ, zero, suc, Bool, true, false, ◌&&◌, List, [], ◌∷◌, ◌++◌, map, Option, Some}
use Rattle.rasn_types.specs.Bits.{Bits}
use Rattle.rasn_types.specs.Values.{Value, elements, as_values, as_slots, bag_of, fields, slots, Side, alternative}
use Rattle.rasn_types.specs.Variants.{Variant}
use Rattle.rasn_constraints.specs.Bounds.{Size}
use Rattle.rasn_schema.specs.Depth.{meets_cut, slots_meet_cut, meets_cut_at, in_elements, in_fields, in_alternative, in_slots, IsLeaf, CutOf, CutParts, cut_here, alike, cut_containing, cut_list, cut_set_of, cut_sequence, cut_choice, no_cut, cut_part, Unfolds}
use Rattle.rasn_schema.specs.Normal.{root_of, additions_of, is_idle, are_idle, is_vacant, normal, normals, normal_at}
use Rattle.rasn_schema.specs.Orders.{ordered}
use Rattle.rasn_schema.specs.Schemas.{Presence, required, optional, group, default, smallest, tags, Schema, Parts, no_parts, part}
use Rattle.per_core.specs.Basic.{As, Counted, Record_in, Choice, basic_in, rules_in, Fills, fills, fills_known, front, read, OpenOf}
use Rattle.per_core.specs.Canon.{bytes, canon, completed, members, on_bag, on_elements, on_fields, on_alternative, record_of, choice_of, ascending}
use Rattle.per_core.specs.Counts.{counted, list_items, open_bits}
use Rattle.per_core.specs.Spellings.{Settings, Spelling}
use Rattle.rasn_types.specs.AllOf.{joined}
use Rattle.per_core.specs.Versions.{project, project_slots, project_at, widen, widen_slots, widen_at, element_of, alternatives_of, added_of, items_of, through_elements, through_bag, through_fields, through_alternative, through_item, slots_through, filled_in, all_filled_in, IsPlain, NewerPresence, Newer, NewerParts, unchanged, more_items, newer_containing, newer_list, newer_set_of, newer_sequence, newer_choice, no_more, more_parts, also}
use Rattle.per_core.specs.Writers.{Writer}
use Rattle.per_core.proofs.Laws.{same_normal_bytes}
use Rattle.per_laws.proofs.AnyDepth
use Rattle.per_laws.proofs.Named.{told_apart}
use Rattle.per_laws.proofs.Readers
use Rattle.per_laws.proofs.Normals.{Fixes, elements_fixed, bags_fixed, fields_fixed, alternative_fixed, slots_fixed}
use Rattle.per_laws.specs.NamedBits.{MeanTheSame, without_names, parts_without_names, NewerButForNames, NewerTypeButForNames}

pub same_tags : (ps : Parts) → tags (parts_without_names ps) ≡ tags ps
unfolding parts_without_names
same_tags no_parts = refl
same_tags (part t p s ps) = ap (λ ts. smallest t ∷ ts) (same_tags ps)

-- what is read
module _ (a : Settings) (u : Bool) where
  mutual
    unfolding basic_in without_names

    pub read_alike : (s : Schema) → basic_in a u (without_names s) ≡ basic_in a u s
    read_alike (Schema.containing e) = ap (OpenOf a) (read_alike e)
    read_alike (Schema.list e size mark) = ap (λ f. As (λ vs. elements (as_values vs)) (Counted a size mark list_items f)) (read_alike e)
    read_alike (Schema.set_of e size mark) = ap (λ f. As bag_of (Counted a size mark list_items f)) (read_alike e)
    read_alike (Schema.sequence o ps ext adds) =
        ap₂ (λ ts rs. As (λ (x : List (Option Value) × List (Option Value)). fields (as_slots x.0) (as_slots x.1))
        (λ x. Record_in a u ext (ordered o ts rs) (rules_in a u (parts_without_names adds)) (ordered o ts x.0) x.1)) (same_tags ps) (rules_alike ps)
        ∙ ap (λ rs. As (λ (x : List (Option Value) × List (Option Value)). fields (as_slots x.0) (as_slots x.1))
        (λ x. Record_in a u ext (ordered o (tags ps) (rules_in a u ps)) rs (ordered o (tags ps) x.0) x.1)) (rules_alike adds)
    read_alike (Schema.choice ps adds ext) =
        ap₂ (λ rs qs. As (λ (x : Side × ℕ × Value). alternative x.0 x.1 x.2) (λ x. Choice a ext rs qs x.0 x.1 x.2)) (rules_alike ps) (rules_alike adds)
    read_alike _ = refl

    rules_alike : (ps : Parts) → rules_in a u (parts_without_names ps) ≡ rules_in a u ps
    rules_alike no_parts = refl
    rules_alike (part t p s ps) = ap₂ (λ f rs. record { presence = p; spells = f } ∷ rs) (read_alike s) (rules_alike ps)

-- what is written
module _ (a : Variant) where
  mutual
    unfolding canon without_names

    pub written_alike : (s : Schema) → canon a (without_names s) ≡ canon a s
    written_alike (Schema.containing e) = ap (λ f v. open_bits a (f v 0)) (written_alike e)
    written_alike (Schema.list e size mark) = ap (λ f. on_elements (λ vs. counted a size mark list_items (map f vs))) (written_alike e)
    written_alike (Schema.set_of e size mark) = ap (λ f. on_bag (λ vs. counted a size mark list_items (ascending (map f vs)))) (written_alike e)
    written_alike (Schema.sequence o ps ext adds) =
        ap₂ (λ ts ms. on_fields (λ r x. record_of a ext (ordered o ts ms) (members a (parts_without_names adds)) (ordered o ts r) x)) (same_tags ps) (members_alike ps)
        ∙ ap (λ ms. on_fields (λ r x. record_of a ext (ordered o (tags ps) (members a ps)) ms (ordered o (tags ps) r) x)) (members_alike adds)
    written_alike (Schema.choice ps adds ext) = ap₂ (λ ms ns. on_alternative (choice_of a ext ms ns)) (members_alike ps) (members_alike adds)
    written_alike _ = refl

    members_alike : (ps : Parts) → members a (parts_without_names ps) ≡ members a ps
    members_alike no_parts = refl
    members_alike (part t p s ps) = ap₂ (λ f ms. record { presence = p; writes = f } ∷ ms) (written_alike s) (members_alike ps)

-- what is cut off
mutual
  unfolding meets_cut without_names

  pub cut_alike : (s : Schema) → meets_cut (without_names s) ≡ meets_cut s
  cut_alike (Schema.containing e) = cut_alike e
  cut_alike (Schema.list e size mark) = ap in_elements (cut_alike e)
  cut_alike (Schema.set_of e size mark) = ap in_elements (cut_alike e)
  cut_alike (Schema.sequence o ps ext adds) = ap₂ in_fields (cuts_alike ps) (cuts_alike adds)
  cut_alike (Schema.choice ps adds ext) = ap₂ in_alternative (cut_at_alike ps) (cut_at_alike adds)
  cut_alike _ = refl

  cuts_alike : (ps : Parts) → slots_meet_cut (parts_without_names ps) ≡ slots_meet_cut ps
  cuts_alike no_parts = refl
  cuts_alike (part t p s ps) = ap₂ in_slots (cut_alike s) (cuts_alike ps)

  cut_at_alike : (ps : Parts) → meets_cut_at (parts_without_names ps) ≡ meets_cut_at ps
  cut_at_alike no_parts = refl
  cut_at_alike (part t p s ps) = ap₂ (λ f g. elim [ zero ↦ f | suc i ↦ g i ]) (cut_alike s) (cut_at_alike ps)

-- the parts of a schema without names
element_alike : (s : Schema) → element_of (without_names s) ≡ without_names (element_of s)
unfolding without_names
element_alike (Schema.containing e) = refl
element_alike (Schema.list e size mark) = refl
element_alike (Schema.set_of e size mark) = refl
element_alike _ = refl

root_alike : (s : Schema) → root_of (without_names s) ≡ parts_without_names (root_of s)
unfolding without_names
root_alike (Schema.sequence o ps ext adds) = refl
root_alike _ = refl

additions_alike : (s : Schema) → additions_of (without_names s) ≡ parts_without_names (additions_of s)
unfolding without_names
additions_alike (Schema.sequence o ps ext adds) = refl
additions_alike _ = refl

alternatives_alike : (s : Schema) → alternatives_of (without_names s) ≡ parts_without_names (alternatives_of s)
unfolding without_names
alternatives_alike (Schema.choice ps adds ext) = refl
alternatives_alike _ = refl

added_alike : (s : Schema) → added_of (without_names s) ≡ parts_without_names (added_of s)
unfolding without_names
added_alike (Schema.choice ps adds ext) = refl
added_alike _ = refl

items_alike : (s : Schema) → items_of (without_names s) ≡ items_of s
unfolding without_names
items_alike (Schema.items r e ext) = refl
items_alike _ = refl

-- what an older reader sees
mutual
  unfolding project without_names

  pub projected_alike : (s' s : Schema) → project (without_names s') (without_names s) ≡ project s' s
  projected_alike (Schema.containing e) s = ap (project (without_names e)) (element_alike s) ∙ projected_alike e (element_of s)
  projected_alike (Schema.list e size mark) s = ap through_elements (ap (project (without_names e)) (element_alike s) ∙ projected_alike e (element_of s))
  projected_alike (Schema.set_of e size mark) s = ap through_bag (ap (project (without_names e)) (element_alike s) ∙ projected_alike e (element_of s))
  projected_alike (Schema.sequence o ps ext adds) s =
      ap₂ through_fields (ap (project_slots (parts_without_names ps)) (root_alike s) ∙ slots_projected_alike ps (root_of s))
      (ap (project_slots (parts_without_names adds)) (additions_alike s) ∙ slots_projected_alike adds (additions_of s))
  projected_alike (Schema.choice ps adds ext) s =
      ap₂ through_alternative (ap (project_at (parts_without_names ps)) (alternatives_alike s) ∙ projected_alike_at ps (alternatives_of s))
      (ap (project_at (parts_without_names adds)) (added_alike s) ∙ projected_alike_at adds (added_of s))
  projected_alike (Schema.items r e ext) s = ap through_item (items_alike s)
  projected_alike _ s = refl

  slots_projected_alike : (ps' ps : Parts) → project_slots (parts_without_names ps') (parts_without_names ps) ≡ project_slots ps' ps
  slots_projected_alike no_parts ps = refl
  slots_projected_alike (part t p s ps) no_parts = refl
  slots_projected_alike (part t p s ps) (part t' p' s' ps') = ap₂ slots_through (projected_alike s s') (slots_projected_alike ps ps')

  projected_alike_at : (ps' ps : Parts) → project_at (parts_without_names ps') (parts_without_names ps) ≡ project_at ps' ps
  projected_alike_at no_parts ps = refl
  projected_alike_at (part t p s ps) no_parts = refl
  projected_alike_at (part t p s ps) (part t' p' s' ps') = ap₂ (λ f g. elim [ zero ↦ f | suc i ↦ g i ]) (projected_alike s s') (projected_alike_at ps ps')

-- an added part has its presence still
filled_alike : (ps : Parts) → all_filled_in (parts_without_names ps) ≡ all_filled_in ps
unfolding parts_without_names
filled_alike no_parts = refl
filled_alike (part t p s ps) = ap (joined (filled_in p)) (filled_alike ps)

-- what a newer reader sees
mutual
  unfolding widen without_names

  pub widened_alike : (s' s : Schema) → widen (without_names s') (without_names s) ≡ widen s' s
  widened_alike (Schema.containing e) s = ap (widen (without_names e)) (element_alike s) ∙ widened_alike e (element_of s)
  widened_alike (Schema.list e size mark) s = ap through_elements (ap (widen (without_names e)) (element_alike s) ∙ widened_alike e (element_of s))
  widened_alike (Schema.set_of e size mark) s = ap through_bag (ap (widen (without_names e)) (element_alike s) ∙ widened_alike e (element_of s))
  widened_alike (Schema.sequence o ps ext adds) s =
      ap₂ through_fields (ap (widen_slots (parts_without_names ps)) (root_alike s) ∙ slots_widened_alike ps (root_of s))
      (ap (widen_slots (parts_without_names adds)) (additions_alike s) ∙ slots_widened_alike adds (additions_of s))
  widened_alike (Schema.choice ps adds ext) s =
      ap₂ through_alternative (ap (widen_at (parts_without_names ps)) (alternatives_alike s) ∙ widened_alike_at ps (alternatives_of s))
      (ap (widen_at (parts_without_names adds)) (added_alike s) ∙ widened_alike_at adds (added_of s))
  widened_alike _ s = refl

  slots_widened_alike : (ps' ps : Parts) → widen_slots (parts_without_names ps') (parts_without_names ps) ≡ widen_slots ps' ps
  slots_widened_alike no_parts ps = refl
  slots_widened_alike (part t p s ps) no_parts = ap (λ o (ss : List (Option Value)). o) (filled_alike (part t p s ps))
  slots_widened_alike (part t p s ps) (part t' p' s' ps') = ap₂ slots_through (widened_alike s s') (slots_widened_alike ps ps')

  widened_alike_at : (ps' ps : Parts) → widen_at (parts_without_names ps') (parts_without_names ps) ≡ widen_at ps' ps
  widened_alike_at no_parts ps = refl
  widened_alike_at (part t p s ps) no_parts = refl
  widened_alike_at (part t p s ps) (part t' p' s' ps') = ap₂ (λ f g. elim [ zero ↦ f | suc i ↦ g i ]) (widened_alike s s') (widened_alike_at ps ps')

-- a newer version is one without names too
plain_stays : (s : Schema) → IsPlain s → IsPlain (without_names s)
unfolding without_names
plain_stays (Schema.containing e) h = absurd h
plain_stays (Schema.list e size mark) h = absurd h
plain_stays (Schema.set_of e size mark) h = absurd h
plain_stays (Schema.sequence o ps ext adds) h = absurd h
plain_stays (Schema.choice ps adds ext) h = absurd h
plain_stays (Schema.items r e ext) h = h
plain_stays _ h = tt

presence_stays : (s' s : Schema) (p' p : Presence) → NewerPresence s' s p' p → NewerPresence (without_names s') (without_names s) p' p
presence_stays s' s (default d') (default d) h = record {
  there = λ m. ap (λ f. f d) (widened_alike s' s) ∙ h.there (sym (ap (λ f. f d') (cut_alike s')) ∙ m);
  same = λ x e m. h.same x (sym (ap (λ f. f d) (widened_alike s' s)) ∙ e) (sym (ap (λ f. f x) (cut_alike s')) ∙ m);
  valid = ap (λ f. f d) (projected_alike s s) ∙ h.valid;
}
presence_stays s' s required required h = tt
presence_stays s' s optional optional h = tt
presence_stays s' s group group h = tt
presence_stays s' s _ _ h = absurd h

mutual
  unfolding without_names

  pub newer_stays : {s' s : Schema} → Newer s' s → NewerButForNames s' s
  newer_stays {s' = s} (unchanged h) = unchanged (plain_stays s h)
  newer_stays (more_items l) = more_items l
  newer_stays (newer_containing n) = newer_containing (newer_stays n)
  newer_stays (newer_list n) = newer_list (newer_stays n)
  newer_stays (newer_set_of n) = newer_set_of (newer_stays n)
  newer_stays (newer_sequence n m) = newer_sequence (parts_stay n) (parts_stay m)
  newer_stays (newer_choice n m) = newer_choice (parts_stay n) (parts_stay m)

  parts_stay : {may : Bool} {ps' ps : Parts} → NewerParts may ps' ps → NewerParts may (parts_without_names ps') (parts_without_names ps)
  parts_stay no_more = no_more
  parts_stay more_parts = more_parts
  parts_stay (also {p} {p'} {s} {s'} h n ns) = also (presence_stays s' s p' p h) (newer_stays n) (parts_stay ns)

-- a family of trees is one without names too
leaf_stays : (s : Schema) → IsLeaf s → IsLeaf (without_names s)
unfolding without_names
leaf_stays (Schema.containing e) h = absurd h
leaf_stays (Schema.list e size mark) h = absurd h
leaf_stays (Schema.set_of e size mark) h = absurd h
leaf_stays (Schema.sequence o ps ext adds) h = absurd h
leaf_stays (Schema.choice ps adds ext) h = absurd h
leaf_stays _ h = tt

mutual
  unfolding without_names

  cut_stays : {s t : Schema} → CutOf s t → CutOf (without_names s) (without_names t)
  cut_stays cut_here = cut_here
  cut_stays {s} (alike h) = alike (leaf_stays s h)
  cut_stays (cut_containing c) = cut_containing (cut_stays c)
  cut_stays (cut_list c) = cut_list (cut_stays c)
  cut_stays (cut_set_of c) = cut_set_of (cut_stays c)
  cut_stays (cut_sequence c d) = cut_sequence (cuts_stay c) (cuts_stay d)
  cut_stays (cut_choice c d) = cut_choice (cuts_stay c) (cuts_stay d)

  cuts_stay : {ps qs : Parts} → CutParts ps qs → CutParts (parts_without_names ps) (parts_without_names qs)
  cuts_stay no_cut = no_cut
  cuts_stay (cut_part c d) = cut_part (cut_stays c) (cuts_stay d)

pub unfolds_still : (at : ℕ → Schema) → Unfolds at → Unfolds (λ n. without_names (at n))
unfolds_still at h = record {
  grows = λ n. cut_stays (h.grows n);
  holds = λ v. let q = h.holds v in (q.0, ap (λ f. f v) (cut_alike (at q.0)) ∙ q.1);
}

-- what is in normal form is so without names too
idle_alike : (ps : Parts) (xs : List (Option Value)) → are_idle (parts_without_names ps) xs ≡ are_idle ps xs
unfolding are_idle parts_without_names
idle_alike no_parts [] = refl
idle_alike no_parts (x ∷ xs) = refl
idle_alike (part t p s ps) [] = refl
idle_alike (part t p s ps) (x ∷ xs) = ap (λ b. is_idle p x && b) (idle_alike ps xs)

vacant_alike : (s : Schema) (v : Value) → is_vacant (without_names s) v ≡ is_vacant s v
unfolding is_vacant
vacant_alike s (fields r x) =
    ap₂ (λ a b. a && b) (ap (λ ps. are_idle ps (slots r)) (root_alike s) ∙ idle_alike (root_of s) (slots r))
    (ap (λ ps. are_idle ps (slots x)) (additions_alike s) ∙ idle_alike (additions_of s) (slots x))
vacant_alike s _ = refl

mutual
  unfolding normal without_names

  pub normal_stays : (s : Schema) → Fixes (normal (without_names s)) (normal s)
  normal_stays (Schema.containing e) = normal_stays e
  normal_stays (Schema.list e size mark) = elements_fixed (normal (without_names e)) (normal e) (normal_stays e)
  normal_stays (Schema.set_of e size mark) = bags_fixed (normal (without_names e)) (normal e) (normal_stays e)
  normal_stays (Schema.sequence o ps ext adds) =
      fields_fixed (normals (parts_without_names ps)) (normals ps) (normals (parts_without_names adds)) (normals adds) (normals_stay ps) (normals_stay adds)
  normal_stays (Schema.choice ps adds ext) =
      alternative_fixed (normal_at (parts_without_names ps)) (normal_at ps) (normal_at (parts_without_names adds)) (normal_at adds) (normal_stays_at ps) (normal_stays_at adds)
  normal_stays _ = λ v. refl

  normals_stay : (ps : Parts) → Fixes (normals (parts_without_names ps)) (normals ps)
  normals_stay no_parts = λ v. refl
  normals_stay (part t p s ps) =
      slots_fixed p (without_names s) s (vacant_alike s) (normal (without_names s)) (normal s) (normals (parts_without_names ps)) (normals ps) (normal_stays s) (normals_stay ps)

  normal_stays_at : (ps : Parts) (i : ℕ) → Fixes (normal_at (parts_without_names ps) i) (normal_at ps i)
  normal_stays_at no_parts i = λ v. refl
  normal_stays_at (part t p s ps) zero = normal_stays s
  normal_stays_at (part t p s ps) (suc i) = normal_stays_at ps i

-- the same octets
pub fills_alike : (a : Settings) (s : Schema) (v : Value) (os : List ℕ) → fills a s v os ↔ fills a (without_names s) v os
fills_alike a s v os = (
  subst (λ (f : Value → Spelling). Fills a (f v) os) (sym (read_alike a true s)),
  subst (λ (f : Value → Spelling). Fills a (f v) os) (read_alike a true s),
)

pub known_alike : (a : Settings) (s : Schema) (v : Value) (os : List ℕ) → fills_known a s v os ↔ fills_known a (without_names s) v os
known_alike a s v os = (
  subst (λ (f : Value → Spelling). Fills a (f v) os) (sym (read_alike a false s)),
  subst (λ (f : Value → Spelling). Fills a (f v) os) (read_alike a false s),
)

pub front_alike : (a : Settings) (s : Schema) (v : Value) (os rest : List ℕ) → front a s v os rest ↔ front a (without_names s) v os rest
front_alike a s v os rest = (
  λ y. (y.0, y.1, (fills_alike a s v y.0).0 y.2),
  λ y. (y.0, y.1, (fills_alike a s v y.0).1 y.2),
)

pub same_bytes : (a : Variant) (s : Schema) (v : Value) → bytes a s v ≡ bytes a (without_names s) v
unfolding bytes
same_bytes a s v = ap (λ (f : Value → Writer). completed (f v 0)) (sym (written_alike a s))

pub bytes_told_apart : (a : Variant) (size : Size) (mark : Bool) (bs cs : Bits) (b c : List ℕ) → bytes a (Schema.bit_string size mark true) (normal (Schema.bit_string size mark true) (Value.bits bs)) ≡ Some b
    → bytes a (Schema.bit_string size mark true) (normal (Schema.bit_string size mark true) (Value.bits cs)) ≡ Some c → (b ≡ c) ↔ MeanTheSame bs cs
bytes_told_apart a size mark bs cs b c e f =
    let q = same_normal_bytes a (Schema.bit_string size mark true) (Value.bits bs) (Value.bits cs) b c e f in
    let r = told_apart size mark bs cs in
    (λ h. r.0 (q.0 h), λ m. q.1 (r.1 m))

-- what the readers of two versions read
at_value {ℓ} : {A : Type ℓ} {f g : Value → A} → f ≡ g → (v : Value) → f v ≡ g v
at_value e v = ap (λ h. h v) e

pub older_answers : (a : Settings) (s' s : Schema) → NewerButForNames s' s → (v' v : Value) (os rest rest' : List ℕ) → fills a s' v' os → meets_cut s' v' ≡ false →
    (front a s v (os ++ rest) rest' → (project s' s v' ≡ Some v) × (rest' ≡ rest)) × (project s' s v' ≡ Some v → fills a s v os)
older_answers a s' s n v' v os rest rest' x m =
    let q = Readers.older_answers a (without_names s') (without_names s) n v' v os rest rest' ((fills_alike a s' v' os).0 x) (at_value (cut_alike s') v' ∙ m) in
    let e = at_value (projected_alike s' s) v' in
    (λ y. let r = q.0 ((front_alike a s v (os ++ rest) rest').0 y) in (sym e ∙ r.0, r.1), λ k. (fills_alike a s v os).1 (q.1 (e ∙ k)))

pub newer_answers : (a : Settings) (s' s : Schema) → NewerButForNames s' s → (v v' : Value) (os rest rest' : List ℕ) → fills_known a s v os → meets_cut s' v' ≡ false →
    (front a s' v' (os ++ rest) rest' → (widen s' s v ≡ Some v') × (rest' ≡ rest)) × (widen s' s v ≡ Some v' → fills_known a s' v' os)
newer_answers a s' s n v v' os rest rest' x m =
    let q = Readers.newer_answers a (without_names s') (without_names s) n v v' os rest rest' ((known_alike a s v os).0 x) (at_value (cut_alike s') v' ∙ m) in
    let e = at_value (widened_alike s' s) v in
    (λ y. let r = q.0 ((front_alike a s' v' (os ++ rest) rest').0 y) in (sym e ∙ r.0, r.1), λ k. (known_alike a s' v' os).1 (q.1 (e ∙ k)))

pub older_reader_answers : (a : Settings) (T' T : ℕ → Schema) → Unfolds T' → Unfolds T → NewerTypeButForNames T' T → (v' v : Value) (os rest after : List ℕ) (n : ℕ) → meets_cut (T' n) v' ≡ false → read a T' v' os →
    (read a T v os ↔ (project (T' n) (T n) v' ≡ Some v)) × (front a (T 128) v (os ++ rest) after ↔ ((project (T' n) (T n) v' ≡ Some v) × (after ≡ rest)))
older_reader_answers a T' T u' u k v' v os rest after n m x =
    let q = AnyDepth.older_reader_reads a (λ i. without_names (T' i)) (λ i. without_names (T i)) (unfolds_still T' u') (unfolds_still T u) k v' v os rest after n
    (at_value (cut_alike (T' n)) v' ∙ m) ((fills_alike a (T' 128) v' os).0 x) in
    let e = at_value (projected_alike (T' n) (T n)) v' in
    let w = fills_alike a (T 128) v os in
    let f = front_alike a (T 128) v (os ++ rest) after in (
      (λ y. sym e ∙ q.0.0 (w.0 y), λ h. w.1 (q.0.1 (e ∙ h))),
      (λ y. let r = q.1.0 (f.0 y) in (sym e ∙ r.0, r.1), λ h. f.1 (q.1.1 (e ∙ h.0, h.1))),
    )

pub newer_reader_answers : (a : Settings) (T' T : ℕ → Schema) → Unfolds T' → Unfolds T → NewerTypeButForNames T' T → (v v' : Value) (os rest after : List ℕ) (n : ℕ) → meets_cut (T' n) v' ≡ false → fills_known a (T 128) v os →
    (read a T' v' os ↔ (widen (T' n) (T n) v ≡ Some v')) × (front a (T' 128) v' (os ++ rest) after ↔ ((widen (T' n) (T n) v ≡ Some v') × (after ≡ rest)))
newer_reader_answers a T' T u' u k v v' os rest after n m x =
    let q = AnyDepth.newer_reader_reads a (λ i. without_names (T' i)) (λ i. without_names (T i)) (unfolds_still T' u') (unfolds_still T u) k v v' os rest after n
    (at_value (cut_alike (T' n)) v' ∙ m) ((known_alike a (T 128) v os).0 x) in
    let e = at_value (widened_alike (T' n) (T n)) v in
    let w = fills_alike a (T' 128) v' os in
    let f = front_alike a (T' 128) v' (os ++ rest) after in (
      (λ y. sym e ∙ q.0.0 (w.0 y), λ h. w.1 (q.0.1 (e ∙ h))),
      (λ y. let r = q.1.0 (f.0 y) in (sym e ∙ r.0, r.1), λ h. f.1 (q.1.1 (e ∙ h.0, h.1))),
    )
