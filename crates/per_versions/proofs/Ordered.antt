-- A SET's parts in order are lawful, keep to an i128, and meet no branch that is cut off, where they do as listed.
use Rattle.std.proofs.Common.{◌≡◌, refl, sym, ◌∙◌, ℕ, zero, suc, Bool, true, false, ◌&&◌, List, [], ◌∷◌, length, Option, Some, None, arith}
use Rattle.rasn_types.specs.Values.{Value}
use Rattle.rasn_schema.specs.Orders.{put_part, canonised, canonised_slots, insert_at, how_many_less, by_tags}
use Rattle.rasn_schema.specs.Depth.{meets_cut, slots_meet_cut, in_slots}
use Rattle.rasn_schema.specs.Lawful.{AreLawful, IsLawful, IsLawfulPresence, no_groups}
use Rattle.rasn_schema.specs.Schemas.{TagTree, Presence, required, optional, group, default, Schema, Parts, no_parts, part, smallest, tags, count, listed, by_tag}
use Rattle.per_core.proofs.LengthForms.{and_left, and_right, or_left, or_right}
use Rattle.per_core.proofs.Readings.{length-by_tags}
use Rattle.rasn_schema.proofs.Canonised.{count_ordered, bits_ordered}
use Rattle.per_versions.specs.NumbersKept.{keeps_to_i128, keep_to_i128}

-- lawful parts
lawful_put : (n : ℕ) (t : TagTree) (p : Presence) (s : Schema) (ps : Parts) → IsLawfulPresence s p → IsLawful s → AreLawful ps → AreLawful (put_part n t p s ps)
unfolding AreLawful
lawful_put zero t p s ps h i l = (h, i, l)
lawful_put (suc n) t p s no_parts h i l = (h, i, tt)
lawful_put (suc n) t p s (part u q r ps) h i l = (l.0, l.1, lawful_put n t p s ps h i l.2)

lawful_ordered : (ps : Parts) → AreLawful ps → AreLawful (canonised ps)
unfolding AreLawful
lawful_ordered no_parts l = tt
lawful_ordered (part t p s ps) l = lawful_put (how_many_less (smallest t) (tags ps)) t p s (canonised ps) l.0 l.1 (lawful_ordered ps l.2)

-- no group among them
is_group : Presence → Bool
is_group required = false
is_group optional = false
is_group group = true
is_group (default d) = false

first_no_group : (t : TagTree) (p : Presence) (s : Schema) (ps : Parts) → no_groups (part t p s ps) ≡ true → (is_group p ≡ false) × (no_groups ps ≡ true)
unfolding is_group
first_no_group t required s ps e = (refl, e)
first_no_group t optional s ps e = (refl, e)
first_no_group t group s ps e = absurd (cc)
first_no_group t (default d) s ps e = (refl, e)

no_group_first : (t : TagTree) (p : Presence) (s : Schema) (ps : Parts) → is_group p ≡ false → no_groups ps ≡ true → no_groups (part t p s ps) ≡ true
unfolding is_group
no_group_first t required s ps f e = e
no_group_first t optional s ps f e = e
no_group_first t group s ps f e = absurd (cc)
no_group_first t (default d) s ps f e = e

groups_put : (n : ℕ) (t : TagTree) (p : Presence) (s : Schema) (ps : Parts) → is_group p ≡ false → no_groups ps ≡ true → no_groups (put_part n t p s ps) ≡ true
groups_put zero t p s ps f e = no_group_first t p s ps f e
groups_put (suc n) t p s no_parts f e = no_group_first t p s no_parts f e
groups_put (suc n) t p s (part u q r ps) f e = let g = first_no_group u q r ps e in no_group_first u q r (put_part n t p s ps) g.0 (groups_put n t p s ps f g.1)

groups_ordered : (ps : Parts) → no_groups ps ≡ true → no_groups (canonised ps) ≡ true
groups_ordered no_parts e = refl
groups_ordered (part t p s ps) e = let g = first_no_group t p s ps e in groups_put (how_many_less (smallest t) (tags ps)) t p s (canonised ps) g.0 (groups_ordered ps g.1)

-- a SET in order is a lawful SEQUENCE
pub lawful_in_order : (ps : Parts) (ext : Bool) (adds : Parts) → IsLawful (Schema.sequence by_tag ps ext adds) → IsLawful (Schema.sequence listed (canonised ps) ext adds)
unfolding IsLawful
lawful_in_order ps ext adds l = (
  record {
    root_groups = groups_ordered ps l.0.root_groups;
    few_bits = rw (bits_ordered ps) l.0.few_bits;
    lawful_tags = refl;
  },
  lawful_ordered ps l.1,
  l.2,
)

-- what keeps to an i128
both : (a b : Bool) → a ≡ true → b ≡ true → (a && b) ≡ true
both a b e f = cc

kept_put : (n : ℕ) (t : TagTree) (p : Presence) (s : Schema) (ps : Parts) → keeps_to_i128 s ≡ true → keep_to_i128 ps ≡ true → keep_to_i128 (put_part n t p s ps) ≡ true
unfolding keep_to_i128
kept_put zero t p s ps h k = both (keeps_to_i128 s) (keep_to_i128 ps) h k
kept_put (suc n) t p s no_parts h k = both (keeps_to_i128 s) true h refl
kept_put (suc n) t p s (part u q r ps) h k =
    both (keeps_to_i128 r) (keep_to_i128 (put_part n t p s ps)) (and_left (keeps_to_i128 r) (keep_to_i128 ps) k) (kept_put n t p s ps h (and_right (keeps_to_i128 r) (keep_to_i128 ps) k))

kept_ordered : (ps : Parts) → keep_to_i128 ps ≡ true → keep_to_i128 (canonised ps) ≡ true
unfolding keep_to_i128
kept_ordered no_parts k = refl
kept_ordered (part t p s ps) k =
    kept_put (how_many_less (smallest t) (tags ps)) t p s (canonised ps) (and_left (keeps_to_i128 s) (keep_to_i128 ps) k) (kept_ordered ps (and_right (keeps_to_i128 s) (keep_to_i128 ps) k))

pub kept_in_order : (ps : Parts) (ext : Bool) (adds : Parts) → keeps_to_i128 (Schema.sequence by_tag ps ext adds) ≡ true → keeps_to_i128 (Schema.sequence listed (canonised ps) ext adds) ≡ true
unfolding keeps_to_i128
kept_in_order ps ext adds k =
    both (keep_to_i128 (canonised ps)) (keep_to_i128 adds) (kept_ordered ps (and_left (keep_to_i128 ps) (keep_to_i128 adds) k)) (and_right (keep_to_i128 ps) (keep_to_i128 adds) k)

-- what meets no branch that is cut off
slot_meets : Schema → Option Value → Bool
slot_meets s None = false
slot_meets s (Some v) = meets_cut s v

first_uncut : (s : Schema) (g : List (Option Value) → Bool) (x : Option Value) (xs : List (Option Value)) → in_slots (meets_cut s) g (x ∷ xs) ≡ false → (slot_meets s x ≡ false) × (g xs ≡ false)
unfolding slot_meets
first_uncut s g None xs e = (refl, e)
first_uncut s g (Some v) xs e = (or_left (meets_cut s v) (g xs) e, or_right (meets_cut s v) (g xs) e)

uncut_first : (s : Schema) (g : List (Option Value) → Bool) (x : Option Value) (xs : List (Option Value)) → slot_meets s x ≡ false → g xs ≡ false → in_slots (meets_cut s) g (x ∷ xs) ≡ false
unfolding slot_meets
uncut_first s g None xs e f = f
uncut_first s g (Some v) xs e f = cc

uncut_put : (n : ℕ) (t : TagTree) (p : Presence) (s : Schema) (ps : Parts) (x : Option Value) (xs : List (Option Value)) → length xs ≡ count ps → slot_meets s x ≡ false → slots_meet_cut ps xs ≡ false
    → slots_meet_cut (put_part n t p s ps) (insert_at n x xs) ≡ false
unfolding slots_meet_cut
uncut_put zero t p s ps x xs l h k = uncut_first s (slots_meet_cut ps) x xs h k
uncut_put (suc n) t p s no_parts x [] l h k = uncut_first s (slots_meet_cut no_parts) x [] h k
uncut_put (suc n) t p s (part u q r ps) x (y ∷ ys) l h k =
    let e = first_uncut r (slots_meet_cut ps) y ys k in
    uncut_first r (slots_meet_cut (put_part n t p s ps)) y (insert_at n x ys) e.0 (uncut_put n t p s ps x ys (omega arith) h e.1)
uncut_put (suc n) t p s no_parts x (y ∷ ys) l h k = absurd (omega arith)
uncut_put (suc n) t p s (part u q r ps) x [] l h k = absurd (omega arith)

pub uncut_ordered : (ps : Parts) (rs : List (Option Value)) → length rs ≡ count ps → slots_meet_cut ps rs ≡ false → slots_meet_cut (canonised ps) (canonised_slots ps rs) ≡ false
unfolding slots_meet_cut
uncut_ordered no_parts rs l k = refl
uncut_ordered (part t p s ps) [] l k = absurd (omega arith)
uncut_ordered (part t p s ps) (x ∷ xs) l k =
    let e = first_uncut s (slots_meet_cut ps) x xs k in
    let i : length xs ≡ count ps = omega arith in
    uncut_put (how_many_less (smallest t) (tags ps)) t p s (canonised ps) x (by_tags (tags ps) xs) (length-by_tags (tags ps) xs ∙ i ∙ sym (count_ordered ps)) e.0 (uncut_ordered ps xs i e.1)
