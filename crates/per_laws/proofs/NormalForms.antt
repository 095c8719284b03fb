-- The normal form of a value in two trees that hold all of it.
use Rattle.std.proofs.Common.{◌≡◌, ◌≤◌, refl, sym, ap, ◌∙◌, ap₂, ℕ, zero, suc, Bool, false, cond, ◌&&◌, List, [], ◌∷◌, map, arith, inl, inr, Option, Some, None}
use Rattle.std.proofs.lemmas.Bool.{cases_lt}
use Rattle.rasn_types.specs.Values.{Value, elements, bag, bag_of, fields, alternative, root, added, as_values, as_slots, values, slots}
use Rattle.rasn_types.specs.Variants.{Variant}
use Rattle.rasn_schema.specs.Schemas.{Presence, required, optional, group, default, Schema, Parts}
use Rattle.rasn_schema.specs.Normal.{is_idle, are_idle, is_vacant, settle, each_slot, over_elements, over_bag, over_fields, over_alternative, normal, normals, normal_at}
use Rattle.rasn_schema.specs.Depth.{meets_cut, slots_meet_cut, meets_cut_at, in_elements, in_fields, in_alternative, in_slots, any_of, CutOf, CutParts, cut_here, alike, cut_containing, cut_list, cut_set_of, cut_sequence, cut_choice, no_cut, cut_part, Unfolds}
use Rattle.per_core.specs.Canon.{bytes}
use Rattle.per_core.proofs.LengthForms.{or_left, or_right}
use Rattle.per_laws.proofs.Types.{up_to}
use Rattle.per_laws.proofs.Depths.{encodes_deeper, one_encoding}

-- what two functions make of the same values, where a test is false
map_alike : (f g : Value → Value) (K : Value → Bool) → ((v : Value) → K v ≡ false → f v ≡ g v) → (vs : List Value) → any_of K vs ≡ false → map f vs ≡ map g vs
map_alike f g K h [] m = refl
map_alike f g K h (v ∷ vs) m = ap₂ (λ w ws. w ∷ ws) (h v (or_left (K v) (any_of K vs) m)) (map_alike f g K h vs (or_right (K v) (any_of K vs) m))

elements_alike : (f g : Value → Value) (K : Value → Bool) → ((v : Value) → K v ≡ false → f v ≡ g v) → (v : Value) → in_elements K v ≡ false → over_elements f v ≡ over_elements g v
elements_alike f g K h (elements vs) m = ap (λ l. elements (as_values l)) (map_alike f g K h (values vs) m)
elements_alike f g K h _ m = refl

bags_alike : (f g : Value → Value) (K : Value → Bool) → ((v : Value) → K v ≡ false → f v ≡ g v) → (v : Value) → in_elements K v ≡ false → over_bag f v ≡ over_bag g v
unfolding over_bag
bags_alike f g K h (bag vs) m = ap bag_of (map_alike f g K h (values vs) m)
bags_alike f g K h _ m = refl

fields_alike : (f g f' g' : List (Option Value) → List (Option Value)) (K K' : List (Option Value) → Bool) → ((x : List (Option Value)) → K x ≡ false → f x ≡ g x) → ((x : List (Option Value)) → K' x ≡ false → f' x ≡ g' x) →
    (v : Value) → in_fields K K' v ≡ false → over_fields f f' v ≡ over_fields g g' v
fields_alike f g f' g' K K' h h' (fields r x) m = ap₂ (λ y z. fields (as_slots y) (as_slots z)) (h (slots r) (or_left (K (slots r)) (K' (slots x)) m)) (h' (slots x) (or_right (K (slots r)) (K' (slots x)) m))
fields_alike f g f' g' K K' h h' _ m = refl

alternatives_alike : (f g f' g' : ℕ → Value → Value) (K K' : ℕ → Value → Bool) → ((i : ℕ) (v : Value) → K i v ≡ false → f i v ≡ g i v) → ((i : ℕ) (v : Value) → K' i v ≡ false → f' i v ≡ g' i v) →
    (v : Value) → in_alternative K K' v ≡ false → over_alternative f f' v ≡ over_alternative g g' v
alternatives_alike f g f' g' K K' h h' (alternative root i v) m = ap (alternative root i) (h i v m)
alternatives_alike f g f' g' K K' h h' (alternative added i v) m = ap (alternative added i) (h' i v m)
alternatives_alike f g f' g' K K' h h' _ m = refl

-- whether a group is vacant
idle_alike : {ps qs : Parts} → CutParts ps qs → (xs : List (Option Value)) → are_idle ps xs ≡ are_idle qs xs
unfolding are_idle
idle_alike no_cut xs = refl
idle_alike (cut_part c cs) [] = refl
idle_alike (cut_part {p = p} c cs) (x ∷ xs) = ap (λ b. is_idle p x && b) (idle_alike cs xs)

pub vacant_alike : {s t : Schema} → CutOf s t → (v : Value) → meets_cut s v ≡ false → (w : Value) → is_vacant s w ≡ is_vacant t w
unfolding is_vacant meets_cut
vacant_alike cut_here v m w = absurd (cc)
vacant_alike (alike h) v m w = refl
vacant_alike (cut_containing c) v m (fields r x) = refl
vacant_alike (cut_containing c) v m _ = refl
vacant_alike (cut_list c) v m (fields r x) = refl
vacant_alike (cut_list c) v m _ = refl
vacant_alike (cut_set_of c) v m (fields r x) = refl
vacant_alike (cut_set_of c) v m _ = refl
vacant_alike (cut_sequence c d) v m (fields r x) = ap₂ (λ a b. a && b) (idle_alike c (slots r)) (idle_alike d (slots x))
vacant_alike (cut_sequence c d) v m _ = refl
vacant_alike (cut_choice c d) v m (fields r x) = refl
vacant_alike (cut_choice c d) v m _ = refl

-- one slot
settled_alike : (p : Presence) {s t : Schema} → CutOf s t → (v : Value) → meets_cut s v ≡ false → normal s v ≡ normal t v → settle p s (normal s v) ≡ settle p t (normal t v)
unfolding settle
settled_alike required c v m e = ap (λ w. Some w) e
settled_alike optional c v m e = ap (λ w. Some w) e
settled_alike (default d) c v m e = ap (λ w. Some w) e
settled_alike group {s} {t} c v m e = ap₂ (λ b w. cond b None (Some w)) (vacant_alike c v m (normal s v) ∙ ap (is_vacant t) e) e

slots_alike : (p : Presence) {s t : Schema} → CutOf s t → (f g : List (Option Value) → List (Option Value)) (K : List (Option Value) → Bool) → ((v : Value) → meets_cut s v ≡ false → normal s v ≡ normal t v) →
    ((x : List (Option Value)) → K x ≡ false → f x ≡ g x) → (x : List (Option Value)) → in_slots (meets_cut s) K x ≡ false → each_slot (λ v. settle p s (normal s v)) f x ≡ each_slot (λ v. settle p t (normal t v)) g x
slots_alike p c f g K h k [] m = refl
slots_alike p c f g K h k (None ∷ xs) m = ap (λ l. None ∷ l) (k xs m)
slots_alike p {s} c f g K h k (Some v ∷ xs) m =
    let m0 = or_left (meets_cut s v) (K xs) m in
    ap₂ (λ y l. y ∷ l) (settled_alike p c v m0 (h v m0)) (k xs (or_right (meets_cut s v) (K xs) m))

mutual
  unfolding normal meets_cut

  pub normal_alike : {s t : Schema} → CutOf s t → (v : Value) → meets_cut s v ≡ false → normal s v ≡ normal t v
  normal_alike cut_here v m = absurd (cc)
  normal_alike (alike h) v m = refl
  normal_alike (cut_containing c) v m = normal_alike c v m
  normal_alike (cut_list {s = s} {t = t} c) v m = elements_alike (normal s) (normal t) (meets_cut s) (normal_alike c) v m
  normal_alike (cut_set_of {s = s} {t = t} c) v m = bags_alike (normal s) (normal t) (meets_cut s) (normal_alike c) v m
  normal_alike (cut_sequence {ps = ps} {qs = qs} {adds = adds} {bdds = bdds} c d) v m = fields_alike (normals ps) (normals qs) (normals adds) (normals bdds) (slots_meet_cut ps) (slots_meet_cut adds) (normals_alike c) (normals_alike d) v m
  normal_alike (cut_choice {ps = ps} {qs = qs} {adds = adds} {bdds = bdds} c d) v m = alternatives_alike (normal_at ps) (normal_at qs) (normal_at adds) (normal_at bdds) (meets_cut_at ps) (meets_cut_at adds) (normal_alike_at c) (normal_alike_at d) v m

  normals_alike : {ps qs : Parts} → CutParts ps qs → (x : List (Option Value)) → slots_meet_cut ps x ≡ false → normals ps x ≡ normals qs x
  normals_alike no_cut x m = refl
  normals_alike (cut_part {p = p} {ps = ps} {ps' = qs} c cs) x m = slots_alike p c (normals ps) (normals qs) (slots_meet_cut ps) (normal_alike c) (normals_alike cs) x m

  normal_alike_at : {ps qs : Parts} → CutParts ps qs → (i : ℕ) (v : Value) → meets_cut_at ps i v ≡ false → normal_at ps i v ≡ normal_at qs i v
  normal_alike_at no_cut i v m = refl
  normal_alike_at (cut_part c cs) zero v m = normal_alike c v m
  normal_alike_at (cut_part c cs) (suc i) v m = normal_alike_at cs i v m

pub deeper_normal_form : (s t : Schema) → CutOf s t → (v : Value) → meets_cut s v ≡ false → normal s v ≡ normal t v
deeper_normal_form s t c v m = normal_alike c v m

-- of a type
pub one_normal_form : (T : ℕ → Schema) → Unfolds T → (v : Value) (m n : ℕ) → meets_cut (T m) v ≡ false → meets_cut (T n) v ≡ false → normal (T m) v ≡ normal (T n) v
one_normal_form T u v m n h k = elim (cases_lt m n) [
  | inl l ↦ deeper_normal_form (T m) (T n) (up_to T u m n (omega arith)) v h
  | inr l ↦ sym (deeper_normal_form (T n) (T m) (up_to T u n m l) v k)
]

-- the canonical encoding of a value: whichever trees its normal form and its bytes are of
pub one_canonical_encoding : (a : Variant) (T : ℕ → Schema) → Unfolds T → (v : Value) (k l m n : ℕ) (os ps : List ℕ) → meets_cut (T k) v ≡ false → meets_cut (T l) v ≡ false →
    bytes a (T m) (normal (T k) v) ≡ Some os → bytes a (T n) (normal (T l) v) ≡ Some ps → os ≡ ps
one_canonical_encoding a T u v k l m n os ps h i e f =
    one_encoding a T u (normal (T k) v) os ps m n e (ap (bytes a (T n)) (one_normal_form T u v k l h i) ∙ f)

-- and once there is one, it is that of every deeper tree
pub canonical_encoding_deeper : (a : Variant) (T : ℕ → Schema) → Unfolds T → (v : Value) (os : List ℕ) (m n : ℕ) → m ≤ n → meets_cut (T m) v ≡ false → bytes a (T m) (normal (T m) v) ≡ Some os → bytes a (T n) (normal (T n) v) ≡ Some os
canonical_encoding_deeper a T u v os m n l h e =
    ap (bytes a (T n)) (sym (deeper_normal_form (T m) (T n) (up_to T u m n l) v h)) ∙ encodes_deeper a T u (normal (T m) v) os m n l e
