-- Whether a value is one of a schema, in two trees that hold all of it.
use Rattle.std.proofs.Common.{◌≡◌, refl, sym, ap, ap₂, ℕ, zero, suc, Bool, false, ◌&&◌, List, [], ◌∷◌, arith, Option, Some, None, inl, inr}
use Rattle.std.proofs.lemmas.Bool.{cases_lt}
use Rattle.rasn_types.specs.Values.{Value, elements, bag, bag_of, fields, alternative, root, added, same, values, slots}
use Rattle.rasn_schema.specs.Depth.{meets_cut, slots_meet_cut, meets_cut_at, in_elements, in_fields, in_alternative, in_slots, any_of, CutOf, CutParts, cut_here, alike, cut_containing, cut_list, cut_set_of, cut_sequence, cut_choice, no_cut, cut_part, Unfolds}
use Rattle.rasn_schema.specs.Lawful.{all_pass, are_values, if_alternative, if_bag, if_elements, if_fields, is_countable, is_value, is_value_at, slot_passes, slots_pass}
use Rattle.rasn_schema.specs.Schemas.{Presence, required, optional, group, default, Schema, Parts}
use Rattle.per_core.proofs.LengthForms.{or_left, or_right}
use Rattle.per_laws.proofs.NormalForms.{one_normal_form}
use Rattle.per_laws.proofs.Types.{up_to}
use Rattle.lawful_types.specs.TypeRules.{is_right}

-- tests that agree where another is false
all_alike : (f g K : Value → Bool) → ((v : Value) → K v ≡ false → f v ≡ g v) → (vs : List Value) → any_of K vs ≡ false → all_pass f vs ≡ all_pass g vs
all_alike f g K h [] m = refl
all_alike f g K h (v ∷ vs) m = ap₂ (λ a b. a && b) (h v (or_left (K v) (any_of K vs) m)) (all_alike f g K h vs (or_right (K v) (any_of K vs) m))

elements_alike : (f g K : Value → Bool) → ((v : Value) → K v ≡ false → f v ≡ g v) → (v : Value) → in_elements K v ≡ false → if_elements f v ≡ if_elements g v
elements_alike f g K h (elements vs) m = ap (λ b. is_countable (values vs) && b) (all_alike f g K h (values vs) m)
elements_alike f g K h _ m = refl

bags_alike : (f g K : Value → Bool) → ((v : Value) → K v ≡ false → f v ≡ g v) → (v : Value) → in_elements K v ≡ false → if_bag f v ≡ if_bag g v
unfolding if_bag
bags_alike f g K h (bag vs) m = ap (λ b. is_countable (values vs) && (b && same (bag_of (values vs)) (bag vs))) (all_alike f g K h (values vs) m)
bags_alike f g K h _ m = refl

fields_alike : (f g f' g' K K' : List (Option Value) → Bool) → ((x : List (Option Value)) → K x ≡ false → f x ≡ g x) → ((x : List (Option Value)) → K' x ≡ false → f' x ≡ g' x) →
    (v : Value) → in_fields K K' v ≡ false → if_fields f f' v ≡ if_fields g g' v
fields_alike f g f' g' K K' h h' (fields r x) m = ap₂ (λ a b. a && b) (h (slots r) (or_left (K (slots r)) (K' (slots x)) m)) (h' (slots x) (or_right (K (slots r)) (K' (slots x)) m))
fields_alike f g f' g' K K' h h' _ m = refl

alternatives_alike : (f g f' g' K K' : ℕ → Value → Bool) → ((i : ℕ) (v : Value) → K i v ≡ false → f i v ≡ g i v) → ((i : ℕ) (v : Value) → K' i v ≡ false → f' i v ≡ g' i v) →
    (v : Value) → in_alternative K K' v ≡ false → if_alternative f f' v ≡ if_alternative g g' v
alternatives_alike f g f' g' K K' h h' (alternative root i v) m = h i v m
alternatives_alike f g f' g' K K' h h' (alternative added i v) m = h' i v m
alternatives_alike f g f' g' K K' h h' _ m = refl

absent_alike : (p : Presence) (f g : Value → Bool) → slot_passes p f None ≡ slot_passes p g None
absent_alike required f g = refl
absent_alike optional f g = refl
absent_alike group f g = refl
absent_alike (default d) f g = refl

slots_alike : (p : Presence) (f g K : Value → Bool) (f' g' K' : List (Option Value) → Bool) → ((v : Value) → K v ≡ false → f v ≡ g v) → ((x : List (Option Value)) → K' x ≡ false → f' x ≡ g' x) →
    (x : List (Option Value)) → in_slots K K' x ≡ false → slots_pass (slot_passes p f) f' x ≡ slots_pass (slot_passes p g) g' x
slots_alike p f g K f' g' K' h h' [] m = refl
slots_alike p f g K f' g' K' h h' (None ∷ xs) m = ap₂ (λ a b. a && b) (absent_alike p f g) (h' xs m)
slots_alike p f g K f' g' K' h h' (Some v ∷ xs) m = ap₂ (λ a b. a && b) (h v (or_left (K v) (K' xs) m)) (h' xs (or_right (K v) (K' xs) m))

mutual
  unfolding is_value meets_cut

  pub value_alike : {s t : Schema} → CutOf s t → (v : Value) → meets_cut s v ≡ false → is_value s v ≡ is_value t v
  value_alike cut_here v m = absurd (cc)
  value_alike (alike h) v m = refl
  value_alike (cut_containing c) v m = value_alike c v m
  value_alike (cut_list {s = s} {t = t} c) v m = elements_alike (is_value s) (is_value t) (meets_cut s) (value_alike c) v m
  value_alike (cut_set_of {s = s} {t = t} c) v m = bags_alike (is_value s) (is_value t) (meets_cut s) (value_alike c) v m
  value_alike (cut_sequence {ps = ps} {qs = qs} {adds = adds} {bdds = bdds} c d) v m = fields_alike (are_values ps) (are_values qs) (are_values adds) (are_values bdds) (slots_meet_cut ps) (slots_meet_cut adds) (values_alike c) (values_alike d) v m
  value_alike (cut_choice {ps = ps} {qs = qs} {adds = adds} {bdds = bdds} c d) v m = alternatives_alike (is_value_at ps) (is_value_at qs) (is_value_at adds) (is_value_at bdds) (meets_cut_at ps) (meets_cut_at adds) (place_alike c) (place_alike d) v m

  values_alike : {ps qs : Parts} → CutParts ps qs → (x : List (Option Value)) → slots_meet_cut ps x ≡ false → are_values ps x ≡ are_values qs x
  values_alike no_cut x m = refl
  values_alike (cut_part {p = p} {s = s} {s' = t} {ps = ps} {ps' = qs} c cs) x m = slots_alike p (is_value s) (is_value t) (meets_cut s) (are_values ps) (are_values qs) (slots_meet_cut ps) (value_alike c) (values_alike cs) x m

  place_alike : {ps qs : Parts} → CutParts ps qs → (i : ℕ) (v : Value) → meets_cut_at ps i v ≡ false → is_value_at ps i v ≡ is_value_at qs i v
  place_alike no_cut i v m = refl
  place_alike (cut_part c cs) zero v m = value_alike c v m
  place_alike (cut_part c cs) (suc i) v m = place_alike cs i v m

module _ (T : ℕ → Schema) (u : Unfolds T) (v : Value) (m n : ℕ) (h : meets_cut (T m) v ≡ false) (k : meets_cut (T n) v ≡ false) where
  one_kind : is_value (T m) v ≡ is_value (T n) v
  one_kind = elim (cases_lt m n) [
    | inl l ↦ value_alike (up_to T u m n (omega (arith, l))) v h
    | inr l ↦ sym (value_alike (up_to T u n m l) v k)
  ]

  pub one_right : is_right (T m) v ≡ is_right (T n) v
  one_right = ap₂ (λ a w. a && same w v) one_kind (one_normal_form T u v m n h k)
