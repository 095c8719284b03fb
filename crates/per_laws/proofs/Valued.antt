-- The normal form of a schema's value is a value of that schema.
use Rattle.std.proofs.Common.{◌≡◌, refl, sym, ap, ◌∙◌, ap₂, ℕ, zero, suc, ◌^◌, Bool, true, false, cond, ltb, ◌&&◌, ◌+◌, ◌-◌, ◌<◌, List, [], ◌∷◌, map, length, Option, Some, None, ltb-true, lt-ltb, arith}
use Rattle.std.proofs.Math.Nat.{lt_of_le_of_lt}
use Rattle.rasn_types.specs.Values.{Value, code, before, put, sorted, same, elements, bag, bag_of, fields, alternative, root, added, as_values, values, slots}
use Rattle.rasn_types.specs.Bits.{Bits, filled_up, trimmed}
use Rattle.rasn_types.proofs.Trimming.{trimmed-few, length-filled}
use Rattle.rasn_types.proofs.Values.{slots-as_slots, values-as_values}
use Rattle.rasn_constraints.specs.Bounds.{Size}
use Rattle.rasn_schema.specs.Schemas.{Presence, required, optional, group, default, Schema, Parts, no_parts, part}
use Rattle.rasn_schema.specs.Normal.{is_vacant, settle, each_slot, normal_bits, if_named, over_elements, over_bag, over_fields, over_alternative, normal, normals, normal_at}
use Rattle.rasn_schema.specs.Lawful.{all_pass, is_countable, if_bits, if_elements, if_bag, if_fields, if_alternative, slot_passes, slots_pass, is_value, are_values, is_value_at}
use Rattle.rasn_types.specs.AllOf.{all_of, joined}
use Rattle.rasn_schema.proofs.Bags.{bag_becomes, sort, some_list}
use Rattle.per_core.proofs.Counting.{length-map'}
use Rattle.per_core.proofs.LengthForms.{and_left, and_right}
use Rattle.per_laws.proofs.Reading.{same_self}

-- what passes a test passes it still
abbrev pub Stays : {X : Type 0} → (X → Bool) → (X → X) → Type 0
Stays {X} f g = (v : X) → f v ≡ true → f (g v) ≡ true

all_stay : (f : Value → Bool) (g : Value → Value) → Stays f g → Stays (all_pass f) (map g)
all_stay f g h [] e = refl
all_stay f g h (v ∷ vs) e = ap₂ (λ a b. a && b) (h v (and_left (f v) (all_pass f vs) e)) (all_stay f g h vs (and_right (f v) (all_pass f vs) e))

still_countable : (g : Value → Value) (vs : List Value) → is_countable vs ≡ true → is_countable (map g vs) ≡ true
still_countable g vs e = ap (λ (n : ℕ). ltb n (2 ^ 64)) (length-map' g vs) ∙ e

both_few : (t l n m : ℕ) → t < m → l < m → n ≡ t + (l - t) → n < m
both_few t l n m h k e = omega arith

pub bits_countable : (l : Option ℕ) (bs : Bits) → is_countable bs ≡ true → is_countable (normal_bits l bs) ≡ true
bits_countable None bs e = lt-ltb (length (trimmed bs)) (2 ^ 64) (lt_of_le_of_lt (trimmed-few bs) (ltb-true (length bs) (2 ^ 64) e))
bits_countable (Some l) bs e = go (ltb l (2 ^ 64)) refl
  where
    go : (t : Bool) → ltb l (2 ^ 64) ≡ t → is_countable (cond t (filled_up l (trimmed bs)) (trimmed bs)) ≡ true
    go true k = lt-ltb (length (filled_up l (trimmed bs))) (2 ^ 64) (both_few (length (trimmed bs)) l (length (filled_up l (trimmed bs))) (2 ^ 64) (lt_of_le_of_lt (trimmed-few bs) (ltb-true (length bs) (2 ^ 64) e)) (ltb-true l (2 ^ 64) k) (length-filled l (trimmed bs)))
    go false k = lt-ltb (length (trimmed bs)) (2 ^ 64) (lt_of_le_of_lt (trimmed-few bs) (ltb-true (length bs) (2 ^ 64) e))

named_stay : (named : Bool) (size : Size) → Stays if_bits (if_named named size)
named_stay false size v e = e
named_stay true size (Value.bits bs) e = bits_countable size.least bs e
named_stay true size _ e = absurd (cc)

elements_stay : (f : Value → Bool) (g : Value → Value) → Stays f g → Stays (if_elements f) (over_elements g)
elements_stay f g h (elements vs) e =
    ap (λ l. is_countable l && all_pass f l) (values-as_values (map g (values vs)))
    ∙ ap₂ (λ a b. a && b) (still_countable g (values vs) (and_left (is_countable (values vs)) (all_pass f (values vs)) e)) (all_stay f g h (values vs) (and_right (is_countable (values vs)) (all_pass f (values vs)) e))
elements_stay f g h _ e = absurd (cc)

-- sorting keeps the elements
put_passes : (f : Value → Bool) (less : Value → Value → Bool) (v : Value) (vs : List Value) → f v ≡ true → all_pass f vs ≡ true → all_pass f (put less v vs) ≡ true
put_passes f less v [] e h = ap (λ a. a && true) e
put_passes f less v (w ∷ ws) e h = go (less w v) (put_passes f less v ws e (and_right (f w) (all_pass f ws) h))
  where
    go : (t : Bool) → all_pass f (put less v ws) ≡ true → all_pass f (cond t (w ∷ put less v ws) (v ∷ w ∷ ws)) ≡ true
    go true k = ap₂ (λ a b. a && b) (and_left (f w) (all_pass f ws) h) k
    go false k = ap₂ (λ a b. a && b) e h

sorted_passes : (f : Value → Bool) (less : Value → Value → Bool) (vs : List Value) → all_pass f vs ≡ true → all_pass f (sorted less vs) ≡ true
sorted_passes f less [] h = refl
sorted_passes f less (v ∷ vs) h = put_passes f less v (sorted less vs) (and_left (f v) (all_pass f vs) h) (sorted_passes f less vs (and_right (f v) (all_pass f vs) h))

length_put : (less : Value → Value → Bool) (v : Value) (vs : List Value) → length (put less v vs) ≡ suc (length vs)
length_put less v [] = refl
length_put less v (w ∷ ws) = go (less w v) (length_put less v ws)
  where
    go : (t : Bool) → length (put less v ws) ≡ suc (length ws) → length (cond t (w ∷ put less v ws) (v ∷ w ∷ ws)) ≡ suc (suc (length ws))
    go true k = ap suc k
    go false k = refl

length_sorted : (less : Value → Value → Bool) (vs : List Value) → length (sorted less vs) ≡ length vs
length_sorted less [] = refl
length_sorted less (v ∷ vs) = length_put less v (sorted less vs) ∙ ap suc (length_sorted less vs)

all_some : (vs : List Value) → all_of (λ v. Some v) vs ≡ Some vs
all_some [] = refl
all_some (v ∷ vs) = ap (joined (Some v)) (all_some vs)

bag_of_sorted : (vs : List Value) → bag_of (sort vs) ≡ bag_of vs
unfolding sort
bag_of_sorted vs =
    let q = bag_becomes (λ v. Some v) vs vs (all_some vs) in
    ap bag_of (some_list (sort vs) q.0 (sym (all_some (sort vs)) ∙ q.1)) ∙ q.2

bag_is : (vs : List Value) → bag_of vs ≡ bag (as_values (sort vs))
unfolding sort bag_of
bag_is vs = refl

sorted_bag : (vs : List Value) → same (bag_of (sort vs)) (bag (as_values (sort vs))) ≡ true
sorted_bag vs = ap (λ b. same b (bag (as_values (sort vs)))) (bag_of_sorted vs ∙ bag_is vs) ∙ same_self (bag (as_values (sort vs)))

sort_passes : (f : Value → Bool) (vs : List Value) → all_pass f vs ≡ true → all_pass f (sort vs) ≡ true
unfolding sort
sort_passes f vs h = sorted_passes f (λ v w. before (code v) (code w)) vs h

sort_countable : (vs : List Value) → is_countable vs ≡ true → is_countable (sort vs) ≡ true
unfolding sort
sort_countable vs h = ap (λ (n : ℕ). ltb n (2 ^ 64)) (length_sorted (λ v w. before (code v) (code w)) vs) ∙ h

pub bag_passes : (f : Value → Bool) (vs : List Value) → is_countable vs ≡ true → all_pass f vs ≡ true → if_bag f (bag_of vs) ≡ true
unfolding if_bag
bag_passes f vs c h =
    ap (if_bag f) (bag_is vs)
    ∙ ap (λ l. is_countable l && (all_pass f l && same (bag_of l) (bag (as_values (sort vs))))) (values-as_values (sort vs))
    ∙ ap₂ (λ a b. a && b) (sort_countable vs c) (ap₂ (λ a b. a && b) (sort_passes f vs h) (sorted_bag vs))

bags_stay : (f : Value → Bool) (g : Value → Value) → Stays f g → Stays (if_bag f) (over_bag g)
unfolding if_bag over_bag
bags_stay f g h (bag vs) e =
    let k : (all_pass f (values vs) && same (bag_of (values vs)) (bag vs)) ≡ true = and_right (is_countable (values vs)) (all_pass f (values vs) && same (bag_of (values vs)) (bag vs)) e in
    bag_passes f (map g (values vs)) (still_countable g (values vs) (and_left (is_countable (values vs)) (all_pass f (values vs) && same (bag_of (values vs)) (bag vs)) e))
    (all_stay f g h (values vs) (and_left (all_pass f (values vs)) (same (bag_of (values vs)) (bag vs)) k))
bags_stay f g h _ e = absurd (cc)

fields_stay : (f f' : List (Option Value) → Bool) (g g' : List (Option Value) → List (Option Value)) → Stays f g → Stays f' g' → Stays (if_fields f f') (over_fields g g')
fields_stay f f' g g' h h' (fields r x) e =
    ap₂ (λ l k. f l && f' k) (slots-as_slots (g (slots r))) (slots-as_slots (g' (slots x)))
    ∙ ap₂ (λ a b. a && b) (h (slots r) (and_left (f (slots r)) (f' (slots x)) e)) (h' (slots x) (and_right (f (slots r)) (f' (slots x)) e))
fields_stay f f' g g' h h' _ e = absurd (cc)

alternative_stays : (f f' : ℕ → Value → Bool) (g g' : ℕ → Value → Value) → ((i : ℕ) → Stays (f i) (g i)) → ((i : ℕ) → Stays (f' i) (g' i)) → Stays (if_alternative f f') (over_alternative g g')
alternative_stays f f' g g' h h' (alternative root i v) e = h i v e
alternative_stays f f' g g' h h' (alternative added i v) e = h' i v e
alternative_stays f f' g g' h h' _ e = absurd (cc)

-- a part that holds nothing becomes absent, which a group may be
settled_passes : (p : Presence) (s : Schema) (f : Value → Bool) (v : Value) → f v ≡ true → slot_passes p f (settle p s v) ≡ true
unfolding settle
settled_passes required s f v e = e
settled_passes optional s f v e = e
settled_passes (default d) s f v e = e
settled_passes group s f v e = go (is_vacant s v)
  where
    go : (t : Bool) → slot_passes group f (cond t None (Some v)) ≡ true
    go true = refl
    go false = e

slots_stay : (p : Presence) (s : Schema) (f : Value → Bool) (g : Value → Value) (f' : List (Option Value) → Bool) (g' : List (Option Value) → List (Option Value)) → Stays f g → Stays f' g' →
    Stays (slots_pass (slot_passes p f) f') (each_slot (λ v. settle p s (g v)) g')
slots_stay p s f g f' g' h h' [] e = absurd (cc)
slots_stay p s f g f' g' h h' (None ∷ xs) e = ap₂ (λ a b. a && b) (and_left (slot_passes p f None) (f' xs) e) (h' xs (and_right (slot_passes p f None) (f' xs) e))
slots_stay p s f g f' g' h h' (Some v ∷ xs) e = ap₂ (λ a b. a && b) (settled_passes p s f (g v) (h v (and_left (f v) (f' xs) e))) (h' xs (and_right (f v) (f' xs) e))

mutual
  unfolding is_value normal

  stays : (s : Schema) → Stays (is_value s) (normal s)
  stays (Schema.containing e) = stays e
  stays (Schema.list e size mark) = elements_stay (is_value e) (normal e) (stays e)
  stays (Schema.set_of e size mark) = bags_stay (is_value e) (normal e) (stays e)
  stays (Schema.sequence o ps ext adds) = fields_stay (are_values ps) (are_values adds) (normals ps) (normals adds) (parts_stay ps) (parts_stay adds)
  stays (Schema.choice ps adds ext) = alternative_stays (is_value_at ps) (is_value_at adds) (normal_at ps) (normal_at adds) (place_stays ps) (place_stays adds)
  stays (Schema.bit_string size mark named) = named_stay named size
  stays _ = λ v e. e

  parts_stay : (ps : Parts) → Stays (are_values ps) (normals ps)
  parts_stay no_parts = λ xs e. e
  parts_stay (part t p s ps) = slots_stay p s (is_value s) (normal s) (are_values ps) (normals ps) (stays s) (parts_stay ps)

  place_stays : (ps : Parts) (i : ℕ) → Stays (is_value_at ps i) (normal_at ps i)
  place_stays no_parts i = λ v e. e
  place_stays (part t p s ps) zero = stays s
  place_stays (part t p s ps) (suc i) = place_stays ps i

pub normal_is_value : (s : Schema) (v : Value) → is_value s v ≡ true → is_value s (normal s v) ≡ true
normal_is_value s v e = stays s v e
