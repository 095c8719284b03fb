-- A run-time value takes no more levels than the value of the grammar that it is.
use Rattle.std.proofs.Common.{◌≡◌, refl, sym, ap, ap₂, ◌∙◌, subst, ℕ, suc, max, ◌≤◌, Bool, true, false, cond, List, [], ◌∷◌, map, Option, Some, None, arith}
use Rattle.rasn_types.specs.Values
use Rattle.rasn_types.specs.Values.{Value as Content, alternative, as_slots, as_values, bag_of, before, code, put, sorted}
use Rattle.rasn_schema.specs.Lists.{deepest}
use Rattle.rasn_schema.specs.Structures.{list_value, record_value}
use Rattle.rasn_dynamic.specs.declared.values.Value.{Value}
use Rattle.rasn_dynamic.specs.declared.values.Value.TheOpen.{Value-F, Absent, Boolean, Null, Integer, Item, Octets, Bits, Characters, Date, Elements, Bag, Fields, Alternative}
use Rattle.rasn_dynamic.specs.declared.values.Value.TheViews.{roll-Value}
use Rattle.rasn_dynamic.specs.declared.values.Value.TheFolds.{fold-roll-Value, ind-Value, map-Value}
use Rattle.rasn_dynamic.specs.Depths.{depth, slots_depth, values_depth}
use Rattle.rasn_dynamic.specs.Values.{levels_of, levels_step, slot_of, slot_step, there, value_of}

-- how deep a slot is
abbrev slot_depth : Option Content → ℕ
slot_depth None = 0
slot_depth (Some v) = depth v

abbrev IsBelow : Value → Type 0
IsBelow v = levels_of v ≤ slot_depth (slot_of v)

abbrev Below : Type 0
Below = (v : Value) × IsBelow v

there_depth : (o : Option Content) → slot_depth o ≤ depth (there o)
unfolding depth
there_depth None = omega arith
there_depth (Some v) = omega arith

deepest_slots : (es : List Below) → deepest (λ n. n) (map levels_of (map (λ e. e.0) es)) ≤ slots_depth (as_slots (map slot_of (map (λ e. e.0) es)))
unfolding depth
deepest_slots [] = omega arith
deepest_slots (e ∷ es) = go (slot_of e.0) e.1 (deepest_slots es)
  where
    go : (o : Option Content) → levels_of e.0 ≤ slot_depth o → deepest (λ n. n) (map levels_of (map (λ e. e.0) es)) ≤ slots_depth (as_slots (map slot_of (map (λ e. e.0) es)))
        → max (levels_of e.0) (deepest (λ n. n) (map levels_of (map (λ e. e.0) es))) ≤ slots_depth (as_slots (o ∷ map slot_of (map (λ e. e.0) es)))
    go None h k = omega (arith, h, k)
    go (Some v) h k = omega (arith, h, k)

deepest_values : (es : List Below) → deepest (λ n. n) (map levels_of (map (λ e. e.0) es)) ≤ values_depth (as_values (map there (map slot_of (map (λ e. e.0) es))))
unfolding depth
deepest_values [] = omega arith
deepest_values (e ∷ es) = let h = e.1 in let k = deepest_values es in let l = there_depth (slot_of e.0) in omega (arith, h, k, l)

-- a bag is as deep as its members
put_depth : (less : Content → Content → Bool) (x : Content) (ys : List Content) → values_depth (as_values (put less x ys)) ≡ max (depth x) (values_depth (as_values ys))
unfolding depth
put_depth less x [] = refl
put_depth less x (y ∷ ys) = go (less y x) (put_depth less x ys)
  where
    go : (b : Bool) → values_depth (as_values (put less x ys)) ≡ max (depth x) (values_depth (as_values ys))
        → values_depth (as_values (cond b (y ∷ put less x ys) (x ∷ y ∷ ys))) ≡ max (depth x) (max (depth y) (values_depth (as_values ys)))
    go true h = ap (max (depth y)) h ∙ omega arith
    go false h = refl

sorted_depth : (less : Content → Content → Bool) (xs : List Content) → values_depth (as_values (sorted less xs)) ≡ values_depth (as_values xs)
unfolding depth
sorted_depth less [] = refl
sorted_depth less (x ∷ xs) = put_depth less x (sorted less xs) ∙ ap (max (depth x)) (sorted_depth less xs)

below_step : (y : Value-F Below) → levels_step (map-Value Value ℕ levels_of (map-Value Below Value (λ e. e.0) y)) ≤ slot_depth (slot_step (map-Value Value (Option Content) slot_of (map-Value Below Value (λ e. e.0) y)))
unfolding depth bag_of
below_step (Elements v) = let h = deepest_values v.items in omega (arith, h)
below_step (Bag v) = let h = deepest_values v.items in let k = sorted_depth (λ v w. before (code v) (code w)) (map there (map slot_of (map (λ e. e.0) v.items))) in omega (arith, h, k)
below_step (Fields v w) = let h = deepest_slots v.items in let k = deepest_slots w.items in omega (arith, h, k)
below_step (Alternative p v) = let h = v.value.1 in let k = there_depth (slot_of v.value.0) in omega (arith, h, k)
below_step (Date d) = omega arith
below_step _ = omega arith

below_roll : (y : Value-F Below) (x : Value-F Value) → map-Value Below Value (λ e. e.0) y ≡ x → IsBelow (roll-Value x)
below_roll y x is =
    subst (λ (n : ℕ). n ≤ slot_depth (slot_of (roll-Value x))) (sym (fold-roll-Value ℕ levels_step x))
    (subst (λ o. levels_step (map-Value Value ℕ levels_of x) ≤ slot_depth o) (sym (fold-roll-Value (Option Content) slot_step x))
    (subst (λ z. levels_step (map-Value Value ℕ levels_of z) ≤ slot_depth (slot_step (map-Value Value (Option Content) slot_of z))) is (below_step y)))

is_below : (v : Value) → IsBelow v
is_below = ind-Value IsBelow (λ x y is. below_roll y x is)

pub levels_below : (v : Value) → levels_of v ≤ depth (value_of v)
levels_below v = let h = is_below v in let k = there_depth (slot_of v) in omega (arith, h, k)
