-- A value of at most n levels, of a kind: no component of it that is written is at a Cut of the tree of n levels.
use Rattle.per_core.specs.Basic
use Rattle.std.proofs.Common.{◌≡◌, refl, sym, ap, subst, ℕ, zero, suc, ◌<◌, ◌≤◌, Bool, true, false, ◌&&◌, ltb, le-ltb, List, [], ◌∷◌, length, arith, Option, Some, None}
use Rattle.rasn_types.specs.Values.{Value, code, sorted, before, elements, bag_of, fields, alternative, Side, root, added, as_values, as_slots, slots}
use Rattle.rasn_types.proofs.Values.{slots-as_slots, values-as_values}
use Rattle.rasn_constraints.specs.Bounds.{Size}
use Rattle.rasn_schema.specs.Schemas.{Presence, Order, tags, Schema, Parts, no_parts, part}
use Rattle.rasn_schema.specs.Orders.{ordered}
use Rattle.rasn_schema.specs.Depth.{any_of, IsLeaf}
use Rattle.per_core.specs.Spellings.{Settings}
use Rattle.per_core.specs.Counts.{list_items}
use Rattle.per_core.specs.Basic.{Record, Counted, Chosen, Open, Fills, basic, basic_in, rules}
use Rattle.per_core.proofs.SpellingsAgree.{Agree, weaken, then_agree, never_agree, turned}
use Rattle.per_core.proofs.LengthForms.{Zip, bounded_agree, lengthy_agree, or_left, or_right, and_no}
use Rattle.per_core.proofs.Unique.{as_agree, small_agree, open_agree, fills_agree}
use Rattle.per_core.proofs.Records.{SlotRel, Kin, AllKin, Along, fields_agree}
use Rattle.rasn_schema.proofs.Bags.{any_in_bag}
use Rattle.per_core.proofs.Readings.{one_reading, ordered-kin, along-listed, same_flags, same_bit, root_added}
use Rattle.per_laws.proofs.Transitive.{or_both}
use Rattle.rasn_schema.specs.Levels.{TakesLevel, TakesNone, ToLevels, PartsToLevels, to_leaf, to_date, no_date, still_cut, no_level, to_containing, to_list, to_set_of, to_sequence, to_choice, to_no_parts, to_part}
use Rattle.per_laws.specs.Levels.{levels_of, levels_of_values, levels_of_slots}
use Rattle.per_laws.specs.Written.{is_written, writes_cut, slots_write_cut, writes_cut_at}
use Rattle.per_laws.proofs.SameWritten.{slot_written_cut}
use Rattle.per_laws.proofs.Reading.{left_out_kept, leaf_kept, any_sorted}
use Rattle.per_laws.proofs.Depths.{same_kind}

abbrev pub Few : ℕ → Schema → Value → Type 0
Few n s v = levels_of v ≤ n → writes_cut s s v ≡ false

-- lists
over : ℕ → Value → Bool
over n v = ltb n (levels_of v)

none_over : (n : ℕ) (vs : List Value) → levels_of_values (as_values vs) ≤ n → any_of (over n) vs ≡ false
unfolding levels_of over
none_over n [] l = refl
none_over n (v ∷ vs) l = or_both (ltb n (levels_of v)) (any_of (over n) vs) (le-ltb n (levels_of v) (omega arith)) (none_over n vs (omega arith))

within : (n m : ℕ) → ltb n m ≡ false → m ≤ n
within n m e = grind arith

zip_few : (n : ℕ) (s : Schema) (xs ys : List Value) → Zip (λ v w. Few n s v) xs ys → any_of (over n) xs ≡ false → any_of (writes_cut s s) xs ≡ false
unfolding over
zip_few n s [] [] z m = refl
zip_few n s (x ∷ xs) (y ∷ ys) z m = or_both (writes_cut s s x) (any_of (writes_cut s s) xs)
    (z.0 (within n (levels_of x) (or_left (ltb n (levels_of x)) (any_of (over n) xs) m))) (zip_few n s xs ys z.1 (or_right (ltb n (levels_of x)) (any_of (over n) xs) m))
zip_few n s [] (y ∷ ys) z m = absurd z
zip_few n s (x ∷ xs) [] z m = absurd z

list_few : (a : Settings) (n : ℕ) (s t : Schema) (size : Size) (mark : Bool) → ((v w : Value) → Agree (Few n s v) (basic a t v) (basic a t w)) → (v w : Value) →
    Agree (Few (suc n) (Schema.list s size mark) v) (basic a (Schema.list t size mark) v) (basic a (Schema.list t size mark) w)
unfolding basic_in writes_cut levels_of
list_few a n s t size mark h v w = as_agree (λ v w. Few (suc n) (Schema.list s size mark) v) (λ vs. elements (as_values vs)) (λ vs. elements (as_values vs))
    (Counted a size mark list_items (basic a t)) (Counted a size mark list_items (basic a t)) v w
    (λ x y. weaken (λ z l. subst (λ k. any_of (writes_cut s s) k ≡ false) (sym (values-as_values x)) (zip_few n s x y z (none_over n x (omega arith))))
    (lengthy_agree (λ v w. Few n s v) (basic a t) (basic a t) h a size mark list_items x y))

bag_few : (a : Settings) (n : ℕ) (s t : Schema) (size : Size) (mark : Bool) → ((v w : Value) → Agree (Few n s v) (basic a t v) (basic a t w)) → (v w : Value) →
    Agree (Few (suc n) (Schema.set_of s size mark) v) (basic a (Schema.set_of t size mark) v) (basic a (Schema.set_of t size mark) w)
unfolding basic_in writes_cut levels_of bag_of
bag_few a n s t size mark h v w = as_agree (λ v w. Few (suc n) (Schema.set_of s size mark) v) bag_of bag_of
    (Counted a size mark list_items (basic a t)) (Counted a size mark list_items (basic a t)) v w
    (λ x y. weaken (λ z l.
    let less : Value → Value → Bool = λ v w. before (code v) (code w) in
    subst (λ k. any_of (writes_cut s s) k ≡ false) (sym (values-as_values (sorted less x)))
    (any_sorted less (writes_cut s s) x (zip_few n s x y z (any_in_bag (over n) x (none_over n (sorted less x) (omega arith))))))
    (lengthy_agree (λ v w. Few n s v) (basic a t) (basic a t) h a size mark list_items x y))

-- records
slot_levels : Option Value → ℕ
slot_levels None = 0
slot_levels (Some v) = levels_of v

FewSlot : ℕ → Presence → Schema → SlotRel
FewSlot n p s x y = slot_levels x ≤ n → slot_written_cut p s s x ≡ false

few_slots : ℕ → Parts → List SlotRel
few_slots n no_parts = []
few_slots n (part t p s ps) = FewSlot n p s ∷ few_slots n ps

part_few : (a : Settings) (n : ℕ) (p : Presence) (s t : Schema) → ((v w : Value) → Agree (Few n s v) (basic a t v) (basic a t w)) →
    Kin (FewSlot n p s) (record { presence = p; spells = basic a t }) (record { presence = p; spells = basic a t })
unfolding FewSlot slot_levels
part_few a n p s t each = record {
  flags = same_flags p;
  left_out = λ x y h h' l. left_out_kept p p (same_kind p) s s x y h;
  held = λ v w. weaken (λ e l. and_no (is_written p v) (writes_cut s s v) (e l)) (each v w);
}

along_few : (n : ℕ) (ps : Parts) (xs ys : List (Option Value)) → Along false (few_slots n ps) xs ys → levels_of_slots (as_slots xs) ≤ n → slots_write_cut ps ps xs ≡ false
unfolding writes_cut levels_of few_slots FewSlot slot_levels
along_few n no_parts xs ys k l = refl
along_few n (part t p s ps) [] ys k l = refl
along_few n (part t p s ps) (x ∷ xs) [] k l = absurd k
along_few n (part t p s ps) (None ∷ xs) (y ∷ ys) k l = along_few n ps xs ys k.1 l
along_few n (part t p s ps) (Some v ∷ xs) (y ∷ ys) k l = or_both (is_written p v && writes_cut s s v) (slots_write_cut ps ps xs) (k.0 (omega arith)) (along_few n ps xs ys k.1 (omega arith))

record_few : (a : Settings) (n : ℕ) (o : Order) (ext : Bool) (ps qs adds bdds : Parts) → AllKin false (few_slots n ps) (rules a qs) (rules a qs) → AllKin false (few_slots n adds) (rules a bdds) (rules a bdds) → (v w : Value) →
    Agree (Few (suc n) (Schema.sequence o ps ext adds) v) (basic a (Schema.sequence o qs ext bdds) v) (basic a (Schema.sequence o qs ext bdds) w)
unfolding basic_in writes_cut levels_of
record_few a n o ext ps qs adds bdds k k' v w = as_agree (λ v w. Few (suc n) (Schema.sequence o ps ext adds) v)
    (λ x. fields (as_slots x.0) (as_slots x.1)) (λ x. fields (as_slots x.0) (as_slots x.1))
    (λ x. Record a ext (ordered o (tags qs) (rules a qs)) (rules a bdds) (ordered o (tags qs) x.0) x.1)
    (λ x. Record a ext (ordered o (tags qs) (rules a qs)) (rules a bdds) (ordered o (tags qs) x.0) x.1) v w
    (λ x y. weaken (λ r l. or_both (slots_write_cut ps ps (slots (as_slots x.0))) (slots_write_cut adds adds (slots (as_slots x.1)))
    (subst (λ z. slots_write_cut ps ps z ≡ false) (sym (slots-as_slots x.0)) (along_few n ps x.0 y.0 (along-listed o (tags qs) (few_slots n ps) x.0 y.0 r.0) (omega arith)))
    (subst (λ z. slots_write_cut adds adds z ≡ false) (sym (slots-as_slots x.1)) (along_few n adds x.1 y.1 r.1 (omega arith))))
    (fields_agree a false (ordered o (tags qs) (few_slots n ps)) (few_slots n adds) (ordered o (tags qs) (rules a qs)) (ordered o (tags qs) (rules a qs)) (rules a bdds) (rules a bdds)
    (ordered-kin o (tags qs) (few_slots n ps) (rules a qs) (rules a qs) k) k' (ordered o (tags qs) x.0) (ordered o (tags qs) y.0) x.1 y.1 ext))

-- choices
choice_few : (a : Settings) (n : ℕ) (ext : Bool) (ps qs adds bdds : Parts) →
    ((i : ℕ) (v w : Value) → Agree (levels_of v ≤ n → writes_cut_at ps ps i v ≡ false) (Chosen (rules a qs) i v) (Chosen (rules a qs) i w)) →
    ((i : ℕ) (v w : Value) → Agree (levels_of v ≤ n → writes_cut_at adds adds i v ≡ false) (Chosen (rules a bdds) i v) (Chosen (rules a bdds) i w)) → (v w : Value) →
    Agree (Few (suc n) (Schema.choice ps adds ext) v) (basic a (Schema.choice qs bdds ext) v) (basic a (Schema.choice qs bdds ext) w)
unfolding basic_in writes_cut levels_of
choice_few a n ext ps qs adds bdds h h' v w = as_agree (λ v w. Few (suc n) (Schema.choice ps adds ext) v)
    (λ x. alternative x.0 x.1 x.2) (λ x. alternative x.0 x.1 x.2)
    (λ x. Basic.Choice a ext (rules a qs) (rules a bdds) x.0 x.1 x.2) (λ x. Basic.Choice a ext (rules a qs) (rules a bdds) x.0 x.1 x.2) v w
    (λ x y. go x.0 x.1 x.2 y.0 y.1 y.2)
  where
    go : (d : Side) (i : ℕ) (v : Value) (e : Side) (j : ℕ) (w : Value) → Agree (Few (suc n) (Schema.choice ps adds ext) (alternative d i v))
        (Basic.Choice a ext (rules a qs) (rules a bdds) d i v) (Basic.Choice a ext (rules a qs) (rules a bdds) e j w)
    go root i v root j w = same_bit ext false (weaken (λ r l. r.1 (omega arith)) (then_agree (bounded_agree a (length (rules a qs)) i j) (λ e.
        subst (λ k. Agree (levels_of v ≤ n → writes_cut_at ps ps i v ≡ false) (Chosen (rules a qs) i v) (Chosen (rules a qs) k w)) e (h i v w))))
    go root i v added j w = root_added ext _ _
    go added i v root j w = turned (λ e. e) (root_added ext _ _)
    go added i v added j w = same_bit ext true (weaken (λ r l. r.1 (omega arith)) (then_agree (small_agree a i j) (λ e.
        subst (λ k. Agree (levels_of v ≤ n → writes_cut_at adds adds i v ≡ false) (Open a (Fills a (Chosen (rules a bdds) i v))) (Open a (Fills a (Chosen (rules a bdds) k w)))) e
        (open_agree a (Fills a (Chosen (rules a bdds) i v)) (Fills a (Chosen (rules a bdds) i w)) (λ os c d. fills_agree a os (h' i v w) c d)))))

-- what is cut off has more levels than are left
some_levels : (a : Settings) (t : Schema) → TakesLevel t → (v w : Value) → Agree (Few 0 Schema.cut v) (basic a t v) (basic a t w)
unfolding basic_in levels_of bag_of
some_levels a (Schema.list e size mark) h v w = record { agree = λ p b c s t x y u. ((λ l. let k = ap levels_of x.is in absurd (omega arith)), ((one_reading a (Schema.list e size mark) v w).agree p b c s t x y u).1) }
some_levels a (Schema.set_of e size mark) h v w = record { agree = λ p b c s t x y u. ((λ l. let k = ap levels_of x.is in absurd (omega arith)), ((one_reading a (Schema.set_of e size mark) v w).agree p b c s t x y u).1) }
some_levels a (Schema.sequence o ps ext adds) h v w = record { agree = λ p b c s t x y u. ((λ l. let k = ap levels_of x.is in absurd (omega arith)), ((one_reading a (Schema.sequence o ps ext adds) v w).agree p b c s t x y u).1) }
some_levels a (Schema.choice ps adds ext) h v w = record { agree = λ p b c s t x y u. ((λ l. let k = ap levels_of x.is in absurd (omega arith)), ((one_reading a (Schema.choice ps adds ext) v w).agree p b c s t x y u).1) }
some_levels a _ h v w = absurd h

date_levels : (a : Settings) (n : ℕ) → n < 2 → (v w : Value) → Agree (Few n Schema.cut v) (basic a Schema.date v) (basic a Schema.date w)
unfolding basic_in levels_of
date_levels a n h v w = record { agree = λ p b c s t x y u. ((λ l. let k = ap levels_of x.is in absurd (omega arith)), ((one_reading a Schema.date v w).agree p b c s t x y u).1) }

pub none_is_leaf : (s : Schema) → TakesNone s → IsLeaf s
none_is_leaf (Schema.containing e) h = absurd h
none_is_leaf (Schema.list e size mark) h = absurd h
none_is_leaf (Schema.set_of e size mark) h = absurd h
none_is_leaf (Schema.sequence o ps ext adds) h = absurd h
none_is_leaf (Schema.choice ps adds ext) h = absurd h
none_is_leaf Schema.date h = absurd h
none_is_leaf Schema.cut h = absurd h
none_is_leaf _ h = tt

mutual
  unfolding basic_in writes_cut few_slots

  pub few_written : (a : Settings) {n : ℕ} {s t : Schema} → ToLevels n s t → (v w : Value) → Agree (Few n s v) (basic a t v) (basic a t w)
  few_written a (to_leaf {s = s} h) v w = weaken (λ e l. e) (leaf_kept a s (none_is_leaf s h) v w)
  few_written a to_date v w = weaken (λ e l. refl) (one_reading a Schema.date v w)
  few_written a (no_date {n = n} h) v w = date_levels a n h v w
  few_written a (still_cut h) v w = never_agree
  few_written a (no_level {t = t} h) v w = some_levels a t h v w
  few_written a (to_containing {t = t} c) v w = open_agree a (Fills a (basic a t v)) (Fills a (basic a t w)) (λ os x y. fills_agree a os (few_written a c v w) x y)
  few_written a (to_list {n = n} {s = s} {t = t} {size = size} {mark = mark} c) v w = list_few a n s t size mark (few_written a c) v w
  few_written a (to_set_of {n = n} {s = s} {t = t} {size = size} {mark = mark} c) v w = bag_few a n s t size mark (few_written a c) v w
  few_written a (to_sequence {n = n} {o = o} {ext = ext} {ps = ps} {qs = qs} {adds = adds} {bdds = bdds} c d) v w = record_few a n o ext ps qs adds bdds (few_kin a c) (few_kin a d) v w
  few_written a (to_choice {n = n} {ext = ext} {ps = ps} {qs = qs} {adds = adds} {bdds = bdds} c d) v w = choice_few a n ext ps qs adds bdds (few_chosen a c) (few_chosen a d) v w

  few_kin : (a : Settings) {n : ℕ} {ps qs : Parts} → PartsToLevels n ps qs → AllKin false (few_slots n ps) (rules a qs) (rules a qs)
  few_kin a to_no_parts = tt
  few_kin a (to_part {n = n} {p = p} {s = s} {s' = t} c cs) = (part_few a n p s t (few_written a c), few_kin a cs)

  few_chosen : (a : Settings) {n : ℕ} {ps qs : Parts} → PartsToLevels n ps qs → (i : ℕ) (v w : Value) → Agree (levels_of v ≤ n → writes_cut_at ps ps i v ≡ false) (Chosen (rules a qs) i v) (Chosen (rules a qs) i w)
  few_chosen a to_no_parts i v w = never_agree
  few_chosen a (to_part c cs) zero v w = few_written a c v w
  few_chosen a (to_part c cs) (suc i) v w = few_chosen a cs i v w
