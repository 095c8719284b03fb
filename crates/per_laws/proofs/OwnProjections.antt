-- A value that is its own projection along a tree is so along a tree that is cut off.
use Rattle.std.proofs.Common.{◌≡◌, refl, sym, ap, ◌∙◌, subst, ℕ, zero, suc, Bool, true, false, cond, List, [], ◌∷◌, Option, Some, None}
use Rattle.rasn_types.specs.Values.{Value, put, sorted, before, code, elements, bag, bag_of, fields, alternative, root, added, as_values, as_slots, values, slots}
use Rattle.rasn_types.proofs.Values.{slots-as_slots, values-as_values, as_values-values}
use Rattle.rasn_schema.specs.Depth.{CutOf, CutParts, cut_here, alike, cut_containing, cut_list, cut_set_of, cut_sequence, cut_choice, no_cut, cut_part}
use Rattle.rasn_schema.specs.Schemas.{Schema, Parts, no_parts, part}
use Rattle.rasn_types.specs.AllOf.{joined, all_of}
use Rattle.per_core.specs.Versions.{project, project_slots, project_at, slot_through, slots_through, through_elements, through_bag, through_fields, through_alternative, through_item, made, made_both}
use Rattle.rasn_schema.proofs.Bags.{joined_of, sort}
use Rattle.per_core.proofs.Readings.{some_same}
use Rattle.per_laws.proofs.Chains.{Steps, StepSlots, StepAt, all_steps, elements_steps, bags_steps, fields_steps, alternative_steps, slots_steps, at_steps, item_same}
use Rattle.per_laws.proofs.Older.{made_of, made_both_of, slot_some}
use Rattle.per_laws.proofs.Transitive.{Slotted, into_slot, some_l, some_o}

-- projecting again changes nothing
mutual
  unfolding project Steps StepSlots StepAt

  again : (s : Schema) → Steps (project s s) (project s s) (project s s)
  again (Schema.containing e) = again e
  again (Schema.list e size mark) = elements_steps (project e e) (project e e) (project e e) (again e)
  again (Schema.set_of e size mark) = bags_steps (project e e) (project e e) (project e e) (again e)
  again (Schema.sequence o ps ext adds) =
      fields_steps (project_slots ps ps) (project_slots ps ps) (project_slots ps ps) (project_slots adds adds) (project_slots adds adds) (project_slots adds adds) (slots_again ps) (slots_again adds)
  again (Schema.choice ps adds ext) =
      alternative_steps (project_at ps ps) (project_at ps ps) (project_at ps ps) (project_at adds adds) (project_at adds adds) (project_at adds adds) (at_again ps) (at_again adds)
  again (Schema.items r n ext) = λ v w e. ap (through_item n) (item_same n v w e)
  again s = λ v w e. sym e

  slots_again : (ps : Parts) → StepSlots (project_slots ps ps) (project_slots ps ps) (project_slots ps ps)
  slots_again no_parts = λ xs ys e. refl
  slots_again (part t p s ps) = slots_steps (project s s) (project s s) (project s s) (project_slots ps ps) (project_slots ps ps) (project_slots ps ps) (again s) (slots_again ps)

  at_again : (ps : Parts) → StepAt (project_at ps ps) (project_at ps ps) (project_at ps ps)
  at_again no_parts = λ i v w e. refl
  at_again (part t p s ps) = at_steps (project s s) (project s s) (project s s) (project_at ps ps) (project_at ps ps) (project_at ps ps) (again s) (at_again ps)

-- what the first function leaves as it is, the second one does too
abbrev pub Keeps : {X : Type 0} → (X → Option X) → (X → Option X) → Type 0
Keeps {X} f g = (v : X) → f v ≡ Some v → g v ≡ Some v

all_keep : (f g : Value → Option Value) → Keeps f g → Keeps (all_of f) (all_of g)
all_keep f g r [] e = refl
all_keep f g r (v ∷ vs) e =
    let q = joined_of (f v) (all_of f vs) (v ∷ vs) e in
    let h : v ∷ vs ≡ q.0 ∷ q.1 = q.4 in
    let i : q.0 ≡ v = cc in
    let j : q.1 ≡ vs = cc in
    ap (λ o. joined o (all_of g vs)) (r v (q.2 ∙ ap Some i)) ∙ ap (joined (Some v)) (all_keep f g r vs (q.3 ∙ ap Some j))

elements_keep : (f g : Value → Option Value) → Keeps f g → Keeps (through_elements f) (through_elements g)
elements_keep f g r (elements vs) e =
    let q = made_of (λ ws. elements (as_values ws)) (all_of f (values vs)) (elements vs) e in
    let h : elements vs ≡ elements (as_values q.0) = q.2 in
    let i : vs ≡ as_values q.0 = cc in
    let j : q.0 ≡ values vs = sym (values-as_values q.0) ∙ ap values (sym i) in
    ap (made (λ ws. elements (as_values ws))) (all_keep f g r (values vs) (q.1 ∙ ap Some j)) ∙ some_same (ap elements (as_values-values vs))
elements_keep f g r _ e = absurd (cc)

-- each of a list has a property, in any order
abbrev Each : (Value → Type 0) → List Value → Type 0
Each P [] = Unit {0}
Each P (v ∷ vs) = P v × Each P vs

each_put : (less : Value → Value → Bool) (P : Value → Type 0) (v : Value) (vs : List Value) → P v → Each P vs → Each P (put less v vs)
each_put less P v [] h k = (h, tt)
each_put less P v (w ∷ vs) h k = go (less w v) (each_put less P v vs h k.1)
  where
    go : (t : Bool) → Each P (put less v vs) → Each P (cond t (w ∷ put less v vs) (v ∷ w ∷ vs))
    go true l = (k.0, l)
    go false l = (h, k)

each_sorted : (less : Value → Value → Bool) (P : Value → Type 0) (vs : List Value) → Each P vs → Each P (sorted less vs)
each_sorted less P [] k = tt
each_sorted less P (v ∷ vs) k = each_put less P v (sorted less vs) k.0 (each_sorted less P vs k.1)

each_fixed : (f : Value → Option Value) (vs : List Value) → all_of f vs ≡ Some vs → Each (λ v. f v ≡ Some v) vs
each_fixed f [] e = tt
each_fixed f (v ∷ vs) e =
    let q = joined_of (f v) (all_of f vs) (v ∷ vs) e in
    let h : v ∷ vs ≡ q.0 ∷ q.1 = q.4 in
    let i : q.0 ≡ v = cc in
    let j : q.1 ≡ vs = cc in
    (q.2 ∙ ap Some i, each_fixed f vs (q.3 ∙ ap Some j))

all_fixed : (f : Value → Option Value) (vs : List Value) → Each (λ v. f v ≡ Some v) vs → all_of f vs ≡ Some vs
all_fixed f [] k = refl
all_fixed f (v ∷ vs) k = ap (λ o. joined o (all_of f vs)) k.0 ∙ ap (joined (Some v)) (all_fixed f vs k.1)

bags_keep : (f g : Value → Option Value) → Steps f f f → Keeps f g → Keeps (through_bag f) (through_bag g)
unfolding bag_of sort Steps
bags_keep f g s r (bag vs) e =
    let q = made_of bag_of (all_of f (values vs)) (bag vs) e in
    let h : bag vs ≡ bag (as_values (sort q.0)) = q.2 in
    let i : vs ≡ as_values (sort q.0) = cc in
    let j : sort q.0 ≡ values vs = sym (values-as_values (sort q.0)) ∙ ap values (sym i) in
    let once = each_fixed f q.0 (all_steps f f f s (values vs) q.0 q.1 ∙ q.1) in
    let k : all_of f (values vs) ≡ Some (values vs) = subst (λ l. all_of f l ≡ Some l) j (all_fixed f (sort q.0) (each_sorted (λ v w. before (code v) (code w)) (λ v. f v ≡ Some v) q.0 once)) in
    ap (made bag_of) (all_keep f g r (values vs) k) ∙ sym (ap (made bag_of) k) ∙ e
bags_keep f g s r _ e = absurd (cc)

fields_keep : (F G F' G' : Slotted) → Keeps F G → Keeps F' G' → Keeps (through_fields F F') (through_fields G G')
fields_keep F G F' G' r r' (fields a b) e =
    let q = made_both_of (F (slots a)) (F' (slots b)) (fields a b) e in
    let h : fields a b ≡ fields (as_slots q.0) (as_slots q.1) = q.4 in
    let i : a ≡ as_slots q.0 = cc in
    let j : b ≡ as_slots q.1 = cc in
    let k : q.0 ≡ slots a = sym (slots-as_slots q.0) ∙ ap slots (sym i) in
    let l : q.1 ≡ slots b = sym (slots-as_slots q.1) ∙ ap slots (sym j) in
    let x : F (slots a) ≡ Some (slots a) = q.2 ∙ ap Some k in
    let y : F' (slots b) ≡ Some (slots b) = q.3 ∙ ap Some l in
    ap (λ o. made_both o (G' (slots b))) (r (slots a) x) ∙ ap (made_both (Some (slots a))) (r' (slots b) y) ∙ sym (ap (made_both (Some (slots a))) y) ∙ sym (ap (λ o. made_both o (F' (slots b))) x) ∙ e
fields_keep F G F' G' r r' _ e = absurd (cc)

alternative_keep : (F G F' G' : ℕ → Value → Option Value) → ((i : ℕ) → Keeps (F i) (G i)) → ((i : ℕ) → Keeps (F' i) (G' i)) → Keeps (through_alternative F F') (through_alternative G G')
alternative_keep F G F' G' r r' (alternative root i v) e =
    let q = made_of (alternative root i) (F i v) (alternative root i v) e in
    let h : alternative root i v ≡ alternative root i q.0 = q.2 in
    let j : q.0 ≡ v = cc in
    ap (made (alternative root i)) (r i v (q.1 ∙ ap Some j))
alternative_keep F G F' G' r r' (alternative added i v) e =
    let q = made_of (alternative added i) (F' i v) (alternative added i v) e in
    let h : alternative added i v ≡ alternative added i q.0 = q.2 in
    let j : q.0 ≡ v = cc in
    ap (made (alternative added i)) (r' i v (q.1 ∙ ap Some j))
alternative_keep F G F' G' r r' _ e = absurd (cc)

slot_keep : (f g : Value → Option Value) → Keeps f g → Keeps (slot_through f) (slot_through g)
slot_keep f g r None e = refl
slot_keep f g r (Some v) e =
    let q = slot_some f v (Some v) e in
    let j : q.0 ≡ v = (let h : ◌≡◌ {A = Option Value} (Some v) (Some q.0) = q.2 in cc) in
    into_slot g v v (r v (q.1 ∙ ap Some j))

slots_keep : (f g : Value → Option Value) (F G : Slotted) → Keeps f g → Keeps F G → Keeps (slots_through f F) (slots_through g G)
slots_keep f g F G r rs [] e = absurd (cc)
slots_keep f g F G r rs (x ∷ xs) e =
    let q = joined_of (slot_through f x) (F xs) (x ∷ xs) e in
    let h : x ∷ xs ≡ q.0 ∷ q.1 = q.4 in
    let i : q.0 ≡ x = cc in
    let j : q.1 ≡ xs = cc in
    ap (λ o. joined o (G xs)) (slot_keep f g r x (q.2 ∙ some_o i)) ∙ ap (joined (Some x)) (rs xs (q.3 ∙ some_l j))

mutual
  unfolding project

  pub kept_shallower : {s t : Schema} → CutOf s t → Keeps (project t t) (project s s)
  kept_shallower cut_here = λ v e. refl
  kept_shallower (alike h) = λ v e. e
  kept_shallower (cut_containing c) = kept_shallower c
  kept_shallower (cut_list {s = s} {t = t} c) = elements_keep (project t t) (project s s) (kept_shallower c)
  kept_shallower (cut_set_of {s = s} {t = t} c) = bags_keep (project t t) (project s s) (again t) (kept_shallower c)
  kept_shallower (cut_sequence {ps = ps} {qs = qs} {adds = adds} {bdds = bdds} c d) =
      fields_keep (project_slots qs qs) (project_slots ps ps) (project_slots bdds bdds) (project_slots adds adds) (slots_kept c) (slots_kept d)
  kept_shallower (cut_choice {ps = ps} {qs = qs} {adds = adds} {bdds = bdds} c d) =
      alternative_keep (project_at qs qs) (project_at ps ps) (project_at bdds bdds) (project_at adds adds) (at_kept c) (at_kept d)

  slots_kept : {ps qs : Parts} → CutParts ps qs → Keeps (project_slots qs qs) (project_slots ps ps)
  slots_kept no_cut = λ xs e. e
  slots_kept (cut_part {s = s} {s' = t} {ps = ps} {ps' = qs} c cs) = slots_keep (project t t) (project s s) (project_slots qs qs) (project_slots ps ps) (kept_shallower c) (slots_kept cs)

  at_kept : {ps qs : Parts} → CutParts ps qs → (i : ℕ) → Keeps (project_at qs qs i) (project_at ps ps i)
  at_kept no_cut i = λ v e. e
  at_kept (cut_part c cs) zero = kept_shallower c
  at_kept (cut_part c cs) (suc i) = at_kept cs i
