-- A value of fewer levels than a tree is deep meets no Cut there.
use Rattle.std.proofs.Common.{◌≡◌, refl, ℕ, zero, suc, ◌<◌, Bool, false, arith, Option, List}
use Rattle.rasn_types.specs.Values.{Value, elements, bag, fields, alternative, root, added, Values, no_values, value, values, Slots, no_slots, absent, there, slots}
use Rattle.rasn_schema.specs.Schemas.{Schema, Parts, no_parts, part}
use Rattle.rasn_schema.specs.Depth.{meets_cut, slots_meet_cut, meets_cut_at, in_slots, any_of, CutOf, CutParts, cut_here, alike, cut_containing, cut_list, cut_set_of, cut_sequence, cut_choice, no_cut, cut_part, Unfolds}
use Rattle.per_laws.proofs.Transitive.{or_both}
use Rattle.per_laws.specs.Levels.{levels_of, levels_of_values, levels_of_slots, Below, Deep, DeepParts}

any_below : (K : Value → Bool) (n : ℕ) → ((v : Value) → levels_of v < n → K v ≡ false) → (vs : Values) → levels_of_values vs < n → any_of K (values vs) ≡ false
unfolding levels_of
any_below K n h no_values l = refl
any_below K n h (value v vs) l = or_both (K v) (any_of K (values vs)) (h v (omega arith)) (any_below K n h vs (omega arith))

slots_below : (K : Value → Bool) (G : List (Option Value) → Bool) (n : ℕ) → ((v : Value) → levels_of v < n → K v ≡ false) → ((ss : Slots) → levels_of_slots ss < n → G (slots ss) ≡ false) →
    (ss : Slots) → levels_of_slots ss < n → in_slots K G (slots ss) ≡ false
unfolding levels_of
slots_below K G n h k no_slots l = refl
slots_below K G n h k (absent ss) l = k ss l
slots_below K G n h k (there v ss) l = or_both (K v) (G (slots ss)) (h v (omega arith)) (k ss (omega arith))

mutual
  unfolding meets_cut levels_of

  pub meets_none : (s : Schema) (n : ℕ) → Deep n s → (v : Value) → levels_of v < n → meets_cut s v ≡ false
  meets_none Schema.cut zero d v l = absurd (omega arith)
  meets_none Schema.cut (suc n) d v l = absurd d
  meets_none (Schema.containing e) n d v l = meets_none e n d v l
  meets_none (Schema.list e size mark) zero d v l = absurd (omega arith)
  meets_none (Schema.list e size mark) (suc n) d (elements vs) l = any_below (meets_cut e) n (meets_none e n d) vs (omega arith)
  meets_none (Schema.list e size mark) (suc n) d (bag vs) l = any_below (meets_cut e) n (meets_none e n d) vs (omega arith)
  meets_none (Schema.list e size mark) (suc n) d _ l = refl
  meets_none (Schema.set_of e size mark) zero d v l = absurd (omega arith)
  meets_none (Schema.set_of e size mark) (suc n) d (elements vs) l = any_below (meets_cut e) n (meets_none e n d) vs (omega arith)
  meets_none (Schema.set_of e size mark) (suc n) d (bag vs) l = any_below (meets_cut e) n (meets_none e n d) vs (omega arith)
  meets_none (Schema.set_of e size mark) (suc n) d _ l = refl
  meets_none (Schema.sequence o ps ext adds) zero d v l = absurd (omega arith)
  meets_none (Schema.sequence o ps ext adds) (suc n) d (fields r x) l =
      or_both (slots_meet_cut ps (slots r)) (slots_meet_cut adds (slots x)) (slots_meet_none ps n d.0 r (omega arith)) (slots_meet_none adds n d.1 x (omega arith))
  meets_none (Schema.sequence o ps ext adds) (suc n) d _ l = refl
  meets_none (Schema.choice ps adds ext) zero d v l = absurd (omega arith)
  meets_none (Schema.choice ps adds ext) (suc n) d (alternative root i v) l = meets_none_at ps n d.0 i v (omega arith)
  meets_none (Schema.choice ps adds ext) (suc n) d (alternative added i v) l = meets_none_at adds n d.1 i v (omega arith)
  meets_none (Schema.choice ps adds ext) (suc n) d _ l = refl
  meets_none _ n d v l = refl

  slots_meet_none : (ps : Parts) (n : ℕ) → DeepParts n ps → (ss : Slots) → levels_of_slots ss < n → slots_meet_cut ps (slots ss) ≡ false
  slots_meet_none no_parts n d ss l = refl
  slots_meet_none (part t p s ps) n d ss l = slots_below (meets_cut s) (slots_meet_cut ps) n (meets_none s n d.0) (slots_meet_none ps n d.1) ss l

  meets_none_at : (ps : Parts) (n : ℕ) → DeepParts n ps → (i : ℕ) (v : Value) → levels_of v < n → meets_cut_at ps i v ≡ false
  meets_none_at no_parts n d i v l = refl
  meets_none_at (part t p s ps) n d zero v l = meets_none s n d.0 v l
  meets_none_at (part t p s ps) n d (suc i) v l = meets_none_at ps n d.1 i v l

pub meets_no_cut : (n : ℕ) (s : Schema) (v : Value) → Deep n s → levels_of v < n → meets_cut s v ≡ false
meets_no_cut n s v d l = meets_none s n d v l

-- a family of trees, each the next one cut off, of which some are as deep as one likes
pub deep_family_unfolds : (T : ℕ → Schema) → ((n : ℕ) → CutOf (T n) (T (suc n))) → ((n : ℕ) → (m : ℕ) × Deep n (T m)) → Unfolds T
deep_family_unfolds T g d = record {
  grows = g;
  holds = λ v. let h = d (suc (levels_of v)) in (h.0, meets_none (T h.0) (suc (levels_of v)) h.1 v (omega arith));
}

-- every tree is no level deep
nothing_deep : (s : Schema) → Deep 0 s
nothing_deep Schema.cut = tt
nothing_deep (Schema.containing e) = nothing_deep e
nothing_deep (Schema.list e size mark) = tt
nothing_deep (Schema.set_of e size mark) = tt
nothing_deep (Schema.sequence o ps ext adds) = tt
nothing_deep (Schema.choice ps adds ext) = tt
nothing_deep _ = tt

-- a deeper tree is as deep
below : (f g : ℕ → Type 0) → ((n : ℕ) → f n → g n) → (n : ℕ) → Below f n → Below g n
below f g h zero x = tt
below f g h (suc n) x = h n x

mutual
  as_deep : {s t : Schema} → CutOf s t → (n : ℕ) → Deep n s → Deep n t
  as_deep (cut_here {t = t}) zero d = nothing_deep t
  as_deep cut_here (suc n) d = absurd d
  as_deep (alike h) n d = d
  as_deep (cut_containing c) n d = as_deep c n d
  as_deep (cut_list {s = s} {t = t} c) n d = below (λ m. Deep m s) (λ m. Deep m t) (as_deep c) n d
  as_deep (cut_set_of {s = s} {t = t} c) n d = below (λ m. Deep m s) (λ m. Deep m t) (as_deep c) n d
  as_deep (cut_sequence {ps = ps} {qs = qs} {adds = adds} {bdds = bdds} c d) n e =
      below (λ m. DeepParts m ps × DeepParts m adds) (λ m. DeepParts m qs × DeepParts m bdds) (λ m x. (parts_as_deep c m x.0, parts_as_deep d m x.1)) n e
  as_deep (cut_choice {ps = ps} {qs = qs} {adds = adds} {bdds = bdds} c d) n e =
      below (λ m. DeepParts m ps × DeepParts m adds) (λ m. DeepParts m qs × DeepParts m bdds) (λ m x. (parts_as_deep c m x.0, parts_as_deep d m x.1)) n e

  parts_as_deep : {ps qs : Parts} → CutParts ps qs → (n : ℕ) → DeepParts n ps → DeepParts n qs
  parts_as_deep no_cut n d = d
  parts_as_deep (cut_part c cs) n d = (as_deep c n d.0, parts_as_deep cs n d.1)

pub deeper_is_deep : (n : ℕ) (s t : Schema) → CutOf s t → Deep n s → Deep n t
deeper_is_deep n s t c d = as_deep c n d
