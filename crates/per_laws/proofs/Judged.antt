-- What a judgement lets pass is whole and lawful, and so is each tree of which some branches are cut off.
use Rattle.std.proofs.Common.{◌≡◌, refl, sym, ap, ◌∙◌, ap₂, subst, ℕ, zero, suc, ◌+◌, Bool, true, false, ltb, ◌&&◌, [], ◌∷◌, ◌++◌, arith, Some, None}
use Rattle.rasn_types.specs.Values.{Value, elements, bag, bag_of, fields, alternative, root, added, values, slots, same}
use Rattle.rasn_constraints.specs.LawfulConstraints.{are_lawful_bounds, is_lawful_size}
use Rattle.rasn_schema.specs.Depth.{CutOf, CutParts, cut_here, alike, cut_containing, cut_list, cut_set_of, cut_sequence, cut_choice, no_cut, cut_part, any_of, meets_cut, slots_meet_cut, meets_cut_at}
use Rattle.rasn_schema.specs.Lawful.{IsLawfulDefault, leaves, are_distinct, are_lawful_tags, are_required}
use Rattle.rasn_schema.specs.Lawful.{is_group_schema, is_value, are_values, is_value_at, no_groups, tags_below}
use Rattle.rasn_schema.specs.Lawful.{all_pass, is_countable, if_bag, slot_passes, IsLawful, AreLawful, IsLawfulPresence}
use Rattle.rasn_schema.specs.Lawful.{IsLawfulRecord, IsLawfulChoice, IsLawfulType}
use Rattle.rasn_schema.specs.Structures.{has_bit, presence_bits}
use Rattle.rasn_schema.specs.Levels.{Levelled}
use Rattle.rasn_schema.specs.Normal.{normal}
use Rattle.rasn_schema.specs.Schemas.{Presence, required, optional, group, default, Order, listed, by_tag, Schema, Parts, no_parts, part}
use Rattle.rasn_types.proofs.Codes.{same_true}
use Rattle.per_core.proofs.LengthForms.{and_left, and_right, or_left, or_right}
use Rattle.per_laws.proofs.Types.{less_cut}
use Rattle.per_laws.proofs.Levelled.{levelled_type_unfolds, levels_up_to, to_cut}
use Rattle.per_laws.proofs.NormalForms.{normal_alike}
use Rattle.per_laws.specs.Sameness.{is_whole, are_whole}
use Rattle.per_laws.specs.Judged.{is_good_default, are_told_apart, judge_presence, judge_tags, judge_record, judge_choice, judge, judge_parts, judgement}
use Rattle.per_laws.specs.Verdicts.{allowed, bad_bounds, bad_size, root_group, bad_group, many_bits, repeated_tag, bad_alternative, bad_default, no_end, in_contents, in_element, in_root, in_additions, at_place, both, unless, within}
use Rattle.per_laws.proofs.Sameness.{whole_stays}
use Rattle.per_laws.proofs.Verdicts.{passed, both_allowed, within_allowed}

and_both : (a b : Bool) → a ≡ true → b ≡ true → (a && b) ≡ true
and_both a b e f = ap₂ (λ x y. x && y) e f

-- what passes the judgement is lawful
default_lawful : (s : Schema) (d : Value) → is_good_default s d ≡ true → IsLawfulDefault s d
unfolding is_good_default
default_lawful s d e = record {
  is_of_kind = λ m. and_left (is_value s d) (same (normal s d) d) e;
  is_normal = λ m. same_true (normal s d) d (and_right (is_value s d) (same (normal s d) d) e);
}

told_apart : (ps adds : Parts) → are_told_apart ps adds ≡ true → are_distinct (tags_below ps ++ tags_below adds) ≡ true
unfolding are_told_apart
told_apart ps adds e = e

tags_lawful : (o : Order) (ps adds : Parts) → judge_tags o ps adds ≡ allowed → are_lawful_tags o ps adds ≡ true
tags_lawful listed ps adds h = refl
tags_lawful by_tag ps adds h = told_apart ps adds (passed (are_told_apart ps adds) repeated_tag allowed refl h).0

presence_lawful : (p : Presence) (s : Schema) → judge_presence s p ≡ allowed → IsLawfulPresence s p
presence_lawful required s h = tt
presence_lawful optional s h = tt
presence_lawful group s h = (passed (is_group_schema s) bad_group allowed refl h).0
presence_lawful (default d) s h =
    let a = passed (is_whole s) no_end (unless (is_good_default s d) bad_default allowed) refl h in
    default_lawful s d (passed (is_good_default s d) bad_default allowed refl a.1).0

pub record_lawful : (o : Order) (ps adds : Parts) → judge_record o ps adds ≡ allowed → IsLawfulRecord o ps adds
record_lawful o ps adds h =
    let bits : Bool = ltb (presence_bits ps) 65536 in
    let a = passed (no_groups ps) root_group (unless bits many_bits (judge_tags o ps adds)) refl h in
    let b = passed bits many_bits (judge_tags o ps adds) refl a.1 in
    record { root_groups = a.0; few_bits = b.0; lawful_tags = tags_lawful o ps adds b.1 }

pub choice_lawful : (ps adds : Parts) → judge_choice ps adds ≡ allowed → IsLawfulChoice ps adds
choice_lawful ps adds h =
    let a = passed (are_required ps && are_required adds) bad_alternative (unless (are_told_apart ps adds) repeated_tag allowed) refl h in
    let b = passed (are_told_apart ps adds) repeated_tag allowed refl a.1 in
    record { all_required = a.0; distinct_tags = told_apart ps adds b.0 }

mutual
  unfolding IsLawful

  pub judged_is_lawful : (s : Schema) → judge s ≡ allowed → IsLawful s × (is_whole s ≡ true)
  judged_is_lawful Schema.cut h = absurd (cc)
  judged_is_lawful (Schema.number b m r) h = ((passed (are_lawful_bounds b.low b.high) bad_bounds allowed refl h).0, refl)
  judged_is_lawful (Schema.octet_string z m) h = ((passed (is_lawful_size z.least z.most) bad_size allowed refl h).0, refl)
  judged_is_lawful (Schema.bit_string z m n) h = ((passed (is_lawful_size z.least z.most) bad_size allowed refl h).0, refl)
  judged_is_lawful (Schema.char_string cs z m) h = ((passed (is_lawful_size z.least z.most) bad_size allowed refl h).0, refl)
  judged_is_lawful (Schema.containing e) h = judged_is_lawful e (within_allowed in_contents (judge e) (λ v. refl) h)
  judged_is_lawful (Schema.list e z m) h =
      let a = passed (is_lawful_size z.least z.most) bad_size (within in_element (judge e)) refl h in
      let b = judged_is_lawful e (within_allowed in_element (judge e) (λ v. refl) a.1) in
      ((a.0, b.0), b.1)
  judged_is_lawful (Schema.set_of e z m) h =
      let a = passed (is_lawful_size z.least z.most) bad_size (within in_element (judge e)) refl h in
      let b = judged_is_lawful e (within_allowed in_element (judge e) (λ v. refl) a.1) in
      ((a.0, b.0), b.1)
  judged_is_lawful (Schema.sequence o ps x adds) h =
      let a = both_allowed (judge_record o ps adds) (both (within in_root (judge_parts 0 ps)) (within in_additions (judge_parts 0 adds))) h in
      let b = both_allowed (within in_root (judge_parts 0 ps)) (within in_additions (judge_parts 0 adds)) a.1 in
      let r = judged_are_lawful 0 ps (within_allowed in_root (judge_parts 0 ps) (λ v. refl) b.0) in
      let q = judged_are_lawful 0 adds (within_allowed in_additions (judge_parts 0 adds) (λ v. refl) b.1) in
      ((record_lawful o ps adds a.0, r.0, q.0), and_both (are_whole ps) (are_whole adds) r.1 q.1)
  judged_is_lawful (Schema.choice ps adds x) h =
      let a = both_allowed (judge_choice ps adds) (both (within in_root (judge_parts 0 ps)) (within in_additions (judge_parts 0 adds))) h in
      let b = both_allowed (within in_root (judge_parts 0 ps)) (within in_additions (judge_parts 0 adds)) a.1 in
      let r = judged_are_lawful 0 ps (within_allowed in_root (judge_parts 0 ps) (λ v. refl) b.0) in
      let q = judged_are_lawful 0 adds (within_allowed in_additions (judge_parts 0 adds) (λ v. refl) b.1) in
      ((choice_lawful ps adds a.0, r.0, q.0), and_both (are_whole ps) (are_whole adds) r.1 q.1)
  judged_is_lawful _ h = (tt, refl)

  judged_are_lawful : (i : ℕ) (ps : Parts) → judge_parts i ps ≡ allowed → AreLawful ps × (are_whole ps ≡ true)
  judged_are_lawful i no_parts h = (tt, refl)
  judged_are_lawful i (part t p s ps) h =
      let a = both_allowed (within (at_place i) (both (judge s) (judge_presence s p))) (judge_parts (suc i) ps) h in
      let b = both_allowed (judge s) (judge_presence s p) (within_allowed (at_place i) (both (judge s) (judge_presence s p)) (λ v. refl) a.0) in
      let r = judged_is_lawful s b.0 in
      let q = judged_are_lawful (suc i) ps a.1 in
      ((presence_lawful p s b.1, r.0, q.0), and_both (is_whole s) (are_whole ps) r.1 q.1)

-- a value that meets no branch that is cut off is a value of the tree that is cut off
abbrev Cut : {X : Type 0} → (X → Bool) → (X → Bool) → (X → Bool) → Type 0
Cut {X} f g K = (v : X) → f v ≡ true → K v ≡ false → g v ≡ true

all_cut : (f g K : Value → Bool) → Cut f g K → Cut (all_pass f) (all_pass g) (any_of K)
all_cut f g K r [] e m = refl
all_cut f g K r (v ∷ vs) e m =
    and_both (g v) (all_pass g vs) (r v (and_left (f v) (all_pass f vs) e) (or_left (K v) (any_of K vs) m))
    (all_cut f g K r vs (and_right (f v) (all_pass f vs) e) (or_right (K v) (any_of K vs) m))

slot_none : (p : Presence) (f g : Value → Bool) (a b : Bool) → (slot_passes p g None && b) ≡ true → (b ≡ true → a ≡ true) → (slot_passes p f None && a) ≡ true
slot_none required f g a b e k = absurd (cc)
slot_none optional f g a b e k = k e
slot_none group f g a b e k = k e
slot_none (default d) f g a b e k = absurd (cc)

mutual
  unfolding is_value if_bag meets_cut

  value_cut : {s t : Schema} → CutOf s t → Cut (is_value t) (is_value s) (meets_cut s)
  value_cut cut_here v e m = absurd (cc)
  value_cut (alike h) v e m = e
  value_cut (cut_containing c) v e m = value_cut c v e m
  value_cut (cut_list {s = s} {t = t} c) (elements vs) e m =
      and_both (is_countable (values vs)) (all_pass (is_value s) (values vs)) (and_left (is_countable (values vs)) (all_pass (is_value t) (values vs)) e)
      (all_cut (is_value t) (is_value s) (meets_cut s) (value_cut c) (values vs) (and_right (is_countable (values vs)) (all_pass (is_value t) (values vs)) e) m)
  value_cut (cut_list c) _ e m = absurd (cc)
  value_cut (cut_set_of {s = s} {t = t} c) (bag vs) e m =
      let sort : Bool = same (bag_of (values vs)) (bag vs) in
      let a : (all_pass (is_value t) (values vs) && sort) ≡ true = and_right (is_countable (values vs)) (all_pass (is_value t) (values vs) && sort) e in
      and_both (is_countable (values vs)) (all_pass (is_value s) (values vs) && sort) (and_left (is_countable (values vs)) (all_pass (is_value t) (values vs) && sort) e)
      (and_both (all_pass (is_value s) (values vs)) sort (all_cut (is_value t) (is_value s) (meets_cut s) (value_cut c) (values vs) (and_left (all_pass (is_value t) (values vs)) sort a) m)
      (and_right (all_pass (is_value t) (values vs)) sort a))
  value_cut (cut_set_of c) _ e m = absurd (cc)
  value_cut (cut_sequence {ps = ps} {qs = qs} {adds = adds} {bdds = bdds} c d) (fields r x) e m =
      and_both (are_values ps (slots r)) (are_values adds (slots x))
      (slots_cut c (slots r) (and_left (are_values qs (slots r)) (are_values bdds (slots x)) e) (or_left (slots_meet_cut ps (slots r)) (slots_meet_cut adds (slots x)) m))
      (slots_cut d (slots x) (and_right (are_values qs (slots r)) (are_values bdds (slots x)) e) (or_right (slots_meet_cut ps (slots r)) (slots_meet_cut adds (slots x)) m))
  value_cut (cut_sequence c d) _ e m = absurd (cc)
  value_cut (cut_choice c d) (alternative root i v) e m = place_cut c i v e m
  value_cut (cut_choice c d) (alternative added i v) e m = place_cut d i v e m
  value_cut (cut_choice c d) _ e m = absurd (cc)

  slots_cut : {ps qs : Parts} → CutParts ps qs → Cut (are_values qs) (are_values ps) (slots_meet_cut ps)
  slots_cut no_cut xs e m = e
  slots_cut (cut_part c cs) [] e m = absurd (cc)
  slots_cut (cut_part {p = p} {s = s} {s' = t} {ps = ps} {ps' = qs} c cs) (None ∷ xs) e m =
      slot_none p (is_value s) (is_value t) (are_values ps xs) (are_values qs xs) e (λ k. slots_cut cs xs k m)
  slots_cut (cut_part {p = p} {s = s} {s' = t} {ps = ps} {ps' = qs} c cs) (Some v ∷ xs) e m =
      and_both (is_value s v) (are_values ps xs) (value_cut c v (and_left (is_value t v) (are_values qs xs) e) (or_left (meets_cut s v) (slots_meet_cut ps xs) m))
      (slots_cut cs xs (and_right (is_value t v) (are_values qs xs) e) (or_right (meets_cut s v) (slots_meet_cut ps xs) m))

  place_cut : {ps qs : Parts} → CutParts ps qs → (i : ℕ) → Cut (is_value_at qs i) (is_value_at ps i) (meets_cut_at ps i)
  place_cut no_cut i v e m = absurd (cc)
  place_cut (cut_part c cs) zero v e m = value_cut c v e m
  place_cut (cut_part c cs) (suc i) v e m = place_cut cs i v e m

-- what a record's or a choice's demands look at is the same
groups_cut : {ps qs : Parts} → CutParts ps qs → no_groups ps ≡ no_groups qs
groups_cut no_cut = refl
groups_cut (cut_part {p = required} c cs) = groups_cut cs
groups_cut (cut_part {p = optional} c cs) = groups_cut cs
groups_cut (cut_part {p = group} c cs) = refl
groups_cut (cut_part {p = default d} c cs) = groups_cut cs

bits_cut : {ps qs : Parts} → CutParts ps qs → presence_bits ps ≡ presence_bits qs
bits_cut no_cut = refl
bits_cut (cut_part {p = p} c cs) = ap (λ n. has_bit p + n) (bits_cut cs)

tags_cut : {ps qs : Parts} → CutParts ps qs → tags_below ps ≡ tags_below qs
tags_cut no_cut = refl
tags_cut (cut_part {t = t} {p = required} c cs) = ap (λ us. leaves t ++ us) (tags_cut cs)
tags_cut (cut_part {t = t} {p = optional} c cs) = ap (λ us. leaves t ++ us) (tags_cut cs)
tags_cut (cut_part {p = group} c cs) = tags_cut cs
tags_cut (cut_part {t = t} {p = default d} c cs) = ap (λ us. leaves t ++ us) (tags_cut cs)

required_cut : {ps qs : Parts} → CutParts ps qs → are_required ps ≡ are_required qs
required_cut no_cut = refl
required_cut (cut_part {p = required} c cs) = required_cut cs
required_cut (cut_part {p = optional} c cs) = refl
required_cut (cut_part {p = group} c cs) = refl
required_cut (cut_part {p = default d} c cs) = refl

record_cut : {ps qs adds bdds : Parts} (o : Order) → CutParts ps qs → CutParts adds bdds → are_lawful_tags o ps adds ≡ are_lawful_tags o qs bdds
record_cut listed c d = refl
record_cut by_tag c d = ap are_distinct (ap₂ (λ us vs. us ++ vs) (tags_cut c) (tags_cut d))

group_cut : {s t : Schema} → CutOf s t → is_group_schema t ≡ true → is_group_schema s ≡ true
group_cut cut_here e = refl
group_cut (alike h) e = e
group_cut (cut_containing c) e = absurd (cc)
group_cut (cut_list c) e = absurd (cc)
group_cut (cut_set_of c) e = absurd (cc)
group_cut (cut_sequence {o = listed} c d) e = refl
group_cut (cut_sequence {o = by_tag} c d) e = absurd (cc)
group_cut (cut_choice c d) e = absurd (cc)

presence_cut : (p : Presence) {s t : Schema} → CutOf s t → IsLawfulPresence t p → IsLawfulPresence s p
presence_cut required c h = tt
presence_cut optional c h = tt
presence_cut group c h = group_cut c h
presence_cut (default d) c h = record {
  is_of_kind = λ m. value_cut c d (h.is_of_kind (less_cut c d m)) m;
  is_normal = λ m. normal_alike c d m ∙ h.is_normal (less_cut c d m);
}

-- a lawful schema of which branches are cut off is lawful
mutual
  unfolding IsLawful

  pub lawful_cut : {s t : Schema} → CutOf s t → IsLawful t → IsLawful s
  lawful_cut cut_here h = tt
  lawful_cut (alike i) h = h
  lawful_cut (cut_containing c) h = lawful_cut c h
  lawful_cut (cut_list c) h = (h.0, lawful_cut c h.1)
  lawful_cut (cut_set_of c) h = (h.0, lawful_cut c h.1)
  lawful_cut (cut_sequence {o = o} c d) h = (
    record {
      root_groups = groups_cut c ∙ h.0.root_groups;
      few_bits = ap (λ (n : ℕ). ltb n 65536) (bits_cut c) ∙ h.0.few_bits;
      lawful_tags = record_cut o c d ∙ h.0.lawful_tags;
    },
    lawful_parts c h.1,
    lawful_parts d h.2,
  )
  lawful_cut (cut_choice c d) h = (
    record {
      all_required = ap₂ (λ a b. a && b) (required_cut c) (required_cut d) ∙ h.0.all_required;
      distinct_tags = ap are_distinct (ap₂ (λ us vs. us ++ vs) (tags_cut c) (tags_cut d)) ∙ h.0.distinct_tags;
    },
    lawful_parts c h.1,
    lawful_parts d h.2,
  )

  lawful_parts : {ps qs : Parts} → CutParts ps qs → AreLawful qs → AreLawful ps
  lawful_parts no_cut h = tt
  lawful_parts (cut_part {p = p} c cs) h = (presence_cut p c h.0, lawful_cut c h.1, lawful_parts cs h.2)

-- types that pass a judgement of their tree of 128 levels
pub judged_type : (T : ℕ → Schema) → Levelled T → judgement T ≡ allowed → IsLawfulType T
judged_type T g e = record {
  unfolds = levelled_type_unfolds T g;
  lawful = λ n.
      let m : ℕ = 128 + n in
      let j = judged_is_lawful (T 128) e in
      let whole : T m ≡ T 128 = whole_stays (levels_up_to T g 128 m (omega arith)) j.1 in
      let deep : IsLawful (T m) = subst IsLawful (sym whole) j.0 in
      lawful_cut (to_cut (levels_up_to T g n m (omega arith))) deep;
}
