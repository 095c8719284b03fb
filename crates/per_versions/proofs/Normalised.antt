-- Of a lawful type nothing that is written of a value's normal form lies deeper than what is written of the value.
use Rattle.std.proofs.Common.{◌≡◌, refl, sym, ap, ◌∙◌, ap₂, subst, ℕ, zero, suc, ◌+◌, Bool, true, false, cond, not, ◌&&◌, ◌||◌, List, [], ◌∷◌, map, Option, Some, None, inl, inr, arith}
use Rattle.rasn_types.specs.Values.{Value, code, before, sorted, same, elements, bag, bag_of, fields, alternative, root, added, values, slots}
use Rattle.rasn_types.proofs.Values.{slots-as_slots, values-as_values}
use Rattle.rasn_schema.specs.Depth.{IsLeaf, any_of, in_alternative, in_elements, in_fields, in_slots, meets_cut, slots_meet_cut, meets_cut_at, CutOf, CutParts, cut_here, alike, cut_containing, cut_list, cut_set_of, cut_sequence, cut_choice, no_cut, cut_part}
use Rattle.rasn_schema.specs.Lawful.{AreLawful, IsLawful, IsLawfulPresence}
use Rattle.rasn_schema.specs.Levels.{Levelled}
use Rattle.rasn_schema.specs.Normal.{is_vacant, settle, each_slot, over_elements, over_bag, over_fields, over_alternative, normal, normals, normal_at}
use Rattle.rasn_schema.specs.Schemas.{Presence, required, optional, group, default, Schema, Parts}
use Rattle.per_core.specs.Basic.{fills, read}
use Rattle.per_core.specs.Spellings.{Settings}
use Rattle.rasn_types.proofs.Codes.{same_true}
use Rattle.per_core.proofs.LengthForms.{or_left, or_right}
use Rattle.per_laws.proofs.Transitive.{or_both}
use Rattle.per_laws.proofs.Types.{up_to}
use Rattle.per_laws.specs.Written.{is_written, writes_cut, slots_write_cut, writes_cut_at}
use Rattle.per_laws.proofs.Depths.{own_test, spelled_whole}
use Rattle.per_laws.proofs.VersionsAt128Levels.{levelled_holds}
use Rattle.per_laws.proofs.Levelled.{levelled_type_unfolds}
use Rattle.per_laws.proofs.Reading.{any_sorted, same_self}
use Rattle.per_versions.specs.Readings.{depth_of, normal_form, IsInReach}
use Rattle.per_versions.proofs.Depths as Own

-- where one test is false, another one stays so
abbrev pub Low : {X : Type 0} → (X → Bool) → (X → Bool) → (X → X) → Type 0
Low {X} K M g = (v : X) → M v ≡ false → K v ≡ false → K (g v) ≡ false

all_low : (K M : Value → Bool) (g : Value → Value) → Low K M g → (vs : List Value) → any_of M vs ≡ false → any_of K vs ≡ false → any_of K (map g vs) ≡ false
all_low K M g h [] m e = refl
all_low K M g h (v ∷ vs) m e = or_both (K (g v)) (any_of K (map g vs)) (h v (or_left (M v) (any_of M vs) m) (or_left (K v) (any_of K vs) e))
    (all_low K M g h vs (or_right (M v) (any_of M vs) m) (or_right (K v) (any_of K vs) e))

pub elements_low : (K M : Value → Bool) (g : Value → Value) → Low K M g → Low (in_elements K) (in_elements M) (over_elements g)
elements_low K M g h (elements vs) m e = ap (any_of K) (values-as_values (map g (values vs))) ∙ all_low K M g h (values vs) m e
elements_low K M g h _ m e = e

pub bags_low : (K M : Value → Bool) (g : Value → Value) → Low K M g → Low (in_elements K) (in_elements M) (over_bag g)
unfolding over_bag bag_of
bags_low K M g h (bag vs) m e =
    ap (any_of K) (values-as_values (sorted (λ v w. before (code v) (code w)) (map g (values vs))))
    ∙ any_sorted (λ v w. before (code v) (code w)) K (map g (values vs)) (all_low K M g h (values vs) m e)
bags_low K M g h _ m e = e

pub fields_low : (K M : List (Option Value) → Bool) (g : List (Option Value) → List (Option Value)) (K' M' : List (Option Value) → Bool) (g' : List (Option Value) → List (Option Value)) →
    Low K M g → Low K' M' g' → Low (in_fields K K') (in_fields M M') (over_fields g g')
fields_low K M g K' M' g' h h' (fields r x) m e =
    ap₂ (λ l k. K l || K' k) (slots-as_slots (g (slots r))) (slots-as_slots (g' (slots x)))
    ∙ or_both (K (g (slots r))) (K' (g' (slots x))) (h (slots r) (or_left (M (slots r)) (M' (slots x)) m) (or_left (K (slots r)) (K' (slots x)) e))
    (h' (slots x) (or_right (M (slots r)) (M' (slots x)) m) (or_right (K (slots r)) (K' (slots x)) e))
fields_low K M g K' M' g' h h' _ m e = e

pub alternative_low : (K M : ℕ → Value → Bool) (g : ℕ → Value → Value) (K' M' : ℕ → Value → Bool) (g' : ℕ → Value → Value) →
    ((i : ℕ) → Low (K i) (M i) (g i)) → ((i : ℕ) → Low (K' i) (M' i) (g' i)) → Low (in_alternative K K') (in_alternative M M') (over_alternative g g')
alternative_low K M g K' M' g' h h' (alternative root i v) m e = h i v m e
alternative_low K M g K' M' g' h h' (alternative added i v) m e = h' i v m e
alternative_low K M g K' M' g' h h' _ m e = e

-- one slot
abbrev pub in_slot : (Value → Bool) → Option Value → Bool
in_slot f None = false
in_slot f (Some v) = f v

pub first_slot : (f : Value → Bool) (g : List (Option Value) → Bool) (x : Option Value) (xs : List (Option Value)) → in_slot f x ≡ false → g xs ≡ false → in_slots f g (x ∷ xs) ≡ false
first_slot f g None xs e h = h
first_slot f g (Some v) xs e h = or_both (f v) (g xs) e h

and_off : (b : Bool) → (b && false) ≡ false
and_off true = refl
and_off false = refl

settled_low : (p : Presence) (s t : Schema) → IsLawfulPresence t p → Low (writes_cut s t) (meets_cut t) (normal t) → (v : Value) → meets_cut t v ≡ false → (is_written p v && writes_cut s t v) ≡ false →
    in_slot (λ w. is_written p w && writes_cut s t w) (settle p t (normal t v)) ≡ false
unfolding settle
settled_low required s t l h v m e = h v m e
settled_low optional s t l h v m e = h v m e
settled_low group s t l h v m e = go (is_vacant t (normal t v))
  where
    go : (b : Bool) → in_slot (λ w. is_written group w && writes_cut s t w) (cond b None (Some (normal t v))) ≡ false
    go true = refl
    go false = h v m e
settled_low (default d) s t l h v m e = go (same v d) refl
  where
    go : (b : Bool) → same v d ≡ b → (not (same (normal t v) d) && writes_cut s t (normal t v)) ≡ false
    go true i =
        let j = same_true v d i in
        let k : normal t v ≡ d = ap (normal t) j ∙ l.is_normal (subst (λ z. meets_cut t z ≡ false) j m) in
        ap (λ b. not b && writes_cut s t (normal t v)) (ap (λ z. same z d) k ∙ same_self d)
    go false i =
        let f : writes_cut s t v ≡ false = ap (λ b. not b && writes_cut s t v) (sym i) ∙ e in
        ap (λ b. not (same (normal t v) d) && b) (h v m f) ∙ and_off (not (same (normal t v) d))

slots_low : (p : Presence) (s t : Schema) (K M : List (Option Value) → Bool) (g : List (Option Value) → List (Option Value)) → IsLawfulPresence t p → Low (writes_cut s t) (meets_cut t) (normal t) → Low K M g →
    Low (in_slots (λ v. is_written p v && writes_cut s t v) K) (in_slots (meets_cut t) M) (each_slot (λ v. settle p t (normal t v)) g)
slots_low p s t K M g l h h' [] m e = refl
slots_low p s t K M g l h h' (None ∷ xs) m e = h' xs m e
slots_low p s t K M g l h h' (Some v ∷ xs) m e =
    first_slot (λ w. is_written p w && writes_cut s t w) K (settle p t (normal t v)) (g xs)
    (settled_low p s t l h v (or_left (meets_cut t v) (M xs) m) (or_left (is_written p v && writes_cut s t v) (K xs) e))
    (h' xs (or_right (meets_cut t v) (M xs) m) (or_right (is_written p v && writes_cut s t v) (K xs) e))

leaf_low : (s : Schema) → IsLeaf s → Low (writes_cut s s) (meets_cut s) (normal s)
unfolding normal writes_cut
leaf_low (Schema.containing e) h = absurd h
leaf_low (Schema.list e size mark) h = absurd h
leaf_low (Schema.set_of e size mark) h = absurd h
leaf_low (Schema.sequence o ps ext adds) h = absurd h
leaf_low (Schema.choice ps adds ext) h = absurd h
leaf_low (Schema.bit_string size mark named) h = λ v m e. refl
leaf_low _ h = λ v m e. e

mutual
  unfolding writes_cut meets_cut normal IsLawful

  low : {s t : Schema} → CutOf s t → IsLawful t → Low (writes_cut s t) (meets_cut t) (normal t)
  low cut_here l = λ v m e. absurd (cc)
  low (alike {s = s} h) l = leaf_low s h
  low (cut_containing c) l = low c l
  low (cut_list {s = s} {t = t} c) l = elements_low (writes_cut s t) (meets_cut t) (normal t) (low c l.1)
  low (cut_set_of {s = s} {t = t} c) l = bags_low (writes_cut s t) (meets_cut t) (normal t) (low c l.1)
  low (cut_sequence {ps = ps} {qs = qs} {adds = adds} {bdds = bdds} c d) l =
      fields_low (slots_write_cut ps qs) (slots_meet_cut qs) (normals qs) (slots_write_cut adds bdds) (slots_meet_cut bdds) (normals bdds) (parts_low c l.1) (parts_low d l.2)
  low (cut_choice {ps = ps} {qs = qs} {adds = adds} {bdds = bdds} c d) l =
      alternative_low (writes_cut_at ps qs) (meets_cut_at qs) (normal_at qs) (writes_cut_at adds bdds) (meets_cut_at bdds) (normal_at bdds) (at_low c l.1) (at_low d l.2)

  parts_low : {ps qs : Parts} → CutParts ps qs → AreLawful qs → Low (slots_write_cut ps qs) (slots_meet_cut qs) (normals qs)
  parts_low no_cut l = λ xs m e. refl
  parts_low (cut_part {p = p} {s = s} {s' = s'} {ps = ps} {ps' = ps'} c cs) l = slots_low p s s' (slots_write_cut ps ps') (slots_meet_cut ps') (normals ps') l.0 (low c l.1) (parts_low cs l.2)

  at_low : {ps qs : Parts} → CutParts ps qs → AreLawful qs → (i : ℕ) → Low (writes_cut_at ps qs i) (meets_cut_at qs i) (normal_at qs i)
  at_low no_cut l i = λ v m e. e
  at_low (cut_part c cs) l zero = low c l.1
  at_low (cut_part c cs) l (suc i) = at_low cs l.2 i

-- so what was read within 128 levels is in reach once it is in normal form
pub stays_in_reach : (a : Settings) (T : ℕ → Schema) → Levelled T → ((n : ℕ) → IsLawful (T n)) → (v : Value) (os : List ℕ) → read a T v os → IsInReach T T (normal_form T v)
stays_in_reach a T g l v os r =
    ap (λ K. K (normal_form T v)) (sym (own_test c)) ∙ ap (writes_cut (T 128) (T n)) (sym (Own.normal_at T g v n (omega arith)))
    ∙ low c (l n) v (levelled_holds T g v n (omega arith)) (whole r)
  where
    n : ℕ
    n = depth_of v + 128

    c : CutOf (T 128) (T n)
    c = up_to T (levelled_type_unfolds T g) 128 n (omega arith)

    whole : fills a (T 128) v os → writes_cut (T 128) (T n) v ≡ false
    whole (inl x) = spelled_whole a c v 0 x.front x.spelled
    whole (inr x) = spelled_whole a c v 0 [] x.0
