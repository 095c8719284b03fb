-- Values of at most 128 levels, between versions of a type: depth plays no part.
use Rattle.std.proofs.Common.{◌≡◌, refl, ℕ, zero, suc, ◌+◌, ◌≤◌, Bool, true, false, ◌&&◌, List, [], ◌∷◌, arith, Option, Some, None}
use Rattle.rasn_types.specs.Values.{Value}
use Rattle.rasn_schema.specs.Schemas.{Schema, Parts}
use Rattle.rasn_schema.specs.Depth.{meets_cut}
use Rattle.per_core.specs.Spellings.{Settings}
use Rattle.per_core.specs.Canon.{bytes}
use Rattle.per_core.specs.Basic.{read}
use Rattle.per_core.specs.Versions.{project, widen, Newer, NewerParts, unchanged, more_items, newer_containing, newer_list, newer_set_of, newer_sequence, newer_choice, no_more, more_parts, also, NewerType}
use Rattle.per_core.proofs.LengthForms.{or_left, or_right}
use Rattle.per_laws.proofs.Transitive.{or_both}
use Rattle.per_laws.proofs.Types.{elements_less, fields_less, alternative_less}
use Rattle.rasn_schema.specs.Levels.{Levelled}
use Rattle.per_laws.specs.Levels.{levels_of}
use Rattle.per_laws.specs.Written.{is_written, writes_cut, slots_write_cut, writes_cut_at}
use Rattle.per_laws.proofs.ShallowValues.{meets_none}
use Rattle.per_laws.proofs.Depths.{bytes_whole}
use Rattle.per_laws.proofs.Levelled.{levels_deep, levelled_type_unfolds, few_levels_suffice}
use Rattle.per_laws.proofs.Peers.{older_type_reads, newer_type_reads}

and_less : (a b c : Bool) → (b ≡ false → c ≡ false) → (a && b) ≡ false → (a && c) ≡ false
and_less true b c h m = h m
and_less false b c h m = refl

-- the trees of an older and a newer type are cut off at the same places
mutual
  unfolding writes_cut

  pub older_less : {t s : Schema} → Newer t s → (v : Value) → writes_cut t t v ≡ false → writes_cut s t v ≡ false
  older_less (unchanged h) v m = m
  older_less (more_items h) v m = refl
  older_less (newer_containing n) v m = older_less n v m
  older_less (newer_list {e = s} {e' = t} n) v m = elements_less (writes_cut t t) (writes_cut s t) (older_less n) v m
  older_less (newer_set_of {e = s} {e' = t} n) v m = elements_less (writes_cut t t) (writes_cut s t) (older_less n) v m
  older_less (newer_sequence {ps = ss} {ps' = ts} {adds = sds} {adds' = tds} n ns) v m = fields_less (slots_write_cut ts ts) (slots_write_cut ss ts) (slots_write_cut tds tds) (slots_write_cut sds tds) (older_slots n) (older_slots ns) v m
  older_less (newer_choice {ps = ss} {ps' = ts} {adds = sds} {adds' = tds} n ns) v m = alternative_less (writes_cut_at ts ts) (writes_cut_at ss ts) (writes_cut_at tds tds) (writes_cut_at sds tds) (older_at n) (older_at ns) v m

  older_slots : {may : Bool} {ts ss : Parts} → NewerParts may ts ss → (xs : List (Option Value)) → slots_write_cut ts ts xs ≡ false → slots_write_cut ss ts xs ≡ false
  older_slots no_more xs m = refl
  older_slots more_parts xs m = refl
  older_slots (also h n ns) [] m = refl
  older_slots (also h n ns) (None ∷ xs) m = older_slots ns xs m
  older_slots (also {p' = p} {s = s} {s' = t} {ps = ss} {ps' = ts} h n ns) (Some v ∷ xs) m = or_both (is_written p v && writes_cut s t v) (slots_write_cut ss ts xs)
      (and_less (is_written p v) (writes_cut t t v) (writes_cut s t v) (older_less n v) (or_left (is_written p v && writes_cut t t v) (slots_write_cut ts ts xs) m)) (older_slots ns xs (or_right (is_written p v && writes_cut t t v) (slots_write_cut ts ts xs) m))

  older_at : {may : Bool} {ts ss : Parts} → NewerParts may ts ss → (i : ℕ) (v : Value) → writes_cut_at ts ts i v ≡ false → writes_cut_at ss ts i v ≡ false
  older_at no_more i v m = refl
  older_at more_parts i v m = refl
  older_at (also h n ns) zero v m = older_less n v m
  older_at (also h n ns) (suc i) v m = older_at ns i v m

mutual
  unfolding writes_cut

  pub newer_less : {s t : Schema} → Newer s t → (v : Value) → writes_cut t t v ≡ false → writes_cut s t v ≡ false
  newer_less (unchanged h) v m = m
  newer_less (more_items h) v m = refl
  newer_less (newer_containing n) v m = newer_less n v m
  newer_less (newer_list {e = t} {e' = s} n) v m = elements_less (writes_cut t t) (writes_cut s t) (newer_less n) v m
  newer_less (newer_set_of {e = t} {e' = s} n) v m = elements_less (writes_cut t t) (writes_cut s t) (newer_less n) v m
  newer_less (newer_sequence {ps = ts} {ps' = ss} {adds = tds} {adds' = sds} n ns) v m = fields_less (slots_write_cut ts ts) (slots_write_cut ss ts) (slots_write_cut tds tds) (slots_write_cut sds tds) (newer_slots n) (newer_slots ns) v m
  newer_less (newer_choice {ps = ts} {ps' = ss} {adds = tds} {adds' = sds} n ns) v m = alternative_less (writes_cut_at ts ts) (writes_cut_at ss ts) (writes_cut_at tds tds) (writes_cut_at sds tds) (newer_at n) (newer_at ns) v m

  newer_slots : {may : Bool} {ss ts : Parts} → NewerParts may ss ts → (xs : List (Option Value)) → slots_write_cut ts ts xs ≡ false → slots_write_cut ss ts xs ≡ false
  newer_slots no_more xs m = refl
  newer_slots more_parts xs m = refl
  newer_slots (also h n ns) [] m = refl
  newer_slots (also h n ns) (None ∷ xs) m = newer_slots ns xs m
  newer_slots (also {p = p} {s = t} {s' = s} {ps = ts} {ps' = ss} h n ns) (Some v ∷ xs) m = or_both (is_written p v && writes_cut s t v) (slots_write_cut ss ts xs)
      (and_less (is_written p v) (writes_cut t t v) (writes_cut s t v) (newer_less n v) (or_left (is_written p v && writes_cut t t v) (slots_write_cut ts ts xs) m)) (newer_slots ns xs (or_right (is_written p v && writes_cut t t v) (slots_write_cut ts ts xs) m))

  newer_at : {may : Bool} {ss ts : Parts} → NewerParts may ss ts → (i : ℕ) (v : Value) → writes_cut_at ts ts i v ≡ false → writes_cut_at ss ts i v ≡ false
  newer_at no_more i v m = refl
  newer_at more_parts i v m = refl
  newer_at (also h n ns) zero v m = newer_less n v m
  newer_at (also h n ns) (suc i) v m = newer_at ns i v m

-- a levelled type's trees hold what has fewer levels
pub levelled_holds : (T : ℕ → Schema) → Levelled T → (v : Value) (n : ℕ) → levels_of v + 2 ≤ n → meets_cut (T n) v ≡ false
levelled_holds T g v n l = meets_none (T n) (suc (levels_of v)) (levels_deep (g n) (suc (levels_of v)) (omega arith)) v (omega arith)

pub few_levels_are_projected : (a : Settings) (T' T : ℕ → Schema) → Levelled T' → Levelled T → NewerType T' T → (v w : Value) (os : List ℕ) (m n : ℕ) → m ≤ n → 130 ≤ n → levels_of v ≤ 128 → bytes a.variant (T' m) v ≡ Some os →
    project (T' n) (T n) v ≡ Some w → read a T w os
few_levels_are_projected a T' T g' g k v w os m n l l' f e p =
    (older_type_reads a T' T (levelled_type_unfolds T' g') (levelled_type_unfolds T g) k v os m n l (omega arith) (levelled_holds T' g' v n (omega arith)) e w).1 p
    (older_less (k 128) v (bytes_whole a.variant (T' 128) v os (few_levels_suffice a.variant T' g' v os m 128 f e)))

pub few_levels_are_widened : (a : Settings) (T' T : ℕ → Schema) → Levelled T' → Levelled T → NewerType T' T → (v w : Value) (os : List ℕ) (m n : ℕ) → m ≤ n → 128 ≤ n → levels_of w + 2 ≤ n → levels_of v ≤ 128 → bytes a.variant (T m) v ≡ Some os →
    widen (T' n) (T n) v ≡ Some w → read a T' w os
few_levels_are_widened a T' T g' g k v w os m n l l' h f e p =
    (newer_type_reads a T' T (levelled_type_unfolds T' g') (levelled_type_unfolds T g) k v os m n l l' e w (levelled_holds T' g' w n h)).1 p
    (newer_less (k 128) v (bytes_whole a.variant (T 128) v os (few_levels_suffice a.variant T g v os m 128 f e)))
