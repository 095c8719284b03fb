-- A family of trees of which each is the next one to its number of levels.
use Rattle.std.proofs.Common.{◌≡◌, subst, ℕ, zero, suc, ◌+◌, ◌-◌, ◌<◌, ◌≤◌, true, false, List, arith, inl, inr, Some}
use Rattle.std.proofs.lemmas.Bool.{cases_lt}
use Rattle.rasn_types.specs.Values.{Value}
use Rattle.rasn_types.specs.Variants.{Variant}
use Rattle.rasn_schema.specs.Schemas.{Schema, Parts}
use Rattle.rasn_schema.specs.Depth.{CutOf, CutParts, cut_here, alike, cut_containing, cut_list, cut_set_of, cut_sequence, cut_choice, no_cut, cut_part, Unfolds}
use Rattle.per_core.specs.Spellings.{Settings}
use Rattle.per_core.specs.Canon.{bytes}
use Rattle.per_core.specs.Basic.{read}
use Rattle.per_core.proofs.Laws.{written_is_read}
use Rattle.per_core.proofs.Unique.{fills_agree}
use Rattle.per_laws.proofs.Types.{up_to}
use Rattle.rasn_schema.specs.Levels.{TakesNone, ToLevels, PartsToLevels, to_leaf, to_date, no_date, still_cut, no_level, to_containing, to_list, to_set_of, to_sequence, to_choice, to_no_parts, to_part, Levelled}
use Rattle.per_laws.specs.Levels.{levels_of, Deep, DeepParts}
use Rattle.per_laws.specs.Written.{writes_cut}
use Rattle.per_laws.proofs.ShallowValues.{deep_family_unfolds}
use Rattle.per_laws.proofs.Depths.{writes_at_less, encodes_deeper}
use Rattle.per_laws.proofs.LevelsBelowCuts.{none_is_leaf, few_written}

mutual
  pub to_cut : {n : ℕ} {s t : Schema} → ToLevels n s t → CutOf s t
  to_cut (to_leaf {s = s} h) = alike (none_is_leaf s h)
  to_cut to_date = alike tt
  to_cut (no_date h) = cut_here
  to_cut (still_cut h) = cut_here
  to_cut (no_level h) = cut_here
  to_cut (to_containing c) = cut_containing (to_cut c)
  to_cut (to_list c) = cut_list (to_cut c)
  to_cut (to_set_of c) = cut_set_of (to_cut c)
  to_cut (to_sequence c d) = cut_sequence (parts_cut c) (parts_cut d)
  to_cut (to_choice c d) = cut_choice (parts_cut c) (parts_cut d)

  parts_cut : {n : ℕ} {ps qs : Parts} → PartsToLevels n ps qs → CutParts ps qs
  parts_cut to_no_parts = no_cut
  parts_cut (to_part c cs) = cut_part (to_cut c) (parts_cut cs)

-- a tree to n levels is deep
leaf_deep : (s : Schema) → TakesNone s → (m : ℕ) → Deep m s
leaf_deep (Schema.containing e) h m = absurd h
leaf_deep (Schema.list e size mark) h m = absurd h
leaf_deep (Schema.set_of e size mark) h m = absurd h
leaf_deep (Schema.sequence o ps ext adds) h m = absurd h
leaf_deep (Schema.choice ps adds ext) h m = absurd h
leaf_deep Schema.date h m = absurd h
leaf_deep Schema.cut h m = absurd h
leaf_deep _ h m = tt

mutual
  pub levels_deep : {n : ℕ} {s t : Schema} → ToLevels n s t → (m : ℕ) → m < n → Deep m s
  levels_deep (to_leaf {s = s} h) m l = leaf_deep s h m
  levels_deep to_date m l = tt
  levels_deep (no_date h) zero l = tt
  levels_deep (no_date h) (suc m) l = absurd (omega arith)
  levels_deep (still_cut h) zero l = tt
  levels_deep (still_cut h) (suc m) l = absurd (omega arith)
  levels_deep (no_level h) m l = absurd (omega arith)
  levels_deep (to_containing c) m l = levels_deep c m l
  levels_deep (to_list c) zero l = tt
  levels_deep (to_list c) (suc m) l = levels_deep c m (omega arith)
  levels_deep (to_set_of c) zero l = tt
  levels_deep (to_set_of c) (suc m) l = levels_deep c m (omega arith)
  levels_deep (to_sequence c d) zero l = tt
  levels_deep (to_sequence c d) (suc m) l = (parts_deep c m (omega arith), parts_deep d m (omega arith))
  levels_deep (to_choice c d) zero l = tt
  levels_deep (to_choice c d) (suc m) l = (parts_deep c m (omega arith), parts_deep d m (omega arith))

  parts_deep : {n : ℕ} {ps qs : Parts} → PartsToLevels n ps qs → (m : ℕ) → m < n → DeepParts m ps
  parts_deep to_no_parts m l = tt
  parts_deep (to_part c cs) m l = (levels_deep c m l, parts_deep cs m l)

pub levelled_type_unfolds : (T : ℕ → Schema) → Levelled T → Unfolds T
levelled_type_unfolds T g = deep_family_unfolds T (λ n. to_cut (g n)) (λ n. (suc n, levels_deep (g (suc n)) n (omega arith)))

-- a tree to n levels is itself to n levels
mutual
  self_levels : {n : ℕ} {s t : Schema} → ToLevels n s t → ToLevels n s s
  self_levels (to_leaf h) = to_leaf h
  self_levels to_date = to_date
  self_levels (no_date h) = still_cut h
  self_levels (still_cut h) = still_cut h
  self_levels (no_level h) = still_cut (omega arith)
  self_levels (to_containing c) = to_containing (self_levels c)
  self_levels (to_list c) = to_list (self_levels c)
  self_levels (to_set_of c) = to_set_of (self_levels c)
  self_levels (to_sequence c d) = to_sequence (self_parts c) (self_parts d)
  self_levels (to_choice c d) = to_choice (self_parts c) (self_parts d)

  self_parts : {n : ℕ} {ps qs : Parts} → PartsToLevels n ps qs → PartsToLevels n ps ps
  self_parts to_no_parts = to_no_parts
  self_parts (to_part c cs) = to_part (self_levels c) (self_parts cs)

-- trees to more and more levels
mutual
  through : {n m : ℕ} {r s t : Schema} → ToLevels n r s → ToLevels m s t → n ≤ m → ToLevels n r t
  through (to_leaf h) (to_leaf k) l = to_leaf h
  through (to_leaf h) to_date l = absurd h
  through (to_leaf h) (no_date k) l = absurd h
  through (to_leaf h) (still_cut k) l = absurd h
  through (to_leaf h) (no_level k) l = absurd h
  through (to_leaf h) (to_containing d) l = absurd h
  through (to_leaf h) (to_list d) l = absurd h
  through (to_leaf h) (to_set_of d) l = absurd h
  through (to_leaf h) (to_sequence d e) l = absurd h
  through (to_leaf h) (to_choice d e) l = absurd h
  through to_date (to_leaf k) l = absurd k
  through to_date to_date l = to_date
  through (no_date h) (to_leaf k) l = absurd k
  through (no_date h) to_date l = no_date h
  through (still_cut h) (to_leaf k) l = absurd k
  through (still_cut h) (no_date k) l = no_date h
  through (still_cut h) (still_cut k) l = still_cut h
  through {n = zero} (still_cut h) (no_level k) l = no_level k
  through {n = suc n} (still_cut h) (no_level k) l = absurd (omega arith)
  through (no_level h) (to_leaf k) l = no_level h
  through (no_level h) to_date l = absurd h
  through (no_level h) (no_date k) l = absurd h
  through (no_level h) (still_cut k) l = absurd h
  through (no_level h) (no_level k) l = absurd h
  through (no_level h) (to_containing d) l = absurd h
  through (no_level h) (to_list d) l = no_level tt
  through (no_level h) (to_set_of d) l = no_level tt
  through (no_level h) (to_sequence d e) l = no_level tt
  through (no_level h) (to_choice d e) l = no_level tt
  through (to_containing c) (to_leaf k) l = absurd k
  through (to_containing c) (to_containing d) l = to_containing (through c d l)
  through (to_list c) (to_leaf k) l = absurd k
  through (to_list c) (to_list d) l = to_list (through c d (omega arith))
  through (to_set_of c) (to_leaf k) l = absurd k
  through (to_set_of c) (to_set_of d) l = to_set_of (through c d (omega arith))
  through (to_sequence c cs) (to_leaf k) l = absurd k
  through (to_sequence c cs) (to_sequence d ds) l = to_sequence (through_parts c d (omega arith)) (through_parts cs ds (omega arith))
  through (to_choice c cs) (to_leaf k) l = absurd k
  through (to_choice c cs) (to_choice d ds) l = to_choice (through_parts c d (omega arith)) (through_parts cs ds (omega arith))

  through_parts : {n m : ℕ} {ps qs rs : Parts} → PartsToLevels n ps qs → PartsToLevels m qs rs → n ≤ m → PartsToLevels n ps rs
  through_parts to_no_parts to_no_parts l = to_no_parts
  through_parts (to_part c cs) (to_part d ds) l = to_part (through c d l) (through_parts cs ds l)

further : (T : ℕ → Schema) → Levelled T → (n k : ℕ) → ToLevels n (T n) (T (n + k))
further T g n zero = subst (λ m. ToLevels n (T n) (T m)) (omega arith) (self_levels (g n))
further T g n (suc k) = subst (λ m. ToLevels n (T n) (T m)) (omega arith) (through (further T g n k) (g (n + k)) (omega arith))

pub levels_up_to : (T : ℕ → Schema) → Levelled T → (n m : ℕ) → n ≤ m → ToLevels n (T n) (T m)
levels_up_to T g n m l = subst (λ k. ToLevels n (T n) (T k)) (omega arith) (further T g n (m - n))

-- a value of at most n levels is written in the tree of n levels, if in any
settings_of : Variant → Settings
settings_of a = record { variant = a; strict = true }

few_whole : (a : Settings) (T : ℕ → Schema) → Levelled T → (v : Value) (os : List ℕ) (m n : ℕ) → n ≤ m → levels_of v ≤ n → bytes a.variant (T m) v ≡ Some os → writes_cut (T n) (T n) v ≡ false
few_whole a T g v os m n l k e = let x = written_is_read a (T m) v os e in fills_agree a os (few_written a (levels_up_to T g n m l) v v) x x k

pub few_levels_suffice : (a : Variant) (T : ℕ → Schema) → Levelled T → (v : Value) (os : List ℕ) (m n : ℕ) → levels_of v ≤ n → bytes a (T m) v ≡ Some os → bytes a (T n) v ≡ Some os
unfolding settings_of
few_levels_suffice a T g v os m n k e = elim (cases_lt m n) [
  | inl l ↦ encodes_deeper a T (levelled_type_unfolds T g) v os m n (omega arith) e
  | inr l ↦ (writes_at_less a (T n) (T m) (up_to T (levelled_type_unfolds T g) n m l) v os).1 e (few_whole (settings_of a) T g v os m n l k e)
]

pub few_levels_are_read : (a : Settings) (T : ℕ → Schema) → Levelled T → (v : Value) (os : List ℕ) (n : ℕ) → levels_of v ≤ 128 → bytes a.variant (T n) v ≡ Some os → read a T v os
few_levels_are_read a T g v os n k e = written_is_read a (T 128) v os (few_levels_suffice a.variant T g v os n 128 k e)
