-- A newer version is one along the first levels of both trees, too.
use Rattle.std.proofs.Common.{◌≡◌, ℕ, ◌+◌, Bool, arith}
use Rattle.rasn_schema.specs.Lawful.{IsLawfulType}
use Rattle.rasn_schema.specs.Levels.{TakesLevel, ToLevels, PartsToLevels, Levelled, to_leaf, to_date, no_date, still_cut, no_level, to_containing, to_list, to_set_of, to_sequence, to_choice, to_no_parts, to_part}
use Rattle.rasn_schema.specs.Schemas.{Presence, required, optional, group, default, Schema, Parts}
use Rattle.per_core.specs.Versions.{IsPlain, NewerType}
use Rattle.per_laws.proofs.Successors.{successors_are_newer}
use Rattle.per_laws.proofs.Types.{less_cut}
use Rattle.per_laws.proofs.Wider.{narrower}
use Rattle.per_laws.specs.Successors.{PresenceSucceeds, Succeeds, SucceedsParts, SucceedsType, succeeds_itself, succeeds_items, succeeds_containing, succeeds_list, succeeds_set_of, succeeds_sequence, succeeds_choice, none_succeed, added_parts, succeeds_part}
use Rattle.per_laws.proofs.VersionOfItself.{newer_than_itself}
use Rattle.per_laws.proofs.Levelled.{levelled_type_unfolds, levels_up_to, to_cut}
use Rattle.per_laws.specs.Compared.{comparison}
use Rattle.per_laws.specs.Verdicts.{allowed}
use Rattle.per_laws.proofs.Compared.{sound}

plain_takes_none : (s : Schema) → IsPlain s → TakesLevel s → ⊥
plain_takes_none (Schema.containing e) i h = i
plain_takes_none (Schema.list e z m) i h = i
plain_takes_none (Schema.set_of e z m) i h = i
plain_takes_none (Schema.sequence o ps x adds) i h = i
plain_takes_none (Schema.choice ps adds x) i h = i
plain_takes_none _ i h = h

plain_shallower : {k : ℕ} {s t' t : Schema} → IsPlain s → ToLevels k t' s → ToLevels k t s → Succeeds t' t
plain_shallower i (to_leaf h) (to_leaf j) = succeeds_itself i
plain_shallower i (to_leaf h) to_date = absurd h
plain_shallower i (to_leaf h) (no_date l) = absurd h
plain_shallower i (to_leaf h) (still_cut l) = absurd h
plain_shallower i (to_leaf h) (no_level {t = s} j) = absurd (plain_takes_none s i j)
plain_shallower i (to_leaf h) (to_containing d) = absurd i
plain_shallower i (to_leaf h) (to_list d) = absurd i
plain_shallower i (to_leaf h) (to_set_of d) = absurd i
plain_shallower i (to_leaf h) (to_sequence d d') = absurd i
plain_shallower i (to_leaf h) (to_choice d d') = absurd i
plain_shallower i to_date (to_leaf h) = absurd h
plain_shallower i to_date to_date = succeeds_itself tt
plain_shallower i to_date (no_date l) = absurd (omega arith)
plain_shallower i (no_date l) (to_leaf h) = absurd h
plain_shallower i (no_date l) to_date = absurd (omega arith)
plain_shallower i (no_date l) (no_date m) = succeeds_itself tt
plain_shallower i (no_date l) (no_level j) = absurd j
plain_shallower i (still_cut l) (to_leaf h) = absurd h
plain_shallower i (still_cut l) (still_cut m) = succeeds_itself tt
plain_shallower i (still_cut l) (no_level j) = absurd j
plain_shallower i (no_level {t = s} h) d = absurd (plain_takes_none s i h)
plain_shallower i (to_containing c) d = absurd i
plain_shallower i (to_list c) d = absurd i
plain_shallower i (to_set_of c) d = absurd i
plain_shallower i (to_sequence c c') d = absurd i
plain_shallower i (to_choice c c') d = absurd i

presence_shallower : (p' p : Presence) {k : ℕ} {s' s t' t : Schema} → PresenceSucceeds s' s p' p → Succeeds t' t → ToLevels k t' s' → ToLevels k t s → PresenceSucceeds t' t p' p
presence_shallower required required h n c d = tt
presence_shallower optional optional h n c d = tt
presence_shallower group group h n c d = tt
presence_shallower (default v') (default v) h n c d =
    record { widened = λ m. narrower n (to_cut c) (to_cut d) v v' (h.widened (less_cut (to_cut c) v' m)) m }
presence_shallower _ _ h n c d = absurd h

mutual
  pub shallower : {s' s : Schema} → Succeeds s' s → {k : ℕ} {t' t : Schema} → ToLevels k t' s' → ToLevels k t s → Succeeds t' t
  shallower (succeeds_itself i) c d = plain_shallower i c d
  shallower (succeeds_items i) (to_leaf h) (to_leaf j) = succeeds_items i
  shallower (succeeds_items i) (to_leaf h) (no_level j) = absurd j
  shallower (succeeds_items i) (no_level h) d = absurd h
  shallower (succeeds_containing n) (to_leaf h) d = absurd h
  shallower (succeeds_containing n) (no_level h) d = absurd h
  shallower (succeeds_containing n) (to_containing c) (to_leaf j) = absurd j
  shallower (succeeds_containing n) (to_containing c) (no_level j) = absurd j
  shallower (succeeds_containing n) (to_containing c) (to_containing d) = succeeds_containing (shallower n c d)
  shallower (succeeds_list n) (to_leaf h) d = absurd h
  shallower (succeeds_list n) (no_level h) (to_leaf j) = absurd j
  shallower (succeeds_list n) (no_level h) (no_level j) = succeeds_itself tt
  shallower (succeeds_list n) (to_list c) (to_leaf j) = absurd j
  shallower (succeeds_list n) (to_list c) (to_list d) = succeeds_list (shallower n c d)
  shallower (succeeds_set_of n) (to_leaf h) d = absurd h
  shallower (succeeds_set_of n) (no_level h) (to_leaf j) = absurd j
  shallower (succeeds_set_of n) (no_level h) (no_level j) = succeeds_itself tt
  shallower (succeeds_set_of n) (to_set_of c) (to_leaf j) = absurd j
  shallower (succeeds_set_of n) (to_set_of c) (to_set_of d) = succeeds_set_of (shallower n c d)
  shallower (succeeds_sequence n ns) (to_leaf h) d = absurd h
  shallower (succeeds_sequence n ns) (no_level h) (to_leaf j) = absurd j
  shallower (succeeds_sequence n ns) (no_level h) (no_level j) = succeeds_itself tt
  shallower (succeeds_sequence n ns) (to_sequence c cs) (to_leaf j) = absurd j
  shallower (succeeds_sequence n ns) (to_sequence c cs) (to_sequence d ds) = succeeds_sequence (parts_shallower n c d) (parts_shallower ns cs ds)
  shallower (succeeds_choice n ns) (to_leaf h) d = absurd h
  shallower (succeeds_choice n ns) (no_level h) (to_leaf j) = absurd j
  shallower (succeeds_choice n ns) (no_level h) (no_level j) = succeeds_itself tt
  shallower (succeeds_choice n ns) (to_choice c cs) (to_leaf j) = absurd j
  shallower (succeeds_choice n ns) (to_choice c cs) (to_choice d ds) = succeeds_choice (parts_shallower n c d) (parts_shallower ns cs ds)

  parts_shallower : {may : Bool} {ps' ps : Parts} → SucceedsParts may ps' ps → {k : ℕ} {qs' qs : Parts} → PartsToLevels k qs' ps' → PartsToLevels k qs ps → SucceedsParts may qs' qs
  parts_shallower none_succeed to_no_parts to_no_parts = none_succeed
  parts_shallower added_parts (to_part c cs) to_no_parts = added_parts
  parts_shallower (succeeds_part {p = p} {p' = p'} h n ns) (to_part c cs) (to_part d ds) =
      let m = shallower n c d in succeeds_part (presence_shallower p' p h m c d) m (parts_shallower ns cs ds)

-- types that pass a comparison of their trees of 128 levels
pub compared_succeeds : (T' T : ℕ → Schema) → Levelled T' → Levelled T → comparison T' T ≡ allowed → SucceedsType T' T
compared_succeeds T' T g' g e n =
    let m : ℕ = 128 + n in
    let deep = sound (T' 128) (T 128) e 128 (T' m) (T m) (levels_up_to T' g' 128 m (omega arith)) (levels_up_to T g 128 m (omega arith)) in
    shallower deep (levels_up_to T' g' n m (omega arith)) (levels_up_to T g n m (omega arith))

pub compared_is_newer : (T' T : ℕ → Schema) → Levelled T' → Levelled T → IsLawfulType T → comparison T' T ≡ allowed → NewerType T' T
compared_is_newer T' T g' g l e =
    (successors_are_newer T' T (levelled_type_unfolds T' g') l.unfolds (newer_than_itself T l)).0 (compared_succeeds T' T g' g e)
