-- What a comparison lets pass is a newer version, also along the deeper trees of which the compared ones are the first levels.
use Rattle.std.proofs.Common.{eqb, eqb-true, ◌≡◌, refl, sym, ap, subst, ℕ, suc, Bool, true, false, cond, ◌&&◌, leb, Option, Some, None}
use Rattle.std.proofs.lemmas.Bool.{leb-true}
use Rattle.rasn_types.specs.Values.{Value, equal_lists}
use Rattle.rasn_constraints.specs.Bounds.{Size}
use Rattle.rasn_schema.specs.Forms.{IsSimple}
use Rattle.rasn_schema.specs.Levels.{ToLevels, PartsToLevels, to_leaf, to_date, no_date, still_cut, no_level, to_containing, to_list, to_set_of, to_sequence, to_choice, to_no_parts, to_part}
use Rattle.rasn_schema.specs.Schemas.{TagTree, Presence, required, optional, group, default, Order, Schema, Parts, no_parts, part}
use Rattle.per_core.specs.Versions.{widen}
use Rattle.rasn_types.proofs.Codes.{equal_lists_same, same_true}
use Rattle.per_core.proofs.LengthForms.{and_left, and_right}
use Rattle.per_laws.specs.Successors.{DefaultSucceeds, PresenceSucceeds, Succeeds, SucceedsParts, succeeds_itself, succeeds_items, succeeds_containing, succeeds_list, succeeds_set_of, succeeds_sequence, succeeds_choice, none_succeed, added_parts, succeeds_part}
use Rattle.per_laws.specs.Sameness.{is_whole, same_bounds, same_order, same_size, same_text, same_time, same_tree, same_truth}
use Rattle.per_laws.specs.Compared.{compare_leaf, compare_containing, compare_list, compare_set_of, compare_sequence, compare_choice, is_made, is_widened, compare_presence, compare_end, compare_part, compare, compare_parts}
use Rattle.per_laws.specs.Verdicts.{Verdict, allowed, other_kind, other_bounds, other_range, other_size, other_alphabet, other_items, other_marker, other_order, other_tag, other_default, no_end, in_contents, in_element, in_root, in_additions, at_place, both, unless, within}
use Rattle.per_laws.proofs.Sameness.{one_truth, one_size, one_bounds, one_text, one_time, one_order, one_tree, whole_stays}
use Rattle.per_laws.proofs.Verdicts.{passed, both_allowed, within_allowed}

-- kinds in which no schema stands are the same along deeper trees
simple_stays : {k : ℕ} {s t : Schema} → IsSimple s → ToLevels k s t → t ≡ s
simple_stays h (to_leaf i) = refl
simple_stays h to_date = refl
simple_stays h (no_date l) = absurd h
simple_stays h (still_cut l) = absurd h
simple_stays h (no_level i) = absurd h
simple_stays h (to_containing c) = absurd h
simple_stays h (to_list c) = absurd h
simple_stays h (to_set_of c) = absurd h
simple_stays h (to_sequence c d) = absurd h
simple_stays h (to_choice c d) = absurd h

record Simple (s' s : Schema) : Type 0 where
  newer : IsSimple s'
  older : IsSimple s
  succeeds : Succeeds s' s

items_pass : (r' e' : ℕ) (x' : Bool) (r e : ℕ) (x : Bool) → compare_leaf (Schema.items r' e' x') (Schema.items r e x) ≡ allowed → Succeeds (Schema.items r' e' x') (Schema.items r e x)
items_pass r' e' x' r e x h =
    let a = passed (eqb r' r) other_items (unless (same_truth x' x) other_marker (unless (cond x (leb e e') (eqb e' e)) other_items allowed)) refl h in
    let b = passed (same_truth x' x) other_marker (unless (cond x (leb e e') (eqb e' e)) other_items allowed) refl a.1 in
    let c = passed (cond x (leb e e') (eqb e' e)) other_items allowed refl b.1 in
    rw (eqb-true r' r a.0, one_truth x' x b.0) (go x c.0)
  where
    go : (y : Bool) → cond y (leb e e') (eqb e' e) ≡ true → Succeeds (Schema.items r e' y) (Schema.items r e y)
    go true k = succeeds_items (leb-true e e' k)
    go false k = rw (eqb-true e' e k) (succeeds_itself refl)

leaf_pass : (s' s : Schema) → compare_leaf s' s ≡ allowed → Simple s' s
leaf_pass Schema.boolean Schema.boolean h = record { newer = tt; older = tt; succeeds = succeeds_itself tt }
leaf_pass Schema.null Schema.null h = record { newer = tt; older = tt; succeeds = succeeds_itself tt }
leaf_pass Schema.real Schema.real h = record { newer = tt; older = tt; succeeds = succeeds_itself tt }
leaf_pass Schema.any Schema.any h = record { newer = tt; older = tt; succeeds = succeeds_itself tt }
leaf_pass Schema.identifier Schema.identifier h = record { newer = tt; older = tt; succeeds = succeeds_itself tt }
leaf_pass Schema.date Schema.date h = record { newer = tt; older = tt; succeeds = succeeds_itself tt }
leaf_pass Schema.cut Schema.cut h = absurd (cc)
leaf_pass (Schema.text k') (Schema.text k) h =
    let a = passed (same_text k' k) other_kind allowed refl h in
    record { newer = tt; older = tt; succeeds = rw (one_text k' k a.0) (succeeds_itself tt) }
leaf_pass (Schema.time k') (Schema.time k) h =
    let a = passed (same_time k' k) other_kind allowed refl h in
    record { newer = tt; older = tt; succeeds = rw (one_time k' k a.0) (succeeds_itself tt) }
leaf_pass (Schema.number b' m' r') (Schema.number b m r) h =
    let a = passed (same_bounds b' b) other_bounds (unless (same_truth m' m) other_marker (unless (same_bounds r' r) other_range allowed)) refl h in
    let c = passed (same_truth m' m) other_marker (unless (same_bounds r' r) other_range allowed) refl a.1 in
    let d = passed (same_bounds r' r) other_range allowed refl c.1 in
    record { newer = tt; older = tt; succeeds = rw (one_bounds b' b a.0, one_truth m' m c.0, one_bounds r' r d.0) (succeeds_itself tt) }
leaf_pass (Schema.items r' e' x') (Schema.items r e x) h = record { newer = tt; older = tt; succeeds = items_pass r' e' x' r e x h }
leaf_pass (Schema.octet_string z' m') (Schema.octet_string z m) h =
    let a = passed (same_size z' z) other_size (unless (same_truth m' m) other_marker allowed) refl h in
    let c = passed (same_truth m' m) other_marker allowed refl a.1 in
    record { newer = tt; older = tt; succeeds = rw (one_size z' z a.0, one_truth m' m c.0) (succeeds_itself tt) }
leaf_pass (Schema.bit_string z' m' n') (Schema.bit_string z m n) h =
    let b = passed (same_truth n' n) other_kind (unless (same_size z' z) other_size (unless (same_truth m' m) other_marker allowed)) refl h in
    let a = passed (same_size z' z) other_size (unless (same_truth m' m) other_marker allowed) refl b.1 in
    let c = passed (same_truth m' m) other_marker allowed refl a.1 in
    record { newer = tt; older = tt; succeeds = rw (one_truth n' n b.0, one_size z' z a.0, one_truth m' m c.0) (succeeds_itself tt) }
leaf_pass (Schema.char_string a' z' m') (Schema.char_string a z m) h =
    let b = passed (equal_lists a' a) other_alphabet (unless (same_size z' z) other_size (unless (same_truth m' m) other_marker allowed)) refl h in
    let c = passed (same_size z' z) other_size (unless (same_truth m' m) other_marker allowed) refl b.1 in
    let d = passed (same_truth m' m) other_marker allowed refl c.1 in
    record { newer = tt; older = tt; succeeds = rw (equal_lists_same a' a b.0, one_size z' z c.0, one_truth m' m d.0) (succeeds_itself tt) }
leaf_pass _ _ h = absurd (cc)

-- what passes, along deeper trees
abbrev Sound : Schema → (Schema → Verdict) → Type 0
Sound s' f = (s : Schema) → f s ≡ allowed → (k : ℕ) (t' t : Schema) → ToLevels k s' t' → ToLevels k s t → Succeeds t' t

abbrev SoundParts : Bool → Parts → (ℕ → Parts → Verdict) → Type 0
SoundParts may ps' f = (i : ℕ) (ps : Parts) → f i ps ≡ allowed → (k : ℕ) (qs' qs : Parts) → PartsToLevels k ps' qs' → PartsToLevels k ps qs → SucceedsParts may qs' qs

leaf_sound : (s' : Schema) → Sound s' (compare_leaf s')
leaf_sound s' s h k t' t c d =
    let p = leaf_pass s' s h in
    subst (λ r. Succeeds r t) (sym (simple_stays p.newer c)) (subst (λ r. Succeeds s' r) (sym (simple_stays p.older d)) p.succeeds)

containing_sound : (e' : Schema) (f : Schema → Verdict) → Sound e' f → Sound (Schema.containing e') (compare_containing f)
containing_sound e' f r (Schema.containing e) h k t' t (to_leaf x) d = absurd x
containing_sound e' f r (Schema.containing e) h k t' t (to_containing c) (to_leaf x) = absurd x
containing_sound e' f r (Schema.containing e) h k (Schema.containing t') (Schema.containing t) (to_containing c) (to_containing d) =
    succeeds_containing (r e (within_allowed in_contents (f e) (λ v. refl) h) k t' t c d)
containing_sound e' f r _ h k t' t c d = absurd (cc)

list_sound : (e' : Schema) (z' : Size) (m' : Bool) (f : Schema → Verdict) → Sound e' f → Sound (Schema.list e' z' m') (compare_list f z' m')
list_sound e' z' m' f r (Schema.list e z m) h k t' t (to_leaf x) d = absurd x
list_sound e' z' m' f r (Schema.list e z m) h k t' t (to_list c) (to_leaf x) = absurd x
list_sound e' z' m' f r (Schema.list e z m) h (suc k) (Schema.list t' w' n') (Schema.list t w n) (to_list c) (to_list d) =
    let a = passed (same_size z' z) other_size (unless (same_truth m' m) other_marker (within in_element (f e))) refl h in
    let b = passed (same_truth m' m) other_marker (within in_element (f e)) refl a.1 in
    rw (one_size z' z a.0, one_truth m' m b.0) (succeeds_list (r e (within_allowed in_element (f e) (λ v. refl) b.1) k t' t c d))
list_sound e' z' m' f r _ h k t' t c d = absurd (cc)

set_sound : (e' : Schema) (z' : Size) (m' : Bool) (f : Schema → Verdict) → Sound e' f → Sound (Schema.set_of e' z' m') (compare_set_of f z' m')
set_sound e' z' m' f r (Schema.set_of e z m) h k t' t (to_leaf x) d = absurd x
set_sound e' z' m' f r (Schema.set_of e z m) h k t' t (to_set_of c) (to_leaf x) = absurd x
set_sound e' z' m' f r (Schema.set_of e z m) h (suc k) (Schema.set_of t' w' n') (Schema.set_of t w n) (to_set_of c) (to_set_of d) =
    let a = passed (same_size z' z) other_size (unless (same_truth m' m) other_marker (within in_element (f e))) refl h in
    let b = passed (same_truth m' m) other_marker (within in_element (f e)) refl a.1 in
    rw (one_size z' z a.0, one_truth m' m b.0) (succeeds_set_of (r e (within_allowed in_element (f e) (λ v. refl) b.1) k t' t c d))
set_sound e' z' m' f r _ h k t' t c d = absurd (cc)

sequence_sound : (o' : Order) (x' : Bool) (ps' adds' : Parts) (f g : ℕ → Parts → Verdict) → SoundParts false ps' f → SoundParts x' adds' g →
    Sound (Schema.sequence o' ps' x' adds') (compare_sequence o' x' (f 0) (g 0))
sequence_sound o' x' ps' adds' f g r q (Schema.sequence o ps x adds) h k t' t (to_leaf i) d = absurd i
sequence_sound o' x' ps' adds' f g r q (Schema.sequence o ps x adds) h k t' t (to_sequence c c') (to_leaf i) = absurd i
sequence_sound o' x' ps' adds' f g r q (Schema.sequence o ps x adds) h (suc k) (Schema.sequence u' qs' y' bdds') (Schema.sequence u qs y bdds) (to_sequence c c') (to_sequence d d') =
    let a = passed (same_order o' o) other_order (unless (same_truth x' x) other_marker (both (within in_root (f 0 ps)) (within in_additions (g 0 adds)))) refl h in
    let b = passed (same_truth x' x) other_marker (both (within in_root (f 0 ps)) (within in_additions (g 0 adds))) refl a.1 in
    let v = both_allowed (within in_root (f 0 ps)) (within in_additions (g 0 adds)) b.1 in
    let n = r 0 ps (within_allowed in_root (f 0 ps) (λ v. refl) v.0) k qs' qs c d in
    let m = q 0 adds (within_allowed in_additions (g 0 adds) (λ v. refl) v.1) k bdds' bdds c' d' in
    rw (sym (one_order o' o a.0), sym (one_truth x' x b.0)) (succeeds_sequence n m)
sequence_sound o' x' ps' adds' f g r q _ h k t' t c d = absurd (cc)

choice_sound : (x' : Bool) (ps' adds' : Parts) (f g : ℕ → Parts → Verdict) → SoundParts false ps' f → SoundParts x' adds' g →
    Sound (Schema.choice ps' adds' x') (compare_choice x' (f 0) (g 0))
choice_sound x' ps' adds' f g r q (Schema.choice ps adds x) h k t' t (to_leaf i) d = absurd i
choice_sound x' ps' adds' f g r q (Schema.choice ps adds x) h k t' t (to_choice c c') (to_leaf i) = absurd i
choice_sound x' ps' adds' f g r q (Schema.choice ps adds x) h (suc k) (Schema.choice qs' bdds' y') (Schema.choice qs bdds y) (to_choice c c') (to_choice d d') =
    let b = passed (same_truth x' x) other_marker (both (within in_root (f 0 ps)) (within in_additions (g 0 adds))) refl h in
    let v = both_allowed (within in_root (f 0 ps)) (within in_additions (g 0 adds)) b.1 in
    let n = r 0 ps (within_allowed in_root (f 0 ps) (λ v. refl) v.0) k qs' qs c d in
    let m = q 0 adds (within_allowed in_additions (g 0 adds) (λ v. refl) v.1) k bdds' bdds c' d' in
    rw (sym (one_truth x' x b.0)) (succeeds_choice n m)
choice_sound x' ps' adds' f g r q _ h k t' t c d = absurd (cc)

made_is : (o : Option Value) (d : Value) → is_made o d ≡ true → o ≡ Some d
unfolding is_made
made_is None d e = absurd (cc)
made_is (Some w) d e = ap Some (same_true w d e)

widened_is : (s' s : Schema) (d' d : Value) → is_widened s' s d' d ≡ true → widen s' s d ≡ Some d'
unfolding is_widened
widened_is s' s d' d e = made_is (widen s' s d) d' e

presence_sound : (p' p : Presence) (s' s : Schema) → compare_presence s' s p' p ≡ allowed → {k : ℕ} (t' t : Schema) → ToLevels k s' t' → ToLevels k s t → PresenceSucceeds t' t p' p
presence_sound required required s' s h t' t c d = tt
presence_sound optional optional s' s h t' t c d = tt
presence_sound group group s' s h t' t c d = tt
presence_sound (default v') (default v) s' s h t' t c d =
    let a = passed (is_whole s' && is_whole s) no_end (unless (is_widened s' s v' v) other_default allowed) refl h in
    let b = passed (is_widened s' s v' v) other_default allowed refl a.1 in
    let k : DefaultSucceeds s' s v' v = record { widened = λ m. widened_is s' s v' v b.0 } in
    subst (λ r. DefaultSucceeds r t v' v) (sym (whole_stays c (and_left (is_whole s') (is_whole s) a.0)))
    (subst (λ r. DefaultSucceeds s' r v' v) (sym (whole_stays d (and_right (is_whole s') (is_whole s) a.0))) k)
presence_sound _ _ s' s h t' t c d = absurd (cc)

end_sound : (may : Bool) → SoundParts may no_parts compare_end
end_sound may i no_parts h k qs' qs to_no_parts to_no_parts = none_succeed
end_sound may i (part t p s ps) h k qs' qs c d = absurd (cc)

part_sound : (may : Bool) (t' : TagTree) (p' : Presence) (s' : Schema) (ps' : Parts) (f : Schema → Verdict) (g : ℕ → Parts → Verdict) → Sound s' f → SoundParts may ps' g →
    SoundParts may (part t' p' s' ps') (compare_part may t' p' s' f g)
part_sound true t' p' s' ps' f g r q i no_parts h k qs' qs (to_part c cs) to_no_parts = added_parts
part_sound false t' p' s' ps' f g r q i no_parts h k qs' qs c d = absurd (cc)
part_sound may t' p' s' ps' f g r q i (part t p s ps) h k no_parts qs c d = elim c [ ]
part_sound may t' p' s' ps' f g r q i (part t p s ps) h k (part u' y' w' qs') no_parts c d = elim d [ ]
part_sound may t' p' s' ps' f g r q i (part t p s ps) h k (part u' y' w' qs') (part u y w qs) (to_part c cs) (to_part d ds) =
    let test : Verdict = unless (same_tree t' t) other_tag (both (f s) (compare_presence s' s p' p)) in
    let a = both_allowed (within (at_place i) test) (g (suc i) ps) h in
    let b = passed (same_tree t' t) other_tag (both (f s) (compare_presence s' s p' p)) refl (within_allowed (at_place i) test (λ v. refl) a.0) in
    let e = both_allowed (f s) (compare_presence s' s p' p) b.1 in
    let n = r s e.0 k w' w c d in
    rw (one_tree t' t b.0) (succeeds_part (presence_sound p' p s' s e.1 w' w c d) n (q (suc i) ps a.1 k qs' qs cs ds))

mutual
  pub sound : (s' : Schema) → Sound s' (compare s')
  sound (Schema.containing e) = containing_sound e (compare e) (sound e)
  sound (Schema.list e z m) = list_sound e z m (compare e) (sound e)
  sound (Schema.set_of e z m) = set_sound e z m (compare e) (sound e)
  sound (Schema.sequence o ps x adds) = sequence_sound o x ps adds (compare_parts false ps) (compare_parts x adds) (parts_sound false ps) (parts_sound x adds)
  sound (Schema.choice ps adds x) = choice_sound x ps adds (compare_parts false ps) (compare_parts x adds) (parts_sound false ps) (parts_sound x adds)
  sound s' = leaf_sound s'

  parts_sound : (may : Bool) (ps' : Parts) → SoundParts may ps' (compare_parts may ps')
  parts_sound may no_parts = end_sound may
  parts_sound may (part t p s ps) = part_sound may t p s ps (compare s) (compare_parts may ps) (sound s) (parts_sound may ps)
