-- Whether one schema is a newer version of another (ITU-T X.680, 52), by computing, and what isn't allowed where it is
-- none. The newer schema comes first.
use Rattle.std.specs.Prelude.{ℕ, suc, Bool, false, cond, ◌&&◌, nat_le, ◌==◌, Option, Some, None}
use Rattle.rasn_types.specs.Values.{Value, equal_lists, same}
use Rattle.rasn_constraints.specs.Bounds.{Size}
use Rattle.rasn_schema.specs.Schemas.{TagTree, Presence, required, optional, group, default, Order, Schema, Parts}
use Rattle.rasn_schema.specs.Schemas.{no_parts, part}
use Rattle.per_core.specs.Versions.{widen}
use Rattle.per_laws.specs.Sameness.{is_whole, same_bounds, same_order, same_size, same_text, same_time, same_tree}
use Rattle.per_laws.specs.Sameness.{same_truth}
use Rattle.per_laws.specs.Verdicts.{Verdict, allowed, other_kind, other_bounds, other_range, other_size}
use Rattle.per_laws.specs.Verdicts.{other_alphabet, other_items, other_marker, other_order, other_tag}
use Rattle.per_laws.specs.Verdicts.{other_presence, other_default, left_out, put_in, no_end, in_contents}
use Rattle.per_laws.specs.Verdicts.{in_element, in_root, in_additions, at_place, both, unless, within}

-- kinds in which no schema stands: the same, save that items may be added after a marker
abbrev pub compare_leaf : Schema → Schema → Verdict
compare_leaf Schema.boolean Schema.boolean = allowed
compare_leaf Schema.null Schema.null = allowed
compare_leaf Schema.real Schema.real = allowed
compare_leaf Schema.any Schema.any = allowed
compare_leaf Schema.identifier Schema.identifier = allowed
compare_leaf Schema.date Schema.date = allowed
compare_leaf Schema.cut Schema.cut = no_end
compare_leaf (Schema.text k') (Schema.text k) = unless (same_text k' k) other_kind allowed
compare_leaf (Schema.time k') (Schema.time k) = unless (same_time k' k) other_kind allowed
compare_leaf (Schema.number b' m' r') (Schema.number b m r) =
    unless (same_bounds b' b) other_bounds
    (unless (same_truth m' m) other_marker (unless (same_bounds r' r) other_range allowed))
compare_leaf (Schema.items r' e' x') (Schema.items r e x) =
    unless (r' == r) other_items
    (unless (same_truth x' x) other_marker (unless (cond x (nat_le e e') (e' == e)) other_items allowed))
compare_leaf (Schema.octet_string z' m') (Schema.octet_string z m) =
    unless (same_size z' z) other_size (unless (same_truth m' m) other_marker allowed)
compare_leaf (Schema.bit_string z' m' n') (Schema.bit_string z m n) =
    unless (same_truth n' n) other_kind
    (unless (same_size z' z) other_size (unless (same_truth m' m) other_marker allowed))
compare_leaf (Schema.char_string a' z' m') (Schema.char_string a z m) =
    unless (equal_lists a' a) other_alphabet
    (unless (same_size z' z) other_size (unless (same_truth m' m) other_marker allowed))
compare_leaf _ _ = other_kind

-- octets that contain a value, of which a verdict is there
abbrev pub compare_containing : (Schema → Verdict) → Schema → Verdict
compare_containing f (Schema.containing e) = within in_contents (f e)
compare_containing f _ = other_kind

-- a SEQUENCE OF, of whose elements a verdict is there
abbrev pub compare_list : (Schema → Verdict) → Size → Bool → Schema → Verdict
compare_list f z' m' (Schema.list e z m) =
    unless (same_size z' z) other_size (unless (same_truth m' m) other_marker (within in_element (f e)))
compare_list f z' m' _ = other_kind

-- a SET OF
abbrev pub compare_set_of : (Schema → Verdict) → Size → Bool → Schema → Verdict
compare_set_of f z' m' (Schema.set_of e z m) =
    unless (same_size z' z) other_size (unless (same_truth m' m) other_marker (within in_element (f e)))
compare_set_of f z' m' _ = other_kind

-- a SEQUENCE or SET, of whose root components and additions verdicts are there
abbrev pub compare_sequence : Order → Bool → (Parts → Verdict) → (Parts → Verdict) → Schema → Verdict
compare_sequence o' x' f g (Schema.sequence o ps x adds) =
    unless (same_order o' o) other_order
    (unless (same_truth x' x) other_marker (both (within in_root (f ps)) (within in_additions (g adds))))
compare_sequence o' x' f g _ = other_kind

-- a CHOICE
abbrev pub compare_choice : Bool → (Parts → Verdict) → (Parts → Verdict) → Schema → Verdict
compare_choice x' f g (Schema.choice ps adds x) =
    unless (same_truth x' x) other_marker (both (within in_root (f ps)) (within in_additions (g adds)))
compare_choice x' f g _ = other_kind

-- whether a value is made, and is the one
unfoldable pub is_made : Option Value → Value → Bool
unfolding same
is_made None d = false
is_made (Some w) d = same w d

-- X.680 52: whether a newer default is the older one as a newer reader sees it: its added parts absent or at their
-- defaults
unfoldable pub is_widened : Schema → Schema → Value → Value → Bool
unfolding is_made widen
is_widened s' s d' d = is_made (widen s' s d) d'

-- X.680 25.1, 25.9: the same presence, save that a default is widened
abbrev pub compare_presence : Schema → Schema → Presence → Presence → Verdict
compare_presence s' s required required = allowed
compare_presence s' s optional optional = allowed
compare_presence s' s group group = allowed
compare_presence s' s (default d') (default d) =
    unless (is_whole s' && is_whole s) no_end (unless (is_widened s' s d' d) other_default allowed)
compare_presence s' s _ _ = other_presence

-- no further component
abbrev pub compare_end : ℕ → Parts → Verdict
compare_end i no_parts = allowed
compare_end i (part t p s ps) = at_place i left_out

-- a component, and those after it, of which verdicts are there
abbrev pub compare_part : Bool → TagTree → Presence → Schema → (Schema → Verdict) → (ℕ → Parts → Verdict) → ℕ → Parts
    → Verdict
compare_part may t' p' s' f g i no_parts = cond may allowed (at_place i put_in)
compare_part may t' p' s' f g i (part t p s ps) =
    both (within (at_place i) (unless (same_tree t' t) other_tag (both (f s) (compare_presence s' s p' p))))
    (g (suc i) ps)

abbrev mutual
  -- X.680 52: what isn't allowed in a newer schema beside an older one
  pub compare : Schema → Schema → Verdict
  compare (Schema.containing e) = compare_containing (compare e)
  compare (Schema.list e size mark) = compare_list (compare e) size mark
  compare (Schema.set_of e size mark) = compare_set_of (compare e) size mark
  compare (Schema.sequence o ps ext adds) = compare_sequence o ext (compare_parts false ps 0) (compare_parts ext adds 0)
  compare (Schema.choice ps adds ext) = compare_choice ext (compare_parts false ps 0) (compare_parts ext adds 0)
  compare s = compare_leaf s

  -- what isn't allowed in newer components beside older ones, counted from a number; the truth value says whether some
  -- may have been added
  pub compare_parts : Bool → Parts → ℕ → Parts → Verdict
  compare_parts may no_parts = compare_end
  compare_parts may (part t p s ps) = compare_part may t p s (compare s) (compare_parts may ps)

-- what isn't allowed in a newer type beside an older one, in their trees of 128 levels
abbrev pub comparison : (ℕ → Schema) → (ℕ → Schema) → Verdict
comparison newer older = compare (newer 128) (older 128)
