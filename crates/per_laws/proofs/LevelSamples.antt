-- A recursive type with a date in it, as a family of trees: what it owes takes a line for each kind.
use Rattle.std.proofs.Common.{◌≡◌, refl, ℕ, zero, suc, arith, true, false, [], ◌∷◌, Some, None}
use Rattle.rasn_types.specs.Values.{Value, fields, no_slots, absent, there}
use Rattle.rasn_types.specs.Variants.{unaligned}
use Rattle.rasn_constraints.specs.Bounds.{any_size}
use Rattle.rasn_schema.specs.Schemas.{TagTree, leaf, required, optional, group, default, Order, Schema, no_parts, part}
use Rattle.rasn_schema.specs.Normal.{normal}
use Rattle.per_core.specs.Canon.{bytes}
use Rattle.per_laws.specs.Written.{writes_cut}
use Rattle.rasn_schema.specs.Depth.{meets_cut, CutOf, cut_here, cut_sequence, cut_part, no_cut}
use Rattle.rasn_schema.specs.Levels.{Levelled, to_date, no_date, still_cut, no_level, to_list, to_sequence, to_no_parts, to_part}

abbrev here : TagTree
here = leaf (record { class = 2; number = 0 })

abbrev date_tree : ℕ → Schema
date_tree zero = Schema.cut
date_tree (suc zero) = Schema.cut
date_tree (suc (suc n)) = Schema.date

date_levels : Levelled date_tree
date_levels zero = still_cut (omega arith)
date_levels (suc zero) = no_date (omega arith)
date_levels (suc (suc n)) = to_date

-- Log ::= SEQUENCE { day DATE, earlier SEQUENCE OF Log OPTIONAL, ... }
abbrev log_tree : ℕ → Schema
log_tree zero = Schema.cut
log_tree (suc zero) = Schema.sequence Order.listed (part here required (date_tree zero) (part here optional Schema.cut no_parts)) true no_parts
log_tree (suc (suc n)) = Schema.sequence Order.listed (part here required (date_tree (suc n)) (part here optional (Schema.list (log_tree n) any_size true) no_parts)) true no_parts

log_levels : Levelled log_tree
log_levels zero = no_level tt
log_levels (suc zero) = to_sequence (to_part (date_levels zero) (to_part (no_level tt) to_no_parts)) to_no_parts
log_levels (suc (suc n)) = to_sequence (to_part (date_levels (suc n)) (to_part (to_list (log_levels n)) to_no_parts)) to_no_parts

-- Nest ::= SEQUENCE { next Nest OPTIONAL }, and a record whose part has a default of three levels
abbrev nest_tree : ℕ → Schema
nest_tree zero = Schema.cut
nest_tree (suc n) = Schema.sequence Order.listed (part here optional (nest_tree n) no_parts) false no_parts

nest_levels : Levelled nest_tree
nest_levels zero = no_level tt
nest_levels (suc n) = to_sequence (to_part (nest_levels n) to_no_parts) to_no_parts

abbrev ended : Value
ended = fields (absent no_slots) no_slots

abbrev nested : Value → Value
nested v = fields (there v no_slots) no_slots

abbrev holder_tree : ℕ → Schema
holder_tree n = Schema.sequence Order.listed (part here (default (nested (nested ended))) (nest_tree n) no_parts) false no_parts

-- the default meets a Cut of a tree of few levels, and isn't written; another value of as many levels is
default_unwritten : (meets_cut (holder_tree 2) (nested (nested (nested ended))) ≡ true) × (writes_cut (holder_tree 2) (holder_tree 2) (nested (nested (nested ended))) ≡ false)
    × (writes_cut (holder_tree 2) (holder_tree 2) (nested (nested (nested (nested ended)))) ≡ true)
unfolding meets_cut writes_cut
default_unwritten = (refl, refl, refl)

default_bytes : (bytes unaligned (holder_tree 2) (nested (nested (nested ended))) ≡ Some (0 ∷ [])) × (bytes unaligned (holder_tree 2) (nested (nested (nested (nested ended)))) ≡ None)
    × (bytes unaligned (holder_tree 9) (nested (nested (nested (nested ended)))) ≡ Some (240 ∷ []))
unfolding bytes
default_bytes = (refl, refl, refl)

-- Why the normal form is taken in a tree that holds the value, and not in any tree in which it has an encoding.
-- 1. A group is at a Cut, and the value has the empty record there, which is no value of the group: in the
-- shallow tree it counts as vacant and there is an encoding, in the deeper tree there is none.
abbrev cut_group : Schema
cut_group = Schema.sequence Order.listed no_parts true (part here group Schema.cut no_parts)

abbrev whole_group : Schema
whole_group = Schema.sequence Order.listed no_parts true (part here group (Schema.sequence Order.listed (part here optional Schema.boolean no_parts) false no_parts) no_parts)

abbrev empty_group : Value
empty_group = fields no_slots (there (fields no_slots no_slots) no_slots)

group_cut : CutOf cut_group whole_group
group_cut = cut_sequence no_cut (cut_part cut_here no_cut)

group_vacant : (bytes unaligned cut_group (normal cut_group empty_group) ≡ Some (0 ∷ [])) × (bytes unaligned whole_group (normal whole_group empty_group) ≡ None)
unfolding bytes normal
group_vacant = (refl, refl)

-- 2. A default isn't in normal form (which a lawful type's default is): there are two encodings.
abbrev vacant_default : Value
vacant_default = fields no_slots (there (fields (absent no_slots) no_slots) no_slots)

abbrev cut_default : Schema
cut_default = Schema.sequence Order.listed (part here (default vacant_default) Schema.cut no_parts) false no_parts

abbrev whole_default : Schema
whole_default = Schema.sequence Order.listed (part here (default vacant_default) whole_group no_parts) false no_parts

default_cut : CutOf cut_default whole_default
default_cut = cut_sequence (cut_part cut_here no_cut) no_cut

two_encodings : (bytes unaligned cut_default (normal cut_default (nested vacant_default)) ≡ Some (0 ∷ [])) × (bytes unaligned whole_default (normal whole_default (nested vacant_default)) ≡ Some (128 ∷ []))
unfolding bytes normal
two_encodings = (refl, refl)
