-- What isn't allowed between two versions makes no newer version.
use Rattle.std.proofs.Common.{ℕ, ◌≤◌, Bool, true, arith}
use Rattle.rasn_schema.specs.Forms.{always}
use Rattle.rasn_schema.specs.Schemas.{TagTree, Presence, Order, Schema, Parts, no_parts, part}
use Rattle.rasn_below.specs.Types.{sequence_at}
use Rattle.per_core.specs.Versions.{Newer, NewerParts, NewerType, unchanged, more_items, newer_sequence, also}
use Rattle.per_samples_b.specs.Outers.{outer2, outer3}

of_additions : {o o' : Order} {ext ext' : Bool} {ps' ps adds' adds : Parts} → Newer (Schema.sequence o' ps' ext' adds') (Schema.sequence o ps ext adds) → NewerParts ext adds' adds
of_additions (unchanged h) = absurd h
of_additions (newer_sequence n ns) = ns

others : {may : Bool} {t t' : TagTree} {p' p : Presence} {s' s : Schema} {ps' ps : Parts} → NewerParts may (part t' p' s' ps') (part t p s ps) → NewerParts may ps' ps
others (also h n ns) = ns

none_left : {may : Bool} {t : TagTree} {p : Presence} {s : Schema} {ps : Parts} → NewerParts may no_parts (part t p s ps) → ⊥
none_left k = elim k [ ]

pub addition_left_out : NewerType (sequence_at outer2) (sequence_at outer3) → ⊥
addition_left_out k = none_left (others (of_additions (k 1)))

as_many : {r r' e e' : ℕ} {x x' : Bool} → Newer (Schema.items r' e' x') (Schema.items r e x) → e ≤ e'
as_many (unchanged h) = omega arith
as_many (more_items l) = l

pub item_left_out : NewerType (always (Schema.items 1 0 true)) (always (Schema.items 1 1 true)) → ⊥
item_left_out k = let l : 1 ≤ 0 = as_many (k 0) in absurd (omega arith)
