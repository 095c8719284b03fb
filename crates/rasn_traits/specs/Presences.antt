-- Components that may be absent: their presence bits, and what stands for one that isn't there (ITU-T X.691, 19.2 and
-- 19.5).
use Rattle.std.specs.Prelude.{Bool, true, false, not, Option, Some, None}
use Rattle.rasn_types.specs.Values.{Value, same}
use Rattle.rasn_schema.specs.Schemas.{Presence, required, optional, group, default}

-- X.691 19.2, 19.5: the presence bit of a component; a required one has none, and one at its default isn't there
abbrev pub presence_bit : Presence → Option Value → Option Bool
presence_bit required r = None
presence_bit optional None = Some false
presence_bit optional (Some v) = Some true
presence_bit group None = Some false
presence_bit group (Some v) = Some true
presence_bit (default d) None = None
presence_bit (default d) (Some v) = Some (not (same v d))

-- X.691 19.5: what stands for a component that isn't there; a required one always is
abbrev pub left_out : Presence → Option (Option Value)
left_out required = None
left_out optional = Some None
left_out group = Some None
left_out (default d) = Some (Some d)

-- what a component that may be absent is, of a value that may be there
abbrev pub slot_of : {T : Type 0} → (T → Value) → Option T → Option Value
slot_of value None = None
slot_of value (Some x) = Some (value x)
