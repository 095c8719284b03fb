-- What is taken off the front of the bits left is read, and has few items (X.691 11.9).
use Rattle.std.specs.Prelude.{◌≡◌, true, false, Some}
use Rattle.rasn_types.specs.Values.{Value}
use Rattle.rasn_schema.specs.Schemas.{Schema}
use Rattle.per_core.specs.Basic.{OpenOf, basic}
use Rattle.per_core.specs.Spellings.{Took}
use Rattle.per_core.proofs.TakenItems.{took_few, open_few}
use Rattle.per_decoding.specs.Additions.{AddsValue, Asks}
use Rattle.per_decoding.specs.State.{State, Spells, settings_of, with_bits}

-- a value
pub spelled : {c : Schema} {s : State} {v : Value} {t : State} → s.failed ≡ false
    → Took (basic (settings_of s) c v) s.bits t.bits → t ≡ with_bits s t.bits → Spells c s v t
spelled {c = c} {s = s} {v = v} {t = t} live took same =
    let f = took_few (settings_of s) c v s.bits t.bits took in
    record { live = live; took = took; same = same; few = f.0; within = f.1 }

-- an addition
pub added : {c : Schema} {s : State} {v : Value} {t : State} (m : State) → Asks s (Some true) m
    → Took (OpenOf (settings_of s) (basic (settings_of s) c) v) m.bits t.bits → t ≡ with_bits m t.bits
    → AddsValue c s v t
added {c = c} {s = s} {v = v} {t = t} m asks took same =
    let f = open_few (settings_of s) c v _ s.bits m.bits t.bits asks.taken took in
    record { middle = m; asks = asks; took = took; same = same; few = f.0; within = f.1 }
