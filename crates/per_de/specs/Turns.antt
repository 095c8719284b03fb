-- How a decoder keeps what is still to come in the open scope.
use Rattle.std.specs.Prelude.{◌≡◌, ◌⊎◌, Bool, true, false, Result, Ok, Err}
use Rattle.per_core.specs.declared.decode_error.DecodeError.{DecodeError}
use Rattle.per_core.specs.declared.decode_error.DecodeErrorKind.TheVariants.{AlreadyFailed, MissingTag}
use Rattle.per_decoding.specs.Faults.{refusal}
use Rattle.per_decoding.specs.State.{State, refused}
use Rattle.per_decoding.specs.Turns as Counting
use Rattle.per_decoding.specs.Turns.{is_between, is_complete}
use Rattle.per_de.specs.declared.turns.Mode.{Mode}
use Rattle.per_de.specs.declared.turns.Mode.TheVariants as Now
use Rattle.per_de.specs.declared.turns.Turn.{Turn}
use Rattle.per_de.specs.declared.turns.Turn.TheVariants.{Uncounted, Awaiting, InList, Misplaced}

-- how many components are still to come
abbrev pub turn_of : Turn → Counting.Turn
turn_of Uncounted = Counting.uncounted
turn_of (Awaiting n) = Counting.awaiting n
turn_of (InList n) = Counting.in_list n
turn_of Misplaced = Counting.misplaced

-- whether a call has refused
abbrev pub is_failed : Mode → Bool
is_failed Now.Uncounted = false
is_failed (Now.Awaiting n) = false
is_failed (Now.InList n) = false
is_failed Now.Misplaced = false
is_failed Now.Failed = true

-- how many components are still to come, where none has refused
abbrev pub turn_in : Mode → Counting.Turn
turn_in Now.Uncounted = Counting.uncounted
turn_in (Now.Awaiting n) = Counting.awaiting n
turn_in (Now.InList n) = Counting.in_list n
turn_in Now.Misplaced = Counting.misplaced
turn_in Now.Failed = Counting.uncounted

-- Ok says that no call has refused and that all came that is due in the open scope; where not as much came, or too
-- much, it is refused.
abbrev pub IsComplete : State → Result (Unit {0}) DecodeError → State → Type 0
IsComplete s (Ok u) t = (s.failed ≡ false) × (is_complete s.turn ≡ true) × (t ≡ s)
IsComplete s (Err e) t = ((s.failed ≡ true) × (e ≡ refusal AlreadyFailed s) × (t ≡ s))
    ⊎ ((s.failed ≡ false) × (is_complete s.turn ≡ false) × (e ≡ refusal MissingTag s) × (t ≡ refused s))

-- Ok says that no call has refused and that in the open list no value is still to come before it is gone on in; else it
-- is refused.
abbrev pub IsBetween : State → Result (Unit {0}) DecodeError → State → Type 0
IsBetween s (Ok u) t = (s.failed ≡ false) × (is_between s.turn ≡ true) × (t ≡ s)
IsBetween s (Err e) t = ((s.failed ≡ true) × (e ≡ refusal AlreadyFailed s) × (t ≡ s))
    ⊎ ((s.failed ≡ false) × (is_between s.turn ≡ false) × (e ≡ refusal MissingTag s) × (t ≡ refused s))
