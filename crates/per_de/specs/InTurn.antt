-- Scopes that count what comes in them, records in which nothing is counted, and the steps by which they are entered
-- and left, which count nothing.
use Rattle.std.specs.Prelude.{◌≡◌, ◌<◌, ℕ, suc, Bool, true, false, [], Result, IfOk, IsErrAnd, OnOk, List, Option}
use Rattle.rasn_types.specs.Values.{Side, Value}
use Rattle.rasn_constraints.specs.Bounds.{Size}
use Rattle.rasn_schema.specs.Structures.{presence_bits}
use Rattle.rasn_schema.specs.Schemas.{Parts, Schema, count}
use Rattle.rasn_traits.specs.Calls.{Behaves}
use Rattle.rasn_traits.specs.Counted.{AreCounted}
use Rattle.rasn_traits.specs.Lists.{ElementFound}
use Rattle.rasn_traits.specs.Scopes.{ClosedRead, OpensInTurn as OpensRecordInTurn, OpensToRead}
use Rattle.per_read.specs.Lists.{most}
use Rattle.per_core.specs.declared.decode_error.DecodeError.{DecodeError}
use Rattle.per_core.specs.declared.decode_error.DecodeErrorKind.TheVariants.{MissingTag}
use Rattle.per_decoding.specs.Additions.{ClosesAddition, OpensAddition, OpensContaining}
use Rattle.per_decoding.specs.Choices.{ClosesChoice, OpensChoice, UnendedChoice}
use Rattle.per_decoding.specs.Faults.{Unended, UnendedAddition, refusal}
use Rattle.per_decoding.specs.InTurn.{AddsInTurn, ChoosesInTurn, ContainsInTurn, Leaves, OpensDue, Unfinished}
use Rattle.per_decoding.specs.Rules.{decoder_rules, plain_rules}
use Rattle.per_decoding.specs.Scopes.{Closes}
use Rattle.per_decoding.specs.State.{State}
use Rattle.per_decoding.specs.Turns.{Turn, awaiting, is_complete, is_uncounted, uncounted}
use Rattle.per_de.specs.Lists.{IsOpenList}
use Rattle.per_de.specs.Openings.{is_open}
use Rattle.per_de.specs.Outsides.{outside_addition_of, outside_choice_of, outside_record_of}
use Rattle.per_de.specs.Turns.{turn_of}
use Rattle.per_de.specs.declared.Addition.{Addition}
use Rattle.per_de.specs.declared.Alternative.{Alternative}
use Rattle.per_de.specs.declared.ListScope.{ListScope}
use Rattle.per_de.specs.declared.Scope.{Scope}
use Rattle.per_de.specs.declared.turns.Around.{Around}

-- A step keeps a law, and behaves as each call does.
pub record Owes {T : Type 0} (what : Type 0) (s : State) (result : Result T DecodeError) (t : State) : Type 0 where
  pub law : what
  pub behaves : Behaves plain_rules.already plain_rules.failed plain_rules.codec s result t

-- the open type of an addition is open, and what waits outside
abbrev pub is_addition_open : State → Addition → State → Type 0
is_addition_open s o i = OpensAddition s (outside_addition_of i.source o) i

-- octets that contain a value are open, and what waits outside
abbrev pub are_open : State → Addition → State → Type 0
are_open s o i = OpensContaining s (outside_addition_of i.source o) i

-- a choice is open, and what waits outside
abbrev pub is_choice_open : Schema → Side → ℕ → State → Alternative → State → Type 0
is_choice_open c d k s o i = OpensChoice c d k s (outside_choice_of i.source o) i

-- A step that leaves a record. Where a presence bit or an addition wasn't read it is refused as out of turn.
pub record LeavesRecord (o : Scope) (s : State) (result : Result (Unit {0}) DecodeError) (t : State) : Type 0 where
  pub law : s.failed ≡ false → ClosedRead plain_rules (λ o e s. Unended e s)
      (λ s o t. Closes s (outside_record_of s.source o) t) o s result t
  pub early : s.failed ≡ false → (s.presences ≡ [] → s.expected ≡ 0 → ⊥)
      → IsErrAnd result (λ e. e ≡ refusal MissingTag s)
  pub behaves : Behaves plain_rules.already plain_rules.failed plain_rules.codec s result t

-- a step that leaves a choice
abbrev pub LeavesChoice : Alternative → State → Result (Unit {0}) DecodeError → State → Type 0
LeavesChoice o s result t = Owes (s.failed ≡ false
    → ClosedRead plain_rules (λ o e s. UnendedChoice (outside_choice_of s.source o).contents e s)
    (λ s o t. ClosesChoice s (outside_choice_of s.source o) t) o s result t) s result t

-- a step that leaves an open type
abbrev pub LeavesOpen : Addition → State → Result (Unit {0}) DecodeError → State → Type 0
LeavesOpen o s result t = Owes (s.failed ≡ false
    → ClosedRead plain_rules (λ o e s. UnendedAddition (outside_addition_of s.source o) e s)
    (λ s o t. ClosesAddition s (outside_addition_of s.source o) t) o s result t) s result t

-- a record is open in which so much is to come for so many root components, and what waits outside
abbrev pub is_open_due : (ℕ → Turn) → Schema → State → Around Scope → State → Type 0
is_open_due due c s o i = OpensDue due c s (outside_record_of i.source o.scope) (turn_of o.turn) i

-- it is closed, where it can end by what came
abbrev pub closes_at : (Turn → Bool) → State → Around Scope → State → Type 0
closes_at ends s o t = Leaves ends (λ a b. Closes a (outside_record_of s.source o.scope) b) s (turn_of o.turn) t

-- a record is open that counts what comes in it
abbrev pub is_open_in_turn : Schema → State → Around Scope → State → Type 0
is_open_in_turn = is_open_due awaiting

-- it is closed
abbrev pub closes_in_turn : State → Around Scope → State → Type 0
closes_in_turn = closes_at is_complete

-- it can't end
abbrev pub unended_in_turn : Around Scope → DecodeError → State → Type 0
unended_in_turn o e s = Unfinished is_complete Unended e s

-- a record is open in which nothing is counted
abbrev pub is_open_uncounted : Schema → State → Around Scope → State → Type 0
is_open_uncounted = is_open_due (λ n. uncounted)

-- it is closed
abbrev pub closes_uncounted : State → Around Scope → State → Type 0
closes_uncounted = closes_at is_uncounted

-- it can't end
abbrev pub unended_uncounted : Around Scope → DecodeError → State → Type 0
unended_uncounted o e s = Unfinished is_uncounted Unended e s

-- A call that opens a record of as many root components, and as many of them with presence bits, as these, and counts
-- them.
pub record OpensCounted (parts : ℕ → Parts) (marker : Bool) (additions : ℕ → Parts) (s : State)
    (result : Result (Around Scope) DecodeError) (t : State) : Type 0 where
  pub in_turn : (ps : ℕ → Parts) → ((n : ℕ) → presence_bits (ps n) ≡ presence_bits (parts n))
      → ((n : ℕ) → count (ps n) ≡ count (parts n))
      → OpensRecordInTurn decoder_rules is_open_in_turn ps marker additions s result t

-- A step before each element of an open list, and at its end.
pub record GoesOn (l : ListScope) (i : State) (result : Result Bool DecodeError) (m : ListScope) (j : State)
    : Type 0 where
  pub law : (e : Schema) (size : Size) (mark : Bool) (s : State) (vs : List Value) → IsOpenList e size mark s vs l i
      → ElementFound plain_rules IsOpenList e size mark s vs result m j
  pub falls : IfOk result (λ follows. follows ≡ true → most m.list < most l.list)
  pub live : OnOk result (j.failed ≡ false)
  pub beside : OnOk result ((j.presences ≡ i.presences) × (j.expected ≡ i.expected) × (j.source ≡ i.source))
  pub behaves : Behaves plain_rules.already plain_rules.failed plain_rules.codec i result j

-- A step that enters any record of components and additions that are so counted.
pub record EntersRecord (bits : ℕ) (added : Option ℕ) (s : State) (result : Result Scope DecodeError)
    (t : State) : Type 0 where
  pub opened : (parts : ℕ → Parts) (marker : Bool) (additions : ℕ → Parts)
      → AreCounted parts marker additions bits added → OpensToRead plain_rules is_open parts marker additions s result t
  pub deeper : IfOk result (λ o. s.levels ≡ suc t.levels)
  pub live : OnOk result (t.failed ≡ false)
  pub behaves : Behaves plain_rules.already plain_rules.failed plain_rules.codec s result t

-- a choice is open in which one value is due, and what waits outside
abbrev pub is_choice_in_turn : Schema → Side → ℕ → State → Around Alternative → State → Type 0
is_choice_in_turn c d k s o i = ChoosesInTurn c d k s (outside_choice_of i.source o.scope) (turn_of o.turn) i

-- so is the open type of an addition
abbrev pub is_addition_in_turn : State → Around Addition → State → Type 0
is_addition_in_turn s o i = AddsInTurn s (outside_addition_of i.source o.scope) (turn_of o.turn) i

-- so are octets that contain a value
abbrev pub are_in_turn : State → Around Addition → State → Type 0
are_in_turn s o i = ContainsInTurn s (outside_addition_of i.source o.scope) (turn_of o.turn) i
