-- Scopes that count the components that come in them, and records in which nothing is counted: what opening and closing
-- one do to a decoder, told by what they do to one that never counts.
use Rattle.std.specs.Prelude.{◌≡◌, ◌⊎◌, ℕ, Bool, true, false}
use Rattle.rasn_types.specs.Values.{Side}
use Rattle.rasn_schema.specs.Normal.{root_of}
use Rattle.rasn_schema.specs.Schemas.{Schema, count}
use Rattle.per_core.specs.declared.decode_error.DecodeError.{DecodeError}
use Rattle.per_core.specs.declared.decode_error.DecodeErrorKind.TheVariants.{MissingTag}
use Rattle.per_decoding.specs.Additions.{OpensAddition, OpensContaining, OutsideAddition}
use Rattle.per_decoding.specs.Choices.{OpensChoice, OutsideChoice}
use Rattle.per_decoding.specs.Faults.{refusal}
use Rattle.per_decoding.specs.Scopes.{Opens, OutsideRecord}
use Rattle.per_decoding.specs.State.{State, with_turn}
use Rattle.per_decoding.specs.Turns.{Turn, awaiting, next, uncounted}

-- A scope is entered in which so much is to come; what is still to come around it waits.
pub record Enters (opens : State → State → Type 0) (due around : Turn) (s : State) (waits : Turn)
    (i : State) : Type 0 where
  pub opened : opens (with_turn around s) (with_turn around i)
  pub waiting : waits ≡ around
  pub counts : i.turn ≡ due

-- It is left where it can end by what came; what is still to come around it is back.
pub record Leaves (ends : Turn → Bool) (closes : State → State → Type 0) (s : State) (waits : Turn)
    (t : State) : Type 0 where
  pub complete : ends s.turn ≡ true
  pub closed : closes s (with_turn s.turn t)
  pub back : t.turn ≡ waits

-- It can't end: by what came, or where nothing were counted.
abbrev pub Unfinished : (Turn → Bool) → (DecodeError → State → Type 0) → DecodeError → State → Type 0
Unfinished ends unended e s = ((e ≡ refusal MissingTag s) × (ends s.turn ≡ false)) ⊎ unended e s

-- a record, which is a component of what is around it, and in which so much is to come for so many root components
abbrev pub OpensDue : (ℕ → Turn) → Schema → State → OutsideRecord → Turn → State → Type 0
OpensDue due c s w waits i = Enters (λ a b. Opens c a w b) (due (count (root_of c))) (next s.turn) s waits i

-- a record that counts its components
abbrev pub OpensInTurn : Schema → State → OutsideRecord → Turn → State → Type 0
OpensInTurn = OpensDue awaiting

-- a record in which nothing is counted
abbrev pub OpensUncounted : Schema → State → OutsideRecord → Turn → State → Type 0
OpensUncounted = OpensDue (λ n. uncounted)

-- a choice, which is a component of what is around it
abbrev pub ChoosesInTurn : Schema → Side → ℕ → State → OutsideChoice → Turn → State → Type 0
ChoosesInTurn c d k s w waits i = Enters (λ a b. OpensChoice c d k a w b) (awaiting 1) (next s.turn) s waits i

-- octets that contain a value, which are one too
abbrev pub ContainsInTurn : State → OutsideAddition → Turn → State → Type 0
ContainsInTurn s w waits i = Enters (λ a b. OpensContaining a w b) (awaiting 1) (next s.turn) s waits i

-- the open type of an addition, which isn't counted among the components
abbrev pub AddsInTurn : State → OutsideAddition → Turn → State → Type 0
AddsInTurn s w waits i = Enters (λ a b. OpensAddition a w b) (awaiting 1) s.turn s waits i
