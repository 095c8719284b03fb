-- How a record is opened, whichever the order of its root components (X.691 19.1, 19.2, 21.1).
use Rattle.std.specs.Prelude.{◌≡◌, ℕ, Bool, Result}
use Rattle.rasn_schema.specs.Structures.{presence_bits}
use Rattle.rasn_schema.specs.Schemas.{Parts, Schema}
use Rattle.rasn_traits.specs.Scopes.{OpensToRead}
use Rattle.per_core.specs.declared.decode_error.DecodeError.{DecodeError}
use Rattle.per_decoding.specs.Rules.{plain_rules}
use Rattle.per_decoding.specs.Scopes.{Opens}
use Rattle.per_decoding.specs.State.{State}
use Rattle.per_de.specs.Outsides.{outside_record_of}
use Rattle.per_de.specs.declared.Scope.{Scope}

-- a record is open, and what waits outside
abbrev pub is_open : Schema → State → Scope → State → Type 0
is_open c s o i = Opens c s (outside_record_of i.source o) i

-- A call that opens a record of root components with as many presence bits as these.
pub record OpensRecord (parts : ℕ → Parts) (marker : Bool) (additions : ℕ → Parts) (s : State)
    (result : Result Scope DecodeError) (t : State) : Type 0 where
  pub to_read : (ps : ℕ → Parts) → ((n : ℕ) → presence_bits (ps n) ≡ presence_bits (parts n))
      → OpensToRead plain_rules is_open ps marker additions s result t
