-- How the contents of an open type end (X.691 11.1, 11.2).
use Rattle.std.specs.Prelude.{ℕ, List, length, Result, OnOk, IfErr}
use Rattle.rasn_types.specs.Bits.{Bits, unpack}
use Rattle.per_core.specs.Ends.{Ends, IsOfEnd}
use Rattle.per_core.specs.Spellings.{Settings, Spelling, Took}
use Rattle.per_read.specs.ReaderState.{ReaderState, settings_of}
use Rattle.per_core.specs.declared.decode_error.DecodeErrorKind.{DecodeErrorKind}

-- X.691 11.1: what is left of n bits after a value ends a complete encoding, in zero bits where the settings ask for
-- them
abbrev pub EndsAs : Settings → Bits → ℕ → Type 0
EndsAs a left n = Ends a.strict left n

-- X.691 11.1: what has a spelling is read of octets, and what is left of them ends a complete encoding
pub record IsWhole (a : Settings) (f : Spelling) (octets : List ℕ) : Type 0 where
  pub left : Bits
  pub took : Took f (unpack octets) left
  pub ends : EndsAs a left (length (unpack octets))

-- Ok comes exactly where what is left of n bits ends a complete encoding, and Err says why it doesn't.
pub record EndsOpen (x : ReaderState) (n : ℕ) (result : Result (Unit {0}) DecodeErrorKind) : Type 0 where
  pub ok : OnOk result (EndsAs (settings_of x) x.bits n)
  pub none : IfErr result (λ k. EndsAs (settings_of x) x.bits n → ⊥)
  pub err : IfErr result (IsOfEnd (settings_of x) x.bits n)
