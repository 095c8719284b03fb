-- What a reading call takes off the front of the bits left, and why it refuses.
use Rattle.std.specs.Prelude.{◌≡◌, ℕ, length, Result, IfOk, IfErr}
use Rattle.rasn_types.specs.Bits.{Bits}
use Rattle.per_core.specs.Spellings.{Settings, Spelling, When, exactly, Took, NoneIn}
use Rattle.per_core.specs.BitFieldFaults.{IsOfBitField}
use Rattle.per_read.specs.Kinds.{IsTested, Refused, Faulty}
use Rattle.per_read.specs.ReaderState.{ReaderState, settings_of}
use Rattle.per_core.specs.declared.decode_error.DecodeErrorKind.{DecodeErrorKind}

-- why a call refuses, where a fact holds of the bits left
abbrev pub Reason : Type 1
Reason = Settings → Bits → Type 0 → DecodeErrorKind → Type 0

-- bits end within a field of w bits
abbrev pub lacking : ℕ → Reason
lacking w a s A k = IsOfBitField w s k × A

-- a kind that tests show
abbrev pub tested : Reason
tested a s = Refused

-- a kind that says something of the bits
abbrev pub telling : (Settings → Bits → DecodeErrorKind → Type 0) → Reason
telling says a s A k = says a s k × A

-- want of memory, or a kind that says something of the bits
abbrev pub memory_or : (Settings → Bits → DecodeErrorKind → Type 0) → Reason
memory_or says a s = Faulty (says a s)

-- want of memory, or a kind that tests show
abbrev pub stopped : Reason
stopped = memory_or (λ a s. IsTested)

-- a fact of what is answered
abbrev pub itself : {X : Type 0} → (X → Type 0) → X → Type 0
itself P v = P v

-- what is told by nothing but that it is there
abbrev pub alone : (Settings → Spelling) → Settings → Unit {0} → Spelling
alone form a u = form a

-- a front of so many bits, whichever they are
abbrev pub Front : ℕ → Bits → Spelling
Front n bits = When (length bits ≡ n) (exactly bits)

-- A call that takes what a form spells: Ok answers what a front of the bits left spells, and the bits after it are
-- left; Err comes only where no front spells anything, for a reason; and how it reads stays. `of` says what of the form
-- an answer is.
pub record Takes {T X : Type 0} (why : Reason) (form : Settings → X → Spelling) (of : (X → Type 0) → T → Type 0)
    (x : ReaderState)
    (result : Result T DecodeErrorKind) (y : ReaderState) : Type 0 where
  pub ok : IfOk result (of (λ v. Took (form (settings_of x) v) x.bits y.bits))
  pub err : IfErr result (why (settings_of x) x.bits (NoneIn (form (settings_of x)) x.bits))
  pub kept : y.options ≡ x.options
