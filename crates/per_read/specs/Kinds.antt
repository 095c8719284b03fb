-- Refusals by their kinds.
use Rattle.std.specs.Prelude.{◌≡◌, ◌⊎◌, ◌<◌}
use Rattle.rasn_constraints.specs.Bounds.{number_of}
use Rattle.per_core.specs.declared.decode_error.DecodeErrorKind.{DecodeErrorKind}
use Rattle.per_core.specs.declared.decode_error.DecodeErrorKind.TheVariants.{Incomplete, ParserFail, ExceedsMaxLength}
use Rattle.per_core.specs.declared.decode_error.DecodeErrorKind.TheVariants.{OutOfMemory}
use Rattle.per_core.specs.declared.decode_error.ParserFailCause.TheVariants.{NonzeroEmptyValue}

-- Kinds of which little is stated: a field that isn't there lacks a bit at least, and of a value of no bits nothing is
-- said but at the end of an encoding. That they come where they should is tested.
abbrev pub IsTested : DecodeErrorKind → Type 0
IsTested (Incomplete missing) = 0 < number_of missing
IsTested (ParserFail NonzeroEmptyValue) = ⊥
IsTested (ParserFail cause) = Unit {0}
IsTested ExceedsMaxLength = Unit {0}
IsTested _ = ⊥

-- want of memory, or a kind of which P holds, where a fact does
abbrev pub Faulty : (DecodeErrorKind → Type 0) → Type 0 → DecodeErrorKind → Type 0
Faulty P A k = (k ≡ OutOfMemory) ⊎ (P k × A)

-- a refusal of a kind that tests show, where a fact holds
abbrev pub Refused : Type 0 → DecodeErrorKind → Type 0
Refused A k = IsTested k × A

-- want of memory, or such a refusal
abbrev pub Stopped : Type 0 → DecodeErrorKind → Type 0
Stopped A = Faulty IsTested A
