-- The fault that a refusal names, where it stands.
use Rattle.std.specs.Prelude.{◌≡◌, ◌≤◌, ◌⊎◌, ℕ, true, [], length, Some, Result, Ok, Err}
use Rattle.rasn_schema.specs.Schemas
use Rattle.rasn_schema.specs.Schemas.{Schema, no_parts}
use Rattle.per_core.specs.Basic.{IsBitmap}
use Rattle.per_core.specs.Spellings.{NoneIn}
use Rattle.per_core.specs.declared.decode_error.DecodeError.{DecodeError}
use Rattle.per_core.specs.declared.decode_error.DecodeErrorKind.{DecodeErrorKind}
use Rattle.per_core.specs.declared.decode_error.DecodeErrorKind.TheVariants.{AlreadyFailed, MissingTag}
use Rattle.per_core.specs.declared.decode_error.DecodeErrorKind.TheVariants.{TypeNotExtensible}
use Rattle.per_core.specs.AdditionFaults.{IsOfBitmap, ahead}
use Rattle.per_core.specs.Ends.{IsOfEnd}
use Rattle.per_decoding.specs.Additions.{Asks, OutsideAddition}
use Rattle.per_decoding.specs.State.{State, refused, settings_of, with_last}
use Rattle.per_core.specs.ReadingFaults.{IsOfLacking, IsInBits, IsInTail, IsInOpen}

-- What a kind says of the decoder.
abbrev pub IsOf : DecodeErrorKind → Schema → State → Type 0
IsOf AlreadyFailed c s = s.failed ≡ true
IsOf k c s = IsInBits (settings_of s) k c s.bits

-- A refusal has the codec in use, and its fault is in the bits that were left.
pub record Fault (c : Schema) (e : DecodeError) (s : State) : Type 0 where
  pub codec : e.codec ≡ s.codec
  pub stands : IsOf e.kind c s

-- the refusal of a kind
abbrev pub refusal : DecodeErrorKind → State → DecodeError
refusal k s = record { kind = k; codec = s.codec }

-- A decoder's answer to what a reader of its bits took that has so many bits left: the value, with these bits left; or
-- the refusal of its kind, after which the decoder has failed.
abbrev pub Answered : {T : Type 0} → Result T DecodeErrorKind → ℕ → State → Result T DecodeError → State → Type 0
Answered (Ok v) left s result t = (result ≡ Ok v) × (t ≡ with_last s left)
Answered (Err k) left s result t = (result ≡ Err (refusal k s)) × (t ≡ refused s)

-- an error by which a presence bit is refused: none is left, or the decoder had failed
abbrev pub IsUnmarked : DecodeError → State → Type 0
IsUnmarked e s = ((e ≡ refusal MissingTag s) × (s.presences ≡ [])) ⊎ ((e ≡ refusal AlreadyFailed s) × (s.failed ≡ true))

-- The fault that a kind names is in the next addition: it is asked for out of turn, before all presence bits of the
-- root were read; none is expected; or it is in the bitmap, or in the addition's open type.
pub data IsInNext (k : DecodeErrorKind) (c : Schema) (s : State) : Type 0 where
  out_of_turn : k ≡ MissingTag → (s.presences ≡ [] → ⊥) → IsInNext k c s
  not_expected : k ≡ TypeNotExtensible → s.expected ≡ 0 → IsInNext k c s
  at_bitmap : s.extension ≡ ahead → IsOfBitmap (settings_of s) s.bits k → NoneIn (IsBitmap (settings_of s)) s.bits
      → IsInNext k c s
  in_open : {m : State} → Asks s (Some true) m → IsInOpen (settings_of s) k c m.bits → IsInNext k c s

-- What a kind says of the decoder, where an addition is asked for.
abbrev pub IsOfNext : DecodeErrorKind → Schema → State → Type 0
IsOfNext AlreadyFailed c s = s.failed ≡ true
IsOfNext k c s = IsInNext k c s

-- A refusal has the codec in use, and its fault is in the next addition.
pub record Misadds (c : Schema) (e : DecodeError) (s : State) : Type 0 where
  pub codec : e.codec ≡ s.codec
  pub stands : IsOfNext e.kind c s

-- A refusal says that a required addition of this tag isn't there.
pub record Lacks (t : Schemas.Tag) (e : DecodeError) (s : State) : Type 0 where
  pub codec : e.codec ≡ s.codec
  pub stands : IsOfLacking t e.kind

-- What a kind says where a record can't end: a presence bit wasn't read, or an addition wasn't asked for; or it says it
-- of the bitmap, or of an addition that the schema doesn't know.
pub data IsOfEnding (k : DecodeErrorKind) (s : State) : Type 0 where
  unread : k ≡ MissingTag → (s.presences ≡ [] → s.expected ≡ 0 → ⊥) → IsOfEnding k s
  unskipped : s.presences ≡ [] → s.expected ≡ 0 → IsInTail (settings_of s) k no_parts s.extension s.bits
      → IsOfEnding k s

-- A record can't end here.
pub record Unended (e : DecodeError) (s : State) : Type 0 where
  pub codec : e.codec ≡ s.codec
  pub stands : IsOfEnding e.kind s

-- What is left of the contents of an open type doesn't end them (X.691 11.1): no more is left than they had.
pub record UnendedAddition (w : OutsideAddition) (e : DecodeError) (s : State) : Type 0 where
  pub codec : e.codec ≡ s.codec
  pub stands : length s.bits ≤ w.total → IsOfEnd (settings_of s) s.bits w.total e.kind
