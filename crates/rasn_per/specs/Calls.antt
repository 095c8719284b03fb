-- What the calls answer in either variant: the main theorem.
use Rattle.std.specs.Prelude.{◌≡◌, ℕ, Bool, false, List, Some, None, ◌≢◌, true, [], Vec, Result, OnOk, OnErr, IfOk}
use Rattle.std.specs.Prelude.{IfErr, ◌≤◌, ◌*◌, ◌-◌, ◌++◌, length}
use Rattle.std.specs.Borrow.{Bor}
use Rattle.rasn_types.specs.Variants.{Variant, variant_of}
use Rattle.rasn_types.specs.Values.{Value}
use Rattle.rasn_types.specs.declared.types.Codec.{Codec}
use Rattle.rasn_schema.specs.Schemas.{Schema}
use Rattle.rasn_schema.specs.Normal.{normal, AtDepths}
use Rattle.per_core.specs.Spellings.{Settings}
use Rattle.per_core.specs.Canon.{bytes}
use Rattle.per_core.specs.Basic.{front, read}
use Rattle.per_core.specs.WritingFaults.{IsInValue}
use Rattle.per_core.specs.ItemCounts.{item_count, most_items, HasAtMost}
use Rattle.per_core.specs.declared.encode_error.EncodeError.{EncodeError}
use Rattle.per_core.specs.declared.encode_error.EncodeErrorKind.TheVariants.{OutOfMemory as no_room_to_write}
use Rattle.per_core.specs.declared.decode_error.DecodeError.{DecodeError}
use Rattle.per_core.specs.declared.decode_error.DecodeErrorKind.TheVariants.{OutOfMemory as no_room_to_read}
use Rattle.per_core.specs.declared.decode_error.DecodeErrorKind.{DecodeErrorKind}
use Rattle.rasn_per.specs.Kinds.{IsInFront, IsInOctetsBy}

-- X.691 11.1: octets are the canonical bytes of a value's normal form, by the schema of its type at each depth that
-- holds the value
abbrev pub AreBytes : Variant → (ℕ → Schema) → ℕ → Value → List ℕ → Type 0
AreBytes a schema levels v octets = AtDepths schema levels (λ s. bytes a s (normal s v) ≡ Some octets)

-- there are none
abbrev pub HasNoBytes : Variant → (ℕ → Schema) → ℕ → Value → Type 0
HasNoBytes a schema levels v = AtDepths schema levels (λ s. bytes a s (normal s v) ≡ None)

-- a reader that takes padding of any value, or of zero bits alone (this project's choice)
abbrev pub reading : Bool → Variant → Settings
reading strict a = record { variant = a; strict = strict }

-- a reader that takes any padding bits
abbrev pub basically : Variant → Settings
basically a = reading false a

-- within 128 levels octets are read as a value, and as no other
pub record AreReadBy (a : Settings) (schema : ℕ → Schema) (v : Value) (octets : List ℕ) : Type 0 where
  pub are_read : read a schema v octets
  pub only : (w : Value) → read a schema w octets → w ≡ v

-- within 128 levels octets are read as no value
abbrev pub AreUnreadBy : Settings → (ℕ → Schema) → List ℕ → Type 0
AreUnreadBy a schema octets = (v : Value) → read a schema v octets → ⊥

-- within 128 levels octets are read as a value, and as no other, where padding has any value
abbrev pub AreReadAs : Variant → (ℕ → Schema) → Value → List ℕ → Type 0
AreReadAs a = AreReadBy (basically a)

abbrev pub AreUnread : Variant → (ℕ → Schema) → List ℕ → Type 0
AreUnread a = AreUnreadBy (basically a)

-- within 128 levels octets begin with an encoding of a value and leave the rest, and with none of another value or with
-- another rest
pub record BeginWith (a : Variant) (schema : ℕ → Schema) (v : Value) (octets rest : List ℕ) : Type 0 where
  pub are_read : front (basically a) (schema 128) v octets rest
  pub only : (w : Value) (after : List ℕ) → front (basically a) (schema 128) w octets after → (w ≡ v) × (after ≡ rest)

-- within 128 levels octets begin with an encoding of no value
abbrev pub BeginWithNone : Variant → (ℕ → Schema) → List ℕ → Type 0
BeginWithNone a schema octets = (v : Value) (rest : List ℕ) → front (basically a) (schema 128) v octets rest → ⊥

-- A value is written by the schema of its type: its canonical bytes, or, memory aside, a refusal only where it has
-- none, whose kind names a fault of the value.
pub record Encoded {Z : Type 0} (codec : Codec) (schema : ℕ → Schema) (levels : ℕ) (v : Value)
    (result : Result (Vec ℕ Z) EncodeError) : Type 0 where
  pub ok : IfOk result (λ octets. AreBytes (variant_of codec) schema levels v octets.items)
  pub err : IfErr result (λ e. e.kind ≢ no_room_to_write → HasNoBytes (variant_of codec) schema levels v)
  pub kind : IfErr result (λ e. e.kind ≢ no_room_to_write → AtDepths schema levels
      (λ s. IsInValue e.kind s (normal s v)))
  pub variant : IfErr result (λ e. e.codec ≡ codec)

-- A value is written by the schema of its type into a buffer, in place of what it held: its canonical bytes, or, memory
-- aside, a refusal only where it has none, whose kind names a fault of the value. The buffer is empty after a refusal.
pub record EncodedInto (codec : Codec) (schema : ℕ → Schema) (levels : ℕ) (v : Value)
    (result : Result (Unit {0}) EncodeError) (buffer : List ℕ) : Type 0 where
  pub ok : OnOk result (AreBytes (variant_of codec) schema levels v buffer)
  pub empty : OnErr result (buffer ≡ [])
  pub err : IfErr result (λ e. e.kind ≢ no_room_to_write → HasNoBytes (variant_of codec) schema levels v)
  pub kind : IfErr result (λ e. e.kind ≢ no_room_to_write → AtDepths schema levels
      (λ s. IsInValue e.kind s (normal s v)))
  pub variant : IfErr result (λ e. e.codec ≡ codec)

-- a buffer holds what it held, and behind it the canonical bytes of a value
pub record HoldsBehind (a : Variant) (schema : ℕ → Schema) (levels : ℕ) (v : Value) (before after : List ℕ)
    : Type 0 where
  pub octets : List ℕ
  pub canonical : AreBytes a schema levels v octets
  pub behind : after ≡ before ++ octets

-- A value is written by the schema of its type behind what a buffer holds: its canonical bytes, or, memory aside, a
-- refusal only where it has none, whose kind names a fault of the value. After a refusal the buffer is as it was.
pub record EncodedOnto (codec : Codec) (schema : ℕ → Schema) (levels : ℕ) (v : Value) (before : List ℕ)
    (result : Result (Unit {0}) EncodeError) (after : List ℕ) : Type 0 where
  pub ok : OnOk result (HoldsBehind (variant_of codec) schema levels v before after)
  pub same : OnErr result (after ≡ before)
  pub err : IfErr result (λ e. e.kind ≢ no_room_to_write → HasNoBytes (variant_of codec) schema levels v)
  pub kind : IfErr result (λ e. e.kind ≢ no_room_to_write → AtDepths schema levels
      (λ s. IsInValue e.kind s (normal s v)))
  pub variant : IfErr result (λ e. e.codec ≡ codec)

-- Octets are read by the schema of a type, padding being zero where it must: the value that they spell and no other,
-- or, memory aside, a refusal only where they spell none, whose kind names a fault of the octets.
pub record DecodedBy {T : Type 0} (strict : Bool) (codec : Codec) (schema : ℕ → Schema) (value : T → Value)
    (octets : List ℕ) (result : Result T DecodeError) : Type 0 where
  pub ok : IfOk result (λ x. AreReadBy (reading strict (variant_of codec)) schema (value x) octets)
  pub err : IfErr result (λ e. e.kind ≢ no_room_to_read → AreUnreadBy (reading strict (variant_of codec)) schema octets)
  pub kind : IfErr result (λ e. IsInOctetsBy (reading strict (variant_of codec)) schema octets e.kind)
  pub variant : IfErr result (λ e. e.codec ≡ codec)

-- padding of any value is taken
abbrev pub Decoded : {T : Type 0} → Codec → (ℕ → Schema) → (T → Value) → List ℕ → Result T DecodeError → Type 0
Decoded = DecodedBy false

-- padding and spare bits must be zero
abbrev pub DecodedZeroPadded : {T : Type 0} → Codec → (ℕ → Schema) → (T → Value) → List ℕ → Result T DecodeError
    → Type 0
DecodedZeroPadded = DecodedBy true

-- Octets that may go on after a value are read, with padding of any value: as the value that they begin with, and the
-- rest, and no other; or, memory aside, they are refused only where they begin with none.
pub record DecodedFront {T : Type 0} (codec : Codec) (schema : ℕ → Schema) (value : T → Value) (octets : List ℕ)
    (result : Result (T × Bor (List ℕ)) DecodeError) : Type 0 where
  pub ok : IfOk result (λ x. BeginWith (variant_of codec) schema (value x.0) octets x.1.now)
  pub err : IfErr result (λ e. e.kind ≢ no_room_to_read → BeginWithNone (variant_of codec) schema octets)
  pub kind : IfErr result (λ e. IsInFront (basically (variant_of codec)) schema octets e.kind)
  pub variant : IfErr result (λ e. e.codec ≡ codec)

-- X.691 11.9, 19.5: what is answered to octets has at most 65535 items, and 8192 for each bit of the octets; and so has
-- each value within it, but for a default that stands for an absent part.
pub record AnswersFew {T E : Type 0} (schema : ℕ → Schema) (value : T → Value) (octets : List ℕ)
    (result : Result T E) : Type 0 where
  pub own : IfOk result (λ x. item_count (value x) ≤ most_items (8 * length octets))
  pub within : IfOk result (λ x. HasAtMost (most_items (8 * length octets)) (schema 128) (value x))

-- X.691 11.9, 19.5: a value that is answered with the octets after it has at most 65535 items, and 8192 for each bit
-- of the octets in front of those; and so has each value within it, but for a default that stands for an absent part.
pub record AnswersFewInFront {T E : Type 0} (schema : ℕ → Schema) (value : T → Value) (octets : List ℕ)
    (result : Result (T × Bor (List ℕ)) E) : Type 0 where
  pub own : IfOk result (λ x. item_count (value x.0) ≤ most_items (8 * (length octets - length x.1.now)))
  pub within : IfOk result (λ x. HasAtMost (most_items (8 * (length octets - length x.1.now))) (schema 128) (value x.0))

-- what a kind says of octets that all have to be read, where padding has any value
abbrev pub IsInOctets : Variant → (ℕ → Schema) → List ℕ → DecodeErrorKind → Type 0
IsInOctets a = IsInOctetsBy (basically a)
