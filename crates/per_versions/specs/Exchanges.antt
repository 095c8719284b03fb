-- What becomes of a value that one type's writer writes and another type's reader reads.
use Rattle.std.specs.Prelude.{◌≡◌, ◌≢◌, ℕ, List, Vec, Result, IfOk, IfErr}
use Rattle.rasn_types.specs.Variants.{variant_of}
use Rattle.rasn_types.specs.Values.{Value}
use Rattle.rasn_types.specs.declared.types.Codec.{Codec}
use Rattle.rasn_schema.specs.Schemas.{Schema}
use Rattle.per_core.specs.declared.encode_error.EncodeErrorKind.TheVariants.{OutOfMemory as no_room_to_write}
use Rattle.per_core.specs.declared.decode_error.DecodeErrorKind.TheVariants.{OutOfMemory as no_room_to_read}
use Rattle.per_core.specs.Basic.{read}
use Rattle.rasn_per.specs.Calls.{AreBytes, HasNoBytes, AreUnread, basically}
use Rattle.per_versions.specs.Readings.{AreCanonical, normal_form}
use Rattle.per_versions.specs.declared.exchange.ExchangeError.{ExchangeError}
use Rattle.per_versions.specs.declared.exchange.ExchangeError.TheVariants.{Encode, Decode}

-- a value has canonical octets
abbrev pub IsWritten : Codec → (ℕ → Schema) → ℕ → Value → Type 0
IsWritten codec writer levels v = (octets : List ℕ) × AreBytes (variant_of codec) writer levels v octets

-- why nothing is read, memory aside: the value has no octets, or it has some and nothing is to be read of them
abbrev pub IsLost : Codec → (ℕ → Schema) → ℕ → Value → (Value → Type 0) → ExchangeError → Type 0
IsLost codec writer levels v IsRead (Encode e) =
    e.kind ≢ no_room_to_write → HasNoBytes (variant_of codec) writer levels v
IsLost codec writer levels v IsRead (Decode e) =
    IsWritten codec writer levels v × (e.kind ≢ no_room_to_read → (w : Value) → IsRead w → ⊥)

-- what a reader answers to a value that is written: the one value that is to be read of it, or why there is none
pub record Exchanges {T : Type 0} (codec : Codec) (writer : ℕ → Schema) (levels : ℕ) (v : Value)
    (value : T → Value) (IsRead : Value → Type 0) (result : Result T ExchangeError) : Type 0 where
  pub ok : IfOk result (λ x. IsWritten codec writer levels v × IsRead (value x))
  pub err : IfErr result (λ e. IsLost codec writer levels v IsRead e)

-- octets that one reader reads as a value, and the canonical octets of its normal form
pub record IsPassedOn (from to : Codec) (type : ℕ → Schema) (octets others : List ℕ) : Type 0 where
  pub value : Value
  pub are_read : read (basically (variant_of from)) type value octets
  pub are_canonical : AreCanonical (variant_of to) type (normal_form type value) others

-- why nothing is passed on: there is no room, or the octets are read as no value
abbrev pub IsKept : Codec → (ℕ → Schema) → List ℕ → ExchangeError → Type 0
IsKept from type octets (Encode e) = e.kind ≡ no_room_to_write
IsKept from type octets (Decode e) = e.kind ≢ no_room_to_read → AreUnread (variant_of from) type octets

-- what a relay answers to octets
pub record PassesOn {Z : Type 0} (from to : Codec) (type : ℕ → Schema) (octets : List ℕ)
    (result : Result (Vec ℕ Z) ExchangeError) : Type 0 where
  pub ok : IfOk result (λ others. IsPassedOn from to type octets others.items)
  pub err : IfErr result (λ e. IsKept from type octets e)
