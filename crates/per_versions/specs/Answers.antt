-- What a reader answers.
use Rattle.std.specs.Prelude.{◌≡◌, ◌≢◌, ◌++◌, Bool, false, List, Vec, Result, IfOk, IfErr, ℕ}
use Rattle.std.specs.Borrow.{Bor}
use Rattle.rasn_types.specs.Variants.{variant_of}
use Rattle.rasn_types.specs.Values.{Value}
use Rattle.rasn_types.specs.declared.types.Codec.{Codec}
use Rattle.rasn_schema.specs.Schemas.{Schema}
use Rattle.per_core.specs.Basic.{fills_known}
use Rattle.per_core.specs.declared.encode_error.EncodeError.{EncodeError}
use Rattle.per_core.specs.declared.encode_error.EncodeErrorKind.TheVariants.{OutOfMemory as no_room_to_write}
use Rattle.per_core.specs.declared.decode_error.DecodeError.{DecodeError}
use Rattle.per_core.specs.declared.decode_error.DecodeErrorKind.TheVariants.{OutOfMemory}
use Rattle.rasn_per.specs.Calls.{reading}

-- the one value that is to be read, or, memory aside, a refusal only where there is none
pub record Answers {T : Type 0} (value : T → Value) (IsRead : Value → Type 0) (answer : Result T DecodeError)
    : Type 0 where
  pub ok : IfOk answer (λ x. IsRead (value x))
  pub err : IfErr answer (λ e. e.kind ≢ OutOfMemory → (w : Value) → IsRead w → ⊥)

-- X.691 19.9: octets are read as a value within 128 levels, padding being zero where it must, and no additions are
-- present that the type doesn't know
abbrev pub AreKnown : Bool → Codec → (ℕ → Schema) → Value → List ℕ → Type 0
AreKnown strict codec type v octets = fills_known (reading strict (variant_of codec)) (type 128) v octets

-- the one value that is to be read and the octets after it, these and no others, or, memory aside, a refusal only
-- where there is no such value
pub record AnswersFront {T : Type 0} (value : T → Value) (IsRead : Value → Type 0) (rest : List ℕ)
    (answer : Result (T × Bor (List ℕ)) DecodeError) : Type 0 where
  pub ok : IfOk answer (λ x. IsRead (value x.0) × (x.1.now ≡ rest))
  pub err : IfErr answer (λ e. e.kind ≢ OutOfMemory → (w : Value) → IsRead w → ⊥)

-- octets begin with some that are known so, and go on with the rest
abbrev pub BeginKnown : Codec → (ℕ → Schema) → Value → List ℕ → List ℕ → Type 0
BeginKnown codec type v octets rest =
    (front : List ℕ) × (octets ≡ front ++ rest) × AreKnown false codec type v front

-- what a writer answers: octets of which a fact holds, or want of memory and no other refusal
pub record Passes {Z : Type 0} (Holds : List ℕ → Type 0) (answer : Result (Vec ℕ Z) EncodeError) : Type 0 where
  pub ok : IfOk answer (λ octets. Holds octets.items)
  pub err : IfErr answer (λ e. e.kind ≡ no_room_to_write)
