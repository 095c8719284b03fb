-- What was decoded is written, or refused for want of memory.
use Rattle.std.proofs.Common.{◌≡◌, ◌≢◌, ℕ, ◌+◌, ◌≤◌, List, Vec, Result, Ok, Err, IfErr, true, refl, arith}
use Rattle.rasn_types.specs.Variants.{variant_of}
use Rattle.rasn_types.specs.Values.{Value}
use Rattle.rasn_types.specs.declared.types.Codec.{Codec}
use Rattle.rasn_schema.specs.Lawful.{IsLawfulType}
use Rattle.rasn_schema.specs.Levels.{Levelled}
use Rattle.rasn_schema.specs.Normal.{normal, AtDepths}
use Rattle.rasn_schema.specs.Schemas.{Schema}
use Rattle.per_core.specs.Basic.{read}
use Rattle.per_core.specs.Spellings.{Settings}
use Rattle.per_laws.proofs.Readers.{deeper_reads}
use Rattle.per_laws.proofs.Types.{up_to}
use Rattle.per_laws.proofs.VersionsAt128Levels.{levelled_holds}
use Rattle.per_laws.proofs.Levelled.{levelled_type_unfolds}
use Rattle.per_core.specs.WritingFaults.{IsInValue}
use Rattle.per_core.specs.declared.encode_error.EncodeError.{EncodeError}
use Rattle.per_core.specs.declared.encode_error.EncodeErrorKind.{EncodeErrorKind}
use Rattle.per_core.specs.declared.encode_error.EncodeErrorKind.TheVariants.{SizeConstraintNotSatisfied}
use Rattle.per_core.specs.declared.encode_error.EncodeErrorKind.TheVariants.{ValueConstraintNotSatisfied}
use Rattle.per_core.specs.declared.encode_error.EncodeErrorKind.TheVariants.{AlphabetConstraintNotSatisfied}
use Rattle.per_core.specs.declared.encode_error.EncodeErrorKind.TheVariants.{IntegerTypeConversionFailed}
use Rattle.per_core.specs.declared.encode_error.EncodeErrorKind.TheVariants.{VariantNotInChoice, RealNotSupported}
use Rattle.per_core.specs.declared.encode_error.EncodeErrorKind.TheVariants.{TooManyAdditions, Below, AlreadyFailed}
use Rattle.per_core.specs.declared.encode_error.EncodeErrorKind.TheVariants.{OutOfMemory, OutOfTurn, WrongKind}
use Rattle.per_versions.specs.NumbersKept.{KeepsToI128}
use Rattle.per_versions.proofs.Faultless.{one_fault, no_fault, read_whole}
use Rattle.per_versions.proofs.PartsRead.{IsRead}
use Rattle.rasn_per.specs.Calls.{Encoded, AreBytes}
use Rattle.per_versions.specs.Answers.{Passes}
use Rattle.per_versions.specs.Readings.{depth_of}

out_of_memory : (k : EncodeErrorKind) → (k ≢ OutOfMemory → ⊥) → k ≡ OutOfMemory
out_of_memory (SizeConstraintNotSatisfied told) h = absurd (h (λ e. cc))
out_of_memory (ValueConstraintNotSatisfied told) h = absurd (h (λ e. cc))
out_of_memory AlphabetConstraintNotSatisfied h = absurd (h (λ e. cc))
out_of_memory IntegerTypeConversionFailed h = absurd (h (λ e. cc))
out_of_memory VariantNotInChoice h = absurd (h (λ e. cc))
out_of_memory RealNotSupported h = absurd (h (λ e. cc))
out_of_memory TooManyAdditions h = absurd (h (λ e. cc))
out_of_memory Below h = absurd (h (λ e. cc))
out_of_memory AlreadyFailed h = absurd (h (λ e. cc))
out_of_memory OutOfMemory h = refl
out_of_memory OutOfTurn h = absurd (h (λ e. cc))
out_of_memory WrongKind h = absurd (h (λ e. cc))

module _ (T : ℕ → Schema) (g : Levelled T) (l : IsLawfulType T) (a : Settings) (v : Value) (os : List ℕ) (r : read a T v os) where
  -- a tree that is deep enough for an encoder and for the value
  whole_at : (n : ℕ) → depth_of v + 128 ≤ n → IsRead a true (T n) (normal (T n) v)
  whole_at n h = read_whole a (T n) v os (levelled_holds T g v n (omega arith)) (deeper_reads a (T 128) (T n) (up_to T (levelled_type_unfolds T g) 128 n (omega arith)) v os r)

  one_kind : (k : ℕ) (kind : EncodeErrorKind) → AtDepths T k (λ s. IsInValue kind s (normal s v)) → kind ≡ IntegerTypeConversionFailed
  one_kind k kind h = let n = k + (depth_of v + 128) in one_fault a true (T n) (normal (T n) v) (whole_at n (omega arith)) kind (l.lawful n) (h.at n (omega arith))

  no_kind : KeepsToI128 T → (k : ℕ) (kind : EncodeErrorKind) → AtDepths T k (λ s. IsInValue kind s (normal s v)) → ⊥
  no_kind i k kind h = let n = k + (depth_of v + 128) in no_fault a true (T n) (normal (T n) v) (whole_at n (omega arith)) kind (l.lawful n) (i n) (h.at n (omega arith))

  pub one_refusal : {Z : Type 0} (codec : Codec) (k : ℕ) (answer : Result (Vec ℕ Z) EncodeError) → Encoded codec T k v answer → IfErr answer (λ e. e.kind ≢ OutOfMemory → e.kind ≡ IntegerTypeConversionFailed)
  one_refusal codec k (Ok x) e = tt
  one_refusal codec k (Err x) e = λ m. one_kind k x.kind (e.kind m)

  pub no_refusal : {Z : Type 0} (codec : Codec) → KeepsToI128 T → (k : ℕ) (answer : Result (Vec ℕ Z) EncodeError) → Encoded codec T k v answer → IfErr answer (λ e. e.kind ≡ OutOfMemory)
  no_refusal codec i k (Ok x) e = tt
  no_refusal codec i k (Err x) e = out_of_memory x.kind (λ m. no_kind i k x.kind (e.kind m))

-- octets that are written, of which a fact holds
pub passes : {Z : Type 0} (codec : Codec) (T : ℕ → Schema) (k : ℕ) (v : Value) (Holds : List ℕ → Type 0) (answer : Result (Vec ℕ Z) EncodeError) → Encoded codec T k v answer →
    ((os : List ℕ) → AreBytes (variant_of codec) T k v os → Holds os) → IfErr answer (λ e. e.kind ≡ OutOfMemory) → Passes Holds answer
passes codec T k v Holds (Ok x) e h m = record { ok = h x.items e.ok; err = tt }
passes codec T k v Holds (Err x) e h m = record { ok = tt; err = m }
