-- Why texts make no octets.
use Rattle.std.proofs.Common.{◌≡◌, ◌≢◌, ◌⊎◌, inl, inr, sym, subst, ℕ, List, true, false}
use Rattle.rasn_schema.specs.Normal.{AtDepths, normal}
use Rattle.rasn_dynamic.specs.Values.{levels_of, value_of}
use Rattle.rasn_dynamic.specs.declared.types.Types.{Types}
use Rattle.rasn_dynamic.specs.declared.values.Value.{Value}
use Rattle.rasn_dynamic_jer.specs.FromJson.{IsTextOf}
use Rattle.per_core.specs.Rows.{Codec, variant_of}
use Rattle.rasn_per.specs.Calls.{HasNoBytes}
use Rattle.per_core.specs.WritingFaults.{IsInValue}
use Rattle.per_core.specs.declared.encode_error.EncodeErrorKind.{EncodeErrorKind}
use Rattle.per_core.specs.declared.encode_error.EncodeErrorKind.TheVariants as Encoding
use Rattle.per_dynamic.specs.OpenTypes.{IsUntaken}
use Rattle.per_dynamic.specs.declared.open_types.OpenTypeError.{OpenTypeError}
use Rattle.per_dynamic.specs.declared.open_types.OpenTypeError.TheVariants as Open
use Rattle.per_messages.specs.Errors.{open_type_error_of}
use Rattle.per_messages.specs.Messages.{IsClosed, IsUnmade, type_at}
use Rattle.per_messages.specs.declared.error.MessageError.{MessageError}
use Rattle.per_messages.specs.declared.error.MessageError.TheVariants.{Encode, OutOfMemory}

pub unclosed : (types : Types) (codec : Codec) (place : ℕ) (text : List ℕ) (v : Value) (e : OpenTypeError) (r : MessageError)
    → IsTextOf types.kinds.items place text v → IsUntaken (record { codec = codec; reads = false }) types.kinds.items e
    → r ≡ open_type_error_of e → IsUnmade types codec place text r ⊎ (r ≡ OutOfMemory)
unclosed types codec place text v Open.OtherType r told h q =
    inl (subst (IsUnmade types codec place text) (sym q) (record { value = v; told = told; untaken = h }))
unclosed types codec place text v (Open.Encode kind) r told h q =
    inl (subst (IsUnmade types codec place text) (sym q) (λ n. inr (record { value = v; told = told; untaken = h })))
unclosed types codec place text v Open.OutOfMemory r told h q = inr q

pub unwritten : (types : Types) (codec : Codec) (place : ℕ) (text : List ℕ) (v w : Value) (kind : EncodeErrorKind) (r : MessageError)
    → IsTextOf types.kinds.items place text v → IsClosed types codec place v w
    → (kind ≢ Encoding.OutOfMemory → HasNoBytes (variant_of codec) (type_at types place) (levels_of w) (value_of w))
    → (kind ≢ Encoding.OutOfMemory → AtDepths (type_at types place) (levels_of w) (λ s. IsInValue kind s (normal s (value_of w))))
    → r ≡ Encode kind → IsUnmade types codec place text r ⊎ (r ≡ OutOfMemory)
unwritten types codec place text v w kind r told is none fault q =
    inl (subst (IsUnmade types codec place text) (sym q)
    (λ n. inl (record { value = v; closed = w; told = told; is_closed = is; unencoded = record { no_bytes = none n; is_faulty = fault n } })))
