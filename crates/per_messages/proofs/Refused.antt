-- Why octets are not recoded, not shown, and begin with no encoding.
use Rattle.std.proofs.Common.{◌≡◌, ◌≢◌, ◌⊎◌, ◌∙◌, ap, inl, inr, sym, subst, ℕ, List}
use Rattle.json.specs.Json.{max_depth}
use Rattle.rasn_schema.specs.Normal.{AtDepths, normal}
use Rattle.rasn_dynamic.specs.Values.{levels_of, value_of}
use Rattle.rasn_dynamic.specs.declared.types.Types.{Types}
use Rattle.rasn_dynamic.specs.declared.values.Value.{Value}
use Rattle.rasn_dynamic_jer.specs.Puts.{IsRefused}
use Rattle.rasn_dynamic_jer.specs.Shown.{json_at}
use Rattle.rasn_dynamic_jer.specs.declared.error.ToJsonError.{ToJsonError}
use Rattle.per_core.specs.Rows.{Codec, variant_of}
use Rattle.rasn_per.specs.Calls.{AreUnreadBy, basically, BeginWithNone, HasNoBytes}
use Rattle.rasn_per.specs.Kinds.{IsInFront, IsInOctetsBy}
use Rattle.per_core.specs.declared.decode_error.DecodeErrorKind.{DecodeErrorKind}
use Rattle.per_core.specs.declared.decode_error.DecodeErrorKind.TheVariants as Decoding
use Rattle.per_core.specs.WritingFaults.{IsInValue}
use Rattle.per_core.specs.declared.encode_error.EncodeErrorKind.{EncodeErrorKind}
use Rattle.per_core.specs.declared.encode_error.EncodeErrorKind.TheVariants as Encoding
use Rattle.per_messages.specs.Errors.{to_json_error_of}
use Rattle.per_messages.specs.Messages.{AreRead, AreRefused, AreUnshown, AreWithoutFirst, type_at}
use Rattle.per_messages.specs.declared.error.MessageError.{MessageError}
use Rattle.per_messages.specs.declared.error.MessageError.TheVariants.{Decode, Encode, OutOfMemory}

pub unread : (types : Types) (codec : Codec) (place : ℕ) (octets : List ℕ) (kind : DecodeErrorKind) (r : MessageError)
    → (kind ≢ Decoding.OutOfMemory → AreUnreadBy (basically (variant_of codec)) (type_at types place) octets)
    → IsInOctetsBy (basically (variant_of codec)) (type_at types place) octets kind → r ≡ Decode kind → AreRefused types codec place octets r
unread types codec place octets kind r none fault q = subst (AreRefused types codec place octets) (sym q) (record { unread = none; is_faulty = fault })

pub unencoded : (types : Types) (codec : Codec) (place : ℕ) (octets : List ℕ) (v : Value) (kind : EncodeErrorKind) (r : MessageError)
    → AreRead types codec place octets v
    → (kind ≢ Encoding.OutOfMemory → HasNoBytes (variant_of codec) (type_at types place) (levels_of v) (value_of v))
    → (kind ≢ Encoding.OutOfMemory → AtDepths (type_at types place) (levels_of v) (λ s. IsInValue kind s (normal s (value_of v))))
    → r ≡ Encode kind → AreRefused types codec place octets r
unencoded types codec place octets v kind r h none fault q =
    subst (AreRefused types codec place octets) (sym q) (λ n. record { value = v; is_read = h; unencoded = record { no_bytes = none n; is_faulty = fault n } })

pub unshown : (types : Types) (codec : Codec) (place : ℕ) (octets : List ℕ) (kind : DecodeErrorKind) (r : MessageError)
    → (kind ≢ Decoding.OutOfMemory → AreUnreadBy (basically (variant_of codec)) (type_at types place) octets)
    → IsInOctetsBy (basically (variant_of codec)) (type_at types place) octets kind → r ≡ Decode kind
    → AreUnshown types codec place octets r ⊎ (r ≡ OutOfMemory)
unshown types codec place octets kind r none fault q =
    inl (subst (AreUnshown types codec place octets) (sym q) (record { unread = none; is_faulty = fault }))

-- what is said where a value has no JSON
pub without_json : (types : Types) (codec : Codec) (place : ℕ) (octets : List ℕ) (v : Value) (e : ToJsonError) (r : MessageError)
    → AreRead types codec place octets v → IsRefused (json_at types.kinds.items max_depth place v) e → r ≡ to_json_error_of e
    → AreUnshown types codec place octets r ⊎ (r ≡ OutOfMemory)
without_json types codec place octets v e r h (inl m) q = inr (q ∙ ap to_json_error_of m)
without_json types codec place octets v e r h (inr k) q =
    inl (subst (AreUnshown types codec place octets) (sym (q ∙ ap to_json_error_of k.0)) (record { value = v; is_read = h; no_json = k.1 }))

pub without_first : (types : Types) (codec : Codec) (place : ℕ) (octets : List ℕ) (kind : DecodeErrorKind) (r : MessageError)
    → (kind ≢ Decoding.OutOfMemory → BeginWithNone (variant_of codec) (type_at types place) octets)
    → IsInFront (basically (variant_of codec)) (type_at types place) octets kind → r ≡ Decode kind → AreWithoutFirst types codec place octets r
without_first types codec place octets kind r none fault q =
    subst (AreWithoutFirst types codec place octets) (sym q) (record { none = none; is_faulty = fault })
