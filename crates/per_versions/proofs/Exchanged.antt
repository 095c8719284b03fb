-- What becomes of a value that was written, by what the reader answered to its octets.
use Rattle.std.proofs.Common.{ℕ, List, Ok, Err}
use Rattle.rasn_types.specs.Variants.{variant_of}
use Rattle.rasn_types.specs.Values.{Value}
use Rattle.rasn_types.specs.declared.types.Codec.{Codec}
use Rattle.rasn_schema.specs.Schemas.{Schema}
use Rattle.per_core.specs.declared.decode_error.DecodeError.{DecodeError}
use Rattle.rasn_per.specs.Calls.{AreBytes}
use Rattle.per_versions.specs.Answers.{Answers}
use Rattle.per_versions.specs.Exchanges.{Exchanges}
use Rattle.per_versions.specs.declared.exchange.ExchangeError.TheVariants.{Decode}

pub arrived : {T : Type 0} (codec : Codec) (writer : ℕ → Schema) (levels : ℕ) (v : Value) (value : T → Value) (IsRead : Value → Type 0) (octets : List ℕ) (x : T) →
    AreBytes (variant_of codec) writer levels v octets → Answers value IsRead (Ok x) → Exchanges codec writer levels v value IsRead (Ok x)
arrived codec writer levels v value IsRead octets x h a = record {
  ok = ((octets, h), a.ok);
  err = tt;
}

pub lost : {T : Type 0} (codec : Codec) (writer : ℕ → Schema) (levels : ℕ) (v : Value) (value : T → Value) (IsRead : Value → Type 0) (octets : List ℕ) (e : DecodeError) →
    AreBytes (variant_of codec) writer levels v octets → Answers {T = T} value IsRead (Err e) → Exchanges {T = T} codec writer levels v value IsRead (Err (Decode e))
lost codec writer levels v value IsRead octets e h a = record { ok = tt; err = ((octets, h), a.err) }
