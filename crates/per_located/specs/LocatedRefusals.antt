-- What a refusal says beside why octets or a value are refused.
use Rattle.std.specs.Prelude.{◌≡◌, ◌≤◌, ◌*◌, ℕ, List, length, Result, Ok, Err}
use Rattle.per_core.specs.declared.decode_error.DecodeError.{DecodeError}
use Rattle.per_core.specs.declared.encode_error.EncodeError.{EncodeError}
use Rattle.per_located.specs.declared.refusal.EncodeRefusal.{EncodeRefusal}
use Rattle.per_located.specs.declared.refusal.Refusal.{Refusal}

-- what a call answers, without the place of a refusal: its variant is the one in which the place was found
abbrev pub unplaced : {T : Type 0} → Result T Refusal → Result T DecodeError
unplaced (Ok x) = Ok x
unplaced (Err r) = Err (record { kind = r.kind; codec = r.codec })

-- what a call answers, without the path of a refusal: its variant is the one in which the path was found
abbrev pub pathless : {T : Type 0} → Result T EncodeRefusal → Result T EncodeError
pathless (Ok x) = Ok x
pathless (Err r) = Err (record { kind = r.kind; codec = r.codec })

-- The place is one of the octets, or their end.
pub record IsPlaced (octets : List ℕ) (r : Refusal) : Type 0 where
  pub bits : r.bits ≡ 8 * length octets
  pub within : r.bit ≤ r.bits
