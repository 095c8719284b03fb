-- What the call of an ENUMERATED reads, and why it refuses (X.691 14).
use Rattle.std.proofs.Common.{ℕ, Bool}
use Rattle.rasn_types.specs.Bits.{Bits}
use Rattle.rasn_types.specs.Values.{Value}
use Rattle.rasn_schema.specs.Schemas
use Rattle.per_core.specs.Basic.{basic, basic_in}
use Rattle.per_core.specs.Spellings.{Settings, Took, NoneIn}
use Rattle.per_core.proofs.TakenInTurn.{took_map}
use Rattle.per_decoding.specs.Enumerations.{item_form}

pub reads_item : (a : Settings) (r e : ℕ) (ext : Bool) (v : Value) {s t : Bits} → Took (item_form a r e ext v) s t → Took (basic a (Schemas.items r e ext) v) s t
unfolding basic_in
reads_item a r e ext v b = took_map (λ p c i. i) b

pub no_item : (a : Settings) (r e : ℕ) (ext : Bool) {s : Bits} → NoneIn (item_form a r e ext) s → NoneIn (basic a (Schemas.items r e ext)) s
unfolding basic_in
no_item a r e ext none v t b = none v t (record { front = b.front; joins = b.joins; spelled = b.spelled })
