-- The law of a decoder's SETs: a SET is read as the SEQUENCE of its components in ascending order of their tags is
-- (X.691 21.1).
use Rattle.std.proofs.Common.{subst, sym, ℕ, Bool, true, inl, inr}
use Rattle.rasn_types.specs.Bits.{Bits}
use Rattle.rasn_types.specs.Values.{Value}
use Rattle.rasn_schema.specs.Orders.{canonised, canonised_slots}
use Rattle.rasn_schema.specs.Structures.{record_value, extended}
use Rattle.rasn_schema.specs.Schemas.{Schema, Parts, by_tag}
use Rattle.rasn_schema.proofs.Canonised.{bits_ordered}
use Rattle.rasn_traits.specs.Sets.{SetsWell}
use Rattle.per_core.specs.Basic.{basic}
use Rattle.per_core.specs.Spellings.{Settings, Took, bit_offset}
use Rattle.per_core.proofs.TakenInTurn.{took_map}
use Rattle.per_core.proofs.SetReadings.{in_order, out_of_order, read_as_listed}
use Rattle.per_core.specs.declared.decode_error.DecodeErrorKind.{DecodeErrorKind}
use Rattle.per_core.specs.declared.decode_error.DecodeErrorKind.TheVariants.{AlreadyFailed}
use Rattle.per_core.specs.BitFieldFaults.{IsOfBitField}
use Rattle.per_core.specs.ReadingFaults.{IsInBits, IsOfHead, at_once, in_set}
use Rattle.per_decoding.specs.Faults.{IsOf}
use Rattle.per_decoding.specs.Rules.{plain_rules}
use Rattle.per_decoding.proofs.Scoping.Spelled.{spelled}
use Rattle.per_decoding.specs.State.{State}

-- the SEQUENCE of a SET that is read
in_turn_spelled : (a : Settings) (ps : Parts) (marker : Bool) (qs : Parts) (v : Value) (p : ℕ) (bits : Bits)
    → basic a (Schema.sequence by_tag ps marker qs) v p bits
    → (w : Value) × basic a (extended (canonised ps) marker qs) w p bits
in_turn_spelled a ps marker qs v p bits b =
    let q = read_as_listed a true ps marker qs v p bits b in (
      record_value (canonised_slots ps q.root) q.added,
      in_order a true ps marker qs q.root q.added p bits
          (subst (λ w. basic a (Schema.sequence by_tag ps marker qs) w p bits) q.is b),
    )

in_turn_took : (a : Settings) (ps : Parts) (marker : Bool) (qs : Parts) (v : Value) {s t : Bits}
    → Took (basic a (Schema.sequence by_tag ps marker qs) v) s t
    → (w : Value) × Took (basic a (extended (canonised ps) marker qs) w) s t
in_turn_took a ps marker qs v {s} b =
    let q = in_turn_spelled a ps marker qs v (bit_offset s) b.front b.spelled in
    (q.0, record { front = b.front; joins = b.joins; spelled = q.1 })

-- of their extension bit and presence bits the same is said, since they have as many
head_in_turn : (a : Settings) (ps : Parts) (marker : Bool) (s : Bits) (k : DecodeErrorKind)
    → IsOfHead a ps marker s k → IsOfHead a (canonised ps) marker s k
head_in_turn a ps marker s k (inl h) = inl h
head_in_turn a ps marker s k (inr (b, (m, took, h))) =
    inr (b, (m, took, subst (λ (n : ℕ). IsOfBitField n m k) (sym (bits_ordered ps)) h))

-- a fault of the SET is one of that SEQUENCE
pub fault_in_turn : {a : Settings} {k : DecodeErrorKind} {ps qs : Parts} {marker : Bool} {s : Bits}
    → IsInBits a k (Schema.sequence by_tag ps marker qs) s
    → IsInBits a k (extended (canonised ps) marker qs) s
fault_in_turn {a} {k} {ps} {marker = marker} {s} (at_once h) = at_once (head_in_turn a ps marker s k h)
fault_in_turn (in_set h) = h

-- a fault of the SEQUENCE of a SET's components in order is one of the SET
of_sequence : (k : DecodeErrorKind) (ps : Parts) (marker : Bool) (qs : Parts) (s : State)
    → IsOf k (extended (canonised ps) marker qs) s → IsOf k (Schema.sequence by_tag ps marker qs) s
of_sequence AlreadyFailed ps marker qs s h = h
of_sequence _ ps marker qs s h = in_set h

pub sets_well : SetsWell plain_rules
sets_well = record {
  set_read = λ ps marker qs s t rs xs r. spelled r.live
      (took_map (out_of_order _ true ps marker qs rs xs) r.took) r.same;
  set_back = λ ps marker qs s t v r. let q = in_turn_took _ ps marker qs v r.took in (q.0, spelled r.live q.1 r.same);
  in_set = λ ps marker qs s e f. record { codec = f.codec; stands = of_sequence e.kind ps marker qs s f.stands };
}
