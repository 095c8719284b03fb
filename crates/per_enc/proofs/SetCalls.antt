-- The calls of an encoder that open and close a SET whose components are presented in the order of its fields
-- (ITU-T X.691, 21.1).
use Rattle.std.specs.Prelude.{Result, Ok, Err}
use Rattle.std.proofs.Common.{◌≡◌, refl, ap, ◌∙◌, ◌⊎◌, subst, inl, ℕ, suc, Bool, false, List, length, Option, Some, None, arith}
use Rattle.rasn_types.specs.Values.{Value}
use Rattle.rasn_schema.specs.Fields.{Shape, shapes_from}
use Rattle.rasn_schema.specs.Structures.{record_value}
use Rattle.rasn_schema.specs.Schemas.{by_tag, count, Schema, Parts, no_parts, part}
use Rattle.rasn_traits.specs.Calls.{Written}
use Rattle.rasn_traits.specs.Scopes.{OpenedToWrite, PresentsFields}
use Rattle.per_pieces.specs.OpenSets.{closed, opened, OpenSet}
use Rattle.per_write.specs.Components.{Encoding, going_on, OpensComponents, PutsInOrder, underway}
use Rattle.per_core.specs.declared.encode_error.EncodeError.{EncodeError}
use Rattle.per_core.specs.declared.encode_error.EncodeErrorKind.TheVariants.{OutOfTurn}
use Rattle.per_write.specs.Faults.{IsError, IsMemory}
use Rattle.per_write.specs.Records.{ClosesOrNot, Opens as OpensRecord, OpensOrNot}
use Rattle.per_write.specs.WriterState.{Frame, WriterState}
use Rattle.per_pieces.specs.Turns.{counts, Enclosing, gathered, gathers, uncounted}
use Rattle.per_enc.specs.Records.{after_marker, part_count}
use Rattle.per_enc.specs.Rules.{encoding_rules, noting}
use Rattle.per_enc.specs.Scopes.{Opens, OpensSet}
use Rattle.per_enc.proofs.Noting.{noting_codec, refuses_noted, written_noted}
use Rattle.per_enc.proofs.SetsClosed.{closes_set, refuses_set, still_open, unput_set}

memory_noted : (e : EncodeError) (x : Encoding) → IsMemory e (noting x).writer → IsMemory e x.writer
memory_noted e x m = record { kind_is = m.kind_is; codec_is = m.codec_is ∙ noting_codec x }

-- as many fields as components
pub fields_counted : (i : ℕ) (ps : Parts) → length (shapes_from i ps) ≡ count ps
fields_counted i no_parts = refl
fields_counted i (part t q s ps) = let n = fields_counted (suc i) ps in omega arith

-- what is gathered is the SET
pub is_gathered : (e : Enclosing) (set : OpenSet) → gathered e ≡ Some set → e ≡ gathers set
is_gathered (counts t) set h = absurd cc
is_gathered (gathers k) set h = ap gathers (let e : Some k ≡ Some set = h in cc)

-- a SET is opened
pub set_opened : (parts : ℕ → Parts) (marker : Bool) (additions : ℕ → Parts) (x m : Encoding) (front w : WriterState) (o : Frame) (outer set : Enclosing) (k : ℕ) (behind : Option ℕ)
    → m ≡ record { writer = (noting x).writer; set = counts uncounted } → outer ≡ (noting x).set → OpensOrNot 0 behind m.writer (Ok o) front → ((n : ℕ) → behind ≡ after_marker marker (part_count (additions n)))
    → OpensComponents k front (Ok set) w → ((n : ℕ) → k ≡ count (parts n)) → (marker ≡ false → (n : ℕ) → additions n ≡ no_parts)
    → OpenedToWrite encoding_rules Opens by_tag parts marker additions x (Ok (o, outer)) (record { writer = w; set = set })
set_opened parts marker additions x m front w o outer set k behind e a c d p f n = λ j. (
  at j,
  record {
    room = λ r q. record { kind_is = q.kind_is; codec_is = q.codec_is ∙ p.kept ∙ (at j).marked.same ∙ noting_codec x };
    of_record = λ r rs xs l q. refuses_noted r x (Schema.sequence by_tag (parts j) marker (additions j)) (record_value rs xs)
        (refuses_set (parts j) marker (additions j) x (record { writer = w; set = set }) (o, outer) (at j) r rs xs (λ b. n b j) l q);
  },
)
  where
    at : (j : ℕ) → OpensSet (count (parts j)) (after_marker marker (part_count (additions j))) x (o, outer) (record { writer = w; set = set })
    at j = record {
      front = front;
      marked = subst (λ (z : Encoding). OpensRecord 0 (after_marker marker (part_count (additions j))) z.writer o front) e (subst (λ (b : Option ℕ). OpensRecord 0 b m.writer o front) (d j) c.ok);
      waits = a;
      inside = p.ok ∙ ap (λ (i : ℕ). going_on (opened i front.pieces) front) (f j);
    }

-- a SET is closed
pub set_closed : (ps : Parts) (marker : Bool) (qs : Parts) (x i j y : Encoding) (rs xs : List (Option Value)) (o : Frame × Enclosing) (fields : List Shape) (set : OpenSet) (w : WriterState) (result : Result (Unit {0}) EncodeError)
    → (marker ≡ false → qs ≡ no_parts) → fields ≡ shapes_from 0 ps → Opens (Schema.sequence by_tag ps marker qs) x o i → PresentsFields encoding_rules ps qs i rs xs j → j.set ≡ gathers set → PutsInOrder fields set j.writer w
    → ClosesOrNot o.0 w result y.writer → y.set ≡ o.1 → Written encoding_rules (Schema.sequence by_tag ps marker qs) (record_value rs xs) x result y
set_closed ps marker qs x i j y rs xs o fields set w result n e h k s c d t =
    written_noted x y (Schema.sequence by_tag ps marker qs) (record_value rs xs) result (closes_set ps marker qs x i o h rs xs j set fields w y.writer result n e k s c d) (t ∙ h.waits)

-- its components weren't put in order: memory ran out
pub set_unput : (ps : Parts) (marker : Bool) (qs : Parts) (x i j y : Encoding) (rs xs : List (Option Value)) (o : Frame × Enclosing) (fields : List Shape) (set : OpenSet) (e : EncodeError)
    → (marker ≡ false → qs ≡ no_parts) → fields ≡ shapes_from 0 ps → Opens (Schema.sequence by_tag ps marker qs) x o i → PresentsFields encoding_rules ps qs i rs xs j → j.set ≡ gathers set
    → IsMemory e j.writer ⊎ (IsError OutOfTurn e j.writer × (closed fields (underway set j.writer) ≡ None)) → Written encoding_rules (Schema.sequence by_tag ps marker qs) (record_value rs xs) x (Err e) y
set_unput ps marker qs x i j y rs xs o fields set e n f h k s c = inl (memory_noted e x (unput_set ps marker qs x i o h rs xs j set fields e n f k s c))

-- where it was opened and its components were presented, a SET is open and no call was refused
pub set_is_open : (ps : Parts) (marker : Bool) (qs : Parts) (x i j : Encoding) (rs xs : List (Option Value)) (o : Frame × Enclosing) → Opens (Schema.sequence by_tag ps marker qs) x o i → PresentsFields encoding_rules ps qs i rs xs j
    → (k : OpenSet) × (j.set ≡ gathers k) × (j.writer.failed ≡ false)
set_is_open ps marker qs x i j rs xs o h k = still_open ps marker qs x i o h rs xs j k
