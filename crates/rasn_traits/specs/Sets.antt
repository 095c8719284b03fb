-- What is in the scope of a SET, stated over any codec's relations: its root components are there in ascending
-- order of their smallest tags, and then its additions, as they are listed (ITU-T X.691, 21.1).
use Rattle.std.specs.Prelude.{◌≡◌, ℕ, suc, Bool, true, List, Option, Result, OnErr, IsErrAnd, length}
use Rattle.rasn_types.specs.Values.{Value}
use Rattle.rasn_schema.specs.Orders.{canonised, canonised_at, canonised_slots}
use Rattle.rasn_schema.specs.Normal.{normal, AtDepths}
use Rattle.rasn_schema.specs.Records.{record_at}
use Rattle.rasn_schema.specs.Structures.{record_value}
use Rattle.rasn_schema.specs.Schemas.{by_tag, count, listed, Parts, Schema}
use Rattle.rasn_traits.specs.Calls.{Answers, DecoderRules, EncoderRules, Written}
use Rattle.rasn_traits.specs.Scopes.{Ends, KeepsCodec, ReadsScope, WritesScope}

-- What components are, as they are listed and in ascending order of their smallest tags.
pub record InTagOrder (parts : ℕ → Parts) (rs cs : List (Option Value)) : Type 0 where
  pub counted : (n : ℕ) → length rs ≡ count (parts n)
  pub placed : (n : ℕ) → cs ≡ canonised_slots (parts n) rs

-- What holds of an encoder's SETs: a SET is written as the SEQUENCE of its components in ascending order of their tags
-- is, and what refuses that SEQUENCE refuses the SET (X.691 21.1).
pub record SetsWritten {E X : Type 0} (rules : EncoderRules E X) : Type 0 where
  pub presented : (ps : Parts) (marker : Bool) (qs : Parts) (x y : X) (rs xs : List (Option Value))
      → rules.presents x (Schema.sequence listed (canonised ps) marker qs) (record_value (canonised_slots ps rs) xs) y
      → rules.presents x (Schema.sequence by_tag ps marker qs) (record_value rs xs) y
  pub refused : (ps : Parts) (marker : Bool) (qs : Parts) (x : X) (rs xs : List (Option Value)) (e : E)
      → rules.refuses e x (Schema.sequence listed (canonised ps) marker qs) (record_value (canonised_slots ps rs) xs)
      → rules.refuses e x (Schema.sequence by_tag ps marker qs) (record_value rs xs)

-- A call that writes a SET by a function that is lent the encoder, and presents the root components in ascending order
-- of their tags.
pub record WritesSet {E X : Type 0} (rules : EncoderRules E X) (parts : ℕ → Parts) (marker : Bool)
    (additions : ℕ → Parts) (returns : X → Result (Unit {0}) E → X → Type 0) (x : X) (result : Result (Unit {0}) E)
    (y : X) : Type 0 where
  pub law : (rs cs xs : List (Option Value)) (k : ℕ) → InTagOrder parts rs cs
      → WritesScope rules (canonised_at parts) additions cs xs k returns
      → AtDepths (record_at by_tag parts marker additions) (suc k)
      (λ s. Written rules s (normal s (record_value rs xs)) x result y)
  pub swallowed : Ends rules.already rules.failed returns result
  pub again : rules.failed x ≡ true → IsErrAnd result (λ e. rules.already e x)
  pub fails : OnErr result (rules.failed y ≡ true)
  pub kept : KeepsCodec rules.codec returns → rules.codec y ≡ rules.codec x

-- What holds of a decoder's SETs: a SET is read as the SEQUENCE of its components in ascending order of their tags is;
-- where none is read, no SET is; and a fault of that SEQUENCE is one of the SET (X.691 21.1).
pub record SetsWell {E S : Type 0} (rules : DecoderRules E S) : Type 0 where
  pub set_read : (ps : Parts) (marker : Bool) (qs : Parts) (s t : S) (rs xs : List (Option Value))
      → rules.spells (Schema.sequence listed (canonised ps) marker qs) s (record_value (canonised_slots ps rs) xs) t
      → rules.spells (Schema.sequence by_tag ps marker qs) s (record_value rs xs) t
  pub set_back : (ps : Parts) (marker : Bool) (qs : Parts) (s t : S) (v : Value)
      → rules.spells (Schema.sequence by_tag ps marker qs) s v t
      → (w : Value) × rules.spells (Schema.sequence listed (canonised ps) marker qs) s w t
  pub in_set : (ps : Parts) (marker : Bool) (qs : Parts) (s : S) (e : E)
      → rules.fault (Schema.sequence listed (canonised ps) marker qs) e s
      → rules.fault (Schema.sequence by_tag ps marker qs) e s

-- A call that reads a SET by a function that is lent the decoder, and reads the root components in ascending order of
-- their tags.
pub record ReadsSet {E S T : Type 0} (rules : DecoderRules E S) (parts : ℕ → Parts) (marker : Bool)
    (additions : ℕ → Parts) (contents added : T → List (Option Value)) (returns : S → Result T E → S → Type 0) (s : S)
    (result : Result T E) (t : S) : Type 0 where
  pub law : (in_order : T → List (Option Value)) → ((n : ℕ) (v : T)
      → in_order v ≡ canonised_slots (parts n) (contents v))
      → ReadsScope rules (canonised_at parts) additions in_order added (rules.levels s) returns
      → (let c = record_at by_tag parts marker additions (rules.levels s) in
      Answers rules.memory (rules.fault c) (rules.spells c) (λ x. record_value (contents x) (added x)) s result t)
  pub swallowed : Ends rules.already rules.failed returns result
  pub again : rules.failed s ≡ true → IsErrAnd result (λ e. rules.already e s)
  pub fails : OnErr result (rules.failed t ≡ true)
  pub kept : KeepsCodec rules.codec returns → rules.codec t ≡ rules.codec s
