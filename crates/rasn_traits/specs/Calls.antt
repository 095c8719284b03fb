-- What a call of an encoder or a decoder owes, stated once over any codec's relations.
use Rattle.std.specs.Prelude.{◌≡◌, ℕ, ◌≤◌, ◌⊎◌, Bool, true, false, Option, Result, Ok, Err, OnErr, IsErrAnd}
use Rattle.rasn_types.specs.declared.types.Codec.{Codec}
use Rattle.rasn_types.specs.Values.{Value}
use Rattle.rasn_schema.specs.Normal.{AtDepths, normal, is_vacant}
use Rattle.rasn_schema.specs.Schemas.{Schema, Tag}
use Rattle.rasn_schema.specs.Lawful.{is_group_schema}
use Rattle.rasn_traits.specs.Amounts.{Amount}

-- of a call that takes no memory: no error says that there was none
abbrev pub takes_none : {E X : Type 0} → E → X → Type 0
takes_none e x = ⊥

-- How each call behaves, whatever it writes or reads: after a failure it says so before anything else, an error leaves
-- its codec failed, and the variant stays.
pub record Behaves {E X T C : Type 0} (already : E → X → Type 0) (failed : X → Bool) (codec : X → C) (x : X)
    (result : Result T E) (y : X) : Type 0 where
  pub again : failed x ≡ true → IsErrAnd result (λ e. already e x)
  pub fails : OnErr result (failed y ≡ true)
  pub kept : codec y ≡ codec x

-- The rules of an encoder.
pub record EncoderRules (E X : Type 0) : Type 1 where
  -- one value is presented: what was written before, and what is written after it
  pub presents : X → Schema → Value → X → Type 0
  -- the next presence bit is given: what was written before, and how it is then
  pub marks : X → Bool → X → Type 0
  -- the next addition is given as absent: what was written before, and how it is then
  pub skips : X → X → Type 0
  -- the contents of the next addition's open type begin: what was written before, and how it is inside
  pub begins : X → X → Type 0
  -- the next addition is given as one value in an open type: what was written before, and how it is then
  pub adds : X → Schema → Value → X → Type 0
  -- an error by which a value is refused: it has no encoding, or the encoder had failed; and the fault that the error
  -- names is in the value
  pub refuses : E → X → Schema → Value → Type 0
  -- an error by which a presence bit is refused: none is left, or the encoder had failed
  pub unmarked : E → X → Type 0
  -- an error by which an addition is refused: none is left to give, or the encoder had failed
  pub surplus : E → X → Type 0
  -- an error by which the tag of a choice's alternative is refused: none goes by it
  pub unchosen : E → X → Type 0
  -- an error that says that a call came out of turn
  pub untimely : E → X → Type 0
  -- an error that says that memory ran out
  pub memory : E → X → Type 0
  -- an error that says that the encoder had failed before
  pub already : E → X → Type 0
  pub failed : X → Bool
  pub codec : X → Codec

-- the rules of a call that takes no memory
abbrev pub without_memory : {E X : Type 0} → EncoderRules E X → EncoderRules E X
without_memory rules = record rules { memory = takes_none }

-- Ok presents the value, and Err, memory aside, comes only where that is refused.
abbrev pub Written : {E X : Type 0} → EncoderRules E X → Schema → Value → X → Result (Unit {0}) E → X → Type 0
Written rules s v x (Ok u) y = rules.presents x s v y
Written rules s v x (Err e) y = rules.memory e x ⊎ rules.refuses e x s v

-- A call of an encoder that writes a value: it presents or refuses it; a failed encoder says so before anything else;
-- an error leaves it failed; and the variant stays.
pub record Writes {E X : Type 0} (rules : EncoderRules E X) (s : Schema) (v : Value) (x : X)
    (result : Result (Unit {0}) E) (y : X) : Type 0 where
  pub law : Written rules s v x result y
  pub behaves : Behaves rules.already rules.failed rules.codec x result y

-- A call of an encoder that writes the normal form of a value by a family of schemas, at each depth that holds it.
pub record Encodes {E X : Type 0} (rules : EncoderRules E X) (schema : ℕ → Schema) (k : ℕ) (v : Value) (x : X)
    (result : Result (Unit {0}) E) (y : X) : Type 0 where
  pub law : AtDepths schema k (λ s. Written rules s (normal s v) x result y)
  pub behaves : Behaves rules.already rules.failed rules.codec x result y

-- What holds of an encoder's relations: what is presented was begun and left unfailed, and want of memory after it is
-- want of memory of the whole.
pub record PresentsWell {E X : Type 0} (rules : EncoderRules E X) : Type 0 where
  pub begun : (x : X) (s : Schema) (v : Value) (y : X) → rules.presents x s v y → rules.failed x ≡ false
  pub left : (x : X) (s : Schema) (v : Value) (y : X) → rules.presents x s v y → rules.failed y ≡ false
  pub room : (x : X) (s : Schema) (v : Value) (y : X) (e : E) → rules.presents x s v y → rules.memory e y
      → rules.memory e x
  pub mark_room : (x : X) (b : Bool) (y : X) (e : E) → rules.marks x b y → rules.memory e y → rules.memory e x
  pub skip_room : (x y : X) (e : E) → rules.skips x y → rules.memory e y → rules.memory e x
  pub begin_room : (x y : X) (e : E) → rules.begins x y → rules.memory e y → rules.memory e x
  pub add_room : (x : X) (s : Schema) (v : Value) (y : X) (e : E) → rules.adds x s v y → rules.memory e y
      → rules.memory e x
  -- a group that holds nothing isn't refused (X.691 19.9)
  pub vacant : (x i : X) (s : Schema) (v : Value) (e : E) → rules.begins x i → is_group_schema s ≡ true
      → is_vacant s v ≡ true → rules.refuses e i s v → ⊥

-- A refusal of a decoder: nothing is read at s, and the fault that e names is in what is left there.
pub record Refuses {S V E : Type 0} (R : S → V → S → Type 0) (fault : E → S → Type 0) (e : E) (s : S) : Type 0 where
  pub nothing : (v : V) (t : S) → R s v t → ⊥
  pub stands : fault e s

-- Ok answers what is read, and Err, memory aside, comes only where nothing is.
abbrev pub Answers : {S V T E : Type 0} → (E → S → Type 0) → (E → S → Type 0) → (S → V → S → Type 0) → (T → V) → S
    → Result T E → S → Type 0
Answers memory fault R value s (Ok v) t = R s (value v) t
Answers memory fault R value s (Err e) t = memory e s ⊎ Refuses R fault e s

-- The rules of a decoder.
pub record DecoderRules (E S : Type 0) : Type 1 where
  -- how many levels may still be entered
  pub levels : S → ℕ
  -- a front of what is left spells a value, and what is left after it
  pub spells : Schema → S → Value → S → Type 0
  -- the next presence bit
  pub marks : S → Bool → S → Type 0
  -- the next addition: the value of an open type, or none; and what is left after it
  pub adds : Schema → S → Option Value → S → Type 0
  -- the fault that an error names is in what is left, as a schema reads it
  pub fault : Schema → E → S → Type 0
  -- an error by which a presence bit is refused: none is left, or the decoder had failed
  pub unmarked : E → S → Type 0
  -- the fault that an error names is in the next addition, as a schema reads it
  pub misadds : Schema → E → S → Type 0
  -- so much is still to come in the open scope, which counts what comes
  pub awaits : Amount → S → Type 0
  -- a list that was opened at the first state is still open at the second
  pub amidst : S → S → Type 0
  -- an error that says that a call came out of turn
  pub untimely : E → S → Type 0
  -- an error that says that a required addition isn't there, and names its tag
  pub lacking : Tag → E → S → Type 0
  -- an error that says that memory ran out
  pub memory : E → S → Type 0
  -- an error that says that the decoder had failed before
  pub already : E → S → Type 0
  pub failed : S → Bool
  pub codec : S → Codec

-- the rules of a call that takes no memory
abbrev pub freely_read : {E S : Type 0} → DecoderRules E S → DecoderRules E S
freely_read rules = record rules { memory = takes_none }

-- A call of a decoder that reads a schema: it answers what is read, or refuses; a failed decoder says so before
-- anything else; an error leaves it failed; and the variant stays.
pub record Reads {S T E : Type 0} (rules : DecoderRules E S) (c : Schema) (value : T → Value) (s : S)
    (result : Result T E) (t : S) : Type 0 where
  pub law : Answers rules.memory (rules.fault c) (rules.spells c) value s result t
  pub behaves : Behaves rules.already rules.failed rules.codec s result t

-- What holds of each relation of a decoder: one value and one state, at the same depth, unfailed, and want of memory
-- after it is want of memory of the whole.
pub record ReadsWell {S V E : Type 0} (rules : DecoderRules E S) (R : S → V → S → Type 0) : Type 0 where
  pub one : (s : S) (v w : V) (t u : S) → R s v t → R s w u → (v ≡ w) × (t ≡ u)
  pub level : (s : S) (v : V) (t : S) → R s v t → rules.levels t ≡ rules.levels s
  pub begun : (s : S) (v : V) (t : S) → R s v t → rules.failed s ≡ false
  pub left : (s : S) (v : V) (t : S) → R s v t → rules.failed t ≡ false
  pub room : (s : S) (v : V) (t : S) (e : E) → R s v t → rules.memory e t → rules.memory e s

-- What holds of a decoder's relations: those of values, that of presence bits, and those of additions.
pub record DecodesWell {S E : Type 0} (rules : DecoderRules E S) : Type 0 where
  pub spelled : (c : Schema) → ReadsWell rules (rules.spells c)
  pub marked : ReadsWell rules rules.marks
  pub added : (c : Schema) → ReadsWell rules (rules.adds c)
