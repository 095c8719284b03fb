-- What a call owes that writes or reads a value within octets that contain it (ITU-T X.682, 11; X.691, 11.2), stated
-- over any codec's relations.
use Rattle.std.specs.Prelude.{◌≡◌, ◌⊎◌, false, Result, Ok, Err, IfOk}
use Rattle.rasn_types.specs.Values.{Value}
use Rattle.rasn_schema.specs.Schemas.{Schema}
use Rattle.rasn_traits.specs.Amounts.{one_value}
use Rattle.rasn_traits.specs.Calls.{Behaves, DecoderRules, EncoderRules, Refuses, Written}
use Rattle.rasn_traits.specs.Turns.{RefusesOther}

-- What passes out of octets that were opened at x, and inside which it is i: want of memory, and the refusal of a
-- value, which is one of what contains it.
pub record PassesContents {E X : Type 0} (rules : EncoderRules E X) (x i : X) : Type 0 where
  pub room : (e : E) → rules.memory e i → rules.memory e x
  pub of_contents : (e : E) (s : Schema) (v : Value) → rules.refuses e i s v
      → rules.refuses e x (Schema.containing s) v

-- Ok is inside the octets, and Err, memory aside, refuses each value that they would contain.
abbrev pub OpenedContents : {E X O : Type 0} → EncoderRules E X → (X → O → X → Type 0) → X → Result O E → X → Type 0
OpenedContents rules opens x (Ok o) i = opens x o i × PassesContents rules x i
OpenedContents rules opens x (Err e) i =
    rules.memory e x ⊎ ((s : Schema) (v : Value) → rules.refuses e x (Schema.containing s) v)

-- A call that opens octets that are to contain a value.
pub record OpensContents {E X O : Type 0} (rules : EncoderRules E X) (opens : X → O → X → Type 0) (x : X)
    (result : Result O E) (i : X) : Type 0 where
  pub law : OpenedContents rules opens x result i
  pub behaves : Behaves rules.already rules.failed rules.codec x result i

-- A call that closes octets in which a value was presented: it answers as one call that writes what contains it. All
-- but one value are refused.
pub record ClosesContents {E X O : Type 0} (rules : EncoderRules E X) (opens : X → O → X → Type 0) (o : O) (j : X)
    (result : Result (Unit {0}) E) (y : X) : Type 0 where
  pub law : (x i : X) (s : Schema) (v : Value) → opens x o i → rules.presents i s v j
      → Written rules (Schema.containing s) v x result y
  pub untimely : (x i : X) → opens x o i → RefusesOther rules one_value i j result
  pub behaves : Behaves rules.already rules.failed rules.codec j result y

-- Ok is inside octets that contain a value, and Err, memory aside, comes only where none are read.
abbrev pub OpenedContentsToRead : {E S O : Type 0} → DecoderRules E S → (S → O → S → Type 0) → S → Result O E → S
    → Type 0
OpenedContentsToRead rules opens s (Ok o) i = opens s o i
OpenedContentsToRead rules opens s (Err e) i = rules.memory e s
    ⊎ ((c : Schema) → Refuses (rules.spells (Schema.containing c)) (rules.fault (Schema.containing c)) e s)

-- A call that opens octets that contain a value, to read it: one value is to come.
pub record OpensContentsToRead {E S O : Type 0} (rules : DecoderRules E S) (opens : S → O → S → Type 0) (s : S)
    (result : Result O E) (i : S) : Type 0 where
  pub law : OpenedContentsToRead rules opens s result i
  pub counts : IfOk result (λ o. rules.awaits one_value i)
  pub behaves : Behaves rules.already rules.failed rules.codec s result i

-- What holds of a decoder's octets that contain a value, up to their end: what is read there is what they contain, it
-- is read in no other way, they take no level, and a fault in the value, or at the end, is one of theirs.
pub record ContentsWell {E S O : Type 0} (rules : DecoderRules E S) (unended : O → E → S → Type 0)
    (opens : S → O → S → Type 0) (closes : S → O → S → Type 0) : Type 0 where
  pub inside : (s : S) (o : O) (i : S) → opens s o i → rules.failed i ≡ false
  pub level : (s : S) (o : O) (i : S) → opens s o i → rules.levels i ≡ rules.levels s
  pub room : (s : S) (o : O) (i : S) (e : E) → opens s o i → rules.memory e i → rules.memory e s
  pub in_contents : (c : Schema) (s : S) (o : O) (i : S) (e : E) → opens s o i → rules.fault c e i
      → rules.fault (Schema.containing c) e s
  pub at_end : (c : Schema) (s i j : S) (o : O) (v : Value) (e : E) → opens s o i → rules.spells c i v j
      → unended o e j → rules.fault (Schema.containing c) e s
  pub contents_read : (c : Schema) (s i j t : S) (o : O) (v : Value) → opens s o i → rules.spells c i v j
      → closes j o t → rules.spells (Schema.containing c) s v t
  pub contents_back : (c : Schema) (s i t : S) (o : O) (v : Value) → opens s o i
      → rules.spells (Schema.containing c) s v t → (j : S) × rules.spells c i v j × closes j o t
