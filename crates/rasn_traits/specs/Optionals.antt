-- What a call owes that writes or reads a component which may be absent, stated over any codec's relations.
use Rattle.std.specs.Prelude.{◌≡◌, ℕ, Bool, Result, Ok, Err, Option, Some, None}
use Rattle.rasn_types.specs.Values.{Value, same}
use Rattle.rasn_schema.specs.Schemas.{Presence, optional, default, Schema}
use Rattle.rasn_schema.specs.Normal.{normal, AtDepths}
use Rattle.rasn_traits.specs.Calls.{Behaves, EncoderRules, DecoderRules, Answers, takes_none}
use Rattle.rasn_traits.specs.Scopes.{PresentsPart, RefusesPart, WrittenPart, ReadsPart, FaultyPart}

-- Ok gives the next presence bit, and Err comes only where it is refused.
abbrev pub GivesPresence : {E X : Type 0} → EncoderRules E X → Bool → X → Result (Unit {0}) E → X → Type 0
GivesPresence rules b x (Ok u) y = rules.marks x b y
GivesPresence rules b x (Err e) y = rules.unmarked e x

-- A call of an encoder that gives the next presence bit. It takes no memory.
pub record GivesBit {E X : Type 0} (rules : EncoderRules E X) (b : Bool) (x : X) (result : Result (Unit {0}) E)
    (y : X) : Type 0 where
  pub law : GivesPresence rules b x result y
  pub behaves : Behaves rules.already rules.failed rules.codec x result y

-- A call that writes an optional component which is there, at each depth that holds it.
pub record EncodesSome {E X : Type 0} (rules : EncoderRules E X) (schema : ℕ → Schema) (k : ℕ) (v : Value) (x : X)
    (result : Result (Unit {0}) E) (y : X) : Type 0 where
  pub law : AtDepths schema k (λ s. WrittenPart rules optional s (Some (normal s v)) x result y)
  pub behaves : Behaves rules.already rules.failed rules.codec x result y

-- Ok presents a component, and Err comes only where it is refused: memory isn't asked for.
abbrev pub WrittenFreely : {E X : Type 0} → EncoderRules E X → Presence → Schema → Option Value → X
    → Result (Unit {0}) E → X → Type 0
WrittenFreely rules p s r x (Ok u) y = PresentsPart rules p s x r y
WrittenFreely rules p s r x (Err e) y = RefusesPart rules e p s x r

-- A call that writes an optional component which is absent, of whichever schema. It takes no memory.
pub record EncodesNone {E X : Type 0} (rules : EncoderRules E X) (x : X) (result : Result (Unit {0}) E)
    (y : X) : Type 0 where
  pub law : (s : Schema) → WrittenFreely rules optional s None x result y
  pub behaves : Behaves rules.already rules.failed rules.codec x result y

-- What the test of a default owes: at each depth that holds a value it says whether the value is the default.
pub record TestsDefault (schema : ℕ → Schema) (k : ℕ) (v d : Value) (returns : Bool → Type 0) : Type 0 where
  pub says : (b : Bool) → returns b → AtDepths schema k (λ s. b ≡ same (normal s v) d)

-- A call that writes a component with a default, by a test of that.
pub record EncodesDefault {E X : Type 0} (rules : EncoderRules E X) (schema : ℕ → Schema) (k : ℕ) (v : Value)
    (returns : Bool → Type 0) (x : X) (result : Result (Unit {0}) E) (y : X) : Type 0 where
  pub law : (d : Value) → TestsDefault schema k v d returns → AtDepths schema k
      (λ s. WrittenPart rules (default d) s (Some (normal s v)) x result y)
  pub behaves : Behaves rules.already rules.failed rules.codec x result y

-- A call of a decoder that reads the next presence bit. It takes no memory.
pub record ReadsBit {E S : Type 0} (rules : DecoderRules E S) (s : S) (result : Result Bool E) (t : S) : Type 0 where
  pub law : Answers takes_none rules.unmarked rules.marks (λ b. b) s result t
  pub behaves : Behaves rules.already rules.failed rules.codec s result t

-- A call that reads a component of a presence.
pub record ReadsComponent {E S T : Type 0} (rules : DecoderRules E S) (p : Presence) (c : Schema)
    (slot : T → Option Value) (s : S) (result : Result T E) (t : S) : Type 0 where
  pub law : Answers rules.memory (λ e. FaultyPart rules e p c) (ReadsPart rules p c) slot s result t
  pub behaves : Behaves rules.already rules.failed rules.codec s result t

-- What a function owes that gives a default: what it makes is the default.
pub record MakesDefault {T A : Type 0} (value : T → Value) (d : Value) (returns : Result T A → Type 0) : Type 0 where
  pub makes : (x : T) → returns (Ok x) → value x ≡ d

-- A call that reads a component with a default, which a function gives.
pub record ReadsDefault {E S T A : Type 0} (rules : DecoderRules E S) (c : Schema) (value : T → Value)
    (returns : Result T A → Type 0) (s : S) (result : Result T E) (t : S) : Type 0 where
  pub law : (d : Value) → MakesDefault value d returns → Answers rules.memory (λ e. FaultyPart rules e (default d) c)
      (ReadsPart rules (default d) c) (λ x. Some (value x)) s result t
  pub behaves : Behaves rules.already rules.failed rules.codec s result t
