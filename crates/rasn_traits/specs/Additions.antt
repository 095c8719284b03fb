-- What additions owe that are after the extension marker of a record (ITU-T X.691, 19.7 to 19.9), stated over any
-- codec's relations.
use Rattle.std.specs.Prelude.{◌≡◌, ℕ, ◌⊎◌, Bool, true, false, Result, Ok, Err, OnErr, List, [], ◌∷◌, Option, Some, None}
use Rattle.rasn_types.specs.Values.{Value}
use Rattle.rasn_schema.specs.Schemas.{TagTree, Presence, required, group, Schema, Parts, no_parts, part}
use Rattle.rasn_schema.specs.Normal.{normal, normals, settle, AtDepths}
use Rattle.rasn_schema.specs.Records.{AtParts}
use Rattle.rasn_traits.specs.Calls.{Behaves, EncoderRules}
use Rattle.rasn_traits.specs.Presences.{presence_bit}
use Rattle.rasn_traits.specs.Amounts.{one_value}
use Rattle.rasn_traits.specs.Turns.{RefusesOther}

-- X.691 19.7: the bit of an addition: a required one that is there is written, and else it is as for a component of the
-- root
abbrev pub addition_bit : Presence → Option Value → Option Bool
addition_bit required None = None
addition_bit required (Some v) = Some true
addition_bit p r = presence_bit p r

-- One addition is presented: as its value in an open type, or as absent (X.691 19.9).
pub data PresentsAddition {E X : Type 0} (rules : EncoderRules E X) : Presence → Schema → X → Option Value → X
    → Type 0 where
  presents_added : {p : Presence} {s : Schema} {x y : X} {v : Value}
      → addition_bit p (Some v) ≡ Some true → rules.adds x s v y → PresentsAddition rules p s x (Some v) y
  presents_skipped : {p : Presence} {s : Schema} {x y : X} {r : Option Value}
      → addition_bit p r ≡ Some false → rules.skips x y → PresentsAddition rules p s x r y

-- Additions are presented in turn.
pub data PresentsAdditions {E X : Type 0} (rules : EncoderRules E X) : Parts → X → List (Option Value) → X
    → Type 0 where
  presents_no_more : {x : X} → PresentsAdditions rules no_parts x [] x
  presents_further : {t : TagTree} {p : Presence} {s : Schema} {ps : Parts} {x m y : X} {r : Option Value}
      {rs : List (Option Value)}
      → PresentsAddition rules p s x r m → PresentsAdditions rules ps m rs y
      → PresentsAdditions rules (part t p s ps) x (r ∷ rs) y

-- The value of an addition is refused by an error: inside its open type, or since none is left to give.
pub data RefusesAdded {E X : Type 0} (rules : EncoderRules E X) (e : E) (x : X) (s : Schema) (v : Value) : Type 0 where
  refuses_inside : {i : X} → rules.begins x i → rules.refuses e i s v → RefusesAdded rules e x s v
  refuses_surplus : rules.surplus e x → RefusesAdded rules e x s v

-- One addition is refused: its value, or as one too many.
pub data RefusesAddition {E X : Type 0} (rules : EncoderRules E X) (e : E) : Presence → Schema → X → Option Value
    → Type 0 where
  refuses_added : {p : Presence} {s : Schema} {x : X} {v : Value}
      → addition_bit p (Some v) ≡ Some true → RefusesAdded rules e x s v → RefusesAddition rules e p s x (Some v)
  refuses_skipped : {p : Presence} {s : Schema} {x : X} {r : Option Value} → addition_bit p r ≡ Some false
      → rules.surplus e x → RefusesAddition rules e p s x r

-- One of some additions is refused, after those before it were presented.
pub data RefusesAdditions {E X : Type 0} (rules : EncoderRules E X) (e : E) : Parts → X → List (Option Value)
    → Type 0 where
  refuses_addition : {t : TagTree} {p : Presence} {s : Schema} {ps : Parts} {x : X} {r : Option Value}
      {rs : List (Option Value)}
      → RefusesAddition rules e p s x r → RefusesAdditions rules e (part t p s ps) x (r ∷ rs)
  refuses_further : {t : TagTree} {p : Presence} {s : Schema} {ps : Parts} {x m : X} {r : Option Value}
      {rs : List (Option Value)}
      → PresentsAddition rules p s x r m → RefusesAdditions rules e ps m rs
      → RefusesAdditions rules e (part t p s ps) x (r ∷ rs)

-- Ok presents an addition, and Err, memory aside, comes only where it is refused.
abbrev pub WrittenAddition : {E X : Type 0} → EncoderRules E X → Presence → Schema → Option Value → X
    → Result (Unit {0}) E → X → Type 0
WrittenAddition rules p s r x (Ok u) y = PresentsAddition rules p s x r y
WrittenAddition rules p s r x (Err e) y = rules.memory e x ⊎ RefusesAddition rules e p s x r

-- Ok presents additions in turn, and Err, memory aside, comes only where one of them is refused.
abbrev pub WrittenAdditions : {E X : Type 0} → EncoderRules E X → Parts → List (Option Value) → X → Result (Unit {0}) E
    → X → Type 0
WrittenAdditions rules ps rs x (Ok u) y = PresentsAdditions rules ps x rs y
WrittenAdditions rules ps rs x (Err e) y = rules.memory e x ⊎ RefusesAdditions rules e ps x rs

-- A call that writes additions, at each depth that holds them: an error leaves the encoder failed, and the variant
-- stays.
pub record WritesAdditions {E X : Type 0} (rules : EncoderRules E X) (additions : ℕ → Parts) (k : ℕ)
    (rs : List (Option Value)) (x : X) (result : Result (Unit {0}) E) (y : X) : Type 0 where
  pub law : AtParts additions k (λ qs. WrittenAdditions rules qs (normals qs rs) x result y)
  pub fails : OnErr result (rules.failed y ≡ true)
  pub kept : rules.codec y ≡ rules.codec x

-- Ok gives the next addition as absent, and Err, memory aside, comes only where none is left to give.
abbrev pub AdditionSkipped : {E X : Type 0} → EncoderRules E X → X → Result (Unit {0}) E → X → Type 0
AdditionSkipped rules x (Ok u) y = rules.skips x y
AdditionSkipped rules x (Err e) y = rules.memory e x ⊎ rules.surplus e x

-- A call that gives the next addition as absent.
pub record SkipsAddition {E X : Type 0} (rules : EncoderRules E X) (x : X) (result : Result (Unit {0}) E)
    (y : X) : Type 0 where
  pub law : AdditionSkipped rules x result y
  pub behaves : Behaves rules.already rules.failed rules.codec x result y

-- Ok is inside the open type of the next addition, and Err, memory aside, comes only where none is left to give.
abbrev pub AdditionOpened : {E X O : Type 0} → EncoderRules E X → (X → O → X → Type 0) → X → Result O E → X → Type 0
AdditionOpened rules opens x (Ok o) i = opens x o i × rules.begins x i
AdditionOpened rules opens x (Err e) i = rules.memory e x ⊎ rules.surplus e x

-- A call that opens the open type of the next addition.
pub record OpensAddition {E X O : Type 0} (rules : EncoderRules E X) (opens : X → O → X → Type 0) (x : X)
    (result : Result O E) (i : X) : Type 0 where
  pub law : AdditionOpened rules opens x result i
  pub behaves : Behaves rules.already rules.failed rules.codec x result i

-- Ok has given the addition, and Err says that memory ran out.
abbrev pub AdditionClosed : {E X : Type 0} → EncoderRules E X → Schema → Option Value → X → Result (Unit {0}) E → X
    → Type 0
AdditionClosed rules s (Some v) x (Ok u) y = rules.adds x s v y
AdditionClosed rules s None x (Ok u) y = rules.skips x y
AdditionClosed rules s r x (Err e) y = rules.memory e x

-- A call that closes an open type in which a value was presented: it answers as one call that gives the addition. All
-- but one value are refused.
pub record ClosesAddition {E X O : Type 0} (rules : EncoderRules E X) (opens : X → O → X → Type 0) (o : O) (j : X)
    (result : Result (Unit {0}) E) (y : X) : Type 0 where
  pub law : (x i : X) (s : Schema) (v : Value) → opens x o i → rules.presents i s v j
      → AdditionClosed rules s (Some v) x result y
  pub untimely : (x i : X) → opens x o i → RefusesOther rules one_value i j result
  pub behaves : Behaves rules.already rules.failed rules.codec j result y

-- A call that closes an open type in which a group was presented: it answers as one call that gives the addition, and a
-- group that holds nothing is given as absent (X.691 19.9). All but one value are refused.
pub record ClosesGroup {E X O : Type 0} (rules : EncoderRules E X) (opens : X → O → X → Type 0) (schema : ℕ → Schema)
    (o : O) (j : X) (result : Result (Unit {0}) E) (y : X) : Type 0 where
  pub law : (x i : X) (n : ℕ) (v : Value) → opens x o i → rules.presents i (schema n) v j
      → AdditionClosed rules (schema n) (settle group (schema n) v) x result y
  pub untimely : (x i : X) → opens x o i → RefusesOther rules one_value i j result
  pub behaves : Behaves rules.already rules.failed rules.codec j result y

-- Ok has given the value of an addition, and Err, memory aside, comes only where it is refused.
abbrev pub AdditionWritten : {E X : Type 0} → EncoderRules E X → Schema → Value → X → Result (Unit {0}) E → X → Type 0
AdditionWritten rules s v x (Ok u) y = rules.adds x s v y
AdditionWritten rules s v x (Err e) y = rules.memory e x ⊎ RefusesAdded rules e x s v

-- What stands for an addition: its value in an open type, at each depth that holds it, or nothing.
abbrev pub AdditionGiven : {E X T : Type 0} → EncoderRules E X → (ℕ → Schema) → (T → ℕ) → (T → Value) → Option T → X
    → Result (Unit {0}) E → X → Type 0
AdditionGiven rules schema levels value None x result y = AdditionSkipped rules x result y
AdditionGiven rules schema levels value (Some t) x result y = AtDepths schema (levels t)
    (λ s. AdditionWritten rules s (normal s (value t)) x result y)

-- A call that gives an addition: one that is required, or that may be absent, or at its default.
pub record GivesAddition {E X T : Type 0} (rules : EncoderRules E X) (schema : ℕ → Schema) (levels : T → ℕ)
    (value : T → Value) (r : Option T) (x : X) (result : Result (Unit {0}) E) (y : X) : Type 0 where
  pub law : AdditionGiven rules schema levels value r x result y
  pub behaves : Behaves rules.already rules.failed rules.codec x result y

-- What stands for a group: nothing, also where it holds nothing (X.691 19.9).
abbrev pub GroupGiven : {E X T : Type 0} → EncoderRules E X → (ℕ → Schema) → (T → ℕ) → (T → Value) → Option T → X
    → Result (Unit {0}) E → X → Type 0
GroupGiven rules schema levels value None x result y = AdditionSkipped rules x result y
GroupGiven rules schema levels value (Some t) x result y =
    AtDepths schema (levels t) (λ s. WrittenAddition rules group s (settle group s (normal s (value t))) x result y)

-- A call that gives a group.
pub record GivesGroup {E X T : Type 0} (rules : EncoderRules E X) (schema : ℕ → Schema) (levels : T → ℕ)
    (value : T → Value) (r : Option T) (x : X) (result : Result (Unit {0}) E) (y : X) : Type 0 where
  pub law : GroupGiven rules schema levels value r x result y
  pub behaves : Behaves rules.already rules.failed rules.codec x result y
