-- What additions owe that a decoder reads after the extension marker of a record (ITU-T X.691, 19.7 to 19.9), stated
-- over any codec's relations.
use Rattle.std.specs.Prelude.{◌≡◌, ℕ, ◌⊎◌, true, false, Result, Ok, Err, OnErr, List, [], ◌∷◌, Option, Some, None}
use Rattle.std.specs.Prelude.{IfOk, IfSome}
use Rattle.rasn_types.specs.Values.{Value}
use Rattle.rasn_schema.specs.Structures.{field_tag}
use Rattle.rasn_schema.specs.Schemas.{TagTree, Presence, required, Schema, Parts, no_parts, part}
use Rattle.rasn_traits.specs.Amounts.{one_value}
use Rattle.rasn_traits.specs.Calls.{Behaves, DecoderRules, Answers}
use Rattle.rasn_traits.specs.Presences.{left_out}

-- One addition is read: its value, or, where none is there, what stands for it; a required one is always there (X.691
-- 19.9).
pub data ReadsAddition {E S : Type 0} (rules : DecoderRules E S) : Presence → Schema → S → Option Value → S
    → Type 0 where
  reads_added : {p : Presence} {c : Schema} {s t : S} {v : Value} → rules.adds c s (Some v) t
      → ReadsAddition rules p c s (Some v) t
  reads_lacking : {p : Presence} {c : Schema} {s t : S} {r : Option Value} → left_out p ≡ Some r
      → rules.adds c s None t → ReadsAddition rules p c s r t

-- Additions are read in turn.
pub data ReadsAdditions {E S : Type 0} (rules : DecoderRules E S) : Parts → S → List (Option Value) → S → Type 0 where
  reads_no_more : {s : S} → ReadsAdditions rules no_parts s [] s
  reads_further : {k : TagTree} {p : Presence} {c : Schema} {ps : Parts} {s m t : S} {r : Option Value}
      {rs : List (Option Value)}
      → ReadsAddition rules p c s r m → ReadsAdditions rules ps m rs t
      → ReadsAdditions rules (part k p c ps) s (r ∷ rs) t

-- The fault that an error names is in one addition: in its value, or in that a required one isn't there.
pub data FaultyAddition {E S : Type 0} (rules : DecoderRules E S) (e : E) : TagTree → Presence → Schema → S
    → Type 0 where
  faulty_added : {k : TagTree} {p : Presence} {c : Schema} {s : S} → rules.misadds c e s
      → FaultyAddition rules e k p c s
  faulty_lacking : {k : TagTree} {c : Schema} {s t : S} → rules.adds c s None t → rules.lacking (field_tag k) e t
      → FaultyAddition rules e k required c s

-- The fault that an error names is in one of some additions, after those that are read before it.
pub data FaultyAdditions {E S : Type 0} (rules : DecoderRules E S) (e : E) : Parts → S → Type 0 where
  faulty_addition : {k : TagTree} {p : Presence} {c : Schema} {ps : Parts} {s : S} → FaultyAddition rules e k p c s
      → FaultyAdditions rules e (part k p c ps) s
  faulty_further : {k : TagTree} {p : Presence} {c : Schema} {ps : Parts} {s m : S} {r : Option Value}
      → ReadsAddition rules p c s r m → FaultyAdditions rules e ps m → FaultyAdditions rules e (part k p c ps) s

-- Ok answers additions that are read in turn, and Err, memory aside, comes only where they aren't.
abbrev pub AnswersAdditions : {S T E : Type 0} → DecoderRules E S → Parts → (T → List (Option Value)) → S → Result T E
    → S → Type 0
AnswersAdditions rules qs = Answers rules.memory (λ e. FaultyAdditions rules e qs) (ReadsAdditions rules qs)

-- A call that reads additions, to the levels left: an error leaves the decoder failed, and the variant stays.
pub record TakesAdditions {S T E : Type 0} (rules : DecoderRules E S) (additions : ℕ → Parts)
    (contents : T → List (Option Value)) (s : S) (result : Result T E) (t : S) : Type 0 where
  pub law : AnswersAdditions rules (additions (rules.levels s)) contents s result t
  pub fails : OnErr result (rules.failed t ≡ true)
  pub kept : rules.codec t ≡ rules.codec s

-- A call that reads the next addition as a value of a schema, or as none.
pub record TakesAddition {S T E : Type 0} (rules : DecoderRules E S) (c : Schema) (slot : T → Option Value) (s : S)
    (result : Result T E) (t : S) : Type 0 where
  pub law : Answers rules.memory (rules.misadds c) (rules.adds c) slot s result t
  pub behaves : Behaves rules.already rules.failed rules.codec s result t

-- An error by which no addition is read, whichever the schema.
pub record ReadsNoAddition {E S : Type 0} (rules : DecoderRules E S) (e : E) (s : S) : Type 0 where
  pub nothing : (c : Schema) (r : Option Value) (t : S) → rules.adds c s r t → ⊥
  pub stands : (c : Schema) → rules.misadds c e s

-- Ok is inside the open type of the next addition, or after one that isn't there; and Err, memory aside, comes only
-- where none is read.
abbrev pub AdditionOpenedToRead : {E S O : Type 0} → DecoderRules E S → (S → O → S → Type 0) → S → Result (Option O) E
    → S → Type 0
AdditionOpenedToRead rules opens s (Ok (Some o)) i = opens s o i
AdditionOpenedToRead rules opens s (Ok None) t = (c : Schema) → rules.adds c s None t
AdditionOpenedToRead rules opens s (Err e) t = rules.memory e s ⊎ ReadsNoAddition rules e s

-- A call that opens the open type of the next addition to read, where it is there: one value is to come.
pub record OpensAdditionToRead {E S O : Type 0} (rules : DecoderRules E S) (opens : S → O → S → Type 0) (s : S)
    (result : Result (Option O) E) (t : S) : Type 0 where
  pub law : AdditionOpenedToRead rules opens s result t
  pub counts : IfOk result (λ r. IfSome r (λ o. rules.awaits one_value t))
  pub behaves : Behaves rules.already rules.failed rules.codec s result t

-- What holds of a decoder's open types. An addition is the value in its open type, up to its end: what is read there is
-- the addition, none is read in another way, it takes no level, and a fault in the value, or at the end, is one of the
-- addition.
pub record AdditionsWell {E S O : Type 0} (rules : DecoderRules E S) (unended : O → E → S → Type 0)
    (opens : S → O → S → Type 0) (closes : S → O → S → Type 0) : Type 0 where
  pub inside : (s : S) (o : O) (i : S) → opens s o i → rules.failed i ≡ false
  pub level : (s : S) (o : O) (i : S) → opens s o i → rules.levels i ≡ rules.levels s
  pub room : (s : S) (o : O) (i : S) (e : E) → opens s o i → rules.memory e i → rules.memory e s
  pub in_addition : (c : Schema) (s : S) (o : O) (i : S) (e : E) → opens s o i → rules.fault c e i → rules.misadds c e s
  pub at_end : (c : Schema) (s i j : S) (o : O) (v : Value) (e : E) → opens s o i → rules.spells c i v j
      → unended o e j → rules.misadds c e s
  pub addition_read : (c : Schema) (s i j t : S) (o : O) (v : Value) → opens s o i → rules.spells c i v j
      → closes j o t → rules.adds c s (Some v) t
  pub addition_back : (c : Schema) (s i t : S) (o : O) (r : Option Value) → opens s o i → rules.adds c s r t
      → (v : Value) × (j : S) × (r ≡ Some v) × rules.spells c i v j × closes j o t
