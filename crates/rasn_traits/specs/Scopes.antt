-- What is in a scope, component after component, and what opening and closing one owe, stated over any codec's
-- relations.
use Rattle.std.specs.Prelude.{◌≡◌, ℕ, zero, suc, max, ◌≤◌, ◌⊎◌, Bool, true, false, Result, Ok, Err, OnErr, IsErr}
use Rattle.std.specs.Prelude.{IfOk, IsErrAnd, List, [], ◌∷◌, length, Option, Some}
use Rattle.rasn_types.specs.Values.{Value}
use Rattle.rasn_schema.specs.Schemas.{TagTree, Presence, required, listed, by_tag, count, Order, Schema, Parts}
use Rattle.rasn_schema.specs.Schemas.{no_parts, part}
use Rattle.rasn_schema.specs.Normal.{normal, normals, AtDepths}
use Rattle.rasn_traits.specs.Calls.{Behaves, EncoderRules, Written, DecoderRules, Refuses, Answers}
use Rattle.rasn_schema.specs.Structures.{extended, record_value}
use Rattle.rasn_traits.specs.Additions.{PresentsAdditions, RefusesAdditions}
use Rattle.rasn_traits.specs.AdditionsRead.{ReadsAdditions, FaultyAdditions}
use Rattle.rasn_traits.specs.Presences.{presence_bit, left_out}
use Rattle.rasn_traits.specs.Amounts.{Amount, amount_of, one_value}
use Rattle.rasn_traits.specs.Turns.{RefusesOther}
use Rattle.rasn_traits.specs.TurnsRead.{RefusesInFields, RefusesInList, RefusesOtherRead}
use Rattle.rasn_schema.specs.Records.{record_at, AtParts}

-- a record of these root components, without an extension marker
abbrev pub schema_of_parts : Parts → Schema
schema_of_parts ps = Schema.sequence listed ps false no_parts

-- One component is presented: a required one as its value; one that may be absent as its presence bit, and after a bit
-- 1 its value (X.691 19.2, 19.5).
pub data PresentsPart {E X : Type 0} (rules : EncoderRules E X) : Presence → Schema → X → Option Value → X
    → Type 0 where
  presents_required : {s : Schema} {x y : X} {v : Value} → rules.presents x s v y
      → PresentsPart rules required s x (Some v) y
  presents_there : {p : Presence} {s : Schema} {x m y : X} {v : Value}
      → presence_bit p (Some v) ≡ Some true → rules.marks x true m → rules.presents m s v y
      → PresentsPart rules p s x (Some v) y
  presents_left_out : {p : Presence} {s : Schema} {x y : X} {r : Option Value} → presence_bit p r ≡ Some false
      → rules.marks x false y → PresentsPart rules p s x r y

-- Components are presented in turn.
pub data PresentsParts {E X : Type 0} (rules : EncoderRules E X) : Parts → X → List (Option Value) → X → Type 0 where
  presents_end : {x : X} → PresentsParts rules no_parts x [] x
  presents_next : {t : TagTree} {p : Presence} {s : Schema} {ps : Parts} {x m y : X} {r : Option Value}
      {rs : List (Option Value)}
      → PresentsPart rules p s x r m → PresentsParts rules ps m rs y → PresentsParts rules (part t p s ps) x (r ∷ rs) y

-- One component is refused by an error: its value, or its presence bit.
pub data RefusesPart {E X : Type 0} (rules : EncoderRules E X) (e : E) : Presence → Schema → X → Option Value
    → Type 0 where
  refuses_required : {s : Schema} {x : X} {v : Value} → rules.refuses e x s v
      → RefusesPart rules e required s x (Some v)
  refuses_there : {p : Presence} {s : Schema} {x m : X} {v : Value}
      → presence_bit p (Some v) ≡ Some true → rules.marks x true m → rules.refuses e m s v
      → RefusesPart rules e p s x (Some v)
  refuses_bit : {p : Presence} {s : Schema} {x : X} {r : Option Value} {b : Bool} → presence_bit p r ≡ Some b
      → rules.unmarked e x → RefusesPart rules e p s x r

-- One of some components is refused, after those before it were presented.
pub data RefusesParts {E X : Type 0} (rules : EncoderRules E X) (e : E) : Parts → X → List (Option Value) → Type 0 where
  refuses_here : {t : TagTree} {p : Presence} {s : Schema} {ps : Parts} {x : X} {r : Option Value}
      {rs : List (Option Value)}
      → RefusesPart rules e p s x r → RefusesParts rules e (part t p s ps) x (r ∷ rs)
  refuses_after : {t : TagTree} {p : Presence} {s : Schema} {ps : Parts} {x m : X} {r : Option Value}
      {rs : List (Option Value)}
      → PresentsPart rules p s x r m → RefusesParts rules e ps m rs → RefusesParts rules e (part t p s ps) x (r ∷ rs)

-- Ok presents a component, and Err, memory aside, comes only where it is refused.
abbrev pub WrittenPart : {E X : Type 0} → EncoderRules E X → Presence → Schema → Option Value → X → Result (Unit {0}) E
    → X → Type 0
WrittenPart rules p s r x (Ok u) y = PresentsPart rules p s x r y
WrittenPart rules p s r x (Err e) y = rules.memory e x ⊎ RefusesPart rules e p s x r

-- Ok presents components in turn, and Err, memory aside, comes only where one of them is refused.
abbrev pub WrittenParts : {E X : Type 0} → EncoderRules E X → Parts → List (Option Value) → X → Result (Unit {0}) E → X
    → Type 0
WrittenParts rules ps rs x (Ok u) y = PresentsParts rules ps x rs y
WrittenParts rules ps rs x (Err e) y = rules.memory e x ⊎ RefusesParts rules e ps x rs

-- A call that writes components, at each depth that holds them: an error leaves the encoder failed, and the variant
-- stays.
pub record WritesParts {E X : Type 0} (rules : EncoderRules E X) (parts : ℕ → Parts) (k : ℕ) (rs : List (Option Value))
    (x : X) (result : Result (Unit {0}) E) (y : X) : Type 0 where
  pub law : AtParts parts k (λ ps. WrittenParts rules ps (normals ps rs) x result y)
  pub fails : OnErr result (rules.failed y ≡ true)
  pub kept : rules.codec y ≡ rules.codec x

-- The root components are presented in turn, and then the additions.
pub data PresentsFields {E X : Type 0} (rules : EncoderRules E X) (ps qs : Parts) (x : X) (rs xs : List (Option Value))
    (y : X) : Type 0 where
  presents_fields : {m : X} → PresentsParts rules ps x rs m → PresentsAdditions rules qs m xs y
      → PresentsFields rules ps qs x rs xs y

-- One of the components is refused, after those before it were presented.
pub data RefusesFields {E X : Type 0} (rules : EncoderRules E X) (e : E) (ps qs : Parts) (x : X)
    (rs xs : List (Option Value)) : Type 0 where
  refuses_root : RefusesParts rules e ps x rs → RefusesFields rules e ps qs x rs xs
  refuses_after_root : {m : X} → PresentsParts rules ps x rs m → RefusesAdditions rules e qs m xs
      → RefusesFields rules e ps qs x rs xs

-- Ok presents the components, and Err, memory aside, comes only where one of them is refused.
abbrev pub WrittenFields : {E X : Type 0} → EncoderRules E X → Parts → Parts → List (Option Value)
    → List (Option Value) → X → Result (Unit {0}) E → X → Type 0
WrittenFields rules ps qs rs xs x (Ok u) y = PresentsFields rules ps qs x rs xs y
WrittenFields rules ps qs rs xs x (Err e) y = rules.memory e x ⊎ RefusesFields rules e ps qs x rs xs

-- Of a SET there is as much as it has components: without that, its values wouldn't hang on these (X.691 21.1).
abbrev pub IsCounted : Order → Parts → List (Option Value) → Type 0
IsCounted listed ps rs = Unit {0}
IsCounted by_tag ps rs = length rs ≡ count ps

-- a fact at each unfolding of root components and of additions that is deep enough for values of k levels
pub record AtFields (parts additions : ℕ → Parts) (k : ℕ) (P : Parts → Parts → Type 0) : Type 0 where
  pub at : (n : ℕ) → k ≤ n → P (parts n) (additions n)

-- A call that writes root components and then gives additions, at each depth that holds them: an error leaves the
-- encoder failed, and the variant stays.
pub record WritesFields {E X : Type 0} (rules : EncoderRules E X) (parts additions : ℕ → Parts) (k : ℕ)
    (rs xs : List (Option Value)) (x : X) (result : Result (Unit {0}) E) (y : X) : Type 0 where
  pub law : AtFields parts additions k (λ ps qs. WrittenFields rules ps qs (normals ps rs) (normals qs xs) x result y)
  pub fails : OnErr result (rules.failed y ≡ true)
  pub kept : rules.codec y ≡ rules.codec x

-- What passes out of a scope of some components, which was opened at x and begins at i: want of memory, and the refusal
-- of a component, which is one of the record: a SEQUENCE, or a SET.
pub record Passes {E X : Type 0} (rules : EncoderRules E X) (order : Order) (ps : Parts) (marker : Bool) (qs : Parts)
    (x i : X) : Type 0 where
  pub room : (e : E) → rules.memory e i → rules.memory e x
  pub of_record : (e : E) (rs xs : List (Option Value)) → IsCounted order ps rs → RefusesFields rules e ps qs i rs xs
      → rules.refuses e x (Schema.sequence order ps marker qs) (record_value rs xs)

-- Ok is inside a record, and Err, memory aside, refuses every record of these components.
abbrev pub OpenedToWrite : {E X O : Type 0} → EncoderRules E X → (Schema → X → O → X → Type 0) → Order → (ℕ → Parts)
    → Bool → (ℕ → Parts) → X → Result O E → X → Type 0
OpenedToWrite rules opens order parts marker additions x (Ok o) i =
    (n : ℕ) → opens (Schema.sequence order (parts n) marker (additions n)) x o i
    × Passes rules order (parts n) marker (additions n) x i
OpenedToWrite rules opens order parts marker additions x (Err e) i =
    rules.memory e x ⊎ ((n : ℕ) (v : Value)
    → rules.refuses e x (Schema.sequence order (parts n) marker (additions n)) v)

-- A call that opens a record to write.
pub record OpensToWrite {E X O : Type 0} (rules : EncoderRules E X) (opens : Schema → X → O → X → Type 0)
    (order : Order) (parts : ℕ → Parts) (marker : Bool) (additions : ℕ → Parts) (x : X) (result : Result O E)
    (y : X) : Type 0 where
  pub law : OpenedToWrite rules opens order parts marker additions x result y
  pub behaves : Behaves rules.already rules.failed rules.codec x result y

-- A call that closes one, in which its components were presented as they are listed: it answers as one call that writes
-- the whole record.
pub record ClosesWritten {E X O : Type 0} (rules : EncoderRules E X) (opens : Schema → X → O → X → Type 0)
    (order : Order) (parts : ℕ → Parts) (marker : Bool) (additions : ℕ → Parts) (o : O) (j : X)
    (result : Result (Unit {0}) E) (y : X) : Type 0 where
  pub law : (x i : X) (n : ℕ) (rs xs : List (Option Value))
      → opens (Schema.sequence order (parts n) marker (additions n)) x o i
      → PresentsFields rules (parts n) (additions n) i rs xs j
      → Written rules (Schema.sequence order (parts n) marker (additions n)) (record_value rs xs) x result y
  pub behaves : Behaves rules.already rules.failed rules.codec j result y

-- A record was opened at x, and all its components were presented as they are listed.
pub record IsInTurn {E X O : Type 0} (rules : EncoderRules E X) (opens : Schema → X → O → X → Type 0)
    (order : Order) (parts : ℕ → Parts) (marker : Bool) (additions : ℕ → Parts) (o : O) (j : X) : Type 0 where
  pub before : X
  pub inside : X
  pub levels : ℕ
  pub root : List (Option Value)
  pub added : List (Option Value)
  pub opened : opens (Schema.sequence order (parts levels) marker (additions levels)) before o inside
  pub presented : PresentsFields rules (parts levels) (additions levels) inside root added j

-- A call that closes a record as `ClosesWritten` says. Where a component, a presence bit or an addition wasn't given,
-- or one too many, it is refused.
pub record ClosesInTurn {E X O : Type 0} (rules : EncoderRules E X) (opens : Schema → X → O → X → Type 0)
    (order : Order) (parts : ℕ → Parts) (marker : Bool) (additions : ℕ → Parts) (o : O) (j : X)
    (result : Result (Unit {0}) E) (y : X) : Type 0 where
  pub closes : ClosesWritten rules opens order parts marker additions o j result y
  pub untimely : (x i : X) (n : ℕ) → opens (Schema.sequence order (parts n) marker (additions n)) x o i
      → RefusesOther rules (amount_of (parts n) (additions n)) i j result

-- What a function owes that is lent a codec: the variant stays.
pub record KeepsCodec {X R C : Type 0} (codec : X → C) (returns : X → R → X → Type 0) : Type 0 where
  pub stays : (x : X) (r : R) (y : X) → returns x r y → codec y ≡ codec x

-- How a call answers that is around a function which is lent a codec, so that it swallows no refusal: an error, where
-- the function wasn't called; the function's own error, where it answered one; and where it answered Ok and left the
-- codec failed, an error that says so.
pub data Ends {E X T A : Type 0} (already : E → X → Type 0) (failed : X → Bool) (returns : X → Result T E → X → Type 0)
    (result : Result A E) : Type 0 where
  ends_before : IsErr result → Ends already failed returns result
  ends_refused : {i j : X} {e : E} → returns i (Err e) j → result ≡ Err e → Ends already failed returns result
  ends_left : {i j : X} {t : T} → returns i (Ok t) j → (failed j ≡ true → IsErrAnd result (λ e. already e j))
      → Ends already failed returns result

-- the levels of root components and of additions, of which there may be none
abbrev pub deeper_of : ℕ → ℕ → ℕ
deeper_of k zero = k
deeper_of k (suc m) = max k (suc m)

-- What a function owes that is lent an encoder to write the components rs and the additions xs, of at most k levels.
pub record WritesScope {E X : Type 0} (rules : EncoderRules E X) (parts additions : ℕ → Parts)
    (rs xs : List (Option Value)) (k : ℕ) (returns : X → Result (Unit {0}) E → X → Type 0) : Type 0 where
  pub keeps : (x : X) (r : Result (Unit {0}) E) (y : X) → returns x r y → (n : ℕ) → k ≤ n
      → WrittenFields rules (parts n) (additions n) (normals (parts n) rs) (normals (additions n) xs) x r y

-- A call that writes a record, a SEQUENCE or a SET, by a function that is lent the encoder and presents the components
-- as they are listed.
pub record WritesAround {E X : Type 0} (rules : EncoderRules E X) (order : Order) (parts : ℕ → Parts) (marker : Bool)
    (additions : ℕ → Parts) (returns : X → Result (Unit {0}) E → X → Type 0) (x : X) (result : Result (Unit {0}) E)
    (y : X) : Type 0 where
  pub law : (rs xs : List (Option Value)) (k : ℕ) → ((n : ℕ) → IsCounted order (parts n) rs)
      → WritesScope rules parts additions rs xs k returns → AtDepths (record_at order parts marker additions) (suc k)
      (λ s. Written rules s (normal s (record_value rs xs)) x result y)
  pub swallowed : Ends rules.already rules.failed returns result
  pub again : rules.failed x ≡ true → IsErrAnd result (λ e. rules.already e x)
  pub fails : OnErr result (rules.failed y ≡ true)
  pub kept : KeepsCodec rules.codec returns → rules.codec y ≡ rules.codec x

-- One component is read: a required one as its value; one that may be absent by its presence bit, and after a bit 1 as
-- its value (X.691 19.2, 19.5).
pub data ReadsPart {E S : Type 0} (rules : DecoderRules E S) : Presence → Schema → S → Option Value → S → Type 0 where
  reads_required : {c : Schema} {s t : S} {v : Value} → rules.spells c s v t → ReadsPart rules required c s (Some v) t
  reads_there : {p : Presence} {c : Schema} {s m t : S} {r : Option Value} {v : Value}
      → left_out p ≡ Some r → rules.marks s true m → rules.spells c m v t → ReadsPart rules p c s (Some v) t
  reads_left_out : {p : Presence} {c : Schema} {s t : S} {r : Option Value} → left_out p ≡ Some r
      → rules.marks s false t → ReadsPart rules p c s r t

-- Components are read in turn.
pub data ReadsParts {E S : Type 0} (rules : DecoderRules E S) : Parts → S → List (Option Value) → S → Type 0 where
  reads_end : {s : S} → ReadsParts rules no_parts s [] s
  reads_next : {k : TagTree} {p : Presence} {c : Schema} {ps : Parts} {s m t : S} {r : Option Value}
      {rs : List (Option Value)}
      → ReadsPart rules p c s r m → ReadsParts rules ps m rs t → ReadsParts rules (part k p c ps) s (r ∷ rs) t

-- The fault that an error names is in one component: in its value, or at its presence bit.
pub data FaultyPart {E S : Type 0} (rules : DecoderRules E S) (e : E) : Presence → Schema → S → Type 0 where
  faulty_required : {c : Schema} {s : S} → rules.fault c e s → FaultyPart rules e required c s
  faulty_there : {p : Presence} {c : Schema} {s m : S} {r : Option Value} → left_out p ≡ Some r → rules.marks s true m
      → rules.fault c e m → FaultyPart rules e p c s
  faulty_bit : {p : Presence} {c : Schema} {s : S} {r : Option Value} → left_out p ≡ Some r → rules.unmarked e s
      → FaultyPart rules e p c s

-- The fault that an error names is in one of some components, after those that are read before it.
pub data FaultyParts {E S : Type 0} (rules : DecoderRules E S) (e : E) : Parts → S → Type 0 where
  faulty_here : {k : TagTree} {p : Presence} {c : Schema} {ps : Parts} {s : S} → FaultyPart rules e p c s
      → FaultyParts rules e (part k p c ps) s
  faulty_after : {k : TagTree} {p : Presence} {c : Schema} {ps : Parts} {s m : S} {r : Option Value}
      → ReadsPart rules p c s r m → FaultyParts rules e ps m → FaultyParts rules e (part k p c ps) s

-- Ok answers components that are read in turn, and Err, memory aside, comes only where they aren't.
abbrev pub AnswersParts : {S T E : Type 0} → DecoderRules E S → Parts → (T → List (Option Value)) → S → Result T E → S
    → Type 0
AnswersParts rules ps = Answers rules.memory (λ e. FaultyParts rules e ps) (ReadsParts rules ps)

-- A call that reads components, to the levels left: an error leaves the decoder failed, and the variant stays.
pub record TakesParts {S T E : Type 0} (rules : DecoderRules E S) (parts : ℕ → Parts)
    (contents : T → List (Option Value)) (s : S) (result : Result T E) (t : S) : Type 0 where
  pub law : AnswersParts rules (parts (rules.levels s)) contents s result t
  pub fails : OnErr result (rules.failed t ≡ true)
  pub kept : rules.codec t ≡ rules.codec s

-- The root components are read in turn, and then the additions.
pub data ReadsFields {E S : Type 0} (rules : DecoderRules E S) (ps qs : Parts) (s : S) (rs xs : List (Option Value))
    (t : S) : Type 0 where
  reads_fields : {m : S} → ReadsParts rules ps s rs m → ReadsAdditions rules qs m xs t
      → ReadsFields rules ps qs s rs xs t

-- The fault that an error names is in one of the components, after those that are read before it.
pub data FaultyFields {E S : Type 0} (rules : DecoderRules E S) (e : E) (ps qs : Parts) (s : S) : Type 0 where
  faulty_root : FaultyParts rules e ps s → FaultyFields rules e ps qs s
  faulty_after_root : {m : S} {rs : List (Option Value)} → ReadsParts rules ps s rs m → FaultyAdditions rules e qs m
      → FaultyFields rules e ps qs s

-- No components are read, root components and then additions.
pub record ReadsNoFields {E S : Type 0} (rules : DecoderRules E S) (ps qs : Parts) (e : E) (s : S) : Type 0 where
  pub nothing : (rs xs : List (Option Value)) (t : S) → ReadsFields rules ps qs s rs xs t → ⊥
  pub stands : FaultyFields rules e ps qs s

-- Ok answers components that are read in turn, and Err, memory aside, comes only where they aren't.
abbrev pub AnswersFields : {S T E : Type 0} → DecoderRules E S → Parts → Parts → (T → List (Option Value))
    → (T → List (Option Value)) → S → Result T E → S → Type 0
AnswersFields rules ps qs contents added s (Ok v) t = ReadsFields rules ps qs s (contents v) (added v) t
AnswersFields rules ps qs contents added s (Err e) t = rules.memory e s ⊎ ReadsNoFields rules ps qs e s

-- Components are read. A search takes this as one word, and doesn't look for the state in front of the additions.
unfoldable pub AreRead : {E S : Type 0} → DecoderRules E S → Parts → Parts → S → List (Option Value)
    → List (Option Value) → S → Type 0
AreRead rules ps qs s rs xs t = ReadsFields rules ps qs s rs xs t

-- Ok answers components and then additions that are read, and Err, memory aside, comes only where none are.
abbrev pub AnswersRecord : {S T E : Type 0} → DecoderRules E S → Parts → Parts → (T → List (Option Value))
    → (T → List (Option Value)) → S → Result T E → S → Type 0
AnswersRecord rules ps qs contents added s (Ok v) t = AreRead rules ps qs s (contents v) (added v) t
AnswersRecord rules ps qs contents added s (Err e) t = rules.memory e s ⊎ ReadsNoFields rules ps qs e s

-- A call that reads root components and then additions, to the levels left: an error leaves the decoder failed, and the
-- variant stays.
pub record TakesFields {S T E : Type 0} (rules : DecoderRules E S) (parts additions : ℕ → Parts)
    (contents added : T → List (Option Value)) (s : S) (result : Result T E) (t : S) : Type 0 where
  pub law : AnswersRecord rules (parts (rules.levels s)) (additions (rules.levels s)) contents added s result t
  pub fails : OnErr result (rules.failed t ≡ true)
  pub kept : rules.codec t ≡ rules.codec s

-- Ok is inside a record, one level deeper, and Err, memory aside, comes only where no such record is read.
abbrev pub OpenedToRead : {E S O : Type 0} → DecoderRules E S → (Schema → S → O → S → Type 0) → (ℕ → Parts) → Bool
    → (ℕ → Parts) → S → Result O E → S → Type 0
OpenedToRead rules opens parts marker additions s (Ok o) i =
    (rules.levels s ≡ suc (rules.levels i)) × opens (extended (parts (rules.levels i)) marker
    (additions (rules.levels i))) s o i
OpenedToRead rules opens parts marker additions s (Err e) i =
    let c = record_at listed parts marker additions (rules.levels s) in rules.memory e s
    ⊎ Refuses (rules.spells c) (rules.fault c) e s

-- A call that opens a record to read.
pub record OpensToRead {E S O : Type 0} (rules : DecoderRules E S) (opens : Schema → S → O → S → Type 0)
    (parts : ℕ → Parts) (marker : Bool) (additions : ℕ → Parts) (s : S) (result : Result O E) (t : S) : Type 0 where
  pub law : OpenedToRead rules opens parts marker additions s result t
  pub behaves : Behaves rules.already rules.failed rules.codec s result t

-- Ok is after a scope, and Err, memory aside, comes only where the record can't end here.
abbrev pub ClosedRead : {E S O : Type 0} → DecoderRules E S → (O → E → S → Type 0) → (S → O → S → Type 0) → O → S
    → Result (Unit {0}) E → S → Type 0
ClosedRead rules unended closes o s (Ok u) t = closes s o t
ClosedRead {S = S} rules unended closes o s (Err e) t = rules.memory e s
    ⊎ (((u : S) → closes s o u → ⊥) × unended o e s)

-- A call that opens a record to read, which counts what comes in it: each component, a presence bit of each that may be
-- absent, and each addition.
pub record OpensInTurn {E S O : Type 0} (rules : DecoderRules E S) (opens : Schema → S → O → S → Type 0)
    (parts : ℕ → Parts) (marker : Bool) (additions : ℕ → Parts) (s : S) (result : Result O E) (t : S) : Type 0 where
  pub law : OpenedToRead rules opens parts marker additions s result t
  pub counts : IfOk result (λ o. (n : ℕ) → rules.awaits (amount_of (parts n) (additions n)) t)
  pub behaves : Behaves rules.already rules.failed rules.codec s result t

-- A call that closes a record. Where what comes in it is counted, another amount than is due is refused, and so is a
-- list that is still open.
pub record ClosesRead {E S O : Type 0} (rules : DecoderRules E S) (unended : O → E → S → Type 0)
    (closes : S → O → S → Type 0) (o : O) (s : S) (result : Result (Unit {0}) E) (t : S) : Type 0 where
  pub law : rules.failed s ≡ false → ClosedRead rules unended closes o s result t
  pub untimely : (due : Amount) → RefusesOtherRead rules due s result
  pub in_list : RefusesInList rules s result
  pub behaves : Behaves rules.already rules.failed rules.codec s result t

-- A call that closes a record which counts what comes in it: it closes none in which nothing is counted.
pub record ClosesReadInTurn {E S O : Type 0} (rules : DecoderRules E S) (opens_fields : Schema → S → O → S → Type 0)
    (unended : O → E → S → Type 0) (closes : S → O → S → Type 0) (o : O) (s : S) (result : Result (Unit {0}) E)
    (t : S) : Type 0 where
  pub ends : ClosesRead rules unended closes o s result t
  pub in_fields : RefusesInFields rules opens_fields s result

-- A call that closes what holds one value. Where what comes in it is counted, all but one value are refused, and so is
-- a list that is still open, and a record in which nothing is counted.
pub record ClosesOneRead {E S P O : Type 0} (rules : DecoderRules E S) (opens_fields : Schema → S → P → S → Type 0)
    (unended : O → E → S → Type 0) (closes : S → O → S → Type 0) (o : O) (s : S) (result : Result (Unit {0}) E)
    (t : S) : Type 0 where
  pub law : rules.failed s ≡ false → ClosedRead rules unended closes o s result t
  pub untimely : RefusesOtherRead rules one_value s result
  pub in_list : RefusesInList rules s result
  pub in_fields : RefusesInFields rules opens_fields s result
  pub behaves : Behaves rules.already rules.failed rules.codec s result t

-- A record was opened at s, and all its components were read as they are listed.
pub record IsReadInTurn {E S O : Type 0} (rules : DecoderRules E S) (opens : Schema → S → O → S → Type 0)
    (parts : ℕ → Parts) (marker : Bool) (additions : ℕ → Parts) (o : O) (j : S) : Type 0 where
  pub before : S
  pub inside : S
  pub levels : ℕ
  pub root : List (Option Value)
  pub added : List (Option Value)
  pub opened : opens (extended (parts levels) marker (additions levels)) before o inside
  pub read : ReadsFields rules (parts levels) (additions levels) inside root added j

-- What a function owes that is lent a decoder, with `outer` levels before the scope, to read components.
pub record ReadsScope {E S T : Type 0} (rules : DecoderRules E S) (parts additions : ℕ → Parts)
    (contents added : T → List (Option Value)) (outer : ℕ) (returns : S → Result T E → S → Type 0) : Type 0 where
  pub keeps : (s : S) (r : Result T E) (t : S) → suc (rules.levels s) ≡ outer → returns s r t
      → AnswersFields rules (parts (rules.levels s)) (additions (rules.levels s)) contents added s r t

-- A call that reads a record by a function that is lent the decoder.
pub record ReadsAround {E S T : Type 0} (rules : DecoderRules E S) (parts : ℕ → Parts) (marker : Bool)
    (additions : ℕ → Parts) (contents added : T → List (Option Value)) (returns : S → Result T E → S → Type 0) (s : S)
    (result : Result T E) (t : S) : Type 0 where
  pub law : ReadsScope rules parts additions contents added (rules.levels s) returns
      → (let c = record_at listed parts marker additions (rules.levels s) in
      Answers rules.memory (rules.fault c) (rules.spells c) (λ x. record_value (contents x) (added x)) s result t)
  pub swallowed : Ends rules.already rules.failed returns result
  pub again : rules.failed s ≡ true → IsErrAnd result (λ e. rules.already e s)
  pub fails : OnErr result (rules.failed t ≡ true)
  pub kept : KeepsCodec rules.codec returns → rules.codec t ≡ rules.codec s

-- What holds of a decoder's scopes. A record is what is in its scope, up to its end: what is read there is the
-- record, no record is read in another way, and a fault in a component, or at the end, is one of the record.
pub record ScopesWell {E S O : Type 0} (rules : DecoderRules E S) (unended : O → E → S → Type 0)
    (opens : Schema → S → O → S → Type 0) (closes : S → O → S → Type 0) : Type 0 where
  pub inside : (c : Schema) (s : S) (o : O) (i : S) → opens c s o i → rules.failed i ≡ false
  pub room : (c : Schema) (s : S) (o : O) (i : S) (e : E) → opens c s o i → rules.memory e i → rules.memory e s
  pub in_part : (ps : Parts) (marker : Bool) (qs : Parts) (s : S) (o : O) (i : S) (e : E)
      → opens (extended ps marker qs) s o i
      → FaultyFields rules e ps qs i → rules.fault (extended ps marker qs) e s
  pub at_end : (ps : Parts) (marker : Bool) (qs : Parts) (s i j : S) (o : O) (rs xs : List (Option Value)) (e : E)
      → opens (extended ps marker qs) s o i
      → ReadsFields rules ps qs i rs xs j → unended o e j → rules.fault (extended ps marker qs) e s
  pub record_read : (ps : Parts) (marker : Bool) (qs : Parts) (s i j t : S) (o : O) (rs xs : List (Option Value))
      → opens (extended ps marker qs) s o i
      → ReadsFields rules ps qs i rs xs j → closes j o t → rules.spells (extended ps marker qs) s (record_value rs xs) t
  pub record_back : (ps : Parts) (marker : Bool) (qs : Parts) (s i t : S) (o : O) (v : Value)
      → opens (extended ps marker qs) s o i → rules.spells (extended ps marker qs) s v t
      → (rs xs : List (Option Value)) × (j : S) × ReadsFields rules ps qs i rs xs j × closes j o t
