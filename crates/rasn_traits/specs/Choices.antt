-- What a call owes that writes or reads a choice (X.680 29), and what is in it, stated over any codec's relations.
-- `choice` is the choice by the number of levels of its alternatives, `vs` and `xs` are its variants before an
-- extension marker and after one, and `d` and `k` are the list and the place there in which an alternative stands.
use Rattle.std.specs.Prelude.{◌≡◌, ℕ, suc, ◌≤◌, ◌<◌, ◌⊎◌, true, false, Result, Ok, Err, OnErr, IsErrAnd, IfOk}
use Rattle.std.specs.Prelude.{IfSome, List, length, Option, Some, None}
use Rattle.rasn_types.specs.Values.{Value, alternative, Side, root, added}
use Rattle.rasn_types.specs.declared.types.Tag.{Tag}
use Rattle.rasn_schema.specs.Schemas
use Rattle.rasn_schema.specs.Schemas.{Schema}
use Rattle.rasn_schema.specs.Choices.{VariantShape, one_level_in, place_of, variants_after, variants_on}
use Rattle.rasn_schema.specs.Structures.{alternative_in, tag_of}
use Rattle.rasn_schema.specs.Components.{Chosen}
use Rattle.rasn_schema.specs.Normal.{normal, AtDepths}
use Rattle.rasn_schema.specs.declared.items.Place.{Place}
use Rattle.rasn_schema.specs.declared.items.Place.TheVariants.{Root, Added}
use Rattle.rasn_traits.specs.Calls.{Behaves, EncoderRules, Encodes, Written, DecoderRules, Refuses, Answers}
use Rattle.rasn_traits.specs.Scopes.{KeepsCodec}
use Rattle.rasn_traits.specs.Amounts.{one_value}
use Rattle.rasn_traits.specs.Turns.{RefusesOther}

-- the list of a place, and where it is there
abbrev pub side_of : Place → Side
side_of (Root i) = root
side_of (Added i) = added

abbrev pub index_in : Place → ℕ
index_in (Root i) = i
index_in (Added i) = i

-- an alternative is at a place
abbrev pub IsPlaceOf : List VariantShape → Option (List VariantShape) → Place → Type 0
IsPlaceOf vs xs (Root i) = i < length vs
IsPlaceOf vs xs (Added i) = i < length (variants_after xs)

-- the alternative that a value is is at a place
pub record StandsAtPlace (vs : List VariantShape) (xs : Option (List VariantShape)) (c : Chosen) (place : Place)
    : Type 0 where
  pub side : side_of place ≡ c.side
  pub index : index_in place ≡ c.place
  pub there : IsPlaceOf vs xs place

-- a fact on the schema of the alternative at a place, at each unfolding that is deep enough for a value of so many
-- levels
pub record AtAlternative (choice : ℕ → Schema) (d : Side) (k depth : ℕ) (P : Schema → Type 0) : Type 0 where
  pub at : (n : ℕ) → depth ≤ n → (s : Schema) × (alternative_in (choice n) d k ≡ Some s) × P s

-- What passes out of a choice that was opened at x, and inside which it is i: want of memory, and the refusal of an
-- alternative, which is one of the choice.
pub record PassesChoice {E X : Type 0} (rules : EncoderRules E X) (c : Schema) (x i : X) : Type 0 where
  pub room : (e : E) → rules.memory e i → rules.memory e x
  pub of_choice : (e : E) (d : Side) (k : ℕ) (s : Schema) (v : Value) → alternative_in c d k ≡ Some s
      → rules.refuses e i s v → rules.refuses e x c (alternative d k v)

-- Ok is inside a choice, and Err, memory aside, refuses every choice of these alternatives.
abbrev pub OpenedChoice : {E X O : Type 0} → EncoderRules E X → (Schema → X → O → X → Type 0) → (ℕ → Schema) → X
    → Result O E → X → Type 0
OpenedChoice rules opens choice x (Ok o) i = (n : ℕ) → opens (choice n) x o i × PassesChoice rules (choice n) x i
OpenedChoice rules opens choice x (Err e) i = rules.memory e x ⊎ ((n : ℕ) (v : Value) → rules.refuses e x (choice n) v)

-- A call that opens a choice to write: its index isn't known yet, nor in which list its alternative stands.
pub record OpensChoice {E X O : Type 0} (rules : EncoderRules E X) (opens : Schema → X → O → X → Type 0)
    (choice : ℕ → Schema) (x : X) (result : Result O E) (y : X) : Type 0 where
  pub law : OpenedChoice rules opens choice x result y
  pub behaves : Behaves rules.already rules.failed rules.codec x result y

-- A call that closes one, in which the alternative was presented that goes by a tag: it answers as one call that writes
-- the whole choice. A tag by which none goes is refused, and, by a tag by which one goes, all but one value.
pub record ClosesChoice {E X O : Type 0} (rules : EncoderRules E X) (opens : Schema → X → O → X → Type 0)
    (choice : ℕ → Schema) (vs : List VariantShape) (xs : Option (List VariantShape)) (o : O) (t : Schemas.Tag) (j : X)
    (result : Result (Unit {0}) E) (y : X) : Type 0 where
  pub law : (x i : X) (n : ℕ) (d : Side) (k : ℕ) (s : Schema) (v : Value) → opens (choice n) x o i
      → place_of t (variants_on d vs xs) ≡ Some k → alternative_in (choice n) d k ≡ Some s
      → rules.presents i s v j → Written rules (choice n) (alternative d k v) x result y
  pub unknown : place_of t vs ≡ None → place_of t (variants_after xs) ≡ None
      → IsErrAnd result (λ e. rules.already e j ⊎ rules.unchosen e j)
  pub untimely : (x i : X) (n : ℕ) (d : Side) (k : ℕ) → opens (choice n) x o i
      → place_of t (variants_on d vs xs) ≡ Some k → RefusesOther rules one_value i j result
  pub behaves : Behaves rules.already rules.failed rules.codec j result y

-- What passes out of a choice that was opened at x to write one of its alternatives, and inside which it is i: want of
-- memory, and the refusal of that alternative, which is one of the choice.
pub record PassesAlternative {E X : Type 0} (rules : EncoderRules E X) (c : Schema) (d : Side) (k : ℕ) (x i : X)
    : Type 0 where
  pub room : (e : E) → rules.memory e i → rules.memory e x
  pub of_choice : (e : E) (s : Schema) (v : Value) → alternative_in c d k ≡ Some s
      → rules.refuses e i s v → rules.refuses e x c (alternative d k v)

-- Ok is inside a choice, where its alternative at a place is written, and Err, memory aside, refuses that alternative.
abbrev pub OpenedAlternative : {E X O : Type 0} → EncoderRules E X → (Schema → Side → ℕ → X → O → X → Type 0)
    → (ℕ → Schema) → Side → ℕ → X → Result O E → X → Type 0
OpenedAlternative rules opens choice d k x (Ok o) i = (n : ℕ) → opens (choice n) d k x o i
    × PassesAlternative rules (choice n) d k x i
OpenedAlternative rules opens choice d k x (Err e) i = rules.memory e x
    ⊎ ((n : ℕ) (v : Value) → rules.refuses e x (choice n) (alternative d k v))

-- A call that opens a choice to write the alternative at a place.
pub record OpensAlternative {E X O : Type 0} (rules : EncoderRules E X)
    (opens : Schema → Side → ℕ → X → O → X → Type 0) (choice : ℕ → Schema) (place : Place) (x : X)
    (result : Result O E) (y : X) : Type 0 where
  pub law : OpenedAlternative rules opens choice (side_of place) (index_in place) x result y
  pub behaves : Behaves rules.already rules.failed rules.codec x result y

-- A call that closes one, in which the alternative was presented: it answers as one call that writes the whole choice.
-- All but one value are refused.
pub record ClosesAlternative {E X O : Type 0} (rules : EncoderRules E X)
    (opens : Schema → Side → ℕ → X → O → X → Type 0) (o : O) (j : X) (result : Result (Unit {0}) E)
    (y : X) : Type 0 where
  pub law : (x i : X) (c : Schema) (d : Side) (k : ℕ) (s : Schema) (v : Value) → opens c d k x o i
      → alternative_in c d k ≡ Some s → rules.presents i s v j → Written rules c (alternative d k v) x result y
  pub untimely : (x i : X) (c : Schema) (d : Side) (k : ℕ) → opens c d k x o i → RefusesOther rules one_value i j result
  pub behaves : Behaves rules.already rules.failed rules.codec j result y

-- Ok answers the tag by which the alternative at a place goes, and presents its value; Err, memory aside, comes only
-- where that is refused.
abbrev pub AlternativeWritten : {E X : Type 0} → EncoderRules E X → List VariantShape → ℕ → Schema → Value → X
    → Result Tag E → X → Type 0
AlternativeWritten rules variants k s v x (Ok t) y = (place_of (tag_of t) variants ≡ Some k) × rules.presents x s v y
AlternativeWritten rules variants k s v x (Err e) y = rules.memory e x ⊎ rules.refuses e x s v

-- A call that writes the value of the alternative that is chosen, of so many levels.
pub record WritesChosen {E X : Type 0} (rules : EncoderRules E X) (choice : ℕ → Schema) (c : Chosen) (depth : ℕ) (x : X)
    (result : Result (Unit {0}) E) (y : X) : Type 0 where
  pub law : AtAlternative choice c.side c.place depth (λ s. Written rules s (normal s c.value) x result y)
  pub behaves : Behaves rules.already rules.failed rules.codec x result y

-- What a function owes that is lent an encoder to write the alternative at a place, a value of so many levels.
pub record WritesAlternative {E X : Type 0} (rules : EncoderRules E X) (choice : ℕ → Schema) (vs : List VariantShape)
    (xs : Option (List VariantShape)) (d : Side) (k : ℕ) (v : Value) (depth : ℕ)
    (returns : X → Result Tag E → X → Type 0) : Type 0 where
  pub keeps : (x : X) (r : Result Tag E) (y : X) → returns x r y → AtAlternative choice d k depth
      (λ s. AlternativeWritten rules (variants_on d vs xs) k s (normal s v) x r y)

-- An error by which opening a choice is refused, memory aside that of each of its values.
abbrev pub UnopenedChoice : {E X : Type 0} → EncoderRules E X → (ℕ → Schema) → X → E → Type 0
UnopenedChoice rules choice x e = rules.memory e x ⊎ ((n : ℕ) (w : Value) → rules.refuses e x (choice n) w)

-- An error that says that no alternative goes by a tag, or that the encoder had failed before it was told the tag.
abbrev pub Unchosen : {E X : Type 0} → EncoderRules E X → X → E → Type 0
Unchosen rules j e = rules.already e j ⊎ rules.unchosen e j

-- How a call answers that is around a function which writes an alternative and answers its tag: an error by which the
-- choice isn't opened, where the function wasn't called; the function's own error; and, where it answered Ok, an error
-- that says so if it left the encoder failed, or if no alternative goes by its tag.
pub data EndsChoice {E X : Type 0} (rules : EncoderRules E X) (choice : ℕ → Schema) (vs : List VariantShape)
    (xs : Option (List VariantShape)) (returns : X → Result Tag E → X → Type 0) (x : X) (result : Result (Unit {0}) E)
    : Type 0 where
  ends_unopened : IsErrAnd result (UnopenedChoice rules choice x) → EndsChoice rules choice vs xs returns x result
  ends_refused : {i j : X} {e : E} → returns i (Err e) j → result ≡ Err e
      → EndsChoice rules choice vs xs returns x result
  ends_chosen : {i j : X} {t : Tag} → returns i (Ok t) j
      → (rules.failed j ≡ true → IsErrAnd result (λ e. rules.already e j))
      → (place_of (tag_of t) vs ≡ None → place_of (tag_of t) (variants_after xs) ≡ None
      → IsErrAnd result (Unchosen rules j)) → EndsChoice rules choice vs xs returns x result

-- A call that writes a choice by a function that is lent the encoder.
pub record WritesChoice {E X : Type 0} (rules : EncoderRules E X) (choice : ℕ → Schema) (vs : List VariantShape)
    (xs : Option (List VariantShape)) (returns : X → Result Tag E → X → Type 0) (x : X) (result : Result (Unit {0}) E)
    (y : X) : Type 0 where
  pub law : (d : Side) (k : ℕ) (v : Value) (depth : ℕ) → WritesAlternative rules choice vs xs d k v depth returns
      → AtDepths (one_level_in choice) (suc depth) (λ s. Written rules s (normal s (alternative d k v)) x result y)
  pub ends : EndsChoice rules choice vs xs returns x result
  pub again : rules.failed x ≡ true → IsErrAnd result (λ e. rules.already e x)
  pub fails : OnErr result (rules.failed y ≡ true)
  pub kept : KeepsCodec rules.codec returns → rules.codec y ≡ rules.codec x

-- Where the alternative at a place of a list has a value's schema, the choice of that value is written, or refused.
abbrev pub EncodesAt : {E X : Type 0} → EncoderRules E X → (ℕ → Schema) → Side → Option ℕ → (ℕ → Schema) → ℕ → Value
    → X → Result (Unit {0}) E → X → Type 0
EncodesAt rules choice d place schema depth v x result y =
    IfSome place (λ k. ((n : ℕ) → alternative_in (choice n) d k ≡ Some (schema n))
    → Encodes rules (one_level_in choice) (suc depth) (alternative d k v) x result y)

-- How a value is refused under a tag by which no alternative of a choice goes: the choice isn't opened, the value
-- itself is refused, or the tag.
pub data RefusesUnknown {E X : Type 0} (rules : EncoderRules E X) (choice schema : ℕ → Schema) (depth : ℕ) (v : Value)
    (x : X) (e : E) : Type 0 where
  unknown_unopened : UnopenedChoice rules choice x e → RefusesUnknown rules choice schema depth v x e
  unknown_value : {i : X} → AtDepths schema depth (λ s. rules.memory e x ⊎ rules.refuses e i s (normal s v))
      → RefusesUnknown rules choice schema depth v x e
  unknown_tag : {j : X} → Unchosen rules j e → RefusesUnknown rules choice schema depth v x e

-- A call that writes a choice by the value of one alternative, which goes by a tag: before an extension marker, or
-- after it. A tag by which none goes is refused.
pub record EncodesAlternative {E X : Type 0} (rules : EncoderRules E X) (choice : ℕ → Schema) (vs : List VariantShape)
    (xs : Option (List VariantShape)) (tag : Schemas.Tag) (schema : ℕ → Schema) (depth : ℕ) (v : Value) (x : X)
    (result : Result (Unit {0}) E) (y : X) : Type 0 where
  pub before : EncodesAt rules choice root (place_of tag vs) schema depth v x result y
  pub behind : EncodesAt rules choice added (place_of tag (variants_after xs)) schema depth v x result y
  pub unknown : place_of tag vs ≡ None → place_of tag (variants_after xs) ≡ None
      → IsErrAnd result (RefusesUnknown rules choice schema depth v x)
  pub behaves : Behaves rules.already rules.failed rules.codec x result y

-- The alternative at a place is read: the choice of its value.
abbrev pub ReadsAlternative : {E S : Type 0} → DecoderRules E S → Side → ℕ → Schema → S → Value → S → Type 0
ReadsAlternative rules d k c s w t = (v : Value) × (w ≡ alternative d k v) × rules.spells c s v t

-- The alternative is read that goes by a tag, where one of a list does.
abbrev pub TakenFrom : {E S T : Type 0} → DecoderRules E S → (ℕ → Schema) → Side → List VariantShape → Schemas.Tag
    → (T → Value) → S → Result T E → S → Type 0
TakenFrom rules choice d variants tag value s result t = (k : ℕ) (c : Schema) → place_of tag variants ≡ Some k
    → alternative_in (choice (rules.levels s)) d k ≡ Some c
    → Answers rules.memory (rules.fault c) (ReadsAlternative rules d k c) value s result t

-- A call that reads the alternative that goes by a tag, before an extension marker or after it, to the levels left.
pub record TakesAlternative {E S T : Type 0} (rules : DecoderRules E S) (choice : ℕ → Schema) (vs : List VariantShape)
    (xs : Option (List VariantShape)) (tag : Schemas.Tag) (value : T → Value) (s : S) (result : Result T E)
    (t : S) : Type 0 where
  pub before : TakenFrom rules choice root vs tag value s result t
  pub behind : TakenFrom rules choice added (variants_after xs) tag value s result t
  pub behaves : Behaves rules.already rules.failed rules.codec s result t

-- After the index of a choice, and inside its open type where it is after an extension marker, stands the
-- alternative at its place, one level deeper.
pub record IsChosen {E S O : Type 0} (rules : DecoderRules E S) (opens : Schema → Side → ℕ → S → O → S → Type 0)
    (choice : ℕ → Schema) (vs : List VariantShape) (xs : Option (List VariantShape)) (tag : Schemas.Tag) (s : S)
    (o : O) (i : S) : Type 0 where
  pub deeper : rules.levels s ≡ suc (rules.levels i)
  pub side : Side
  pub index : ℕ
  pub place : place_of tag (variants_on side vs xs) ≡ Some index
  pub schema : Schema
  pub there : alternative_in (choice (rules.levels i)) side index ≡ Some schema
  pub opened : opens (choice (rules.levels i)) side index s o i

-- Ok is where the alternative stands, with the tag by which that goes, and Err, memory aside, comes only where no
-- choice is read.
abbrev pub OpenedToChoose : {E S O : Type 0} → DecoderRules E S → (Schema → Side → ℕ → S → O → S → Type 0)
    → (ℕ → Schema) → List VariantShape → Option (List VariantShape) → S → Result (Tag × O) E → S → Type 0
OpenedToChoose rules opens choice vs xs s (Ok r) i = IsChosen rules opens choice vs xs (tag_of r.0) s r.1 i
OpenedToChoose rules opens choice vs xs s (Err e) i =
    let c = one_level_in choice (rules.levels s) in rules.memory e s ⊎ Refuses (rules.spells c) (rules.fault c) e s

-- A call that reads the index of a choice, and opens the open type of an alternative after an extension marker: one
-- value is to come.
pub record OpensToChoose {E S O : Type 0} (rules : DecoderRules E S) (opens : Schema → Side → ℕ → S → O → S → Type 0)
    (choice : ℕ → Schema) (vs : List VariantShape) (xs : Option (List VariantShape)) (s : S)
    (result : Result (Tag × O) E) (t : S) : Type 0 where
  pub law : OpenedToChoose rules opens choice vs xs s result t
  pub counts : IfOk result (λ r. rules.awaits one_value t)
  pub behaves : Behaves rules.already rules.failed rules.codec s result t

-- A call that reads the alternative at a place, to the levels left.
pub record TakesAt {E S T : Type 0} (rules : DecoderRules E S) (choice : ℕ → Schema) (place : Place)
    (value : T → Value) (s : S) (result : Result T E) (t : S) : Type 0 where
  pub there : (c : Schema) → alternative_in (choice (rules.levels s)) (side_of place) (index_in place) ≡ Some c
      → Answers rules.memory (rules.fault c) (ReadsAlternative rules (side_of place) (index_in place) c) value
      s result t
  pub behaves : Behaves rules.already rules.failed rules.codec s result t

-- After the index of a choice, and inside its open type where it is after an extension marker, stands the
-- alternative at a place, one level deeper.
pub record IsAlternative {E S O : Type 0} (rules : DecoderRules E S)
    (opens : Schema → Side → ℕ → S → O → S → Type 0) (choice : ℕ → Schema) (vs : List VariantShape)
    (xs : Option (List VariantShape)) (place : Place) (s : S) (o : O) (i : S) : Type 0 where
  pub deeper : rules.levels s ≡ suc (rules.levels i)
  pub among : IsPlaceOf vs xs place
  pub schema : Schema
  pub there : alternative_in (choice (rules.levels i)) (side_of place) (index_in place) ≡ Some schema
  pub opened : opens (choice (rules.levels i)) (side_of place) (index_in place) s o i

-- Ok is where the alternative stands, with its place, and Err, memory aside, comes only where no choice is read.
abbrev pub OpenedAlternativeToRead : {E S O : Type 0} → DecoderRules E S → (Schema → Side → ℕ → S → O → S → Type 0)
    → (ℕ → Schema) → List VariantShape → Option (List VariantShape) → S → Result (Place × O) E → S → Type 0
OpenedAlternativeToRead rules opens choice vs xs s (Ok r) i = IsAlternative rules opens choice vs xs r.0 s r.1 i
OpenedAlternativeToRead rules opens choice vs xs s (Err e) i =
    let c = one_level_in choice (rules.levels s) in rules.memory e s ⊎ Refuses (rules.spells c) (rules.fault c) e s

-- A call that reads the index of a choice, and opens the open type of an alternative after an extension marker: one
-- value is to come.
pub record OpensAlternativeToRead {E S O : Type 0} (rules : DecoderRules E S)
    (opens : Schema → Side → ℕ → S → O → S → Type 0) (choice : ℕ → Schema) (vs : List VariantShape)
    (xs : Option (List VariantShape)) (s : S) (result : Result (Place × O) E) (t : S) : Type 0 where
  pub law : OpenedAlternativeToRead rules opens choice vs xs s result t
  pub counts : IfOk result (λ r. rules.awaits one_value t)
  pub behaves : Behaves rules.already rules.failed rules.codec s result t

-- What holds of a decoder's choices. A choice is the alternative after its index, up to the end of its open type: what
-- is read there is the choice, no choice is read in another way, and a fault in the alternative, or at the end, is one
-- of the choice.
pub record ChoicesWell {E S O : Type 0} (rules : DecoderRules E S) (unended : O → E → S → Type 0)
    (opens : Schema → Side → ℕ → S → O → S → Type 0) (closes : S → O → S → Type 0) : Type 0 where
  pub inside : (c : Schema) (d : Side) (k : ℕ) (s : S) (o : O) (i : S) → opens c d k s o i → rules.failed i ≡ false
  pub room : (c : Schema) (d : Side) (k : ℕ) (s : S) (o : O) (i : S) (e : E) → opens c d k s o i → rules.memory e i
      → rules.memory e s
  pub in_alternative : (c : Schema) (d : Side) (k : ℕ) (a : Schema) (s : S) (o : O) (i : S) (e : E) → opens c d k s o i
      → alternative_in c d k ≡ Some a → rules.fault a e i → rules.fault c e s
  pub at_end : (c : Schema) (d : Side) (k : ℕ) (a : Schema) (s i j : S) (o : O) (v : Value) (e : E) → opens c d k s o i
      → alternative_in c d k ≡ Some a
      → rules.spells a i v j → unended o e j → rules.fault c e s
  pub choice_read : (c : Schema) (d : Side) (k : ℕ) (a : Schema) (s i j t : S) (o : O) (v : Value) → opens c d k s o i
      → alternative_in c d k ≡ Some a
      → rules.spells a i v j → closes j o t → rules.spells c s (alternative d k v) t
  pub choice_back : (c : Schema) (d : Side) (k : ℕ) (a : Schema) (s i t : S) (o : O) (w : Value) → opens c d k s o i
      → alternative_in c d k ≡ Some a
      → rules.spells c s w t → (j : S) × ReadsAlternative rules d k a i w j × closes j o t
