-- How a SET is read by a function for each component and one that makes the SET of what the first answered, stated over
-- any decoder's relations (ITU-T X.691, 21).
use Rattle.std.specs.Prelude.{◌≡◌, ℕ, suc, ◌+◌, ◌⊎◌, true, false, Bool, Result, Ok, Err, OnErr, IfOk, IsErrAnd, List}
use Rattle.std.specs.Prelude.{[], ◌∷◌, ◌++◌, length, map, Option, Some}
use Rattle.std.specs.Fn.{Once, Shared}
use denote.Ref.{MutBor}
use Rattle.rasn_types.specs.Values.{Value}
use Rattle.rasn_types.specs.declared.types.Codec.{Codec}
use Rattle.rasn_types.specs.declared.types.Tag.{Tag}
use Rattle.rasn_schema.specs.Orders.{canonised, canonised_slots}
use Rattle.rasn_schema.specs.Fields.{Shape, in_tag_order}
use Rattle.rasn_schema.specs.Structures.{field_tag, tag_of, record_value}
use Rattle.rasn_schema.specs.Records.{record_at}
use Rattle.rasn_schema.specs.Schemas.{TagTree, Presence, by_tag, Schema, Parts, no_parts, part}
use Rattle.rasn_traits.specs.AdditionsRead.{FaultyAddition, ReadsAddition}
use Rattle.rasn_traits.specs.Calls.{Answers, DecoderRules, Refuses}
use Rattle.rasn_traits.specs.Presences.{left_out}

-- The component at a place, from 0.
pub data StandsAt (k : TagTree) (p : Presence) (c : Schema) : ℕ → Parts → Type 0 where
  stands_first : {ps : Parts} → StandsAt k p c 0 (part k p c ps)
  stands_after : {i : ℕ} {j : TagTree} {q : Presence} {d : Schema} {ps : Parts} → StandsAt k p c i ps
      → StandsAt k p c (suc i) (part j q d ps)

-- A function that is lent a decoder, an index and a tag may give a result, and leave the decoder so.
pub record GivesItem {F S R : Type 0} (g : Shared F (MutBor S × (ℕ × (Tag × Unit {0}))) (R × (MutBor S × Unit {0})))
    (f : F) (s : S) (i : ℕ) (tag : Tag) (r : R) (t : S) : Type 0 where
  pub shown : MutBor S
  pub shows : shown.now ≡ s
  pub left : MutBor S
  pub met : g.post f (shown, (i, (tag, tt))) (r, (left, tt))
  pub leaves : left.now ≡ t

-- A function that takes a vector of these items may give a result.
pub record GivesSet {F V I R : Type 0} (g : Once F (V × Unit {0}) R) (items : V → List I) (f : F) (zs : List I)
    (r : R) : Type 0 where
  pub taken : V
  pub holds : items taken ≡ zs
  pub met : g.post f (taken, tt) r

-- Ok answers the item of a component, which is a value, and Err, memory aside, comes only where none is read.
abbrev pub ItemAnswered : {E S I : Type 0} → DecoderRules E S → Schema → (I → ℕ) → (I → Option Value) → ℕ → S
    → Result I E → S → Type 0
ItemAnswered rules c place slot i s (Ok x) t = (place x ≡ i) × (v : Value) × (slot x ≡ Some v) × rules.spells c s v t
ItemAnswered rules c place slot i s (Err e) t = rules.memory e s ⊎ Refuses (rules.spells c) (rules.fault c) e s

-- Ok answers the item of an addition, which is what is read of it, and Err, memory aside, comes only where it isn't
-- read.
abbrev pub AdditionAnswered : {E S I : Type 0} → DecoderRules E S → TagTree → Presence → Schema → (I → ℕ)
    → (I → Option Value) → ℕ → S → Result I E → S → Type 0
AdditionAnswered rules k p c place slot i s (Ok x) t = (place x ≡ i) × ReadsAddition rules p c s (slot x) t
AdditionAnswered rules k p c place slot i s (Err e) t = rules.memory e s
    ⊎ Refuses (ReadsAddition rules p c) (λ e. FaultyAddition rules e k p c) e s

-- What a function owes that reads a component by its index and its tag: one of the root, which is there, or an
-- addition, which may not be. The indices of the additions are counted on from those of the root.
pub record ReadsEach {E S I : Type 0} (rules : DecoderRules E S) (ps qs : Parts) (first : ℕ) (place : I → ℕ)
    (slot : I → Option Value) (inner : ℕ) (gives : S → ℕ → Tag → Result I E → S → Type 0) : Type 0 where
  pub root : (i : ℕ) (k : TagTree) (p : Presence) (c : Schema) (s : S) (tag : Tag) (r : Result I E) (t : S)
      → StandsAt k p c i ps
      → rules.levels s ≡ inner → tag_of tag ≡ field_tag k → gives s i tag r t → ItemAnswered rules c place slot i s r t
  pub behind : (i : ℕ) (k : TagTree) (p : Presence) (c : Schema) (s : S) (tag : Tag) (r : Result I E) (t : S)
      → StandsAt k p c i qs
      → rules.levels s ≡ inner → tag_of tag ≡ field_tag k → gives s (first + i) tag r t
      → AdditionAnswered rules k p c place slot (first + i) s r t

-- The variant stays in each call of such a function.
pub record KeepsEach {E S I : Type 0} (rules : DecoderRules E S) (gives : S → ℕ → Tag → Result I E → S → Type 0) :
    Type 0 where
  pub stays : (s : S) (i : ℕ) (tag : Tag) (r : Result I E) (t : S) → gives s i tag r t → rules.codec t ≡ rules.codec s

-- The items of components in turn, each by the index of its field: of each that is there, and none of one that is left
-- out; and what the components are.
pub data Gathers {I : Type 0} (place : I → ℕ) (slot : I → Option Value) : List Shape → Parts → List I
    → List (Option Value) → Type 0 where
  gathers_end : Gathers place slot [] no_parts [] []
  gathers_item : {f : Shape} {fs : List Shape} {k : TagTree} {p : Presence} {c : Schema} {ps : Parts} {x : I}
      {xs : List I} {rs : List (Option Value)}
      → place x ≡ f.index → Gathers place slot fs ps xs rs → Gathers place slot (f ∷ fs) (part k p c ps) (x ∷ xs)
      (slot x ∷ rs)
  gathers_gap : {f : Shape} {fs : List Shape} {k : TagTree} {p : Presence} {c : Schema} {ps : Parts} {xs : List I}
      {r : Option Value} {rs : List (Option Value)}
      → left_out p ≡ Some r → Gathers place slot fs ps xs rs → Gathers place slot (f ∷ fs) (part k p c ps) xs (r ∷ rs)

-- Ok makes what has these components and additions, and Err says that memory ran out, wherever a decoder of this
-- variant stands.
abbrev pub IsMade : {E S T : Type 0} → DecoderRules E S → Codec → Parts → (T → List (Option Value))
    → (T → List (Option Value)) → List (Option Value) → List (Option Value) → Result T E → Type 0
IsMade rules codec ps contents added rs xs (Ok v) = (canonised_slots ps (contents v) ≡ rs) × (added v ≡ xs)
IsMade {S = S} rules codec ps contents added rs xs (Err e) = (s : S) → rules.codec s ≡ codec → rules.memory e s

-- What a function owes that makes a SET of items, which a decoder of a variant answered: of those of the root
-- components that are there, in ascending order of their tags, and after them of those of all additions, in the order
-- of the type.
pub record MakesSet {E S I T : Type 0} (rules : DecoderRules E S) (codec : Codec) (fields behind : List Shape)
    (ps : Parts) (contents added : T → List (Option Value)) (place : I → ℕ) (slot : I → Option Value)
    (gives : List I → Result T E → Type 0) : Type 0 where
  pub makes : (xs ys : List I) (rs : List (Option Value)) (r : Result T E)
      → Gathers place slot (in_tag_order fields) (canonised ps) xs rs
      → map place ys ≡ map (λ (f : Shape). length fields + f.index) behind → gives (xs ++ ys) r
      → IsMade rules codec ps contents added rs (map slot ys) r

-- Items in the order in which a function gave them, which left the decoder unfailed when it gave the last of them.
pub data EndsUnfailed {S I E : Type 0} (failed : S → Bool) (gives : S → ℕ → Tag → Result I E → S → Type 0)
    : List I → Type 0 where
  none_given : EndsUnfailed failed gives []
  last_given : (xs : List I) {x : I} {s t : S} {i : ℕ} {tag : Tag} → gives s i tag (Ok x) t → failed t ≡ false
      → EndsUnfailed failed gives (xs ++ x ∷ [])

-- A SET is answered as it was made of items that a function gave; so no refusal of the decoder is swallowed which that
-- function met and didn't answer.
abbrev pub MadeUnfailed : {S I T E : Type 0} → (S → Bool) → (S → ℕ → Tag → Result I E → S → Type 0)
    → (List I → Result T E → Type 0) → T → Type 0
MadeUnfailed {I = I} failed gives makes v = (xs : List I) × makes xs (Ok v) × EndsUnfailed failed gives xs

-- A SET as its type states it: the fields of its root and those after its marker, its components and additions to a
-- number of levels, and whether it has a marker.
pub record StatedSet : Type 0 where
  pub fields : List Shape
  pub behind : List Shape
  pub parts : ℕ → Parts
  pub marker : Bool
  pub additions : ℕ → Parts

-- A SET by its fields, those after its marker, its components, its marker and its additions.
abbrev pub stated_set : List Shape → List Shape → (ℕ → Parts) → Bool → (ℕ → Parts) → StatedSet
stated_set fs behind ps marker adds =
    record { fields = fs; behind = behind; parts = ps; marker = marker; additions = adds }

-- A call that reads a SET by a function that reads each component and one that makes the SET of what it answered.
pub record ReadsSetEach {E S I T : Type 0} (rules : DecoderRules E S) (set : StatedSet)
    (contents added : T → List (Option Value)) (gives : S → ℕ → Tag → Result I E → S → Type 0)
    (makes : List I → Result T E → Type 0) (s : S) (result : Result T E) (t : S) : Type 0 where
  pub law : (place : I → ℕ) (slot : I → Option Value)
      → ((n : ℕ) → rules.levels s ≡ suc n
      → ReadsEach rules (set.parts n) (set.additions n) (length set.fields) place slot n gives)
      → ((n : ℕ) → rules.levels s ≡ suc n
      → MakesSet rules (rules.codec s) set.fields set.behind (set.parts n) contents added place slot makes)
      → (let c = record_at by_tag set.parts set.marker set.additions (rules.levels s) in
      Answers rules.memory (rules.fault c) (rules.spells c) (λ x. record_value (contents x) (added x)) s result t)
  pub swallowed : IfOk result (MadeUnfailed rules.failed gives makes)
  pub again : rules.failed s ≡ true → IsErrAnd result (λ e. rules.already e s)
  pub fails : OnErr result (rules.failed t ≡ true)
  pub kept : KeepsEach rules gives → rules.codec t ≡ rules.codec s
