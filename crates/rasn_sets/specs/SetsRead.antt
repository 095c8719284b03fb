-- What calls answer that read all items of a SET.
use Rattle.std.specs.Prelude.{◌≡◌, ℕ, ◌+◌, ◌⊎◌, false, Result, Ok, Err, IfOk, List, ◌++◌, length, map, Option}
use Rattle.rasn_types.specs.Values.{Value}
use Rattle.rasn_types.specs.declared.types.Tag.{Tag}
use Rattle.rasn_schema.specs.Orders.{canonised, canonised_slots}
use Rattle.rasn_schema.specs.Fields.{Shape, in_tag_order, shape_of, shapes_from}
use Rattle.rasn_schema.specs.declared.fields.Field.{Field}
use Rattle.rasn_schema.specs.Schemas.{Parts}
use Rattle.rasn_traits.specs.Calls.{DecoderRules}
use Rattle.rasn_traits.specs.Scopes.{AnswersFields, ReadsFields, ReadsNoFields}
use Rattle.rasn_sets.specs.Components.{EndsUnfailed, Gathers, KeepsEach, MadeUnfailed, MakesSet, ReadsEach}
use Rattle.rasn_sets.specs.Turns.{FailsAfter, FailsRoot, ReadsAfter, ReadsRoot}

-- Ok reads the root components in an order, and Err, memory aside, comes only where one isn't read.
abbrev pub RootTaken : {E S I : Type 0} → DecoderRules E S → (S → ℕ → Tag → Result I E → S → Type 0) → List Shape → S
    → List I → Result (Unit {0}) E → S → List I → Type 0
RootTaken rules gives shapes s xs (Ok u) t ys = (fs : List Field) × (map shape_of fs ≡ shapes)
    × ReadsRoot rules gives fs s xs t ys
RootTaken rules gives shapes s xs (Err e) t ys = rules.memory e s ⊎
    ((fs : List Field) × (map shape_of fs ≡ shapes) × FailsRoot rules gives e fs s)

-- A call that reads the root components in an order.
pub record TakesRootOf {E S I : Type 0} (rules : DecoderRules E S) (gives : S → ℕ → Tag → Result I E → S → Type 0)
    (shapes : List Shape) (s : S) (xs : List I) (result : Result (Unit {0}) E) (t : S) (ys : List I) : Type 0 where
  pub law : RootTaken rules gives shapes s xs result t ys
  pub kept : KeepsEach rules gives → rules.codec t ≡ rules.codec s

-- Ok reads all additions, and Err, memory aside, comes only where one isn't read.
abbrev pub AfterTaken : {E S I : Type 0} → DecoderRules E S → (S → ℕ → Tag → Result I E → S → Type 0) → ℕ → List Shape
    → S → List I → Result (Unit {0}) E → S → List I → Type 0
AfterTaken rules gives first shapes s xs (Ok u) t ys = (fs : List Field) × (map shape_of fs ≡ shapes)
    × ReadsAfter gives first fs s xs t ys
AfterTaken rules gives first shapes s xs (Err e) t ys = (fs : List Field) × (map shape_of fs ≡ shapes)
    × FailsAfter rules gives e first fs s

-- A call that reads all additions.
pub record TakesAfterOf {E S I : Type 0} (rules : DecoderRules E S) (gives : S → ℕ → Tag → Result I E → S → Type 0)
    (first : ℕ) (shapes : List Shape) (s : S) (xs : List I) (result : Result (Unit {0}) E) (t : S)
    (ys : List I) : Type 0 where
  pub law : AfterTaken rules gives first shapes s xs result t ys
  pub kept : KeepsEach rules gives → rules.codec t ≡ rules.codec s

-- Ok answers the items of the root components that are there and of all additions, and Err, memory aside, comes only
-- where they aren't read.
abbrev pub ItemsAnswered : {E S I : Type 0} → DecoderRules E S → List Shape → List Shape → Parts → Parts → (I → ℕ)
    → (I → Option Value) → S → Result (List I) E → S → Type 0
ItemsAnswered {I = I} rules fields behind ps qs place slot s (Ok zs) t = (xs ys : List I) × (rs : List (Option Value))
    × (zs ≡ xs ++ ys)
    × Gathers place slot (in_tag_order fields) (canonised ps) xs rs
    × (map place ys ≡ map (λ (f : Shape). length fields + f.index) behind)
    × ReadsFields rules (canonised ps) qs s rs (map slot ys) t
ItemsAnswered rules fields behind ps qs place slot s (Err e) t = rules.memory e s
    ⊎ ReadsNoFields rules (canonised ps) qs e s

-- the list of a vector, where there is one
abbrev pub listing : {E V I : Type 0} → (V → List I) → Result V E → Result (List I) E
listing items (Ok v) = Ok (items v)
listing items (Err e) = Err e

-- A call that reads the items of a SET.
pub record TakesItems {E S I : Type 0} (rules : DecoderRules E S) (fields behind : List Shape)
    (gives : S → ℕ → Tag → Result I E → S → Type 0) (s : S) (result : Result (List I) E) (t : S) : Type 0 where
  pub law : (ps qs : Parts) (place : I → ℕ) (slot : I → Option Value) → fields ≡ shapes_from 0 ps
      → behind ≡ shapes_from 0 qs
      → ReadsEach rules ps qs (length fields) place slot (rules.levels s) gives
      → ItemsAnswered rules fields behind ps qs place slot s result t
  pub ended : IfOk result (λ xs. rules.failed t ≡ false → EndsUnfailed rules.failed gives xs)
  pub kept : KeepsEach rules gives → rules.codec t ≡ rules.codec s

-- A call that reads the items of a SET, and makes it of them.
pub record TakesSet {E S I T : Type 0} (rules : DecoderRules E S) (fields behind : List Shape)
    (contents added : T → List (Option Value)) (gives : S → ℕ → Tag → Result I E → S → Type 0)
    (makes : List I → Result T E → Type 0) (s : S) (result : Result T E) (t : S) : Type 0 where
  pub law : (ps qs : Parts) (place : I → ℕ) (slot : I → Option Value) → fields ≡ shapes_from 0 ps
      → behind ≡ shapes_from 0 qs
      → ReadsEach rules ps qs (length fields) place slot (rules.levels s) gives
      → MakesSet rules (rules.codec s) fields behind ps contents added place slot makes
      → AnswersFields rules (canonised ps) qs (λ x. canonised_slots ps (contents x)) added s result t
  pub ended : IfOk result (λ v. rules.failed t ≡ false → MadeUnfailed rules.failed gives makes v)
  pub kept : KeepsEach rules gives → rules.codec t ≡ rules.codec s
