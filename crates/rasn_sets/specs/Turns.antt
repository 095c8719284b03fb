-- What is behind calls that read components in turn and keep their items, one after another.
use Rattle.std.specs.Prelude.{◌≡◌, ℕ, ◌+◌, true, false, Result, Ok, Err, List, [], ◌∷◌, ◌++◌}
use Rattle.rasn_types.specs.declared.types.Tag.{Tag}
use Rattle.rasn_schema.specs.Fields.{is_not_required}
use Rattle.rasn_schema.specs.declared.fields.Field.{Field}
use Rattle.rasn_traits.specs.Calls.{DecoderRules, Refuses}
use Rattle.rasn_sets.specs.Components.{KeepsEach}

-- An item is given, and kept after others.
pub data Keeps {E S I : Type 0} (gives : S → ℕ → Tag → Result I E → S → Type 0) (i : ℕ) (tag : Tag) (s : S)
    (xs : List I) (t : S) (ys : List I) : Type 0 where
  keeps : (x : I) → gives s i tag (Ok x) t → ys ≡ xs ++ x ∷ [] → Keeps gives i tag s xs t ys

-- None is: it is refused, or memory ran out after it.
pub data KeepsNone {E S I : Type 0} (rules : DecoderRules E S) (gives : S → ℕ → Tag → Result I E → S → Type 0) (e : E)
    (i : ℕ) (tag : Tag) (s : S) : Type 0 where
  given_none : (t : S) → gives s i tag (Err e) t → KeepsNone rules gives e i tag s
  kept_none : (x : I) (m : S) → gives s i tag (Ok x) m → rules.memory e m → KeepsNone rules gives e i tag s

-- Ok keeps an item, and Err comes only where none is kept.
abbrev pub ItemKept : {E S I : Type 0} → DecoderRules E S → (S → ℕ → Tag → Result I E → S → Type 0) → ℕ → Tag → S
    → List I → Result (Unit {0}) E → S → List I → Type 0
ItemKept rules gives i tag s xs (Ok u) t ys = Keeps gives i tag s xs t ys
ItemKept rules gives i tag s xs (Err e) t ys = KeepsNone rules gives e i tag s

-- A call that reads an item and keeps it.
pub record KeepsItem {E S I : Type 0} (rules : DecoderRules E S) (gives : S → ℕ → Tag → Result I E → S → Type 0)
    (i : ℕ) (tag : Tag) (s : S) (xs : List I) (result : Result (Unit {0}) E) (t : S) (ys : List I) : Type 0 where
  pub law : ItemKept rules gives i tag s xs result t ys
  pub kept : KeepsEach rules gives → rules.codec t ≡ rules.codec s

-- The component of a field is read: a required one is kept; one that may be absent has its presence bit, and is kept
-- after a bit 1.
pub data ReadsField {E S I : Type 0} (rules : DecoderRules E S) (gives : S → ℕ → Tag → Result I E → S → Type 0)
    (f : Field) (s : S) (xs : List I) (t : S) (ys : List I) : Type 0 where
  field_required : is_not_required f.presence ≡ false → Keeps gives f.index f.tag s xs t ys
      → ReadsField rules gives f s xs t ys
  field_there : (m : S) → is_not_required f.presence ≡ true → rules.marks s true m
      → Keeps gives f.index f.tag m xs t ys → ReadsField rules gives f s xs t ys
  field_left_out : is_not_required f.presence ≡ true → rules.marks s false t → ys ≡ xs
      → ReadsField rules gives f s xs t ys

-- It isn't read: nothing is kept of it, or its presence bit isn't read.
pub data FailsField {E S I : Type 0} (rules : DecoderRules E S) (gives : S → ℕ → Tag → Result I E → S → Type 0) (e : E)
    (f : Field) (s : S) : Type 0 where
  fails_required : is_not_required f.presence ≡ false → KeepsNone rules gives e f.index f.tag s
      → FailsField rules gives e f s
  fails_there : (m : S) → is_not_required f.presence ≡ true → rules.marks s true m
      → KeepsNone rules gives e f.index f.tag m → FailsField rules gives e f s
  fails_bit : is_not_required f.presence ≡ true → Refuses rules.marks rules.unmarked e s → FailsField rules gives e f s

-- Ok reads the component of a field, and Err comes only where it isn't read.
abbrev pub FieldRead : {E S I : Type 0} → DecoderRules E S → (S → ℕ → Tag → Result I E → S → Type 0) → Field → S
    → List I → Result (Unit {0}) E → S → List I → Type 0
FieldRead rules gives f s xs (Ok u) t ys = ReadsField rules gives f s xs t ys
FieldRead rules gives f s xs (Err e) t ys = FailsField rules gives e f s

-- A call that reads the component of a field.
pub record TakesField {E S I : Type 0} (rules : DecoderRules E S) (gives : S → ℕ → Tag → Result I E → S → Type 0)
    (f : Field) (s : S) (xs : List I) (result : Result (Unit {0}) E) (t : S) (ys : List I) : Type 0 where
  pub law : FieldRead rules gives f s xs result t ys
  pub kept : KeepsEach rules gives → rules.codec t ≡ rules.codec s

-- The components of fields are read in turn.
pub data ReadsRoot {E S I : Type 0} (rules : DecoderRules E S) (gives : S → ℕ → Tag → Result I E → S → Type 0) :
    List Field → S → List I → S → List I → Type 0 where
  root_end : {s : S} {xs : List I} → ReadsRoot rules gives [] s xs s xs
  root_next : {f : Field} {fs : List Field} {s m t : S} {xs ws ys : List I}
      → ReadsField rules gives f s xs m ws → ReadsRoot rules gives fs m ws t ys
      → ReadsRoot rules gives (f ∷ fs) s xs t ys

-- One of them isn't read, after those that are read before it.
pub data FailsRoot {E S I : Type 0} (rules : DecoderRules E S) (gives : S → ℕ → Tag → Result I E → S → Type 0)
    (e : E) : List Field → S → Type 0 where
  root_here : {f : Field} {fs : List Field} {s : S} → FailsField rules gives e f s → FailsRoot rules gives e (f ∷ fs) s
  root_after : {f : Field} {fs : List Field} {s m : S} {xs ws : List I}
      → ReadsField rules gives f s xs m ws → FailsRoot rules gives e fs m → FailsRoot rules gives e (f ∷ fs) s

-- Ok reads the components of fields, and Err comes only where one isn't read.
abbrev pub RootRead : {E S I : Type 0} → DecoderRules E S → (S → ℕ → Tag → Result I E → S → Type 0) → List Field → S
    → List I → Result (Unit {0}) E → S → List I → Type 0
RootRead rules gives fs s xs (Ok u) t ys = ReadsRoot rules gives fs s xs t ys
RootRead rules gives fs s xs (Err e) t ys = FailsRoot rules gives e fs s

-- A call that reads the components of fields in turn.
pub record TakesRoot {E S I : Type 0} (rules : DecoderRules E S) (gives : S → ℕ → Tag → Result I E → S → Type 0)
    (fs : List Field) (s : S) (xs : List I) (result : Result (Unit {0}) E) (t : S) (ys : List I) : Type 0 where
  pub law : RootRead rules gives fs s xs result t ys
  pub kept : KeepsEach rules gives → rules.codec t ≡ rules.codec s

-- The addition of a field is read, whose index is counted on from a number: it is kept.
pub data ReadsFieldAfter {E S I : Type 0} (gives : S → ℕ → Tag → Result I E → S → Type 0) (first : ℕ) (f : Field)
    (s : S) (xs : List I) (t : S) (ys : List I) : Type 0 where
  after_kept : Keeps gives (first + f.index) f.tag s xs t ys → ReadsFieldAfter gives first f s xs t ys

-- It isn't read: nothing is kept of it, or memory ran out.
pub data FailsFieldAfter {E S I : Type 0} (rules : DecoderRules E S) (gives : S → ℕ → Tag → Result I E → S → Type 0)
    (e : E) (first : ℕ) (f : Field) (s : S) : Type 0 where
  after_none : KeepsNone rules gives e (first + f.index) f.tag s → FailsFieldAfter rules gives e first f s
  after_room : rules.memory e s → FailsFieldAfter rules gives e first f s

-- Ok reads the addition of a field, and Err comes only where it isn't read.
abbrev pub FieldAfterRead : {E S I : Type 0} → DecoderRules E S → (S → ℕ → Tag → Result I E → S → Type 0) → ℕ → Field
    → S → List I → Result (Unit {0}) E → S → List I → Type 0
FieldAfterRead rules gives first f s xs (Ok u) t ys = ReadsFieldAfter gives first f s xs t ys
FieldAfterRead rules gives first f s xs (Err e) t ys = FailsFieldAfter rules gives e first f s

-- A call that reads the addition of a field.
pub record TakesFieldAfter {E S I : Type 0} (rules : DecoderRules E S) (gives : S → ℕ → Tag → Result I E → S → Type 0)
    (first : ℕ) (f : Field) (s : S) (xs : List I) (result : Result (Unit {0}) E) (t : S) (ys : List I) : Type 0 where
  pub law : FieldAfterRead rules gives first f s xs result t ys
  pub kept : KeepsEach rules gives → rules.codec t ≡ rules.codec s

-- The additions of fields are read in turn.
pub data ReadsAfter {E S I : Type 0} (gives : S → ℕ → Tag → Result I E → S → Type 0) (first : ℕ) : List Field → S
    → List I → S → List I → Type 0 where
  after_end : {s : S} {xs : List I} → ReadsAfter gives first [] s xs s xs
  after_next : {f : Field} {fs : List Field} {s m t : S} {xs ws ys : List I}
      → ReadsFieldAfter gives first f s xs m ws → ReadsAfter gives first fs m ws t ys
      → ReadsAfter gives first (f ∷ fs) s xs t ys

-- One of them isn't read, after those that are read before it.
pub data FailsAfter {E S I : Type 0} (rules : DecoderRules E S) (gives : S → ℕ → Tag → Result I E → S → Type 0)
    (e : E) (first : ℕ) : List Field → S → Type 0 where
  after_here : {f : Field} {fs : List Field} {s : S} → FailsFieldAfter rules gives e first f s
      → FailsAfter rules gives e first (f ∷ fs) s
  after_further : {f : Field} {fs : List Field} {s m : S} {xs ws : List I}
      → ReadsFieldAfter gives first f s xs m ws → FailsAfter rules gives e first fs m
      → FailsAfter rules gives e first (f ∷ fs) s

-- Ok reads additions, and Err comes only where one isn't read.
abbrev pub AfterRead : {E S I : Type 0} → DecoderRules E S → (S → ℕ → Tag → Result I E → S → Type 0) → ℕ → List Field
    → S → List I → Result (Unit {0}) E → S → List I → Type 0
AfterRead rules gives first fs s xs (Ok u) t ys = ReadsAfter gives first fs s xs t ys
AfterRead rules gives first fs s xs (Err e) t ys = FailsAfter rules gives e first fs s

-- A call that reads additions in turn.
pub record TakesAfter {E S I : Type 0} (rules : DecoderRules E S) (gives : S → ℕ → Tag → Result I E → S → Type 0)
    (first : ℕ) (fs : List Field) (s : S) (xs : List I) (result : Result (Unit {0}) E) (t : S)
    (ys : List I) : Type 0 where
  pub law : AfterRead rules gives first fs s xs result t ys
  pub kept : KeepsEach rules gives → rules.codec t ≡ rules.codec s
