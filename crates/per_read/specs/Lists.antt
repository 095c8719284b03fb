-- SEQUENCE OF, read element by element (X.691 20).
use Rattle.std.specs.Prelude.{◌≡◌, ◌<◌, ℕ, zero, suc, ◌-◌, ◌^◌, Bool, true, false, List, [], ◌∷◌, ◌++◌, length, Result}
use Rattle.std.specs.Prelude.{Ok, Err, IfOk, IfErr, OnOk, MatchResult}
use Rattle.rasn_types.specs.Bits.{Bits}
use Rattle.rasn_types.specs.Values.{Value}
use Rattle.rasn_constraints.specs.Bounds.{allows, Size}
use Rattle.rasn_constraints.specs.Constraints.{start_of, end_of, size_between}
use Rattle.rasn_schema.specs.Schemas.{Schema}
use Rattle.per_core.specs.Basic.{Counted, UnconstrainedLength, basic}
use Rattle.per_core.specs.Counts.{list_items}
use Rattle.per_core.specs.Spellings.{Settings, Spelling, Then, exactly, never, Took, NoneIn}
use Rattle.per_core.specs.SizeFaults.{IsOfList, IsOfOpening, Miscounted}
use Rattle.per_read.specs.ReaderState.{ReaderState, settings_of}
use Rattle.per_core.specs.Lengths.{LengthUpTo, UpTo, UpToUnconstrained, WholeFragments}
use Rattle.per_core.specs.declared.decode_error.DecodeErrorKind.{DecodeErrorKind}
use Rattle.per_read.specs.declared.lists.UnreadElements.{UnreadElements}

-- how lists are spelled: the settings, their size, whether that is extensible, and how an item is spelled
pub record ListRule (X : Type 0) : Type 1 where
  pub settings : Settings
  pub size : Size
  pub mark : Bool
  pub item : X → Spelling

-- X.691 20: a list of items
abbrev pub list_form : {X : Type 0} → ListRule X → List X → Spelling
list_form f = Counted f.settings f.size f.mark list_items f.item

-- X.691 20: how a SEQUENCE OF is spelled whose elements have a schema
abbrev pub list_rule : Settings → Size → Bool → Schema → ListRule Value
list_rule a size mark e = record { settings = a; size = size; mark = mark; item = basic a e }

-- X.691 11.9.3.8: items of which n more are after a length that was read, and, where `more` says so, others after a
-- further length
abbrev pub Rest : {X : Type 0} → Settings → (X → Spelling) → (more : Bool) → ℕ → List X → Spelling
Rest a item more (suc n) (x ∷ xs) = Then (item x) (Rest a item more n xs)
Rest a item more (suc n) [] = never
Rest a item true zero xs = UnconstrainedLength a item xs
Rest a item false zero [] = exactly []
Rest a item false zero (x ∷ xs) = never

-- what stands of these in front of a further one, after xs
abbrev pub RestUpTo : {X : Type 0} → Settings → (X → Spelling) → (more : Bool) → ℕ → List X → Spelling
RestUpTo a item more (suc n) (x ∷ xs) = Then (item x) (RestUpTo a item more n xs)
RestUpTo a item more (suc n) [] = exactly []
RestUpTo a item true zero xs = UpToUnconstrained a item xs
RestUpTo a item false zero xs = never

-- what stands of these in front of a further length, after xs
abbrev pub RestUpToLength : {X : Type 0} → Settings → (X → Spelling) → (more : Bool) → ℕ → List X → Spelling
RestUpToLength a item more (suc n) (x ∷ xs) = Then (item x) (RestUpToLength a item more n xs)
RestUpToLength a item more (suc n) [] = never
RestUpToLength a item true zero xs = WholeFragments a item xs
RestUpToLength a item false zero xs = never

-- What is still to be read of a list of items: others after those that were read, with whose count the size allows
-- that of all.
pub record IsLeft {X : Type 0} (a : Settings) (item : X → Spelling) (before : List X) (l : UnreadElements) (here : Bits)
    (xs : List X) (t : Bits) : Type 0 where
  pub others : List X
  pub all : xs ≡ before ++ others
  pub allowed : allows (size_between l.size) (length xs) ≡ true
  pub took : Took (Rest a item l.more l.left others) here t

-- A list is open: it began at `start`, the items `before` were read, and the reader is `here`. It is read from its
-- start on exactly where the rest is read from here on, and the size allows the count of all; a count that the size
-- doesn't allow is its fault; and where a further item or length is to be read, it is after others of the list.
pub record AreOpenItems {X : Type 0} (f : ListRule X) (start : Bits) (before : List X) (l : UnreadElements)
    (here : Bits) : Type 0 where
  pub count : l.count ≡ length before
  pub on : (xs : List X) (t : Bits) → IsLeft f.settings f.item before l here xs t → Took (list_form f xs) start t
  pub back : (xs : List X) (t : Bits) → Took (list_form f xs) start t → IsLeft f.settings f.item before l here xs t
  pub miscounted : (xs : List X) (t : Bits) → allows (size_between l.size) (length (before ++ xs)) ≡ false
      → length (before ++ xs) < 2 ^ 64 → Took (Rest f.settings f.item l.more l.left xs) here t
      → Miscounted f.settings f.size f.mark list_items f.item (length (before ++ xs)) (start_of l.size)
      (end_of l.size) start
  pub up_to : (xs : List X) (t : Bits) → Took (RestUpTo f.settings f.item l.more l.left xs) here t
      → Took (UpTo f.settings f.size f.mark f.item (before ++ xs)) start t
  pub up_to_length : (xs : List X) (t : Bits) → Took (RestUpToLength f.settings f.item l.more l.left xs) here t
      → Took (LengthUpTo f.settings f.size f.mark f.item (before ++ xs)) start t

-- A further item of an open list is to be read here, after those that were: with it, the list goes on; where none is
-- read, the list isn't.
pub record AwaitsItem {X : Type 0} (f : ListRule X) (start : Bits) (before : List X) (l : UnreadElements)
    (here : Bits) : Type 0 where
  pub behind : Took (UpTo f.settings f.size f.mark f.item before) start here
  pub goes_on : (x : X) (t : Bits) → Took (f.item x) here t → AreOpenItems f start (before ++ x ∷ []) l t
  pub none : NoneIn f.item here → NoneIn (list_form f) start

-- A list isn't read, and a kind that says why.
pub record RefusesList {X : Type 0} (f : ListRule X) (start : Bits) (k : DecodeErrorKind) : Type 0 where
  pub says : IsOfList f.settings f.size f.mark f.item start k
  pub none : NoneIn (list_form f) start

-- Ok is at a further item, or after the list; and Err comes only where that isn't read.
abbrev pub NextRead : {X : Type 0} → ListRule X → (start : Bits) → (before : List X) → Result Bool DecodeErrorKind
    → UnreadElements → Bits → Type 0
NextRead f start before (Ok true) l here = AwaitsItem f start before l here
NextRead f start before (Ok false) l here = Took (list_form f before) start here
NextRead f start before (Err k) l here = RefusesList f start k

-- Bits that are left are the last of those before.
pub record Leaves (s t : Bits) : Type 0 where
  pub front : Bits
  pub joins : s ≡ front ++ t

-- how many items may still be read, since no list has more than can be counted
abbrev pub most : UnreadElements → ℕ
most l = 2 ^ 64 - l.count

-- A call that opens a list of a size, of whatever elements: an error comes only where none is read.
pub record OpensList (size : Size) (mark : Bool) (x : ReaderState) (result : Result UnreadElements DecodeErrorKind)
    (y : ReaderState) : Type 0 where
  pub ok : IfOk result (λ l. (e : Schema) → AreOpenItems (list_rule (settings_of x) size mark e) x.bits [] l y.bits)
  pub err : IfErr result (λ k. IsOfOpening (settings_of x) size mark x.bits k
      × ((e : Schema) → NoneIn (list_form (list_rule (settings_of x) size mark e)) x.bits))
  pub leaves : OnOk result (Leaves x.bits y.bits)
  pub kept : y.options ≡ x.options

-- A call that takes the length of the next fragment of an open list, where one begins here. The list stays open, and
-- where no item is left, it has ended.
pub record BeginsFragment (l : UnreadElements) (x : ReaderState) (result : Result (Unit {0}) DecodeErrorKind)
    (m : UnreadElements) (y : ReaderState) : Type 0 where
  pub law : (size : Size) (mark : Bool) (e : Schema) (start : Bits) (before : List Value)
      → (let f = list_rule (settings_of x) size mark e in AreOpenItems f start before l x.bits
      → MatchResult result (λ u. AreOpenItems f start before m y.bits) (RefusesList f start))
  pub ended : OnOk result (m.left ≡ 0 → m.more ≡ false)
  pub count : m.count ≡ l.count
  pub leaves : OnOk result (Leaves x.bits y.bits)
  pub kept : y.options ≡ x.options

-- A call before each element of an open list, and after the last. Each leaves fewer elements that may be read.
pub record ReadsNext (l : UnreadElements) (x : ReaderState) (result : Result Bool DecodeErrorKind) (m : UnreadElements)
    (y : ReaderState) : Type 0 where
  pub law : (size : Size) (mark : Bool) (e : Schema) (start : Bits) (before : List Value)
      → (let f = list_rule (settings_of x) size mark e in AreOpenItems f start before l x.bits
      → NextRead f start before result m y.bits)
  pub fewer : IfOk result (λ another. another ≡ true → most m < most l)
  pub leaves : OnOk result (Leaves x.bits y.bits)
  pub kept : y.options ≡ x.options
