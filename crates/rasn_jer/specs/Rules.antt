-- The rules of an encoder that writes JSON.
use Rattle.std.specs.Prelude.{ℕ, suc, ◌<◌, ◌≡◌, ◌≢◌, ◌⊎◌, Bool, true, false, List, ◌++◌, length, Result, Ok, Err}
use Rattle.std.specs.Prelude.{IfErr, IfOk, IsErrAnd, OnOk}
use Rattle.rasn_types.specs.Values.{Value}
use Rattle.rasn_types.specs.declared.types.Codec.TheVariants.{Uper}
use Rattle.rasn_schema.specs.Lawful.{is_group_schema}
use Rattle.rasn_schema.specs.Structures.{presence_bits}
use Rattle.rasn_schema.specs.Schemas.{count, Schema}
use Rattle.rasn_traits.specs.Calls.{Behaves, EncoderRules, Writes}
use Rattle.rasn_traits.specs.Lists.{ListForm}
use Rattle.json.specs.Json.{Json, object, Items, Members}
use Rattle.rasn_jer.specs.Frames.{awaiting_item, due_of, inside, is_complete, is_full, items_due, marked, named_frame}
use Rattle.rasn_jer.specs.Frames.{none_due, past_added, Frame, JsonState, Takes, unfailed_at, with_addition, with_group}
use Rattle.rasn_jer.specs.Shown.{HasElement, HasNoJson, IsNull, Shows, ShowsAll, StandsIn}
use Rattle.rasn_jer.specs.Texts.{enclosed, items_text, text_of}
use Rattle.rasn_jer.specs.declared.error.EncodeError.{EncodeError}
use Rattle.rasn_jer.specs.declared.error.EncodeError.TheVariants.{AlreadyFailed, NoJson, OutOfMemory, OutOfTurn}
use Rattle.rasn_jer.specs.declared.error.EncodeError.TheVariants.{VariantNotInChoice}
use Rattle.rasn_jer.specs.declared.frame.Kind.{Kind}
use Rattle.rasn_jer.specs.declared.frame.Kind.TheVariants as Kinds

-- one value is written where one is awaited, by a JSON value that shows it
pub record Presents (x : JsonState) (s : Schema) (v : Value) (y : JsonState) : Type 0 where
  pub begun : x.failed ≡ false
  pub left : y.failed ≡ false
  pub json : Json
  pub shows : Shows s v json
  pub taken : Takes x.place (text_of json) y.place

-- inside a record nothing is written
pub record Stays (x y : JsonState) : Type 0 where
  pub begun : x.failed ≡ false
  pub members : x.place.kind ≡ Kinds.Members
  pub same : y ≡ x

-- inside a record the next presence bit is given
pub record Marks (x : JsonState) (is_there : Bool) (y : JsonState) : Type 0 where
  pub begun : x.failed ≡ false
  pub members : x.place.kind ≡ Kinds.Members
  pub moved : y ≡ unfailed_at (marked is_there x.place)

-- inside a record the next addition is left out, and its name with it
pub record Skips (x y : JsonState) : Type 0 where
  pub begun : x.failed ≡ false
  pub members : x.place.kind ≡ Kinds.Members
  pub moved : y ≡ unfailed_at (past_added x.place)

-- an addition as a member after the next name, or the members of a group, which is a SEQUENCE, among the others
abbrev pub IsAdded : Schema → Frame → Json → Frame → Type 0
IsAdded s p j q = (q ≡ with_addition p (text_of j))
    ⊎ ((gs : Members) × (j ≡ object gs) × (q ≡ with_group p gs) × (is_group_schema s ≡ true))

-- inside a record an addition is written
pub record Adds (x : JsonState) (s : Schema) (v : Value) (y : JsonState) : Type 0 where
  pub begun : x.failed ≡ false
  pub members : x.place.kind ≡ Kinds.Members
  pub left : y.failed ≡ false
  pub json : Json
  pub shows : Shows s v json
  pub added : IsAdded s x.place json y.place

-- something is opened: what was open waits outside
pub record Opens (kind : Kind) (x : JsonState) (o : Frame) (i : JsonState) : Type 0 where
  pub begun : x.failed ≡ false
  pub outer : o ≡ x.place
  pub within : i ≡ inside kind

-- names of a record's root components, and of its additions: one for each; and how many presence bits it has
abbrev pub AreCounted : Schema → List (List ℕ) → List (List ℕ) → ℕ → Type 0
AreCounted (Schema.sequence order ps marker qs) root added bits =
    (length root ≡ count ps) × (length added ≡ count qs) × (bits ≡ presence_bits ps)
AreCounted _ root added bits = ⊥

-- a record is opened, with names of its components: what was open waits outside
pub record OpensRecord (s : Schema) (x : JsonState) (o : Frame) (i : JsonState) : Type 0 where
  pub begun : x.failed ≡ false
  pub outer : o ≡ x.place
  pub root : List (List ℕ)
  pub added : List (List ℕ)
  pub bits : ℕ
  pub counted : AreCounted s root added bits
  pub within : i ≡ unfailed_at (named_frame Kinds.Members root added (due_of root bits added))

-- octets that contain a value are shown as it, which is awaited by itself: what was open waits outside
abbrev pub OpensContents : JsonState → Frame → JsonState → Type 0
OpensContents = Opens Kinds.One

-- the value of an addition is awaited, by itself
pub record Begins (x i : JsonState) : Type 0 where
  pub begun : x.failed ≡ false
  pub within : i ≡ inside Kinds.One

-- the value of an addition of a record is awaited: what was open waits outside
pub record OpensAddition (x : JsonState) (o : Frame) (i : JsonState) : Type 0 where
  pub opened : Opens Kinds.One x o i
  pub members : x.place.kind ≡ Kinds.Members

-- A list or a bag is open: whatever items show the elements that are left, those that were written and these are the
-- text of items that show all. What was open waits outside, and how many are left is counted.
pub record IsOpenList (f : ListForm) (x : JsonState) (vs : List Value) (o : Frame × ℕ) (y : JsonState) : Type 0 where
  pub begun : x.failed ≡ false
  pub outer : o.0 ≡ x.place
  pub counted : o.1 ≡ length vs
  pub left : y.failed ≡ false
  pub items : y.place.kind ≡ Kinds.Items
  pub due : y.place.due ≡ none_due
  pub whole : (js : Items) → ShowsAll f.element vs js → (all : Items) × ShowsAll f.element f.all all
      × (items_text true all ≡ y.place.text ++ items_text y.place.is_empty js)
  pub member : (v : Value) → HasElement v vs → HasElement v f.all

-- in an open array so many items are to come before it is gone on in, and nothing else can come
pub record AwaitsValues (n : ℕ) (y : JsonState) : Type 0 where
  pub unfailed : y.failed ≡ false
  pub items : y.place.kind ≡ Kinds.Items
  pub due : y.place.due ≡ items_due n

-- why nothing is written at a place: a call was refused before, or no value is awaited
abbrev pub IsRefused : EncodeError → JsonState → Type 0
IsRefused AlreadyFailed x = x.failed ≡ true
IsRefused OutOfTurn x = is_full x.place ≡ true
IsRefused _ x = ⊥

-- the fault that an error names: a value without JSON; want of memory is one of a NULL, for which the traits take none
abbrev pub fault_of : EncodeError → Schema → Value → Type 0
fault_of NoJson = HasNoJson
fault_of OutOfMemory = IsNull
fault_of _ = λ s v. ⊥

-- why a value is refused: nothing is written where it is, or a fault is in it
abbrev pub Refuses : EncodeError → JsonState → Schema → Value → Type 0
Refuses e x s v = IsRefused e x ⊎ StandsIn (fault_of e) s v

-- why nothing is given that only a record has: a call was refused before, or no record is open
abbrev pub IsOutside : EncodeError → JsonState → Type 0
IsOutside AlreadyFailed x = x.failed ≡ true
IsOutside OutOfTurn x = x.place.kind ≢ Kinds.Members
IsOutside _ x = ⊥

abbrev pub jer_rules : EncoderRules EncodeError JsonState
jer_rules = record {
  presents = Presents;
  marks = Marks;
  skips = Skips;
  begins = Begins;
  adds = Adds;
  refuses = Refuses;
  unmarked = IsOutside;
  surplus = IsOutside;
  unchosen = λ e x. e ≡ VariantNotInChoice;
  untimely = λ e x. e ≡ OutOfTurn;
  memory = λ e x. e ≡ OutOfMemory;
  already = λ e x. e ≡ AlreadyFailed;
  failed = λ x. x.failed;
  codec = λ x. Uper;
}

-- how each call behaves
abbrev pub BehavesSo : {T : Type 0} → JsonState → Result T EncodeError → JsonState → Type 0
BehavesSo x result y = Behaves jer_rules.already jer_rules.failed jer_rules.codec x result y

-- a text for which memory was taken is written where one is awaited
abbrev pub TextWritten : {T E U : Type 0} → Result U EncodeError → Result T E → (T → List ℕ) → JsonState → JsonState
    → Type 0
TextWritten (Err e) text items x y = (e ≡ OutOfMemory) ⊎ IsRefused e x
TextWritten (Ok u) (Ok t) items x y = (x.failed ≡ false) × (y.failed ≡ false) × Takes x.place (items t) y.place
TextWritten (Ok u) (Err n) items x y = ⊥

-- a call that writes a text, for which memory may not have been taken
pub record WritesText {T E : Type 0} (text : Result T E) (items : T → List ℕ) (x : JsonState)
    (result : Result (Unit {0}) EncodeError) (y : JsonState) : Type 0 where
  pub written : TextWritten result text items x y
  pub behaves : BehavesSo x result y

-- a call writes a JSON value: it presents each value that this shows
abbrev pub WritesJson : Json → JsonState → Result (Unit {0}) EncodeError → JsonState → Type 0
WritesJson j x result y = (s : Schema) (v : Value) → Shows s v j → Writes jer_rules s v x result y

-- why no text was made of a value: memory ran out, or it has no JSON
abbrev pub IsUnmade : Schema → Value → EncodeError → Type 0
IsUnmade s v e = (e ≡ OutOfMemory) ⊎ ((e ≡ NoJson) × HasNoJson s v)

-- a place is opened, and what was open is answered
abbrev pub Entered : {E : Type 0} → Result Frame EncodeError → Result Frame E → JsonState → JsonState → Type 0
Entered (Err e) p x y = (e ≡ OutOfMemory) ⊎ ((e ≡ AlreadyFailed) × (x.failed ≡ true))
Entered (Ok o) (Ok p) x y = (x.failed ≡ false) × (o ≡ x.place) × (y ≡ unfailed_at p)
Entered (Ok o) (Err n) x y = ⊥

-- a call that opens a place
pub record EntersFrame {E : Type 0} (place : Result Frame E) (x : JsonState) (result : Result Frame EncodeError)
    (y : JsonState) : Type 0 where
  pub entered : Entered result place x y
  pub behaves : BehavesSo x result y

-- A call that opens the place of a choice's alternative, and answers what was open, beside what names the alternative.
pub record EntersChoice {N : Type 0} (x : JsonState) (result : Result (Frame × N) EncodeError)
    (y : JsonState) : Type 0 where
  pub opened : IfOk result (λ o. Opens Kinds.One x o.0 y)
  pub err : IfErr result (λ e. (e ≡ OutOfMemory) ⊎ ((e ≡ AlreadyFailed) × (x.failed ≡ true)))
  pub behaves : BehavesSo x result y

-- why a place of a kind isn't closed: a call was refused before; it is of another kind, or its one value is lacking; or
-- outside no value is awaited
abbrev pub IsUnclosed : Kind → Bool → JsonState → EncodeError → Type 0
IsUnclosed kind is_full_outside j AlreadyFailed = j.failed ≡ true
IsUnclosed kind is_full_outside j OutOfTurn =
    (j.place.kind ≢ kind) ⊎ ((is_complete j.place ≡ false) ⊎ (is_full_outside ≡ true))
IsUnclosed kind is_full_outside j _ = ⊥

-- what is inside a place of a kind is taken out, and what waited outside is open again
abbrev pub Left : Kind → Frame → JsonState → Result Frame EncodeError → JsonState → Type 0
Left kind o j (Ok p) y = (j.failed ≡ false) × (j.place.kind ≡ kind) × (p ≡ j.place)
    × (y ≡ unfailed_at o)
Left kind o j (Err e) y = IsUnclosed kind false j e

-- a call that takes out what is inside a place
pub record LeavesFrame (kind : Kind) (o : Frame) (j : JsonState) (result : Result Frame EncodeError)
    (y : JsonState) : Type 0 where
  pub left : Left kind o j result y
  pub lacks : is_complete j.place ≡ false → j.failed ≡ false → IsErrAnd result (λ e. e ≡ OutOfTurn)
  pub behaves : BehavesSo j result y

-- a place of a kind is closed: what was written in it is written outside, between two characters
abbrev pub Closed : Kind → ℕ → ℕ → Frame → JsonState → Result (Unit {0}) EncodeError → JsonState → Type 0
Closed kind opening closing o j (Ok u) y = (j.failed ≡ false) × (j.place.kind ≡ kind) × (y.failed ≡ false)
    × Takes o (enclosed opening j.place.text closing) y.place
Closed kind opening closing o j (Err e) y = (e ≡ OutOfMemory) ⊎ IsUnclosed kind (is_full o) j e

-- a call that closes a place
pub record ClosesFrame (kind : Kind) (opening closing : ℕ) (o : Frame) (j : JsonState)
    (result : Result (Unit {0}) EncodeError) (y : JsonState) : Type 0 where
  pub closed : Closed kind opening closing o j result y
  pub lacks : is_complete j.place ≡ false → j.failed ≡ false → IsErrAnd result (λ e. e ≡ OutOfTurn)
  pub behaves : BehavesSo j result y

-- A call before an item of an array, of which so many are left: one less then, and an item is to come. Where none is
-- left it refuses, and where the item before it didn't come, or more did.
pub record CountsItem (n : ℕ) (x : JsonState) (result : Result (Unit {0}) EncodeError) (m : ℕ)
    (y : JsonState) : Type 0 where
  pub ok : OnOk result ((x.failed ≡ false) × (n ≡ suc m) × (y ≡ record x { place = awaiting_item x.place }))
  pub err : IfErr result (λ e. ((e ≡ AlreadyFailed) × (x.failed ≡ true))
      ⊎ ((e ≡ OutOfTurn) × ((n ≡ 0) ⊎ (is_complete x.place ≡ false))))
  pub lacks : is_complete x.place ≡ false → x.failed ≡ false → IsErrAnd result (λ e. e ≡ OutOfTurn)
  pub behaves : BehavesSo x result y

-- A call that closes an array, of which so many items are left: where one is it refuses, and where the last one didn't
-- come, or more did.
pub record ClosesItems (o : Frame × ℕ) (j : JsonState) (result : Result (Unit {0}) EncodeError)
    (y : JsonState) : Type 0 where
  pub closed : o.1 ≡ 0 → Closed Kinds.Items 91 93 o.0 j result y
  pub early : 0 < o.1 → j.failed ≡ false → IsErrAnd result (λ e. e ≡ OutOfTurn)
  pub lacks : is_complete j.place ≡ false → j.failed ≡ false → IsErrAnd result (λ e. e ≡ OutOfTurn)
  pub behaves : BehavesSo j result y

-- a record is open, or why none is
abbrev pub InRecord : JsonState → Result (Unit {0}) EncodeError → JsonState → Type 0
InRecord x (Ok u) y = Stays x y
InRecord x (Err e) y = IsOutside e x

-- a call that is made in a record alone
pub record NeedsRecord (x : JsonState) (result : Result (Unit {0}) EncodeError) (y : JsonState) : Type 0 where
  pub inside : InRecord x result y
  pub behaves : BehavesSo x result y

-- an addition is written in the record that is open: Ok has written what P says, and Err, memory aside, comes only
-- outside of one
abbrev pub AddedSo : (Frame → Type 0) → JsonState → Result (Unit {0}) EncodeError → JsonState → Type 0
AddedSo P x (Ok u) y = (x.failed ≡ false) × (x.place.kind ≡ Kinds.Members) × (y.failed ≡ false) × P y.place
AddedSo P x (Err e) y = (e ≡ OutOfMemory) ⊎ IsOutside e x
