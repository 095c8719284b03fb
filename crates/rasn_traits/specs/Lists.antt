-- What is in an open list, element after element, and what opening, going on and closing one owe, stated over any
-- codec's relations.
use Rattle.std.specs.Prelude.{ℕ, suc, ◌≡◌, ◌<◌, ◌⊎◌, Bool, true, false, List, [], ◌∷◌, ◌++◌, length, Result, Ok, Err}
use Rattle.std.specs.Prelude.{IfOk, IsErrAnd}
use Rattle.rasn_types.specs.Values.{Value}
use Rattle.rasn_constraints.specs.Bounds.{Size}
use Rattle.rasn_schema.specs.Lists.{list_at}
use Rattle.rasn_schema.specs.Structures.{list_value}
use Rattle.rasn_schema.specs.Schemas.{Schema}
use Rattle.rasn_traits.specs.Calls.{Behaves, EncoderRules, Written, DecoderRules, Refuses}

-- A list: the schema of its elements, its size, whether that is extensible, and its elements.
pub record ListForm : Type 0 where
  pub element : Schema
  pub size : Size
  pub mark : Bool
  pub all : List Value

-- the schema of a list
abbrev pub schema_of : ListForm → Schema
schema_of f = Schema.list f.element f.size f.mark

-- A relation of an encoder: the list that is written, what was before it, its elements that are still to be written,
-- what is left of it, and how the encoder is now.
abbrev pub Amid : Type 0 → Type 0 → Type 1
Amid X L = ListForm → X → List Value → L → X → Type 0

-- Ok is inside each list of so many elements, and Err, memory aside, refuses each of them.
abbrev pub ListOpened : {E X L : Type 0} → EncoderRules E X → Amid X L → Size → Bool → ℕ → X → Result L E → X → Type 0
ListOpened rules amid size mark count x (Ok l) y =
    (e : Schema) (vs : List Value) → length vs ≡ count
    → amid (record { element = e; size = size; mark = mark; all = vs }) x vs l y
ListOpened rules amid size mark count x (Err d) y =
    rules.memory d x ⊎ ((e : Schema) (vs : List Value) → length vs ≡ count
    → rules.refuses d x (Schema.list e size mark) (list_value vs))

-- A call that opens a list to write.
pub record OpensList {E X L : Type 0} (rules : EncoderRules E X) (amid : Amid X L) (size : Size) (mark : Bool)
    (count : ℕ) (x : X) (result : Result L E) (y : X) : Type 0 where
  pub law : ListOpened rules amid size mark count x result y
  pub behaves : Behaves rules.already rules.failed rules.codec x result y

-- The next element of a list, which began at x, is to be written at y: where it is presented, the others are still to
-- be written; its refusal is one of the list; and want of memory there is want of memory of the whole.
pub record AwaitsElement {E X L : Type 0} (rules : EncoderRules E X) (amid : Amid X L) (f : ListForm) (x : X)
    (v : Value) (vs : List Value) (l : L) (y : X) : Type 0 where
  pub presented : (z : X) → rules.presents y f.element v z → amid f x vs l z
  pub refused : (d : E) → rules.refuses d y f.element v → rules.refuses d x (schema_of f) (list_value f.all)
  pub room : (d : E) → rules.memory d y → rules.memory d x

-- Ok awaits the next element, and Err, memory aside, refuses the list.
abbrev pub ElementAwaited : {E X L : Type 0} → EncoderRules E X → Amid X L → ListForm → X → Value → List Value
    → Result (Unit {0}) E → L → X → Type 0
ElementAwaited rules amid f x v vs (Ok u) l y = AwaitsElement rules amid f x v vs l y
ElementAwaited rules amid f x v vs (Err d) l y = rules.memory d x ⊎ rules.refuses d x (schema_of f) (list_value f.all)

-- An error of a call that came out of turn, or whose memory ran out before that was found.
abbrev pub Mistimed : {E X : Type 0} → EncoderRules E X → X → E → Type 0
Mistimed rules y e = rules.memory e y ⊎ rules.untimely e y

-- A call before each element of a list. Where all were presented it is refused.
pub record WritesNext {E X L : Type 0} (rules : EncoderRules E X) (amid : Amid X L) (l : L) (y : X)
    (result : Result (Unit {0}) E) (m : L) (z : X) : Type 0 where
  pub law : (f : ListForm) (x : X) (v : Value) (vs : List Value) → amid f x (v ∷ vs) l y
      → ElementAwaited rules amid f x v vs result m z
  pub late : (f : ListForm) (x : X) → amid f x [] l y → IsErrAnd result (Mistimed rules y)
  pub behaves : Behaves rules.already rules.failed rules.codec y result z

-- A call that closes a list, all of whose elements were presented: it answers as one call that writes the whole list.
-- Where an element is still to be written it is refused.
pub record ClosesList {E X L : Type 0} (rules : EncoderRules E X) (amid : Amid X L) (l : L) (y : X)
    (result : Result (Unit {0}) E) (z : X) : Type 0 where
  pub law : (f : ListForm) (x : X) → amid f x [] l y → Written rules (schema_of f) (list_value f.all) x result z
  pub early : (f : ListForm) (x : X) (v : Value) (vs : List Value) → amid f x (v ∷ vs) l y
      → IsErrAnd result (Mistimed rules y)
  pub behaves : Behaves rules.already rules.failed rules.codec y result z

-- A relation of a decoder: the schema of a list's elements, its size, and whether that is extensible; what was before
-- the list, its elements that were read, what is left of it, and how the decoder is now.
abbrev pub AmidRead : Type 0 → Type 0 → Type 1
AmidRead S L = Schema → Size → Bool → S → List Value → L → S → Type 0

-- an error comes, memory aside, only where no list is read
abbrev pub ListUnread : {E S : Type 0} → DecoderRules E S → Schema → E → S → Type 0
ListUnread rules c d s = rules.memory d s ⊎ Refuses (rules.spells c) (rules.fault c) d s

-- Ok is inside each list, one level deeper, and Err, memory aside, comes only where none is read.
abbrev pub ListOpenedToRead : {E S L : Type 0} → DecoderRules E S → AmidRead S L → Size → Bool → S → Result L E → S
    → Type 0
ListOpenedToRead rules amid size mark s (Ok l) i = (rules.levels s ≡ suc (rules.levels i))
    × ((e : Schema) → amid e size mark s [] l i)
ListOpenedToRead rules amid size mark s (Err d) i = (element : ℕ → Schema)
    → ListUnread rules (list_at element size mark (rules.levels s)) d s

-- A call that opens a list to read.
pub record OpensListToRead {E S L : Type 0} (rules : DecoderRules E S) (amid : AmidRead S L) (size : Size)
    (mark : Bool) (s : S) (result : Result L E) (i : S) : Type 0 where
  pub law : ListOpenedToRead rules amid size mark s result i
  pub behaves : Behaves rules.already rules.failed rules.codec s result i

-- The next element of a list, which began at s, is at i, one level deeper: where it is read, the others are still
-- to be read; where none is, no list is; its fault is one of the list; and want of memory there is want of memory of
-- the whole.
pub record HasElement {E S L : Type 0} (rules : DecoderRules E S) (amid : AmidRead S L) (e : Schema) (size : Size)
    (mark : Bool) (s : S) (vs : List Value) (l : L) (i : S) : Type 0 where
  pub deeper : rules.levels s ≡ suc (rules.levels i)
  pub element_read : (v : Value) (j : S) → rules.spells e i v j → amid e size mark s (vs ++ v ∷ []) l j
  pub none : ((v : Value) (j : S) → rules.spells e i v j → ⊥) → (w : Value) (t : S)
      → rules.spells (Schema.list e size mark) s w t → ⊥
  pub in_element : (d : E) → rules.fault e d i → rules.fault (Schema.list e size mark) d s
  pub room : (d : E) → rules.memory d i → rules.memory d s

-- Ok says whether a further element is there, or the list was read, and Err, memory aside, comes only where no list
-- is read.
abbrev pub ElementFound : {E S L : Type 0} → DecoderRules E S → AmidRead S L → Schema → Size → Bool → S → List Value
    → Result Bool E → L → S → Type 0
ElementFound rules amid e size mark s vs (Ok true) l i = HasElement rules amid e size mark s vs l i
ElementFound rules amid e size mark s vs (Ok false) l i = rules.spells (Schema.list e size mark) s (list_value vs) i
ElementFound rules amid e size mark s vs (Err d) l i = ListUnread rules (Schema.list e size mark) d s

-- A call before each element of a list, and at its end. Where an element follows, `most` says that fewer can follow
-- than before.
pub record ReadsNext {E S L : Type 0} (rules : DecoderRules E S) (amid : AmidRead S L) (most : L → ℕ) (l : L) (i : S)
    (result : Result Bool E) (m : L) (j : S) : Type 0 where
  pub law : (e : Schema) (size : Size) (mark : Bool) (s : S) (vs : List Value) → amid e size mark s vs l i
      → ElementFound rules amid e size mark s vs result m j
  pub falls : IfOk result (λ follows. follows ≡ true → most m < most l)
  pub behaves : Behaves rules.already rules.failed rules.codec i result j

-- What holds of a decoder's lists: one that is open is still open.
pub record ListsWell {E S L : Type 0} (rules : DecoderRules E S) (amid : AmidRead S L) : Type 0 where
  pub still : (e : Schema) (size : Size) (mark : Bool) (s : S) (vs : List Value) (l : L) (i : S)
      → amid e size mark s vs l i → rules.amidst s i
