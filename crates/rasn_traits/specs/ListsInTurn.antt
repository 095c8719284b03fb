-- What opening, going on in and closing a list or a bag owe where the values that come in it are counted, stated over
-- any codec's relations; and what a caller shows where they aren't.
use Rattle.std.specs.Prelude.{ℕ, ◌≡◌, Bool, true, List, [], ◌∷◌, Result, IfOk, IsErrAnd, OnOk}
use Rattle.rasn_types.specs.Values.{Value}
use Rattle.rasn_constraints.specs.Bounds.{Size}
use Rattle.rasn_schema.specs.Schemas.{Schema}
use Rattle.rasn_traits.specs.Amounts.{Amount, only_values}
use Rattle.rasn_traits.specs.Bags.{ClosesBag, OpensBag, WritesMember}
use Rattle.rasn_traits.specs.Calls.{DecoderRules, EncoderRules}
use Rattle.rasn_traits.specs.Lists.{Amid, AmidRead, ClosesList, ListForm, OpensList, OpensListToRead, ReadsNext}
use Rattle.rasn_traits.specs.Lists.{WritesNext}
use Rattle.rasn_traits.specs.Turns.{RefusesOther}
use Rattle.rasn_traits.specs.TurnsRead.{CameRead}

-- A relation of an encoder or a decoder: so many values are to come, and nothing else.
abbrev pub AwaitsValues : Type 0 → Type 1
AwaitsValues X = ℕ → X → Type 0

-- Where anything else came than the values that were awaited, a call is refused.
abbrev pub RefusesOtherValues : {E X : Type 0} → EncoderRules E X → AwaitsValues X → X → Result (Unit {0}) E → Type 0
RefusesOtherValues {X = X} rules awaits y result = (n : ℕ) (i : X) → awaits n i
    → RefusesOther rules (only_values n) i y result

-- A call that opens a list, and counts what comes in it: nothing is to come in front of the first call before an
-- element.
pub record OpensListInTurn {E X L : Type 0} (rules : EncoderRules E X) (awaits : AwaitsValues X) (amid : Amid X L)
    (size : Size) (mark : Bool) (count : ℕ) (x : X) (result : Result L E) (y : X) : Type 0 where
  pub opens : OpensList rules amid size mark count x result y
  pub counts : OnOk result (awaits 0 y)

-- A call before each element of a list: where one was still to be written, its value is to come behind the call. Where
-- the element before it didn't come, or anything else did, it is refused.
pub record WritesNextInTurn {E X L : Type 0} (rules : EncoderRules E X) (awaits : AwaitsValues X) (amid : Amid X L)
    (l : L) (y : X) (result : Result (Unit {0}) E) (m : L) (z : X) : Type 0 where
  pub goes_on : WritesNext rules amid l y result m z
  pub counts : (f : ListForm) (x : X) (v : Value) (vs : List Value) → amid f x (v ∷ vs) l y → OnOk result (awaits 1 z)
  pub untimely : RefusesOtherValues rules awaits y result

-- A call that closes a list. Where the last element didn't come, or anything else did, it is refused.
pub record ClosesListInTurn {E X L : Type 0} (rules : EncoderRules E X) (awaits : AwaitsValues X) (amid : Amid X L)
    (l : L) (y : X) (result : Result (Unit {0}) E) (z : X) : Type 0 where
  pub closes : ClosesList rules amid l y result z
  pub untimely : RefusesOtherValues rules awaits y result

-- The same of a bag: a call that opens it,
pub record OpensBagInTurn {E X B : Type 0} (rules : EncoderRules E X) (awaits : AwaitsValues X) (amid : Amid X B)
    (size : Size) (mark : Bool) (count : ℕ) (x : X) (result : Result B E) (y : X) : Type 0 where
  pub opens : OpensBag rules amid size mark count x result y
  pub counts : OnOk result (awaits 0 y)

-- a call before each member,
pub record WritesMemberInTurn {E X B : Type 0} (rules : EncoderRules E X) (awaits : AwaitsValues X) (amid : Amid X B)
    (b : B) (y : X) (result : Result (Unit {0}) E) (c : B) (z : X) : Type 0 where
  pub goes_on : WritesMember rules amid b y result c z
  pub counts : (f : ListForm) (x : X) (v : Value) (vs : List Value) → amid f x (v ∷ vs) b y → OnOk result (awaits 1 z)
  pub untimely : RefusesOtherValues rules awaits y result

-- and a call that closes it.
pub record ClosesBagInTurn {E X B : Type 0} (rules : EncoderRules E X) (awaits : AwaitsValues X) (amid : Amid X B)
    (b : B) (y : X) (result : Result (Unit {0}) E) (z : X) : Type 0 where
  pub closes : ClosesBag rules amid b y result z
  pub untimely : RefusesOtherValues rules awaits y result

-- A list or a bag is open of which an element is still to be written, and all before it were.
pub record IsBeforeElement {X L : Type 0} (amid : Amid X L) (l : L) (y : X) : Type 0 where
  pub form : ListForm
  pub before : X
  pub element : Value
  pub others : List Value
  pub stands : amid form before (element ∷ others) l y

-- A list or a bag is open of which all elements were written.
pub record IsAfterElements {X L : Type 0} (amid : Amid X L) (l : L) (y : X) : Type 0 where
  pub form : ListForm
  pub before : X
  pub stands : amid form before [] l y

-- Where anything else was read than the values that were awaited, a call is refused.
abbrev pub RefusesOtherValuesRead : {E S T : Type 0} → DecoderRules E S → AwaitsValues S → S → Result T E → Type 0
RefusesOtherValuesRead {S = S} rules awaits j result = (n : ℕ) (i : S) (came : Amount) → awaits n i
    → CameRead rules came i j → (came ≡ only_values n → ⊥) → IsErrAnd result (λ e. rules.untimely e j)

-- A call that opens a list to read, and counts what comes in it: nothing is to come in front of the first call before
-- an element.
pub record OpensListToReadInTurn {E S L : Type 0} (rules : DecoderRules E S) (awaits : AwaitsValues S)
    (amid : AmidRead S L) (size : Size) (mark : Bool) (s : S) (result : Result L E) (i : S) : Type 0 where
  pub opens : OpensListToRead rules amid size mark s result i
  pub counts : OnOk result (awaits 0 i)

-- A call before each element of a list to read, and at its end: where an element follows, one value is to come behind
-- the call. Where the element before it wasn't read, or anything else was, it is refused.
pub record ReadsNextInTurn {E S L : Type 0} (rules : DecoderRules E S) (awaits : AwaitsValues S) (amid : AmidRead S L)
    (most : L → ℕ) (l : L) (i : S) (result : Result Bool E) (m : L) (j : S) : Type 0 where
  pub goes_on : ReadsNext rules amid most l i result m j
  pub counts : (e : Schema) (size : Size) (mark : Bool) (s : S) (vs : List Value) → amid e size mark s vs l i
      → IfOk result (λ follows. follows ≡ true → awaits 1 j)
  pub untimely : RefusesOtherValuesRead rules awaits i result

-- A list is open to read of which all elements before this one were read.
pub record IsBeforeElementRead {S L : Type 0} (amid : AmidRead S L) (l : L) (i : S) : Type 0 where
  pub element : Schema
  pub size : Size
  pub mark : Bool
  pub before : S
  pub taken : List Value
  pub stands : amid element size mark before taken l i
