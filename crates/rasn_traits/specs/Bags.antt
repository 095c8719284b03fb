-- What is in an open SET OF, member after member, and what opening, going on and closing one owe, stated over any
-- encoder's relations. The members come in whatever order: what is presented is their bag.
use Rattle.std.specs.Prelude.{ℕ, ◌≡◌, ◌⊎◌, Bool, List, [], ◌∷◌, length, Result, Ok, Err, IsErrAnd}
use Rattle.rasn_types.specs.Values.{Value, bag_of}
use Rattle.rasn_constraints.specs.Bounds.{Size}
use Rattle.rasn_schema.specs.Schemas.{Schema}
use Rattle.rasn_traits.specs.Calls.{Behaves, EncoderRules, Written}
use Rattle.rasn_traits.specs.Lists.{Amid, ListForm, Mistimed}

-- the schema of a bag
abbrev pub bag_schema : ListForm → Schema
bag_schema f = Schema.set_of f.element f.size f.mark

-- Ok is inside each bag of so many members, and Err, memory aside, refuses each of them.
abbrev pub BagOpened : {E X B : Type 0} → EncoderRules E X → Amid X B → Size → Bool → ℕ → X → Result B E → X → Type 0
BagOpened rules amid size mark count x (Ok b) y =
    (e : Schema) (vs : List Value) → length vs ≡ count
    → amid (record { element = e; size = size; mark = mark; all = vs }) x vs b y
BagOpened rules amid size mark count x (Err d) y =
    rules.memory d x
    ⊎ ((e : Schema) (vs : List Value) → length vs ≡ count → rules.refuses d x (Schema.set_of e size mark) (bag_of vs))

-- A call that opens a bag to write.
pub record OpensBag {E X B : Type 0} (rules : EncoderRules E X) (amid : Amid X B) (size : Size) (mark : Bool)
    (count : ℕ)
    (x : X) (result : Result B E) (y : X) : Type 0 where
  pub law : BagOpened rules amid size mark count x result y
  pub behaves : Behaves rules.already rules.failed rules.codec x result y

-- The next member of a bag, which began at x, is to be written at y: where it is presented, the others are still to be
-- written; its refusal is one of the bag; and want of memory there is want of memory of the whole.
pub record AwaitsMember {E X B : Type 0} (rules : EncoderRules E X) (amid : Amid X B) (f : ListForm) (x : X) (v : Value)
    (vs : List Value) (b : B) (y : X) : Type 0 where
  pub presented : (z : X) → rules.presents y f.element v z → amid f x vs b z
  pub refused : (d : E) → rules.refuses d y f.element v → rules.refuses d x (bag_schema f) (bag_of f.all)
  pub room : (d : E) → rules.memory d y → rules.memory d x

-- Ok awaits the next member, and Err, memory aside, refuses the bag.
abbrev pub MemberAwaited : {E X B : Type 0} → EncoderRules E X → Amid X B → ListForm → X → Value → List Value
    → Result (Unit {0}) E → B → X → Type 0
MemberAwaited rules amid f x v vs (Ok u) b y = AwaitsMember rules amid f x v vs b y
MemberAwaited rules amid f x v vs (Err d) b y = rules.memory d x ⊎ rules.refuses d x (bag_schema f) (bag_of f.all)

-- A call before each member of a bag. Where all were presented it is refused.
pub record WritesMember {E X B : Type 0} (rules : EncoderRules E X) (amid : Amid X B) (b : B) (y : X)
    (result : Result (Unit {0}) E) (c : B) (z : X) : Type 0 where
  pub law : (f : ListForm) (x : X) (v : Value) (vs : List Value) → amid f x (v ∷ vs) b y
      → MemberAwaited rules amid f x v vs result c z
  pub late : (f : ListForm) (x : X) → amid f x [] b y → IsErrAnd result (Mistimed rules y)
  pub behaves : Behaves rules.already rules.failed rules.codec y result z

-- A call that closes a bag, all of whose members were presented: it answers as one call that writes the whole bag.
-- Where a member is still to be written it is refused.
pub record ClosesBag {E X B : Type 0} (rules : EncoderRules E X) (amid : Amid X B) (b : B) (y : X)
    (result : Result (Unit {0}) E) (z : X) : Type 0 where
  pub law : (f : ListForm) (x : X) → amid f x [] b y → Written rules (bag_schema f) (bag_of f.all) x result z
  pub early : (f : ListForm) (x : X) (v : Value) (vs : List Value) → amid f x (v ∷ vs) b y
      → IsErrAnd result (Mistimed rules y)
  pub behaves : Behaves rules.already rules.failed rules.codec y result z
