-- What is open in an encoder, and how many components are still to come in it. What encloses it waits outside (ITU-T
-- X.691, 19, 21.1, 23).
use Rattle.std.specs.Prelude.{ℕ, ◌≡◌, ◌⊎◌, Bool, true, false, List, Option, Some, None}
use Rattle.rasn_types.specs.Values.{Value}
use Rattle.rasn_schema.specs.Structures.{presence_bits}
use Rattle.rasn_schema.specs.Normal.{root_of}
use Rattle.rasn_schema.specs.Schemas.{by_tag, count, Schema}
use Rattle.rasn_traits.specs.Lists.{ListForm}
use Rattle.per_pieces.specs.OpenSets.{opened}
use Rattle.per_write.specs.Additions.{Opens as OpensOpenTypeIn, OutsideAddition}
use Rattle.per_write.specs.Components.{Encoding, going_on}
use Rattle.per_core.specs.declared.encode_error.EncodeError.{EncodeError}
use Rattle.per_core.specs.declared.encode_error.EncodeErrorKind.TheVariants.{OutOfTurn}
use Rattle.per_write.specs.declared.lists.UnwrittenElements.{UnwrittenElements}
use Rattle.per_write.specs.Faults.{IsAlready, IsError}
use Rattle.per_write.specs.Lists.{IsOpenList as IsOpenListIn}
use Rattle.per_write.specs.Records.{Opens as OpensRecord}
use Rattle.per_write.specs.WriterState.{Frame, WriterState, empty_scope}
use Rattle.per_pieces.specs.Turns.{awaits, counts, Enclosing, in_list, is_between, is_complete, Turn, uncounted}
use Rattle.per_write.specs.Unplaced.{BeginsUnplaced, OutsideUnplaced}
use Rattle.per_enc.specs.Bags.{IsOpenBag as IsOpenBagIn, OpenBag}
use Rattle.per_enc.specs.Choices.{OutsideChoice}
use Rattle.per_enc.specs.AlternativeCounts.{OpensChoice as OpensChoiceIn}
use Rattle.per_enc.specs.Records.{addition_count, after_marker, part_count}
use Rattle.per_enc.specs.Rules.{noting}

-- Something is opened in which values stand, as a writer opens it: what encloses it waits beside what the writer says,
-- and so many components are to come.
pub record OpensWithin {O : Type 0} (turn : Turn) (opens : WriterState → O → WriterState → Type 0) (x : Encoding)
    (o : O × Enclosing) (y : Encoding) : Type 0 where
  pub opened : opens (noting x).writer o.0 y.writer
  pub waits : o.1 ≡ (noting x).set
  pub inside : y.set ≡ counts turn

-- X.691 21: a SET of so many root components is opened, of which each is written before its place is known: a zero
-- stands for its extension bit
pub record OpensSet (parts : ℕ) (additions : Option ℕ) (x : Encoding) (o : Frame × Enclosing)
    (y : Encoding) : Type 0 where
  pub front : WriterState
  pub marked : OpensRecord 0 additions (noting x).writer o.0 front
  pub waits : o.1 ≡ (noting x).set
  pub inside : y ≡ going_on (opened parts front.pieces) front

-- why a call of what is open is refused: one was refused before, or it isn't ready for this one
abbrev pub IsUnready : Bool → EncodeError → Encoding → Type 0
IsUnready is_ready e x = (IsAlready e x.writer × (x.writer.failed ≡ true))
    ⊎ (IsError OutOfTurn e x.writer × (x.writer.failed ≡ false) × (is_ready ≡ false))

-- why what is open isn't closed: a call was refused before, or not as many components came as were awaited
abbrev pub IsUnclosed : EncodeError → Encoding → Type 0
IsUnclosed e x = IsUnready (is_complete x.set) e x

-- why an open list isn't gone on in: a call was refused before, or not as many values came as were awaited
abbrev pub IsAmidElement : EncodeError → Encoding → Type 0
IsAmidElement e x = IsUnready (is_between x.set) e x

-- a record is opened, in which so many components are to come
abbrev pub OpensScope : Turn → Schema → Encoding → (Frame × Enclosing) → Encoding → Type 0
OpensScope t s = OpensWithin t (OpensRecord (presence_bits (root_of s)) (addition_count s))

-- X.691 19, 21: a SEQUENCE or a SET is opened, in which all its components are to come
abbrev pub Opens : Schema → Encoding → (Frame × Enclosing) → Encoding → Type 0
Opens (Schema.sequence by_tag ps marker qs) = OpensSet (count ps) (after_marker marker (part_count qs))
Opens s = OpensScope (awaits (count (root_of s))) s

-- the same of a SEQUENCE in which nothing is counted
abbrev pub OpensFields : Schema → Encoding → (Frame × Enclosing) → Encoding → Type 0
OpensFields s = OpensScope uncounted s

-- X.691 23: a CHOICE is opened, in which one value is to come
abbrev pub OpensChoice : Schema → Encoding → (OutsideChoice × Enclosing) → Encoding → Type 0
OpensChoice s = OpensWithin (awaits 1) (OpensChoiceIn s)

-- X.682 11, X.691 11.2: octets that are to contain a value are opened, in which it is to come; it has no place yet
abbrev pub OpensContents : Encoding → (OutsideUnplaced × Enclosing) → Encoding → Type 0
OpensContents = OpensWithin (awaits 1) BeginsUnplaced

-- X.691 19.9: the open type of the next addition is opened, in which one value is to come
pub record OpensOpenType (x : Encoding) (o : OutsideAddition × Enclosing) (y : Encoding) : Type 0 where
  pub opened : OpensOpenTypeIn x.writer o.0 y.writer
  pub waits : o.1 ≡ x.set
  pub inside : y.set ≡ counts (awaits 1)

-- X.691 20: a list is open in which nothing is counted
abbrev pub IsOpenElements : ListForm → Encoding → List Value → ((UnwrittenElements × Option Frame) × Enclosing)
    → Encoding → Type 0
IsOpenElements f x vs = OpensWithin uncounted (λ z l y. IsOpenListIn f z vs l.0 y) x

-- X.691 22: a bag is open in which nothing is counted
abbrev pub IsOpenMembers : ListForm → Encoding → List Value → ((OpenBag × Option Frame) × Enclosing) → Encoding
    → Type 0
IsOpenMembers f x vs = OpensWithin uncounted (λ z b y. IsOpenBagIn f z vs b.0 y) x

-- a writer in which no presence bit and no addition is left to be given
abbrev pub closed_off : WriterState → WriterState
closed_off x = record x { scope = empty_scope true }

-- what is open where a writer was closed off, and the scope that waits meanwhile
abbrev pub ClosedOff : {O : Type 0} → (WriterState → O → WriterState → Type 0) → WriterState → (O × Option Frame)
    → WriterState → Type 0
ClosedOff opens x o y = opens (closed_off x) o.0 y × (o.1 ≡ Some x.scope)

-- X.691 20: a list is open in which each value is counted, and nothing else can come
abbrev pub IsOpenList : ListForm → Encoding → List Value → ((UnwrittenElements × Option Frame) × Enclosing) → Encoding
    → Type 0
IsOpenList f x vs = OpensWithin (in_list 0) (ClosedOff (λ z l y. IsOpenListIn f z vs l y)) x

-- X.691 22: a bag is open in which each value is counted, and nothing else can come
abbrev pub IsOpenBag : ListForm → Encoding → List Value → ((OpenBag × Option Frame) × Enclosing) → Encoding → Type 0
IsOpenBag f x vs = OpensWithin (in_list 0) (ClosedOff (λ z b y. IsOpenBagIn f z vs b y)) x

-- in an open list or bag so many values are to come before it is gone on in, and nothing else can come
pub record AwaitsValues (n : ℕ) (y : Encoding) : Type 0 where
  pub unfailed : y.writer.failed ≡ false
  pub turn : y.set ≡ counts (in_list n)
  pub presences : y.writer.scope.presences.left ≡ 0
  pub additions : y.writer.scope.additions ≡ None
