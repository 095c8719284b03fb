-- An open SET OF, of which each member is written before its place is known (ITU-T X.691, 22).
use Rattle.std.specs.Prelude.{ℕ, ◌≡◌, Bool, true, false, List, [], ◌∷◌, ◌++◌, map, length, Option, Some, None, Result}
use Rattle.std.specs.Prelude.{OnOk, OnErr, IfOk, IfErr}
use Rattle.rasn_types.specs.Variants.{variant_of}
use Rattle.rasn_types.specs.Values.{Value}
use Rattle.rasn_constraints.specs.Bounds.{Size}
use Rattle.rasn_schema.specs.Structures.{list_value}
use Rattle.rasn_traits.specs.Bags.{OpensBag, WritesMember}
use Rattle.rasn_traits.specs.Calls.{Written}
use Rattle.rasn_traits.specs.Lists.{ListForm, schema_of}
use Rattle.per_core.specs.Canon.{canon}
use Rattle.per_core.specs.Writers.{Writer}
use Rattle.per_pieces.specs.Pieces.{Piece}
use Rattle.per_enc.specs.Members.{writers_of}
use Rattle.per_core.specs.declared.encode_error.EncodeError.{EncodeError}
use Rattle.per_write.specs.declared.lists.UnwrittenElements.{UnwrittenElements}
use Rattle.per_write.specs.Faults.{IsMemory}
use Rattle.per_write.specs.Unplaced.{OutsideUnplaced}
use Rattle.per_write.specs.Lists.{IsOpenList}
use Rattle.per_write.specs.Rules.{encoder_rules}
use Rattle.per_write.specs.WriterState.{WriterState, empty_scope}

-- what is kept of an open SET OF: the list that its members are to be in, those that were written, and what waits
-- once one is begun
pub record OpenBag : Type 0 where
  pub list : UnwrittenElements
  pub members : List (List Piece)
  pub waiting : Option OutsideUnplaced

-- the writer outside the member that was begun, if one was
abbrev pub outside : Option OutsideUnplaced → WriterState → WriterState
outside None y = y
outside (Some w) y = record y { pieces = w.pieces; scope = w.scope }

-- members, and after them the one that was begun, if one was
abbrev pub with_begun : Option OutsideUnplaced → WriterState → List (List Piece) → List (List Piece)
with_begun None y ms = ms
with_begun (Some w) y ms = ms ++ y.pieces.list ∷ []

-- a list of other elements, of the same form
abbrev pub list_of : ListForm → List Value → ListForm
list_of f ws = record { element = f.element; size = f.size; mark = f.mark; all = ws }

-- A SET OF is open, which began at x: its last members are still to be written; the others were, each by itself; and
-- outside the list that they are to be in is open, of whatever elements. Something is open in each member too.
pub record IsOpenBag (f : ListForm) (x : WriterState) (vs : List Value) (b : OpenBag) (y : WriterState) : Type 0 where
  pub front : List Value
  pub all_is : f.all ≡ front ++ vs
  pub members : writers_of (with_begun b.waiting y b.members) ≡ map (canon (variant_of x.codec) f.element) front
  pub amid : (ws : List Value) → length ws ≡ length f.all → IsOpenList (list_of f ws) x ws b.list (outside b.waiting y)
  pub is_open : y.scope.is_open ≡ true

-- A call that opens a bag, of which no member is begun yet.
pub record BeginsBag (size : Size) (mark : Bool) (count : ℕ) (x : WriterState) (result : Result OpenBag EncodeError)
    (y : WriterState) : Type 0 where
  pub opens : OpensBag encoder_rules IsOpenBag size mark count x result y
  pub none : IfOk result (λ b. b.waiting ≡ None)

-- A call before each member of a bag, which is written by itself: no presence bit and no addition is left to be given.
pub record NextMember (b : OpenBag) (y : WriterState) (result : Result (Unit {0}) EncodeError) (c : OpenBag)
    (z : WriterState) : Type 0 where
  pub next : WritesMember encoder_rules IsOpenBag b y result c z
  pub left : OnOk result (z.failed ≡ false)
  pub alone : OnOk result (z.scope ≡ empty_scope true)

-- A call that keeps the member that was begun, if one was: what waited is there again.
pub record KeepsMember (b : OpenBag) (y : WriterState) (result : Result (Unit {0}) EncodeError) (c : OpenBag)
    (z : WriterState) : Type 0 where
  pub ok : OnOk result (z ≡ outside b.waiting y)
  pub is : OnOk result (c ≡ record { list = b.list; members = with_begun b.waiting y b.members; waiting = None })
  pub err : IfErr result (λ e. IsMemory e y)
  pub fails : OnErr result (z.failed ≡ true)
  pub kept : z.codec ≡ y.codec

-- A call that writes the elements of a list, of which none was written yet, and closes it.
pub record PutsMembers (writers : List Writer) (l : UnwrittenElements) (y : WriterState)
    (result : Result (Unit {0}) EncodeError) (z : WriterState) : Type 0 where
  pub law : (f : ListForm) (x : WriterState) → IsOpenList f x f.all l y → writers
      ≡ map (canon (variant_of x.codec) f.element) f.all
      → Written encoder_rules (schema_of f) (list_value f.all) x result z
  pub fails : OnErr result (z.failed ≡ true)
  pub kept : z.codec ≡ y.codec
