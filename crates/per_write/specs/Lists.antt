-- SEQUENCE OF, written element by element (ITU-T X.691, 20).
use Rattle.std.specs.Prelude.{ℕ, zero, suc, ◌+◌, ◌<◌, ◌≡◌, ◌⊎◌, Bool, true, false, List, [], ◌∷◌, ◌++◌, map, length}
use Rattle.std.specs.Prelude.{Option, Some, None, Result, IfOk, IfErr, IsErrAnd, OnOk, OnErr}
use Rattle.rasn_types.specs.Variants.{variant_of, Variant}
use Rattle.rasn_types.specs.Values.{Value}
use Rattle.rasn_constraints.specs.Bounds.{Size}
use Rattle.rasn_schema.specs.Structures.{list_value}
use Rattle.rasn_traits.specs.Lists.{ListForm, WritesNext, schema_of}
use Rattle.per_core.specs.Canon.{canon}
use Rattle.per_core.specs.Counts.{fragment_sizes, in_fragments}
use Rattle.per_core.specs.Writers.{Writer, refused, ◌▹◌, one_by_one}
use Rattle.per_core.specs.declared.encode_error.EncodeError.{EncodeError}
use Rattle.per_core.specs.declared.encode_error.EncodeErrorKind.TheVariants.{OutOfTurn, SizeConstraintNotSatisfied}
use Rattle.per_write.specs.declared.lists.UnwrittenElements.{UnwrittenElements}
use Rattle.per_write.specs.Faults.{IsError, IsMemory}
use Rattle.per_core.specs.WritingFaults.{OutsideSize}
use Rattle.per_write.specs.Unwritten.{Remains}
use Rattle.per_write.specs.Rules.{encoder_rules}
use Rattle.per_write.specs.WriterState.{WriterState, within}

-- X.691 11.9.3.8: what is left of a fragment of so many items, and then the m items after it, in fragments of their
-- own
abbrev pub fragment_and : Variant → ℕ → ℕ → List Writer → Writer
fragment_and a m zero ws = in_fragments a (fragment_sizes m) ws
fragment_and a m (suc n) [] = refused
fragment_and a m (suc n) (w ∷ ws) = w ▹ fragment_and a m n ws

-- what is still to be written of items: those of the open fragment, and, where it isn't the last, further fragments
abbrev pub still : Variant → Option ℕ → ℕ → List Writer → Writer
still a None n ws = one_by_one ws
still a (Some m) n ws = fragment_and a m n ws

-- how many items are after the open fragment
abbrev pub count_after : Option ℕ → ℕ
count_after None = 0
count_after (Some m) = m

-- how many items are still to be written
abbrev pub count_left : UnwrittenElements → ℕ
count_left l = l.fragment + count_after l.behind

-- What is in front of items was written, in a form: of each list of so many, the rest is still to be written.
pub record Begins (form : Variant → List Writer → Writer) (count : ℕ) (x : WriterState) (l : UnwrittenElements)
    (y : WriterState) : Type 0 where
  pub counted : count_left l ≡ count
  pub some : 0 < count → 0 < l.fragment
  pub remains : (ws : List Writer) → length ws ≡ count → Remains x (form (variant_of x.codec) ws) y
      (still (variant_of x.codec) l.behind l.fragment ws)

-- A call that writes what is in front of so many items, of a list around which something is open or not.
pub record BeginsItems (errors : EncodeError → WriterState → Type 0) (form : Variant → List Writer → Writer) (count : ℕ)
    (around : Bool) (x : WriterState) (result : Result UnwrittenElements EncodeError) (y : WriterState) : Type 0 where
  pub ok : IfOk result (λ l. Begins form count x l y)
  pub stated : IfOk result (λ l. l.around ≡ around)
  pub err : IfErr result (λ e. errors e x)
  pub fails : OnErr result (y.failed ≡ true)
  pub kept : y.codec ≡ x.codec

-- What is in front of items was written, and something is open until the list is closed: of each list of so many,
-- the rest is still to be written.
pub record Enters (form : Variant → List Writer → Writer) (count : ℕ) (x : WriterState) (l : UnwrittenElements)
    (y : WriterState) : Type 0 where
  pub counted : count_left l ≡ count
  pub remains : (ws : List Writer) → length ws ≡ count → Remains x (form (variant_of x.codec) ws) (within l.around y)
      (still (variant_of x.codec) l.behind l.fragment ws)
  pub is_open : y.scope.is_open ≡ true

-- A call that opens a list of so many items.
pub record EntersItems (errors : EncodeError → WriterState → Type 0) (form : Variant → List Writer → Writer) (count : ℕ)
    (x : WriterState) (result : Result UnwrittenElements EncodeError) (y : WriterState) : Type 0 where
  pub ok : IfOk result (λ l. Enters form count x l y)
  pub err : IfErr result (λ e. errors e x)
  pub fails : OnErr result (y.failed ≡ true)
  pub kept : y.codec ≡ x.codec

-- memory ran out, or a count is outside a size that isn't extensible
pub data RefusesCount (size : Size) (mark : Bool) (count : ℕ) (e : EncodeError) (x : WriterState) : Type 0 where
  count_memory : IsMemory e x → RefusesCount size mark count e x
  count_outside : {lower upper : Option ℕ} → mark ≡ false → OutsideSize size count count lower upper →
      IsError (SizeConstraintNotSatisfied (record { size = count; lower = lower; upper = upper })) e x
      → RefusesCount size mark count e x

-- A list is open, which began at x: its last elements are still to be written, and with them it has its canonical bits.
-- Something is open until it is closed.
pub record IsOpenList (f : ListForm) (x : WriterState) (vs : List Value) (l : UnwrittenElements)
    (y : WriterState) : Type 0 where
  pub front : List Value
  pub all_is : f.all ≡ front ++ vs
  pub counted : count_left l ≡ length vs
  pub remains : (let a = variant_of x.codec in Remains x (canon a (schema_of f) (list_value f.all)) (within l.around y)
      (still a l.behind l.fragment (map (canon a f.element) vs)))
  pub is_open : y.scope.is_open ≡ true

-- A call before each element of a list, which gives no presence bit and no addition: where none is left it refuses.
pub record NextElement (l : UnwrittenElements) (y : WriterState) (result : Result (Unit {0}) EncodeError)
    (m : UnwrittenElements) (z : WriterState) : Type 0 where
  pub next : WritesNext encoder_rules IsOpenList l y result m z
  pub over : count_left l ≡ 0 → IsErrAnd result (λ e. IsMemory e y ⊎ IsError OutOfTurn e y)
  pub left : OnOk result (z.failed ≡ false)
  pub beside : OnOk result (z.scope ≡ y.scope)
