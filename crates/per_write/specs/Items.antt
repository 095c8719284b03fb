-- Items that are counted and written one after another, and why they are refused (ITU-T X.691, 11.9).
use Rattle.std.specs.Prelude.{ℕ, ◌≡◌, ◌<◌, ◌⊎◌, Bool, true, false, ◌||◌, List, ◌∷◌, length, slice_range, Option}
use Rattle.std.specs.Prelude.{Some, None, Result}
use Rattle.rasn_types.specs.Variants.{variant_of, Variant}
use Rattle.rasn_constraints.specs.Bounds.{allows, any_size, Size}
use Rattle.rasn_constraints.specs.Constraints.{is_marked, size_in}
use Rattle.rasn_constraints.specs.declared.constraints.Bounded.{Bounded}
use Rattle.rasn_constraints.specs.declared.constraints.Extensible.{Extensible}
use Rattle.per_core.specs.Counts.{counted, counted_in, ItemKind}
use Rattle.per_core.specs.Writers.{Writer, one_by_one}
use Rattle.per_core.specs.declared.encode_error.EncodeError.{EncodeError}
use Rattle.per_core.specs.declared.encode_error.EncodeErrorKind.{EncodeErrorKind}
use Rattle.per_core.specs.declared.encode_error.EncodeErrorKind.TheVariants.{SizeConstraintNotSatisfied}
use Rattle.per_write.specs.Faults.{IsError, IsMemory}
use Rattle.per_core.specs.WritingFaults.{OutsideSize}
use Rattle.per_pieces.specs.Fragments.{one_fragment}
use Rattle.per_write.specs.WriterState.{Puts, WriterState}

-- what a length counts: of which kind its items are, how each is written, and the fault that a kind of error names in
-- them
pub record CountedItems : Type 1 where
  pub kind : ItemKind
  pub writers : Variant → List Writer
  pub fault : EncodeErrorKind → Type 0

-- one of some items has no encoding, wherever it begins
pub data HasRefused : List Writer → Type 0 where
  refused_here : {w : Writer} {ws : List Writer} → ((p : ℕ) → w p ≡ None) → HasRefused (w ∷ ws)
  refused_after : {w : Writer} {ws : List Writer} → HasRefused ws → HasRefused (w ∷ ws)

-- an item is refused, and the error's fault is in the items
pub record RefusesItem (fault : EncodeErrorKind → Type 0) (items : List Writer) (e : EncodeError)
    (x : WriterState) : Type 0 where
  pub refused : HasRefused items
  pub stands : fault e.kind
  pub codec_is : e.codec ≡ x.codec

-- memory ran out, or an item is refused
abbrev pub IsMemoryOrItem : (EncodeErrorKind → Type 0) → List Writer → EncodeError → WriterState → Type 0
IsMemoryOrItem fault items e x = IsMemory e x ⊎ RefusesItem fault items e x

-- why items under a size constraint are not written: want of memory; their count, where the constraint isn't
-- extensible; or, where the count is allowed or the constraint is extensible, one of them
pub data RefusesCounted (size : Size) (mark : Bool) (fault : EncodeErrorKind → Type 0) (items : List Writer)
    (e : EncodeError) (x : WriterState) : Type 0 where
  no_memory : IsMemory e x → RefusesCounted size mark fault items e x
  wrong_count : {lower upper : Option ℕ} → mark ≡ false → OutsideSize size (length items) (length items) lower upper →
      IsError (SizeConstraintNotSatisfied (record { size = length items; lower = lower; upper = upper })) e x
      → RefusesCounted size mark fault items e x
  wrong_item : (mark || allows size (length items)) ≡ true → RefusesItem fault items e x
      → RefusesCounted size mark fault items e x

-- the items from an index on and before another, one after another
abbrev pub items_between : ℕ → ℕ → CountedItems → Variant → Writer
items_between start end items a = one_by_one (slice_range (items.writers a) start end)

-- X.691 11.9.3.5 to 11.9.3.8: the same after one length
abbrev pub fragment_between : ℕ → ℕ → CountedItems → Variant → Writer
fragment_between start end items a = one_fragment a (slice_range (items.writers a) start end)

-- X.691 11.9.3.3, 11.9.4.1: all items after their count, in the form that its bounds give it
abbrev pub sized_items : Option ℕ → Option ℕ → CountedItems → Variant → Writer
sized_items lower upper items a = counted_in a (record { least = lower; most = upper }) items.kind (items.writers a)

-- X.691 11.9.3.5 to 11.9.3.8: all items after an unconstrained length
abbrev pub unconstrained_items : CountedItems → Variant → Writer
unconstrained_items items a = counted_in a any_size items.kind (items.writers a)

-- bounds allow the count of items
abbrev pub AllowsItems : Option ℕ → Option ℕ → CountedItems → Type 0
AllowsItems lower upper items = (a : Variant) → allows (record { least = lower; most = upper })
    (length (items.writers a)) ≡ true

-- X.691 17.6, 17.7: a size constraint that is one count alone, below 65536
pub record IsOnlySize (size : Option (Extensible (Bounded ℕ))) (count : ℕ) : Type 0 where
  pub unmarked : is_marked size ≡ false
  pub alone : size_in size ≡ record { least = Some count; most = Some count }
  pub few : count < 65536

-- A call that writes items in some form: an error says that memory ran out, or that an item is refused.
abbrev pub PutsItems : CountedItems → (CountedItems → Variant → Writer) → WriterState → Result (Unit {0}) EncodeError
    → WriterState
    → Type 0
PutsItems items form x result y =
    let a = variant_of x.codec in Puts (IsMemoryOrItem items.fault (items.writers a)) (form items a) x result y

-- X.691 16, 17, 20, 30.5: a call that writes items under the size constraint in use
abbrev pub PutsCounted : Option (Extensible (Bounded ℕ)) → CountedItems → WriterState → Result (Unit {0}) EncodeError
    → WriterState
    → Type 0
PutsCounted size items x result y =
    let a = variant_of x.codec in
    let all = items.writers a in
    Puts (RefusesCounted (size_in size) (is_marked size) items.fault all)
    (counted a (size_in size) (is_marked size) items.kind all) x result y
