-- Counted items of as many bits each: octets, bits and characters (X.691 11.9, 16, 17, 30.5). An item's code is the
-- number that its bits mean.
use Rattle.std.specs.Prelude.{◌≡◌, ◌<◌, ◌≤◌, ◌+◌, ◌*◌, ℕ, Bool, if◌then◌else◌, List, ◌++◌, length, Result, IfOk, OnOk}
use Rattle.std.specs.Prelude.{IfErr}
use Rattle.rasn_types.specs.Bits.{Bits}
use Rattle.rasn_constraints.specs.Bounds.{Size, any_size}
use Rattle.per_core.specs.Basic.{OneByOne, Sized}
use Rattle.per_core.specs.Spellings.{Settings, Spelling, When, Took, NoneIn}
use Rattle.per_core.specs.BitFieldFaults.{IsOfBitField}
use Rattle.per_read.specs.Kinds.{Faulty}
use Rattle.per_read.specs.ReaderState.{ReaderState, settings_of}
use Rattle.per_read.specs.Takes.{Reason}
use Rattle.per_core.specs.declared.decode_error.DecodeErrorKind.{DecodeErrorKind}
use Rattle.per_core.specs.declared.items.Item.{Item}
use Rattle.per_core.specs.Counts.{counted_of, bits_of}
use Rattle.per_core.specs.Lengths.{coded}

-- X.691 11.9.3.5 to 11.9.3.8: items after an unconstrained length, as many as can be counted
abbrev pub unconstrained_items : Settings → Item → List ℕ → Spelling
unconstrained_items a i = Sized a any_size (counted_of i) (coded i)

-- items whose count the size allows
abbrev pub sized_items : Settings → Size → Item → List ℕ → Spelling
sized_items a size i = Sized a size (counted_of i) (coded i)

-- fewer than n items
abbrev pub items_below : {X : Type 0} → ℕ → (List X → Spelling) → List X → Spelling
items_below n form xs = When (length xs < n) (form xs)

-- items were appended: what was held before, since any start, is held with these after it
pub record Adds {C : Type 0} (holds : C → C → List ℕ → Type 0) (before : C) (codes : List ℕ) (after : C) : Type 0 where
  pub behind : (start : C) (xs : List ℕ) → holds start before xs → holds start after (xs ++ codes)

-- n items were read, in some form, and appended
pub record TookItems {C : Type 0} (holds : C → C → List ℕ → Type 0) (form : List ℕ → Spelling) (n : ℕ)
    (before after : C) (s t : Bits) : Type 0 where
  pub codes : List ℕ
  pub count : length codes ≡ n
  pub added : Adds holds before codes after
  pub took : Took (form codes) s t

-- A call that takes items of a form, and answers how many there were.
pub record TakesItems {C : Type 0} (holds : C → C → List ℕ → Type 0) (why : Reason)
    (form : Settings → List ℕ → Spelling) (before : C) (x : ReaderState)
    (result : Result ℕ DecodeErrorKind) (after : C) (y : ReaderState) : Type 0 where
  pub ok : IfOk result (λ n. TookItems holds (form (settings_of x)) n before after x.bits y.bits)
  pub err : IfErr result (why (settings_of x) x.bits (NoneIn (form (settings_of x)) x.bits))
  pub kept : y.options ≡ x.options

-- A call that takes n items with no length. They stay what they are.
pub record Collects {C : Type 0} (holds : C → C → List ℕ → Type 0) (item : C → Item) (count : C → ℕ) (n : ℕ)
    (before : C) (x : ReaderState)
    (result : Result (Unit {0}) DecodeErrorKind) (after : C) (y : ReaderState) : Type 0 where
  pub ok : OnOk result (TookItems holds (OneByOne (coded (item before))) n before after x.bits y.bits)
  pub same : OnOk result (item after ≡ item before)
  pub few : OnOk result (count after ≤ count before + n)
  pub err : IfErr result (Faulty (IsOfBitField (bits_of (item before) * n) x.bits)
      (length x.bits < bits_of (item before) * n))
  pub kept : y.options ≡ x.options

-- all items were read, in some form, and a fact holds of their codes
pub record Gathered (P : List ℕ → Type 0) (form : List ℕ → Spelling) (s t : Bits) : Type 0 where
  pub codes : List ℕ
  pub held : P codes
  pub took : Took (form codes) s t

-- a fact of so many octets
pub record HasCount (P : List ℕ → Type 0) (n : ℕ) : Type 0 where
  pub octets : List ℕ
  pub many : length octets ≡ n
  pub held : P octets

-- a bit's code
abbrev pub bit_code : Bool → ℕ
bit_code b = if b then 1 else 0
