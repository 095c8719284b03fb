-- Lengths, items after their counts, and what is in front of an item of a list, or of a length in it, after the
-- items before it (ITU-T X.691, 11.9 and 20).
use Rattle.std.specs.Prelude.{ℕ, Bool, true, false, List, ◌≤◌, ◌+◌, ◌-◌, ◌&&◌, nat_lt, cond, length, Option, Some, None}
use Rattle.std.specs.Prelude.{◌≡◌, ◌<◌, zero, suc, []}
use Rattle.rasn_types.specs.Bits.{Bits}
use Rattle.rasn_constraints.specs.Bounds.{Size, any_size}
use Rattle.per_core.specs.Spellings.{Settings, Spelling, Then, AnyPadding, BitField, When, exactly, never}
use Rattle.per_core.specs.Basic
use Rattle.per_core.specs.Basic.{LastCount, Counted, OneByOne, Sized, PaddingIf, constrained_form, Fragmented, Marked}
use Rattle.per_core.specs.Counts.{counted_of, bits_of, ItemKind, is_aligned}
use Rattle.per_core.specs.declared.lengths.Length.{Length}
use Rattle.per_core.specs.declared.lengths.Length.TheVariants.{Last, Fragment}
use Rattle.per_core.specs.declared.items.Item.{Item}

-- how many items follow a length
abbrev pub count_of : Length → ℕ
count_of (Last n) = n
count_of (Fragment n) = n

-- whether a further length is after them
abbrev pub is_followed : Length → Bool
is_followed (Last n) = false
is_followed (Fragment n) = true

-- the count of a length
abbrev pub CountOf : Length → Spelling
CountOf (Last n) = LastCount n
CountOf (Fragment n) = Basic.Fragment n

-- padding and a length
abbrev pub LengthOf : Settings → Length → Spelling
LengthOf a l = Then (AnyPadding a) (CountOf l)

-- an item, by its code
abbrev pub coded : Item → ℕ → Spelling
coded i = BitField (bits_of i)

-- X.691 16, 17, 30.5: items under a size constraint
abbrev pub counted_items : Settings → Size → Bool → Item → List ℕ → Spelling
counted_items a size mark i = Counted a size mark (counted_of i) (coded i)

-- X.691 11.9.3.3: a count from lb on, as a constrained whole number of lb to ub; it may be past ub
abbrev pub CountFrom : Settings → ℕ → ℕ → ℕ → Spelling
CountFrom a lb ub n = When (lb ≤ n) (constrained_form a (ub - lb + 1) (n - lb))

-- X.691 11.9.3.3: items after such a count
abbrev pub Between : {X : Type 0} → Settings → ℕ → ℕ → ItemKind → (X → Spelling) → List X → Spelling
Between a lb ub kind item xs = Then (CountFrom a lb ub (length xs))
    (Then (PaddingIf (nat_lt 0 (length xs) && is_aligned kind lb ub) a) (OneByOne item xs))

-- X.691 11.9.3.3, 11.9.4.1: items after their count, as a size has it written, whether it allows the count or not
abbrev pub under_size : {X : Type 0} → Settings → Option ℕ → Option ℕ → ItemKind → (X → Spelling) → List X → Spelling
under_size a None most kind item xs = Sized a any_size kind item xs
under_size a (Some lb) None kind item xs = Sized a any_size kind item xs
under_size a (Some lb) (Some ub) kind item xs = cond (nat_lt ub 65536) (Between a lb ub kind item xs)
    (Sized a any_size kind item xs)

-- X.691 11.9.3.5 to 11.9.3.8: a length, and items, fewer than it counts
pub record UpToCounted {X : Type 0} (a : Settings) (item : X → Spelling) (xs : List X) (p : ℕ)
    (bits : Bits) : Type 0 where
  pub counts : Length
  pub fewer : length xs < count_of counts
  pub spelled : Then (LengthOf a counts) (OneByOne item xs) p bits

-- X.691 11.9.3.8: k whole fragments, and then so
abbrev pub UpToFragment : {X : Type 0} → Settings → (X → Spelling) → ℕ → List X → Spelling
UpToFragment a item zero xs = UpToCounted a item xs
UpToFragment a item (suc k) xs = Fragmented a item (UpToFragment a item k) xs

-- after an unconstrained length
pub record UpToUnconstrained {X : Type 0} (a : Settings) (item : X → Spelling) (xs : List X) (p : ℕ)
    (bits : Bits) : Type 0 where
  pub fragments : ℕ
  pub spelled : UpToFragment a item fragments xs p bits

-- X.691 11.9.3.3: a count from lb on, as one of the numbers from lb to ub, and items, fewer than it counts
pub record UpToBetween {X : Type 0} (a : Settings) (lb ub : ℕ) (item : X → Spelling) (xs : List X) (p : ℕ)
    (bits : Bits) : Type 0 where
  pub count : ℕ
  pub fewer : length xs < count
  pub spelled : Then (CountFrom a lb ub count) (OneByOne item xs) p bits

-- X.691 11.9.3.3, 11.9.4.1: after a count as a size has it written
abbrev pub UpToSized : {X : Type 0} → Settings → Option ℕ → Option ℕ → (X → Spelling) → List X → Spelling
UpToSized a None most item = UpToUnconstrained a item
UpToSized a (Some lb) None item = UpToUnconstrained a item
UpToSized a (Some lb) (Some ub) item = λ xs. cond (nat_lt ub 65536) (UpToBetween a lb ub item xs)
    (UpToUnconstrained a item xs)

-- X.691 20: what is in front of an item of a list, after the items xs
abbrev pub UpTo : {X : Type 0} → Settings → Size → Bool → (X → Spelling) → List X → Spelling
UpTo a size mark item = Marked mark (UpToSized a size.least size.most item) (UpToUnconstrained a item)

-- X.691 11.9.3.8: items in k whole fragments
abbrev pub InWhole : {X : Type 0} → Settings → (X → Spelling) → ℕ → List X → Spelling
InWhole a item zero xs = When (xs ≡ []) (exactly [])
InWhole a item (suc k) xs = Fragmented a item (InWhole a item k) xs

-- items in whole fragments
pub record WholeFragments {X : Type 0} (a : Settings) (item : X → Spelling) (xs : List X) (p : ℕ)
    (bits : Bits) : Type 0 where
  pub fragments : ℕ
  pub spelled : InWhole a item fragments xs p bits

-- where no constrained count comes
abbrev pub LengthUpToSized : {X : Type 0} → Settings → Option ℕ → Option ℕ → (X → Spelling) → List X → Spelling
LengthUpToSized a None most item = WholeFragments a item
LengthUpToSized a (Some lb) None item = WholeFragments a item
LengthUpToSized a (Some lb) (Some ub) item = λ xs. cond (nat_lt ub 65536) never (WholeFragments a item xs)

-- X.691 11.9.3.5 to 11.9.3.8, 20: what is in front of a length of a list, after the items xs
abbrev pub LengthUpTo : {X : Type 0} → Settings → Size → Bool → (X → Spelling) → List X → Spelling
LengthUpTo a size mark item = Marked mark (LengthUpToSized a size.least size.most item) (WholeFragments a item)
