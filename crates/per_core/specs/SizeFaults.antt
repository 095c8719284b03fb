-- What a refusal says of items under a size (ITU-T X.691, 11.9): octets, bits and characters, texts, and lists.
use Rattle.std.specs.Prelude.{◌≡◌, ◌⊎◌, ℕ, ◌+◌, ◌-◌, ◌*◌, ◌&&◌, nat_lt, Bool, true, false, cond, List, length, Option}
use Rattle.std.specs.Prelude.{Some, None, ◌∷◌, ◌++◌, ◌≤◌, ◌^◌}
use Rattle.rasn_types.specs.Bits.{Bits}
use Rattle.rasn_types.specs.Alphabets.{char_code, char_width}
use Rattle.rasn_types.specs.Contents.{TextKind, is_text}
use Rattle.rasn_types.specs.Variants.{Variant}
use Rattle.rasn_constraints.specs.Bounds.{allows, Size}
use Rattle.per_core.specs.Basic.{PaddingIf, Marked, Octets}
use Rattle.per_core.specs.Counts.{ItemKind, is_aligned, bits_of, counted_of, list_items}
use Rattle.per_core.specs.Spellings.{Settings, Spelling, never, Took}
use Rattle.per_core.specs.BitFieldFaults.{Behind, InTurn, IsOfBitField, IsOfMarked, IsOfPadding, IsOfUnconstrained}
use Rattle.per_core.specs.BitFieldFaults.{Says}
use Rattle.per_core.specs.BitFieldFaults.{IsOfLength}
use Rattle.per_core.specs.Lengths.{coded, CountFrom, under_size, counted_items, LengthUpTo, UpTo}
use Rattle.per_core.specs.NumberFaults.{IsOfConstrained}
use Rattle.per_core.specs.declared.decode_error.DecodeErrorKind.{DecodeErrorKind}
use Rattle.per_core.specs.declared.items.Item.{Item}
use Rattle.per_core.specs.declared.decode_error.DecodeErrorKind.TheVariants.{SizeConstraintNotSatisfied}
use Rattle.per_core.specs.declared.decode_error.DecodeErrorKind.TheVariants.{PermittedAlphabet, StringConversionFailed}
use Rattle.per_core.specs.declared.decode_error.DecodeErrorKind.TheVariants.{ExceedsMaxLength}
use Rattle.per_core.specs.declared.items.Item.TheVariants.{Character}

-- X.691 11.9: items after a count n that the size, with these bounds, doesn't allow; not after an extension bit 1
pub record Miscounted {X : Type 0} (a : Settings) (size : Size) (mark : Bool) (kind : ItemKind) (item : X → Spelling)
    (n : ℕ) (least most : Option ℕ) (s : Bits) : Type 0 where
  pub items : List X
  pub rest : Bits
  pub count : length items ≡ n
  pub is_least : least ≡ size.least
  pub is_most : most ≡ size.most
  pub refused : allows size n ≡ false
  pub took : Took (Marked mark (under_size a size.least size.most kind item) (λ xs. never) items) s rest

-- of padding, where a test passes
abbrev pub IsOfPaddingIf : Bool → Settings → Says
IsOfPaddingIf true a s k = IsOfPadding a s k
IsOfPaddingIf false a s k = ⊥

-- of w bits, and of padding before them, where a test passes
abbrev pub IsOfBare : Bool → Settings → ℕ → Says
IsOfBare pads a w = InTurn (IsOfPaddingIf pads a) (PaddingIf pads a) (IsOfBitField w)

-- X.691 11.9.3.3: of items after a count from lb on, as a constrained whole number of lb to ub
abbrev pub IsOfBetween : Settings → ℕ → ℕ → Item → Says
IsOfBetween a lb ub i s k = IsOfConstrained a (ub - lb + 1) s k
    ⊎ ((n : ℕ) × Behind (CountFrom a lb ub n)
    (IsOfBare (nat_lt 0 n && is_aligned (counted_of i) lb ub) a (bits_of i * n)) s k)

-- X.691 11.9.3.3, 11.9.4.1: of items after their count, as a size has it written
abbrev pub IsOfUnder : Settings → Option ℕ → Option ℕ → Item → Says
IsOfUnder a None most i = IsOfUnconstrained a (bits_of i)
IsOfUnder a (Some lb) None i = IsOfUnconstrained a (bits_of i)
IsOfUnder a (Some lb) (Some ub) i = cond (nat_lt ub 65536) (IsOfBetween a lb ub i) (IsOfUnconstrained a (bits_of i))

-- what a kind says of items of as many bits each, under a size
abbrev pub IsOfItems : Settings → Size → Bool → Item → Bits → DecodeErrorKind → Type 0
IsOfItems a size mark i s (SizeConstraintNotSatisfied told) =
    Miscounted a size mark (counted_of i) (coded i) told.size told.lower told.upper s
IsOfItems a size mark i s k = IsOfMarked mark (IsOfUnder a size.least size.most i) (IsOfUnconstrained a (bits_of i)) s k

-- X.691 30.5.4: among codes is one that no character of an alphabet has
pub record HasUnknown (variant : Variant) (alphabet codes : List ℕ) : Type 0 where
  pub front : List ℕ
  pub code : ℕ
  pub rest : List ℕ
  pub joins : codes ≡ front ++ code ∷ rest
  pub none : (c : ℕ) → char_code variant alphabet c ≡ Some code → ⊥

-- X.691 30.5: characters are after a count that their size allows, and one of their codes is that of no character
pub record IsUnpermitted (a : Settings) (alphabet : List ℕ) (size : Size) (mark : Bool) (s : Bits) : Type 0 where
  pub codes : List ℕ
  pub rest : Bits
  pub took : Took (counted_items a size mark (Character (char_width a.variant alphabet)) codes) s rest
  pub unknown : HasUnknown a.variant alphabet codes

-- what a kind says of a known-multiplier string
abbrev pub IsOfString : Settings → List ℕ → Size → Bool → Bits → DecodeErrorKind → Type 0
IsOfString a alphabet size mark s PermittedAlphabet = IsUnpermitted a alphabet size mark s
IsOfString a alphabet size mark s k = IsOfItems a size mark (Character (char_width a.variant alphabet)) s k

-- X.691 30.6: octets after an unconstrained length that are no text of a kind
pub record IsNoText (a : Settings) (kind : TextKind) (s : Bits) : Type 0 where
  pub octets : List ℕ
  pub rest : Bits
  pub took : Took (Octets a octets) s rest
  pub no_text : is_text kind octets ≡ false

-- what a kind says of a text
abbrev pub IsOfText : Settings → TextKind → Bits → DecodeErrorKind → Type 0
IsOfText a kind s StringConversionFailed = IsNoText a kind s
IsOfText a kind s k = IsOfUnconstrained a 8 s k

-- of nothing
abbrev pub IsOfNone : Says
IsOfNone s k = ⊥

-- X.691 11.9.3.3, 11.9.4.1: of the count of a list, where a size has it written as a constrained whole number
abbrev pub IsOfListCount : Settings → Option ℕ → Option ℕ → Says
IsOfListCount a None most = IsOfNone
IsOfListCount a (Some lb) None = IsOfNone
IsOfListCount a (Some lb) (Some ub) = cond (nat_lt ub 65536) (IsOfConstrained a (ub - lb + 1)) IsOfNone

-- X.691 20: of the extension bit of a list and its count
abbrev pub IsOfOpening : Settings → Size → Bool → Says
IsOfOpening a size mark = IsOfMarked mark (IsOfListCount a size.least size.most) IsOfNone

-- a further item is to be read, after as many as can be counted
pub record AreUncounted {X : Type 0} (a : Settings) (size : Size) (mark : Bool) (item : X → Spelling)
    (s : Bits) : Type 0 where
  pub items : List X
  pub rest : Bits
  pub many : 2 ^ 64 ≤ length items + 1
  pub took : Took (UpTo a size mark item items) s rest

-- of a length, after items in whole fragments
abbrev pub IsOfNextLength : {X : Type 0} → Settings → Size → Bool → (X → Spelling) → Says
IsOfNextLength {X} a size mark item s k = (xs : List X) × Behind (LengthUpTo a size mark item xs) (IsOfLength a) s k

-- X.691 20: what a kind says of a list, but for its items: of its count, which the size doesn't allow; or of its
-- opening, of a length after items in whole fragments, or in that there are more items than can be counted
abbrev pub IsOfList : {X : Type 0} → Settings → Size → Bool → (X → Spelling) → Says
IsOfList a size mark item s (SizeConstraintNotSatisfied told) =
    Miscounted a size mark list_items item told.size told.lower told.upper s
IsOfList a size mark item s k = IsOfOpening a size mark s k
    ⊎ (IsOfNextLength a size mark item s k ⊎ ((k ≡ ExceedsMaxLength) × AreUncounted a size mark item s))
