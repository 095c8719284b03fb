-- What a refusal says of an item of an ENUMERATED, or of the index of a CHOICE (ITU-T X.691, 14 and 23).
use Rattle.std.specs.Prelude.{◌≡◌, ◌≤◌, ◌^◌, ℕ, Bool, true, false}
use Rattle.rasn_types.specs.Bits.{Bits}
use Rattle.rasn_types.specs.Values.{Side}
use Rattle.per_core.specs.Basic.{ExtensionBit, constrained_form, Item}
use Rattle.per_core.specs.Spellings.{Settings, Spelling, Then, Took}
use Rattle.per_core.specs.BitFieldFaults.{IsOfBitField, IsOfMarked, IsOfUnconstrained, Says}
use Rattle.per_core.specs.NumberFaults.{IsOfConstrained, empty_form, small_form}
use Rattle.per_core.specs.declared.decode_error.DecodeErrorKind.{DecodeErrorKind}
use Rattle.per_core.specs.declared.decode_error.DecodeErrorKind.TheVariants.{EnumerationIndexNotFound, IntegerOverflow}
use Rattle.per_core.specs.declared.decode_error.DecodeErrorKind.TheVariants.{UnexpectedEmptyInput}
use Rattle.per_core.specs.declared.decode_error.DecodeErrorKind.TheVariants.{ChoiceIndexExceedsPlatformWidth}
use Rattle.per_core.specs.declared.decode_error.DecodeErrorKind.TheVariants.{ChoiceIndexNotFound}

-- how many items are there
abbrev pub count_of : (roots addeds : ℕ) → Bool → ℕ
count_of r e false = r
count_of r e true = e

-- X.691 14.2, 14.3: a place in a list of so many items, whether one is there or not
abbrev pub place_form : Settings → (count : ℕ) → Bool → ℕ → Spelling
place_form a n false i = constrained_form a n i
place_form a n true i = small_form a i

-- a place in a list is read, after the extension bit
pub record IsPlace (a : Settings) (count : ℕ) (extensible : Bool) (extended : Bool) (i : ℕ) (s : Bits) : Type 0 where
  pub rest : Bits
  pub took : Took (Then (ExtensionBit extensible extended) (place_form a count extended i)) s rest

-- X.691 14.3, 19.1, 23.5: of an extension bit
abbrev pub IsOfExtension : Bool → Says
IsOfExtension true s k = IsOfBitField 1 s k
IsOfExtension false s k = ⊥

-- X.691 14, 23.5 to 23.8: of an extension bit, and of the place after it in the list that it tells
abbrev pub IsOfPlaces : Settings → (roots : ℕ) → (extensible : Bool) → Says
IsOfPlaces a r ext = IsOfMarked ext (IsOfConstrained a r) (IsOfMarked true (IsOfBitField 6) (IsOfUnconstrained a 8))

-- what a kind says of an item: at a place that is read no item stands, a place is past 64 bits, or a large form has no
-- octets
abbrev pub IsOfItem : Settings → (roots addeds : ℕ) → (extensible : Bool) → Bits → DecodeErrorKind → Type 0
IsOfItem a r e ext s (EnumerationIndexNotFound i extended) =
    (count_of r e extended ≤ i) × IsPlace a (count_of r e extended) ext extended i s
IsOfItem a r e ext s (IntegerOverflow width) =
    (width ≡ 64) × ((extended : Bool) × (i : ℕ) × (2 ^ 64 ≤ i) × IsPlace a (count_of r e extended) ext extended i s)
IsOfItem a r e ext s UnexpectedEmptyInput = (t : Bits) × Took (Then (ExtensionBit ext true) (empty_form a)) s t
IsOfItem a r e ext s k = IsOfPlaces a r ext s k

-- X.691 23.5 to 23.8: the extension bit of a choice and an index in the list that it tells are written as those of an
-- ENUMERATED of as many items, one that is known
abbrev pub index_form : Settings → (roots addeds : ℕ) → (extensible : Bool) → Side × ℕ → Spelling
index_form a r e ext x = Item a r e ext x.0 x.1

-- what a kind says of the index of a choice: in its list none is there, it is past 64 bits, or a large form has no
-- octets
abbrev pub IsOfIndex : Settings → (roots addeds : ℕ) → (extensible : Bool) → Bits → DecodeErrorKind → Type 0
IsOfIndex a r e ext s (ChoiceIndexNotFound i) =
    (extended : Bool) × (count_of r e extended ≤ i) × IsPlace a (count_of r e extended) ext extended i s
IsOfIndex a r e ext s ChoiceIndexExceedsPlatformWidth =
    (extended : Bool) × (i : ℕ) × (2 ^ 64 ≤ i) × IsPlace a (count_of r e extended) ext extended i s
IsOfIndex a r e ext s UnexpectedEmptyInput = (t : Bits) × Took (Then (ExtensionBit ext true) (empty_form a)) s t
IsOfIndex a r e ext s k = IsOfPlaces a r ext s k
