-- Items of an ENUMERATED, as they are read (X.691 14).
use Rattle.std.specs.Prelude.{◌≡◌, ◌<◌, ◌≤◌, ℕ, Bool, true, false, Option, Some, None}
use Rattle.rasn_types.specs.Bits.{Bits}
use Rattle.rasn_types.specs.Values.{Value, item, Side, root, added}
use Rattle.rasn_types.specs.Variants.{aligned}
use Rattle.rasn_schema.specs.declared.items.Place.{Place}
use Rattle.rasn_schema.specs.declared.items.Place.TheVariants.{Root, Added}
use Rattle.per_core.specs.Basic.{As, Item}
use Rattle.per_core.specs.Spellings.{Settings, Spelling, When}
use Rattle.per_core.specs.NumberFaults.{IsOfConstrained}
use Rattle.per_read.specs.SmallNumbers.{IsOfSmall}
use Rattle.per_core.specs.declared.decode_error.DecodeErrorKind.{DecodeErrorKind}
use Rattle.per_core.specs.declared.decode_error.DecodeErrorKind.TheVariants.{EnumerationIndexNotFound, IntegerOverflow}

-- X.691 14: an item of an ENUMERATED, as a value
abbrev pub item_form : Settings → (roots addeds : ℕ) → (extensible : Bool) → Value → Spelling
item_form a r e ext = As (λ (x : Side × ℕ). item x.0 x.1) (λ x. Item a r e ext x.0 x.1)

-- the list before the extension marker, or that after it
abbrev pub side_of : Bool → Side
side_of false = root
side_of true = added

-- what a kind says of a place in a list of so many items
abbrev pub IsOfPlace : Settings → (count : ℕ) → Bool → Bits → DecodeErrorKind → Type 0
IsOfPlace a n false s k = IsOfConstrained a n s k
IsOfPlace a n true s k = IsOfSmall a s k

-- the item at a place
abbrev pub placed_item : Place → Value
placed_item (Root i) = item root i
placed_item (Added i) = item added i

-- an item is at a place that was read
pub record IsThere {E : Type 0} (value : E → Value) (count : ℕ) (extended : Bool) (place : Option ℕ)
    (x : E) : Type 0 where
  pub index : ℕ
  pub is_place : place ≡ Some index
  pub below : index < count
  pub is : value x ≡ item (side_of extended) index

-- none is there, or the place is past 64 bits, and a kind that says so
abbrev pub IsMissing : (count : ℕ) → (extended : Bool) → Option ℕ → DecodeErrorKind → Type 0
IsMissing count extended place (EnumerationIndexNotFound i b) = (place ≡ Some i) × (b ≡ extended) × (count ≤ i)
IsMissing count extended place (IntegerOverflow width) = (place ≡ None) × (width ≡ 64)
IsMissing count extended place k = ⊥

-- X.691 14.2, 23.6: an item or an alternative before the extension marker, where one field has its place
abbrev pub root_in_field : Settings → (roots addeds : ℕ) → (extensible : Bool) → ℕ → Spelling
root_in_field a r e ext i = When (a.variant ≡ aligned → r ≤ 65536) (Item a r e ext root i)
