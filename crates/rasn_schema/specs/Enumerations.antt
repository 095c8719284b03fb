-- Items of an ENUMERATED (X.680 20), each by its list, that before the extension marker or that after it, and its place
-- there.
use Rattle.std.specs.Prelude.{ℕ, ◌<◌, ◌≤◌, ◌≡◌, Bool, true, false, ◌||◌, ◌==◌, Option, Some, None, refl}
use Rattle.rasn_types.specs.Values.{Value, item, Side, root, added}
use Rattle.rasn_schema.specs.Schemas.{Schema}
use Rattle.rasn_schema.specs.declared.items.ItemCounts.{ItemCounts}
use Rattle.rasn_schema.specs.declared.items.Place.{Place}
use Rattle.rasn_schema.specs.declared.items.Place.TheVariants.{Root, Added}

-- whether a value is an item that is after the extension marker
abbrev pub is_added : Value → Bool
is_added (item added i) = true
is_added _ = false

-- a value is the item at an index of its list, where so many items are before the extension marker and after it
abbrev pub IsItemAt : (roots addeds : ℕ) → Value → ℕ → Type 0
IsItemAt roots addeds (item root j) i = (i ≡ j) × (i < roots)
IsItemAt roots addeds (item added j) i = (i ≡ j) × (i < addeds)
IsItemAt roots addeds _ i = ⊥

-- what a list of so many items has at an index: from its count on none, and below the one that is the item there
abbrev pub Finds : {T : Type 0} → (T → Value) → (count : ℕ) → Side → ℕ → Option T → Type 0
Finds value count side i None = count ≤ i
Finds value count side i (Some x) = (i < count) × (value x ≡ item side i) × ((y : _) → value y ≡ item side i → y ≡ x)

-- how many items are after an extension marker; without one there are none
abbrev pub addeds_of : Option ℕ → ℕ
addeds_of None = 0
addeds_of (Some n) = n

abbrev pub is_extensible : Option ℕ → Bool
is_extensible None = false
is_extensible (Some n) = true

-- an ENUMERATED of so many items, without an extension marker
abbrev pub all_items : ℕ → ItemCounts
all_items roots = record { roots = roots; addeds = None }

-- an ENUMERATED of so many items before an extension marker and after it
abbrev pub extensible_items : ℕ → ℕ → ItemCounts
extensible_items roots addeds = record { roots = roots; addeds = Some addeds }

-- X.680 20: ENUMERATED of so many items
abbrev pub items_of : ItemCounts → Schema
items_of c = Schema.items c.roots (addeds_of c.addeds) (is_extensible c.addeds)

pub addeds_marked : (addeds : Option ℕ) → (is_extensible addeds || (addeds_of addeds == 0)) ≡ true
addeds_marked None = refl
addeds_marked (Some n) = refl

-- a value is the item at a place
abbrev pub IsPlaced : ItemCounts → Value → Place → Type 0
IsPlaced c v (Root i) = (v ≡ item root i) × (i < c.roots)
IsPlaced c v (Added i) = (v ≡ item added i) × (i < addeds_of c.addeds)

-- what is at a place, if anything does
abbrev pub FindsPlaced : {T : Type 0} → (T → Value) → ItemCounts → Place → Option T → Type 0
FindsPlaced value c (Root i) x = Finds value c.roots root i x
FindsPlaced value c (Added i) x = Finds value (addeds_of c.addeds) added i x
