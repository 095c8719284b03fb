-- The values of the grammar that run-time values are.
use Rattle.std.specs.Prelude.{◌≡◌, ℕ, suc, max, Bool, true, false, List, [], ◌∷◌, map, Option, Some, None}
use Rattle.rasn_types.specs.Contents.{TextKind, TimeKind}
use Rattle.rasn_types.specs.Values
use Rattle.rasn_types.specs.Values.{truth, nothing, whole, octets, bits, characters, bag_of, alternative}
use Rattle.rasn_constraints.specs.Bounds.{Bounds, Size}
use Rattle.rasn_schema.specs.Structures.{no_value, list_value, record_value, is_of_kind}
use Rattle.rasn_schema.specs.Lists.{deepest}
use Rattle.rasn_schema.specs.Schemas
use Rattle.rasn_schema.specs.Schemas.{Schema, Parts}
use Rattle.rasn_strings.specs.Values.{date_value}
use Rattle.rasn_traits.specs.Counted.{index_in, item_at, side_of}
use Rattle.rasn_dynamic.specs.declared.values.Value.{Value}
use Rattle.rasn_dynamic.specs.declared.values.Value.TheOpen.{Value-F, Absent, Boolean, Null, Integer, Item, Octets}
use Rattle.rasn_dynamic.specs.declared.values.Value.TheOpen.{Bits, Characters, Date, Elements, Bag, Fields, Alternative}
use Rattle.rasn_dynamic.specs.declared.values.Value.TheFolds.{fold-Value}

-- what stands for an absent value where one is asked for
abbrev pub there : Option Values.Value → Values.Value
there None = no_value
there (Some v) = v

-- one level of a value, which has what its parts are in their place: each absent or there
abbrev pub slot_step : Value-F (Option Values.Value) → Option Values.Value
slot_step Absent = None
slot_step (Boolean b) = Some (truth b)
slot_step Null = Some nothing
slot_step (Integer z) = Some (whole z)
slot_step (Item p) = Some (item_at p)
slot_step (Octets os) = Some (octets os)
slot_step (Bits bs) = Some (bits bs)
slot_step (Characters cs) = Some (characters cs)
slot_step (Date d) = Some (date_value d)
slot_step (Elements v) = Some (list_value (map there v.items))
slot_step (Bag v) = Some (bag_of (map there v.items))
slot_step (Fields v w) = Some (record_value v.items w.items)
slot_step (Alternative p v) = Some (alternative (side_of p) (index_in p) (there v.value))

-- what a value is: absent or there
abbrev pub slot_of : Value → Option Values.Value
slot_of = fold-Value (Option Values.Value) slot_step

-- the value that it is
abbrev pub value_of : Value → Values.Value
value_of v = there (slot_of v)

-- one level of a value, which has how many levels its parts take in their place
abbrev pub levels_step : Value-F ℕ → ℕ
levels_step (Date d) = 2
levels_step (Elements v) = suc (deepest (λ n. n) v.items)
levels_step (Bag v) = suc (deepest (λ n. n) v.items)
levels_step (Fields v w) = suc (max (deepest (λ n. n) v.items) (deepest (λ n. n) w.items))
levels_step (Alternative p v) = suc v.value
levels_step _ = 0

-- how many levels a value takes
abbrev pub levels_of : Value → ℕ
levels_of = fold-Value ℕ levels_step

-- values that are of no type of a kind
abbrev pub NotTruth : Values.Value → Type 0
NotTruth v = is_of_kind Schemas.boolean v ≡ false

abbrev pub NotNull : Values.Value → Type 0
NotNull v = is_of_kind Schemas.null v ≡ false

abbrev pub NotWhole : Values.Value → Type 0
NotWhole v = (b r : Bounds) (mark : Bool) → is_of_kind (Schemas.number b mark r) v ≡ false

abbrev pub NotItem : Values.Value → Type 0
NotItem v = (r a : ℕ) (mark : Bool) → is_of_kind (Schemas.items r a mark) v ≡ false

abbrev pub NotBits : Values.Value → Type 0
NotBits v = (size : Size) (mark named : Bool) → is_of_kind (Schemas.bit_string size mark named) v ≡ false

-- values that aren't octets
pub record NotOctets (v : Values.Value) : Type 0 where
  pub no_octets : (size : Size) (mark : Bool) → is_of_kind (Schemas.octet_string size mark) v ≡ false
  pub no_open : is_of_kind Schemas.any v ≡ false
  pub no_text : (kind : TextKind) → is_of_kind (Schemas.text kind) v ≡ false
  pub no_identifier : is_of_kind Schemas.identifier v ≡ false

-- values that aren't characters
pub record NotCharacters (v : Values.Value) : Type 0 where
  pub no_string : (own : List ℕ) (size : Size) (mark : Bool) → is_of_kind (Schemas.char_string own size mark) v ≡ false
  pub no_time : (kind : TimeKind) → is_of_kind (Schemas.time kind) v ≡ false

abbrev pub NotDate : Values.Value → Type 0
NotDate v = is_of_kind Schemas.date v ≡ false

abbrev pub NotElements : Values.Value → Type 0
NotElements v = (s : Schema) (size : Size) (mark : Bool) → is_of_kind (Schemas.list s size mark) v ≡ false

abbrev pub NotBag : Values.Value → Type 0
NotBag v = (s : Schema) (size : Size) (mark : Bool) → is_of_kind (Schemas.set_of s size mark) v ≡ false

abbrev pub NotFields : Values.Value → Type 0
NotFields v = (o : Schemas.Order) (ps qs : Parts) (mark : Bool) → is_of_kind (Schemas.sequence o ps mark qs) v ≡ false

abbrev pub NotAlternative : Values.Value → Type 0
NotAlternative v = (ps qs : Parts) (mark : Bool) → is_of_kind (Schemas.choice ps qs mark) v ≡ false
