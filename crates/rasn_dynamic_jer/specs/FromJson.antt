-- The value that JSON tells by a table of types (ITU-T X.697). It is a value of the grammar.
use Rattle.std.specs.Prelude.{◌≡◌, ◌⊎◌, ℕ, zero, suc, ◌^◌, Bool, ◌==◌, ◌&&◌, ◌||◌, if◌then◌else◌, nat_lt, List, [], ◌∷◌}
use Rattle.std.specs.Prelude.{length, take, Option, Some, None, option_map, option_and_then, string_bytes, codes, map}
use Rattle.std.specs.Prelude.{Result, MatchResult, IsSomeAnd, is_some, position}
use Rattle.std.specs.Result.{result_ok}
use Rattle.std.specs.Char.{is_digit}
use Rattle.std.specs.Global.{Vec}
use Rattle.std.specs.Int.{div_ceil}
use Rattle.std.specs.List.{list_all, list_any}
use Rattle.std.specs.Str.{IsUtf8, bytes_eq, chars}
use Rattle.std.specs.Str.Parse.{digits_value, signed_digits_value, without_leading_plus, without_leading_sign}
use Rattle.rasn_types.specs.AllOf.{all_of}
use Rattle.rasn_types.specs.Alphabets.{bmp, has_all}
use Rattle.rasn_types.specs.Bits.{unpack}
use Rattle.rasn_types.specs.Contents.{generalized, is_time, TimeKind, utc}
use Rattle.rasn_types.specs.Integers.{is_i128}
use Rattle.rasn_types.specs.Values.{Value, alternative, bag_of, bits, characters, nothing, octets, truth, whole}
use Rattle.rasn_schema.specs.Structures.{list_value, record_value}
use Rattle.rasn_schema.specs.declared.items.Place.{Place}
use Rattle.rasn_schema.specs.declared.items.Place.TheVariants.{Root, Added}
use Rattle.rasn_traits.specs.Counted.{index_in, item_at, side_of}
use Rattle.rasn_dynamic.specs.Types.{behind, row_at, standing, tree_value}
use Rattle.rasn_dynamic.specs.Values.{slot_of, value_of}
use Rattle.rasn_dynamic.specs.declared.types.Alternative.{Alternative}
use Rattle.rasn_dynamic.specs.declared.types.Choice.{Choice}
use Rattle.rasn_dynamic.specs.declared.types.Component.{Component}
use Rattle.rasn_dynamic.specs.declared.types.Items.{Items}
use Rattle.rasn_dynamic.specs.declared.types.Kind.{Kind}
use Rattle.rasn_dynamic.specs.declared.types.Kind.TheVariants.{Simple as SimpleKind, Date, List as ListKind, SetOf}
use Rattle.rasn_dynamic.specs.declared.types.Kind.TheVariants.{Record as RecordKind, Choice as ChoiceKind}
use Rattle.rasn_dynamic.specs.declared.types.Kind.TheVariants.{Open as OpenKind}
use Rattle.rasn_dynamic.specs.declared.types.ObjectSet.{ObjectSet}
use Rattle.rasn_dynamic.specs.declared.types.Presence.{Presence}
use Rattle.rasn_dynamic.specs.declared.types.Presence.TheVariants.{Required, Optional, Group, Default}
use Rattle.rasn_dynamic.specs.declared.types.Record.{Record}
use Rattle.rasn_dynamic.specs.declared.types.Row.{Row}
use Rattle.rasn_dynamic.specs.declared.types.Simple.{Simple}
use Rattle.rasn_dynamic.specs.declared.types.Simple.TheVariants as Simples
use Rattle.rasn_dynamic.specs.declared.values.Value.{Value as Tree}
use Rattle.hex.specs.Hex.{decode_of}
use Rattle.json.specs.Find.{as_array, as_bool, as_number, as_object, as_str, get, is_null}
use Rattle.json.specs.Json.{Json, Items as JsonItems, no_items, item, Members, no_members, member, document, max_depth}
use Rattle.json.specs.Strict.{HasUniqueKeys, keys}
use Rattle.json.specs.Value.{value_view}
use Rattle.json.specs.declared.value.Value.{Value as JsonTree}
use Rattle.rasn_dynamic_jer.specs.Days.{date_told}
use Rattle.rasn_dynamic_jer.specs.Identifiers.{identifier_told}
use Rattle.rasn_dynamic_jer.specs.Leaves.{fixed_by}
use Rattle.rasn_dynamic_jer.specs.Shown.{group_in, kind_within}
use Rattle.rasn_dynamic_jer.specs.declared.from_json_error.FromJsonError.{FromJsonError}
use Rattle.rasn_dynamic_jer.specs.declared.from_json_error.FromJsonError.TheVariants.{OutOfMemory, NotJson}
use Rattle.rasn_dynamic_jer.specs.declared.from_json_error.FromJsonError.TheVariants.{DuplicateMember}

-- decimal digits, one or more
abbrev pub are_digits : List ℕ → Bool
are_digits ds = nat_lt 0 (length ds) && list_all (λ c. is_digit c 10) ds

-- X.697: INTEGER: a number without a fraction and an exponent; one past an i128 is none (this project's choice)
abbrev pub whole_told : List ℕ → Option Value
whole_told s =
    if are_digits (without_leading_sign s) && is_i128 (signed_digits_value 10 s)
    then Some (whole (signed_digits_value 10 s)) else None

-- a count by its decimal digits, where it is below 2^64
abbrev pub count_told : List ℕ → Option ℕ
count_told s =
    if are_digits (without_leading_plus s) && nat_lt (digits_value 10 (without_leading_plus s)) (2 ^ 64)
    then Some (digits_value 10 (without_leading_plus s)) else None

-- octets by their hexadecimal digits, in either case
abbrev pub octets_in : List ℕ → Option (List ℕ)
octets_in s = result_ok (decode_of s)

-- so many bits of the octets that hold them, which are as many as it takes
abbrev pub bits_of : ℕ → List ℕ → Option Value
bits_of n os = if length os == div_ceil n 8 then Some (bits (take n (unpack os))) else None

-- so many bits by the hexadecimal digits of their octets
abbrev pub bits_in : ℕ → List ℕ → Option Value
bits_in n s = option_and_then (bits_of n) (octets_in s)

-- bits whose number is told beside
abbrev pub both_told : Option (List ℕ) → Option ℕ → Option Value
both_told None n = None
both_told (Some s) None = None
both_told (Some s) (Some n) = bits_in n s

-- how many members an object has
abbrev pub member_count : Option Members → ℕ
member_count None = 0
member_count (Some ms) = length (keys ms)

-- the digits and the number in the two members of an object
abbrev pub digits_member : Json → Option (List ℕ)
digits_member j = option_and_then as_str (get (codes "value") j)

abbrev pub length_member : Json → Option ℕ
length_member j = option_and_then count_told (option_and_then as_number (get (codes "length") j))

-- X.697: bits by an object with just their digits and their number, in any order
abbrev pub counted_told : Json → Option Value
counted_told j = if member_count (as_object j) == 2 then both_told (digits_member j) (length_member j) else None

-- X.697: bits by their digits alone, where the size fixes how many there are
abbrev pub fixed_told : Option ℕ → List ℕ → Option Value
fixed_told None s = None
fixed_told (Some n) s = bits_in n s

-- X.697: BIT STRING: by a string, or by an object
abbrev pub bits_told : Option ℕ → Option (List ℕ) → Json → Option Value
bits_told fixed None j = counted_told j
bits_told fixed (Some s) j = fixed_told fixed s

-- X.697: NULL
abbrev pub null_told : Json → Option Value
null_told j = if is_null j then Some nothing else None

-- a place before the extension marker, or else after it
abbrev pub place_among : Option ℕ → Option ℕ → Option Place
place_among (Some i) k = Some (Root i)
place_among None k = option_map Added k

-- where the first item with a name stands
abbrev pub item_place : Items → List ℕ → Option Place
item_place i s = place_among (position (λ n. bytes_eq (string_bytes n) s) i.roots.items)
    (position (λ n. bytes_eq (string_bytes n) s) (behind i.addeds))

-- X.697: characters, each of which is one of BMPString
abbrev pub characters_told : List ℕ → Option Value
characters_told s = if has_all bmp (chars s) then Some (characters (chars s)) else None

-- X.697: a UTCTime or a GeneralizedTime: characters that are its canonical text (X.690 11.7 and 11.8)
abbrev pub time_told : TimeKind → List ℕ → Option Value
time_told kind s = if is_time kind (chars s) then characters_told s else None

-- the octets that are the numbers of characters
abbrev pub latin_told : List ℕ → Option Value
latin_told s = if list_all (λ c. nat_lt c 256) (chars s) then Some (octets (chars s)) else None

-- X.697: a value of a type in which no other is
abbrev pub simple_told : Simple → Json → Option Value
simple_told Simples.Boolean j = option_map truth (as_bool j)
simple_told Simples.Null j = null_told j
simple_told (Simples.Integer c) j = option_and_then whole_told (as_number j)
simple_told (Simples.Enumerated i) j = option_map item_at (option_and_then (item_place i) (as_str j))
simple_told (Simples.OctetString c) j = option_map octets (option_and_then octets_in (as_str j))
simple_told (Simples.BitString c) j = bits_told (fixed_by c) (as_str j) j
simple_told (Simples.NamedBits c) j = bits_told (fixed_by c) (as_str j) j
simple_told (Simples.Characters c) j = option_and_then characters_told (as_str j)
simple_told Simples.Utf8 j = option_map octets (as_str j)
simple_told Simples.Text j = option_and_then latin_told (as_str j)
simple_told Simples.ObjectIdentifier j = option_and_then identifier_told (as_str j)
simple_told Simples.UtcTime j = option_and_then (time_told utc) (as_str j)
simple_told Simples.GeneralizedTime j = option_and_then (time_told generalized) (as_str j)
simple_told Simples.Open j = option_map octets (option_and_then octets_in (as_str j))

-- a component that no member tells: absent, or its default (X.680 25.9)
abbrev pub absent_told : Presence → Option (Option Value)
absent_told Required = None
absent_told Optional = Some None
absent_told Group = Some None
absent_told (Default d) = Some (Some (tree_value d))

-- a component, by the member that may tell it
abbrev pub slot_told : (ℕ → Json → Option Value) → Component → Option Json → Option (Option Value)
slot_told f c None = absent_told c.presence
slot_told f c (Some j) = option_map Some (f c.of j)

-- the member with a component's name
abbrev pub own_member : Json → Component → Option Json
own_member j c = get (string_bytes c.name) j

-- a component, by the object of its record
abbrev pub component_told : (ℕ → Json → Option Value) → Json → Component → Option (Option Value)
component_told f j c = slot_told f c (own_member j c)

-- components, by the object of their record
abbrev pub components_told : (ℕ → Json → Option Value) → Json → List Component → Option (List (Option Value))
components_told f j cs = all_of (component_told f j) cs

-- whether one of some components has a member
abbrev pub has_member : Json → List Component → Bool
has_member j cs = list_any (λ c. is_some (own_member j c)) cs

-- X.697: a group, by the object of the record that it is an addition of: it is there where one of its components has a
-- member
abbrev pub group_told : (ℕ → Json → Option Value) → Json → Record → Option (Option Value)
group_told f j g =
    if has_member j g.root.items then option_map (λ ss. Some (record_value ss [])) (components_told f j g.root.items)
    else Some None

-- an addition, by the object of its record
abbrev pub addition_told : (ℕ → Json → Option Value) → Json → Option Record → Component → Option (Option Value)
addition_told f j None c = component_told f j c
addition_told f j (Some g) c = group_told f j g

-- additions, by the object of their record
abbrev pub additions_told : List Kind → (ℕ → Json → Option Value) → Json → List Component → Option (List (Option Value))
additions_told ts f j cs = all_of (λ c. addition_told f j (group_in ts c) c) cs

-- whether a name is one of some components
abbrev pub is_component : List Component → List ℕ → Bool
is_component cs s = list_any (λ c. bytes_eq (string_bytes c.name) s) cs

-- whether it is an addition's: of a group, one of its components
abbrev pub is_addition : Option Record → Component → List ℕ → Bool
is_addition None c s = bytes_eq (string_bytes c.name) s
is_addition (Some g) c s = is_component g.root.items s

-- whether it is a member's of a record
abbrev pub is_member : List Kind → Record → List ℕ → Bool
is_member ts r s =
    is_component r.root.items s || list_any (λ c. is_addition (group_in ts c) c s) (behind r.additions)

-- root components and additions, where both are there
abbrev pub fields_told : Option (List (Option Value)) → Option (List (Option Value)) → Option Value
fields_told None ws = None
fields_told (Some vs) None = None
fields_told (Some vs) (Some ws) = Some (record_value vs ws)

-- X.697: a record, by the members of an object, of which each has a name of the type's
abbrev pub members_told : List Kind → (ℕ → Json → Option Value) → Record → Json → Members → Option Value
members_told ts f r j ms =
    if list_all (is_member ts r) (keys ms)
    then fields_told (components_told f j r.root.items) (additions_told ts f j (behind r.additions)) else None

abbrev pub record_told : List Kind → (ℕ → Json → Option Value) → Record → Json → Option Value
record_told ts f r j = option_and_then (members_told ts f r j) (as_object j)

-- where the first alternative with a name stands
abbrev pub alternative_place : Choice → List ℕ → Option Place
alternative_place c s = place_among (position (λ a. bytes_eq (string_bytes a.name) s) c.roots.items)
    (position (λ a. bytes_eq (string_bytes a.name) s) (behind c.addeds))

-- the value of an alternative, by its place
abbrev pub chosen_told : (ℕ → Json → Option Value) → Place → Option Alternative → Json → Option Value
chosen_told f p None j = None
chosen_told f p (Some a) j = option_map (alternative (side_of p) (index_in p)) (f a.of j)

-- the alternative at a place
abbrev pub alternative_told : (ℕ → Json → Option Value) → Choice → Option Place → Json → Option Value
alternative_told f c None j = None
alternative_told f c (Some p) j = chosen_told f p (standing c p) j

-- X.697: a choice, by the only member of an object, which has the name of an alternative
abbrev pub one_told : (ℕ → Json → Option Value) → Choice → Members → Option Value
one_told f c (member s j no_members) = alternative_told f c (alternative_place c s) j
one_told f c ms = None

abbrev pub choice_told : (ℕ → Json → Option Value) → Choice → Json → Option Value
choice_told f c j = option_and_then (one_told f c) (as_object j)

-- an open type by the value of a row's type
abbrev pub read_told : (ℕ → Json → Option Value) → Place → Option Row → Json → Option Value
read_told f p None j = None
read_told f p (Some r) j = option_map (alternative (side_of p) (index_in p)) (f r.of j)

-- by the index of the first row with a name
abbrev pub row_place : ObjectSet → List ℕ → Option Place
row_place s n = option_map Root (position (λ r. bytes_eq (string_bytes r.name) n) s.rows.items)

abbrev pub row_told : (ℕ → Json → Option Value) → ObjectSet → Option Place → Json → Option Value
row_told f s None j = None
row_told f s (Some p) j = read_told f p (row_at s p) j

-- by the only member of an object, which has the name of a row's type
abbrev pub one_row_told : (ℕ → Json → Option Value) → ObjectSet → Members → Option Value
one_row_told f s (member n j no_members) = row_told f s (row_place s n) j
one_row_told f s ms = None

-- an open type: by the hexadecimal digits of its octets, or by an object (this project's choice)
abbrev pub open_told : (ℕ → Json → Option Value) → ObjectSet → Option (List ℕ) → Json → Option Value
open_told f s None j = option_and_then (one_row_told f s) (as_object j)
open_told f s (Some d) j = option_map octets (octets_in d)

-- the items of an array as a list
abbrev pub items_list : JsonItems → List Json
items_list no_items = []
items_list (item j js) = j ∷ items_list js

-- X.697: values, by the items of an array
abbrev pub items_told : (Json → Option Value) → JsonItems → Option (List Value)
items_told f js = all_of f (items_list js)

abbrev pub values_told : (Json → Option Value) → Json → Option (List Value)
values_told f j = option_and_then (items_told f) (as_array j)

-- a type in which others may be, by what JSON tells at their places
abbrev pub told_in : List Kind → (ℕ → Json → Option Value) → Option Kind → Json → Option Value
told_in ts f (Some (SimpleKind s)) j = simple_told s j
told_in ts f (Some Date) j = option_and_then date_told (as_str j)
told_in ts f (Some (ListKind i c)) j = option_map list_value (values_told (f i) j)
told_in ts f (Some (SetOf i c)) j = option_map bag_of (values_told (f i) j)
told_in ts f (Some (RecordKind r)) j = record_told ts f r j
told_in ts f (Some (ChoiceKind c)) j = choice_told f c j
told_in ts f (Some (OpenKind s)) j = open_told f s (as_str j) j
told_in ts f k j = None

-- a type in which no other is: DATE too; an open type by its octets
abbrev pub told_alone : Option Kind → Json → Option Value
told_alone (Some (SimpleKind s)) j = simple_told s j
told_alone (Some Date) j = option_and_then date_told (as_str j)
told_alone (Some (OpenKind s)) j = simple_told Simples.Open j
told_alone k j = None

-- by what a type is, within so many levels of arrays and objects
unfoldable pub told_by : List Kind → ℕ → Option Kind → Json → Option Value
told_by ts zero k j = told_alone k j
told_by ts (suc n) k j = told_in ts (λ i j. told_by ts n (kind_within ts i) j) k j

-- by the type at a place, within so many levels of arrays and objects
abbrev pub told_at : List Kind → ℕ → ℕ → Json → Option Value
told_at ts n i j = told_by ts n (kind_within ts i) j

-- memory ran out, or there is none
abbrev pub IsUntold : {A : Type 0} → Option A → FromJsonError → Type 0
IsUntold o e = (e ≡ OutOfMemory) ⊎ (o ≡ None)

-- what stands for a component is read, or refused
abbrev pub TellsSlot : Option (Option Value) → Result Tree FromJsonError → Type 0
TellsSlot o r = MatchResult r (λ x. o ≡ Some (slot_of x)) (IsUntold o)

-- a value, which is there, is read, or refused
abbrev pub TellsValue : Option Value → Result Tree FromJsonError → Type 0
TellsValue o r = MatchResult r (λ x. option_map Some o ≡ Some (slot_of x)) (IsUntold o)

-- the values of a list are read, or refused
abbrev pub TellsValues : Option (List Value) → Result (Vec Tree) FromJsonError → Type 0
TellsValues o r = MatchResult r (λ xs. o ≡ Some (map value_of xs.items)) (IsUntold o)

-- what stands for components is read, or refused
abbrev pub TellsSlots : Option (List (Option Value)) → Result (Vec Tree) FromJsonError → Type 0
TellsSlots o r = MatchResult r (λ xs. o ≡ Some (map slot_of xs.items)) (IsUntold o)

-- a text is JSON in which no object has a member twice
pub record IsJson (text : List ℕ) (json : Json) : Type 0 where
  pub read : document text ≡ Some json
  pub unique : HasUniqueKeys json

-- memory ran out, or a text is no JSON, or has a member twice in one object
pub data IsNoJson (text : List ℕ) (e : FromJsonError) : Type 0 where
  no_memory : e ≡ OutOfMemory → IsNoJson text e
  no_utf8 : e ≡ NotJson → ¬ IsUtf8 text → IsNoJson text e
  no_json : e ≡ NotJson → document text ≡ None → IsNoJson text e
  twice : e ≡ DuplicateMember → IsSomeAnd (document text) (λ j. ¬ HasUniqueKeys j) → IsNoJson text e

-- a text is read as JSON, or refused
abbrev pub Parses : {A : Type 0} → List ℕ → Result (JsonTree A) FromJsonError → Type 0
Parses text r = MatchResult r (λ v. IsJson text (value_view v)) (IsNoJson text)

-- a text is JSON that tells a value, which is there
pub record IsTextOf (ts : List Kind) (i : ℕ) (text : List ℕ) (x : Tree) : Type 0 where
  pub json : Json
  pub is_json : IsJson text json
  pub told : told_at ts max_depth i json ≡ Some (value_of x)
  pub there : slot_of x ≡ Some (value_of x)

-- memory ran out, or a text is no JSON, has a member twice in one object, or tells no value
pub data IsNoText (ts : List Kind) (i : ℕ) (text : List ℕ) (e : FromJsonError) : Type 0 where
  unread : IsNoJson text e → IsNoText ts i text e
  no_room : e ≡ OutOfMemory → IsNoText ts i text e
  untold : (json : Json) → IsJson text json → told_at ts max_depth i json ≡ None → IsNoText ts i text e
