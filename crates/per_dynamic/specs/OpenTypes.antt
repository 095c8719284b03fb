-- The open types of a value by their object sets (ITU-T X.681, 14; X.682, 10): their octets read as values, and
-- written.
use Rattle.std.specs.Prelude.{◌≡◌, ◌≢◌, ℕ, zero, suc, Bool, true, false, if◌then◌else◌, List, [], ◌∷◌, ◌++◌, length}
use Rattle.std.specs.Prelude.{Option, Some, None, is_some, nat_eq, option_map, position, slice_get, string_bytes}
use Rattle.std.specs.Global.{Box, Vec}
use Rattle.std.specs.Option.{option_and_then, option_eq}
use Rattle.std.specs.Str.{bytes_eq}
use Rattle.rasn_types.specs.Variants.{variant_of}
use Rattle.rasn_types.specs.Values.{same}
use Rattle.rasn_schema.specs.Normal.{normal}
use Rattle.rasn_schema.specs.declared.items.Place.{Place}
use Rattle.rasn_schema.specs.declared.items.Place.TheVariants.{Root}
use Rattle.rasn_dynamic.specs.Types.{behind, default_value, schema_at, standing, within}
use Rattle.rasn_dynamic.specs.Values.{levels_of, value_of}
use Rattle.rasn_dynamic.specs.declared.types.Alternative.{Alternative as ChoiceAlternative}
use Rattle.rasn_dynamic.specs.declared.types.Choice.{Choice}
use Rattle.rasn_dynamic.specs.declared.types.Component.{Component}
use Rattle.rasn_dynamic.specs.declared.types.Kind.{Kind}
use Rattle.rasn_dynamic.specs.declared.types.Kind.TheVariants.{List as ListKind, SetOf, Record as RecordKind}
use Rattle.rasn_dynamic.specs.declared.types.Kind.TheVariants.{Choice as ChoiceKind, Open}
use Rattle.rasn_dynamic.specs.declared.types.ObjectSet.{ObjectSet}
use Rattle.rasn_dynamic.specs.declared.types.Record.{Record}
use Rattle.rasn_dynamic.specs.declared.types.Row.{Row}
use Rattle.rasn_dynamic.specs.declared.values.Value.{Value}
use Rattle.rasn_dynamic.specs.declared.values.Value.TheVariants.{Alternative, Bag, Elements, Fields, Octets}
use Rattle.per_core.specs.declared.encode_error.EncodeErrorKind.{EncodeErrorKind}
use Rattle.per_core.specs.declared.encode_error.EncodeErrorKind.TheVariants.{OutOfMemory as no_room_to_write}
use Rattle.rasn_per.specs.Calls.{AreBytes, AreReadAs, AreUnread, HasNoBytes}
use Rattle.per_dynamic.specs.declared.open_types.OpenTypeError.{OpenTypeError}
use Rattle.per_dynamic.specs.declared.open_types.OpenTypeError.TheVariants.{Encode, OtherType, OutOfMemory}
use Rattle.per_dynamic.specs.declared.open_types.Way.{Way}

-- whether a component, of the type at a place, has the value of a row
abbrev pub has_value : List Kind → ℕ → Value → Row → Bool
has_value ts i x r = same (normal (schema_at ts i 0) (value_of x)) (default_value r.value)

-- the index of the first row with the name of one, where both are of one type
abbrev pub of_one_type : List Row → Row → Option ℕ → Option ℕ
of_one_type rs r None = None
of_one_type rs r (Some k) =
    if option_eq nat_eq (option_map (λ q. q.of) (slice_get rs k)) (Some r.of) then Some k else None

abbrev pub first_named : List Row → Row → Option ℕ
first_named rs r = of_one_type rs r (position (λ q. bytes_eq (string_bytes q.name) (string_bytes r.name)) rs)

-- the index of the row that a component's value tells, by the name of the row's type
abbrev pub row_told : List Kind → List Row → ℕ → Value → Option ℕ
row_told ts rs i x =
    option_and_then (first_named rs) (option_and_then (slice_get rs) (position (has_value ts i x) rs))

-- the same, by a record's root components and their values
abbrev pub told_by : List Kind → ObjectSet → Option Component → Option Value → Option ℕ
told_by ts s None x = None
told_by ts s (Some c) None = None
told_by ts s (Some c) (Some x) = row_told ts s.rows.items c.of x

abbrev pub told_in : List Kind → List Component → List Value → ObjectSet → Option ℕ
told_in ts cs xs s = told_by ts s (slice_get cs s.chooser) (slice_get xs s.chooser)

-- each element of a list and the one at its place in another, by their place
pub data Each {A : Type 0} {B : Type 0} (r : ℕ → A → B → Type 0) : List A → List B → Type 0 where
  none : Each r [] []
  more : {xs : List A} {ys : List B} {x : A} {y : B} → Each r xs ys → r (length xs) x y
      → Each r (xs ++ x ∷ []) (ys ++ y ∷ [])

-- octets are read as a value of a row's type, in which open types are taken; or they are no encoding of one
pub data IsRowValue (way : Way) (ts : List Kind) (f : ℕ → Value → Value → Type 0) (r : Row) (os : List ℕ)
    : Option Value → Type 0 where
  read : {y : Value} (v : Value) → AreReadAs (variant_of way.codec) (schema_at ts r.of) (value_of v) os → f r.of v y
      → IsRowValue way ts f r os (Some y)
  unread : AreUnread (variant_of way.codec) (schema_at ts r.of) os → IsRowValue way ts f r os None

-- such a value is the alternative at the row's index, and other octets are left
abbrev pub IsPutAt : ℕ → Option Value → Value → Value → Type 0
IsPutAt k None x y = y ≡ x
IsPutAt k (Some v) x y = (b : Box Value) × (y ≡ Alternative (Root k) b) × (b.value ≡ v)

-- the octets of an open type are read by the row that is told; or they are left, where none is
pub data IsOpenRead (way : Way) (ts : List Kind) (f : ℕ → Value → Value → Type 0) (s : ObjectSet) (told : Option ℕ)
    (x y : Value) : Type 0 where
  row : (k : ℕ) (r : Row) (os : List ℕ) (v : Option Value) → told ≡ Some k → slice_get s.rows.items k ≡ Some r
      → x ≡ Octets os → IsRowValue way ts f r os v → IsPutAt k v x y → IsOpenRead way ts f s told x y
  unknown : option_and_then (slice_get s.rows.items) told ≡ None → y ≡ x → IsOpenRead way ts f s told x y
  other : ((os : List ℕ) → x ≡ Octets os → ⊥) → y ≡ x → IsOpenRead way ts f s told x y

-- the canonical octets of a value of a row's type, in which open types are taken
pub record AreRowOctets (way : Way) (ts : List Kind) (f : ℕ → Value → Value → Type 0) (r : Row) (x : Value)
    (octets : List ℕ) : Type 0 where
  pub taken : Value
  pub in_it : f r.of x taken
  pub bytes : AreBytes (variant_of way.codec) (schema_at ts r.of) (levels_of taken) (value_of taken) octets

-- the row that a place is the index of is the one that is told
pub record IsRowAt (s : ObjectSet) (told : Option ℕ) (p : Place) (r : Row) : Type 0 where
  pub index : ℕ
  pub root : p ≡ Root index
  pub known : told ≡ Some index
  pub there : slice_get s.rows.items index ≡ Some r

-- the value of an open type is written by the row that is told; what is no such value is left
pub data IsOpenWritten (way : Way) (ts : List Kind) (f : ℕ → Value → Value → Type 0) (s : ObjectSet) (told : Option ℕ)
    (x y : Value) : Type 0 where
  row : (p : Place) (r : Row) (b : Box Value) (octets : List ℕ) → x ≡ Alternative p b → IsRowAt s told p r
      → AreRowOctets way ts f r b.value octets → y ≡ Octets octets → IsOpenWritten way ts f s told x y
  other : ((p : Place) (b : Box Value) → x ≡ Alternative p b → ⊥) → y ≡ x → IsOpenWritten way ts f s told x y

-- why the value of an open type isn't written: memory ran out, or a fault of the value
pub data IsFaultOf (kind : EncodeErrorKind) (e : OpenTypeError) : Type 0 where
  no_memory : e ≡ OutOfMemory → IsFaultOf kind e
  fault : kind ≢ no_room_to_write → e ≡ Encode kind → IsFaultOf kind e

-- open types aren't taken: memory ran out; or they are written, and one is of another type than the row that is told,
-- or has no bytes
abbrev pub IsUntaken : Way → List Kind → OpenTypeError → Type 0
IsUntaken way ts OutOfMemory = Unit {0}
IsUntaken way ts OtherType = way.reads ≡ false
IsUntaken way ts (Encode kind) = (way.reads ≡ false) × ((i : ℕ) × (w : Value)
    × HasNoBytes (variant_of way.codec) (schema_at ts i) (levels_of w) (value_of w))

-- an open type is taken one way or the other
abbrev pub TakesOpen : Way → List Kind → (ℕ → Value → Value → Type 0) → ObjectSet → Option ℕ → Value → Value → Type 0
TakesOpen way ts f s told x y =
    (way.reads ≡ true → IsOpenRead way ts f s told x y) × (way.reads ≡ false → IsOpenWritten way ts f s told x y)

-- the object set of an open type
abbrev pub set_of : Option Kind → Option ObjectSet
set_of (Some (Open s)) = Some s
set_of k = None

-- whether a component is an open type by an object set
abbrev pub is_open : List Kind → Component → Bool
is_open ts c = is_some (set_of (slice_get ts c.of))

-- the index of the row that a record tells of a component which is one, by its root components and their values
abbrev pub row_of : List Kind → List Component → List Value → Component → Option ℕ
row_of ts cs xs c = option_and_then (told_in ts cs xs) (set_of (slice_get ts c.of))

-- the index that is at an index of some
abbrev pub told_at : List (Option ℕ) → ℕ → Option ℕ
told_at rows k = option_and_then (λ row. row) (slice_get rows k)

-- by each component that is an open type, the index of the row that is told
abbrev pub AreTold : List Kind → List Component → List Value → List Component → List (Option ℕ) → Type 0
AreTold ts cs xs own rows =
    (k : ℕ) (c : Component) → slice_get own k ≡ Some c → is_open ts c ≡ true → told_at rows k ≡ row_of ts cs xs c

-- a component of a record is taken, by the index of the row that is told of it
abbrev pub TakesOneBy : Way → List Kind → (ℕ → Value → Value → Type 0) → Option ℕ → ℕ → Option ObjectSet → Value
    → Value → Type 0
TakesOneBy way ts f told i None x y = f i x y
TakesOneBy way ts f told i (Some s) x y = TakesOpen way ts f s told x y

abbrev pub TakesFieldBy : Way → List Kind → (ℕ → Value → Value → Type 0) → Option ℕ → Option Component → Value → Value
    → Type 0
TakesFieldBy way ts f told None x y = y ≡ x
TakesFieldBy way ts f told (Some c) x y = TakesOneBy way ts f told c.of (set_of (slice_get ts c.of)) x y

-- those of components, by the rows that are told of them
abbrev pub TakesTold : Way → List Kind → (ℕ → Value → Value → Type 0) → List Component → List (Option ℕ) → List Value
    → List Value → Type 0
TakesTold way ts f own rows = Each (λ k. TakesFieldBy way ts f (told_at rows k) (slice_get own k))

-- those of a component, by the record's root components and their values
abbrev pub TakesField : Way → List Kind → (ℕ → Value → Value → Type 0) → List Component → List Value → Option Component
    → Value → Value → Type 0
TakesField way ts f cs xs c = TakesFieldBy way ts f (option_and_then (row_of ts cs xs) c) c

-- the open types of a SEQUENCE OF are taken in each element
pub data TakesList (r : Value → Value → Type 0) (x y : Value) : Type 0 where
  each : (v w : Vec Value) → x ≡ Elements v → y ≡ Elements w → Each (λ k. r) v.items w.items → TakesList r x y
  other : ((v : Vec Value) → x ≡ Elements v → ⊥) → y ≡ x → TakesList r x y

-- those of a SET OF likewise
pub data TakesBag (r : Value → Value → Type 0) (x y : Value) : Type 0 where
  each : (v w : Vec Value) → x ≡ Bag v → y ≡ Bag w → Each (λ k. r) v.items w.items → TakesBag r x y
  other : ((v : Vec Value) → x ≡ Bag v → ⊥) → y ≡ x → TakesBag r x y

-- those of components, by the record's root components and their values
abbrev pub TakesFields : Way → List Kind → (ℕ → Value → Value → Type 0) → List Component → List Value → List Component
    → List Value → List Value → Type 0
TakesFields way ts f cs xs own = Each (λ k. TakesField way ts f cs xs (slice_get own k))

-- those of a record are taken in each component
pub data TakesRecord (way : Way) (ts : List Kind) (f : ℕ → Value → Value → Type 0) (r : Record) (x y : Value) : Type 0
  where
    each : (v w v' w' : Vec Value) → x ≡ Fields v w → y ≡ Fields v' w'
        → TakesFields way ts f r.root.items v.items r.root.items v.items v'.items
        → TakesFields way ts f r.root.items v.items (behind r.additions) w.items w'.items → TakesRecord way ts f r x y
    other : ((v w : Vec Value) → x ≡ Fields v w → ⊥) → y ≡ x → TakesRecord way ts f r x y

-- those of a CHOICE are taken in its alternative
pub data TakesChoice (f : ℕ → Value → Value → Type 0) (c : Choice) (x y : Value) : Type 0 where
  chosen : (p : Place) (a : ChoiceAlternative) (b b' : Box Value) → standing c p ≡ Some a → x ≡ Alternative p b
      → y ≡ Alternative p b' → f a.of b.value b'.value → TakesChoice f c x y
  unknown : (p : Place) (b : Box Value) → standing c p ≡ None → x ≡ Alternative p b → y ≡ x → TakesChoice f c x y
  other : ((p : Place) (b : Box Value) → x ≡ Alternative p b → ⊥) → y ≡ x → TakesChoice f c x y

-- the open types in a value are taken by what its type is, and those in its parts by the places of their types
abbrev pub TakesParts : Way → List Kind → (ℕ → Value → Value → Type 0) → Option Kind → Value → Value → Type 0
TakesParts way ts f (Some (ListKind i c)) x y = TakesList (f i) x y
TakesParts way ts f (Some (SetOf i c)) x y = TakesBag (f i) x y
TakesParts way ts f (Some (RecordKind r)) x y = TakesRecord way ts f r x y
TakesParts way ts f (Some (ChoiceKind c)) x y = TakesChoice f c x y
TakesParts way ts f k x y = y ≡ x

-- the open types in a value of the type at a place are taken, within so many levels; below them all is left
unfoldable pub Takes : Way → List Kind → ℕ → ℕ → Value → Value → Type 0
Takes way ts zero i x y = y ≡ x
Takes way ts (suc n) i x y = TakesParts way ts (Takes way ts n) (within ts (slice_get ts i)) x y
