-- The schema of a place by what is there, and values of other kinds.
use Rattle.std.proofs.Common.{◌≡◌, refl, sym, ap, ap₂, ◌∙◌, ℕ, zero, suc, ◌≤◌, ◌⊎◌, inl, inr, Bool, true, false, Result, Ok, Err, List, [], ◌∷◌, Option, Some, None}
use Rattle.std.specs.Prelude.{◌&&◌, slice_get}
use Rattle.rasn_types.specs.Values
use Rattle.rasn_types.specs.Values.{Value as Content, slots}
use Rattle.rasn_constraints.specs.Bounds.{Size}
use Rattle.rasn_constraints.specs.declared.constraints.Bounded.{Bounded}
use Rattle.rasn_constraints.specs.declared.constraints.Extensible.{Extensible}
use Rattle.rasn_schema.specs.Bags.{set_at}
use Rattle.rasn_schema.specs.Choices.{one_level_in}
use Rattle.rasn_schema.specs.Forms.{always, is_size_marked, size_of}
use Rattle.rasn_schema.specs.Lists.{list_at}
use Rattle.rasn_schema.specs.Records.{record_at}
use Rattle.rasn_schema.specs.Normal.{normal, over_bag}
use Rattle.rasn_schema.specs.Schemas
use Rattle.rasn_schema.specs.Schemas.{listed, Parts, Schema}
use Rattle.rasn_traits.specs.Moments.{date_at}
use Rattle.rasn_traits.specs.Calls.{Encodes, EncoderRules, without_memory, Written}
use Rattle.rasn_schema.specs.Enumerations.{items_of}
use Rattle.rasn_schema.specs.declared.items.ItemCounts.{ItemCounts}
use Rattle.rasn_schema.specs.declared.items.Place.{Place}
use Rattle.rasn_schema.specs.declared.items.Place.TheVariants.{Root, Added}
use Rattle.rasn_schema.specs.Structures.{all_may_be, is_of_kind}
use Rattle.rasn_traits.specs.Counted.{item_at, stands_in, WritesNothing, WritesOther}
use Rattle.rasn_dynamic.specs.declared.types.Choice.{Choice}
use Rattle.rasn_dynamic.specs.declared.types.Kind.{Kind}
use Rattle.rasn_dynamic.specs.declared.types.Kind.TheVariants.{Simple as SimpleKind, Date, List as ListKind, SetOf, Record as RecordKind, Choice as ChoiceKind, Containing, Open as OpenKind}
use Rattle.rasn_dynamic.specs.declared.types.ObjectSet.{ObjectSet}
use Rattle.rasn_dynamic.specs.declared.types.Record.{Record}
use Rattle.rasn_dynamic.specs.declared.types.Simple.{Simple}
use Rattle.rasn_dynamic.specs.Types.{at_place, choice_of, contained_at, kind_in, of_size, plain_at, record_schema, schema_at, simple_schema}
use Rattle.rasn_dynamic.specs.declared.values.Value.{Value}
use Rattle.rasn_dynamic.specs.Values.{levels_of, NotBag, NotElements, NotFields, value_of}
use Rattle.rasn_dynamic.proofs.Trees.{not_cut}

-- what a kind is to a number of levels, by the schemas of a table
abbrev pub kind_at : List Kind → Kind → ℕ → Schema
kind_at ts k zero = kind_in ts (λ j. Schemas.cut) zero k
kind_at ts k (suc n) = kind_in ts (λ j. schema_at ts j n) (suc n) k

-- the schema of a place
pub place_there : (ts : List Kind) (i : ℕ) (k : Kind) → slice_get ts i ≡ Some k → (n : ℕ) → schema_at ts i n ≡ kind_at ts k n
unfolding schema_at
place_there ts i k e zero = ap (at_place (kind_in ts (λ j. Schemas.cut) zero)) e
place_there ts i k e (suc n) = ap (at_place (kind_in ts (λ j. schema_at ts j n) (suc n))) e

-- of a kind that isn't octets that contain a value
kind_plain : (ts : List Kind) (k : Kind) → ((j : ℕ) → k ≡ Containing j → ⊥) → (n : ℕ) → kind_at ts k n ≡ plain_at ts k n
kind_plain ts (SimpleKind k) h zero = refl
kind_plain ts (SimpleKind k) h (suc n) = refl
kind_plain ts Date h zero = refl
kind_plain ts Date h (suc n) = refl
kind_plain ts (ListKind i c) h zero = refl
kind_plain ts (ListKind i c) h (suc n) = refl
kind_plain ts (SetOf i c) h zero = refl
kind_plain ts (SetOf i c) h (suc n) = refl
kind_plain ts (RecordKind r) h zero = refl
kind_plain ts (RecordKind r) h (suc n) = refl
kind_plain ts (ChoiceKind c) h zero = refl
kind_plain ts (ChoiceKind c) h (suc n) = refl
kind_plain ts (Containing j) h n = absurd (h j refl)
kind_plain ts (OpenKind o) h zero = refl
kind_plain ts (OpenKind o) h (suc n) = refl

pub plain_there : (ts : List Kind) (i : ℕ) (k : Kind) → slice_get ts i ≡ Some k → ((j : ℕ) → k ≡ Containing j → ⊥) → (n : ℕ) → schema_at ts i n ≡ plain_at ts k n
plain_there ts i k e h n = place_there ts i k e n ∙ kind_plain ts k h n

-- and of one that is
pub containing_there : (ts : List Kind) (i j : ℕ) → slice_get ts i ≡ Some (Containing j) → (n : ℕ) → schema_at ts i n ≡ Schemas.containing (contained_at ts j n)
containing_there ts i j e zero = place_there ts i (Containing j) e zero
containing_there ts i j e (suc n) = place_there ts i (Containing j) e (suc n)

-- what is within such octets
pub contained_there : (ts : List Kind) (i : ℕ) (k : Kind) → slice_get ts i ≡ Some k → (n : ℕ) → contained_at ts i n ≡ plain_at ts k n
contained_there ts i k e n = ap (at_place (λ k. plain_at ts k n)) e

pub contained_none : (ts : List Kind) (i : ℕ) → slice_get ts i ≡ None → (n : ℕ) → contained_at ts i n ≡ Schemas.real
contained_none ts i e n = ap (at_place (λ k. plain_at ts k n)) e

-- plain kinds
pub simple_plain : (ts : List Kind) (k : Simple) (n : ℕ) → plain_at ts (SimpleKind k) n ≡ always (simple_schema k) n
simple_plain ts k zero = refl
simple_plain ts k (suc n) = refl

pub date_plain : (ts : List Kind) (n : ℕ) → plain_at ts Date n ≡ date_at n
date_plain ts zero = refl
date_plain ts (suc n) = refl

pub list_plain : (ts : List Kind) (j : ℕ) (c : Extensible (Bounded ℕ)) (n : ℕ) → plain_at ts (ListKind j c) n ≡ list_at (schema_at ts j) (size_of (of_size c)) (is_size_marked (of_size c)) n
list_plain ts j c zero = refl
list_plain ts j c (suc n) = refl

pub set_plain : (ts : List Kind) (j : ℕ) (c : Extensible (Bounded ℕ)) (n : ℕ) → plain_at ts (SetOf j c) n ≡ set_at (schema_at ts j) (size_of (of_size c)) (is_size_marked (of_size c)) n
set_plain ts j c zero = refl
set_plain ts j c (suc n) = refl

pub record_plain : (ts : List Kind) (r : Record) (n : ℕ) → plain_at ts (RecordKind r) n ≡ record_schema ts r n
record_plain ts r zero = refl
record_plain ts r (suc n) = refl

pub choice_plain : (ts : List Kind) (c : Choice) (n : ℕ) → plain_at ts (ChoiceKind c) n ≡ one_level_in (choice_of ts c) n
choice_plain ts c zero = refl
choice_plain ts c (suc n) = refl

pub open_plain : (ts : List Kind) (o : ObjectSet) (n : ℕ) → plain_at ts (OpenKind o) n ≡ Schemas.any
open_plain ts o zero = refl
open_plain ts o (suc n) = refl

pub containing_plain : (ts : List Kind) (j n : ℕ) → plain_at ts (Containing j) n ≡ Schemas.real
containing_plain ts j zero = refl
containing_plain ts j (suc n) = refl

-- the schema of a place where a record stands
pub record_there : (ts : List Kind) (i : ℕ) (r : Record) → slice_get ts i ≡ Some (RecordKind r) → (n : ℕ) → schema_at ts i n ≡ record_schema ts r n
record_there ts i r e zero = place_there ts i (RecordKind r) e zero
record_there ts i r e (suc n) = place_there ts i (RecordKind r) e (suc n)

pub none_there : (ts : List Kind) (i : ℕ) → slice_get ts i ≡ None → (n : ℕ) → schema_at ts i n ≡ Schemas.real
unfolding schema_at
none_there ts i e zero = ap (at_place (kind_in ts (λ j. Schemas.cut) zero)) e
none_there ts i e (suc n) = ap (at_place (kind_in ts (λ j. schema_at ts j n) (suc n))) e

module _ {E X : Type 0} {rules : EncoderRules E X} where
  -- a family of the same schemas
  pub encodes_same : (F G : ℕ → Schema) (k : ℕ) (v : Content) (x : X) (r : Result (Unit {0}) E) (y : X) → ((n : ℕ) → F n ≡ G n) → Encodes rules G k v x r y → Encodes rules F k v x r y
  encodes_same F G k v x r y e h = record { law = record { at = λ n le. rw (e n) (h.law.at n le) }; behaves = h.behaves }

  -- the same value, of as many levels
  pub encodes_value : (F : ℕ → Schema) (k l : ℕ) (v w : Content) (x : X) (r : Result (Unit {0}) E) (y : X) → k ≡ l → v ≡ w → Encodes rules F l w x r y → Encodes rules F k v x r y
  encodes_value F k l v w x r y e f h = rw (e, f) h

  -- a value of another kind is refused
  pub other_refused : (F : ℕ → Schema) (k : ℕ) (v : Content) (x : X) (r : Result (Unit {0}) E) (y : X) → WritesOther rules x r y → ((n : ℕ) → is_of_kind (F n) (normal (F n) v) ≡ false) → Encodes rules F k v x r y
  other_refused F k v x (Ok u) y w h = absurd w.law
  other_refused F k v x (Err e) y w h = record { law = record { at = λ n le. inr (w.law (F n) (normal (F n) v) (h n)) }; behaves = w.behaves }

  -- and at the depths that hold it
  pub other_refused_within : (F : ℕ → Schema) (k : ℕ) (v : Content) (x : X) (r : Result (Unit {0}) E) (y : X) → WritesOther rules x r y → ((n : ℕ) → k ≤ n → is_of_kind (F n) (normal (F n) v) ≡ false) → Encodes rules F k v x r y
  other_refused_within F k v x (Ok u) y w h = absurd w.law
  other_refused_within F k v x (Err e) y w h = record { law = record { at = λ n le. inr (w.law (F n) (normal (F n) v) (h n le)) }; behaves = w.behaves }

  -- where the caller's memory ran out, whatever is to be written is refused
  pub nothing_written : (F : ℕ → Schema) (k : ℕ) (v : Content) (x : X) (r : Result (Unit {0}) E) (y : X) → WritesNothing rules x r y → Encodes rules F k v x r y
  nothing_written F k v x (Ok u) y w = absurd w.law
  nothing_written F k v x (Err e) y w = record { law = record { at = λ n le. elim w.law [ inl m ↦ inl m | inr h ↦ inr (h (F n) (normal (F n) v)) ] }; behaves = w.behaves }

-- what is written without memory is written
pub null_written : {E X : Type 0} (rules : EncoderRules E X) (s : Schema) (v : Content) (x : X) (r : Result (Unit {0}) E) (y : X) → Written (without_memory rules) s v x r y → Written rules s v x r y
null_written rules s v x (Ok u) y h = h
null_written rules s v x (Err e) y (inl m) = absurd m
null_written rules s v x (Err e) y (inr h) = inr h

-- nothing is a value of a place where nothing stands
pub no_place : (ts : List Kind) (i : ℕ) (v : Content) → slice_get ts i ≡ None → (n : ℕ) → is_of_kind (schema_at ts i n) (normal (schema_at ts i n) v) ≡ false
no_place ts i v e n = ap (λ s. is_of_kind s (normal s v)) (none_there ts i e n)

-- an item that isn't one of so many
pub no_item : (c : ItemCounts) (p : Place) → stands_in c p ≡ false → is_of_kind (items_of c) (item_at p) ≡ false
no_item c (Root i) e = e
no_item c (Added i) e = e

-- values that are no day, and that aren't cut off
pub no_date : (v : Content) → is_of_kind Schemas.date v ≡ false → is_of_kind Schemas.cut v ≡ false → (n : ℕ) → is_of_kind (date_at n) (normal (date_at n) v) ≡ false
unfolding normal
no_date v e f zero = f
no_date v e f (suc zero) = f
no_date v e f (suc (suc n)) = e

-- values that aren't of a list
pub no_list : (F : ℕ → Schema) (z : Size) (m : Bool) (v : Value) → NotElements (value_of v) → (n : ℕ) → levels_of v ≤ n → is_of_kind (list_at F z m n) (normal (list_at F z m n) (value_of v)) ≡ false
unfolding normal
no_list F z m v e zero le = not_cut v le
no_list F z m v e (suc n) le = go (value_of v) (e (F n) z m)
  where
    go : (w : Content) → is_of_kind (Schemas.list (F n) z m) w ≡ false → is_of_kind (Schemas.list (F n) z m) (normal (Schemas.list (F n) z m) w) ≡ false
    go (Values.elements vs) f = absurd (cc)
    go w f = f

-- values that aren't of a bag
pub no_bag : (F : ℕ → Schema) (z : Size) (m : Bool) (v : Value) → NotBag (value_of v) → (n : ℕ) → levels_of v ≤ n → is_of_kind (set_at F z m n) (normal (set_at F z m n) (value_of v)) ≡ false
unfolding normal over_bag
no_bag F z m v e zero le = not_cut v le
no_bag F z m v e (suc n) le = go (value_of v) (e (F n) z m)
  where
    go : (w : Content) → is_of_kind (Schemas.set_of (F n) z m) w ≡ false → is_of_kind (Schemas.set_of (F n) z m) (normal (Schemas.set_of (F n) z m) w) ≡ false
    go (Values.bag vs) f = absurd (cc)
    go w f = f

-- parts that any components fit
abbrev parts_for : List (Option Content) → Parts
parts_for [] = Schemas.no_parts
parts_for (o ∷ os) = Schemas.part (Schemas.leaf (record { class = 0; number = 0 })) Schemas.optional Schemas.null (parts_for os)

fitting : (os : List (Option Content)) → all_may_be (parts_for os) os ≡ true
fitting [] = refl
fitting (None ∷ os) = fitting os
fitting (Some v ∷ os) = fitting os

pub no_fields : (rs xs : Values.Slots) (m : Bool) → ((ps qs : Parts) → is_of_kind (Schemas.sequence listed ps m qs) (Values.fields rs xs) ≡ false) → ⊥
no_fields rs xs m f =
    let e : true ≡ false = sym (ap₂ (λ a b. a && b) (fitting (slots rs)) (fitting (slots xs))) ∙ f (parts_for (slots rs)) (parts_for (slots xs)) in
    absurd (cc)

pub no_record : (P Q : ℕ → Parts) (m : Bool) (v : Value) → NotFields (value_of v) → (n : ℕ) → levels_of v ≤ n → is_of_kind (record_at listed P m Q n) (normal (record_at listed P m Q n) (value_of v)) ≡ false
unfolding normal
no_record P Q m v e zero le = not_cut v le
no_record P Q m v e (suc n) le = record_other (P n) (Q n) m (value_of v) (λ ps qs. e listed ps qs m)
  where
    record_other : (ps qs : Parts) (m : Bool) (w : Content) → ((us vs : Parts) → is_of_kind (Schemas.sequence listed us m vs) w ≡ false) → is_of_kind (Schemas.sequence listed ps m qs) (normal (Schemas.sequence listed ps m qs) w) ≡ false
    record_other ps qs m (Values.fields rs xs) f = absurd (no_fields rs xs m f)
    record_other ps qs m w f = f ps qs

-- what isn't named bits
pub no_named : (z : Size) (m : Bool) (v : Content) → is_of_kind (Schemas.bit_string z m true) v ≡ false → is_of_kind (Schemas.bit_string z m true) (normal (Schemas.bit_string z m true) v) ≡ false
unfolding normal
no_named z m (Values.bits bs) e = absurd (cc)
no_named z m v e = e
