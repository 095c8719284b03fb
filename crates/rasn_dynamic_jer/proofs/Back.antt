-- What the JSON of a value tells: its normal form.
use Rattle.std.proofs.Common.{◌≡◌, refl, sym, ap, ◌∙◌, subst, ℕ, zero, suc, Bool, true, false, ◌&&◌, List, [], ◌∷◌, map, Option, Some, None, option_map, Result, Ok, Err, inl, inr}
use Rattle.std.specs.Prelude.{slice_get}
use Rattle.std.specs.List.{list_all}
use Rattle.std.proofs.lemmas.Bool.{and_parts}
use Rattle.json.specs.Json.{Json, document, max_depth}
use Rattle.rasn_types.specs.Values.{Value, bag_of, octets}
use Rattle.rasn_schema.specs.Structures.{list_value}
use Rattle.std.specs.Prelude.{IsSomeAnd}
use Rattle.json.specs.Strict.{HasUniqueKeys}
use Rattle.rasn_types.specs.Values
use Rattle.rasn_dynamic.specs.Types.{within}
use Rattle.rasn_dynamic.specs.Values.{slot_of, slot_step, there, value_of}
use Rattle.rasn_dynamic.specs.declared.types.Kind.{Kind}
use Rattle.rasn_dynamic.specs.declared.types.Kind.TheVariants.{Simple as SimpleKind, Date as DateKind, List as ListKind, SetOf, Record as RecordKind, Choice as ChoiceKind, Open as OpenKind, Containing}
use Rattle.rasn_dynamic.specs.declared.values.Value.{Value as Tree}
use Rattle.rasn_dynamic.specs.declared.values.Value.TheFolds.{fold-roll-Value, ind-Value, map-Value}
use Rattle.rasn_dynamic.specs.declared.values.Value.TheOpen.{Value-F, Octets, Elements, Bag, Fields, Alternative, Date}
use Rattle.rasn_dynamic.specs.declared.values.Value.TheViews.{roll-Value}
use Rattle.rasn_dynamic.proofs.Trees.{value_there}
use Rattle.rasn_dynamic_jer.specs.DistinctNames.{is_kind_apart, is_named_apart}
use Rattle.rasn_dynamic_jer.specs.Laws.{HaveOneForm, IsReadBack, Reads}
use Rattle.rasn_dynamic_jer.specs.Leaves.{are_octets, digits_json, hexadecimal}
use Rattle.rasn_dynamic_jer.specs.Normal.{normal_at, normal_by, normal_in}
use Rattle.rasn_dynamic_jer.specs.Puts.{IsJsonText}
use Rattle.rasn_dynamic_jer.specs.Shown.{json_at, json_by, kind_json, kind_within, Known, known}
use Rattle.rasn_dynamic_jer.specs.FromJson.{IsJson, IsNoJson, IsNoText, IsTextOf, no_json, no_memory, no_room, no_utf8, told_alone, told_at, told_by, told_in, twice, unread, untold}
use Rattle.rasn_dynamic_jer.specs.declared.from_json_error.FromJsonError.TheVariants.{OutOfMemory}
use Rattle.rasn_dynamic_jer.specs.declared.from_json_error.FromJsonError.{FromJsonError}
use Rattle.rasn_dynamic_jer.proofs.Knowns.{roll_json}
use Rattle.rasn_dynamic_jer.proofs.LeavesTold.{given, octets_told, some_same}
use Rattle.rasn_dynamic_jer.proofs.PartsBack.{bag_read, choice_read, list_read, record_read, row_read}
use Rattle.rasn_dynamic_jer.proofs.SimpleBack.{date_read, ReadAs, simple_read, SlotOf}

abbrev KindRead : List Kind → ℕ → Option Kind → Value-F Tree → Json → Type 0
KindRead ts n k x j = ReadAs (SlotOf x) (told_by ts n k j) (normal_by ts n k) j

-- a value by what its type is, where that names its parts apart
abbrev is_apart : List Kind → Option Kind → Bool
is_apart ts None = true
is_apart ts (Some k) = is_kind_apart ts k

abbrev shown_of : List Kind → ℕ → Option Kind → Value-F Tree → Option Json
shown_of ts n k x = kind_json ts n k (map-Value Tree Known (known ts) x)

-- the octets of an open type, alone and among others
octets_alone : (ts : List Kind) (s : _) (os : List ℕ) (j : Json) → digits_json os ≡ Some j → ReadAs (Some (octets os)) (told_alone (Some (OpenKind s)) j) (λ v. v) j
octets_alone ts s os j e =
    let w = given (are_octets os) (hexadecimal os) j e in
    subst (λ i. ReadAs (Some (octets os)) (told_alone (Some (OpenKind s)) i) (λ v. v) i) w.1
    (record { value = octets os; is_there = refl; told = ap (option_map octets) (octets_told os w.0); unique = tt })

octets_among : (ts : List Kind) (g : ℕ → Json → Option Value) (f : ℕ → Value → Value) (s : _) (os : List ℕ) (j : Json) → digits_json os ≡ Some j
    → ReadAs (Some (octets os)) (told_in ts g (Some (OpenKind s)) j) (normal_in ts f (Some (OpenKind s))) j
octets_among ts g f s os j e =
    let w = given (are_octets os) (hexadecimal os) j e in
    subst (λ i. ReadAs (Some (octets os)) (told_in ts g (Some (OpenKind s)) i) (normal_in ts f (Some (OpenKind s))) i) w.1
    (record { value = octets os; is_there = refl; told = ap (option_map octets) (octets_told os w.0); unique = tt })

all_there : (xs : List Tree) → map there (map slot_of xs) ≡ map value_of xs
all_there [] = refl
all_there (x ∷ xs) = ap (λ vs. value_of x ∷ vs) (all_there xs)

-- with no level left
zero_read : (ts : List Kind) (k : Option Kind) (x : Value-F Tree) (j : Json) → is_apart ts k ≡ true → shown_of ts zero k x ≡ Some j → KindRead ts zero k x j
unfolding told_by normal_by
zero_read ts (Some (SimpleKind s)) x j a e = simple_read ts zero s x j a e
zero_read ts (Some DateKind) (Date d) j a e = date_read d j e
zero_read ts (Some (OpenKind s)) (Octets os) j a e =
    let r = octets_alone ts s os j e in
    record { value = octets os; is_there = refl; told = r.told ∙ ap (λ v. Some v) (some_same (sym r.is_there)); unique = r.unique }
zero_read ts (Some (ListKind i c)) (Elements v) j a e = absurd cc
zero_read ts (Some (SetOf i c)) (Bag v) j a e = absurd cc
zero_read ts (Some (RecordKind r)) (Fields v w) j a e = absurd cc
zero_read ts (Some (ChoiceKind c)) (Alternative p v) j a e = absurd cc
zero_read ts (Some (OpenKind s)) (Alternative p v) j a e = absurd cc
zero_read ts k x j a e = absurd cc

-- with one or more
next_read : (ts : List Kind) (m : ℕ) → ((i : ℕ) (x : Tree) (j : Json) → json_at ts m i x ≡ Some j → ReadAs (slot_of x) (told_at ts m i j) (normal_at ts m i) j)
    → (k : Option Kind) (x : Value-F Tree) (j : Json) → is_apart ts k ≡ true → shown_of ts (suc m) k x ≡ Some j → KindRead ts (suc m) k x j
unfolding told_by normal_by
next_read ts m back (Some (SimpleKind s)) x j a e = simple_read ts (suc m) s x j a e
next_read ts m back (Some DateKind) (Date d) j a e = date_read d j e
next_read ts m back (Some (ListKind i c)) (Elements v) j a e =
    subst (λ vs. ReadAs (Some (list_value vs)) (told_by ts (suc m) (Some (ListKind i c)) j) (normal_by ts (suc m) (Some (ListKind i c))) j) (sym (all_there v.items))
    (list_read ts m (told_at ts m) (normal_at ts m) back i v.items j e)
next_read ts m back (Some (SetOf i c)) (Bag v) j a e =
    subst (λ vs. ReadAs (Some (bag_of vs)) (told_by ts (suc m) (Some (SetOf i c)) j) (normal_by ts (suc m) (Some (SetOf i c))) j) (sym (all_there v.items))
    (bag_read ts m (told_at ts m) (normal_at ts m) back i v.items j e)
next_read ts m back (Some (RecordKind r)) (Fields v w) j a e = record_read ts m (told_at ts m) (normal_at ts m) back r v.items w.items j a e
next_read ts m back (Some (ChoiceKind c)) (Alternative p v) j a e = choice_read ts m (told_at ts m) (normal_at ts m) back c p v.value j a e
next_read ts m back (Some (OpenKind s)) (Octets os) j a e = octets_among ts (told_at ts m) (normal_at ts m) s os j e
next_read ts m back (Some (OpenKind s)) (Alternative p v) j a e = row_read ts m (told_at ts m) (normal_at ts m) back s p v.value j a e
next_read ts m back k x j a e = absurd cc

roll_slot : (x : Value-F Tree) → slot_of (roll-Value x) ≡ SlotOf x
roll_slot x = fold-roll-Value (Option Value) slot_step x

rolled : (ts : List Kind) (n : ℕ) (k : Option Kind) → ((x : Value-F Tree) (j : Json) → shown_of ts n k x ≡ Some j → KindRead ts n k x j)
    → (x : Tree) (j : Json) → json_by ts n k x ≡ Some j → ReadAs (slot_of x) (told_by ts n k j) (normal_by ts n k) j
rolled ts n k h = ind-Value (λ x. (j : Json) → json_by ts n k x ≡ Some j → ReadAs (slot_of x) (told_by ts n k j) (normal_by ts n k) j)
    (λ x y is j e. subst (λ s. ReadAs s (told_by ts n k j) (normal_by ts n k) j) (sym (roll_slot x)) (h x j (sym (roll_json ts n k x) ∙ e)))

-- ---- each type of a table names its parts apart

apart_among : (ts us : List Kind) (i : ℕ) → list_all (is_kind_apart ts) us ≡ true → is_apart ts (slice_get us i) ≡ true
apart_among ts [] i h = refl
apart_among ts (k ∷ us) zero h = (and_parts (is_kind_apart ts k) (list_all (is_kind_apart ts) us) h).0
apart_among ts (k ∷ us) (suc i) h = apart_among ts us i (and_parts (is_kind_apart ts k) (list_all (is_kind_apart ts) us) h).1

apart_within : (ts : List Kind) (o : Option Kind) → is_named_apart ts ≡ true → is_apart ts o ≡ true → is_apart ts (within ts o) ≡ true
apart_within ts (Some (Containing i)) h a = apart_among ts ts i h
apart_within ts o h a = a

pub value_read : (ts : List Kind) → is_named_apart ts ≡ true → (n i : ℕ) (x : Tree) (j : Json) → json_at ts n i x ≡ Some j → ReadAs (slot_of x) (told_at ts n i j) (normal_at ts n i) j
value_read ts h zero i = rolled ts zero (kind_within ts i) (λ x j. zero_read ts (kind_within ts i) x j (apart_within ts (slice_get ts i) h (apart_among ts ts i h)))
value_read ts h (suc n) i = rolled ts (suc n) (kind_within ts i) (λ x j. next_read ts n (value_read ts h n) (kind_within ts i) x j (apart_within ts (slice_get ts i) h (apart_among ts ts i h)))

-- ---- both calls

module _ (ts : List Kind) (i : ℕ) (x : Tree) (text : List ℕ) (apart : is_named_apart ts ≡ true) (shown : IsJsonText (json_at ts max_depth i x) text) where
  read : ReadAs (slot_of x) (told_at ts max_depth i shown.json) (normal_at ts max_depth i) shown.json
  read = value_read ts apart max_depth i x shown.json shown.shown

  answered : (y : Tree) → IsTextOf ts i text y → slot_of y ≡ Some (normal_at ts max_depth i read.value)
  answered y h =
      let same : h.json ≡ shown.json = some_same (sym h.is_json.read ∙ shown.read) in
      h.there ∙ sym h.told ∙ ap (told_at ts max_depth i) same ∙ read.told

  unread_why : (e : FromJsonError) → IsNoJson text e → e ≡ OutOfMemory
  unread_why e (no_memory h) = h
  unread_why e (no_utf8 h k) = absurd (k shown.utf8)
  unread_why e (no_json h k) = let q : None ≡ Some shown.json = sym k ∙ shown.read in absurd cc
  unread_why e (twice h k) = absurd (subst (λ o. IsSomeAnd o (λ j. ¬ HasUniqueKeys j)) shown.read k read.unique)

  refused_why : (e : FromJsonError) → IsNoText ts i text e → e ≡ OutOfMemory
  refused_why e (unread h) = unread_why e h
  refused_why e (no_room h) = h
  refused_why e (untold json h k) =
      let same : json ≡ shown.json = some_same (sym h.read ∙ shown.read) in
      let q : None ≡ Some (normal_at ts max_depth i read.value) = sym k ∙ ap (told_at ts max_depth i) same ∙ read.told in
      absurd cc

  pub reads_back : (r : Result Tree FromJsonError) → Reads ts i text r → IsReadBack ts i (slot_of x) r
  reads_back (Ok y) h = (read.value, read.is_there, answered y h)
  reads_back (Err e) h = refused_why e h

-- two values of one text
pub one_form : (ts : List Kind) (i : ℕ) (x y : Tree) (text : List ℕ) → is_named_apart ts ≡ true → IsJsonText (json_at ts max_depth i x) text → IsJsonText (json_at ts max_depth i y) text → HaveOneForm ts i (slot_of x) (slot_of y)
one_form ts i x y text apart h k =
    let same : h.json ≡ k.json = some_same (sym h.read ∙ k.read) in
    let a = value_read ts apart max_depth i x h.json h.shown in
    let b = value_read ts apart max_depth i y k.json k.shown in
    (a.value, b.value, a.is_there, b.is_there, some_same (sym a.told ∙ ap (told_at ts max_depth i) same ∙ b.told))
