-- What the JSON of a value in which no other is tells: its normal form.
use Rattle.std.proofs.Common.{◌≡◌, refl, sym, ap, ◌∙◌, subst, ℕ, zero, suc, ◌^◌, Bool, true, false, cond, ◌&&◌, List, [], ◌∷◌, ◌++◌, map, Option, Some, None, option_map, ℤ, arith}
use Rattle.std.specs.Prelude.{encode_utf8_all, position, slice_get, string_bytes}
use Rattle.std.specs.Fmt.{signed_decimal}
use Rattle.std.specs.Option.{option_and_then}
use Rattle.std.specs.Str.{bytes_eq, is_utf8}
use Rattle.std.proofs.lemmas.Bool.{and_parts}
use Rattle.hex.specs.Hex.{encode_upper}
use Rattle.jiff.specs.Types.{Date as Day}
use Rattle.json.specs.Find.{as_str}
use Rattle.json.specs.Json.{Json, boolean, null, number, string}
use Rattle.json.specs.Strict.{HasUniqueKeys}
use Rattle.rasn_types.specs.Bits.{Bits}
use Rattle.rasn_types.specs.Contents.{generalized, is_date, is_identifier, is_time, utc}
use Rattle.rasn_types.specs.Identifiers.{contents}
use Rattle.rasn_types.specs.Integers.{is_i128}
use Rattle.rasn_types.specs.Values
use Rattle.rasn_types.specs.Values.{Value, bits, characters, nothing, octets, truth, whole}
use Rattle.rasn_types.proofs.Reading.{is_i128-fits}
use Rattle.rasn_schema.specs.Forms.{size_of}
use Rattle.rasn_schema.specs.Normal.{normal, normal_bits}
use Rattle.rasn_schema.specs.declared.items.Place.{Place}
use Rattle.rasn_schema.specs.declared.items.Place.TheVariants.{Root, Added}
use Rattle.rasn_strings.specs.Values.{date_value}
use Rattle.rasn_traits.specs.Counted.{item_at}
use Rattle.rasn_dynamic.specs.Names.{name_at}
use Rattle.rasn_dynamic.specs.Types.{behind, of_size, simple_schema}
use Rattle.rasn_dynamic.specs.Values.{slot_of, slot_step}
use Rattle.rasn_dynamic.specs.declared.types.Items.{Items}
use Rattle.rasn_dynamic.specs.declared.types.Simple.{Simple}
use Rattle.rasn_dynamic.specs.declared.types.Simple.TheVariants as Simples
use Rattle.rasn_dynamic.specs.declared.values.Value.{Value as Tree}
use Rattle.rasn_dynamic.specs.declared.values.Value.TheFolds.{map-Value}
use Rattle.rasn_dynamic.specs.declared.values.Value.TheOpen.{Value-F, Boolean, Null, Integer, Item, Octets, Bits as BitsF, Characters}
use Rattle.rasn_jer.specs.Strings.{day_text, dotted}
use Rattle.rasn_dynamic_jer.specs.DistinctNames.{differ, is_among, is_simple_apart, item_names}
use Rattle.rasn_dynamic_jer.specs.Days.{date_json, date_told}
use Rattle.rasn_dynamic_jer.specs.Identifiers.{arcs_in, are_contents, identifier_json, identifier_told}
use Rattle.rasn_dynamic_jer.specs.Leaves.{are_octets, are_plain, bits_shown, characters_json, digits_json, fixed_by, hexadecimal, item_json, latin_json, number_json, octets_json, bits_json, null_json, simple_json, truth_json, utf8_json}
use Rattle.rasn_dynamic_jer.specs.Shown.{Known, known}
use Rattle.rasn_dynamic_jer.specs.FromJson.{item_place, place_among, simple_told}
use Rattle.rasn_dynamic_jer.proofs.Arcs.{lawful}
use Rattle.rasn_dynamic_jer.proofs.ArcsTold.{arcs_told}
use Rattle.rasn_dynamic_jer.proofs.DaysTold.{date_back}
use Rattle.rasn_dynamic_jer.proofs.LeavesTold.{bits_read, characters_back, given, latin_back, octets_told, some_same, time_back, whole_back}
use Rattle.rasn_dynamic_jer.proofs.Named.{differ_apart, differ_left, differ_right, first_at, is_present, nowhere, same_name}

-- of what stands for a value its normal form is told
pub record ReadAs (s o : Option Value) (h : Value → Value) (j : Json) : Type 0 where
  pub value : Value
  pub is_there : s ≡ Some value
  pub told : o ≡ Some (h value)
  pub unique : HasUniqueKeys j

-- ---- the place of a name, in two lists

abbrev pub thing_at : {X : Type 0} → List X → List X → Place → Option X
thing_at xs ys (Root k) = slice_get xs k
thing_at xs ys (Added k) = slice_get ys k

pub place_back : {X : Type 0} (name : X → List ℕ) (xs ys : List X) (p : Place) (x : X) → differ (map name xs ++ map name ys) ≡ true → thing_at xs ys p ≡ Some x
    → place_among (position (λ y. bytes_eq (name y) (name x)) xs) (position (λ y. bytes_eq (name y) (name x)) ys) ≡ Some p
place_back name xs ys (Root k) x d e =
    ap (λ o. place_among o (position (λ y. bytes_eq (name y) (name x)) ys)) (first_at name xs k x (differ_left (map name xs) (map name ys) d) e)
place_back name xs ys (Added k) x d e =
    let none = nowhere name (name x) xs (differ_apart (map name xs) (map name ys) (name x) d (is_present name ys k x e)) in
    ap (λ o. place_among o (position (λ y. bytes_eq (name y) (name x)) ys)) none
    ∙ ap (λ o. option_map Added o) (first_at name ys k x (differ_right (map name xs) (map name ys) d) e)

-- what a map gives
pub record WasMapped {A B : Type 0} (f : A → B) (o : Option A) (y : B) : Type 0 where
  pub source : A
  pub is_source : o ≡ Some source
  pub is_image : f source ≡ y

pub was_mapped : {A B : Type 0} (f : A → B) (o : Option A) (y : B) → option_map f o ≡ Some y → WasMapped f o y
was_mapped f None y e = absurd cc
was_mapped f (Some x) y e = record { source = x; is_source = refl; is_image = some_same e }

name_is : (i : Items) (p : Place) → name_at i p ≡ option_map string_bytes (thing_at i.roots.items (behind i.addeds) p)
name_is i (Root k) = refl
name_is i (Added k) = refl

item_back : (i : Items) (p : Place) (n : List ℕ) → differ (item_names i) ≡ true → name_at i p ≡ Some n → item_place i n ≡ Some p
item_back i p n d e =
    let w = was_mapped string_bytes (thing_at i.roots.items (behind i.addeds) p) n (sym (name_is i p) ∙ e) in
    subst (λ m. item_place i m ≡ Some p) w.is_image (place_back (λ s. string_bytes s) i.roots.items (behind i.addeds) p w.source d w.is_source)

-- ---- each kind

abbrev SimpleRead : Simple → Value → Json → Type 0
SimpleRead k v j = ReadAs (Some v) (simple_told k j) (normal (simple_schema k)) j

truth_read : (k : Simple) (b : Bool) (j : Json) → truth_json k b ≡ Some j → SimpleRead k (truth b) j
unfolding normal
truth_read Simples.Boolean b j e = subst (λ i. SimpleRead Simples.Boolean (truth b) i) (some_same e) (record { value = truth b; is_there = refl; told = refl; unique = tt })
truth_read k b j e = absurd cc

null_read : (k : Simple) (j : Json) → null_json k ≡ Some j → SimpleRead k nothing j
unfolding normal
null_read Simples.Null j e = subst (λ i. SimpleRead Simples.Null nothing i) (some_same e) (record { value = nothing; is_there = refl; told = refl; unique = tt })
null_read k j e = absurd cc

number_read : (k : Simple) (z : ℤ) (j : Json) → number_json k z ≡ Some j → SimpleRead k (whole z) j
unfolding normal
number_read (Simples.Integer c) z j e =
    let w = given (is_i128 z) (number (signed_decimal z)) j e in
    subst (λ i. SimpleRead (Simples.Integer c) (whole z) i) w.1 (record { value = whole z; is_there = refl; told = whole_back z (is_i128-fits z w.0); unique = tt })
number_read k z j e = absurd cc

item_read : (k : Simple) (p : Place) (j : Json) → is_simple_apart k ≡ true → item_json k p ≡ Some j → SimpleRead k (item_at p) j
unfolding normal
item_read (Simples.Enumerated i) p j a e =
    let w = was_mapped string (name_at i p) j e in
    subst (λ i'. SimpleRead (Simples.Enumerated i) (item_at p) i') w.is_image (record {
      value = item_at p;
      is_there = refl;
      told = ap (option_map item_at) (item_back i p w.source a w.is_source);
      unique = tt;
    })
item_read k p j a e = absurd cc

octets_read : (k : Simple) (os : List ℕ) (j : Json) → octets_json k os ≡ Some j → SimpleRead k (octets os) j
unfolding normal
octets_read (Simples.OctetString c) os j e =
    let w = given (are_octets os) (hexadecimal os) j e in
    subst (λ i. SimpleRead (Simples.OctetString c) (octets os) i) w.1 (record { value = octets os; is_there = refl; told = ap (option_map octets) (octets_told os w.0); unique = tt })
octets_read Simples.Open os j e =
    let w = given (are_octets os) (hexadecimal os) j e in
    subst (λ i. SimpleRead Simples.Open (octets os) i) w.1 (record { value = octets os; is_there = refl; told = ap (option_map octets) (octets_told os w.0); unique = tt })
octets_read Simples.Utf8 os j e =
    let w = given (is_utf8 os) (string os) j e in
    subst (λ i. SimpleRead Simples.Utf8 (octets os) i) w.1 (record { value = octets os; is_there = refl; told = refl; unique = tt })
octets_read Simples.Text os j e =
    let w = given (are_octets os) (string (encode_utf8_all os)) j e in
    subst (λ i. SimpleRead Simples.Text (octets os) i) w.1 (record { value = octets os; is_there = refl; told = latin_back os w.0; unique = tt })
octets_read Simples.ObjectIdentifier os j e =
    let arcs = arcs_in os in
    let w = given (are_contents os) (string (dotted arcs)) j e in
    let p = and_parts (is_identifier os) (bytes_eq (contents arcs) os) w.0 in
    let f : contents arcs ≡ os = same_name (contents arcs) os p.1 in
    subst (λ i. SimpleRead Simples.ObjectIdentifier (octets os) i) w.1 (record {
      value = octets os;
      is_there = refl;
      told = arcs_told arcs (lawful arcs os f p.0) ∙ ap (λ qs. Some (octets qs)) f;
      unique = tt;
    })
octets_read k os j e = absurd cc

bits_are_read : (n : ℕ) (k : Simple) (bs : Bits) (j : Json) → bits_json n k bs ≡ Some j → SimpleRead k (bits bs) j
unfolding normal
bits_are_read n (Simples.BitString c) bs j e =
    let w = bits_read n (fixed_by c) bs j e in
    record { value = bits bs; is_there = refl; told = w.told; unique = w.unique }
bits_are_read n (Simples.NamedBits c) bs j e =
    let w = bits_read n (fixed_by c) (normal_bits (size_of (of_size c)).least bs) j e in
    record { value = bits bs; is_there = refl; told = w.told; unique = w.unique }
bits_are_read n k bs j e = absurd cc

characters_read : (k : Simple) (cs : List ℕ) (j : Json) → characters_json k cs ≡ Some j → SimpleRead k (characters cs) j
unfolding normal
characters_read (Simples.Characters s) cs j e =
    let w = given (are_plain cs) (string (encode_utf8_all cs)) j e in
    subst (λ i. SimpleRead (Simples.Characters s) (characters cs) i) w.1 (record { value = characters cs; is_there = refl; told = characters_back cs w.0; unique = tt })
characters_read Simples.UtcTime cs j e =
    let w = given (is_time utc cs && are_plain cs) (string (encode_utf8_all cs)) j e in
    let p = and_parts (is_time utc cs) (are_plain cs) w.0 in
    subst (λ i. SimpleRead Simples.UtcTime (characters cs) i) w.1 (record { value = characters cs; is_there = refl; told = time_back utc cs p.0 p.1; unique = tt })
characters_read Simples.GeneralizedTime cs j e =
    let w = given (is_time generalized cs && are_plain cs) (string (encode_utf8_all cs)) j e in
    let p = and_parts (is_time generalized cs) (are_plain cs) w.0 in
    subst (λ i. SimpleRead Simples.GeneralizedTime (characters cs) i) w.1 (record { value = characters cs; is_there = refl; told = time_back generalized cs p.0 p.1; unique = tt })
characters_read k cs j e = absurd cc

-- one level of a value, which has what its parts are in their place
abbrev pub SlotOf : Value-F Tree → Option Value
SlotOf x = slot_step (map-Value Tree (Option Value) slot_of x)

pub simple_read : (ts : _) (n : ℕ) (k : Simple) (x : Value-F Tree) (j : Json) → is_simple_apart k ≡ true → simple_json n k (map-Value Tree Known (known ts) x) ≡ Some j
    → ReadAs (SlotOf x) (simple_told k j) (normal (simple_schema k)) j
simple_read ts n k (Boolean b) j a e = truth_read k b j e
simple_read ts n k Null j a e = null_read k j e
simple_read ts n k (Integer z) j a e = number_read k z j e
simple_read ts n k (Item p) j a e = item_read k p j a e
simple_read ts n k (Octets os) j a e = octets_read k os j e
simple_read ts n k (BitsF bs) j a e = bits_are_read n k bs j e
simple_read ts n k (Characters cs) j a e = characters_read k cs j e
simple_read ts n k x j a e = absurd cc

pub date_read : (d : Day) (j : Json) → date_json d ≡ Some j → ReadAs (Some (date_value d)) (option_and_then date_told (as_str j)) (λ v. v) j
date_read d j e =
    let w = given (is_date d.year d.month d.day) (string (day_text d.year d.month d.day)) j e in
    subst (λ i. ReadAs (Some (date_value d)) (option_and_then date_told (as_str i)) (λ v. v) i) w.1 (record {
      value = date_value d;
      is_there = refl;
      told = date_back d.year d.month d.day w.0;
      unique = tt;
    })
