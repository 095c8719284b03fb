-- Which defaults are values of the types in which no other stands.
use Rattle.std.proofs.Common.{◌≡◌, refl, sym, ap, ap₂, ◌∙◌, ℕ, suc, ◌<◌, ◌^◌, Bool, true, false, ◌&&◌, List, [], ◌∷◌, length, get_or, Fits, w8, lt-ltb, IsUtf8, ◌⊎◌, inl, inr}
use Rattle.std.specs.Prelude.{is_ok, MatchResult, option_map, ℤ, Option, Some, None, Result, Ok, Err}
use Rattle.std.specs.Global.{Vec}
use Rattle.rasn_types.specs.Contents.{is_text, other, utf8}
use Rattle.rasn_types.proofs.Texts.{is_text-false, is_text-IsUtf8}
use Rattle.rasn_types.specs.Values
use Rattle.rasn_types.specs.Values.{Value, same}
use Rattle.rasn_constraints.specs.Bounds.{Bounds}
use Rattle.rasn_constraints.specs.declared.constraints.Bounded.{Bounded}
use Rattle.rasn_constraints.specs.declared.constraints.Extensible.{Extensible}
use Rattle.rasn_schema.specs.Enumerations.{addeds_of, items_of}
use Rattle.rasn_schema.specs.Forms.{named_bit_schema}
use Rattle.rasn_schema.specs.Lawful.{are_octets, if_bits, if_characters, if_octets, is_value}
use Rattle.rasn_schema.specs.Normal.{normal}
use Rattle.rasn_schema.specs.Schemas
use Rattle.rasn_schema.specs.declared.items.ItemCounts.{ItemCounts}
use Rattle.rasn_schema.specs.declared.items.Place.{Place}
use Rattle.rasn_schema.specs.declared.items.Place.TheVariants.{Root, Added}
use Rattle.rasn_dynamic.specs.declared.types.DefaultValue.{DefaultValue}
use Rattle.rasn_dynamic.specs.declared.types.DefaultValue.TheVariants
use Rattle.rasn_traits.specs.Counted.{item_at, stands_in}
use Rattle.rasn_dynamic.specs.declared.types.Simple.{Simple}
use Rattle.rasn_dynamic.specs.declared.types.Simple.TheVariants.{OctetString, Open, Text}
use Rattle.rasn_dynamic.specs.Types.{behind, default_value, of_size}
use Rattle.lawful_types.specs.TypeRules.{is_default_of_named, is_default_of_simple}

pub no_truth : (d : DefaultValue) → ((b : Bool) → d ≡ TheVariants.Boolean b → ⊥) → is_value Schemas.boolean (default_value d) ≡ false
unfolding is_value
no_truth (TheVariants.Boolean b) h = absurd (h b refl)
no_truth _ h = refl

pub no_null : (d : DefaultValue) → (d ≡ TheVariants.Null → ⊥) → is_value Schemas.null (default_value d) ≡ false
unfolding is_value
no_null TheVariants.Null h = absurd (h refl)
no_null _ h = refl

pub no_whole : (b : Bounds) (m : Bool) (r : Bounds) (d : DefaultValue) → ((z : ℤ) → d ≡ TheVariants.Integer z → ⊥) → is_value (Schemas.number b m r) (default_value d) ≡ false
unfolding is_value
no_whole b m r (TheVariants.Integer z) h = absurd (h z refl)
no_whole b m r _ h = refl

-- what isn't bits is no default of named bits
pub no_named : (c : Extensible (Bounded ℕ)) (d : DefaultValue) → ((bs : List Bool) → d ≡ TheVariants.Bits bs → ⊥) → false ≡ is_default_of_named c d
no_named c (TheVariants.Bits bs) h = absurd (h bs refl)
no_named c _ h = refl

pub named_bits : (c : Extensible (Bounded ℕ)) (bs : List Bool) (b : Bool) → if_bits (Values.bits bs) ≡ true → b ≡ same (normal (named_bit_schema (of_size c)) (Values.bits bs)) (Values.bits bs) → b ≡ is_default_of_named c (TheVariants.Bits bs)
named_bits c bs b e h = h ∙ sym (ap (λ a. a && same (normal (named_bit_schema (of_size c)) (Values.bits bs)) (Values.bits bs)) e)

pub any_bits : (bs : List Bool) → length bs < 2 ^ 64 → if_bits (Values.bits bs) ≡ true
any_bits bs l = lt-ltb (length bs) (2 ^ 64) l

pub no_item : (c : ItemCounts) (d : DefaultValue) → ((p : Place) → d ≡ TheVariants.Item p → ⊥) → is_value (items_of c) (default_value d) ≡ false
unfolding is_value
no_item c (TheVariants.Item p) h = absurd (h p refl)
no_item c _ h = refl

-- octets of a length that can be counted
octets_below : (os : List ℕ) → ((i : ℕ) → Fits w8 (get_or os i 0)) → are_octets os ≡ true
octets_below [] h = refl
octets_below (o ∷ os) h = ap₂ (λ a b. a && b) (lt-ltb o 256 (h 0).fits) (octets_below os (λ i. h (suc i)))

pub any_octets : (os : List ℕ) → length os < 2 ^ 64 → ((i : ℕ) → Fits w8 (get_or os i 0)) → if_octets (λ os. true) (Values.octets os) ≡ true
any_octets os l h = ap₂ (λ a b. a && (b && true)) (lt-ltb (length os) (2 ^ 64) l) (octets_below os h)

pub any_characters : (cs : List ℕ) → length cs < 2 ^ 64 → if_characters (λ cs. true) (Values.characters cs) ≡ true
any_characters cs l = ap (λ a. a && true) (lt-ltb (length cs) (2 ^ 64) l)

-- a text of any octets
pub other_text : (v : Value) → if_octets (λ os. true) v ≡ is_value (Schemas.text other) v
unfolding is_value is_text
other_text _ = refl

-- kinds whose values are any octets
pub octets_kind : (k : Simple) (d : DefaultValue) → ((x : Extensible (Bounded ℕ)) × (k ≡ OctetString x)) ⊎ ((k ≡ Text) ⊎ (k ≡ Open)) → if_octets (λ os. true) (default_value d) ≡ is_default_of_simple d k
unfolding is_value
octets_kind k d (inl h) = rw h.1 refl
octets_kind k d (inr (inl h)) = rw h (other_text (default_value d))
octets_kind k d (inr (inr h)) = rw h refl

-- as many items after the extension marker
pub after_counted : {A : Type 0} (o : Option (Vec A)) → length (behind o) ≡ addeds_of (option_map (λ v. length v.items) o)
after_counted None = refl
after_counted (Some v) = refl

-- the item at a place
pub this_item : (c : ItemCounts) (p : Place) → stands_in c p ≡ is_value (items_of c) (item_at p)
unfolding is_value
this_item c (Root i) = refl
this_item c (Added i) = refl

-- whether octets are told to be UTF-8
pub utf8_told : {S E : Type 0} (P : S → Type 0) (Q : E → Type 0) (b : List ℕ) (r : Result S E) → MatchResult r (λ s. P s × IsUtf8 b) (λ e. ¬ (IsUtf8 b) × Q e) → is_ok r ≡ is_text utf8 b
utf8_told P Q b (Ok s) h = sym (is_text-IsUtf8 b h.1)
utf8_told P Q b (Err e) h = sym (is_text-false b h.0)
