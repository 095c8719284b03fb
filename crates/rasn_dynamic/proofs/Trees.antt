-- What a run-time value is, by its outermost level.
use Rattle.std.proofs.Common.{◌≡◌, refl, sym, ap, ap₂, ◌∙◌, subst, ℕ, zero, suc, ◌<◌, ◌≤◌, length, get_or, Bool, true, false, List, [], ◌∷◌, map, Option, Some, None, arith}
use Rattle.std.specs.Prelude.{max}
use Rattle.rasn_types.specs.Values.{Value as Content, alternative, bag_of}
use Rattle.rasn_schema.specs.Lists.{deepest}
use Rattle.rasn_schema.specs.Structures.{list_value, record_value, is_of_kind}
use Rattle.rasn_schema.specs.Schemas
use Rattle.rasn_traits.specs.Counted.{index_in, side_of}
use Rattle.rasn_dynamic.specs.declared.values.Value.{Value}
use Rattle.rasn_dynamic.specs.declared.values.Value.TheOpen.{Value-F, Absent, Boolean, Null, Integer, Item, Octets, Bits, Characters, Date, Elements, Bag, Fields, Alternative}
use Rattle.rasn_dynamic.specs.declared.values.Value.TheViews
use Rattle.rasn_dynamic.specs.declared.values.Value.TheViews.{roll-Value}
use Rattle.rasn_dynamic.specs.declared.values.Value.TheVariants
use Rattle.rasn_dynamic.specs.declared.values.Value.TheVariants.{rolls-Boolean, rolls-Null, rolls-Integer, rolls-Item, rolls-Octets, rolls-Bits, rolls-Characters, rolls-Date, rolls-Elements, rolls-Bag, rolls-Fields, rolls-Alternative, rolls-Absent}
use Rattle.rasn_dynamic.specs.declared.values.Value.TheFolds.{fold-roll-Value, map-Value, ind-Value}
use Rattle.rasn_dynamic.specs.Values.{levels_of, levels_step, slot_of, slot_step, there, value_of}
use Rattle.rasn_dynamic.specs.Values.{NotTruth, NotNull, NotWhole, NotItem, NotOctets, NotBits, NotCharacters, NotDate, NotElements, NotBag, NotFields, NotAlternative}

roll_slot : (x : Value-F Value) → slot_of (roll-Value x) ≡ slot_step (map-Value Value (Option Content) slot_of x)
roll_slot x = fold-roll-Value (Option Content) slot_step x

roll_levels : (x : Value-F Value) → levels_of (roll-Value x) ≡ levels_step (map-Value Value ℕ levels_of x)
roll_levels x = fold-roll-Value ℕ levels_step x

-- values that aren't of a variant
abbrev Untruth : Value → Type 0
Untruth v = ((y : _) → v ≡ TheVariants.Boolean y → ⊥) → NotTruth (value_of v)

untruth_roll : (x : Value-F Value) → Untruth (roll-Value x)
unfolding bag_of
untruth_roll (Boolean y) h = absurd (h y (rolls-Boolean y))
untruth_roll x h = subst NotTruth (sym (ap there (roll_slot x))) refl

pub not_truth : (v : Value) → Untruth v
not_truth = ind-Value Untruth (λ x y is. untruth_roll x)

abbrev Unnull : Value → Type 0
Unnull v = (v ≡ TheVariants.Null → ⊥) → NotNull (value_of v)

unnull_roll : (x : Value-F Value) → Unnull (roll-Value x)
unfolding bag_of
unnull_roll Null h = absurd (h rolls-Null)
unnull_roll x h = subst NotNull (sym (ap there (roll_slot x))) refl

pub not_null : (v : Value) → Unnull v
not_null = ind-Value Unnull (λ x y is. unnull_roll x)

abbrev Unwhole : Value → Type 0
Unwhole v = ((y : _) → v ≡ TheVariants.Integer y → ⊥) → NotWhole (value_of v)

unwhole_roll : (x : Value-F Value) → Unwhole (roll-Value x)
unfolding bag_of
unwhole_roll (Integer y) h = absurd (h y (rolls-Integer y))
unwhole_roll x h = subst NotWhole (sym (ap there (roll_slot x))) (λ b r mark. refl)

pub not_whole : (v : Value) → Unwhole v
not_whole = ind-Value Unwhole (λ x y is. unwhole_roll x)

abbrev Unitem : Value → Type 0
Unitem v = ((y : _) → v ≡ TheVariants.Item y → ⊥) → NotItem (value_of v)

unitem_roll : (x : Value-F Value) → Unitem (roll-Value x)
unfolding bag_of
unitem_roll (Item y) h = absurd (h y (rolls-Item y))
unitem_roll x h = subst NotItem (sym (ap there (roll_slot x))) (λ r a mark. refl)

pub not_item : (v : Value) → Unitem v
not_item = ind-Value Unitem (λ x y is. unitem_roll x)

abbrev Unoctets : Value → Type 0
Unoctets v = ((y : _) → v ≡ TheVariants.Octets y → ⊥) → NotOctets (value_of v)

unoctets_roll : (x : Value-F Value) → Unoctets (roll-Value x)
unfolding bag_of
unoctets_roll (Octets y) h = absurd (h y (rolls-Octets y))
unoctets_roll x h = subst NotOctets (sym (ap there (roll_slot x))) (record { no_octets = λ size mark. refl; no_open = refl; no_text = λ kind. refl; no_identifier = refl })

pub not_octets : (v : Value) → Unoctets v
not_octets = ind-Value Unoctets (λ x y is. unoctets_roll x)

abbrev Unbits : Value → Type 0
Unbits v = ((y : _) → v ≡ TheVariants.Bits y → ⊥) → NotBits (value_of v)

unbits_roll : (x : Value-F Value) → Unbits (roll-Value x)
unfolding bag_of
unbits_roll (Bits y) h = absurd (h y (rolls-Bits y))
unbits_roll x h = subst NotBits (sym (ap there (roll_slot x))) (λ size mark named. refl)

pub not_bits : (v : Value) → Unbits v
not_bits = ind-Value Unbits (λ x y is. unbits_roll x)

abbrev Uncharacters : Value → Type 0
Uncharacters v = ((y : _) → v ≡ TheVariants.Characters y → ⊥) → NotCharacters (value_of v)

uncharacters_roll : (x : Value-F Value) → Uncharacters (roll-Value x)
unfolding bag_of
uncharacters_roll (Characters y) h = absurd (h y (rolls-Characters y))
uncharacters_roll x h = subst NotCharacters (sym (ap there (roll_slot x))) (record { no_string = λ own size mark. refl; no_time = λ kind. refl })

pub not_characters : (v : Value) → Uncharacters v
not_characters = ind-Value Uncharacters (λ x y is. uncharacters_roll x)

abbrev Undate : Value → Type 0
Undate v = ((y : _) → v ≡ TheVariants.Date y → ⊥) → NotDate (value_of v)

undate_roll : (x : Value-F Value) → Undate (roll-Value x)
unfolding bag_of
undate_roll (Date y) h = absurd (h y (rolls-Date y))
undate_roll x h = subst NotDate (sym (ap there (roll_slot x))) refl

pub not_date : (v : Value) → Undate v
not_date = ind-Value Undate (λ x y is. undate_roll x)

abbrev Unelements : Value → Type 0
Unelements v = ((y : _) → v ≡ TheViews.Elements y → ⊥) → NotElements (value_of v)

unelements_roll : (x : Value-F Value) → Unelements (roll-Value x)
unfolding bag_of
unelements_roll (Elements y) h = absurd (h y (rolls-Elements y))
unelements_roll x h = subst NotElements (sym (ap there (roll_slot x))) (λ s size mark. refl)

pub not_elements : (v : Value) → Unelements v
not_elements = ind-Value Unelements (λ x y is. unelements_roll x)

abbrev Unbag : Value → Type 0
Unbag v = ((y : _) → v ≡ TheViews.Bag y → ⊥) → NotBag (value_of v)

unbag_roll : (x : Value-F Value) → Unbag (roll-Value x)
unfolding bag_of
unbag_roll (Bag y) h = absurd (h y (rolls-Bag y))
unbag_roll x h = subst NotBag (sym (ap there (roll_slot x))) (λ s size mark. refl)

pub not_bag : (v : Value) → Unbag v
not_bag = ind-Value Unbag (λ x y is. unbag_roll x)

abbrev Unfields : Value → Type 0
Unfields v = ((y z : _) → v ≡ TheViews.Fields y z → ⊥) → NotFields (value_of v)

unfields_roll : (x : Value-F Value) → Unfields (roll-Value x)
unfolding bag_of
unfields_roll (Fields y z) h = absurd (h y z (rolls-Fields y z))
unfields_roll x h = subst NotFields (sym (ap there (roll_slot x))) (λ o ps qs mark. refl)

pub not_fields : (v : Value) → Unfields v
not_fields = ind-Value Unfields (λ x y is. unfields_roll x)

abbrev Unalternative : Value → Type 0
Unalternative v = ((y z : _) → v ≡ TheViews.Alternative y z → ⊥) → NotAlternative (value_of v)

unalternative_roll : (x : Value-F Value) → Unalternative (roll-Value x)
unfolding bag_of
unalternative_roll (Alternative y z) h = absurd (h y z (rolls-Alternative y z))
unalternative_roll x h = subst NotAlternative (sym (ap there (roll_slot x))) (λ ps qs mark. refl)

pub not_alternative : (v : Value) → Unalternative v
not_alternative = ind-Value Unalternative (λ x y is. unalternative_roll x)

deepest_there : (vs : List Value) → deepest (λ n. n) (map levels_of vs) ≡ deepest levels_of vs
deepest_there [] = refl
deepest_there (v ∷ vs) = ap (max (levels_of v)) (deepest_there vs)

all_there : (vs : List Value) → map there (map slot_of vs) ≡ map value_of vs
all_there [] = refl
all_there (v ∷ vs) = ap (λ ws. value_of v ∷ ws) (all_there vs)

-- values of a variant
pub elements_value : (v : Value) (x : _) → v ≡ roll-Value (Elements x) → value_of v ≡ list_value (map value_of x.items)
elements_value v x e = ap value_of e ∙ ap there (roll_slot (Elements x)) ∙ ap list_value (all_there x.items)

pub elements_levels : (v : Value) (x : _) → v ≡ roll-Value (Elements x) → levels_of v ≡ suc (deepest levels_of x.items)
elements_levels v x e = ap levels_of e ∙ roll_levels (Elements x) ∙ ap suc (deepest_there x.items)

pub fields_value : (v : Value) (x y : _) → v ≡ roll-Value (Fields x y) → value_of v ≡ record_value (map slot_of x.items) (map slot_of y.items)
fields_value v x y e = ap value_of e ∙ ap there (roll_slot (Fields x y))

pub fields_levels : (v : Value) (x y : _) → v ≡ roll-Value (Fields x y) → levels_of v ≡ suc (max (deepest levels_of x.items) (deepest levels_of y.items))
fields_levels v x y e = ap levels_of e ∙ roll_levels (Fields x y) ∙ ap₂ (λ a b. suc (max a b)) (deepest_there x.items) (deepest_there y.items)

pub alternative_value : (v : Value) (p x : _) → v ≡ roll-Value (Alternative p x) → value_of v ≡ alternative (side_of p) (index_in p) (value_of x.value)
alternative_value v p x e = ap value_of e ∙ ap there (roll_slot (Alternative p x))

pub alternative_levels : (v : Value) (p x : _) → v ≡ roll-Value (Alternative p x) → levels_of v ≡ suc (levels_of x.value)
alternative_levels v p x e = ap levels_of e ∙ roll_levels (Alternative p x)

pub alternative_slot : (p x : _) → slot_of (TheViews.Alternative p x) ≡ Some (alternative (side_of p) (index_in p) (value_of x.value))
alternative_slot p x = ap slot_of (sym (rolls-Alternative p x)) ∙ roll_slot (Alternative p x)

pub bag_value : (v : Value) (x : _) → v ≡ roll-Value (Bag x) → value_of v ≡ bag_of (map value_of x.items)
bag_value v x e = ap value_of e ∙ ap there (roll_slot (Bag x)) ∙ ap bag_of (all_there x.items)

pub bag_levels : (v : Value) (x : _) → v ≡ roll-Value (Bag x) → levels_of v ≡ suc (deepest levels_of x.items)
bag_levels v x e = ap levels_of e ∙ roll_levels (Bag x) ∙ ap suc (deepest_there x.items)

-- a value that takes no level isn't one that is cut off
abbrev Uncut : Value → Type 0
Uncut v = levels_of v ≤ 0 → is_of_kind Schemas.cut (value_of v) ≡ false

uncut_roll : (x : Value-F Value) → Uncut (roll-Value x)
unfolding bag_of
uncut_roll (Fields y z) h = absurd (omega (arith, h, fields_levels (roll-Value (Fields y z)) y z refl))
uncut_roll x h = subst (λ v. is_of_kind Schemas.cut v ≡ false) (sym (ap there (roll_slot x))) refl

pub not_cut : (v : Value) → levels_of v ≤ 0 → is_of_kind Schemas.cut (value_of v) ≡ false
not_cut = ind-Value Uncut (λ x y is. uncut_roll x)

-- an element takes no more levels than the deepest
pub deepest_at : (vs : List Value) (i : ℕ) (v : Value) → i < length vs → v ≡ get_or vs i v → levels_of v ≤ deepest levels_of vs
deepest_at [] i v l e = absurd (omega (arith, l))
deepest_at (w ∷ vs) zero v l e = subst (λ u. levels_of u ≤ max (levels_of w) (deepest levels_of vs)) (sym e) (omega arith)
deepest_at (w ∷ vs) (suc i) v l e = let h = deepest_at vs i v (omega (arith, l)) e in omega (arith, h)

pub absent_slot : slot_of TheVariants.Absent ≡ None
absent_slot = ap slot_of (sym rolls-Absent) ∙ roll_slot Absent

pub fields_slot : (x y : _) → slot_of (TheViews.Fields x y) ≡ Some (record_value (map slot_of x.items) (map slot_of y.items))
fields_slot x y = ap slot_of (sym (rolls-Fields x y)) ∙ roll_slot (Fields x y)

pub elements_slot : (x : _) → slot_of (TheViews.Elements x) ≡ Some (list_value (map value_of x.items))
elements_slot x = ap slot_of (sym (rolls-Elements x)) ∙ roll_slot (Elements x) ∙ ap (λ vs. Some (list_value vs)) (all_there x.items)

pub bag_slot : (x : _) → slot_of (TheViews.Bag x) ≡ Some (bag_of (map value_of x.items))
bag_slot x = ap slot_of (sym (rolls-Bag x)) ∙ roll_slot (Bag x) ∙ ap (λ vs. Some (bag_of vs)) (all_there x.items)

-- what is there is its value
pub slot_there : (v : Value) (w : Content) → slot_of v ≡ Some w → slot_of v ≡ Some (value_of v)
slot_there v w e = e ∙ ap (λ o. Some (there o)) (sym e)

pub value_there : (v : Value) (w : Content) → slot_of v ≡ Some w → value_of v ≡ w
value_there v w e = ap there e
