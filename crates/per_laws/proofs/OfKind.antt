-- What is spelled is a value of its schema, whose defaults are.
use Rattle.std.proofs.Common.{◌≡◌, refl, sym, ap, ap₂, ◌∙◌, subst, ℕ, zero, suc, ◌≤◌, ◌^◌, ◌<◌, ◌⊎◌, Bool, true, false, ltb, lt-ltb, ◌&&◌, ◌||◌, List, [], ◌∷◌, length, arith, inl, inr, Option, Some, None}
use Rattle.rasn_types.specs.Bits.{Bits}
use Rattle.rasn_types.specs.Contents.{is_text, is_time, is_identifier}
use Rattle.rasn_types.specs.Values.{Value, octets, characters, item, elements, as_values, values, slots, as_slots, fields, bag, bag_of, alternative, Side, root, added, before, code, sorted}
use Rattle.rasn_types.proofs.Bits.{number_below}
use Rattle.rasn_types.proofs.Values.{values-as_values, slots-as_slots}
use Rattle.rasn_constraints.specs.Bounds.{allows, any_size, at_least, at_most, Size}
use Rattle.rasn_schema.specs.Depth.{any_of, in_alternative, in_elements, in_fields, meets_cut, slots_meet_cut, meets_cut_at}
use Rattle.rasn_schema.specs.Lawful.{all_pass, is_countable, if_octets, if_characters, if_truth, if_nothing, if_day, if_whole, if_item, if_bits, if_elements, if_bag, if_fields, if_alternative, slot_passes, is_value, are_values, is_value_at, IsLawful, AreLawful, IsLawfulPresence}
use Rattle.rasn_schema.specs.Schemas.{Presence, required, optional, group, default, Schema, Parts, no_parts, part, tags}
use Rattle.per_core.specs.Basic.{Char, Choice, Chosen, Counted, Item, octet, basic_in, rules_in}
use Rattle.per_core.specs.Counts.{ItemKind, list_items, octet_items, bit_items, char_items}
use Rattle.per_core.specs.Spellings.{Settings, Spelling}
use Rattle.per_core.specs.ItemCounts.{Each}
use Rattle.per_core.specs.Writers.{after}
use Rattle.rasn_schema.proofs.Bags.{any_in_bag}
use Rattle.per_core.proofs.LengthCounts.{then_length}
use Rattle.per_core.proofs.HeldIn.{HeldIn, SlotHeld, SlotsHeld, lengthy_held, open_held, fields_held, each_map}
use Rattle.per_core.proofs.LengthForms.{and_right, or_left, or_right}
use Rattle.per_laws.proofs.Valued.{bag_passes}

-- no list has more members than `usize::MAX`
allowed_countable : {X : Type 0} (size : Size) (xs : List X) → allows size (length xs) ≡ true → is_countable xs ≡ true
allowed_countable size xs h = and_right (at_most size.most (length xs)) (ltb (length xs) (2 ^ 64))
    (and_right (at_least size.least (length xs)) (at_most size.most (length xs) && ltb (length xs) (2 ^ 64)) h)

counted_countable : {X : Type 0} (a : Settings) (size : Size) (mark : Bool) (kind : ItemKind) (spells : X → Spelling) (xs : List X) (p : ℕ) (b : Bits) →
    Counted a size mark kind spells xs p b → is_countable xs ≡ true
counted_countable a size false kind spells xs p b x = allowed_countable size xs x.allowed
counted_countable a size true kind spells xs p b (inl x) = allowed_countable size xs x.is_rest.allowed
counted_countable a size true kind spells xs p b (inr x) = allowed_countable any_size xs x.is_rest.allowed

-- a test that each passes
all_of_each : {X : Type 0} (f : X → Bool) (xs : List X) → Each (λ x. f x ≡ true) xs → all_pass f xs ≡ true
all_of_each f [] h = refl
all_of_each f (x ∷ xs) h = ap₂ (λ a b. a && b) h.0 (all_of_each f xs h.1)

-- a fact of each of those that don't meet a cut
each_uncut : (K : Value → Bool) (P Q : Value → Type 0) → ((v : Value) → K v ≡ false → P v → Q v) → (vs : List Value) → any_of K vs ≡ false → Each P vs → Each Q vs
each_uncut K P Q f [] c h = tt
each_uncut K P Q f (v ∷ vs) c h = (f v (or_left (K v) (any_of K vs) c) h.0, each_uncut K P Q f vs (or_right (K v) (any_of K vs) c) h.1)

-- an octet is below 256
octet_fits : (m o : ℕ) → HeldIn m (octet o) → ltb o 256 ≡ true
octet_fits m o x =
    let n = number_below x.bits in
    let l : 2 ^ length x.bits ≡ 256 = ap (λ (k : ℕ). 2 ^ k) x.spelled.wide in
    let e = x.spelled.means in lt-ltb o 256 (omega arith)

octets_pass : (m : ℕ) (a : Settings) (size : Size) (mark : Bool) (f : List ℕ → Bool) (os : List ℕ) (p : ℕ) (b : Bits) → length b ≤ m → Counted a size mark octet_items octet os p b →
    f os ≡ true → if_octets f (octets os) ≡ true
octets_pass m a size mark f os p b h x k = ap₂ (λ c d. c && d) (counted_countable a size mark octet_items octet os p b x)
    (ap₂ (λ c d. c && d)
    (all_of_each (λ o. ltb o 256) os (each_map (λ o. HeldIn m (octet o)) (λ o. ltb o 256 ≡ true) (octet_fits m) os (lengthy_held a m octet size mark octet_items os p b h x))) k)

-- an item is one of the schema's
item_known : (a : Settings) (r e : ℕ) (ext : Bool) (d : Side) (i p : ℕ) (b : Bits) → Item a r e ext d i p b → if_item r e (item d i) ≡ true
item_known a r e ext root i p b x = lt-ltb i r x.is_rest.below
item_known a r e ext added i p b x = lt-ltb i e x.is_rest.known

-- the alternative that is chosen
chosen_passes : (m : ℕ) (a : Settings) (u ext : Bool) (ps adds : Parts) (K L f g : ℕ → Value → Bool)
    → ((i : ℕ) (w : Value) → K i w ≡ false → HeldIn m (Chosen (rules_in a u ps) i w) → f i w ≡ true)
    → ((i : ℕ) (w : Value) → L i w ≡ false → HeldIn m (Chosen (rules_in a u adds) i w) → g i w ≡ true)
    → (d : Side) (i : ℕ) (w : Value) (p : ℕ) (b : Bits) → length b ≤ m → in_alternative K L (alternative d i w) ≡ false → Choice a ext (rules_in a u ps) (rules_in a u adds) d i w p b
    → if_alternative f g (alternative d i w) ≡ true
chosen_passes m a u ext ps adds K L f g r q root i w p b h c x =
    let y = x.is_rest in
    let l = then_length x in
    let n = then_length y in
    r i w c (record { at = after (after p x.front) y.front; bits = y.rest; fits = omega arith; spelled = y.is_rest })
chosen_passes m a u ext ps adds K L f g r q added i w p b h c x =
    let y = x.is_rest in
    let l = then_length x in
    let n = then_length y in
    q i w c (open_held a m (Chosen (rules_in a u adds) i w) (after (after p x.front) y.front) y.rest (omega arith) y.is_rest)

-- a part that is left out, and one that is there
absent_passes : (m : ℕ) (p : Presence) (f : Value → Bool) (spells : Value → Spelling) → SlotHeld m (record { presence = p; spells = spells }) None → slot_passes p f None ≡ true
absent_passes m required f spells (inl l) = absurd l
absent_passes m optional f spells (inl l) = refl
absent_passes m group f spells (inl l) = refl
absent_passes m (default d) f spells (inl l) = absurd cc
absent_passes m p f spells (inr y) = let e : ◌≡◌ {A = Option Value} None (Some y.0) = y.1 in absurd cc

unfoldable default_passes : (s : Schema) (d v : Value) → IsLawfulPresence s (default d) → meets_cut s v ≡ false → v ≡ d → is_value s v ≡ true
default_passes s d v l c e = subst (λ w. is_value s w ≡ true) (sym e) (l.is_of_kind (subst (λ w. meets_cut s w ≡ false) e c))

there_passes : (m : ℕ) (p : Presence) (s : Schema) (spells : Value → Spelling) (v : Value) → IsLawfulPresence s p → meets_cut s v ≡ false
    → ((w : Value) → meets_cut s w ≡ false → HeldIn m (spells w) → is_value s w ≡ true) → SlotHeld m (record { presence = p; spells = spells }) (Some v) → is_value s v ≡ true
there_passes m required s spells v l c f (inl h) = absurd h
there_passes m optional s spells v l c f (inl h) = absurd cc
there_passes m group s spells v l c f (inl h) = absurd cc
there_passes m (default d) s spells v l c f (inl h) = default_passes s d v l c (cc)
there_passes m p s spells v l c f (inr y) = let e : ◌≡◌ {A = Option Value} (Some v) (Some y.0) = y.1 in let i : y.0 ≡ v = cc in
    f v c (subst (λ w. HeldIn m (spells w)) i y.2)

-- a bag's members don't meet a cut where it doesn't
bag_uncut : (K : Value → Bool) (v : Value) (vs : List Value) → v ≡ bag_of vs → in_elements K v ≡ false → any_of K vs ≡ false
unfolding bag_of
bag_uncut K v vs e c =
    let less : Value → Value → Bool = λ v w. before (code v) (code w) in
    any_in_bag K vs (subst (λ ws. any_of K ws ≡ false) (values-as_values (sorted less vs)) (subst (λ w. in_elements K w ≡ false) e c))

mutual
  unfolding is_value are_values is_value_at meets_cut slots_meet_cut meets_cut_at basic_in rules_in IsLawful AreLawful

  -- all kinds
  pub of_kind : (m : ℕ) (a : Settings) (u : Bool) (s : Schema) (v : Value) → IsLawful s → meets_cut s v ≡ false → HeldIn m (basic_in a u s v) → is_value s v ≡ true
  of_kind m a u Schema.boolean v l c x = ap if_truth x.spelled.is
  of_kind m a u Schema.null v l c x = ap if_nothing x.spelled.is
  of_kind m a u Schema.real v l c x = absurd x.spelled
  of_kind m a u Schema.cut v l c x = absurd x.spelled
  of_kind m a u Schema.any v l c x = let y = x.spelled in
      ap (if_octets (λ os. true)) y.is ∙ octets_pass m a any_size false (λ os. true) y.of x.at x.bits x.fits y.spelled refl
  of_kind m a u (Schema.text kind) v l c x = let y = x.spelled in
      ap (if_octets (is_text kind)) y.is ∙ octets_pass m a any_size false (is_text kind) y.of x.at x.bits x.fits y.spelled.1 y.spelled.0
  of_kind m a u Schema.identifier v l c x = let y = x.spelled in
      ap (if_octets is_identifier) y.is ∙ octets_pass m a any_size false is_identifier y.of x.at x.bits x.fits y.spelled.1 y.spelled.0
  of_kind m a u (Schema.time kind) v l c x = let y = x.spelled in
      ap (if_characters (is_time kind)) y.is ∙ ap₂ (λ b d. b && d) (counted_countable a any_size false _ _ y.of x.at x.bits y.spelled.1) y.spelled.0
  of_kind m a u Schema.date v l c x = ap if_day x.spelled.is ∙ x.spelled.spelled.is_day
  of_kind m a u (Schema.number bounds mark range) v l c x = ap (if_whole range) x.spelled.is ∙ x.spelled.spelled.in_range
  of_kind m a u (Schema.items r e ext) v l c x = let y = x.spelled in
      ap (if_item r e) y.is ∙ item_known a r e ext y.of.0 y.of.1 x.at x.bits y.spelled
  of_kind m a u (Schema.octet_string size mark) v l c x = let y = x.spelled in
      ap (if_octets (λ os. true)) y.is ∙ octets_pass m a size mark (λ os. true) y.of x.at x.bits x.fits y.spelled refl
  of_kind m a u (Schema.bit_string size mark named) v l c x = let y = x.spelled in ap if_bits y.is ∙ counted_countable a size mark _ _ y.of x.at x.bits y.spelled
  of_kind m a u (Schema.char_string alphabet size mark) v l c x = let y = x.spelled in
      ap (if_characters (λ cs. true)) y.is ∙ ap₂ (λ b d. b && d) (counted_countable a size mark _ _ y.of x.at x.bits y.spelled) refl
  of_kind m a u (Schema.containing e) v l c x = of_kind m a u e v l c (open_held a m (basic_in a u e v) x.at x.bits x.fits x.spelled)
  of_kind m a u (Schema.list e size mark) v l c x =
      let y = x.spelled in
      let each = lengthy_held a m (basic_in a u e) size mark list_items y.of x.at x.bits x.fits y.spelled in
      let k : any_of (meets_cut e) y.of ≡ false = subst (λ vs. any_of (meets_cut e) vs ≡ false) (values-as_values y.of) (subst (λ w. in_elements (meets_cut e) w ≡ false) y.is c) in
      let all = each_uncut (meets_cut e) (λ w. HeldIn m (basic_in a u e w)) (λ w. is_value e w ≡ true) (λ w j h. of_kind m a u e w l.1 j h) y.of k each in
      ap (if_elements (is_value e)) y.is ∙ ap (λ vs. is_countable vs && all_pass (is_value e) vs) (values-as_values y.of)
      ∙ ap₂ (λ b d. b && d) (counted_countable a size mark _ _ y.of x.at x.bits y.spelled) (all_of_each (is_value e) y.of all)
  of_kind m a u (Schema.set_of e size mark) v l c x =
      let y = x.spelled in
      let each = lengthy_held a m (basic_in a u e) size mark list_items y.of x.at x.bits x.fits y.spelled in
      let all = each_uncut (meets_cut e) (λ w. HeldIn m (basic_in a u e w)) (λ w. is_value e w ≡ true) (λ w j h. of_kind m a u e w l.1 j h) y.of (bag_uncut (meets_cut e) v y.of y.is c) each in
      ap (if_bag (is_value e)) y.is ∙ bag_passes (is_value e) y.of (counted_countable a size mark _ _ y.of x.at x.bits y.spelled) (all_of_each (is_value e) y.of all)
  of_kind m a u (Schema.sequence o ps ext adds) v l c x =
      let y = x.spelled in
      let r = fields_held m a u ext o (tags ps) (rules_in a u ps) (rules_in a u adds) y.of.0 y.of.1 x.at x.bits x.fits y.spelled in
      let k : (slots_meet_cut ps (slots (as_slots y.of.0)) || slots_meet_cut adds (slots (as_slots y.of.1))) ≡ false = subst (λ w. in_fields (slots_meet_cut ps) (slots_meet_cut adds) w ≡ false) y.is c in
      let k0 = subst (λ ss. slots_meet_cut ps ss ≡ false) (slots-as_slots y.of.0) (or_left (slots_meet_cut ps (slots (as_slots y.of.0))) (slots_meet_cut adds (slots (as_slots y.of.1))) k) in
      let k1 = subst (λ ss. slots_meet_cut adds ss ≡ false) (slots-as_slots y.of.1) (or_right (slots_meet_cut ps (slots (as_slots y.of.0))) (slots_meet_cut adds (slots (as_slots y.of.1))) k) in
      ap (if_fields (are_values ps) (are_values adds)) y.is
      ∙ ap₂ (λ b d. b && d) (ap (are_values ps) (slots-as_slots y.of.0) ∙ parts_of_kind m a u ps y.of.0 l.1 k0 r.0)
      (ap (are_values adds) (slots-as_slots y.of.1) ∙ parts_of_kind m a u adds y.of.1 l.2 k1 r.1)
  of_kind m a u (Schema.choice ps adds ext) v l c x =
      let y = x.spelled in
      ap (if_alternative (is_value_at ps) (is_value_at adds)) y.is
      ∙ chosen_passes m a u ext ps adds (meets_cut_at ps) (meets_cut_at adds) (is_value_at ps) (is_value_at adds) (λ i w j h. alternative_of_kind m a u ps i w l.1 j h)
      (λ i w j h. alternative_of_kind m a u adds i w l.2 j h) y.of.0 y.of.1 y.of.2 x.at x.bits x.fits (subst (λ w. in_alternative (meets_cut_at ps) (meets_cut_at adds) w ≡ false) y.is c) y.spelled

  -- parts and additions
  parts_of_kind : (m : ℕ) (a : Settings) (u : Bool) (ps : Parts) (ss : List (Option Value)) → AreLawful ps → slots_meet_cut ps ss ≡ false → SlotsHeld m (rules_in a u ps) ss → are_values ps ss ≡ true
  parts_of_kind m a u no_parts [] l c x = refl
  parts_of_kind m a u no_parts (o ∷ ss) l c x = absurd x
  parts_of_kind m a u (part t p s ps) [] l c x = absurd x
  parts_of_kind m a u (part t p s ps) (None ∷ ss) l c x =
      ap₂ (λ b d. b && d) (absent_passes m p (is_value s) (basic_in a u s) x.0) (parts_of_kind m a u ps ss l.2 c x.1)
  parts_of_kind m a u (part t p s ps) (Some v ∷ ss) l c x =
      ap₂ (λ b d. b && d) (there_passes m p s (basic_in a u s) v l.0 (or_left (meets_cut s v) (slots_meet_cut ps ss) c) (λ w j h. of_kind m a u s w l.1 j h) x.0)
      (parts_of_kind m a u ps ss l.2 (or_right (meets_cut s v) (slots_meet_cut ps ss) c) x.1)

  -- the alternative at a place
  alternative_of_kind : (m : ℕ) (a : Settings) (u : Bool) (ps : Parts) (i : ℕ) (v : Value) → AreLawful ps → meets_cut_at ps i v ≡ false → HeldIn m (Chosen (rules_in a u ps) i v) → is_value_at ps i v ≡ true
  alternative_of_kind m a u no_parts i v l c x = absurd x.spelled
  alternative_of_kind m a u (part t p s ps) zero v l c x = of_kind m a u s v l.1 c x
  alternative_of_kind m a u (part t p s ps) (suc i) v l c x = alternative_of_kind m a u ps i v l.2 c x

pub spelled_of_kind : (a : Settings) (u : Bool) (s : Schema) (v : Value) (p : ℕ) (b : Bits) → IsLawful s → meets_cut s v ≡ false → basic_in a u s v p b → is_value s v ≡ true
spelled_of_kind a u s v p b l c x = of_kind (length b) a u s v l c (record { at = p; bits = b; fits = omega arith; spelled = x })
