-- What is spelled with zero padding is spelled, as the same value, where padding is any bits.
use Rattle.std.proofs.Common.{◌≡◌, refl, sym, ◌∙◌, subst, ℕ, zero, suc, ◌+◌, ◌-◌, Bool, true, false, cond, ◌&&◌, leb, ltb, eqb, List, [], ◌∷◌, length, inl, inr, Option, Some, None, ℤ, pos}
use Rattle.rasn_types.specs.Alphabets.{visible, char_width}
use Rattle.rasn_types.specs.Contents.{is_text, is_time, is_identifier}
use Rattle.rasn_types.specs.Values.{Value, whole, characters, elements, bag_of, fields, alternative, day, Side, root, added, as_values, as_slots}
use Rattle.rasn_types.specs.Variants.{Variant, aligned, unaligned}
use Rattle.rasn_constraints.specs.Bounds.{above, Bounds, Size, any_size, unbounded}
use Rattle.rasn_schema.specs.Orders.{ordered}
use Rattle.rasn_schema.specs.Schemas.{tags, Schema, Parts, no_parts, part}
use Rattle.per_core.specs.Basic
use Rattle.per_core.specs.Basic.{constrained_by, IsConstrainedWhole, InOctets, InFragments, UnconstrainedLength, PaddingIf, length_form, Sized, Marked, Counted, octet, bit, Octets, IsSemiConstrainedWhole, IsUnconstrainedWhole, number_spelling, IsNumber, IsNumberOf, at_least_zero, Small, Fills, Open, Rule, Unknown_in, Additions_in, IsBitmap, Record_in, Chosen, Char, String, YearIn, year_form, IsDay, As, Proper, basic_in, rules_in, fills}
use Rattle.per_core.specs.Counts.{ItemKind, list_items, octet_items, bit_items, char_items, is_aligned}
use Rattle.per_core.specs.Spellings.{Settings, Spelling, exactly, Then, AnyPadding, BitField}
use Rattle.per_core.proofs.LengthForms.{Zip}
use Rattle.per_core.proofs.Readings.{length-rules-in}
use Rattle.per_laws.proofs.Carry.{Carry, kept, then_carry, either_carry, when_carry, fills_carry, lengthy_carry, AllLead, carries, contained_carry}
use Rattle.per_laws.proofs.Carrying.{as_carry, additions_step, record_as, choice_as, rules_on}
use Rattle.per_laws.proofs.DeeperTrees.{Equal, equals, part_equal, along_equal, list_kept, bag_kept, Nothing, none_in, on_either}

abbrev pub loose : Settings → Settings
loose a = record { variant = a.variant; strict = false }

made_carry : {X : Type 0} (make : X → Value) (f g : X → Spelling) → ((x : X) → Carry (f x) (g x)) → (v : Value) → Carry (As make f v) (As make g v)
made_carry make f g h v = as_carry make make f g v v (λ x p b e s. (x, e, (h x).carry p b s))

pads : (a : Settings) → Carry (AnyPadding a) (AnyPadding (loose a))
pads a = record { carry = λ p b x. record { fits = x.fits; zeros = tt } }

octets_in : (a : Settings) (n o : ℕ) → Carry (InOctets a n o) (InOctets (loose a) n o)
octets_in a n o = record { carry = λ p b x. record { more = x.more; spelled = (then_carry kept (then_carry (pads a) kept)).carry p b x.spelled } }

cond_carry : {f f' g g' : Spelling} (t : Bool) → Carry f f' → Carry g g' → Carry (cond t f g) (cond t f' g')
cond_carry true h k = h
cond_carry false h k = k

by_variant : (v : Variant) (a : Settings) (n o : ℕ) → Carry (constrained_by v a n o) (constrained_by v (loose a) n o)
by_variant unaligned a n o = kept
by_variant aligned a n o = cond_carry (leb n 255) kept (cond_carry (eqb n 256) (then_carry (pads a) kept) (cond_carry (leb n 65536) (then_carry (pads a) kept) (octets_in a n o)))

boundeds : (a : Settings) (n o : ℕ) → Carry (IsConstrainedWhole a n o) (IsConstrainedWhole (loose a) n o)
boundeds a n o = record { carry = λ p b x. record { below = x.below; spelled = (by_variant a.variant a n o).carry p b x.spelled } }

-- counted items
module _ {X : Type 0} (f : X → Spelling) (a : Settings) where
  fragments : (k : ℕ) (xs : List X) → Carry (InFragments a f k xs) (InFragments (loose a) f k xs)
  fragments zero xs = then_carry (pads a) kept
  fragments (suc k) xs = record { carry = λ p b x. record { these = x.these; others = x.others; all = x.all; spelled = (then_carry (pads a) (then_carry kept (then_carry kept (fragments k x.others)))).carry p b x.spelled } }

  unsizeds : (xs : List X) → Carry (UnconstrainedLength a f xs) (UnconstrainedLength (loose a) f xs)
  unsizeds xs = record { carry = λ p b x. record { fragments = x.fragments; spelled = (fragments x.fragments xs).carry p b x.spelled } }

  pads_if : (t : Bool) → Carry (PaddingIf t a) (PaddingIf t (loose a))
  pads_if true = pads a
  pads_if false = kept

  forms : (l u : Option ℕ) (kind : ItemKind) (xs : List X) → Carry (length_form a l u kind f xs) (length_form (loose a) l u kind f xs)
  forms None u kind xs = unsizeds xs
  forms (Some lb) None kind xs = unsizeds xs
  forms (Some lb) (Some ub) kind xs = cond_carry (ltb ub 65536)
      (then_carry (boundeds a (ub - lb + 1) (length xs - lb)) (then_carry (pads_if (ltb 0 (length xs) && is_aligned kind lb ub)) kept)) (unsizeds xs)

  sizeds : (size : Size) (kind : ItemKind) (xs : List X) → Carry (Sized a size kind f xs) (Sized (loose a) size kind f xs)
  sizeds size kind xs = record { carry = λ p b x. record { allowed = x.allowed; spelled = (forms size.least size.most kind xs).carry p b x.spelled } }

marks : {X : Type 0} (mark : Bool) (f g f' g' : X → Spelling) (x : X) → Carry (f x) (f' x) → Carry (g x) (g' x) → Carry (Marked mark f g x) (Marked mark f' g' x)
marks false f g f' g' x h k = h
marks true f g f' g' x h k = either_carry (then_carry kept h) (then_carry kept k)

lengthies : {X : Type 0} (f : X → Spelling) (a : Settings) (size : Size) (mark : Bool) (kind : ItemKind) (xs : List X) → Carry (Counted a size mark kind f xs) (Counted (loose a) size mark kind f xs)
lengthies f a size mark kind xs = marks mark (Sized a size kind f) (Sized a any_size kind f) (Sized (loose a) size kind f) (Sized (loose a) any_size kind f) xs (sizeds f a size kind xs) (sizeds f a any_size kind xs)

octetses : (a : Settings) (os : List ℕ) → Carry (Octets a os) (Octets (loose a) os)
octetses a os = sizeds octet a any_size octet_items os

-- numbers
naturals : (a : Settings) (n : ℕ) → Carry (IsSemiConstrainedWhole a n) (IsSemiConstrainedWhole (loose a) n)
naturals a n = record { carry = λ p b x. record { octets = x.octets; some = x.some; means = x.means; spelled = (octetses a x.octets).carry p b x.spelled } }

wholes : (a : Settings) (z : ℤ) → Carry (IsUnconstrainedWhole a z) (IsUnconstrainedWhole (loose a) z)
wholes a z = record { carry = λ p b x. record { octets = x.octets; some = x.some; means = x.means; spelled = (octetses a x.octets).carry p b x.spelled } }

number_loose : (a : Settings) (l u : Option ℤ) (z : ℤ) → Carry (number_spelling a l u z) (number_spelling (loose a) l u z)
number_loose a None None z = wholes a z
number_loose a None (Some u) z = when_carry (λ h. h) (wholes a z)
number_loose a (Some l) None z = when_carry (λ h. h) (naturals a (above l z))
number_loose a (Some l) (Some u) z = when_carry (λ h. h) (boundeds a (above l u + 1) (above l z))

numbers : (a : Settings) (bounds : Bounds) (z : ℤ) → Carry (IsNumber a bounds z) (IsNumber (loose a) bounds z)
numbers a bounds z = record { carry = λ p b x. record { within = x.within; spelled = (number_loose a bounds.low bounds.high z).carry p b x.spelled } }

numbers_of : (a : Settings) (bounds : Bounds) (mark : Bool) (range : Bounds) (z : ℤ) → Carry (IsNumberOf a bounds mark range z) (IsNumberOf (loose a) bounds mark range z)
numbers_of a bounds mark range z = record {
  carry = λ p b x. record {
    in_range = x.in_range;
    spelled = (marks mark (IsNumber a bounds) (IsNumber a unbounded) (IsNumber (loose a) bounds) (IsNumber (loose a) unbounded) z (numbers a bounds z) (numbers a unbounded z)).carry p b x.spelled;
  };
}

smalls : (a : Settings) (i : ℕ) → Carry (Small a i) (Small (loose a) i)
smalls a i = either_carry kept (then_carry kept (numbers a at_least_zero (pos i)))

-- open types
fillses : (a : Settings) (f : Spelling) (os : List ℕ) → Fills a f os → Fills (loose a) f os
fillses a f os (inl x) = inl (record { front = x.front; spare = x.spare; spelled = x.spelled; all = x.all; some = x.some; short = x.short; zeros = tt })
fillses a f os (inr x) = inr x

opens : (a : Settings) (C D : List ℕ → Type 0) → ((os : List ℕ) → C os → D os) → Carry (Open a C) (Open (loose a) D)
opens a C D h = record { carry = λ p b x. record { octets = x.octets; are = h x.octets x.are; spelled = (octetses a x.octets).carry p b x.spelled } }

-- records
unknowns : (a : Settings) (u : Bool) (bs : List Bool) → Carry (Unknown_in a u bs) (Unknown_in (loose a) u bs)
unknowns a u [] = kept
unknowns a u (false ∷ bs) = unknowns a u bs
unknowns a true (true ∷ bs) = then_carry (opens a (λ os. Unit {0}) (λ os. Unit {0}) (λ os x. x)) (unknowns a true bs)
unknowns a false (true ∷ bs) = kept

additions_loose : (a : Settings) (u : Bool) (rs : List Rule) (ss : List (Option Value)) (bs : List Bool) → Carry (Additions_in a u rs ss bs) (Additions_in (loose a) u rs ss bs)
additions_loose a u [] [] bs = unknowns a u bs
additions_loose a u [] (s ∷ ss) bs = kept
additions_loose a u (r ∷ rs) [] bs = kept
additions_loose a u (r ∷ rs) (s ∷ ss) [] = when_carry (λ h. h) (additions_loose a u rs ss [])
additions_loose a u (r ∷ rs) (s ∷ ss) (false ∷ bs) = when_carry (λ h. h) (additions_loose a u rs ss bs)
additions_loose a u (r ∷ rs) (s ∷ ss) (true ∷ bs) = then_carry
    (record { carry = λ p b x. record { held = x.held; is = x.is; spelled = (opens a (Fills a (r.spells x.held)) (Fills (loose a) (r.spells x.held)) (fillses a (r.spells x.held))).carry p b x.spelled } })
    (additions_loose a u rs ss bs)

bitmaps : (a : Settings) (bs : List Bool) → Carry (IsBitmap a bs) (IsBitmap (loose a) bs)
bitmaps a bs = record { carry = λ p b x. record { some = x.some; spelled = (either_carry {f = Then (exactly (false ∷ [])) (Then (BitField 6 (length bs - 1)) (exactly bs))} kept (then_carry kept (sizeds bit a any_size bit_items bs))).carry p b x.spelled } }

fields_loose : (a : Settings) (u ext : Bool) (rs adds : List Rule) (ss xs : List (Option Value)) → Carry (Record_in a u ext rs adds ss xs) (Record_in (loose a) u ext rs adds ss xs)
fields_loose a u false rs adds ss xs = then_carry kept (additions_loose a u adds xs [])
fields_loose a u true rs adds ss xs = either_carry (then_carry kept (then_carry kept (additions_loose a u adds xs [])))
    (record { carry = λ p b x. record { flags = x.flags; spelled = (then_carry kept (then_carry kept (then_carry (bitmaps a x.flags) (additions_loose a u adds xs x.flags)))).carry p b x.spelled } })

alternative_loose : (a : Settings) (ext : Bool) (rs adds : List Rule) (d : Side) (i : ℕ) (v : Value) → Carry (Basic.Choice a ext rs adds d i v) (Basic.Choice (loose a) ext rs adds d i v)
alternative_loose a ext rs adds root i v = then_carry kept (then_carry (boundeds a (length rs) i) kept)
alternative_loose a ext rs adds added i v = then_carry kept (then_carry (smalls a i) (opens a (Fills a (Chosen adds i v)) (Fills (loose a) (Chosen adds i v)) (fillses a (Chosen adds i v))))

items_loose : (a : Settings) (r e : ℕ) (ext : Bool) (d : Side) (i : ℕ) → Carry (Basic.Item a r e ext d i) (Basic.Item (loose a) r e ext d i)
items_loose a r e ext root i = then_carry kept (boundeds a r i)
items_loose a r e ext added i = then_carry kept (record { carry = λ p b x. record { known = x.known; spelled = (smalls a i).carry p b x.spelled } })

-- the same items, spelled otherwise
lengthy_same : {X : Type 0} (f g : X → Spelling) → ((x : X) → Carry (f x) (g x)) → (a : Settings) (size : Size) (mark : Bool) (kind : ItemKind) (xs : List X) → Carry (Counted a size mark kind f xs) (Counted a size mark kind g xs)
lengthy_same {X} f g h a size mark kind xs = lengthy_carry (λ (x y : X). x ≡ y) f g (λ x y e. subst (λ z. Carry (f x) (g z)) e (h x)) a size mark kind xs xs (zip_self xs)
  where
    zip_self : (xs : List X) → Zip (λ (x y : X). x ≡ y) xs xs
    zip_self [] = tt
    zip_self (x ∷ xs) = (refl, zip_self xs)

-- characters and dates
strings : (a : Settings) (alphabet : List ℕ) (size : Size) (mark : Bool) (cs : List ℕ) → Carry (String a alphabet size mark cs) (String (loose a) alphabet size mark cs)
strings a alphabet size mark cs = carries (lengthies (Char a alphabet) a size mark (char_items (char_width a.variant alphabet)) cs)
    (lengthy_same (Char a alphabet) (Char (loose a) alphabet) (λ c. record { carry = λ p b x. record { index = x.index; is = x.is; spelled = x.spelled } }) (loose a) size mark (char_items (char_width a.variant alphabet)) cs)

years_in : (a : Settings) (low n : ℕ) (y : ℤ) → Carry (YearIn a low n y) (YearIn (loose a) low n y)
years_in a low n y = record { carry = λ p b x. record { past = x.past; is = x.is; spelled = (boundeds a n x.past).carry p b x.spelled } }

year_forms : (a : Settings) (k : ℕ) (y : ℤ) → Carry (year_form a k y) (year_form (loose a) k y)
year_forms a zero y = years_in a 2005 16 y
year_forms a (suc zero) y = years_in a 2021 256 y
year_forms a (suc (suc zero)) y = years_in a 1749 256 y
year_forms a (suc (suc (suc zero))) y = wholes a y
year_forms a (suc (suc (suc (suc k)))) y = kept

days : (a : Settings) (x : ℤ × ℕ × ℕ) → Carry (IsDay a x) (IsDay (loose a) x)
days a x = record {
  carry = λ p b y. record {
    is_day = y.is_day;
    spelled =
        (then_carry (record { carry = λ p b z. record { range = z.range; spelled = (then_carry kept (year_forms a z.range x.0)).carry p b z.spelled } }) (then_carry (boundeds a 12 x.1) (boundeds a 31 x.2))).carry p b y.spelled;
  };
}

mutual
  unfolding basic_in

  pub loosen : (a : Settings) (u : Bool) (s : Schema) (v : Value) → Carry (basic_in a u s v) (basic_in (loose a) u s v)
  loosen a u Schema.boolean v = kept
  loosen a u Schema.null v = kept
  loosen a u Schema.real v = kept
  loosen a u Schema.cut v = kept
  loosen a u Schema.any v = made_carry Value.octets (Octets a) (Octets (loose a)) (octetses a) v
  loosen a u (Schema.text kind) v = made_carry Value.octets (Proper (is_text kind) (Octets a)) (Proper (is_text kind) (Octets (loose a))) (λ os. when_carry (λ h. h) (octetses a os)) v
  loosen a u Schema.identifier v = made_carry Value.octets (Proper is_identifier (Octets a)) (Proper is_identifier (Octets (loose a))) (λ os. when_carry (λ h. h) (octetses a os)) v
  loosen a u (Schema.time kind) v = made_carry characters (Proper (is_time kind) (String a visible any_size false)) (Proper (is_time kind) (String (loose a) visible any_size false)) (λ cs. when_carry (λ h. h) (strings a visible any_size false cs)) v
  loosen a u Schema.date v = made_carry (λ (x : ℤ × ℕ × ℕ). day x.0 (suc x.1) (suc x.2)) (IsDay a) (IsDay (loose a)) (days a) v
  loosen a u (Schema.number bounds mark range) v = made_carry whole (IsNumberOf a bounds mark range) (IsNumberOf (loose a) bounds mark range) (numbers_of a bounds mark range) v
  loosen a u (Schema.items r e ext) v = made_carry (λ (x : Side × ℕ). Value.item x.0 x.1) (λ x. Basic.Item a r e ext x.0 x.1) (λ x. Basic.Item (loose a) r e ext x.0 x.1) (λ x. items_loose a r e ext x.0 x.1) v
  loosen a u (Schema.octet_string size mark) v = made_carry Value.octets (Counted a size mark octet_items octet) (Counted (loose a) size mark octet_items octet) (lengthies octet a size mark octet_items) v
  loosen a u (Schema.bit_string size mark named) v = made_carry Value.bits (Counted a size mark bit_items bit) (Counted (loose a) size mark bit_items bit) (lengthies bit a size mark bit_items) v
  loosen a u (Schema.char_string alphabet size mark) v = made_carry characters (String a alphabet size mark) (String (loose a) alphabet size mark) (strings a alphabet size mark) v
  loosen a u (Schema.containing e) v = carries (contained_carry a (loosen a u e v))
      (opens a (Fills a (basic_in (loose a) u e v)) (Fills (loose a) (basic_in (loose a) u e v)) (fillses a (basic_in (loose a) u e v)))
  loosen a u (Schema.list e size mark) v = carries
      (list_kept Nothing (basic_in a u e) (basic_in (loose a) u e) (λ w m. loosen a u e w) a size mark v (none_in v))
      (made_carry (λ vs. elements (as_values vs)) (Counted a size mark list_items (basic_in (loose a) u e)) (Counted (loose a) size mark list_items (basic_in (loose a) u e)) (lengthies (basic_in (loose a) u e) a size mark list_items) v)
  loosen a u (Schema.set_of e size mark) v = carries
      (bag_kept Nothing (basic_in a u e) (basic_in (loose a) u e) (λ w m. loosen a u e w) a size mark v (none_in v))
      (made_carry bag_of (Counted a size mark list_items (basic_in (loose a) u e)) (Counted (loose a) size mark list_items (basic_in (loose a) u e)) (lengthies (basic_in (loose a) u e) a size mark list_items) v)
  loosen a u (Schema.sequence o ps ext adds) v = carries
      (record_as a u u o (tags ps) ext (equals ps) (rules_in a u ps) (rules_in (loose a) u ps) (rules_in a u adds) (rules_in (loose a) u adds) (loosen_leads a u ps) v v
      (λ x i m n. (x, i, along_equal ps x.0 (m ∙ length-rules-in a u ps), loosen_additions a u adds x.1)))
      (made_carry (λ (x : List (Option Value) × List (Option Value)). fields (as_slots x.0) (as_slots x.1))
      (λ x. Record_in a u ext (ordered o (tags ps) (rules_in (loose a) u ps)) (rules_in (loose a) u adds) (ordered o (tags ps) x.0) x.1)
      (λ x. Record_in (loose a) u ext (ordered o (tags ps) (rules_in (loose a) u ps)) (rules_in (loose a) u adds) (ordered o (tags ps) x.0) x.1)
      (λ x. fields_loose a u ext (ordered o (tags ps) (rules_in (loose a) u ps)) (rules_in (loose a) u adds) (ordered o (tags ps) x.0) x.1) v)
  loosen a u (Schema.choice ps adds ext) v = carries
      (choice_as a ext (rules_in a u ps) (rules_in (loose a) u ps) (rules_in a u adds) (rules_in (loose a) u adds) (length-rules-in a u ps ∙ sym (length-rules-in (loose a) u ps)) v v
      (λ d i x h. (x, h, on_either (λ side. Carry (Chosen (rules_on side (rules_in a u ps) (rules_in a u adds)) i x) (Chosen (rules_on side (rules_in (loose a) u ps) (rules_in (loose a) u adds)) i x)) (loosen_chosen a u ps i x) (loosen_chosen a u adds i x) d)))
      (made_carry (λ (x : Side × ℕ × Value). alternative x.0 x.1 x.2) (λ x. Basic.Choice a ext (rules_in (loose a) u ps) (rules_in (loose a) u adds) x.0 x.1 x.2)
      (λ x. Basic.Choice (loose a) ext (rules_in (loose a) u ps) (rules_in (loose a) u adds) x.0 x.1 x.2) (λ x. alternative_loose a ext (rules_in (loose a) u ps) (rules_in (loose a) u adds) x.0 x.1 x.2) v)

  loosen_leads : (a : Settings) (u : Bool) (ps : Parts) → AllLead false (equals ps) (rules_in a u ps) (rules_in (loose a) u ps)
  loosen_leads a u no_parts = tt
  loosen_leads a u (part t p s ps) = (part_equal p (basic_in a u s) (basic_in (loose a) u s) (loosen a u s), loosen_leads a u ps)

  loosen_additions : (a : Settings) (u : Bool) (ps : Parts) (xs : List (Option Value)) (bs : List Bool) → Carry (Additions_in a u (rules_in a u ps) xs bs) (Additions_in a u (rules_in (loose a) u ps) xs bs)
  loosen_additions a u no_parts xs bs = kept
  loosen_additions a u (part t p s ps) [] bs = kept
  loosen_additions a u (part t p s ps) (x ∷ xs) bs =
      additions_step a u u Equal (record { presence = p; spells = basic_in a u s }) (record { presence = p; spells = basic_in (loose a) u s }) (part_equal p (basic_in a u s) (basic_in (loose a) u s) (loosen a u s)) x x refl
      (rules_in a u ps) (rules_in (loose a) u ps) xs xs (loosen_additions a u ps xs) bs

  loosen_chosen : (a : Settings) (u : Bool) (ps : Parts) (i : ℕ) (v : Value) → Carry (Chosen (rules_in a u ps) i v) (Chosen (rules_in (loose a) u ps) i v)
  loosen_chosen a u no_parts i v = kept
  loosen_chosen a u (part t p s ps) zero v = loosen a u s v
  loosen_chosen a u (part t p s ps) (suc i) v = loosen_chosen a u ps i v

-- what is read with zero padding is read as the same value without
pub strict_is_loose : (a : Settings) (s : Schema) (v : Value) (os : List ℕ) → fills a s v os → fills (loose a) s v os
strict_is_loose a s v os x = fillses a (basic_in (loose a) true s v) os (fills_carry a os (loosen a true s v) x)
