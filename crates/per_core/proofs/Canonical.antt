-- The canonical encoding of a value is one of its spellings, from every position.
use Rattle.std.proofs.Common.{◌≡◌, refl, sym, ap, ◌∙◌, subst, ℕ, zero, suc, Bool, true, false, ltb, List, [], ◌∷◌, ◌++◌, map, length, Option, Some, ℤ, ltb-true}
use Rattle.rasn_types.specs.Alphabets.{char_width, visible}
use Rattle.rasn_types.specs.Bits.{Bits, to_bits}
use Rattle.rasn_types.specs.Contents.{is_text, is_time, is_identifier}
use Rattle.rasn_types.specs.Values.{Value, whole, truth, nothing, characters, elements, bag, bag_of, fields, alternative, day, Side, root, added, Values, values, as_values, slots, as_slots, same, before}
use Rattle.rasn_types.proofs.Values.{as_values-values, as_slots-slots}
use Rattle.rasn_constraints.specs.Bounds.{holds, Bounds, Size, any_size}
use Rattle.rasn_schema.specs.Orders.{ordered, by_tags, insert_at, how_many_less}
use Rattle.rasn_schema.specs.Schemas.{tags, Order, listed, by_tag, Tag, Schema, Parts, no_parts, part}
use Rattle.per_core.specs.Basic
use Rattle.per_core.specs.Basic.{Proper, As, Counted, octet, bit, Octets, Rule, Record_in, Chosen, ExtensionBit, IsConstrainedWhole, IsNumberOf, String, IsDay, basic, basic_in, rules_in}
use Rattle.per_core.specs.Canon
use Rattle.per_core.specs.Canon.{canon, members, Member, char_writers, chosen, choice_of, item_of, extension_bit, date_of, record_of, on_truth, on_nothing, on_octets, on_bits, on_whole, on_characters, on_elements, on_bag, on_fields, on_alternative, on_day, on_item}
use Rattle.per_core.specs.Counts.{ItemKind, list_items, octet_items, bit_items, counted, octet_writers, bit_writers, unconstrained_octets, number_form, constrained_whole}
use Rattle.per_core.specs.Spellings.{Settings, Spelling, exactly, Then}
use Rattle.per_core.specs.Writers.{Writer, just, ◌▹◌, written_if}
use Rattle.rasn_schema.proofs.Bags.{bag_rearranged}
use Rattle.rasn_types.proofs.Codes.{same_true}
use Rattle.per_core.proofs.Counting.{counted_within}
use Rattle.per_core.proofs.Numbers.{number_within, small_within}
use Rattle.per_core.proofs.Presenting.{Pair, Pairs, record_within, open_within, octets_within}
use Rattle.per_core.proofs.Strings.{string_within, day_within}
use Rattle.per_core.proofs.Readings.{one_reading}
use Rattle.per_core.proofs.WriterSpellings.{Within, just_within, refused_within, then_within, if_within, relax, field_within, bounded_within}

pub as_within : {X : Type 0} (make : X → Value) (spells : X → Spelling) (x : X) (v : Value) → v ≡ make x → {w : Writer} → Within w (spells x) → Within w (As make spells v)
as_within make spells x v e h = relax (λ p b s. record { of = x; is = e; spelled = s }) h

-- the order of a Set on members and rules alike
insert-pairs : (n : ℕ) (m : Member) (r : Rule) (ms : List Member) (rs : List Rule) → Pair m r → Pairs ms rs → Pairs (insert_at n m ms) (insert_at n r rs)
insert-pairs zero m r ms rs k ks = (k, ks)
insert-pairs (suc n) m r [] [] k ks = (k, tt)
insert-pairs (suc n) m r (q ∷ ms) (s ∷ rs) k ks = (ks.0, insert-pairs n m r ms rs k ks.1)
insert-pairs (suc n) m r [] (s ∷ rs) k ks = absurd ks
insert-pairs (suc n) m r (q ∷ ms) [] k ks = absurd ks

pub ordered-pairs : (o : Order) (ts : List Tag) (ms : List Member) (rs : List Rule) → Pairs ms rs → Pairs (ordered o ts ms) (ordered o ts rs)
ordered-pairs listed ts ms rs k = k
ordered-pairs by_tag ts [] [] k = tt
ordered-pairs by_tag [] (m ∷ ms) (r ∷ rs) k = k
ordered-pairs by_tag (t ∷ ts) (m ∷ ms) (r ∷ rs) k = insert-pairs (how_many_less t ts) m r (by_tags ts ms) (by_tags ts rs) k.0 (ordered-pairs by_tag ts ms rs k.1)
ordered-pairs by_tag ts [] (r ∷ rs) k = absurd k
ordered-pairs by_tag ts (m ∷ ms) [] k = absurd k

chosen_within : (ms : List Member) (rs : List Rule) → Pairs ms rs → (i : ℕ) (v : Value) → Within (chosen ms i v) (Chosen rs i v)
chosen_within [] [] k i v = refused_within
chosen_within (m ∷ ms) (r ∷ rs) k zero v = k.0.each v
chosen_within (m ∷ ms) (r ∷ rs) k (suc i) v = chosen_within ms rs k.1 i v
chosen_within [] (r ∷ rs) k i v = absurd k
chosen_within (m ∷ ms) [] k i v = absurd k

pairs-length : (ms : List Member) (rs : List Rule) → Pairs ms rs → length ms ≡ length rs
pairs-length [] [] k = refl
pairs-length (m ∷ ms) (r ∷ rs) k = ap suc (pairs-length ms rs k.1)
pairs-length [] (r ∷ rs) k = absurd k
pairs-length (m ∷ ms) [] k = absurd k

bit_within : (ext b : Bool) {w : Writer} {f : Spelling} → Within w f → Within (extension_bit ext b ▹ w) (Then (ExtensionBit ext b) f)
bit_within true b h = then_within (just_within (b ∷ [])) h
bit_within false false h = then_within (just_within []) h
bit_within false true h = record { within = λ p b e. absurd (cc) }

bag_within : (a : Settings) (e : Schema) (spells : Value → Spelling) (size : Size) (mark : Bool) (vs : Values) → ((v : Value) → Within (canon a.variant e v) (spells v)) →
    Within (written_if (same (bag_of (values vs)) (bag vs)) (counted a.variant size mark list_items (Canon.ascending (map (canon a.variant e) (values vs))))) (As bag_of (Counted a size mark list_items spells) (bag vs))
bag_within a e spells size mark vs h = if_within (same (bag_of (values vs)) (bag vs)) (λ t.
    let r = bag_rearranged (canon a.variant e) (λ f g. before (Canon.octet_key (f 0)) (Canon.octet_key (g 0))) (values vs) in
    subst (λ l. Within (counted a.variant size mark list_items l) (As bag_of (Counted a size mark list_items spells) (bag vs))) r.1
    (as_within bag_of (Counted a size mark list_items spells) r.0 (bag vs) (sym (same_true (bag_of (values vs)) (bag vs) t) ∙ sym r.2)
    (counted_within (canon a.variant e) spells h a size mark list_items r.0)))

alternative_within : (a : Settings) (ext : Bool) (ms adds : List Member) (rs ads : List Rule) → Pairs ms rs → Pairs adds ads → (d : Side) (i : ℕ) (v : Value) →
    Within (choice_of a.variant ext ms adds d i v) (Basic.Choice a ext rs ads d i v)
unfolding choice_of
alternative_within a ext ms adds rs ads k k' root i v = bit_within ext false (then_within (subst (λ n. Within (constrained_whole a.variant (length ms) i) (IsConstrainedWhole a n i)) (pairs-length ms rs k) (bounded_within a (length ms) i)) (chosen_within ms rs k i v))
alternative_within a ext ms adds rs ads k k' added i v = bit_within ext true (then_within (small_within a i) (open_within a (chosen adds i v) (Chosen ads i v) (chosen_within adds ads k' i v)))

item_within : (a : Settings) (r e : ℕ) (ext : Bool) (d : Side) (i : ℕ) → Within (item_of a.variant r e ext d i) (Basic.Item a r e ext d i)
unfolding item_of
item_within a r e ext root i = bit_within ext false (bounded_within a r i)
item_within a r e ext added i = bit_within ext true (if_within (ltb i e) (λ h. relax (λ p b x. record { known = ltb-true i e h; spelled = x }) (small_within a i)))

octet_each : (o : ℕ) → Within (written_if (ltb o 256) (just (to_bits 8 o))) (octet o)
octet_each o = if_within (ltb o 256) (λ e. field_within 8 o (ltb-true o 256 e))

octets_value : (a : Settings) (v : Value) → Within (on_octets (unconstrained_octets a.variant) v) (As Value.octets (Octets a) v)
octets_value a (Value.octets os) = as_within Value.octets (Octets a) os (Value.octets os) refl (octets_within a os)
octets_value a _ = refused_within

sized_octets : (a : Settings) (size : Size) (mark : Bool) (v : Value) → Within (on_octets (λ os. counted a.variant size mark octet_items (octet_writers os)) v) (As Value.octets (Counted a size mark octet_items octet) v)
sized_octets a size mark (Value.octets os) = as_within Value.octets (Counted a size mark octet_items octet) os (Value.octets os) refl (counted_within (λ o. written_if (ltb o 256) (just (to_bits 8 o))) octet octet_each a size mark octet_items os)
sized_octets a size mark _ = refused_within

pub list_within : (a : Settings) (e : Schema) (spells : Value → Spelling) (size : Size) (mark : Bool) → ((v : Value) → Within (canon a.variant e v) (spells v)) → (v : Value) →
    Within (on_elements (λ vs. counted a.variant size mark list_items (map (canon a.variant e) vs)) v) (As (λ vs. elements (as_values vs)) (Counted a size mark list_items spells) v)
list_within a e spells size mark h (elements vs) = as_within (λ vs. elements (as_values vs)) (Counted a size mark list_items spells) (values vs) (elements vs) (ap elements (sym (as_values-values vs)))
    (counted_within (canon a.variant e) spells h a size mark list_items (values vs))
list_within a e spells size mark h _ = refused_within

fields_within : (a : Settings) (u : Bool) (o : Order) (ts : List Tag) (ext : Bool) (ms adds : List Member) (rs ads : List Rule) → Pairs ms rs → Pairs adds ads → (v : Value) →
    Within (on_fields (λ r x. record_of a.variant ext (ordered o ts ms) adds (ordered o ts r) x) v)
    (As (λ (x : List (Option Value) × List (Option Value)). fields (as_slots x.0) (as_slots x.1)) (λ x. Record_in a u ext (ordered o ts rs) ads (ordered o ts x.0) x.1) v)
fields_within a u o ts ext ms adds rs ads k k' (fields r x) = as_within (λ (x : List (Option Value) × List (Option Value)). fields (as_slots x.0) (as_slots x.1)) (λ x. Record_in a u ext (ordered o ts rs) ads (ordered o ts x.0) x.1)
    (slots r, slots x) (fields r x) (ap (λ z. fields z x) (sym (as_slots-slots r)) ∙ ap (λ z. fields (as_slots (slots r)) z) (sym (as_slots-slots x)))
    (record_within a u ext (ordered o ts ms) adds (ordered o ts rs) ads (ordered-pairs o ts ms rs k) k' (ordered o ts (slots r)) (slots x))
fields_within a u o ts ext ms adds rs ads k k' _ = refused_within

truth_within : (v : Value) → Within (on_truth (λ b. just (b ∷ [])) v) (As truth bit v)
truth_within (truth b) = as_within truth bit b (truth b) refl (just_within (b ∷ []))
truth_within _ = refused_within

null_within : (v : Value) → Within (on_nothing (just []) v) (As (λ (u : Unit {0}). nothing) (λ u. exactly []) v)
null_within nothing = as_within (λ (u : Unit {0}). nothing) (λ u. exactly []) tt nothing refl (just_within [])
null_within _ = refused_within

bits_within : (a : Settings) (size : Size) (mark : Bool) (v : Value) → Within (on_bits (λ bs. counted a.variant size mark bit_items (bit_writers bs)) v) (As Value.bits (Counted a size mark bit_items bit) v)
bits_within a size mark (Value.bits bs) = as_within Value.bits (Counted a size mark bit_items bit) bs (Value.bits bs) refl (counted_within (λ b. just (b ∷ [])) bit (λ b. just_within (b ∷ [])) a size mark bit_items bs)
bits_within a size mark _ = refused_within

strings_within : (a : Settings) (alphabet : List ℕ) (size : Size) (mark : Bool) (v : Value) →
    Within (on_characters (λ cs. counted a.variant size mark (ItemKind.char_items (char_width a.variant alphabet)) (char_writers a.variant alphabet cs)) v) (As characters (String a alphabet size mark) v)
strings_within a alphabet size mark (characters cs) = as_within characters (String a alphabet size mark) cs (characters cs) refl (string_within a alphabet size mark cs)
strings_within a alphabet size mark _ = refused_within

proper_octets : (a : Settings) (ok : List ℕ → Bool) (v : Value) → Within (on_octets (λ os. written_if (ok os) (unconstrained_octets a.variant os)) v) (As Value.octets (Proper ok (Octets a)) v)
proper_octets a ok (Value.octets os) = as_within Value.octets (Proper ok (Octets a)) os (Value.octets os) refl (if_within (ok os) (λ h. relax (λ p b x. (h, x)) (octets_within a os)))
proper_octets a ok _ = refused_within

proper_strings : (a : Settings) (ok : List ℕ → Bool) (v : Value) →
    Within (on_characters (λ cs. written_if (ok cs) (counted a.variant any_size false (ItemKind.char_items (char_width a.variant visible)) (char_writers a.variant visible cs))) v) (As characters (Proper ok (String a visible any_size false)) v)
proper_strings a ok (characters cs) = as_within characters (Proper ok (String a visible any_size false)) cs (characters cs) refl (if_within (ok cs) (λ h. relax (λ p b x. (h, x)) (string_within a visible any_size false cs)))
proper_strings a ok _ = refused_within

numbers_within : (a : Settings) (bounds : Bounds) (mark : Bool) (range : Bounds) (v : Value) →
    Within (on_whole (λ z. written_if (holds range z) (number_form a.variant bounds mark z)) v) (As whole (IsNumberOf a bounds mark range) v)
numbers_within a bounds mark range (whole z) = as_within whole (IsNumberOf a bounds mark range) z (whole z) refl (number_within a bounds mark range z)
numbers_within a bounds mark range _ = refused_within

items_within : (a : Settings) (r e : ℕ) (ext : Bool) (v : Value) → Within (on_item (item_of a.variant r e ext) v) (As (λ (x : Side × ℕ). Value.item x.0 x.1) (λ x. Basic.Item a r e ext x.0 x.1) v)
items_within a r e ext (Value.item d i) = as_within (λ (x : Side × ℕ). Value.item x.0 x.1) (λ x. Basic.Item a r e ext x.0 x.1) (d, i) (Value.item d i) refl (item_within a r e ext d i)
items_within a r e ext _ = refused_within

dates_within : (a : Settings) (v : Value) → Within (on_day (date_of a.variant) v) (As (λ (x : ℤ × ℕ × ℕ). day x.0 (suc x.1) (suc x.2)) (IsDay a) v)
dates_within a (day y m d) = day_within a y m d
dates_within a _ = refused_within

pub choices_within : (a : Settings) (ext : Bool) (ms adds : List Member) (rs ads : List Rule) → Pairs ms rs → Pairs adds ads → (v : Value) →
    Within (on_alternative (choice_of a.variant ext ms adds) v) (As (λ (x : Side × ℕ × Value). alternative x.0 x.1 x.2) (λ x. Basic.Choice a ext rs ads x.0 x.1 x.2) v)
choices_within a ext ms adds rs ads k k' (alternative d i v) = as_within (λ (x : Side × ℕ × Value). alternative x.0 x.1 x.2) (λ x. Basic.Choice a ext rs ads x.0 x.1 x.2) (d, i, v) (alternative d i v) refl
    (alternative_within a ext ms adds rs ads k k' d i v)
choices_within a ext ms adds rs ads k k' _ = refused_within

pub bags_within : (a : Settings) (e : Schema) (spells : Value → Spelling) (size : Size) (mark : Bool) → ((v : Value) → Within (canon a.variant e v) (spells v)) → (v : Value) →
    Within (on_bag (λ vs. counted a.variant size mark list_items (Canon.ascending (map (canon a.variant e) vs))) v) (As bag_of (Counted a size mark list_items spells) v)
bags_within a e spells size mark h (bag vs) = bag_within a e spells size mark vs h
bags_within a e spells size mark h _ = refused_within

mutual
  unfolding canon basic_in

  pub canonical : (a : Settings) (u : Bool) (s : Schema) (v : Value) → Within (canon a.variant s v) (basic_in a u s v)
  canonical a u Schema.boolean v = truth_within v
  canonical a u Schema.null v = null_within v
  canonical a u Schema.real v = refused_within
  canonical a u Schema.cut v = refused_within
  canonical a u Schema.any v = octets_value a v
  canonical a u (Schema.text kind) v = proper_octets a (is_text kind) v
  canonical a u Schema.identifier v = proper_octets a is_identifier v
  canonical a u (Schema.time kind) v = proper_strings a (is_time kind) v
  canonical a u Schema.date v = dates_within a v
  canonical a u (Schema.number bounds mark range) v = numbers_within a bounds mark range v
  canonical a u (Schema.items r e ext) v = items_within a r e ext v
  canonical a u (Schema.octet_string size mark) v = sized_octets a size mark v
  canonical a u (Schema.bit_string size mark named) v = bits_within a size mark v
  canonical a u (Schema.char_string alphabet size mark) v = strings_within a alphabet size mark v
  canonical a u (Schema.containing e) v = open_within a (canon a.variant e v) (basic_in a u e v) (canonical a u e v)
  canonical a u (Schema.list e size mark) v = list_within a e (basic_in a u e) size mark (canonical a u e) v
  canonical a u (Schema.set_of e size mark) v = bags_within a e (basic_in a u e) size mark (canonical a u e) v
  canonical a u (Schema.sequence o ps ext adds) v = fields_within a u o (tags ps) ext (members a.variant ps) (members a.variant adds) (rules_in a u ps) (rules_in a u adds) (paired a u ps) (paired a u adds) v
  canonical a u (Schema.choice ps adds ext) v = choices_within a ext (members a.variant ps) (members a.variant adds) (rules_in a u ps) (rules_in a u adds) (paired a u ps) (paired a u adds) v

  pub paired : (a : Settings) (u : Bool) (ps : Parts) → Pairs (members a.variant ps) (rules_in a u ps)
  paired a u no_parts = tt
  paired a u (part t p s ps) = (record { alike = refl; each = canonical a u s }, paired a u ps)

-- Two values with the same canonical bits are one.
pub same_bits_same_value : (a : Settings) (s : Schema) (v w : Value) (p : ℕ) (b : Bits) → canon a.variant s v p ≡ Some b → canon a.variant s w p ≡ Some b → v ≡ w
same_bits_same_value a s v w p b e f =
    ((one_reading a s v w).agree p b b [] [] ((canonical a true s v).within p b e) ((canonical a true s w).within p b f) refl).0

-- No canonical encoding is a proper beginning of another, and what is read of one, whatever follows, is the value.
pub canonical_reads_back : (a : Settings) (s : Schema) (v w : Value) (p : ℕ) (b c rest : Bits) → canon a.variant s v p ≡ Some b → basic a s w p c → (spare : Bits) → b ++ rest ≡ c ++ spare → (v ≡ w) × (b ≡ c)
canonical_reads_back a s v w p b c rest e x spare u = (one_reading a s v w).agree p b c rest spare ((canonical a true s v).within p b e) x u
