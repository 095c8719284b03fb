-- What was read is of its schema's kind.
use Rattle.std.proofs.Common.{◌≡◌, refl, sym, ap, ap₂, subst, ◌∙◌, ℕ, zero, suc, ◌^◌, ◌<◌, ◌==◌, ◌||◌, Bool, true, false, cond, ◌&&◌, ltb, lt-ltb, List, [], ◌∷◌, inl, inr, length, Option, Some, None, arith}
use Rattle.std.proofs.Math.Bool.{or-true}
use Rattle.std.proofs.lemmas.Bool.{eq-eqb, eqb-true}
use Rattle.rasn_types.specs.Alphabets.{char_code, char_width, greatest, has, has_all, index_of, keep_own, more}
use Rattle.rasn_types.specs.Bits.{Bits}
use Rattle.rasn_types.specs.Contents.{is_date}
use Rattle.rasn_types.specs.Values.{Value, Side, root, added, whole, truth, nothing, item, octets, bits, characters, elements, bag, fields, alternative, day, as_values, as_slots, slots, bag_of}
use Rattle.rasn_types.specs.Variants.{Variant}
use Rattle.rasn_types.proofs.Values.{slots-as_slots}
use Rattle.rasn_schema.specs.Orders.{canonised, canonised_slots}
use Rattle.rasn_schema.specs.Normal.{is_vacant, normal, normal_at, normal_bits, normals, over_alternative, over_bag, settle}
use Rattle.rasn_schema.specs.Structures.{record_value, all_may_be, is_of_kind, may_be}
use Rattle.rasn_schema.specs.Schemas
use Rattle.rasn_schema.specs.Schemas.{by_tag, count, default, group, listed, no_parts, optional, part, Parts, Presence, required, Schema}
use Rattle.per_core.specs.Basic.{basic_in, Char, Choice, Chosen, IsLeftOut, Item, Rule, rules_in}
use Rattle.per_core.specs.Counts.{char_items}
use Rattle.per_core.specs.Spellings.{Settings}
use Rattle.per_core.specs.ItemCounts.{Each}
use Rattle.per_core.proofs.Readings.{length-rules-in}
use Rattle.per_core.proofs.SetReadings.{normal_record}
use Rattle.per_core.specs.WritingFaults.{IsOther}
use Rattle.per_write.proofs.OtherKinds.{may_be_ordered}
use Rattle.per_versions.proofs.PartsRead.{contained_read, IsRead, set_read}
use Rattle.per_versions.proofs.Spelled.{fields_spelled, lengthy_spelled, open_spelled, SlotSpelled, SlotsSpelled, Somewhere}

group_may_be : (r : Option Value) → may_be group r ≡ true
group_may_be None = refl
group_may_be (Some v) = refl

settled_may_be : (p : Presence) (s : Schema) (v : Value) → may_be p (settle p s v) ≡ true
unfolding settle
settled_may_be required s v = refl
settled_may_be optional s v = refl
settled_may_be (default d) s v = refl
settled_may_be group s v = group_may_be (cond (is_vacant s v) None (Some v))

left_out_may_be : (p : Presence) → IsLeftOut p None → may_be p None ≡ true
left_out_may_be required h = absurd h
left_out_may_be optional h = refl
left_out_may_be group h = refl
left_out_may_be (default d) h = refl

-- parts that are spelled, in normal form
parts_may_be : (a : Settings) (u : Bool) (ps : Parts) (rs : List (Option Value)) → SlotsSpelled (rules_in a u ps) rs → all_may_be ps (normals ps rs) ≡ true
unfolding rules_in normals
parts_may_be a u no_parts [] h = refl
parts_may_be a u no_parts (r ∷ rs) h = absurd h
parts_may_be a u (part t p s ps) [] h = absurd h
parts_may_be a u (part t p s ps) (None ∷ rs) h = ap (λ (b : Bool). b && all_may_be ps (normals ps rs)) (absent_may_be h.0) ∙ parts_may_be a u ps rs h.1
  where
    absent_may_be : SlotSpelled (record { presence = p; spells = basic_in a u s }) None → may_be p None ≡ true
    absent_may_be (inl k) = left_out_may_be p k
    absent_may_be (inr k) = absurd (let e = k.1 in cc)
parts_may_be a u (part t p s ps) (Some v ∷ rs) h = ap (λ (b : Bool). b && all_may_be ps (normals ps rs)) (settled_may_be p s (normal s v)) ∙ parts_may_be a u ps rs h.1

-- a character with a code is of the alphabet
coded_has : (v : Variant) (own : List ℕ) (c n : ℕ) → char_code v own c ≡ Some n → has own c ≡ true
unfolding char_code
coded_has v own c n e = go own (kept (index_of c own) e)
  where
    kept : (o : Option ℕ) → keep_own (ltb (greatest own) (2 ^ char_width v own)) c o ≡ Some n → (i : ℕ) × (o ≡ Some i)
    kept None f = absurd (cc)
    kept (Some i) f = (i, refl)

    behind : (c d : ℕ) (ds : List ℕ) → (i : ℕ) × (index_of c (d ∷ ds) ≡ Some i) → (c == d) ≡ false → (i : ℕ) × (index_of c ds ≡ Some i)
    behind c d ds k f = there (index_of c ds) (sym (ap (λ (b : Bool). cond b (Some 0) (more (index_of c ds))) f) ∙ k.1)
      where
        there : (o : Option ℕ) → more o ≡ Some k.0 → (i : ℕ) × (o ≡ Some i)
        there None g = absurd (cc)
        there (Some i) g = (i, refl)

    go : (ds : List ℕ) → (i : ℕ) × (index_of c ds ≡ Some i) → has ds c ≡ true
    go [] k = absurd (let f = k.1 in cc)
    go (d ∷ ds) k = at (c == d) refl (λ f. go ds (behind c d ds k f))
      where
        at : (b : Bool) → (c == d) ≡ b → ((c == d) ≡ false → has ds c ≡ true) → has (d ∷ ds) c ≡ true
        at true f r = ap (λ (b : Bool). b || has ds c) (eq-eqb d c (sym (eqb-true c d f)))
        at false f r = ap (λ (b : Bool). (d == c) || b) (r f) ∙ or-true (d == c)

all_have : (a : Settings) (own cs : List ℕ) → Each (λ c. Somewhere (Char a own c)) cs → has_all own cs ≡ true
all_have a own [] h = refl
all_have a own (c ∷ cs) h = ap (λ (b : Bool). b && has_all own cs) (coded_has a.variant own c h.0.spelled.index h.0.spelled.is) ∙ all_have a own cs h.1

item_known : (a : Settings) (n m : ℕ) (ext : Bool) (d : Side) (i p : ℕ) (b : Bits) → Item a n m ext d i p b → is_of_kind (Schema.items n m ext) (item d i) ≡ true
item_known a n m ext root i p b h = lt-ltb i n h.is_rest.below
item_known a n m ext added i p b h = lt-ltb i m h.is_rest.known

chosen_below : (rs : List Rule) (i : ℕ) (v : Value) → Somewhere (Chosen rs i v) → i < length rs
chosen_below [] i v h = absurd h.spelled
chosen_below (r ∷ rs) zero v h = omega arith
chosen_below (r ∷ rs) (suc i) v h = let k = chosen_below rs i v (record { at = h.at; bits = h.bits; spelled = h.spelled }) in omega arith

alternative_known : (a : Settings) (u : Bool) (ps adds : Parts) (ext : Bool) (d : Side) (i : ℕ) (v w : Value) (p : ℕ) (b : Bits) → Choice a ext (rules_in a u ps) (rules_in a u adds) d i v p b → is_of_kind (Schema.choice ps adds ext) (alternative d i w) ≡ true
alternative_known a u ps adds ext root i v w p b h = lt-ltb i (count ps) (subst (λ (n : ℕ). i < n) (length-rules-in a u ps) h.is_rest.is_front.below)
alternative_known a u ps adds ext added i v w p b h =
    lt-ltb i (count adds) (subst (λ (n : ℕ). i < n) (length-rules-in a u adds) (chosen_below (rules_in a u adds) i v (open_spelled a (Chosen (rules_in a u adds) i v) _ h.is_rest.rest h.is_rest.is_rest)))

-- a SEQUENCE
fields_may_be : (a : Settings) (u : Bool) (ps adds : Parts) (ext : Bool) (w : Value) → IsRead a u (Schema.sequence listed ps ext adds) w → is_of_kind (Schema.sequence listed ps ext adds) w ≡ true
unfolding basic_in normal
fields_may_be a u ps adds ext w r =
    let x = r.where_it_is.spelled in
    let f = fields_spelled a u ext (rules_in a u ps) (rules_in a u adds) x.of.0 x.of.1 r.where_it_is.at r.where_it_is.bits x.spelled in
    let s = Schema.sequence listed ps ext adds in
    let e : w ≡ record_value (normals ps x.of.0) (normals adds x.of.1) = r.is ∙ ap (normal s) x.is ∙ normal_record listed ps ext adds x.of.0 x.of.1 in
    ap (is_of_kind s) e
    ∙ ap₂ (λ rs xs. all_may_be ps rs && all_may_be adds xs) (slots-as_slots (normals ps x.of.0)) (slots-as_slots (normals adds x.of.1))
    ∙ ap₂ (λ (b c : Bool). b && c) (parts_may_be a u ps x.of.0 f.0) (parts_may_be a u adds x.of.1 f.1)

-- a SET, as the SEQUENCE of its components in order
set_may_be : (a : Settings) (u : Bool) (ps adds : Parts) (ext : Bool) (w : Value) → IsRead a u (Schema.sequence by_tag ps ext adds) w → is_of_kind (Schema.sequence by_tag ps ext adds) w ≡ true
unfolding basic_in normal
set_may_be a u ps adds ext w r =
    let x = r.where_it_is.spelled in
    let s = Schema.sequence by_tag ps ext adds in
    let rs = normals ps x.of.0 in
    let xs = normals adds x.of.1 in
    let e : w ≡ record_value rs xs = r.is ∙ ap (normal s) x.is ∙ normal_record by_tag ps ext adds x.of.0 x.of.1 in
    let l = fields_may_be a u (canonised ps) adds ext (record_value (canonised_slots ps rs) xs) (set_read rs xs (subst (IsRead a u s) e r)) in
    ap (is_of_kind s) e
    ∙ ap₂ (λ ys zs. all_may_be ps ys && all_may_be adds zs) (slots-as_slots rs) (slots-as_slots xs)
    ∙ ap (λ (b : Bool). b && all_may_be adds xs) (sym (may_be_ordered ps rs))
    ∙ sym (ap₂ (λ ys zs. all_may_be (canonised ps) ys && all_may_be adds zs) (slots-as_slots (canonised_slots ps rs)) (slots-as_slots xs)) ∙ l

pub of_kind : (a : Settings) (u : Bool) (s : Schema) (w : Value) → IsRead a u s w → is_of_kind s w ≡ true
unfolding basic_in normal over_bag bag_of
of_kind a u Schema.real w r = absurd r.where_it_is.spelled
of_kind a u Schema.cut w r = absurd r.where_it_is.spelled
of_kind a u Schema.boolean w r = let x = r.where_it_is.spelled in ap (is_of_kind Schemas.boolean) (r.is ∙ x.is)
of_kind a u Schema.null w r = let x = r.where_it_is.spelled in ap (is_of_kind Schemas.null) (r.is ∙ x.is)
of_kind a u Schema.any w r = let x = r.where_it_is.spelled in ap (is_of_kind Schemas.any) (r.is ∙ x.is)
of_kind a u (Schema.text kind) w r = let x = r.where_it_is.spelled in ap (is_of_kind (Schemas.text kind)) (r.is ∙ x.is) ∙ x.spelled.0
of_kind a u Schema.identifier w r = let x = r.where_it_is.spelled in ap (is_of_kind Schemas.identifier) (r.is ∙ x.is) ∙ x.spelled.0
of_kind a u (Schema.time kind) w r = let x = r.where_it_is.spelled in ap (is_of_kind (Schemas.time kind)) (r.is ∙ x.is) ∙ x.spelled.0
of_kind a u Schema.date w r = let x = r.where_it_is.spelled in ap (is_of_kind Schemas.date) (r.is ∙ x.is) ∙ x.spelled.is_day
of_kind a u (Schema.number bounds mark range) w r = let x = r.where_it_is.spelled in ap (is_of_kind (Schemas.number bounds mark range)) (r.is ∙ x.is)
of_kind a u (Schema.items n m ext) w r = let x = r.where_it_is.spelled in ap (is_of_kind (Schemas.items n m ext)) (r.is ∙ x.is) ∙ item_known a n m ext x.of.0 x.of.1 _ _ x.spelled
of_kind a u (Schema.octet_string size mark) w r = let x = r.where_it_is.spelled in ap (is_of_kind (Schemas.octet_string size mark)) (r.is ∙ x.is)
of_kind a u (Schema.bit_string size mark false) w r = let x = r.where_it_is.spelled in ap (is_of_kind (Schemas.bit_string size mark false)) (r.is ∙ x.is)
of_kind a u (Schema.bit_string size mark true) w r = let x = r.where_it_is.spelled in ap (is_of_kind (Schemas.bit_string size mark true)) (r.is ∙ ap (normal (Schema.bit_string size mark true)) x.is)
of_kind a u (Schema.char_string own size mark) w r =
    let x = r.where_it_is.spelled in
    ap (is_of_kind (Schemas.char_string own size mark)) (r.is ∙ x.is)
    ∙ all_have a own x.of (lengthy_spelled a (Char a own) size mark (char_items (char_width a.variant own)) x.of r.where_it_is.at r.where_it_is.bits x.spelled)
of_kind a u (Schema.containing e) w r = of_kind a u e w (contained_read r)
of_kind a u (Schema.list e size mark) w r = let x = r.where_it_is.spelled in ap (is_of_kind (Schemas.list e size mark)) (r.is ∙ ap (normal (Schema.list e size mark)) x.is)
of_kind a u (Schema.set_of e size mark) w r = let x = r.where_it_is.spelled in ap (is_of_kind (Schemas.set_of e size mark)) (r.is ∙ ap (normal (Schema.set_of e size mark)) x.is)
of_kind a u (Schema.sequence listed ps ext adds) w r = fields_may_be a u ps adds ext w r
of_kind a u (Schema.sequence by_tag ps ext adds) w r = set_may_be a u ps adds ext w r
of_kind a u (Schema.choice ps adds ext) w r =
    let x = r.where_it_is.spelled in
    ap (is_of_kind (Schemas.choice ps adds ext)) (r.is ∙ ap (normal (Schema.choice ps adds ext)) x.is) ∙ chosen x.of.0 x.of.1 x.of.2 x.spelled
  where
    chosen : (d : Side) (i : ℕ) (v : Value) → Choice a ext (rules_in a u ps) (rules_in a u adds) d i v r.where_it_is.at r.where_it_is.bits → is_of_kind (Schema.choice ps adds ext) (over_alternative (normal_at ps) (normal_at adds) (alternative d i v)) ≡ true
    chosen root i v h = alternative_known a u ps adds ext root i v (normal_at ps i v) _ _ h
    chosen added i v h = alternative_known a u ps adds ext added i v (normal_at adds i v) _ _ h

pub not_other : (a : Settings) (u : Bool) (s : Schema) (w : Value) → IsRead a u s w → IsOther s w → ⊥
not_other a u s w r h = let e = of_kind a u s w r in cc
