-- A value that isn't of its schema's kind has no encoding.
use Rattle.std.proofs.Common.{◌≡◌, refl, sym, ap, ap₂, ◌∙◌, subst, ◌⊎◌, inl, inr, ℕ, zero, suc, arith, ◌≤◌, ◌^◌, ◌==◌, Bool, true, false, cond, ◌&&◌, ◌||◌, ltb, List, [], ◌∷◌, length, Option, Some, None, ℤ}
use Rattle.std.proofs.lemmas.Bool.{eq-eqb, eqb-true, ltb-false}
use Rattle.rasn_types.specs.Alphabets.{char_code, char_width, greatest, has, has_all, index_of, keep_own, more}
use Rattle.rasn_types.specs.Bits.{Bits}
use Rattle.rasn_types.specs.Contents.{is_date, is_identifier, is_text, is_time}
use Rattle.rasn_types.specs.Values.{Value, Slots, Side, root, added, as_slots, slots, no_slots, absent, there, truth, nothing, whole, item, octets, bits, characters, elements, bag, fields, alternative, day}
use Rattle.rasn_types.specs.Variants.{Variant, aligned, unaligned, variant_of}
use Rattle.rasn_types.proofs.Values.{as_slots-slots, slots-as_slots}
use Rattle.rasn_constraints.specs.Bounds.{Size}
use Rattle.rasn_schema.specs.Orders.{canonised, canonised_slots, put_part, how_many_less, insert_at}
use Rattle.rasn_schema.specs.Schemas.{by_tag, count, default, group, listed, no_parts, optional, Order, part, Parts, Presence, required, Schema, smallest, TagTree, tags}
use Rattle.rasn_schema.specs.Structures.{all_may_be, has_at, is_of_kind, may_be}
use Rattle.per_core.specs.Canon.{also_bit, bitmap_of, bodies_of, canon, char_writers, chosen, coded, date_of, extension_bit, flagged, flags_of, item_of, choice_of, Member, members, record_of, shown, with_additions}
use Rattle.per_core.specs.Counts.{char_items, constrained_whole, open_bits, small}
use Rattle.per_core.specs.Writers.{go_on, ◌▹◌, Writer, written_if}
use Rattle.per_core.proofs.SetReadings.{written}
use Rattle.per_pieces.proofs.Writing.{none_after}
use Rattle.per_core.specs.declared.encode_error.EncodeError.{EncodeError}
use Rattle.per_core.specs.declared.encode_error.EncodeErrorKind.TheVariants.{WrongKind}
use Rattle.per_core.specs.WritingFaults.{at_once}
use Rattle.per_write.specs.Faults.{IsError, RefusesValue, Stands}
use Rattle.per_write.specs.Items.{HasRefused, refused_after, refused_here}
use Rattle.per_write.specs.WriterState.{WriterState}
use Rattle.per_write.proofs.Refusing.{no_contents, none_counted}

one_fails : (b c : Bool) → (b && c) ≡ false → (b ≡ false) ⊎ (c ≡ false)
one_fails false c h = inl refl
one_fails true c h = inr h

-- a part that isn't there where it has to be
not_shown : (p : Presence) (r : Option Value) → may_be p r ≡ false → shown p r ≡ None
unfolding shown
not_shown required None h = refl
not_shown required (Some v) h = absurd cc
not_shown optional None h = absurd cc
not_shown optional (Some v) h = absurd cc
not_shown group None h = absurd cc
not_shown group (Some v) h = absurd cc
not_shown (default d) None h = absurd cc
not_shown (default d) (Some v) h = absurd cc

-- parts of which one isn't there where it has to be, or that are more or fewer
flags_none : (a : Variant) (ps : Parts) (rs : List (Option Value)) → all_may_be ps rs ≡ false → (p : ℕ) → flags_of (members a ps) rs p ≡ None
unfolding canon
flags_none a no_parts [] h p = absurd cc
flags_none a no_parts (r ∷ rs) h p = refl
flags_none a (part t q s ps) [] h p = refl
flags_none a (part t q s ps) (r ∷ rs) h p = elim (one_fails (may_be q r) (all_may_be ps rs) h) [
  | inl e ↦ ap (λ o. go_on (flagged q o p) (flags_of (members a ps) rs) p) (not_shown q r e)
  | inr e ↦ none_after (flagged q (shown q r) p) (flags_of (members a ps) rs) p (λ z. flags_none a ps rs e z)
]

also_none : (o : Option Bool) → also_bit o None ≡ None
also_none None = refl
also_none (Some b) = refl

bitmap_none : (a : Variant) (ps : Parts) (rs : List (Option Value)) → all_may_be ps rs ≡ false → bitmap_of (members a ps) rs ≡ None
unfolding canon bitmap_of
bitmap_none a no_parts [] h = absurd cc
bitmap_none a no_parts (r ∷ rs) h = refl
bitmap_none a (part t q s ps) [] h = refl
bitmap_none a (part t q s ps) (r ∷ rs) h = elim (one_fails (may_be q r) (all_may_be ps rs) h) [
  | inl e ↦ ap (λ o. also_bit o (bitmap_of (members a ps) rs)) (not_shown q r e)
  | inr e ↦ ap (also_bit (shown q r)) (bitmap_none a ps rs e) ∙ also_none (shown q r)
]

front_none : (o : Option Bits) (inner rest : Writer) (p : ℕ) → ((q : ℕ) → inner q ≡ None) → go_on o (inner ▹ rest) p ≡ None
front_none o inner rest p h = none_after o (inner ▹ rest) p (λ q. ap (λ z. go_on z rest q) (h q))

with_none : (a : Variant) (ext : Bool) (ms : List Member) (xs : List (Option Value)) (inner : Writer) (p : ℕ) (o : Option Bits) → ((q : ℕ) → inner q ≡ None) → with_additions a ext ms xs inner o p ≡ None
with_none a ext ms xs inner p None h = refl
with_none a ext ms xs inner p (Some bs) h = front_none _ inner _ p h

record_none : (a : Variant) (ps : Parts) (ext : Bool) (qs : Parts) (rs xs : List (Option Value)) → (all_may_be ps rs && all_may_be qs xs) ≡ false → (p : ℕ) → record_of a ext (members a ps) (members a qs) rs xs p ≡ None
unfolding record_of
record_none a ps ext qs rs xs h p =
    let flags = flags_of (members a ps) rs in
    let bodies = bodies_of (members a ps) rs in
    elim (one_fails (all_may_be ps rs) (all_may_be qs xs) h) [
      | inl e ↦ with_none a ext (members a qs) xs (flags ▹ bodies) p (bitmap_of (members a qs) xs) (λ q. ap (λ o. go_on o bodies q) (flags_none a ps rs e q))
      | inr e ↦ ap (λ o. with_additions a ext (members a qs) xs (flags ▹ bodies) o p) (bitmap_none a qs xs e)
    ]

-- in whichever order
put_none : (n : ℕ) (t : TagTree) (p : Presence) (s : Schema) (qs : Parts) → all_may_be (put_part n t p s qs) [] ≡ false
put_none zero t p s qs = refl
put_none (suc n) t p s no_parts = refl
put_none (suc n) t p s (part u q c qs) = refl

nothing_fails : (b : Bool) → (b && false) ≡ false
nothing_fails true = refl
nothing_fails false = refl

turned : (b c d : Bool) → (b && (c && d)) ≡ (c && (b && d))
turned true true d = refl
turned true false d = refl
turned false true d = refl
turned false false d = refl

put_may_be : (n : ℕ) (t : TagTree) (p : Presence) (s : Schema) (qs : Parts) (r : Option Value) (rs : List (Option Value)) → all_may_be (put_part n t p s qs) (insert_at n r rs) ≡ (may_be p r && all_may_be qs rs)
put_may_be zero t p s qs r rs = refl
put_may_be (suc n) t p s no_parts r [] = refl
put_may_be (suc zero) t p s no_parts r (x ∷ xs) = nothing_fails (may_be p x) ∙ sym (nothing_fails (may_be p r))
put_may_be (suc (suc n)) t p s no_parts r (x ∷ []) = nothing_fails (may_be p x) ∙ sym (nothing_fails (may_be p r))
put_may_be (suc (suc n)) t p s no_parts r (x ∷ y ∷ ys) = nothing_fails (may_be p x) ∙ sym (nothing_fails (may_be p r))
put_may_be (suc n) t p s (part u q c qs) r [] = ap (λ b. may_be q r && b) (put_none n t p s qs) ∙ nothing_fails (may_be q r) ∙ sym (nothing_fails (may_be p r))
put_may_be (suc n) t p s (part u q c qs) r (x ∷ xs) = ap (λ b. may_be q x && b) (put_may_be n t p s qs r xs) ∙ turned (may_be q x) (may_be p r) (all_may_be qs xs)

pub may_be_ordered : (ps : Parts) (rs : List (Option Value)) → all_may_be (canonised ps) (canonised_slots ps rs) ≡ all_may_be ps rs
may_be_ordered no_parts [] = refl
may_be_ordered no_parts (r ∷ rs) = refl
may_be_ordered (part t p s ps) [] = put_none (how_many_less (smallest t) (tags ps)) t p s (canonised ps)
may_be_ordered (part t p s ps) (r ∷ rs) =
    put_may_be (how_many_less (smallest t) (tags ps)) t p s (canonised ps) r (canonised_slots ps rs) ∙ ap (λ b. may_be p r && b) (may_be_ordered ps rs)

listed_none : (a : Variant) (ps : Parts) (ext : Bool) (qs : Parts) (r x : Slots) → (all_may_be ps (slots r) && all_may_be qs (slots x)) ≡ false → (p : ℕ) → canon a (Schema.sequence listed ps ext qs) (fields r x) p ≡ None
unfolding canon
listed_none a ps ext qs r x h p = record_none a ps ext qs (slots r) (slots x) h p

fields_none : (a : Variant) (o : Order) (ps : Parts) (ext : Bool) (qs : Parts) (r x : Slots) → (all_may_be ps (slots r) && all_may_be qs (slots x)) ≡ false → (p : ℕ) → canon a (Schema.sequence o ps ext qs) (fields r x) p ≡ None
fields_none a listed ps ext qs r x h p = listed_none a ps ext qs r x h p
fields_none a by_tag ps ext qs r x h p =
    let ss = canonised_slots ps (slots r) in
    let xs = slots x in
    ap (λ v. canon a (Schema.sequence by_tag ps ext qs) v p) (ap₂ fields (sym (as_slots-slots r)) (sym (as_slots-slots x)))
    ∙ ap (λ w. w p) (written a ps ext qs (slots r) xs)
    ∙ listed_none a (canonised ps) ext qs (as_slots ss) (as_slots xs)
    (ap₂ (λ b c. all_may_be (canonised ps) b && all_may_be qs c) (slots-as_slots ss) (slots-as_slots xs) ∙ ap (λ b. b && all_may_be qs xs) (may_be_ordered ps (slots r)) ∙ h) p

-- an index past the alternatives
chosen_none : (a : Variant) (ps : Parts) (i : ℕ) (v : Value) → count ps ≤ i → (p : ℕ) → chosen (members a ps) i v p ≡ None
unfolding canon
chosen_none a no_parts i v h p = refl
chosen_none a (part t q s ps) zero v h p = absurd (omega arith)
chosen_none a (part t q s ps) (suc i) v h p = chosen_none a ps i v (omega arith) p

alternative_none : (a : Variant) (ps : Parts) (ext : Bool) (qs : Parts) (d : Side) (i : ℕ) (v : Value) → is_of_kind (Schema.choice ps qs ext) (alternative d i v) ≡ false → (p : ℕ) → canon a (Schema.choice ps qs ext) (alternative d i v) p ≡ None
unfolding canon choice_of
alternative_none a ps ext qs root i v h p =
    none_after (extension_bit ext false p) _ p (λ q. none_after (constrained_whole a (length (members a ps)) i q) _ q (λ r. chosen_none a ps i v (ltb-false i (count ps) h) r))
alternative_none a ps ext qs added i v h p =
    none_after (extension_bit ext true p) _ p (λ q. none_after (small a i q) _ q (λ r. ap (λ o. open_bits a o r) (chosen_none a qs i v (ltb-false i (count qs) h) 0) ∙ no_contents a r))

not_written : (b : Bool) (w : Writer) (p : ℕ) → b ≡ false → written_if b w p ≡ None
not_written true w p h = absurd cc
not_written false w p h = refl

-- an item past those of its list
past_numbers : (a : Variant) (n i p : ℕ) → ltb i n ≡ false → constrained_whole a n i p ≡ None
unfolding constrained_whole
past_numbers unaligned n i p h = not_written (ltb i n) _ p h
past_numbers aligned n i p h = not_written (ltb i n) _ p h

item_none : (a : Variant) (r e : ℕ) (ext : Bool) (d : Side) (i : ℕ) → is_of_kind (Schema.items r e ext) (item d i) ≡ false → (p : ℕ) → canon a (Schema.items r e ext) (item d i) p ≡ None
unfolding canon item_of
item_none a r e ext root i h p = none_after (extension_bit ext false p) _ p (λ q. past_numbers a r i q h)
item_none a r e ext added i h p = none_after (extension_bit ext true p) _ p (λ q. ap (λ b. written_if b (small a i) q) h)

-- a character outside an alphabet
not_in : (own : List ℕ) (c : ℕ) → has own c ≡ false → index_of c own ≡ None
not_in [] c h = refl
not_in (d ∷ ds) c h = go (c == d) refl (not_in ds c (rest (d == c) h))
  where
    rest : (b : Bool) → (b || has ds c) ≡ false → has ds c ≡ false
    rest true k = absurd cc
    rest false k = k

    go : (b : Bool) → (c == d) ≡ b → index_of c ds ≡ None → index_of c (d ∷ ds) ≡ None
    go true e n = absurd (let f : (d == c) ≡ true = eq-eqb d c (sym (eqb-true c d e)) in let k : (true || has ds c) ≡ false = ap (λ b. b || has ds c) (sym f) ∙ h in cc)
    go false e n = ap (λ (b : Bool). cond b (Some 0) (more (index_of c ds))) e ∙ ap more n

no_code : (a : Variant) (own : List ℕ) (c : ℕ) → has own c ≡ false → char_code a own c ≡ None
unfolding char_code
no_code a own c h = ap (keep_own (ltb (greatest own) (2 ^ char_width a own)) c) (not_in own c h)

foreign_refused : (a : Variant) (own cs : List ℕ) → has_all own cs ≡ false → HasRefused (char_writers a own cs)
unfolding char_writers
foreign_refused a own [] h = absurd cc
foreign_refused a own (c ∷ cs) h = elim (one_fails (has own c) (has_all own cs) h) [
  | inl e ↦ refused_here (λ p. ap (λ o. coded (char_width a own) o p) (no_code a own c e))
  | inr e ↦ refused_after (foreign_refused a own cs e)
]

characters_none : (a : Variant) (own : List ℕ) (size : Size) (mark : Bool) (cs : List ℕ) → has_all own cs ≡ false → (p : ℕ) → canon a (Schema.char_string own size mark) (characters cs) p ≡ None
unfolding canon
characters_none a own size mark cs h p = none_counted a size mark (char_items (char_width a own)) (char_writers a own cs) (foreign_refused a own cs h) p

date_none : (a : Variant) (y : ℤ) (m d : ℕ) → is_date y m d ≡ false → (p : ℕ) → canon a Schema.date (day y m d) p ≡ None
unfolding canon date_of
date_none a y m d h p = not_written (is_date y m d) _ p h

-- whatever the schema
pub none_of_other : (a : Variant) (s : Schema) (v : Value) → is_of_kind s v ≡ false → (p : ℕ) → canon a s v p ≡ None
unfolding canon
none_of_other a Schema.boolean (truth b) h p = absurd cc
none_of_other a Schema.boolean _ h p = refl
none_of_other a Schema.null nothing h p = absurd cc
none_of_other a Schema.null _ h p = refl
none_of_other a Schema.real v h p = refl
none_of_other a Schema.cut v h p = refl
none_of_other a Schema.any (octets os) h p = absurd cc
none_of_other a Schema.any _ h p = refl
none_of_other a (Schema.text kind) (octets os) h p = not_written _ _ p h
none_of_other a (Schema.text kind) _ h p = refl
none_of_other a Schema.identifier (octets os) h p = not_written _ _ p h
none_of_other a Schema.identifier _ h p = refl
none_of_other a (Schema.time kind) (characters cs) h p = not_written _ _ p h
none_of_other a (Schema.time kind) _ h p = refl
none_of_other a Schema.date (day y m d) h p = date_none a y m d h p
none_of_other a Schema.date _ h p = refl
none_of_other a (Schema.number bounds mark range) (whole z) h p = absurd cc
none_of_other a (Schema.number bounds mark range) _ h p = refl
none_of_other a (Schema.items r e ext) (item d i) h p = item_none a r e ext d i h p
none_of_other a (Schema.items r e ext) _ h p = refl
none_of_other a (Schema.octet_string size mark) (octets os) h p = absurd cc
none_of_other a (Schema.octet_string size mark) _ h p = refl
none_of_other a (Schema.bit_string size mark named) (bits bs) h p = absurd cc
none_of_other a (Schema.bit_string size mark named) _ h p = refl
none_of_other a (Schema.char_string own size mark) (characters cs) h p = characters_none a own size mark cs h p
none_of_other a (Schema.char_string own size mark) _ h p = refl
none_of_other a (Schema.containing e) v h p = ap (λ (o : Option Bits). open_bits a o p) (none_of_other a e v h 0) ∙ no_contents a p
none_of_other a (Schema.list e size mark) (elements vs) h p = absurd cc
none_of_other a (Schema.list e size mark) _ h p = refl
none_of_other a (Schema.set_of e size mark) (bag vs) h p = absurd cc
none_of_other a (Schema.set_of e size mark) _ h p = refl
none_of_other a (Schema.sequence o ps ext qs) (fields r x) h p = fields_none a o ps ext qs r x h p
none_of_other a (Schema.sequence o ps ext qs) _ h p = refl
none_of_other a (Schema.choice ps qs ext) (alternative d i v) h p = alternative_none a ps ext qs d i v h p
none_of_other a (Schema.choice ps qs ext) _ h p = refl

pub other_refused : (e : EncodeError) (x : WriterState) → IsError WrongKind e x → (s : Schema) (v : Value) → is_of_kind s v ≡ false → RefusesValue e x s v
other_refused e x h s v o = record {
  none = λ f p. none_of_other (variant_of x.codec) s v o p;
  stands = subst (λ k. Stands k x s v) (sym h.kind_is) (at_once o);
  codec_is = h.codec_is;
}
