-- What canon writes depends on the position modulo 8 alone.
use Rattle.std.proofs.Common.{◌≡◌, refl, ap, ◌∙◌, ℕ, ◌+◌, ◌-◌, ◌/◌, ◌%◌, Bool, true, false, cond, ◌&&◌, leb, ltb, eqb, List, [], ◌∷◌, map, length, take, drop, replicate, arith, Option, Some, None, ℤ}
use Rattle.rasn_types.specs.Alphabets.{char_width, visible}
use Rattle.rasn_types.specs.Bits.{Bits, to_bits, width, pack, natural_bits, whole_bits, octets_of_natural}
use Rattle.rasn_types.specs.Contents.{is_date, is_text, is_time, is_identifier}
use Rattle.rasn_types.specs.Values.{Value, values, slots, Side, root, added, same, bag_of}
use Rattle.rasn_types.specs.Variants.{Variant, aligned, unaligned}
use Rattle.rasn_constraints.specs.Bounds.{allows, fits_i128, holds, above, Bounds, Size, any_size}
use Rattle.rasn_schema.specs.Orders.{ordered}
use Rattle.rasn_schema.specs.Schemas.{tags, Schema, Presence}
use Rattle.per_core.specs.Canon.{canon, members, Member, shown, flag, flagged, flags_of, bodies_of, bitmap_of, any_set, bitmap, opens_of, extension_bit, with_additions, record_of, chosen, choice_of, item_of, date_of, year_writer, in_range, year_of, char_writers, ascending, on_truth, on_nothing, on_whole, on_octets, on_bits, on_characters, on_item, on_day, on_elements, on_bag, on_fields, on_alternative}
use Rattle.per_core.specs.Counts.{ItemKind, constrained_whole, in_fragments, determinant, fragment_sizes, counted_under, counted_in, counted, marked_form, padding_if, is_aligned, octet_writers, bit_writers, unconstrained_octets, counted_octets, number_under, number_form, open_bits, small, list_items, octet_items, bit_items}
use Rattle.per_core.specs.Writers.{complete, Writer, just, refused, ◌▹◌, go_on, join, one_by_one, padding, written_if}

pub record Periodic (w : Writer) : Type 0 where
  pub same : (p q : ℕ) → p % 8 ≡ q % 8 → w p ≡ w q

pub just_p : (b : Bits) → Periodic (just b)
just_p b = record { same = λ p q e. refl }

pub refused_p : Periodic refused
refused_p = record { same = λ p q e. refl }

-- what is first alone sees the position as it is; the rest sees it below 8
pub then_p : {f : Writer} (g : Writer) → Periodic f → Periodic (f ▹ g)
then_p {f} g h = record { same = λ p q e. ap (λ o. go_on o g p) (h.same p q e) ∙ go p q e (f q) }
  where
    go : (p q : ℕ) → p % 8 ≡ q % 8 → (o : Option Bits) → go_on o g p ≡ go_on o g q
    go p q e None = refl
    go p q e (Some b) = ap (λ (r : ℕ). join b (g r)) (moved p q e (length b))
      where
        moved : (p q : ℕ) → p % 8 ≡ q % 8 → (n : ℕ) → (p + n) % 8 ≡ (q + n) % 8
        moved p q e n = omega (arith, e)

pub padding_p : (a : Variant) → Periodic (padding a)
padding_p unaligned = record { same = λ p q e. refl }
padding_p aligned = record { same = λ p q e. ap (λ (n : ℕ). Some (replicate ((8 - n) % 8) false)) e }

pub if_p : {w : Writer} (b : Bool) → Periodic w → Periodic (written_if b w)
if_p true h = h
if_p false h = refused_p

pub cond_p : {w v : Writer} (b : Bool) → Periodic w → Periodic v → Periodic (cond b w v)
cond_p true h k = h
cond_p false h k = k

in_fragments_p : (a : Variant) (ms : List ℕ) (ws : List Writer) → Periodic (in_fragments a ms ws)
in_fragments_p a [] ws = just_p []
in_fragments_p a (m ∷ ms) ws = then_p (just (determinant m) ▹ one_by_one (take m ws) ▹ in_fragments a ms (drop m ws)) (padding_p a)

pub bounded_p : (a : Variant) (n o : ℕ) → Periodic (constrained_whole a n o)
unfolding constrained_whole
bounded_p unaligned n o = if_p (ltb o n) (just_p (to_bits (width n) o))
bounded_p aligned n o = if_p (ltb o n) (cond_p (leb n 255) (just_p (to_bits (width n) o)) (cond_p (eqb n 256) (then_p (just (to_bits 8 o)) (padding_p aligned))
    (cond_p (leb n 65536) (then_p (just (to_bits 16 o)) (padding_p aligned)) (then_p (padding aligned ▹ just (natural_bits o)) (just_p (to_bits (width ((width n + 7) / 8)) (octets_of_natural o - 1)))))))

under_p : (a : Variant) (l u : Option ℕ) (kind : ItemKind) (n : ℕ) (ws : List Writer) → Periodic (counted_under a l u kind n ws)
under_p a None u kind n ws = in_fragments_p a (fragment_sizes n) ws
under_p a (Some lb) None kind n ws = in_fragments_p a (fragment_sizes n) ws
under_p a (Some lb) (Some ub) kind n ws = cond_p (ltb ub 65536) (then_p (padding_if (ltb 0 n && is_aligned kind lb ub) a ▹ one_by_one ws) (bounded_p a (ub - lb + 1) (n - lb))) (in_fragments_p a (fragment_sizes n) ws)

marked_p : {f : Writer} (g : Writer) (mark inside : Bool) → Periodic f → Periodic (marked_form mark inside f g)
marked_p g false inside h = h
marked_p {f} g true true h = then_p f (just_p (false ∷ []))
marked_p g true false h = then_p g (just_p (true ∷ []))

pub counted_p : (a : Variant) (size : Size) (mark : Bool) (kind : ItemKind) (ws : List Writer) → Periodic (counted a size mark kind ws)
counted_p a size mark kind ws = marked_p (counted_in a any_size kind ws) mark (allows size (length ws)) (if_p (allows size (length ws)) (under_p a size.least size.most kind (length ws) ws))

pub octets_p : (a : Variant) (os : List ℕ) → Periodic (unconstrained_octets a os)
octets_p a os = counted_p a any_size false octet_items (octet_writers os)

bits_octets_p : (a : Variant) (b : Bits) → Periodic (counted_octets a b)
unfolding counted_octets
bits_octets_p a b = octets_p a (pack (length b / 8) b)

under_number_p : (a : Variant) (l u : Option ℤ) (z : ℤ) → Periodic (number_under a l u z)
unfolding number_under
under_number_p a None None z = bits_octets_p a (whole_bits z)
under_number_p a None (Some u) z = if_p (fits_i128 z) (bits_octets_p a (whole_bits z))
under_number_p a (Some l) None z = if_p (fits_i128 z) (bits_octets_p a (natural_bits (above l z)))
under_number_p a (Some l) (Some u) z = if_p (fits_i128 z) (bounded_p a (above l u + 1) (above l z))

number_p : (a : Variant) (bounds : Bounds) (mark : Bool) (z : ℤ) → Periodic (number_form a bounds mark z)
unfolding number_form
number_p a bounds mark z = marked_p (counted_octets a (whole_bits z)) mark (holds bounds z) (if_p (holds bounds z) (under_number_p a bounds.low bounds.high z))

flagged_p : (pr : Presence) (o : Option Bool) → Periodic (flagged pr o)
flagged_p pr None = refused_p
flagged_p pr (Some b) = just_p (flag pr b)

pub flags_p : (ms : List Member) (ss : List (Option Value)) → Periodic (flags_of ms ss)
flags_p [] [] = just_p []
flags_p [] (s ∷ ss) = refused_p
flags_p (m ∷ ms) [] = refused_p
flags_p (m ∷ ms) (s ∷ ss) = then_p (flags_of ms ss) (flagged_p m.presence (shown m.presence s))

extension_p : (ext b : Bool) → Periodic (extension_bit ext b)
extension_p false false = just_p []
extension_p false true = refused_p
extension_p true b = just_p (b ∷ [])

additions_p : (a : Variant) (ext : Bool) (ms : List Member) (ss : List (Option Value)) (inner : Writer) (o : Option Bits) → Periodic (with_additions a ext ms ss inner o)
additions_p a ext ms ss inner None = refused_p
additions_p a ext ms ss inner (Some bs) = then_p (inner ▹ cond (any_set bs) (bitmap a bs ▹ opens_of a ms ss bs) (just [])) (extension_p ext (any_set bs))

record_p : (a : Variant) (ext : Bool) (ms adds : List Member) (ss xs : List (Option Value)) → Periodic (record_of a ext ms adds ss xs)
unfolding record_of
record_p a ext ms adds ss xs = additions_p a ext adds xs (flags_of ms ss ▹ bodies_of ms ss) (bitmap_of adds xs)

open_p : (a : Variant) (o : Option Bits) → Periodic (open_bits a o)
unfolding open_bits
open_p a None = refused_p
open_p a (Some bits) = octets_p a (complete bits)

choice_p : (a : Variant) (ext : Bool) (ms adds : List Member) (d : Side) (i : ℕ) (v : Value) → Periodic (choice_of a ext ms adds d i v)
unfolding choice_of
choice_p a ext ms adds root i v = then_p (constrained_whole a (length ms) i ▹ chosen ms i v) (extension_p ext false)
choice_p a ext ms adds added i v = then_p (small a i ▹ open_bits a (chosen adds i v 0)) (extension_p ext true)

item_p : (a : Variant) (r e : ℕ) (ext : Bool) (d : Side) (i : ℕ) → Periodic (item_of a r e ext d i)
unfolding item_of
item_p a r e ext root i = then_p (constrained_whole a r i) (extension_p ext false)
item_p a r e ext added i = then_p (written_if (ltb i e) (small a i)) (extension_p ext true)

year_p : (a : Variant) (y : ℤ) → Periodic (year_writer a y)
unfolding year_writer
year_p a y = cond_p (in_range 2005 2020 y) (then_p (constrained_whole a 16 (year_of y - 2005)) (bounded_p a 4 0)) (cond_p (in_range 2021 2276 y) (then_p (constrained_whole a 256 (year_of y - 2021)) (bounded_p a 4 1))
    (cond_p (in_range 1749 2004 y) (then_p (constrained_whole a 256 (year_of y - 1749)) (bounded_p a 4 2)) (then_p (number_under a None None y) (bounded_p a 4 3))))

date_p : (a : Variant) (y : ℤ) (m d : ℕ) → Periodic (date_of a y m d)
unfolding date_of
date_p a y m d = if_p (is_date y m d) (then_p (constrained_whole a 12 (m - 1) ▹ constrained_whole a 31 (d - 1)) (year_p a y))

-- each kind, at a value of any kind
truth_p : (v : Value) → Periodic (on_truth (λ b. just (b ∷ [])) v)
truth_p (Value.truth b) = just_p (b ∷ [])
truth_p _ = refused_p

nothing_p : (v : Value) → Periodic (on_nothing (just []) v)
nothing_p Value.nothing = just_p []
nothing_p _ = refused_p

on_whole_p : (f : ℤ → Writer) → ((z : ℤ) → Periodic (f z)) → (v : Value) → Periodic (on_whole f v)
on_whole_p f h (Value.whole z) = h z
on_whole_p f h _ = refused_p

on_octets_p : (f : List ℕ → Writer) → ((os : List ℕ) → Periodic (f os)) → (v : Value) → Periodic (on_octets f v)
on_octets_p f h (Value.octets os) = h os
on_octets_p f h _ = refused_p

on_bits_p : (f : Bits → Writer) → ((bs : Bits) → Periodic (f bs)) → (v : Value) → Periodic (on_bits f v)
on_bits_p f h (Value.bits bs) = h bs
on_bits_p f h _ = refused_p

on_characters_p : (f : List ℕ → Writer) → ((cs : List ℕ) → Periodic (f cs)) → (v : Value) → Periodic (on_characters f v)
on_characters_p f h (Value.characters cs) = h cs
on_characters_p f h _ = refused_p

on_item_p : (f : Side → ℕ → Writer) → ((d : Side) (i : ℕ) → Periodic (f d i)) → (v : Value) → Periodic (on_item f v)
on_item_p f h (Value.item d i) = h d i
on_item_p f h _ = refused_p

on_day_p : (f : ℤ → ℕ → ℕ → Writer) → ((y : ℤ) (m d : ℕ) → Periodic (f y m d)) → (v : Value) → Periodic (on_day f v)
on_day_p f h (Value.day y m d) = h y m d
on_day_p f h _ = refused_p

on_elements_p : (f : List Value → Writer) → ((vs : List Value) → Periodic (f vs)) → (v : Value) → Periodic (on_elements f v)
on_elements_p f h (Value.elements vs) = h (values vs)
on_elements_p f h _ = refused_p

on_bag_p : (f : List Value → Writer) → ((vs : List Value) → Periodic (f vs)) → (v : Value) → Periodic (on_bag f v)
on_bag_p f h (Value.bag vs) = if_p (same (bag_of (values vs)) (Value.bag vs)) (h (values vs))
on_bag_p f h _ = refused_p

on_fields_p : (f : List (Option Value) → List (Option Value) → Writer) → ((r x : List (Option Value)) → Periodic (f r x)) → (v : Value) → Periodic (on_fields f v)
on_fields_p f h (Value.fields r x) = h (slots r) (slots x)
on_fields_p f h _ = refused_p

on_alternative_p : (f : Side → ℕ → Value → Writer) → ((d : Side) (i : ℕ) (v : Value) → Periodic (f d i v)) → (v : Value) → Periodic (on_alternative f v)
on_alternative_p f h (Value.alternative d i v) = h d i v
on_alternative_p f h _ = refused_p

string_p : (a : Variant) (alphabet : List ℕ) (size : Size) (mark : Bool) (cs : List ℕ) → Periodic (counted a size mark (ItemKind.char_items (char_width a alphabet)) (char_writers a alphabet cs))
string_p a alphabet size mark cs = counted_p a size mark (ItemKind.char_items (char_width a alphabet)) (char_writers a alphabet cs)

pub canon_p : (a : Variant) (s : Schema) (v : Value) → Periodic (canon a s v)
unfolding canon
canon_p a Schema.boolean v = truth_p v
canon_p a Schema.null v = nothing_p v
canon_p a Schema.real v = refused_p
canon_p a Schema.cut v = refused_p
canon_p a Schema.any v = on_octets_p (unconstrained_octets a) (octets_p a) v
canon_p a (Schema.text kind) v = on_octets_p _ (λ os. if_p (is_text kind os) (octets_p a os)) v
canon_p a Schema.identifier v = on_octets_p _ (λ os. if_p (is_identifier os) (octets_p a os)) v
canon_p a (Schema.time kind) v = on_characters_p _ (λ cs. if_p (is_time kind cs) (string_p a visible any_size false cs)) v
canon_p a Schema.date v = on_day_p (date_of a) (date_p a) v
canon_p a (Schema.number bounds mark range) v = on_whole_p _ (λ z. if_p (holds range z) (number_p a bounds mark z)) v
canon_p a (Schema.items r e ext) v = on_item_p (item_of a r e ext) (item_p a r e ext) v
canon_p a (Schema.octet_string size mark) v = on_octets_p _ (λ os. counted_p a size mark octet_items (octet_writers os)) v
canon_p a (Schema.bit_string size mark named) v = on_bits_p _ (λ bs. counted_p a size mark bit_items (bit_writers bs)) v
canon_p a (Schema.char_string alphabet size mark) v = on_characters_p _ (string_p a alphabet size mark) v
canon_p a (Schema.containing e) v = open_p a (canon a e v 0)
canon_p a (Schema.list e size mark) v = on_elements_p _ (λ vs. counted_p a size mark list_items (map (canon a e) vs)) v
canon_p a (Schema.set_of e size mark) v = on_bag_p _ (λ vs. counted_p a size mark list_items (ascending (map (canon a e) vs))) v
canon_p a (Schema.sequence o ps ext adds) v = on_fields_p _ (λ r x. record_p a ext (ordered o (tags ps) (members a ps)) (members a adds) (ordered o (tags ps) r) x) v
canon_p a (Schema.choice ps adds ext) v = on_alternative_p _ (choice_p a ext (members a ps) (members a adds)) v
