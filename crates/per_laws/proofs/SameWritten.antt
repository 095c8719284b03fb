-- Where nothing that is written is cut off, two trees write the same.
use Rattle.std.proofs.Common.{◌≡◌, refl, sym, ap, ◌∙◌, subst, ap₂, ℕ, zero, suc, Bool, true, false, cond, not, ◌&&◌, List, [], ◌∷◌, map, length, arith, inl, inr, ◌⊎◌, ◌≢◌, Option, Some, None}
use Rattle.std.proofs.Math.Path.{fun_ext}
use Rattle.std.proofs.lemmas.Bool.{cases_eq}
use Rattle.rasn_types.specs.Values.{Value, same, elements, bag, bag_of, fields, alternative, root, added, values, slots}
use Rattle.rasn_types.specs.Bits.{Bits}
use Rattle.rasn_types.specs.Variants.{Variant}
use Rattle.rasn_schema.specs.Schemas.{Presence, required, optional, group, default, Order, listed, by_tag, Tag, tags, Schema, Parts}
use Rattle.rasn_schema.specs.Orders.{ordered, by_tags, insert_at, how_many_less}
use Rattle.rasn_schema.specs.Depth.{in_slots, any_of, CutOf, CutParts, cut_here, alike, cut_containing, cut_list, cut_set_of, cut_sequence, cut_choice, no_cut, cut_part}
use Rattle.per_core.specs.Writers.{Writer, just, refused, ◌▹◌, go_on, written_if}
use Rattle.per_core.specs.Counts.{counted, list_items, open_bits, constrained_whole, small}
use Rattle.per_core.specs.Canon.{canon, members, Member, shown, flagged, if_shown, flags_of, bodies_of, also_bit, bitmap_of, bitmap, any_set, opens_of, with_additions, record_of, chosen, extension_bit, ascending}
use Rattle.per_core.proofs.Readings.{length-by_tags}
use Rattle.per_core.proofs.LengthForms.{or_left, or_right}
use Rattle.per_core.proofs.Presenting.{some_both}
use Rattle.per_laws.proofs.DeeperTrees.{same_cut_tags}
use Rattle.per_laws.proofs.Takes.{some_is}
use Rattle.per_laws.specs.Written.{is_written, writes_cut, slots_write_cut, writes_cut_at}

-- two members that write the same where the part in this slot is shown
pub record Fit (m' m : Member) (x : Option Value) : Type 0 where
  pub alike : m'.presence ≡ m.presence
  pub each : (v : Value) → x ≡ Some v → shown m.presence x ≡ Some true → m'.writes v ≡ m.writes v

abbrev pub Fits : List Member → List Member → List (Option Value) → Type 0
Fits [] [] xs = Unit {0}
Fits (m' ∷ ms') (m ∷ ms) [] = Fits ms' ms []
Fits (m' ∷ ms') (m ∷ ms) (x ∷ xs) = Fit m' m x × Fits ms' ms xs
Fits _ _ xs = ⊥

insert-fits : (n : ℕ) (m' m : Member) (x : Option Value) (ms' ms : List Member) (xs : List (Option Value)) → length xs ≡ length ms → Fit m' m x → Fits ms' ms xs → Fits (insert_at n m' ms') (insert_at n m ms) (insert_at n x xs)
insert-fits zero m' m x ms' ms xs l k ks = (k, ks)
insert-fits (suc n) m' m x [] [] [] l k ks = (k, tt)
insert-fits (suc n) m' m x [] [] (y ∷ ys) l k ks = absurd (omega arith)
insert-fits (suc n) m' m x (q' ∷ ms') (q ∷ ms) [] l k ks = absurd (omega arith)
insert-fits (suc n) m' m x (q' ∷ ms') (q ∷ ms) (y ∷ ys) l k ks = (ks.0, insert-fits n m' m x ms' ms ys (omega arith) k ks.1)
insert-fits (suc n) m' m x [] (q ∷ ms) ys l k ks = absurd ks
insert-fits (suc n) m' m x (q' ∷ ms') [] ys l k ks = absurd ks

by_tags-fits : (ts : List Tag) (ms' ms : List Member) (xs : List (Option Value)) → length xs ≡ length ms → Fits ms' ms xs → Fits (by_tags ts ms') (by_tags ts ms) (by_tags ts xs)
by_tags-fits ts [] [] [] l k = tt
by_tags-fits ts [] [] (x ∷ xs) l k = absurd (omega arith)
by_tags-fits [] (m' ∷ ms') (m ∷ ms) (x ∷ xs) l k = k
by_tags-fits (t ∷ ts) (m' ∷ ms') (m ∷ ms) (x ∷ xs) l k =
    insert-fits (how_many_less t ts) m' m x (by_tags ts ms') (by_tags ts ms) (by_tags ts xs) (length-by_tags ts xs ∙ omega arith ∙ sym (length-by_tags ts ms)) k.0 (by_tags-fits ts ms' ms xs (omega arith) k.1)
by_tags-fits ts (m' ∷ ms') (m ∷ ms) [] l k = absurd (omega arith)
by_tags-fits ts [] (m ∷ ms) xs l k = absurd k
by_tags-fits ts (m' ∷ ms') [] xs l k = absurd k

pub ordered-fits : (o : Order) (ts : List Tag) (ms' ms : List Member) (xs : List (Option Value)) → length xs ≡ length ms → Fits ms' ms xs → Fits (ordered o ts ms') (ordered o ts ms) (ordered o ts xs)
ordered-fits listed ts ms' ms xs l k = k
ordered-fits by_tag ts ms' ms xs l k = by_tags-fits ts ms' ms xs l k

length_ordered {ℓ} : {A : Type ℓ} (o : Order) (ts : List Tag) (xs : List A) → length (ordered o ts xs) ≡ length xs
length_ordered listed ts xs = refl
length_ordered by_tag ts xs = length-by_tags ts xs

-- one part
flag_same : (m' m : Member) (x : Option Value) → Fit m' m x → flagged m'.presence (shown m'.presence x) ≡ flagged m.presence (shown m.presence x)
flag_same m' m x k = ap (λ p. flagged p (shown p x)) k.alike

body_same : (m' m : Member) (x : Option Value) → Fit m' m x → if_shown (shown m'.presence x) x m'.writes ≡ if_shown (shown m.presence x) x m.writes
body_same m' m x k = ap (λ p. if_shown (shown p x) x m'.writes) k.alike ∙ go x (shown m.presence x) k.each
  where
    go : (x : Option Value) (o : Option Bool) → ((v : Value) → x ≡ Some v → o ≡ Some true → m'.writes v ≡ m.writes v) → if_shown o x m'.writes ≡ if_shown o x m.writes
    go x None h = refl
    go x (Some false) h = refl
    go None (Some true) h = refl
    go (Some v) (Some true) h = h v refl refl

flags_same : (ms' ms : List Member) (xs : List (Option Value)) → Fits ms' ms xs → flags_of ms' xs ≡ flags_of ms xs
flags_same [] [] [] k = refl
flags_same [] [] (x ∷ xs) k = refl
flags_same (m' ∷ ms') (m ∷ ms) [] k = refl
flags_same (m' ∷ ms') (m ∷ ms) (x ∷ xs) k = ap₂ (λ f g. f ▹ g) (flag_same m' m x k.0) (flags_same ms' ms xs k.1)
flags_same [] (m ∷ ms) xs k = absurd k
flags_same (m' ∷ ms') [] xs k = absurd k

bodies_same : (ms' ms : List Member) (xs : List (Option Value)) → Fits ms' ms xs → bodies_of ms' xs ≡ bodies_of ms xs
bodies_same [] [] [] k = refl
bodies_same [] [] (x ∷ xs) k = refl
bodies_same (m' ∷ ms') (m ∷ ms) [] k = refl
bodies_same (m' ∷ ms') (m ∷ ms) (x ∷ xs) k = ap₂ (λ f g. f ▹ g) (body_same m' m x k.0) (bodies_same ms' ms xs k.1)
bodies_same [] (m ∷ ms) xs k = absurd k
bodies_same (m' ∷ ms') [] xs k = absurd k

pub root_same : (ms' ms : List Member) (xs : List (Option Value)) → Fits ms' ms xs → (flags_of ms' xs ▹ bodies_of ms' xs) ≡ (flags_of ms xs ▹ bodies_of ms xs)
root_same ms' ms xs k = ap₂ (λ f g. f ▹ g) (flags_same ms' ms xs k) (bodies_same ms' ms xs k)

-- where there are too many or too few slots, nothing is written
flags_refused : (ms : List Member) (xs : List (Option Value)) → (length xs ≡ length ms → ⊥) → flags_of ms xs ≡ refused
flags_refused [] [] h = absurd (h refl)
flags_refused [] (x ∷ xs) h = refl
flags_refused (m ∷ ms) [] h = refl
flags_refused (m ∷ ms) (x ∷ xs) h = ap (λ g. flagged m.presence (shown m.presence x) ▹ g) (flags_refused ms xs (λ e. h (ap suc e))) ∙ fun_ext (λ p. go p (flagged m.presence (shown m.presence x) p))
  where
    go : (p : ℕ) (o : Option Bits) → go_on o refused p ≡ None
    go p None = refl
    go p (Some b) = refl

pub root_refused : (ms : List Member) (xs : List (Option Value)) → (length xs ≡ length ms → ⊥) → (flags_of ms xs ▹ bodies_of ms xs) ≡ refused
root_refused ms xs h = ap (λ f. f ▹ bodies_of ms xs) (flags_refused ms xs h)

-- additions
bitmap_same : (ms' ms : List Member) (xs : List (Option Value)) → Fits ms' ms xs → bitmap_of ms' xs ≡ bitmap_of ms xs
unfolding bitmap_of
bitmap_same [] [] [] k = refl
bitmap_same [] [] (x ∷ xs) k = refl
bitmap_same (m' ∷ ms') (m ∷ ms) [] k = refl
bitmap_same (m' ∷ ms') (m ∷ ms) (x ∷ xs) k = ap₂ (λ o q. also_bit o q) (ap (λ p. shown p x) k.0.alike) (bitmap_same ms' ms xs k.1)
bitmap_same [] (m ∷ ms) xs k = absurd k
bitmap_same (m' ∷ ms') [] xs k = absurd k

opens_same : (a : Variant) (ms' ms : List Member) (xs : List (Option Value)) → Fits ms' ms xs → (bs : Bits) → bitmap_of ms xs ≡ Some bs → opens_of a ms' xs bs ≡ opens_of a ms xs bs
unfolding bitmap_of
opens_same a [] [] xs k bs e = refl
opens_same a (m' ∷ ms') (m ∷ ms) [] k bs e = refl
opens_same a (m' ∷ ms') (m ∷ ms) (x ∷ xs) k bs e =
    let q = some_both (shown m.presence x) (bitmap_of ms xs) bs e in
    subst (λ z. opens_of a (m' ∷ ms') (x ∷ xs) z ≡ opens_of a (m ∷ ms) (x ∷ xs) z) (sym q.4) (go x q.0 q.1 q.2 k.0.each (opens_same a ms' ms xs k.1 q.1 q.3))
  where
    go : (x : Option Value) (b : Bool) (cs : Bits) → shown m.presence x ≡ Some b → ((v : Value) → x ≡ Some v → shown m.presence x ≡ Some true → m'.writes v ≡ m.writes v) →
        opens_of a ms' xs cs ≡ opens_of a ms xs cs → opens_of a (m' ∷ ms') (x ∷ xs) (b ∷ cs) ≡ opens_of a (m ∷ ms) (x ∷ xs) (b ∷ cs)
    go None b cs s h r = r
    go (Some v) false cs s h r = r
    go (Some v) true cs s h r = ap₂ (λ w g. open_bits a (w 0) ▹ g) (h v refl s) r
opens_same a [] (m ∷ ms) xs k bs e = absurd k
opens_same a (m' ∷ ms') [] xs k bs e = absurd k

pub record_same : (a : Variant) (ext : Bool) (ms' ms adds' adds : List Member) (ss' ss xs : List (Option Value)) → (flags_of ms' ss' ▹ bodies_of ms' ss') ≡ (flags_of ms ss ▹ bodies_of ms ss) → Fits adds' adds xs →
    record_of a ext ms' adds' ss' xs ≡ record_of a ext ms adds ss xs
unfolding record_of
record_same a ext ms' ms adds' adds ss' ss xs i k =
    ap₂ (λ w o. with_additions a ext adds' xs w o) i (bitmap_same adds' adds xs k) ∙ go (bitmap_of adds xs) refl
  where
    opened : (bs : Bits) (t : Bool) → bitmap_of adds xs ≡ Some bs → cond t (bitmap a bs ▹ opens_of a adds' xs bs) (just []) ≡ cond t (bitmap a bs ▹ opens_of a adds xs bs) (just [])
    opened bs true e = ap (λ g. bitmap a bs ▹ g) (opens_same a adds' adds xs k bs e)
    opened bs false e = refl

    go : (o : Option Bits) → bitmap_of adds xs ≡ o → with_additions a ext adds' xs (flags_of ms ss ▹ bodies_of ms ss) o ≡ with_additions a ext adds xs (flags_of ms ss ▹ bodies_of ms ss) o
    go None e = refl
    go (Some bs) e = ap (λ g. extension_bit ext (any_set bs) ▹ (flags_of ms ss ▹ bodies_of ms ss) ▹ g) (opened bs (any_set bs) e)

-- all kinds
pub written_shown : (p : Presence) (v : Value) → shown p (Some v) ≡ Some true → is_written p v ≡ true
unfolding shown
written_shown required v e = refl
written_shown optional v e = refl
written_shown group v e = refl
written_shown (default d) v e = let h : not (same v d) ≡ true = cc in h

pub and_false : (a b : Bool) → (a && b) ≡ false → a ≡ true → b ≡ false
and_false true b e h = e
and_false false b e h = absurd (cc)

map_same : (f g : Value → Writer) (K : Value → Bool) → ((v : Value) → K v ≡ false → f v ≡ g v) → (vs : List Value) → any_of K vs ≡ false → map f vs ≡ map g vs
map_same f g K h [] m = refl
map_same f g K h (v ∷ vs) m = ap₂ (λ w ws. w ∷ ws) (h v (or_left (K v) (any_of K vs) m)) (map_same f g K h vs (or_right (K v) (any_of K vs) m))

same_length : (a : Variant) {ps qs : Parts} → CutParts ps qs → length (members a ps) ≡ length (members a qs)
unfolding members
same_length a no_cut = refl
same_length a (cut_part c cs) = ap suc (same_length a cs)

-- the root parts in their order
pub ordered_root : (o : Order) (ts : List Tag) (ms' ms : List Member) → length ms' ≡ length ms → (xs : List (Option Value)) → Fits ms' ms xs →
    (flags_of (ordered o ts ms') (ordered o ts xs) ▹ bodies_of (ordered o ts ms') (ordered o ts xs)) ≡ (flags_of (ordered o ts ms) (ordered o ts xs) ▹ bodies_of (ordered o ts ms) (ordered o ts xs))
ordered_root o ts ms' ms l xs k = go (cases_eq (length xs) (length ms))
  where
    go : (length xs ≡ length ms) ⊎ (length xs ≢ length ms) →
        (flags_of (ordered o ts ms') (ordered o ts xs) ▹ bodies_of (ordered o ts ms') (ordered o ts xs)) ≡ (flags_of (ordered o ts ms) (ordered o ts xs) ▹ bodies_of (ordered o ts ms) (ordered o ts xs))
    go (inl e) = root_same (ordered o ts ms') (ordered o ts ms) (ordered o ts xs) (ordered-fits o ts ms' ms xs e k)
    go (inr n) = root_refused (ordered o ts ms') (ordered o ts xs) (λ e. n (sym (length_ordered o ts xs) ∙ e ∙ length_ordered o ts ms' ∙ l))
        ∙ sym (root_refused (ordered o ts ms) (ordered o ts xs) (λ e. n (sym (length_ordered o ts xs) ∙ e ∙ length_ordered o ts ms)))

no_slots_cut : {ps qs : Parts} → CutParts ps qs → slots_write_cut ps qs [] ≡ false
unfolding writes_cut
no_slots_cut no_cut = refl
no_slots_cut (cut_part c cs) = refl

abbrev pub slot_written_cut : Presence → Schema → Schema → Option Value → Bool
slot_written_cut p s t None = false
slot_written_cut p s t (Some v) = is_written p v && writes_cut s t v

pub slot_cut_not : (p : Presence) (s t : Schema) (ps qs : Parts) (x : Option Value) (xs : List (Option Value)) → in_slots (λ v. is_written p v && writes_cut s t v) (slots_write_cut ps qs) (x ∷ xs) ≡ false →
    (slot_written_cut p s t x ≡ false) × (slots_write_cut ps qs xs ≡ false)
slot_cut_not p s t ps qs None xs m = (refl, m)
slot_cut_not p s t ps qs (Some v) xs m = (or_left (is_written p v && writes_cut s t v) (slots_write_cut ps qs xs) m, or_right (is_written p v && writes_cut s t v) (slots_write_cut ps qs xs) m)

part_fits : (a : Variant) (p : Presence) (s t : Schema) → ((v : Value) → writes_cut s t v ≡ false → canon a s v ≡ canon a t v) → (x : Option Value) → slot_written_cut p s t x ≡ false →
    Fit (record { presence = p; writes = canon a s }) (record { presence = p; writes = canon a t }) x
part_fits a p s t h None m = record { alike = refl; each = λ v e k. absurd (let e' : ◌≡◌ {A = Option Value} None (Some v) = e in cc) }
part_fits a p s t h (Some w) m = record {
  alike = refl;
  each = λ v e k.
      let i : w ≡ v = some_is w v e in
      h v (subst (λ z. writes_cut s t z ≡ false) i (and_false (is_written p w) (writes_cut s t w) m (written_shown p w k)));
}

mutual
  unfolding canon writes_cut

  pub same_writer : (a : Variant) {s t : Schema} → CutOf s t → (v : Value) → writes_cut s t v ≡ false → canon a s v ≡ canon a t v
  same_writer a cut_here v m = absurd (cc)
  same_writer a (alike h) v m = refl
  same_writer a (cut_containing c) v m = ap (λ w. open_bits a (w 0)) (same_writer a c v m)
  same_writer a (cut_list {s = s} {t = t} {size = size} {mark = mark} c) (elements vs) m = ap (λ l. counted a size mark list_items l) (map_same (canon a s) (canon a t) (writes_cut s t) (same_writer a c) (values vs) m)
  same_writer a (cut_list c) _ m = refl
  same_writer a (cut_set_of {s = s} {t = t} {size = size} {mark = mark} c) (bag vs) m =
      ap (λ l. written_if (same (bag_of (values vs)) (bag vs)) (counted a size mark list_items (ascending l))) (map_same (canon a s) (canon a t) (writes_cut s t) (same_writer a c) (values vs) m)
  same_writer a (cut_set_of c) _ m = refl
  same_writer a (cut_sequence {o = o} {ext = ext} {ps = ps} {qs = qs} {adds = adds} {bdds = bdds} c d) (fields r x) m =
      let m0 = or_left (slots_write_cut ps qs (slots r)) (slots_write_cut adds bdds (slots x)) m in
      let m1 = or_right (slots_write_cut ps qs (slots r)) (slots_write_cut adds bdds (slots x)) m in
      ap (λ ts. record_of a ext (ordered o ts (members a ps)) (members a adds) (ordered o ts (slots r)) (slots x)) (same_cut_tags c)
      ∙ record_same a ext (ordered o (tags qs) (members a ps)) (ordered o (tags qs) (members a qs)) (members a adds) (members a bdds) (ordered o (tags qs) (slots r)) (ordered o (tags qs) (slots r)) (slots x)
      (ordered_root o (tags qs) (members a ps) (members a qs) (same_length a c) (slots r) (fitting a c (slots r) m0)) (fitting a d (slots x) m1)
  same_writer a (cut_sequence c d) _ m = refl
  same_writer a (cut_choice {ext = ext} {ps = ps} {qs = qs} {adds = adds} {bdds = bdds} c d) (alternative root i v) m =
      ap₂ (λ n w. extension_bit ext false ▹ constrained_whole a n i ▹ w) (same_length a c) (same_chosen a c i v m)
  same_writer a (cut_choice {ext = ext} {ps = ps} {qs = qs} {adds = adds} {bdds = bdds} c d) (alternative added i v) m =
      ap (λ w. extension_bit ext true ▹ small a i ▹ open_bits a (w 0)) (same_chosen a d i v m)
  same_writer a (cut_choice c d) _ m = refl

  fitting : (a : Variant) {ps qs : Parts} → CutParts ps qs → (xs : List (Option Value)) → slots_write_cut ps qs xs ≡ false → Fits (members a ps) (members a qs) xs
  fitting a no_cut xs m = tt
  fitting a (cut_part c cs) [] m = fitting a cs [] (no_slots_cut cs)
  fitting a (cut_part {p = p} {s = s} {s' = t} {ps = ps} {ps' = qs} c cs) (x ∷ xs) m =
      let k = slot_cut_not p s t ps qs x xs m in
      (part_fits a p s t (same_writer a c) x k.0, fitting a cs xs k.1)

  same_chosen : (a : Variant) {ps qs : Parts} → CutParts ps qs → (i : ℕ) (v : Value) → writes_cut_at ps qs i v ≡ false → chosen (members a ps) i v ≡ chosen (members a qs) i v
  same_chosen a no_cut i v m = refl
  same_chosen a (cut_part c cs) zero v m = same_writer a c v m
  same_chosen a (cut_part c cs) (suc i) v m = same_chosen a cs i v m
