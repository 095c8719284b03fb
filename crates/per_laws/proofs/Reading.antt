-- What a reader has read, is above the cuts of its tree: whatever else it may have read of the same bits.
use Rattle.per_core.specs.Basic
use Rattle.rasn_schema.specs.Schemas
use Rattle.std.proofs.Common.{◌≡◌, refl, sym, ap, ◌∙◌, subst, ℕ, zero, suc, ◌+◌, Bool, true, false, cond, not, ◌&&◌, List, [], ◌∷◌, length, eq-eqb, Option, Some, None}
use Rattle.rasn_types.specs.Values.{Value, same, code, equal_lists, put, sorted, before, elements, bag_of, fields, alternative, Side, root, added, as_values, as_slots, slots}
use Rattle.rasn_types.proofs.Values.{slots-as_slots, values-as_values}
use Rattle.rasn_constraints.specs.Bounds.{Size}
use Rattle.rasn_schema.specs.Schemas.{Presence, required, optional, group, default, Order, TagTree, tags, count, Schema, Parts, no_parts, part}
use Rattle.rasn_schema.specs.Orders.{ordered}
use Rattle.rasn_schema.specs.Depth.{any_of, IsLeaf}
use Rattle.per_core.specs.Spellings.{Settings}
use Rattle.per_core.specs.Counts.{list_items}
use Rattle.per_core.specs.Basic.{FlagOf, IsLeftOut, Record, Counted, Rule, IsConstrainedWhole, Chosen, Open, Fills, basic, basic_in, rules}
use Rattle.per_core.proofs.SpellingsAgree.{Agree, weaken, then_agree, agree_never, never_agree, turned}
use Rattle.per_core.proofs.LengthForms.{Zip, bounded_agree, lengthy_agree, or_left, or_right, and_no}
use Rattle.per_core.proofs.Unique.{as_agree, small_agree, open_agree, fills_agree}
use Rattle.per_core.proofs.Records.{SlotRel, Kin, AllKin, Along, fields_agree}
use Rattle.per_core.proofs.Readings.{one_reading, item_agree, ordered-kin, along-listed, length-rules, same_flags, same_bit, root_added}
use Rattle.per_laws.proofs.Transitive.{or_both}
use Rattle.per_laws.specs.Written.{is_written, writes_cut, slots_write_cut, writes_cut_at}
use Rattle.per_laws.proofs.SameWritten.{slot_written_cut}

-- The reader's tree and the writer's: the same kinds, save that the reader's is cut off, and that one of the two has additions that the other lacks.
abbrev pub SameKind : Presence → Presence → Type 0
SameKind required required = Unit {0}
SameKind optional optional = Unit {0}
SameKind group group = Unit {0}
SameKind (default d) (default d') = Unit {0}
SameKind _ _ = ⊥

mutual
  pub data Reads : Schema → Schema → Type 0 where
    past_cut : {t : Schema} → Reads Schema.cut t
    one_leaf : {s : Schema} → IsLeaf s → Reads s s
    of_items : {r e e' : ℕ} {ext : Bool} → Reads (Schema.items r e ext) (Schema.items r e' ext)
    of_containing : {s t : Schema} → Reads s t → Reads (Schema.containing s) (Schema.containing t)
    of_list : {s t : Schema} {size : Size} {mark : Bool} → Reads s t → Reads (Schema.list s size mark) (Schema.list t size mark)
    of_set : {s t : Schema} {size : Size} {mark : Bool} → Reads s t → Reads (Schema.set_of s size mark) (Schema.set_of t size mark)
    of_sequence : {o : Order} {ext : Bool} {ps qs adds bdds : Parts} → ReadsParts false false ps qs → ReadsParts true false adds bdds → Reads (Schema.sequence o ps ext adds) (Schema.sequence o qs ext bdds)
    of_older_sequence : {o : Order} {ext : Bool} {ps qs adds bdds : Parts} → ReadsParts false false ps qs → ReadsParts false true adds bdds → Reads (Schema.sequence o ps ext adds) (Schema.sequence o qs ext bdds)
    of_choice : {ext : Bool} {ps qs adds bdds : Parts} → ReadsParts false false ps qs → ReadsParts true true adds bdds → Reads (Schema.choice ps adds ext) (Schema.choice qs bdds ext)

  -- whether the writer may have more, and whether the reader may
  pub data ReadsParts : Bool → Bool → Parts → Parts → Type 0 where
    none : {w r : Bool} → ReadsParts w r no_parts no_parts
    unknown : {r : Bool} {t : TagTree} {p : Presence} {s : Schema} {ps : Parts} → ReadsParts true r no_parts (part t p s ps)
    unwritten : {w : Bool} {t : TagTree} {p : Presence} {s : Schema} {ps : Parts} → ReadsParts w true (part t p s ps) no_parts
    both : {w r : Bool} {t : TagTree} {p p' : Presence} {s s' : Schema} {ps ps' : Parts} → SameKind p p' → Reads s s' → ReadsParts w r ps ps' → ReadsParts w r (part t p s ps) (part t p' s' ps')

same_read_tags : {ps qs : Parts} → ReadsParts false false ps qs → tags ps ≡ tags qs
same_read_tags none = refl
same_read_tags (both {t = t} k c cs) = ap (λ l. Schemas.smallest t ∷ l) (same_read_tags cs)

-- a value is itself
equal_self : (xs : List ℕ) → equal_lists xs xs ≡ true
equal_self [] = refl
equal_self (x ∷ xs) = ap (λ c. cond c (equal_lists xs xs) false) (eq-eqb x x refl) ∙ equal_self xs

pub same_self : (v : Value) → same v v ≡ true
unfolding same
same_self v = equal_self (code v)

-- one part
Kept : Presence → Schema → Schema → SlotRel
Kept p s t x y = slot_written_cut p s t x ≡ false

flags_kind : (p p' : Presence) → SameKind p p' → (b b' : Bool) → Agree (b ≡ b') (FlagOf p' b) (FlagOf p b')
flags_kind required required k b b' = same_flags required b b'
flags_kind optional optional k b b' = same_flags optional b b'
flags_kind group group k b b' = same_flags group b b'
flags_kind (default d) (default d') k b b' = same_flags (default d) b b'
flags_kind _ _ k b b' = absurd k

pub left_out_kept : (p p' : Presence) → SameKind p p' → (s t : Schema) (x y : Option Value) → IsLeftOut p' x → slot_written_cut p' s t x ≡ false
left_out_kept required required k s t x y h = absurd h
left_out_kept optional optional k s t x y h = subst (λ z. slot_written_cut optional s t z ≡ false) (sym h) refl
left_out_kept group group k s t x y h = subst (λ z. slot_written_cut group s t z ≡ false) (sym h) refl
left_out_kept (default d) (default d') k s t x y h = subst (λ z. slot_written_cut (default d') s t z ≡ false) (sym h) (ap (λ b. not b && writes_cut s t d') (same_self d'))
left_out_kept _ _ k s t x y h = absurd k

part_kin : (a : Settings) (p p' : Presence) → SameKind p p' → (s t : Schema) → ((v w : Value) → Agree (writes_cut s t v ≡ false) (basic a t v) (basic a s w)) →
    Kin (Kept p' s t) (record { presence = p'; spells = basic a t }) (record { presence = p; spells = basic a s })
unfolding Kept
part_kin a p p' k s t each = record {
  flags = flags_kind p p' k;
  left_out = λ x y h h'. left_out_kept p p' k s t x y h;
  held = λ v w. weaken (λ e. and_no (is_written p' v) (writes_cut s t v) e) (each v w);
}

abbrev Flip : SlotRel → SlotRel
Flip S x y = S y x

kin_turned : (S : SlotRel) (r' r : Rule) → Kin S r' r → Kin (Flip S) r r'
kin_turned S r' r k = record {
  flags = λ b b'. turned (λ e. sym e) (k.flags b' b);
  left_out = λ x y h h'. k.left_out y x h' h;
  held = λ v w. turned (λ e. e) (k.held w v);
}

kepts : Parts → Parts → List SlotRel
kepts no_parts qs = []
kepts (part t p s ps) no_parts = []
kepts (part t p s ps) (part t' p' s' ps') = Kept p' s s' ∷ kepts ps ps'

flips : Parts → Parts → List SlotRel
flips no_parts qs = []
flips (part t p s ps) no_parts = []
flips (part t p s ps) (part t' p' s' ps') = Flip (Kept p' s s') ∷ flips ps ps'

along_kept : {w : Bool} {ps qs : Parts} → ReadsParts w false ps qs → (xs ys : List (Option Value)) → Along w (kepts ps qs) xs ys → slots_write_cut ps qs xs ≡ false
unfolding writes_cut kepts Kept
along_kept none xs ys k = refl
along_kept unknown xs ys k = refl
along_kept (both h c cs) [] ys k = refl
along_kept (both h c cs) (x ∷ xs) [] k = absurd k
along_kept (both {p' = p} {s = s} {s' = t} h c cs) (None ∷ xs) (y ∷ ys) k = along_kept cs xs ys k.1
along_kept (both {p' = p} {s = s} {s' = t} {ps = ps} {ps' = qs} h c cs) (Some v ∷ xs) (y ∷ ys) k = or_both (is_written p v && writes_cut s t v) (slots_write_cut ps qs xs) k.0 (along_kept cs xs ys k.1)

along_flipped : {r : Bool} {ps qs : Parts} → ReadsParts false r ps qs → (ys xs : List (Option Value)) → Along r (flips ps qs) ys xs → slots_write_cut ps qs xs ≡ false
unfolding writes_cut flips Kept
along_flipped none ys xs k = refl
along_flipped unwritten ys xs k = refl
along_flipped (both h c cs) ys [] k = refl
along_flipped (both h c cs) [] (x ∷ xs) k = absurd k
along_flipped (both {p' = p} {s = s} {s' = t} h c cs) (y ∷ ys) (None ∷ xs) k = along_flipped cs ys xs k.1
along_flipped (both {p' = p} {s = s} {s' = t} {ps = ps} {ps' = qs} h c cs) (y ∷ ys) (Some v ∷ xs) k = or_both (is_written p v && writes_cut s t v) (slots_write_cut ps qs xs) k.0 (along_flipped cs ys xs k.1)

-- lists
zip_kept : (K : Value → Bool) (xs ys : List Value) → Zip (λ v w. K v ≡ false) xs ys → any_of K xs ≡ false
zip_kept K [] [] z = refl
zip_kept K (x ∷ xs) (y ∷ ys) z = or_both (K x) (any_of K xs) z.0 (zip_kept K xs ys z.1)
zip_kept K [] (y ∷ ys) z = absurd z
zip_kept K (x ∷ xs) [] z = absurd z

any_put : (less : Value → Value → Bool) (K : Value → Bool) (v : Value) (xs : List Value) → K v ≡ false → any_of K xs ≡ false → any_of K (put less v xs) ≡ false
any_put less K v [] e m = or_both (K v) false e refl
any_put less K v (x ∷ xs) e m = go (less x v) (any_put less K v xs e (or_right (K x) (any_of K xs) m))
  where
    go : (t : Bool) → any_of K (put less v xs) ≡ false → any_of K (cond t (x ∷ put less v xs) (v ∷ x ∷ xs)) ≡ false
    go true ih = or_both (K x) (any_of K (put less v xs)) (or_left (K x) (any_of K xs) m) ih
    go false ih = or_both (K v) (any_of K (x ∷ xs)) e m

pub any_sorted : (less : Value → Value → Bool) (K : Value → Bool) (xs : List Value) → any_of K xs ≡ false → any_of K (sorted less xs) ≡ false
any_sorted less K [] m = refl
any_sorted less K (x ∷ xs) m = any_put less K x (sorted less xs) (or_left (K x) (any_of K xs) m) (any_sorted less K xs (or_right (K x) (any_of K xs) m))

list_kept : (a : Settings) (s t : Schema) (size : Size) (mark : Bool) → ((v w : Value) → Agree (writes_cut s t v ≡ false) (basic a t v) (basic a s w)) → (v w : Value) →
    Agree (writes_cut (Schema.list s size mark) (Schema.list t size mark) v ≡ false) (basic a (Schema.list t size mark) v) (basic a (Schema.list s size mark) w)
unfolding basic_in writes_cut
list_kept a s t size mark h v w = as_agree (λ v w. writes_cut (Schema.list s size mark) (Schema.list t size mark) v ≡ false) (λ vs. elements (as_values vs)) (λ vs. elements (as_values vs))
    (Counted a size mark list_items (basic a t)) (Counted a size mark list_items (basic a s)) v w
    (λ x y. weaken (λ z. subst (λ l. any_of (writes_cut s t) l ≡ false) (sym (values-as_values x)) (zip_kept (writes_cut s t) x y z))
    (lengthy_agree (λ v w. writes_cut s t v ≡ false) (basic a t) (basic a s) h a size mark list_items x y))

bag_kept : (a : Settings) (s t : Schema) (size : Size) (mark : Bool) → ((v w : Value) → Agree (writes_cut s t v ≡ false) (basic a t v) (basic a s w)) → (v w : Value) →
    Agree (writes_cut (Schema.set_of s size mark) (Schema.set_of t size mark) v ≡ false) (basic a (Schema.set_of t size mark) v) (basic a (Schema.set_of s size mark) w)
unfolding basic_in writes_cut bag_of
bag_kept a s t size mark h v w = as_agree (λ v w. writes_cut (Schema.set_of s size mark) (Schema.set_of t size mark) v ≡ false) bag_of bag_of
    (Counted a size mark list_items (basic a t)) (Counted a size mark list_items (basic a s)) v w
    (λ x y. weaken (λ z.
    let less : Value → Value → Bool = λ v w. before (code v) (code w) in
    subst (λ l. any_of (writes_cut s t) l ≡ false) (sym (values-as_values (sorted less x))) (any_sorted less (writes_cut s t) x (zip_kept (writes_cut s t) x y z)))
    (lengthy_agree (λ v w. writes_cut s t v ≡ false) (basic a t) (basic a s) h a size mark list_items x y))

-- records, of which the writer may have more additions, or the reader
slots_kept : (o : Order) (ext : Bool) (ps qs adds bdds : Parts) (xs ys : List (Option Value)) → slots_write_cut ps qs xs ≡ false → slots_write_cut adds bdds ys ≡ false →
    writes_cut (Schema.sequence o ps ext adds) (Schema.sequence o qs ext bdds) (fields (as_slots xs) (as_slots ys)) ≡ false
unfolding writes_cut
slots_kept o ext ps qs adds bdds xs ys m n = or_both (slots_write_cut ps qs (slots (as_slots xs))) (slots_write_cut adds bdds (slots (as_slots ys)))
    (subst (λ l. slots_write_cut ps qs l ≡ false) (sym (slots-as_slots xs)) m) (subst (λ l. slots_write_cut adds bdds l ≡ false) (sym (slots-as_slots ys)) n)

record_kept : (a : Settings) (o : Order) (ext : Bool) {ps qs adds bdds : Parts} → ReadsParts false false ps qs → ReadsParts true false adds bdds →
    AllKin false (kepts ps qs) (rules a qs) (rules a ps) → AllKin true (kepts adds bdds) (rules a bdds) (rules a adds) → (v w : Value) →
    Agree (writes_cut (Schema.sequence o ps ext adds) (Schema.sequence o qs ext bdds) v ≡ false) (basic a (Schema.sequence o qs ext bdds) v) (basic a (Schema.sequence o ps ext adds) w)
unfolding basic_in
record_kept a o ext {ps} {qs} {adds} {bdds} n ns k k' v w = as_agree (λ v w. writes_cut (Schema.sequence o ps ext adds) (Schema.sequence o qs ext bdds) v ≡ false)
    (λ x. fields (as_slots x.0) (as_slots x.1)) (λ x. fields (as_slots x.0) (as_slots x.1))
    (λ x. Record a ext (ordered o (tags qs) (rules a qs)) (rules a bdds) (ordered o (tags qs) x.0) x.1)
    (λ x. Record a ext (ordered o (tags ps) (rules a ps)) (rules a adds) (ordered o (tags ps) x.0) x.1) v w
    (λ x y. subst (λ ts. Agree (writes_cut (Schema.sequence o ps ext adds) (Schema.sequence o qs ext bdds) (fields (as_slots x.0) (as_slots x.1)) ≡ false)
    (Record a ext (ordered o ts (rules a qs)) (rules a bdds) (ordered o ts x.0) x.1) (Record a ext (ordered o (tags ps) (rules a ps)) (rules a adds) (ordered o (tags ps) y.0) y.1)) (same_read_tags n)
    (weaken (λ r. slots_kept o ext ps qs adds bdds x.0 x.1 (along_kept n x.0 y.0 (along-listed o (tags ps) (kepts ps qs) x.0 y.0 r.0)) (along_kept ns x.1 y.1 r.1))
    (fields_agree a true (ordered o (tags ps) (kepts ps qs)) (kepts adds bdds) (ordered o (tags ps) (rules a qs)) (ordered o (tags ps) (rules a ps)) (rules a bdds) (rules a adds)
    (ordered-kin o (tags ps) (kepts ps qs) (rules a qs) (rules a ps) k) k' (ordered o (tags ps) x.0) (ordered o (tags ps) y.0) x.1 y.1 ext)))

older_record_kept : (a : Settings) (o : Order) (ext : Bool) {ps qs adds bdds : Parts} → ReadsParts false false ps qs → ReadsParts false true adds bdds →
    AllKin false (flips ps qs) (rules a ps) (rules a qs) → AllKin true (flips adds bdds) (rules a adds) (rules a bdds) → (v w : Value) →
    Agree (writes_cut (Schema.sequence o ps ext adds) (Schema.sequence o qs ext bdds) v ≡ false) (basic a (Schema.sequence o qs ext bdds) v) (basic a (Schema.sequence o ps ext adds) w)
unfolding basic_in
older_record_kept a o ext {ps} {qs} {adds} {bdds} n ns k k' v w = turned (λ e. e) (as_agree (λ w v. writes_cut (Schema.sequence o ps ext adds) (Schema.sequence o qs ext bdds) v ≡ false)
    (λ x. fields (as_slots x.0) (as_slots x.1)) (λ x. fields (as_slots x.0) (as_slots x.1))
    (λ x. Record a ext (ordered o (tags ps) (rules a ps)) (rules a adds) (ordered o (tags ps) x.0) x.1)
    (λ x. Record a ext (ordered o (tags qs) (rules a qs)) (rules a bdds) (ordered o (tags qs) x.0) x.1) w v
    (λ y x. subst (λ ts. Agree (writes_cut (Schema.sequence o ps ext adds) (Schema.sequence o qs ext bdds) (fields (as_slots x.0) (as_slots x.1)) ≡ false)
    (Record a ext (ordered o (tags ps) (rules a ps)) (rules a adds) (ordered o (tags ps) y.0) y.1) (Record a ext (ordered o ts (rules a qs)) (rules a bdds) (ordered o ts x.0) x.1)) (same_read_tags n)
    (weaken (λ r. slots_kept o ext ps qs adds bdds x.0 x.1 (along_flipped n y.0 x.0 (along-listed o (tags ps) (flips ps qs) y.0 x.0 r.0)) (along_flipped ns y.1 x.1 r.1))
    (fields_agree a true (ordered o (tags ps) (flips ps qs)) (flips adds bdds) (ordered o (tags ps) (rules a ps)) (ordered o (tags ps) (rules a qs)) (rules a adds) (rules a bdds)
    (ordered-kin o (tags ps) (flips ps qs) (rules a ps) (rules a qs) k) k' (ordered o (tags ps) y.0) (ordered o (tags ps) x.0) y.1 x.1 ext))))

-- choices
same_read_count : {ps qs : Parts} → ReadsParts false false ps qs → count qs ≡ count ps
same_read_count none = refl
same_read_count (both h c cs) = ap (λ k. 1 + k) (same_read_count cs)

choice_kept : (a : Settings) (ext : Bool) (adds bdds : Parts) {ps qs : Parts} → ReadsParts false false ps qs →
    ((i : ℕ) (v w : Value) → Agree (writes_cut_at ps qs i v ≡ false) (Chosen (rules a qs) i v) (Chosen (rules a ps) i w)) →
    ((i : ℕ) (v w : Value) → Agree (writes_cut_at adds bdds i v ≡ false) (Chosen (rules a bdds) i v) (Chosen (rules a adds) i w)) → (v w : Value) →
    Agree (writes_cut (Schema.choice ps adds ext) (Schema.choice qs bdds ext) v ≡ false) (basic a (Schema.choice qs bdds ext) v) (basic a (Schema.choice ps adds ext) w)
unfolding basic_in writes_cut
choice_kept a ext adds bdds {ps} {qs} n h h' v w = as_agree (λ v w. writes_cut (Schema.choice ps adds ext) (Schema.choice qs bdds ext) v ≡ false)
    (λ x. alternative x.0 x.1 x.2) (λ x. alternative x.0 x.1 x.2)
    (λ x. Basic.Choice a ext (rules a qs) (rules a bdds) x.0 x.1 x.2) (λ x. Basic.Choice a ext (rules a ps) (rules a adds) x.0 x.1 x.2) v w
    (λ x y. go x.0 x.1 x.2 y.0 y.1 y.2)
  where
    place : (i j : ℕ) → Agree (i ≡ j) (IsConstrainedWhole a (length (rules a qs)) i) (IsConstrainedWhole a (length (rules a ps)) j)
    place i j = subst (λ k. Agree (i ≡ j) (IsConstrainedWhole a (length (rules a qs)) i) (IsConstrainedWhole a k j)) (length-rules a qs ∙ same_read_count n ∙ sym (length-rules a ps)) (bounded_agree a (length (rules a qs)) i j)

    go : (d : Side) (i : ℕ) (v : Value) (e : Side) (j : ℕ) (w : Value) → Agree (writes_cut (Schema.choice ps adds ext) (Schema.choice qs bdds ext) (alternative d i v) ≡ false)
        (Basic.Choice a ext (rules a qs) (rules a bdds) d i v) (Basic.Choice a ext (rules a ps) (rules a adds) e j w)
    go root i v root j w = same_bit ext false (weaken (λ r. r.1) (then_agree (place i j) (λ e.
        subst (λ k. Agree (writes_cut_at ps qs i v ≡ false) (Chosen (rules a qs) i v) (Chosen (rules a ps) k w)) e (h i v w))))
    go root i v added j w = root_added ext _ _
    go added i v root j w = turned (λ e. e) (root_added ext _ _)
    go added i v added j w = same_bit ext true (weaken (λ r. r.1) (then_agree (small_agree a i j) (λ e.
        subst (λ k. Agree (writes_cut_at adds bdds i v ≡ false) (Open a (Fills a (Chosen (rules a bdds) i v))) (Open a (Fills a (Chosen (rules a adds) k w)))) e
        (open_agree a (Fills a (Chosen (rules a bdds) i v)) (Fills a (Chosen (rules a adds) i w)) (λ os c d. fills_agree a os (h' i v w) c d)))))

-- all kinds
pub leaf_kept : (a : Settings) (s : Schema) → IsLeaf s → (v w : Value) → Agree (writes_cut s s v ≡ false) (basic a s v) (basic a s w)
unfolding basic_in writes_cut
leaf_kept a (Schema.containing e) h v w = absurd h
leaf_kept a (Schema.list e size mark) h v w = absurd h
leaf_kept a (Schema.set_of e size mark) h v w = absurd h
leaf_kept a (Schema.sequence o ps ext adds) h v w = absurd h
leaf_kept a (Schema.choice ps adds ext) h v w = absurd h
leaf_kept a Schema.cut h v w = never_agree
leaf_kept a s h v w = weaken (λ e. refl) (one_reading a s v w)

items_kept : (a : Settings) (r e e' : ℕ) (ext : Bool) (v w : Value) → Agree (writes_cut (Schema.items r e ext) (Schema.items r e' ext) v ≡ false) (basic a (Schema.items r e' ext) v) (basic a (Schema.items r e ext) w)
unfolding basic_in writes_cut
items_kept a r e e' ext v w = as_agree (λ v w. false ≡ false) (λ x. Value.item x.0 x.1) (λ x. Value.item x.0 x.1)
    (λ x. Basic.Item a r e' ext x.0 x.1) (λ x. Basic.Item a r e ext x.0 x.1) v w (λ x y. weaken (λ q. refl) (item_agree a r e' e ext x.0 x.1 y.0 y.1))

mutual
  unfolding basic_in writes_cut kepts flips

  pub reads_kept : (a : Settings) {s t : Schema} → Reads s t → (v w : Value) → Agree (writes_cut s t v ≡ false) (basic a t v) (basic a s w)
  reads_kept a past_cut v w = agree_never
  reads_kept a (one_leaf {s = s} h) v w = leaf_kept a s h v w
  reads_kept a (of_items {r = r} {e = e} {e' = e'} {ext = ext}) v w = items_kept a r e e' ext v w
  reads_kept a (of_containing {s = s} {t = t} c) v w = open_agree a (Fills a (basic a t v)) (Fills a (basic a s w)) (λ os x y. fills_agree a os (reads_kept a c v w) x y)
  reads_kept a (of_list {s = s} {t = t} {size = size} {mark = mark} c) v w = list_kept a s t size mark (reads_kept a c) v w
  reads_kept a (of_set {s = s} {t = t} {size = size} {mark = mark} c) v w = bag_kept a s t size mark (reads_kept a c) v w
  reads_kept a (of_sequence {o = o} {ext = ext} c d) v w = record_kept a o ext c d (kin_of a c) (kin_of a d) v w
  reads_kept a (of_older_sequence {o = o} {ext = ext} c d) v w = older_record_kept a o ext c d (kin_turned_of a c) (kin_turned_of a d) v w
  reads_kept a (of_choice {ext = ext} {adds = adds} {bdds = bdds} c d) v w = choice_kept a ext adds bdds c (chosen_kept a c) (chosen_kept a d) v w

  kin_of : (a : Settings) {w : Bool} {ps qs : Parts} → ReadsParts w false ps qs → AllKin w (kepts ps qs) (rules a qs) (rules a ps)
  kin_of a {w = false} none = tt
  kin_of a {w = true} none = tt
  kin_of a unknown = tt
  kin_of a (both {p = p} {p' = p'} {s = s} {s' = t} k c cs) = (part_kin a p p' k s t (reads_kept a c), kin_of a cs)

  kin_turned_of : (a : Settings) {r : Bool} {ps qs : Parts} → ReadsParts false r ps qs → AllKin r (flips ps qs) (rules a ps) (rules a qs)
  kin_turned_of a {r = false} none = tt
  kin_turned_of a {r = true} none = tt
  kin_turned_of a unwritten = tt
  kin_turned_of a (both {p = p} {p' = p'} {s = s} {s' = t} k c cs) =
      (kin_turned (Kept p' s t) (record { presence = p'; spells = basic a t }) (record { presence = p; spells = basic a s }) (part_kin a p p' k s t (reads_kept a c)), kin_turned_of a cs)

  chosen_kept : (a : Settings) {u r : Bool} {ps qs : Parts} → ReadsParts u r ps qs → (i : ℕ) (v w : Value) → Agree (writes_cut_at ps qs i v ≡ false) (Chosen (rules a qs) i v) (Chosen (rules a ps) i w)
  chosen_kept a none i v w = never_agree
  chosen_kept a unknown i v w = agree_never
  chosen_kept a unwritten i v w = never_agree
  chosen_kept a (both k c cs) zero v w = reads_kept a c v w
  chosen_kept a (both k c cs) (suc i) v w = chosen_kept a cs i v w
