-- What one reader takes another one takes too: values of each kind, by what is known of their parts.
use Rattle.std.proofs.Common.{◌≡◌, refl, sym, ap, ◌∙◌, subst, ℕ, zero, suc, Bool, true, false, List, [], ◌∷◌, length, inl, inr, Option, Some}
use Rattle.rasn_types.specs.Bits.{Bits}
use Rattle.rasn_types.specs.Values.{Value, fields, alternative, Side, root, added, as_slots}
use Rattle.rasn_schema.specs.Orders.{ordered, by_tags, insert_at, how_many_less}
use Rattle.rasn_constraints.specs.Bounds.{Size}
use Rattle.rasn_schema.specs.Schemas.{Order, listed, by_tag, Tag}
use Rattle.per_core.specs.Basic
use Rattle.per_core.specs.Basic.{As, Counted, IsConstrainedWhole, Rule, Bodies, Root, OpenOf, Additions_in, Record_in, Chosen}
use Rattle.per_core.specs.Counts.{list_items}
use Rattle.per_core.specs.Spellings.{Settings, Spelling}
use Rattle.per_core.specs.Writers.{after}
use Rattle.per_core.proofs.LengthForms.{Zip}
use Rattle.per_core.proofs.Records.{SlotRel, Along}
use Rattle.per_core.proofs.Readings.{length-by_tags}
use Rattle.per_laws.proofs.Carry.{Carry, kept, then_carry, either_carry, when_carry, fills_carry, open_carry, lengthy_carry, Leads, AllLead, held_carry, root_carry}

pub as_carry : {X Y : Type 0} (make : X → Value) (make' : Y → Value) (f : X → Spelling) (g : Y → Spelling) (v w : Value) →
    ((x : X) (p : ℕ) (b : Bits) → v ≡ make x → f x p b → (y : Y) × (w ≡ make' y) × g y p b) → Carry (As make f v) (As make' g w)
as_carry make make' f g v w h = record { carry = λ p b x. let r = h x.of p b x.is x.spelled in record { of = r.0; is = r.1; spelled = r.2 } }

pub lengthy_as : (R : Value → Value → Type 0) (make make' : List Value → Value) (f g : Value → Spelling) → ((v w : Value) → R v w → Carry (f v) (g w)) → (a : Settings) (size : Size) (mark : Bool) (v w : Value) →
    ((vs : List Value) → v ≡ make vs → (ws : List Value) × (w ≡ make' ws) × Zip R vs ws) → Carry (As make (Counted a size mark list_items f) v) (As make' (Counted a size mark list_items g) w)
lengthy_as R make make' f g each a size mark v w h = as_carry make make' (Counted a size mark list_items f) (Counted a size mark list_items g) v w
    (λ vs p b e x. let r = h vs e in (r.0, r.1, (lengthy_carry R f g each a size mark list_items vs r.0 r.2).carry p b x))

-- the order of a Set
insert-lead : (n : ℕ) (S : SlotRel) (r' r : Rule) (Ss : List SlotRel) (rs' rs : List Rule) → Leads S r' r → AllLead false Ss rs' rs → AllLead false (insert_at n S Ss) (insert_at n r' rs') (insert_at n r rs)
insert-lead zero S r' r Ss rs' rs k ks = (k, ks)
insert-lead (suc n) S r' r [] [] [] k ks = (k, tt)
insert-lead (suc n) S r' r (T ∷ Ss) (q' ∷ rs') (q ∷ rs) k ks = (ks.0, insert-lead n S r' r Ss rs' rs k ks.1)
insert-lead (suc n) S r' r [] [] (q ∷ rs) k ks = absurd ks
insert-lead (suc n) S r' r [] (q' ∷ rs') [] k ks = absurd ks
insert-lead (suc n) S r' r [] (q' ∷ rs') (q ∷ rs) k ks = absurd ks
insert-lead (suc n) S r' r (T ∷ Ss) [] rs k ks = absurd ks
insert-lead (suc n) S r' r (T ∷ Ss) (q' ∷ rs') [] k ks = absurd ks

by_tags-lead : (ts : List Tag) (Ss : List SlotRel) (rs' rs : List Rule) → AllLead false Ss rs' rs → AllLead false (by_tags ts Ss) (by_tags ts rs') (by_tags ts rs)
by_tags-lead ts [] [] [] k = tt
by_tags-lead [] (T ∷ Ss) (q' ∷ rs') (q ∷ rs) k = k
by_tags-lead (t ∷ ts) (T ∷ Ss) (q' ∷ rs') (q ∷ rs) k = insert-lead (how_many_less t ts) T q' q (by_tags ts Ss) (by_tags ts rs') (by_tags ts rs) k.0 (by_tags-lead ts Ss rs' rs k.1)
by_tags-lead ts [] [] (q ∷ rs) k = absurd k
by_tags-lead ts [] (q' ∷ rs') [] k = absurd k
by_tags-lead ts [] (q' ∷ rs') (q ∷ rs) k = absurd k
by_tags-lead ts (T ∷ Ss) [] rs k = absurd k
by_tags-lead ts (T ∷ Ss) (q' ∷ rs') [] k = absurd k

ordered-lead : (o : Order) (ts : List Tag) (Ss : List SlotRel) (rs' rs : List Rule) → AllLead false Ss rs' rs → AllLead false (ordered o ts Ss) (ordered o ts rs') (ordered o ts rs)
ordered-lead listed ts Ss rs' rs k = k
ordered-lead by_tag ts Ss rs' rs k = by_tags-lead ts Ss rs' rs k

insert-along : (n : ℕ) (S : SlotRel) (s' s : Option Value) (Ss : List SlotRel) (ss' ss : List (Option Value)) → S s' s → Along false Ss ss' ss → Along false (insert_at n S Ss) (insert_at n s' ss') (insert_at n s ss)
insert-along zero S s' s Ss ss' ss k ks = (k, ks)
insert-along (suc n) S s' s [] [] [] k ks = (k, tt)
insert-along (suc n) S s' s (T ∷ Ss) (t' ∷ ss') (t ∷ ss) k ks = (ks.0, insert-along n S s' s Ss ss' ss k ks.1)
insert-along (suc n) S s' s [] [] (t ∷ ss) k ks = absurd ks
insert-along (suc n) S s' s [] (t' ∷ ss') [] k ks = absurd ks
insert-along (suc n) S s' s [] (t' ∷ ss') (t ∷ ss) k ks = absurd ks
insert-along (suc n) S s' s (T ∷ Ss) [] ss k ks = absurd ks
insert-along (suc n) S s' s (T ∷ Ss) (t' ∷ ss') [] k ks = absurd ks

by_tags-along : (ts : List Tag) (Ss : List SlotRel) (ss' ss : List (Option Value)) → Along false Ss ss' ss → Along false (by_tags ts Ss) (by_tags ts ss') (by_tags ts ss)
by_tags-along ts [] [] [] k = tt
by_tags-along [] (T ∷ Ss) (t' ∷ ss') (t ∷ ss) k = k
by_tags-along (u ∷ ts) (T ∷ Ss) (t' ∷ ss') (t ∷ ss) k = insert-along (how_many_less u ts) T t' t (by_tags ts Ss) (by_tags ts ss') (by_tags ts ss) k.0 (by_tags-along ts Ss ss' ss k.1)
by_tags-along ts [] [] (t ∷ ss) k = absurd k
by_tags-along ts [] (t' ∷ ss') [] k = absurd k
by_tags-along ts [] (t' ∷ ss') (t ∷ ss) k = absurd k
by_tags-along ts (T ∷ Ss) [] ss k = absurd k
by_tags-along ts (T ∷ Ss) (t' ∷ ss') [] k = absurd k

ordered-along : (o : Order) (ts : List Tag) (Ss : List SlotRel) (ss' ss : List (Option Value)) → Along false Ss ss' ss → Along false (ordered o ts Ss) (ordered o ts ss') (ordered o ts ss)
ordered-along listed ts Ss ss' ss k = k
ordered-along by_tag ts Ss ss' ss k = by_tags-along ts Ss ss' ss k

length-ordered {ℓ} : {A : Type ℓ} (o : Order) (ts : List Tag) (xs : List A) → length (ordered o ts xs) ≡ length xs
length-ordered listed ts xs = refl
length-ordered by_tag ts xs = length-by_tags ts xs

-- as many slots as rules
bodies_length : (rs : List Rule) (bs : List Bool) (ss : List (Option Value)) (p : ℕ) (b : Bits) → Bodies rs bs ss p b → length ss ≡ length rs
bodies_length [] [] [] p b x = refl
bodies_length (r ∷ rs) (c ∷ bs) (s ∷ ss) p b x = ap suc (bodies_length rs bs ss (after p x.front) x.rest x.is_rest)
bodies_length [] [] (s ∷ ss) p b x = absurd x
bodies_length [] (c ∷ bs) ss p b x = absurd x
bodies_length (r ∷ rs) [] ss p b x = absurd x
bodies_length (r ∷ rs) (c ∷ bs) [] p b x = absurd x

root_length : (rs : List Rule) (ss : List (Option Value)) (p : ℕ) (b : Bits) → Root rs ss p b → length ss ≡ length rs
root_length rs ss p b x = bodies_length rs x.shown ss (after p x.spelled.front) x.spelled.rest x.spelled.is_rest

additions_length : (a : Settings) (u : Bool) (rs : List Rule) (ss : List (Option Value)) (bs : List Bool) (p : ℕ) (b : Bits) → Additions_in a u rs ss bs p b → length ss ≡ length rs
additions_length a u [] [] bs p b x = refl
additions_length a u [] (s ∷ ss) bs p b x = absurd x
additions_length a u (r ∷ rs) [] bs p b x = absurd x
additions_length a u (r ∷ rs) (s ∷ ss) [] p b x = ap suc (additions_length a u rs ss [] p b x.1)
additions_length a u (r ∷ rs) (s ∷ ss) (false ∷ bs) p b x = ap suc (additions_length a u rs ss bs p b x.1)
additions_length a u (r ∷ rs) (s ∷ ss) (true ∷ bs) p b x = ap suc (additions_length a u rs ss bs (after p x.front) x.rest x.is_rest)

fields_length : (a : Settings) (u ext : Bool) (rs adds : List Rule) (ss xs : List (Option Value)) (p : ℕ) (b : Bits) → Record_in a u ext rs adds ss xs p b → (length ss ≡ length rs) × (length xs ≡ length adds)
fields_length a u false rs adds ss xs p b x = (root_length rs ss p x.front x.is_front, additions_length a u adds xs [] (after p x.front) x.rest x.is_rest)
fields_length a u true rs adds ss xs p b (inl x) =
    let y = x.is_rest in
    (root_length rs ss (after p x.front) y.front y.is_front, additions_length a u adds xs [] (after (after p x.front) y.front) y.rest y.is_rest)
fields_length a u true rs adds ss xs p b (inr z) =
    let x = z.spelled in let y = x.is_rest in let w = y.is_rest in
    (root_length rs ss (after p x.front) y.front y.is_front, additions_length a u adds xs z.flags (after (after (after p x.front) y.front) w.front) w.rest w.is_rest)

-- one addition more on both sides
pub additions_step : (a : Settings) (u' u : Bool) (S : SlotRel) (r' r : Rule) → Leads S r' r → (s' s : Option Value) → S s' s → (rs' rs : List Rule) (ss' ss : List (Option Value)) →
    ((bs : List Bool) → Carry (Additions_in a u' rs' ss' bs) (Additions_in a u rs ss bs)) → (bs : List Bool) → Carry (Additions_in a u' (r' ∷ rs') (s' ∷ ss') bs) (Additions_in a u (r ∷ rs) (s ∷ ss) bs)
additions_step a u' u S r' r k s' s l rs' rs ss' ss h [] = when_carry (k.left_out s' s l) (h [])
additions_step a u' u S r' r k s' s l rs' rs ss' ss h (false ∷ bs) = when_carry (k.left_out s' s l) (h bs)
additions_step a u' u S r' r k s' s l rs' rs ss' ss h (true ∷ bs) = then_carry (held_carry S r' r k s' s l (OpenOf a) (λ f g v w c. open_carry a (λ os y. fills_carry a os c y))) (h bs)

fields_carried : (a : Settings) (u' u ext : Bool) (Ss : List SlotRel) (rs' rs adds' adds : List Rule) → AllLead false Ss rs' rs →
    (ss' ss xs' xs : List (Option Value)) → Along false Ss ss' ss → ((bs : List Bool) → Carry (Additions_in a u' adds' xs' bs) (Additions_in a u adds xs bs)) →
    Carry (Record_in a u' ext rs' adds' ss' xs') (Record_in a u ext rs adds ss xs)
fields_carried a u' u false Ss rs' rs adds' adds k ss' ss xs' xs l h = then_carry (root_carry Ss rs' rs k ss' ss l) (h [])
fields_carried a u' u true Ss rs' rs adds' adds k ss' ss xs' xs l h = either_carry
    (then_carry kept (then_carry (root_carry Ss rs' rs k ss' ss l) (h [])))
    (record { carry = λ p b x. record { flags = x.flags; spelled = (then_carry kept (then_carry (root_carry Ss rs' rs k ss' ss l) (then_carry kept (h x.flags)))).carry p b x.spelled } })

-- a record, where the reader of each of its parts takes what the other one takes
pub record_as : (a : Settings) (u' u : Bool) (o : Order) (ts : List Tag) (ext : Bool) (Ss : List SlotRel) (rs' rs adds' adds : List Rule) → AllLead false Ss rs' rs → (v w : Value) →
    ((x : List (Option Value) × List (Option Value)) → v ≡ fields (as_slots x.0) (as_slots x.1) → length x.0 ≡ length rs' → length x.1 ≡ length adds' →
    (y : List (Option Value) × List (Option Value)) × (w ≡ fields (as_slots y.0) (as_slots y.1)) × Along false Ss x.0 y.0 × ((bs : List Bool) → Carry (Additions_in a u' adds' x.1 bs) (Additions_in a u adds y.1 bs))) →
    Carry (As (λ (x : List (Option Value) × List (Option Value)). fields (as_slots x.0) (as_slots x.1)) (λ x. Record_in a u' ext (ordered o ts rs') adds' (ordered o ts x.0) x.1) v)
    (As (λ (x : List (Option Value) × List (Option Value)). fields (as_slots x.0) (as_slots x.1)) (λ x. Record_in a u ext (ordered o ts rs) adds (ordered o ts x.0) x.1) w)
record_as a u' u o ts ext Ss rs' rs adds' adds k v w h = as_carry (λ (x : List (Option Value) × List (Option Value)). fields (as_slots x.0) (as_slots x.1)) (λ (x : List (Option Value) × List (Option Value)). fields (as_slots x.0) (as_slots x.1))
    (λ x. Record_in a u' ext (ordered o ts rs') adds' (ordered o ts x.0) x.1) (λ x. Record_in a u ext (ordered o ts rs) adds (ordered o ts x.0) x.1) v w
    (λ x p b e s.
    let n = fields_length a u' ext (ordered o ts rs') adds' (ordered o ts x.0) x.1 p b s in
    let r = h x e (sym (length-ordered o ts x.0) ∙ n.0 ∙ length-ordered o ts rs') n.1 in (
      r.0,
      r.1,
      (fields_carried a u' u ext (ordered o ts Ss) (ordered o ts rs') (ordered o ts rs) adds' adds (ordered-lead o ts Ss rs' rs k) (ordered o ts x.0) (ordered o ts r.0.0) x.1 r.0.1
          (ordered-along o ts Ss x.0 r.0.0 r.2) r.3).carry p b s,
    ))

-- a choice
abbrev pub rules_on : Side → List Rule → List Rule → List Rule
rules_on root rs adds = rs
rules_on added rs adds = adds

pub choice_as : (a : Settings) (ext : Bool) (rs' rs adds' adds : List Rule) → length rs' ≡ length rs → (v w : Value) →
    ((d : Side) (i : ℕ) (x : Value) → v ≡ alternative d i x → (y : Value) × (w ≡ alternative d i y) × Carry (Chosen (rules_on d rs' adds') i x) (Chosen (rules_on d rs adds) i y)) →
    Carry (As (λ (x : Side × ℕ × Value). alternative x.0 x.1 x.2) (λ x. Basic.Choice a ext rs' adds' x.0 x.1 x.2) v)
    (As (λ (x : Side × ℕ × Value). alternative x.0 x.1 x.2) (λ x. Basic.Choice a ext rs adds x.0 x.1 x.2) w)
choice_as a ext rs' rs adds' adds l v w h = as_carry (λ (x : Side × ℕ × Value). alternative x.0 x.1 x.2) (λ (x : Side × ℕ × Value). alternative x.0 x.1 x.2)
    (λ x. Basic.Choice a ext rs' adds' x.0 x.1 x.2) (λ x. Basic.Choice a ext rs adds x.0 x.1 x.2) v w
    (λ x p b e s. let r = h x.0 x.1 x.2 e in ((x.0, x.1, r.0), r.1, (go x.0 x.1 x.2 r.0 r.2).carry p b s))
  where
    go : (d : Side) (i : ℕ) (x y : Value) → Carry (Chosen (rules_on d rs' adds') i x) (Chosen (rules_on d rs adds) i y) → Carry (Basic.Choice a ext rs' adds' d i x) (Basic.Choice a ext rs adds d i y)
    go root i x y c = then_carry kept (then_carry (subst (λ n. Carry (IsConstrainedWhole a (length rs') i) (IsConstrainedWhole a n i)) l kept) c)
    go added i x y c = then_carry kept (then_carry kept (open_carry a (λ os z. fills_carry a os c z)))

-- lists of values, element by element
pub zip_all : (f : Value → Option Value) (R : Value → Value → Type 0) → ((v w : Value) → f v ≡ Some w → R v w) → (vs ws : List Value) → Zip (λ v w. f v ≡ Some w) vs ws → Zip R vs ws
zip_all f R h [] [] z = tt
zip_all f R h (v ∷ vs) (w ∷ ws) z = (h v w z.0, zip_all f R h vs ws z.1)
zip_all f R h [] (w ∷ ws) z = absurd z
zip_all f R h (v ∷ vs) [] z = absurd z
