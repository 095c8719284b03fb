-- All kinds: from one position the bits of a value are those of no other value, and begin no other spelling.
use Rattle.std.proofs.Common.{◌≡◌, refl, sym, ap, ◌∙◌, subst, ℕ, zero, suc, ◌+◌, ◌^◌, ◌<◌, Bool, true, false, cond, ltb, eqb, List, [], ◌∷◌, length, arith, Option, Some, None, ℤ, pos, eqb-true, get_or}
use Rattle.rasn_types.specs.Alphabets.{char_code, char_width, keep_own, index_of, more, visible, greatest}
use Rattle.rasn_types.specs.Contents.{is_text, is_time, is_identifier}
use Rattle.rasn_types.specs.Values.{Value, whole, truth, nothing, characters, elements, bag_of, fields, alternative, day, Side, root, added, as_values, as_slots}
use Rattle.rasn_schema.specs.Orders.{ordered, by_tags, insert_at, how_many_less}
use Rattle.rasn_constraints.specs.Bounds.{Size, any_size}
use Rattle.rasn_schema.specs.Schemas.{tags, count, Presence, required, optional, group, default, Order, listed, by_tag, Tag, Schema, Parts, no_parts, part}
use Rattle.per_core.specs.Basic
use Rattle.per_core.specs.Basic.{Proper, Counted, octet, bit, Octets, Fills, Open, Rule, FlagOf, IsLeftOut, Record, As, IsConstrainedWhole, Chosen, ExtensionBit, Char, String, YearIn, year_form, Year, IsDay, basic, basic_in, rules, rules_in}
use Rattle.per_core.specs.Counts.{list_items, octet_items, bit_items, char_items}
use Rattle.per_core.specs.Spellings.{Settings, Spelling, exactly, Then}
use Rattle.per_core.proofs.SpellingsAgree.{Agree, weaken, then_agree, when_agree, never_agree, agree_never, exactly_agree, empty_agree, field_agree, no_yes, behind, turned}
use Rattle.per_core.proofs.LengthForms.{Zip-same, lengthy_agree, same_octets, bounded_agree}
use Rattle.per_core.proofs.Records.{SlotRel, Kin, AllKin, Along, fields_agree}
use Rattle.per_core.proofs.Unique.{fills_agree, open_agree, small_agree, as_agree, is_number_of_agree, in_whole_agree}

-- a record's order is one rearrangement of all that hangs on the parts
length-insert {ℓ} : {A : Type ℓ} (n : ℕ) (x : A) (ys : List A) → length (insert_at n x ys) ≡ suc (length ys)
length-insert zero x ys = refl
length-insert (suc n) x [] = refl
length-insert (suc n) x (y ∷ ys) = ap suc (length-insert n x ys)

pub length-by_tags {ℓ} : {A : Type ℓ} (ts : List Tag) (xs : List A) → length (by_tags ts xs) ≡ length xs
length-by_tags ts [] = refl
length-by_tags [] (x ∷ xs) = refl
length-by_tags (t ∷ ts) (x ∷ xs) = length-insert (how_many_less t ts) x (by_tags ts xs) ∙ ap suc (length-by_tags ts xs)

insert-kin : (n : ℕ) (S : SlotRel) (r' r : Rule) (Ss : List SlotRel) (rs' rs : List Rule) → Kin S r' r → AllKin false Ss rs' rs → AllKin false (insert_at n S Ss) (insert_at n r' rs') (insert_at n r rs)
insert-kin zero S r' r Ss rs' rs k ks = (k, ks)
insert-kin (suc n) S r' r [] [] [] k ks = (k, tt)
insert-kin (suc n) S r' r (T ∷ Ss) (q' ∷ rs') (q ∷ rs) k ks = (ks.0, insert-kin n S r' r Ss rs' rs k ks.1)
insert-kin (suc n) S r' r [] [] (q ∷ rs) k ks = absurd ks
insert-kin (suc n) S r' r [] (q' ∷ rs') [] k ks = absurd ks
insert-kin (suc n) S r' r [] (q' ∷ rs') (q ∷ rs) k ks = absurd ks
insert-kin (suc n) S r' r (T ∷ Ss) [] rs k ks = absurd ks
insert-kin (suc n) S r' r (T ∷ Ss) (q' ∷ rs') [] k ks = absurd ks

by_tags-kin : (ts : List Tag) (Ss : List SlotRel) (rs' rs : List Rule) → AllKin false Ss rs' rs → AllKin false (by_tags ts Ss) (by_tags ts rs') (by_tags ts rs)
by_tags-kin ts [] [] [] k = tt
by_tags-kin [] (T ∷ Ss) (q' ∷ rs') (q ∷ rs) k = k
by_tags-kin (t ∷ ts) (T ∷ Ss) (q' ∷ rs') (q ∷ rs) k = insert-kin (how_many_less t ts) T q' q (by_tags ts Ss) (by_tags ts rs') (by_tags ts rs) k.0 (by_tags-kin ts Ss rs' rs k.1)
by_tags-kin ts [] [] (q ∷ rs) k = absurd k
by_tags-kin ts [] (q' ∷ rs') [] k = absurd k
by_tags-kin ts [] (q' ∷ rs') (q ∷ rs) k = absurd k
by_tags-kin ts (T ∷ Ss) [] rs k = absurd k
by_tags-kin ts (T ∷ Ss) (q' ∷ rs') [] k = absurd k

along-length : (Ss : List SlotRel) (ss' ss : List (Option Value)) → Along false Ss ss' ss → (length Ss ≡ length ss') × (length Ss ≡ length ss)
along-length [] [] [] k = (refl, refl)
along-length (S ∷ Ss) (s' ∷ ss') (s ∷ ss) k = let r = along-length Ss ss' ss k.1 in (ap suc r.0, ap suc r.1)
along-length [] [] (q ∷ rs) k = absurd k
along-length [] (q' ∷ rs') [] k = absurd k
along-length [] (q' ∷ rs') (q ∷ rs) k = absurd k
along-length (T ∷ Ss) [] rs k = absurd k
along-length (T ∷ Ss) (q' ∷ rs') [] k = absurd k

taken_out : (n : ℕ) (S : SlotRel) (s' s : Option Value) (Ss : List SlotRel) (ss' ss : List (Option Value)) → length Ss ≡ length ss' → length Ss ≡ length ss →
    Along false (insert_at n S Ss) (insert_at n s' ss') (insert_at n s ss) → S s' s × Along false Ss ss' ss
taken_out zero S s' s Ss ss' ss l m k = k
taken_out (suc n) S s' s [] [] [] l m k = k
taken_out (suc n) S s' s (T ∷ Ss) (t' ∷ ss') (t ∷ ss) l m k = let r = taken_out n S s' s Ss ss' ss (omega arith) (omega arith) k.1 in (r.0, (k.0, r.1))
taken_out (suc n) S s' s [] [] (t ∷ ss) l m k = absurd (omega arith)
taken_out (suc n) S s' s [] (t' ∷ ss') ss l m k = absurd (omega arith)
taken_out (suc n) S s' s (T ∷ Ss) [] ss l m k = absurd (omega arith)
taken_out (suc n) S s' s (T ∷ Ss) (t' ∷ ss') [] l m k = absurd (omega arith)

as_listed : (ts : List Tag) (Ss : List SlotRel) (ss' ss : List (Option Value)) → length Ss ≡ length ss' → length Ss ≡ length ss →
    Along false (by_tags ts Ss) (by_tags ts ss') (by_tags ts ss) → Along false Ss ss' ss
as_listed ts [] [] [] l m k = tt
as_listed [] (T ∷ Ss) (t' ∷ ss') (t ∷ ss) l m k = k
as_listed (u ∷ ts) (T ∷ Ss) (t' ∷ ss') (t ∷ ss) l m k =
    let r = taken_out (how_many_less u ts) T t' t (by_tags ts Ss) (by_tags ts ss') (by_tags ts ss)
    (length-by_tags ts Ss ∙ (omega arith) ∙ sym (length-by_tags ts ss')) (length-by_tags ts Ss ∙ (omega arith) ∙ sym (length-by_tags ts ss)) k in
    (r.0, as_listed ts Ss ss' ss (omega arith) (omega arith) r.1)
as_listed ts [] [] (t ∷ ss) l m k = absurd (omega arith)
as_listed ts [] (t' ∷ ss') ss l m k = absurd (omega arith)
as_listed ts (T ∷ Ss) [] ss l m k = absurd (omega arith)
as_listed ts (T ∷ Ss) (t' ∷ ss') [] l m k = absurd (omega arith)

pub ordered-kin : (o : Order) (ts : List Tag) (Ss : List SlotRel) (rs' rs : List Rule) → AllKin false Ss rs' rs → AllKin false (ordered o ts Ss) (ordered o ts rs') (ordered o ts rs)
ordered-kin listed ts Ss rs' rs k = k
ordered-kin by_tag ts Ss rs' rs k = by_tags-kin ts Ss rs' rs k

pub along-listed : (o : Order) (ts : List Tag) (Ss : List SlotRel) (ss' ss : List (Option Value)) → Along false (ordered o ts Ss) (ordered o ts ss') (ordered o ts ss) → Along false Ss ss' ss
along-listed listed ts Ss ss' ss k = k
along-listed by_tag ts Ss ss' ss k =
    let r = along-length (by_tags ts Ss) (by_tags ts ss') (by_tags ts ss) k in
    as_listed ts Ss ss' ss (sym (length-by_tags ts Ss) ∙ r.0 ∙ length-by_tags ts ss') (sym (length-by_tags ts Ss) ∙ r.1 ∙ length-by_tags ts ss) k

-- choices
abbrev pub rel_at : List SlotRel → ℕ → SlotRel
rel_at [] i = λ s' s. Unit {0}
rel_at (S ∷ Ss) zero = S
rel_at (S ∷ Ss) (suc i) = rel_at Ss i

pub chosen_agree : (may : Bool) (Ss : List SlotRel) (rs' rs : List Rule) → AllKin may Ss rs' rs → (i : ℕ) (v' v : Value) →
    Agree ((i < length rs) × rel_at Ss i (Some v') (Some v)) (Chosen rs' i v') (Chosen rs i v)
chosen_agree may [] [] [] k i v' v = never_agree
chosen_agree true [] (r' ∷ rs') [] k i v' v = agree_never
chosen_agree false [] (r' ∷ rs') [] k i v' v = absurd k
chosen_agree may (S ∷ Ss) (r' ∷ rs') (r ∷ rs) k zero v' v = weaken (λ e. (omega arith, e)) (k.0.held v' v)
chosen_agree may (S ∷ Ss) (r' ∷ rs') (r ∷ rs) k (suc i) v' v = weaken (λ e. let l : i < length rs = e.0 in (omega arith, e.1)) (chosen_agree may Ss rs' rs k.1 i v' v)
chosen_agree may [] [] (r ∷ rs) k i v' v = absurd k
chosen_agree true [] (r' ∷ rs') (r ∷ rs) k i v' v = absurd k
chosen_agree false [] (r' ∷ rs') (r ∷ rs) k i v' v = absurd k
chosen_agree may (S ∷ Ss) [] rs k i v' v = absurd k
chosen_agree may (S ∷ Ss) (r' ∷ rs') [] k i v' v = absurd k

kin-length : (Ss : List SlotRel) (rs' rs : List Rule) → AllKin false Ss rs' rs → length rs' ≡ length rs
kin-length [] [] [] k = refl
kin-length (S ∷ Ss) (r' ∷ rs') (r ∷ rs) k = ap suc (kin-length Ss rs' rs k.1)
kin-length [] [] (q ∷ rs) k = absurd k
kin-length [] (q' ∷ rs') [] k = absurd k
kin-length [] (q' ∷ rs') (q ∷ rs) k = absurd k
kin-length (T ∷ Ss) [] rs k = absurd k
kin-length (T ∷ Ss) (q' ∷ rs') [] k = absurd k

pub root_added : {P : Type 0} (ext : Bool) (f g : Spelling) → Agree P (Then (ExtensionBit ext false) f) (Then (ExtensionBit ext true) g)
root_added false f g = record { agree = λ p b c s t x y e. absurd y.is_front }
root_added true f g = no_yes f g

pub same_bit : {P : Type 0} (ext b : Bool) {f g : Spelling} → Agree P f g → Agree P (Then (ExtensionBit ext b) f) (Then (ExtensionBit ext b) g)
same_bit true b w = behind (b ∷ []) w
same_bit false false w = behind [] w
same_bit false true w = record { agree = λ p b c s t x y e. absurd y.is_front }

-- Q holds of two alternatives where it's so in their list
pub alternative_agree : (Q : Value → Value → Type 0) (a : Settings) (ext may : Bool) (Ss As : List SlotRel) (rs' rs adds' adds : List Rule) →
    AllKin false Ss rs' rs → AllKin may As adds' adds →
    ((i : ℕ) (v' v : Value) → i < length rs → rel_at Ss i (Some v') (Some v) → Q (alternative root i v') (alternative root i v)) →
    ((i : ℕ) (v' v : Value) → i < length adds → rel_at As i (Some v') (Some v) → Q (alternative added i v') (alternative added i v)) →
    (x y : Side × ℕ × Value) → Agree (Q (alternative x.0 x.1 x.2) (alternative y.0 y.1 y.2)) (Basic.Choice a ext rs' adds' x.0 x.1 x.2) (Basic.Choice a ext rs adds y.0 y.1 y.2)
alternative_agree Q a ext may Ss As rs' rs adds' adds k k' h h' x y = go x.0 x.1 x.2 y.0 y.1 y.2
  where
    constrained_whole : (i j : ℕ) → Agree (i ≡ j) (IsConstrainedWhole a (length rs') i) (IsConstrainedWhole a (length rs) j)
    constrained_whole i j = subst (λ n. Agree (i ≡ j) (IsConstrainedWhole a (length rs') i) (IsConstrainedWhole a n j)) (kin-length Ss rs' rs k) (bounded_agree a (length rs') i j)

    go : (d' : Side) (i : ℕ) (v' : Value) (d : Side) (j : ℕ) (v : Value) → Agree (Q (alternative d' i v') (alternative d j v)) (Basic.Choice a ext rs' adds' d' i v') (Basic.Choice a ext rs adds d j v)
    go root i v' root j v = same_bit ext false (weaken (λ r. r.1) (then_agree (constrained_whole i j) (λ e.
        subst (λ n. Agree (Q (alternative root i v') (alternative root n v)) (Chosen rs' i v') (Chosen rs n v)) e (weaken (λ r. h i v' v r.0 r.1) (chosen_agree false Ss rs' rs k i v' v)))))
    go root i v' added j v = root_added ext _ _
    go added i v' root j v = turned (λ e. e) (root_added ext _ _)
    go added i v' added j v = same_bit ext true (weaken (λ r. r.1) (then_agree (small_agree a i j) (λ e.
        subst (λ n. Agree (Q (alternative added i v') (alternative added n v)) (Open a (Fills a (Chosen adds' i v'))) (Open a (Fills a (Chosen adds n v)))) e
        (open_agree a (Fills a (Chosen adds' i v')) (Fills a (Chosen adds i v)) (λ os c d. fills_agree a os (weaken (λ r. h' i v' v r.0 r.1) (chosen_agree may As adds' adds k' i v' v)) c d)))))

-- items
pub item_agree : (a : Settings) (r e' e : ℕ) (ext : Bool) (d' : Side) (i : ℕ) (d : Side) (j : ℕ) → Agree ((d' ≡ d) × (i ≡ j)) (Basic.Item a r e' ext d' i) (Basic.Item a r e ext d j)
item_agree a r e' e ext root i root j = same_bit ext false (weaken (λ u. (refl, u)) (bounded_agree a r i j))
item_agree a r e' e ext root i added j = root_added ext _ _
item_agree a r e' e ext added i root j = turned (λ u. u) (root_added ext _ _)
item_agree a r e' e ext added i added j = same_bit ext true (record { agree = λ p b c s t x y u. let q = (small_agree a i j).agree p b c s t x.spelled y.spelled u in ((refl, q.0), q.1) })

-- characters
index_at : (ds : List ℕ) (c i : ℕ) → index_of c ds ≡ Some i → get_or ds i 0 ≡ c
index_at [] c i e = absurd (cc)
index_at (d ∷ ds) c i e = go (eqb c d) refl e (index_at ds c)
  where
    here : (i : ℕ) → c ≡ d → ◌≡◌ {A = Option ℕ} (Some 0) (Some i) → get_or (d ∷ ds) i 0 ≡ c
    here zero h e = sym h
    here (suc i) h e = absurd (cc)

    there : (o : Option ℕ) (i : ℕ) → ((j : ℕ) → o ≡ Some j → get_or ds j 0 ≡ c) → more o ≡ Some i → get_or (d ∷ ds) i 0 ≡ c
    there None i h e = absurd (cc)
    there (Some j) zero h e = let u : 1 + j ≡ 0 = cc in absurd (omega arith)
    there (Some j) (suc i) h e = let u : 1 + j ≡ suc i = cc in let v : j ≡ i = omega arith in subst (λ n. get_or ds n 0 ≡ c) v (h j refl)

    go : (b : Bool) → eqb c d ≡ b → cond b (Some 0) (more (index_of c ds)) ≡ Some i → ((j : ℕ) → index_of c ds ≡ Some j → get_or ds j 0 ≡ c) → get_or (d ∷ ds) i 0 ≡ c
    go true h e r = here i (eqb-true c d h) e
    go false h e r = there (index_of c ds) i r e

char_same : (a : Settings) (alphabet : List ℕ) (c d k : ℕ) → char_code a.variant alphabet c ≡ Some k → char_code a.variant alphabet d ≡ Some k → c ≡ d
unfolding char_code
char_same a alphabet c d k e f = go (ltb (greatest alphabet) (2 ^ char_width a.variant alphabet)) (index_of c alphabet) (index_of d alphabet) refl refl e f
  where
    go : (own : Bool) (o p : Option ℕ) → index_of c alphabet ≡ o → index_of d alphabet ≡ p → keep_own own c o ≡ Some k → keep_own own d p ≡ Some k → c ≡ d
    go own None p h h' e f = absurd (cc)
    go own (Some i) None h h' e f = absurd (cc)
    go true (Some i) (Some j) h h' e f = cc
    go false (Some i) (Some j) h h' e f =
        let u : i ≡ k = cc in let v : j ≡ k = cc in
        let x : get_or alphabet i 0 ≡ c = index_at alphabet c i h in
        let y : get_or alphabet j 0 ≡ d = index_at alphabet d j h' in cc

char_agree : (a : Settings) (alphabet : List ℕ) (c d : ℕ) → Agree (c ≡ d) (Char a alphabet c) (Char a alphabet d)
char_agree a alphabet c d = record {
  agree = λ p b b' s t x y e.
      let r = (field_agree (char_width a.variant alphabet) x.index y.index).agree p b b' s t x.spelled y.spelled e in
      (char_same a alphabet c d x.index x.is (y.is ∙ ap some_of (sym r.0)), r.1);
}
  where
    some_of : ℕ → Option ℕ
    some_of n = Some n

string_agree : (a : Settings) (alphabet : List ℕ) (size : Size) (mark : Bool) (cs ds : List ℕ) → Agree (cs ≡ ds) (String a alphabet size mark cs) (String a alphabet size mark ds)
string_agree a alphabet size mark cs ds = weaken (Zip-same cs ds)
    (lengthy_agree (λ x y. x ≡ y) (Char a alphabet) (Char a alphabet) (char_agree a alphabet) a size mark (char_items (char_width a.variant alphabet)) cs ds)

-- dates
year_in_agree : (a : Settings) (low n : ℕ) (y z : ℤ) → Agree (y ≡ z) (YearIn a low n y) (YearIn a low n z)
year_in_agree a low n y z = record {
  agree = λ p b c s t u v e.
      let r = (bounded_agree a n u.past v.past).agree p b c s t u.spelled v.spelled e in
      (u.is ∙ ap (λ (k : ℕ). pos (low + k)) r.0 ∙ sym v.is, r.1);
}

year_form_agree : (a : Settings) (k : ℕ) (y z : ℤ) → Agree (y ≡ z) (year_form a k y) (year_form a k z)
year_form_agree a zero y z = year_in_agree a 2005 16 y z
year_form_agree a (suc zero) y z = year_in_agree a 2021 256 y z
year_form_agree a (suc (suc zero)) y z = year_in_agree a 1749 256 y z
year_form_agree a (suc (suc (suc zero))) y z = in_whole_agree a y z
year_form_agree a (suc (suc (suc (suc k)))) y z = never_agree

year_agree : (a : Settings) (y z : ℤ) → Agree (y ≡ z) (Year a y) (Year a z)
year_agree a y z = record {
  agree = λ p b c s t u v e.
      let w = then_agree (field_agree 2 u.range v.range) (λ l. subst (λ k. Agree (y ≡ z) (year_form a u.range y) (year_form a k z)) l (year_form_agree a u.range y z)) in
      let r = w.agree p b c s t u.spelled v.spelled e in (r.0.1, r.1);
}

day_agree : (a : Settings) (x y : ℤ × ℕ × ℕ) → Agree (day x.0 (suc x.1) (suc x.2) ≡ day y.0 (suc y.1) (suc y.2)) (IsDay a x) (IsDay a y)
day_agree a x y = record {
  agree = λ p b c s t u v e.
      let w = then_agree (year_agree a x.0 y.0) (λ l. then_agree (bounded_agree a 12 x.1 y.1) (λ m. bounded_agree a 31 x.2 y.2)) in
      let r = w.agree p b c s t u.spelled v.spelled e in
      let l : x.0 ≡ y.0 = r.0.0 in let m : x.1 ≡ y.1 = r.0.1.0 in let n : x.2 ≡ y.2 = r.0.1.1 in (cc, r.1);
}

-- all kinds
abbrev pub Same : SlotRel
Same s' s = s' ≡ s

abbrev pub sames : Parts → List SlotRel
sames no_parts = []
sames (part t p s ps) = Same ∷ sames ps

pub same_flags : (pr : Presence) (b b' : Bool) → Agree (b ≡ b') (FlagOf pr b) (FlagOf pr b')
same_flags required b b' = when_agree (λ e f. weaken (λ u. e ∙ sym f) empty_agree)
same_flags optional b b' = weaken (λ e. let e' : b ∷ [] ≡ b' ∷ [] = e in cc) (exactly_agree (b ∷ []) (b' ∷ []) refl)
same_flags group b b' = weaken (λ e. let e' : b ∷ [] ≡ b' ∷ [] = e in cc) (exactly_agree (b ∷ []) (b' ∷ []) refl)
same_flags (default d) b b' = weaken (λ e. let e' : b ∷ [] ≡ b' ∷ [] = e in cc) (exactly_agree (b ∷ []) (b' ∷ []) refl)

same_left_out : (pr : Presence) (s' s : Option Value) → IsLeftOut pr s' → IsLeftOut pr s → s' ≡ s
same_left_out required s' s e f = absurd e
same_left_out optional s' s e f = e ∙ sym f
same_left_out group s' s e f = e ∙ sym f
same_left_out (default d) s' s e f = e ∙ sym f

same_slots : (ps : Parts) (ss' ss : List (Option Value)) → Along false (sames ps) ss' ss → ss' ≡ ss
same_slots no_parts [] [] k = refl
same_slots no_parts [] (s ∷ ss) k = absurd k
same_slots no_parts (s' ∷ ss') [] k = absurd k
same_slots no_parts (s' ∷ ss') (s ∷ ss) k = absurd k
same_slots (part t p u ps) (s' ∷ ss') (s ∷ ss) k = let e : s' ≡ s = k.0 in let r : ss' ≡ ss = same_slots ps ss' ss k.1 in cc
same_slots (part t p u ps) [] ss k = absurd k
same_slots (part t p u ps) (s' ∷ ss') [] k = absurd k

same_at : (ps : Parts) (i : ℕ) (v' v : Value) → i < count ps → rel_at (sames ps) i (Some v') (Some v) → v' ≡ v
same_at no_parts i v' v l e = absurd (omega arith)
same_at (part t p s ps) zero v' v l e = cc
same_at (part t p s ps) (suc i) v' v l e = same_at ps i v' v (omega arith) e

pub length-rules-in : (a : Settings) (u : Bool) (ps : Parts) → length (rules_in a u ps) ≡ count ps
unfolding rules_in
length-rules-in a u no_parts = refl
length-rules-in a u (part t p s ps) = ap suc (length-rules-in a u ps) ∙ (omega arith)

pub length-rules : (a : Settings) (ps : Parts) → length (rules a ps) ≡ count ps
length-rules a ps = length-rules-in a true ps

abbrev SameValue : Value → Value → Type 0
SameValue v w = v ≡ w

pub some_same : {v w : Value} → v ≡ w → ◌≡◌ {A = Option Value} (Some v) (Some w)
some_same e = cc

pub same_bits : (x y : Bool) → Agree (x ≡ y) (bit x) (bit y)
same_bits x y = weaken (λ e. let e' : x ∷ [] ≡ y ∷ [] = e in cc) (exactly_agree (x ∷ []) (y ∷ []) refl)

octets_value : (a : Settings) (v w : Value) → Agree (v ≡ w) (As Value.octets (Octets a) v) (As Value.octets (Octets a) w)
octets_value a v w = as_agree SameValue Value.octets Value.octets (Octets a) (Octets a) v w (λ x y. weaken (λ e. ap Value.octets e) (same_octets a x y))

string_value : (a : Settings) (alphabet : List ℕ) (size : Size) (mark : Bool) (v w : Value) →
    Agree (v ≡ w) (As characters (String a alphabet size mark) v) (As characters (String a alphabet size mark) w)
string_value a alphabet size mark v w = as_agree SameValue characters characters (String a alphabet size mark) (String a alphabet size mark) v w
    (λ x y. weaken (λ e. ap characters e) (string_agree a alphabet size mark x y))

proper_octets : (a : Settings) (ok : List ℕ → Bool) (v w : Value) → Agree (v ≡ w) (As Value.octets (Proper ok (Octets a)) v) (As Value.octets (Proper ok (Octets a)) w)
proper_octets a ok v w = as_agree SameValue Value.octets Value.octets (Proper ok (Octets a)) (Proper ok (Octets a)) v w (λ x y. when_agree (λ h k. weaken (λ e. ap Value.octets e) (same_octets a x y)))

proper_string : (a : Settings) (ok : List ℕ → Bool) (v w : Value) →
    Agree (v ≡ w) (As characters (Proper ok (String a visible any_size false)) v) (As characters (Proper ok (String a visible any_size false)) w)
proper_string a ok v w = as_agree SameValue characters characters (Proper ok (String a visible any_size false)) (Proper ok (String a visible any_size false)) v w
    (λ x y. when_agree (λ h k. weaken (λ e. ap characters e) (string_agree a visible any_size false x y)))

-- lists, by what is known of the elements
list_value : (a : Settings) (make : List Value → Value) (f : Value → Spelling) (size : Size) (mark : Bool) → ((v w : Value) → Agree (v ≡ w) (f v) (f w)) → (v w : Value) →
    Agree (v ≡ w) (As make (Counted a size mark list_items f) v) (As make (Counted a size mark list_items f) w)
list_value a make f size mark h v w = as_agree SameValue make make (Counted a size mark list_items f) (Counted a size mark list_items f) v w
    (λ x y. weaken (λ z. ap make (Zip-same x y z)) (lengthy_agree (λ x y. x ≡ y) f f h a size mark list_items x y))

record_value : (a : Settings) (o : Order) (ext : Bool) (ps adds : Parts) (rs as_ : List Rule) → AllKin false (sames ps) rs rs → AllKin false (sames adds) as_ as_ →
    (x y : List (Option Value) × List (Option Value)) →
    Agree (fields (as_slots x.0) (as_slots x.1) ≡ fields (as_slots y.0) (as_slots y.1))
    (Record a ext (ordered o (tags ps) rs) as_ (ordered o (tags ps) x.0) x.1) (Record a ext (ordered o (tags ps) rs) as_ (ordered o (tags ps) y.0) y.1)
record_value a o ext ps adds rs as_ k k' x y = weaken (λ r.
    let e : x.0 ≡ y.0 = same_slots ps x.0 y.0 (along-listed o (tags ps) (sames ps) x.0 y.0 r.0) in
    let f : x.1 ≡ y.1 = same_slots adds x.1 y.1 r.1 in cc)
    (fields_agree a false (ordered o (tags ps) (sames ps)) (sames adds) (ordered o (tags ps) rs) (ordered o (tags ps) rs) as_ as_
    (ordered-kin o (tags ps) (sames ps) rs rs k) k' (ordered o (tags ps) x.0) (ordered o (tags ps) y.0) x.1 y.1 ext)

choice_value : (a : Settings) (ext : Bool) (ps adds : Parts) → AllKin false (sames ps) (rules a ps) (rules a ps) → AllKin false (sames adds) (rules a adds) (rules a adds) →
    (x y : Side × ℕ × Value) → Agree (alternative x.0 x.1 x.2 ≡ alternative y.0 y.1 y.2)
    (Basic.Choice a ext (rules a ps) (rules a adds) x.0 x.1 x.2) (Basic.Choice a ext (rules a ps) (rules a adds) y.0 y.1 y.2)
choice_value a ext ps adds k k' = alternative_agree SameValue a ext false (sames ps) (sames adds) (rules a ps) (rules a ps) (rules a adds) (rules a adds) k k'
    (λ i v' v l e. let q : v' ≡ v = same_at ps i v' v (subst (λ n. i < n) (length-rules a ps) l) e in cc)
    (λ i v' v l e. let q : v' ≡ v = same_at adds i v' v (subst (λ n. i < n) (length-rules a adds) l) e in cc)

item_value : (a : Settings) (r e : ℕ) (ext : Bool) (x y : Side × ℕ) → Agree (Value.item x.0 x.1 ≡ Value.item y.0 y.1) (Basic.Item a r e ext x.0 x.1) (Basic.Item a r e ext y.0 y.1)
item_value a r e ext x y = weaken (λ q. let m : x.0 ≡ y.0 = q.0 in let n : x.1 ≡ y.1 = q.1 in cc) (item_agree a r e e ext x.0 x.1 y.0 y.1)

bits_value : (a : Settings) (size : Size) (mark : Bool) (v w : Value) →
    Agree (v ≡ w) (As Value.bits (Counted a size mark bit_items bit) v) (As Value.bits (Counted a size mark bit_items bit) w)
bits_value a size mark v w = as_agree SameValue Value.bits Value.bits (Counted a size mark bit_items bit) (Counted a size mark bit_items bit) v w
    (λ x y. weaken (λ z. ap Value.bits (Zip-same x y z)) (lengthy_agree (λ x y. x ≡ y) bit bit same_bits a size mark bit_items x y))

sized_octets_value : (a : Settings) (size : Size) (mark : Bool) (v w : Value) →
    Agree (v ≡ w) (As Value.octets (Counted a size mark octet_items octet) v) (As Value.octets (Counted a size mark octet_items octet) w)
sized_octets_value a size mark v w = as_agree SameValue Value.octets Value.octets (Counted a size mark octet_items octet) (Counted a size mark octet_items octet) v w
    (λ x y. weaken (λ z. ap Value.octets (Zip-same x y z)) (lengthy_agree (λ x y. x ≡ y) octet octet (field_agree 8) a size mark octet_items x y))

mutual
  unfolding basic_in

  pub one_reading : (a : Settings) (s : Schema) (v w : Value) → Agree (v ≡ w) (basic a s v) (basic a s w)
  one_reading a Schema.boolean v w = as_agree SameValue truth truth bit bit v w (λ x y. weaken (λ e. ap truth e) (same_bits x y))
  one_reading a Schema.null v w = as_agree SameValue (λ u. nothing) (λ u. nothing) (λ u. exactly []) (λ u. exactly []) v w (λ x y. weaken (λ e. refl) empty_agree)
  one_reading a Schema.real v w = never_agree
  one_reading a Schema.cut v w = never_agree
  one_reading a Schema.any v w = octets_value a v w
  one_reading a (Schema.text kind) v w = proper_octets a (is_text kind) v w
  one_reading a Schema.identifier v w = proper_octets a is_identifier v w
  one_reading a (Schema.time kind) v w = proper_string a (is_time kind) v w
  one_reading a Schema.date v w = as_agree SameValue (λ x. day x.0 (suc x.1) (suc x.2)) (λ x. day x.0 (suc x.1) (suc x.2)) (IsDay a) (IsDay a) v w (day_agree a)
  one_reading a (Schema.number bounds mark range) v w = as_agree SameValue whole whole (Basic.IsNumberOf a bounds mark range) (Basic.IsNumberOf a bounds mark range) v w
      (λ x y. weaken (λ e. ap whole e) (is_number_of_agree a bounds mark range x y))
  one_reading a (Schema.items r e ext) v w = as_agree SameValue (λ x. Value.item x.0 x.1) (λ x. Value.item x.0 x.1) (λ x. Basic.Item a r e ext x.0 x.1) (λ x. Basic.Item a r e ext x.0 x.1) v w (item_value a r e ext)
  one_reading a (Schema.octet_string size mark) v w = sized_octets_value a size mark v w
  one_reading a (Schema.bit_string size mark named) v w = bits_value a size mark v w
  one_reading a (Schema.char_string alphabet size mark) v w = string_value a alphabet size mark v w
  one_reading a (Schema.containing e) v w =
      open_agree a (Fills a (basic a e v)) (Fills a (basic a e w)) (λ os x y. fills_agree a os (one_reading a e v w) x y)
  one_reading a (Schema.list e size mark) v w = list_value a (λ vs. elements (as_values vs)) (basic a e) size mark (one_reading a e) v w
  one_reading a (Schema.set_of e size mark) v w = list_value a bag_of (basic a e) size mark (one_reading a e) v w
  one_reading a (Schema.sequence o ps ext adds) v w =
      as_agree SameValue (λ x. fields (as_slots x.0) (as_slots x.1)) (λ x. fields (as_slots x.0) (as_slots x.1))
      (λ x. Record a ext (ordered o (tags ps) (rules a ps)) (rules a adds) (ordered o (tags ps) x.0) x.1)
      (λ x. Record a ext (ordered o (tags ps) (rules a ps)) (rules a adds) (ordered o (tags ps) x.0) x.1) v w
      (record_value a o ext ps adds (rules a ps) (rules a adds) (same_kin a ps) (same_kin a adds))
  one_reading a (Schema.choice ps adds ext) v w =
      as_agree SameValue (λ x. alternative x.0 x.1 x.2) (λ x. alternative x.0 x.1 x.2)
      (λ x. Basic.Choice a ext (rules a ps) (rules a adds) x.0 x.1 x.2) (λ x. Basic.Choice a ext (rules a ps) (rules a adds) x.0 x.1 x.2) v w
      (choice_value a ext ps adds (same_kin a ps) (same_kin a adds))

  pub same_kin : (a : Settings) (ps : Parts) → AllKin false (sames ps) (rules a ps) (rules a ps)
  same_kin a no_parts = tt
  same_kin a (part t p s ps) = (record { flags = same_flags p; left_out = same_left_out p; held = λ v' v. weaken some_same (one_reading a s v' v) }, same_kin a ps)
