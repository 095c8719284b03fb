-- The numbers that permitted characters are written as.
use Rattle.std.proofs.Common.{◌≡◌, refl, sym, ap, ap₂, ◌∙◌, subst, ℕ, zero, suc, ◌+◌, ◌*◌, ◌%◌, ◌^◌, ◌<◌, ◌≤◌, ◌⊎◌, max, Bool, true, false, ◌&&◌, ◌||◌, leb, ltb, eqb, nat_eq, List, [], ◌∷◌, length, Option, Some, None, slice_get, IsSome, IfSome, ◌↔◌, arith, pow_mono, mod-eq_of_lt, inl, inr}
use Rattle.std.specs.List.{list_any}
use Rattle.std.proofs.lemmas.Bool.{cases_Bool, ltb-true, lt-leb, eqb-true, eqb-false, eq-eqb, ne_eqb, cond-true, cond-false, or_left, or_right, or_from, and_parts, and_from, both_ways}
use Rattle.rasn_types.specs.Alphabets.{Alphabet, char_width, char_code, keep_own, has, index_of, has_all, more, greatest, restricted_to}
use Rattle.rasn_types.specs.Bits.{width}
use Rattle.rasn_strings.specs.Intervals.{all_within, expand}
use Rattle.rasn_strings.specs.Prepared.{AreOwn, IsPrepared, alphabet_of}
use Rattle.rasn_types.specs.Variants.{Variant, aligned}
use Rattle.rasn_strings.specs.declared.intervals.Interval.{Interval}
use Rattle.rasn_strings.proofs.Ascending.{Up, up-expand, up-restricted, has-restricted}
use Rattle.rasn_types.proofs.Bits.{width_least, wide_enough}
use Rattle.rasn_strings.proofs.IntervalsOf.{index_of_none}

-- ---- the bits of a character

pub few_bits : (n : ℕ) → n ≤ 2 ^ 16 → width n ≤ 16
few_bits n h = width_least n 16 h

pub few_bits_of_bits : (n : ℕ) → n ≤ 2 ^ 16 → width (width n) ≤ 4
few_bits_of_bits n h = width_least (width n) 4 (few_bits n h)

pub few_aligned : (n : ℕ) → n ≤ 4 → 2 ^ n ≤ 16
few_aligned n h = pow_mono {i = n} {j = 4} h

pub width_shifted : (n : ℕ) → n ≤ 4 → 1 * 2 ^ n % 2 ^ 32 ≡ 2 ^ n
width_shifted n h = let s = few_aligned n h in let e : 1 * 2 ^ n ≡ 2 ^ n = omega arith in ap (λ k. k % 2 ^ 32) e ∙ mod-eq_of_lt (omega arith)

pub width_aligned : (alphabet : List ℕ) → 1 < length alphabet → char_width aligned alphabet ≡ 2 ^ width (width (length alphabet))
width_aligned alphabet h = cond-false (leb (length alphabet) 1) 0 _ (lt-leb (length alphabet) 1 h)

-- ---- places

index_below : (ds : List ℕ) (c i : ℕ) → index_of c ds ≡ Some i → (i < length ds) × (c ≤ greatest ds) × (slice_get ds i ≡ Some c) × (has ds c ≡ true)
index_below [] c i e = absurd (cc)
index_below (d ∷ ds) c i e = go (cases_Bool (eqb c d)) (index_of c ds) refl (index_below ds c)
  where
    there : (o : Option ℕ) (i : ℕ) → more o ≡ Some i → ((j : ℕ) → o ≡ Some j → (j < length ds) × (c ≤ greatest ds) × (slice_get ds j ≡ Some c) × (has ds c ≡ true)) → (i < suc (length ds)) × (c ≤ max d (greatest ds)) × (slice_get (d ∷ ds) i ≡ Some c) × ((eqb d c || has ds c) ≡ true)
    there None i e r = absurd (cc)
    there (Some j) zero e r = let u : 1 + j ≡ 0 = cc in absurd (omega arith)
    there (Some j) (suc i) e r = let u : 1 + j ≡ suc i = cc in let v : j ≡ i = omega arith in
        let q = r j refl in let q0 : j < length ds = q.0 in let q1 : c ≤ greatest ds = q.1 in
        (omega arith, omega arith, ap (slice_get ds) (sym v) ∙ q.2, or_right (eqb d c) (has ds c) q.3)

    here : (i : ℕ) → ◌≡◌ {A = Option ℕ} (Some 0) (Some i) → c ≡ d → (i < suc (length ds)) × (c ≤ max d (greatest ds)) × (slice_get (d ∷ ds) i ≡ Some c) × ((eqb d c || has ds c) ≡ true)
    here zero e h = (omega arith, omega arith, ap (λ (n : ℕ). Some n) (sym h), or_left (eqb d c) (has ds c) (eq-eqb d c (sym h)))
    here (suc i) e h = absurd (cc)

    go : (eqb c d ≡ true) ⊎ (eqb c d ≡ false) → (o : Option ℕ) → index_of c ds ≡ o → ((j : ℕ) → index_of c ds ≡ Some j → (j < length ds) × (c ≤ greatest ds) × (slice_get ds j ≡ Some c) × (has ds c ≡ true)) → (i < suc (length ds)) × (c ≤ max d (greatest ds)) × (slice_get (d ∷ ds) i ≡ Some c) × ((eqb d c || has ds c) ≡ true)
    go (inl t) o k r = here i (sym (cond-true (eqb c d) (Some 0) (more (index_of c ds)) t) ∙ e) (eqb-true c d t)
    go (inr f) o k r = there (index_of c ds) i (sym (cond-false (eqb c d) (Some 0) (more (index_of c ds)) f) ∙ e) r

pub index_of_has : (ds : List ℕ) (c : ℕ) → has ds c ≡ true → (i : ℕ) × (index_of c ds ≡ Some i)
index_of_has ds c h = go (index_of c ds) refl
  where
    never : (ds : List ℕ) → index_of c ds ≡ None → has ds c ≡ false
    never [] e = refl
    never (d ∷ ds) e = first (cases_Bool (eqb c d)) (never ds)
      where
        none_more : (o : Option ℕ) → more o ≡ None → o ≡ None
        none_more None e = refl
        none_more (Some k) e = absurd (cc)

        first : (eqb c d ≡ true) ⊎ (eqb c d ≡ false) → (index_of c ds ≡ None → has ds c ≡ false) → (eqb d c || has ds c) ≡ false
        first (inl t) r = absurd (let k : ◌≡◌ {A = Option ℕ} (Some 0) None = sym (cond-true (eqb c d) (Some 0) (more (index_of c ds)) t) ∙ e in cc)
        first (inr f) r = or_from (eqb d c) (has ds c) (ne_eqb d c (λ j. eqb-false c d f (sym j))) (r (none_more (index_of c ds) (sym (cond-false (eqb c d) (Some 0) (more (index_of c ds)) f) ∙ e)))

    go : (o : Option ℕ) → index_of c ds ≡ o → (i : ℕ) × (index_of c ds ≡ Some i)
    go None e = absurd (both_ways (has ds c) (never ds e) h)
    go (Some i) e = (i, e)

-- among ascending numbers each is at one place
pub index_at : (n : ℕ) (ds : List ℕ) (i c : ℕ) → Up n ds → slice_get ds i ≡ Some c → (index_of c ds ≡ Some i) × (n ≤ c)
index_at n [] i c u e = absurd (cc)
index_at n (d ∷ ds) zero c u e = let h : c ≡ d = cc in let l : n ≤ d = u.0 in (cond-true (eqb c d) (Some 0) (more (index_of c ds)) (eq-eqb c d h), omega arith)
index_at n (d ∷ ds) (suc i) c u e = let r = index_at (suc d) ds i c u.1 e in let l : suc d ≤ c = r.1 in let m : n ≤ d = u.0 in
    (cond-false (eqb c d) (Some 0) (more (index_of c ds)) (ne_eqb c d (λ h. omega arith)) ∙ ap more r.0 ∙ ap (λ (k : ℕ). Some k) (omega arith), omega arith)

-- ---- codes

pub code_fits : (v : Variant) (cs : List ℕ) (c : ℕ) → IfSome (char_code v cs c) (λ k. k < 2 ^ char_width v cs)
unfolding char_code
code_fits v cs c = go (cases_Bool (ltb (greatest cs) (2 ^ char_width v cs))) (index_of c cs) refl
  where
    go : (ltb (greatest cs) (2 ^ char_width v cs) ≡ true) ⊎ (ltb (greatest cs) (2 ^ char_width v cs) ≡ false) → (o : Option ℕ) → index_of c cs ≡ o → IfSome (keep_own (ltb (greatest cs) (2 ^ char_width v cs)) c o) (λ k. k < 2 ^ char_width v cs)
    go b None e = tt
    go (inl t) (Some i) e = let q = (index_below cs c i e).1 in let g = ltb-true (greatest cs) (2 ^ char_width v cs) t in
        subst (λ k. k < 2 ^ char_width v cs) (sym (cond-true (ltb (greatest cs) (2 ^ char_width v cs)) c i t)) (omega arith)
    go (inr f) (Some i) e = let q = (index_below cs c i e).0 in let w = wide_enough v cs in
        subst (λ k. k < 2 ^ char_width v cs) (sym (cond-false (ltb (greatest cs) (2 ^ char_width v cs)) c i f)) (omega arith)

-- what codes rest on: the characters ascend, and whether they are written as their own values
pub record Ready (a : Alphabet) (own_values : Bool) : Type 0 where
  pub up : Up 0 a.characters
  pub own : ltb (greatest a.characters) (2 ^ char_width a.variant a.characters) ≡ own_values

pub ready : (own : List Interval) (permitted : Option (List ℕ)) (is_aligned : Bool) (w : ℕ) (own_values : Bool) (run : Interval) (ascending : Bool) (a : Alphabet) → alphabet_of own permitted is_aligned ≡ a → IsPrepared own permitted (alphabet_of own permitted is_aligned) w own_values run ascending → Ready a own_values
ready own permitted is_aligned w own_values run ascending a e p = subst (λ b. Ready b own_values) e (record {
  up = ups permitted;
  own = sym (p.own_values_are ∙ ap (λ n. ltb (greatest (restricted_to (expand own) permitted)) (2 ^ n)) p.width_is);
})
  where
    ups : (o : Option (List ℕ)) → Up 0 (restricted_to (expand own) o)
    ups None = up-expand 0 own p.ascends
    ups (Some some) = up-restricted own some p.ascends

-- where characters aren't written as their own values, a code is a place
pub code_place : (a : Alphabet) (own_values : Bool) → Ready a own_values → own_values ≡ false → (c : ℕ) → char_code a.variant a.characters c ≡ index_of c a.characters
unfolding char_code
code_place a own_values r f c = ap (λ b. keep_own b c (index_of c a.characters)) (r.own ∙ f) ∙ go (index_of c a.characters)
  where
    go : (o : Option ℕ) → keep_own false c o ≡ o
    go None = refl
    go (Some i) = refl

pub code_own : (a : Alphabet) (own_values : Bool) → Ready a own_values → own_values ≡ true → (c : ℕ) → has a.characters c ≡ true → char_code a.variant a.characters c ≡ Some c
unfolding char_code
code_own a own_values r t c h = let q = index_of_has a.characters c h in
    ap (λ b. keep_own b c (index_of c a.characters)) (r.own ∙ t) ∙ ap (keep_own true c) q.1

pub code_none : (a : Alphabet) (c : ℕ) → has a.characters c ≡ false → char_code a.variant a.characters c ≡ None
unfolding char_code
code_none a c h = ap (keep_own _ c) (index_of_none c a.characters h)

-- the character of a place, and of a code that is its own value
pub place_code : (a : Alphabet) (own_values : Bool) → Ready a own_values → own_values ≡ false → (k : ℕ) → IfSome (slice_get a.characters k) (λ c. char_code a.variant a.characters c ≡ Some k)
place_code a own_values r f k = go (slice_get a.characters k) refl
  where
    go : (o : Option ℕ) → slice_get a.characters k ≡ o → IfSome o (λ c. char_code a.variant a.characters c ≡ Some k)
    go None e = tt
    go (Some c) e = code_place a own_values r f c ∙ (index_at 0 a.characters k c r.up e).0

pub place_only : (a : Alphabet) (own_values : Bool) → Ready a own_values → own_values ≡ false → (k c : ℕ) → char_code a.variant a.characters c ≡ Some k → slice_get a.characters k ≡ Some c
place_only a own_values r f k c e = (index_below a.characters c k (sym (code_place a own_values r f c) ∙ e)).2

pub own_only : (a : Alphabet) (own_values : Bool) → Ready a own_values → own_values ≡ true → (k c : ℕ) → char_code a.variant a.characters c ≡ Some k → (has a.characters k ≡ true) × (k ≡ c)
own_only a own_values r t k c e = go (cases_Bool (has a.characters c))
  where
    go : (has a.characters c ≡ true) ⊎ (has a.characters c ≡ false) → (has a.characters k ≡ true) × (k ≡ c)
    go (inl h) = let q : ◌≡◌ {A = Option ℕ} (Some c) (Some k) = sym (code_own a own_values r t c h) ∙ e in let s : k ≡ c = cc in (ap (has a.characters) s ∙ h, s)
    go (inr h) = absurd (let q : ◌≡◌ {A = Option ℕ} None (Some k) = sym (code_none a c h) ∙ e in cc)

-- ---- what is permitted

pub has-list_any : (xs : List ℕ) (c : ℕ) → list_any (λ y. nat_eq y c) xs ≡ has xs c
has-list_any [] c = refl
has-list_any (x ∷ xs) c = ap (λ (b : Bool). eqb x c || b) (has-list_any xs c)

-- of the type's characters those are permitted that the list has
pub permitted_listed : (own : List Interval) (o : Option (List ℕ)) (is_aligned : Bool) (a : Alphabet) → alphabet_of own o is_aligned ≡ a → (some : List ℕ) → o ≡ Some some → (c : ℕ) → has (expand own) c ≡ true → has a.characters c ≡ has some c
permitted_listed own o is_aligned a e some i c h = ap (λ (b : Alphabet). has b.characters c) (sym e)
    ∙ ap (λ (p : Option (List ℕ)). has (restricted_to (expand own) p) c) i
    ∙ has-restricted (expand own) some c
    ∙ ap (λ (b : Bool). b && has some c) h

-- and no others
pub permitted_own : (own : List Interval) (o : Option (List ℕ)) (is_aligned : Bool) (a : Alphabet) → alphabet_of own o is_aligned ≡ a → (c : ℕ) → has (expand own) c ≡ false → has a.characters c ≡ false
permitted_own own o is_aligned a e c h = ap (λ (b : Alphabet). has b.characters c) (sym e) ∙ go o
  where
    go : (p : Option (List ℕ)) → has (restricted_to (expand own) p) c ≡ false
    go None = h
    go (Some some) = has-restricted (expand own) some c ∙ ap (λ (b : Bool). b && has some c) h

pub restricted_own : (own : List ℕ) (o : Option (List ℕ)) (c : ℕ) → has (restricted_to own o) c ≡ true → has own c ≡ true
restricted_own own None c h = h
restricted_own own (Some some) c h = (and_parts (has own c) (has some c) (sym (has-restricted own some c) ∙ h)).0

-- a character is permitted exactly where it has a code
pub code_some : (a : Alphabet) (c : ℕ) → IsSome (char_code a.variant a.characters c) ↔ (has a.characters c ≡ true)
unfolding char_code
code_some a c = go (cases_Bool (has a.characters c))
  where
    kept : (b : Bool) (i : ℕ) (o : Option ℕ) → o ≡ Some i → IsSome (keep_own b c o)
    kept b i o e = subst (λ p. IsSome (keep_own b c p)) (sym e) refl

    left : (b : Bool) (o : Option ℕ) → o ≡ None → IsSome (keep_own b c o) → ⊥
    left b o e h = let k : IsSome (keep_own b c None) = subst (λ p. IsSome (keep_own b c p)) e h in cc

    go : (has a.characters c ≡ true) ⊎ (has a.characters c ≡ false) → IsSome (keep_own (ltb (greatest a.characters) (2 ^ char_width a.variant a.characters)) c (index_of c a.characters)) ↔ (has a.characters c ≡ true)
    go (inl h) = (λ _. h, λ _. let q = index_of_has a.characters c h in kept _ q.0 _ q.1)
    go (inr h) = (λ k. absurd (left _ _ (index_of_none c a.characters h) k), λ k. absurd (both_ways (has a.characters c) h k))

pub place_permitted : (a : Alphabet) (own_values : Bool) → Ready a own_values → own_values ≡ false → (k : ℕ) → IfSome (slice_get a.characters k) (λ c. has a.characters c ≡ true)
place_permitted a own_values r f k = go (slice_get a.characters k) refl
  where
    go : (o : Option ℕ) → slice_get a.characters k ≡ o → IfSome o (λ c. has a.characters c ≡ true)
    go None e = tt
    go (Some c) e = (index_below a.characters c k (index_at 0 a.characters k c r.up e).0).3

-- ---- characters within the interval of permitted ones

own_within : (a : Alphabet) (own_values : Bool) (run : Interval) → Ready a own_values → own_values ≡ true →
    ((c : ℕ) → (leb run.first c && leb c run.last) ≡ true → has a.characters c ≡ true) → (cs : List ℕ) → all_within run cs ≡ true → AreOwn a cs
own_within a own_values run r t p [] h = record { permitted = refl; codes = refl }
own_within a own_values run r t p (c ∷ cs) h =
    let q = and_parts (leb run.first c && leb c run.last) (all_within run cs) h in
    let k = own_within a own_values run r t p cs q.1 in
    let m = p c q.0 in
    record {
      permitted = and_from (has a.characters c) (has_all a.characters cs) m k.permitted;
      codes = ap₂ (λ (o : Option ℕ) os. o ∷ os) (code_own a own_values r t c m) k.codes;
    }

pub own_in_run : (own : List Interval) (permitted : Option (List ℕ)) (is_aligned : Bool) (w : ℕ) (own_values : Bool) (run : Interval) (ascending : Bool) (a : Alphabet) → alphabet_of own permitted is_aligned ≡ a → IsPrepared own permitted (alphabet_of own permitted is_aligned) w own_values run ascending →
    own_values ≡ true → (cs : List ℕ) → all_within run cs ≡ true → AreOwn a cs
own_in_run own permitted is_aligned w own_values run ascending a e p t cs h = own_within a own_values run (ready own permitted is_aligned w own_values run ascending a e p) t
    (λ c k. subst (λ (b : Alphabet). has b.characters c ≡ true) e (p.permitted c k)) cs h
