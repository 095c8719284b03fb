-- Items as a size has them written, seen from the bits that are left (X.691 11.9).
use Rattle.std.proofs.Common.{◌≡◌, ◌∙◌, ◌<◌, ◌≤◌, ◌⊎◌, inl, inr, ℕ, ◌+◌, ◌-◌, ◌*◌, ◌^◌, ◌&&◌, ltb, leb, eqb, Bool, true, false, cond, List, length, refl, sym, ap, subst, arith, Option, Some, None, le-leb, le-ltb, leb-true, pos, pow_mono}
use Rattle.std.specs.Prelude.{option_map}
use Rattle.std.proofs.lemmas.Bool.{cases_lt, lt-ltb}
use Rattle.rasn_types.specs.Bits.{Bits, width}
use Rattle.rasn_types.specs.Variants.{Variant, aligned, unaligned}
use Rattle.rasn_types.proofs.Bits.{width_least}
use Rattle.rasn_constraints.specs.Bounds.{allows, any_size, at_least, at_most, holds, Size}
use Rattle.per_core.specs.Basic.{OneByOne, UnconstrainedLength, PaddingIf, Sized, InOctets, IsConstrainedWhole, length_form, constrained_by, constrained_form}
use Rattle.per_core.specs.Counts.{ItemKind, is_aligned}
use Rattle.per_core.proofs.ConstrainedLengths.{IsConstrained, IsFree}
use Rattle.per_core.specs.Spellings.{Settings, Spelling, Then, AnyPadding, BitField, Took, NoneIn}
use Rattle.per_core.proofs.SpellingsAgree.{Agree, weaken, when_agree, padding_agree, field_agree}
use Rattle.per_core.proofs.LengthForms.{Zip-same, bounded_form_agree, unsized_agree, and_left, and_right}
use Rattle.per_core.proofs.TakenInTurn.{took_then, then_took, took_map, took_agree, nothing_took}
use Rattle.per_read.specs.Items.{TookItems}
use Rattle.per_read.specs.Takes.{alone}
use Rattle.per_core.specs.Lengths.{CountFrom, Between, under_size}
use Rattle.per_read.proofs.Fields.{when_took, field_below}
use Rattle.per_read.proofs.OneByOne.{items_wide}

-- one of two spellings
pub cond_took : (b : Bool) {f g : Spelling} {s t : Bits} → Took (cond b f g) s t → ((b ≡ true) × Took f s t) ⊎ ((b ≡ false) × Took g s t)
cond_took true c = inl (refl, c)
cond_took false c = inr (refl, c)

-- a code among 65536 numbers is below 65536
module _ (a : Settings) (o : ℕ) {s t : Bits} where
  in_field : (w v : ℕ) → w ≤ v → Took (BitField w o) s t → o < 2 ^ v
  in_field w v l c = omega (arith, field_below c, pow_mono {i = w} {j = v} l)

  in_padded : (w v : ℕ) → w ≤ v → Took (Then (AnyPadding a) (BitField w o)) s t → o < 2 ^ v
  in_padded w v l c = let q = then_took c in omega (arith, field_below q.2, pow_mono {i = w} {j = v} l)

  pub few_codes : (n : ℕ) → n ≤ 65536 → Took (constrained_form a n o) s t → o < 65536
  few_codes n h b = go a.variant b
    where
      narrow : width n ≤ 16
      narrow = width_least n 16 h

      two : ((leb n 65536 ≡ true) × Took (Then (AnyPadding a) (BitField 16 o)) s t) ⊎ ((leb n 65536 ≡ false) × Took (InOctets a n o) s t) → o < 65536
      two (inl c) = in_padded 16 16 (omega arith) c.1
      two (inr c) = let e : true ≡ false = sym (le-leb n 65536 h) ∙ c.0 in absurd (cc)

      one : ((eqb n 256 ≡ true) × Took (Then (AnyPadding a) (BitField 8 o)) s t) ⊎ ((eqb n 256 ≡ false) × Took (cond (leb n 65536) (Then (AnyPadding a) (BitField 16 o)) (InOctets a n o)) s t) → o < 65536
      one (inl c) = in_padded 8 16 (omega arith) c.1
      one (inr c) = two (cond_took (leb n 65536) c.1)

      none : ((leb n 255 ≡ true) × Took (BitField (width n) o) s t)
          ⊎ ((leb n 255 ≡ false) × Took (cond (eqb n 256) (Then (AnyPadding a) (BitField 8 o)) (cond (leb n 65536) (Then (AnyPadding a) (BitField 16 o)) (InOctets a n o))) s t) → o < 65536
      none (inl c) = in_field (width n) 16 narrow c.1
      none (inr c) = one (cond_took (eqb n 256) c.1)

      go : (v : Variant) → Took (constrained_by v a n o) s t → o < 65536
      go unaligned c = in_field (width n) 16 narrow c
      go aligned c = none (cond_took (leb n 255) c)

  pub one_code : Took (constrained_form a 1 o) s t → o ≡ 0
  one_code b = go a.variant b
    where
      in_none : Took (BitField (width 1) o) s t → o ≡ 0
      in_none c = let h : o < 1 = in_field (width 1) 0 (width_least 1 0 (omega arith)) c in omega arith

      go : (v : Variant) → Took (constrained_by v a 1 o) s t → o ≡ 0
      go unaligned c = in_none c
      go aligned c = in_none c

-- among as many numbers
pub recoded : (a : Settings) (o : ℕ) {m n : ℕ} {s t : Bits} → m ≡ n → Took (constrained_form a (m + 1) o) s t → Took (constrained_form a (n + 1) o) s t
recoded a o {s = s} {t} e b = subst (λ (z : ℕ). Took (constrained_form a (z + 1) o) s t) e b

-- so a count under a size is small
pub few_counted : (a : Settings) (lb ub o : ℕ) {s t : Bits} → ub < 65536 → lb < 2 ^ 64 → Took (constrained_form a (ub - lb + 1) o) s t → lb + o < 2 ^ 64
few_counted a lb ub o {s} {t} h l b = go (cases_lt ub lb)
  where
    go : (ub < lb) ⊎ (lb ≤ ub) → lb + o < 2 ^ 64
    go (inl k) =
        let e : ub - lb + 1 ≡ 1 = omega arith in
        let z = one_code a o (subst (λ (n : ℕ). Took (constrained_form a n o) s t) e b) in omega arith
    go (inr k) = let z = few_codes a o (ub - lb + 1) (omega arith) b in omega arith

-- items after a count from lb to ub
padding_once : (a : Settings) (b : Bool) {s t u : Bits} → Took (PaddingIf b a) s t → Took (PaddingIf b a) s u → t ≡ u
padding_once a true c d = (took_agree (padding_agree a) c d).1
padding_once a false c d = sym (nothing_took c) ∙ nothing_took d

-- a count from lb on
pub no_code_from : (a : Settings) (lb ub : ℕ) {s : Bits} → NoneIn (constrained_form a (ub - lb + 1)) s → NoneIn (CountFrom a lb ub) s
no_code_from a lb ub none n t c = none (n - lb) t (when_took c).1

pub count_from : (a : Settings) (lb ub o : ℕ) {s t : Bits} → Took (constrained_form a (ub - lb + 1) o) s t → Took (CountFrom a lb ub (lb + o)) s t
count_from a lb ub o {s} {t} b =
    let e : o ≡ lb + o - lb = omega arith in
    took_map (λ p x y. (omega arith, y)) (subst (λ (z : ℕ). Took (constrained_form a (ub - lb + 1) z) s t) e b)

-- there is one
pub count_agree : (a : Settings) (lb ub n m : ℕ) → Agree (n ≡ m) (CountFrom a lb ub n) (CountFrom a lb ub m)
count_agree a lb ub n m = when_agree (λ h k. weaken (λ e. omega (arith, h, k, e)) (bounded_form_agree a (ub - lb + 1) (n - lb) (m - lb)))

-- the count of what is spelled after it
pub count_between : {X : Type 0} (a : Settings) (lb ub : ℕ) (kind : ItemKind) (item : X → Spelling) (n : ℕ) {s m : Bits} → Took (CountFrom a lb ub n) s m
    → (xs : List X) (u : Bits) → Took (Between a lb ub kind item xs) s u → length xs ≡ n
count_between a lb ub kind item n b xs u c = let r = then_took c in (took_agree (count_agree a lb ub (length xs) n) r.1 b).0

module _ (a : Settings) (lb ub : ℕ) (kind : ItemKind) (w n : ℕ) {s m : Bits} (b : Took (CountFrom a lb ub n) s m) where
  pub between_took : {C : Type 0} {holds : C → C → List ℕ → Type 0} {before after : C} {l t : Bits} {test : Bool} → test ≡ (ltb 0 n && is_aligned kind lb ub) → Took (PaddingIf test a) m l
      → TookItems holds (OneByOne (BitField w)) n before after l t → TookItems holds (Between a lb ub kind (BitField w)) n before after s t
  between_took {l = l} {t = t} i p r = record {
    codes = r.codes;
    count = r.count;
    added = r.added;
    took =
        let c : Took (CountFrom a lb ub (length r.codes)) s m = subst (λ (z : ℕ). Took (CountFrom a lb ub z) s m) (sym r.count) b in
        let q : Took (PaddingIf (ltb 0 (length r.codes) && is_aligned kind lb ub) a) m l = subst (λ z. Took (PaddingIf z a) m l) (i ∙ ap (λ (z : ℕ). ltb 0 z && is_aligned kind lb ub) (sym r.count)) p in
        took_then c (took_then q r.took);
  }

  pub short_between : {l : Bits} {test : Bool} → test ≡ (ltb 0 n && is_aligned kind lb ub) → Took (PaddingIf test a) m l → length l < w * n → NoneIn (Between a lb ub kind (BitField w)) s
  short_between {l} {test} i p k xs u c =
      let r = then_took c in
      let v = then_took r.2 in
      let z = took_agree (count_agree a lb ub (length xs) n) r.1 b in
      let f : length xs ≡ n = z.0 in
      let j : (ltb 0 (length xs) && is_aligned kind lb ub) ≡ test = ap (λ (z : ℕ). ltb 0 z && is_aligned kind lb ub) f ∙ sym i in
      let d : Took (PaddingIf test a) m v.0 = subst (λ z. Took (PaddingIf test a) z v.0) z.1 (subst (λ z. Took (PaddingIf z a) r.0 v.0) j v.1) in
      let g : length v.0 ≡ length l = ap length (padding_once a test d p) in
      let y : w * length xs ≡ w * n = ap (λ (z : ℕ). w * z) f in
      omega (arith, items_wide w xs v.2, g, y, k)

  pub no_padding_between : {test : Bool} → test ≡ (ltb 0 n && is_aligned kind lb ub) → NoneIn (alone (PaddingIf test) a) m → NoneIn (Between a lb ub kind (BitField w)) s
  no_padding_between {test} i none xs u c =
      let r = then_took c in
      let v = then_took r.2 in
      let z = took_agree (count_agree a lb ub (length xs) n) r.1 b in
      let j : (ltb 0 (length xs) && is_aligned kind lb ub) ≡ test = ap (λ (z : ℕ). ltb 0 z && is_aligned kind lb ub) z.0 ∙ sym i in
      none tt v.0 (subst (λ z. Took (PaddingIf test a) z v.0) z.1 (subst (λ z. Took (PaddingIf z a) r.0 v.0) j v.1))

pub no_count_between : {X : Type 0} (a : Settings) (lb ub : ℕ) (kind : ItemKind) (item : X → Spelling) {s : Bits} → NoneIn (CountFrom a lb ub) s → NoneIn (Between a lb ub kind item) s
no_count_between a lb ub kind item none xs u c = let r = then_took c in none (length xs) r.0 r.1

-- what a size allows can be counted
pub countable : (size : Size) (n : ℕ) → allows size n ≡ true → ltb n (2 ^ 64) ≡ true
countable size n h = and_right (at_most size.most n) (ltb n (2 ^ 64)) (and_right (at_least size.least n) (at_most size.most n && ltb n (2 ^ 64)) h)

-- the forms under a size
module _ {X : Type 0} (a : Settings) (kind : ItemKind) (item : X → Spelling) (xs : List X) where
  pub under_between : (lb ub : ℕ) → ub < 65536 → under_size a (Some lb) (Some ub) kind item xs ≡ Between a lb ub kind item xs
  under_between lb ub h = ap (λ z. cond z (Between a lb ub kind item xs) (Sized a any_size kind item xs)) (lt-ltb ub 65536 h)

  pub under_unsized : (lb ub : ℕ) → 65536 ≤ ub → under_size a (Some lb) (Some ub) kind item xs ≡ Sized a any_size kind item xs
  under_unsized lb ub h = ap (λ z. cond z (Between a lb ub kind item xs) (Sized a any_size kind item xs)) (le-ltb ub 65536 h)

  -- and by whether both bounds are there and the upper one is below 65536
  pub under_free : (l u : Option ℕ) → IsFree l u → under_size a l u kind item xs ≡ Sized a any_size kind item xs
  under_free None u h = refl
  under_free (Some lb) None h = refl
  under_free (Some lb) (Some ub) h = under_unsized lb ub h

  pub under_constrained : {l u : Option ℕ} {lb ub : ℕ} → IsConstrained l u lb ub → under_size a l u kind item xs ≡ Between a lb ub kind item xs
  under_constrained {l} {u} {lb} {ub} h = rw (h.lower, h.upper) (under_between lb ub h.few)

  abbrev bounded_items : ℕ → ℕ → Spelling
  bounded_items lb ub = Then (IsConstrainedWhole a (ub - lb + 1) (length xs - lb)) (Then (PaddingIf (ltb 0 (length xs) && is_aligned kind lb ub) a) (OneByOne item xs))

  to_bounded : (lb ub : ℕ) (p : ℕ) (b : Bits) → allows (record { least = Some lb; most = Some ub }) (length xs) ≡ true → Between a lb ub kind item xs p b
      → bounded_items lb ub p b
  to_bounded lb ub p b h x =
      let l : lb ≤ length xs = x.is_front.0 in
      let u : length xs ≤ ub = leb-true (length xs) ub (and_left (leb (length xs) ub) (ltb (length xs) (2 ^ 64)) (and_right (leb lb (length xs)) (leb (length xs) ub && ltb (length xs) (2 ^ 64)) h)) in
      record { front = x.front; rest = x.rest; is_front = record { below = omega arith; spelled = x.is_front.1 }; is_rest = x.is_rest; joins = x.joins }

  from_bounded : (lb ub : ℕ) (p : ℕ) (b : Bits) → allows (record { least = Some lb; most = Some ub }) (length xs) ≡ true
      → bounded_items lb ub p b → Between a lb ub kind item xs p b
  from_bounded lb ub p b h y = record {
    front = y.front;
    rest = y.rest;
    is_front = (leb-true lb (length xs) (and_left (leb lb (length xs)) (leb (length xs) ub && ltb (length xs) (2 ^ 64)) h), y.is_front.spelled);
    is_rest = y.is_rest;
    joins = y.joins;
  }

  if_map : (c : Bool) (f g h k : Spelling) (p : ℕ) (b : Bits) → (f p b → g p b) → (h p b → k p b) → cond c f h p b → cond c g k p b
  if_map true f g h k p b i j x = i x
  if_map false f g h k p b i j x = j x

  pub sized_of : (size : Size) {s t : Bits} → allows size (length xs) ≡ true → Took (under_size a size.least size.most kind item xs) s t → Took (Sized a size kind item xs) s t
  sized_of size h b = took_map (λ p c x. record { allowed = h; spelled = go size.least size.most h p c x }) b
    where
      go : (l u : Option ℕ) → allows (record { least = l; most = u }) (length xs) ≡ true → (p : ℕ) (c : Bits) → under_size a l u kind item xs p c → length_form a l u kind item xs p c
      go None u h p c x = x.spelled
      go (Some l) None h p c x = x.spelled
      go (Some l) (Some u) h p c x = if_map (ltb u 65536) (Between a l u kind item xs) (bounded_items l u) (Sized a any_size kind item xs) (UnconstrainedLength a item xs) p c (to_bounded l u p c h) (λ y. y.spelled) x

  pub of_sized : (size : Size) {s t : Bits} → Took (Sized a size kind item xs) s t → Took (under_size a size.least size.most kind item xs) s t
  of_sized size b = took_map (λ p c x. go size.least size.most x.allowed p c x.spelled) b
    where
      go : (l u : Option ℕ) → allows (record { least = l; most = u }) (length xs) ≡ true → (p : ℕ) (c : Bits) → length_form a l u kind item xs p c → under_size a l u kind item xs p c
      go None u h p c x = record { allowed = countable (record { least = None; most = u }) (length xs) h; spelled = x }
      go (Some l) None h p c x = record { allowed = countable (record { least = Some l; most = None }) (length xs) h; spelled = x }
      go (Some l) (Some u) h p c x =
          if_map (ltb u 65536) (bounded_items l u) (Between a l u kind item xs) (UnconstrainedLength a item xs) (Sized a any_size kind item xs) p c (from_bounded l u p c h)
          (λ y. record { allowed = countable (record { least = Some l; most = Some u }) (length xs) h; spelled = y }) x

-- there is one count under a size
pub one_size : (a : Settings) (l u : Option ℕ) (kind : ItemKind) (w : ℕ) (xs ys : List ℕ) (s t v : Bits) → Took (under_size a l u kind (BitField w) xs) s t → Took (under_size a l u kind (BitField w) ys) s v → length xs ≡ length ys
one_size a l u kind w xs ys s t v b c = go l u b c
  where
    plain : Took (Sized a any_size kind (BitField w) xs) s t → Took (Sized a any_size kind (BitField w) ys) s v → length xs ≡ length ys
    plain b c =
        ap length (Zip-same xs ys (took_agree (unsized_agree (λ x y. x ≡ y) (BitField w) (BitField w) (field_agree w) a xs ys) (took_map (λ p d x. x.spelled) b) (took_map (λ p d x. x.spelled) c)).0)

    both : (lb ub : ℕ) (z : Bool) → Took (cond z (Between a lb ub kind (BitField w) xs) (Sized a any_size kind (BitField w) xs)) s t → Took (cond z (Between a lb ub kind (BitField w) ys) (Sized a any_size kind (BitField w) ys)) s v → length xs ≡ length ys
    both lb ub true b c = let r = then_took c in count_between a lb ub kind (BitField w) (length ys) r.1 xs t b
    both lb ub false b c = plain b c

    go : (l u : Option ℕ) → Took (under_size a l u kind (BitField w) xs) s t → Took (under_size a l u kind (BitField w) ys) s v → length xs ≡ length ys
    go None u b c = plain b c
    go (Some l) None b c = plain b c
    go (Some l) (Some u) b c = both l u (ltb u 65536) b c

-- whether bounds hold a count, and whether a size allows it
pub counts_held : (l u : Option ℕ) (n : ℕ) → n < 2 ^ 64 → holds (record { low = option_map pos l; high = option_map pos u }) (pos n) ≡ allows (record { least = l; most = u }) n
counts_held l u n h = short l u
  where
    e : ltb n (2 ^ 64) ≡ true
    e = lt-ltb n (2 ^ 64) h

    always : (b : Bool) → b ≡ (b && ltb n (2 ^ 64))
    always true = sym e
    always false = refl

    short : (l u : Option ℕ) → holds (record { low = option_map pos l; high = option_map pos u }) (pos n) ≡ allows (record { least = l; most = u }) n
    short None None = sym e
    short None (Some u) = always (leb n u)
    short (Some l) None = ap (λ z. leb l n && z) (sym e)
    short (Some l) (Some u) = ap (λ z. leb l n && z) (always (leb n u))

-- items in equal forms
pub as_form : {C : Type 0} {holds : C → C → List ℕ → Type 0} {f h : List ℕ → Spelling} {n : ℕ} {before after : C} {s t : Bits} → ((xs : List ℕ) → f xs ≡ h xs) → TookItems holds h n before after s t → TookItems holds f n before after s t
as_form {s = s} {t} e b = record { codes = b.codes; count = b.count; added = b.added; took = subst (λ z. Took z s t) (sym (e b.codes)) b.took }

pub none_as : {X : Type 0} {f h : X → Spelling} {s : Bits} → ((x : X) → f x ≡ h x) → NoneIn h s → NoneIn f s
none_as {s = s} e none x t b = none x t (subst (λ z. Took z s t) (e x) b)
