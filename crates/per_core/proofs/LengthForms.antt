-- Counts, fragment_sizes and numbers: what two readings of the same bits have in common.
use Rattle.std.proofs.Common.{◌≡◌, refl, sym, ap, ◌∙◌, subst, ℕ, zero, suc, ◌+◌, ◌-◌, ◌*◌, ◌/◌, ◌^◌, ◌<◌, ◌≤◌, Bool, true, false, cond, ◌&&◌, ◌||◌, leb, ltb, eqb, List, [], ◌∷◌, ◌++◌, length, arith, inl, inr, Option, Some, None, leb-true}
use Rattle.rasn_types.specs.Bits.{Bits, width, number_of}
use Rattle.rasn_types.specs.Variants.{Variant, aligned, unaligned}
use Rattle.rasn_types.proofs.Bits.{number_below}
use Rattle.rasn_constraints.specs.Bounds.{allows, Size, any_size}
use Rattle.per_core.specs.Basic.{OneByOne, InOctets, constrained_form, constrained_by, IsConstrainedWhole, LastCount, Fragment, InFragments, UnconstrainedLength, PaddingIf, length_form, Sized, Counted, octet, Octets}
use Rattle.per_core.specs.Counts.{ItemKind, octet_items, is_aligned}
use Rattle.per_core.specs.Spellings.{Settings, Spelling, exactly, Then, AnyPadding, BitField}
use Rattle.per_core.proofs.SpellingsAgree.{Agree, weaken, then_agree, either_agree, when_agree, exactly_agree, empty_agree, field_agree, padding_agree, no_yes, yes_no, behind, turned}

pub and_left : (a b : Bool) → (a && b) ≡ true → a ≡ true
and_left true b e = refl
and_left false b e = e

pub and_right : (a b : Bool) → (a && b) ≡ true → b ≡ true
and_right true b e = e
and_right false b e = absurd (cc)

pub and_no : (a b : Bool) → b ≡ false → (a && b) ≡ false
and_no true b e = e
and_no false b e = refl

pub or_left : (a b : Bool) → (a || b) ≡ false → a ≡ false
or_left false b e = refl
or_left true b e = e

pub or_right : (a b : Bool) → (a || b) ≡ false → b ≡ false
or_right false b e = e
or_right true b e = absurd (cc)

-- two lists whose members are related
abbrev pub Zip : {X Y : Type 0} → (X → Y → Type 0) → List X → List Y → Type 0
Zip R [] [] = Unit {0}
Zip R (x ∷ xs) (y ∷ ys) = R x y × Zip R xs ys
Zip R _ _ = ⊥

pub Zip-same : {X : Type 0} (xs ys : List X) → Zip (λ x y. x ≡ y) xs ys → xs ≡ ys
Zip-same [] [] z = refl
Zip-same [] (y ∷ ys) z = absurd z
Zip-same (x ∷ xs) [] z = absurd z
Zip-same (x ∷ xs) (y ∷ ys) z = let e : x ≡ y = z.0 in let r : xs ≡ ys = Zip-same xs ys z.1 in cc

pub Zip-append : {X Y : Type 0} (R : X → Y → Type 0) (xs xs' : List X) (ys ys' : List Y) → Zip R xs ys → Zip R xs' ys' → Zip R (xs ++ xs') (ys ++ ys')
Zip-append R [] xs' [] ys' z w = w
Zip-append R [] xs' (y ∷ ys) ys' z w = absurd z
Zip-append R (x ∷ xs) xs' [] ys' z w = absurd z
Zip-append R (x ∷ xs) xs' (y ∷ ys) ys' z w = (z.0, Zip-append R xs xs' ys ys' z.1 w)

module _ {X Y : Type 0} (R : X → Y → Type 0) (f : X → Spelling) (g : Y → Spelling) (each : (x : X) (y : Y) → Agree (R x y) (f x) (g y)) where
  pub row_agree : (xs : List X) (ys : List Y) → length xs ≡ length ys → Agree (Zip R xs ys) (OneByOne f xs) (OneByOne g ys)
  row_agree [] [] l = empty_agree
  row_agree [] (y ∷ ys) l = absurd (omega arith)
  row_agree (x ∷ xs) [] l = absurd (omega arith)
  row_agree (x ∷ xs) (y ∷ ys) l = then_agree (each x y) (λ r. row_agree xs ys (omega arith))

pub in_octets_agree : (a : Settings) (n o o' : ℕ) → Agree (o ≡ o') (InOctets a n o) (InOctets a n o')
in_octets_agree a n o o' = record {
  agree = λ p b c s t x y e.
      let w = then_agree (field_agree (width ((width n + 7) / 8)) x.more y.more) (λ m.
      weaken (λ r. r.1) (then_agree (padding_agree a) (λ u. subst (λ k. Agree (o ≡ o') (BitField (8 * suc x.more) o) (BitField (8 * suc k) o')) m (field_agree (8 * suc x.more) o o')))) in
      let r = w.agree p b c s t x.spelled y.spelled e in (r.0.1, r.1);
}

pub padded_field_agree : (a : Settings) (w n m : ℕ) → Agree (n ≡ m) (Then (AnyPadding a) (BitField w n)) (Then (AnyPadding a) (BitField w m))
padded_field_agree a w n m = weaken (λ r. r.1) (then_agree (padding_agree a) (λ u. field_agree w n m))

-- the same test on both sides
pub cond_agree : {P : Type 0} {f f' g g' : Spelling} (b : Bool) → Agree P f f' → Agree P g g' → Agree P (cond b f g) (cond b f' g')
cond_agree true w v = w
cond_agree false w v = v

pub bounded_form_agree : (a : Settings) (n o o' : ℕ) → Agree (o ≡ o') (constrained_form a n o) (constrained_form a n o')
bounded_form_agree a n o o' = go a.variant
  where
    go : (v : Variant) → Agree (o ≡ o') (constrained_by v a n o) (constrained_by v a n o')
    go unaligned = field_agree (width n) o o'
    go aligned = cond_agree (leb n 255) (field_agree (width n) o o') (cond_agree (eqb n 256) (padded_field_agree a 8 o o')
        (cond_agree (leb n 65536) (padded_field_agree a 16 o o') (in_octets_agree a n o o')))

pub bounded_agree : (a : Settings) (n o o' : ℕ) → Agree (o ≡ o') (IsConstrainedWhole a n o) (IsConstrainedWhole a n o')
bounded_agree a n o o' = record { agree = λ p b c s t x y e. (bounded_form_agree a n o o').agree p b c s t x.spelled y.spelled e }

-- counts in an octet or two
field_two : (n m w : ℕ) → n < 128 → Agree (n ≡ m) (BitField 8 n) (Then (exactly (true ∷ false ∷ [])) (BitField w m))
field_two n m w h = record { agree = λ p b c s t x y e. absurd (go b c s t x.wide x.means y.front y.rest y.is_front y.joins e) }
  where
    go : (b c s t : Bits) → length b ≡ 8 → number_of b ≡ n → (f r : Bits) → f ≡ true ∷ false ∷ [] → c ≡ f ++ r → b ++ s ≡ c ++ t → ⊥
    go [] c s t l v f r e1 e2 e = omega arith
    go (false ∷ b) c s t l v f r e1 e2 e =
        let u : false ∷ (b ++ s) ≡ true ∷ false ∷ (r ++ t) = e ∙ ap (λ z. z ++ t) (e2 ∙ ap (λ z. z ++ r) e1) in cc
    go (true ∷ b) c s t l v f r e1 e2 e = let k : length b ≡ 7 = omega arith in
        let k2 : 2 ^ length b ≡ 128 = ap (λ (z : ℕ). 2 ^ z) k in omega arith

last_agree : (n m : ℕ) → Agree (n ≡ m) (LastCount n) (LastCount m)
last_agree n m = either_agree
    (when_agree (λ h k. field_agree 8 n m))
    (record { agree = λ p b c s t x y e. (field_two n m 14 x.0).agree p b c s t x.1 y e })
    (record { agree = λ p b c s t x y e. (turned (λ e. sym e) (field_two m n 14 y.0)).agree p b c s t x y.1 e })
    (weaken (λ r. r.1) (then_agree (exactly_agree (true ∷ false ∷ []) (true ∷ false ∷ []) refl) (λ e. field_agree 14 n m)))

-- a fragment's count is no last count
two_no_field : {P : Type 0} (n m : ℕ) → 191 < n → Agree P (BitField 8 n) (Then (exactly (true ∷ false ∷ [])) (BitField 14 m))
two_no_field n m h = record { agree = λ p b c s t x y e. absurd (go b c s t x.wide x.means y.front y.rest y.is_front y.joins e) }
  where
    go : (b c s t : Bits) → length b ≡ 8 → number_of b ≡ n → (f r : Bits) → f ≡ true ∷ false ∷ [] → c ≡ f ++ r → b ++ s ≡ c ++ t → ⊥
    go [] c s t l v f r e1 e2 e = omega arith
    go (x ∷ []) c s t l v f r e1 e2 e = omega arith
    go (false ∷ x ∷ b) c s t l v f r e1 e2 e =
        let u : false ∷ x ∷ (b ++ s) ≡ true ∷ false ∷ (r ++ t) = e ∙ ap (λ z. z ++ t) (e2 ∙ ap (λ z. z ++ r) e1) in cc
    go (true ∷ true ∷ b) c s t l v f r e1 e2 e =
        let u : true ∷ true ∷ (b ++ s) ≡ true ∷ false ∷ (r ++ t) = e ∙ ap (λ z. z ++ t) (e2 ∙ ap (λ z. z ++ r) e1) in cc
    go (true ∷ false ∷ b) c s t l v f r e1 e2 e = let k : length b ≡ 6 = omega arith in
        let k1 : 2 ^ length b ≡ 64 = ap (λ (z : ℕ). 2 ^ z) k in
        let k2 : 2 ^ suc (length b) ≡ 128 = ap (λ (z : ℕ). 2 ^ suc z) k in
        let q = number_below b in omega arith

fragment_last : {P : Type 0} (n m : ℕ) → Agree P (Fragment n) (LastCount m)
fragment_last {P} n m = record { agree = λ p b c s t x y e. go p b c s t x y e }
  where
    go : (p : ℕ) (b c s t : Bits) → Fragment n p b → LastCount m p c → b ++ s ≡ c ++ t → P × (b ≡ c)
    go p b c s t x (inl y) e = let r = (field_agree 8 (192 + x.times) m).agree p b c s t x.spelled y.1 e in let h : m < 128 = y.0 in let k : 192 + x.times ≡ m = r.0 in absurd (omega arith)
    go p b c s t x (inr y) e = (two_no_field (192 + x.times) m (omega arith)).agree p b c s t x.spelled y e

fragment_agree : (n m : ℕ) → Agree (n ≡ m) (Fragment n) (Fragment m)
fragment_agree n m = record {
  agree = λ p b c s t x y e.
      let r = (field_agree 8 (192 + x.times) (192 + y.times)).agree p b c s t x.spelled y.spelled e in
      let k : 192 + x.times ≡ 192 + y.times = r.0 in let i : n ≡ 16384 * x.times = x.is in let j : m ≡ 16384 * y.times = y.is in (omega arith, r.1);
}

module _ {X Y : Type 0} (R : X → Y → Type 0) (f : X → Spelling) (g : Y → Spelling) (each : (x : X) (y : Y) → Agree (R x y) (f x) (g y)) where
  last_row_agree : (a : Settings) (xs : List X) (ys : List Y) → Agree (Zip R xs ys) (InFragments a f zero xs) (InFragments a g zero ys)
  last_row_agree a xs ys = weaken (λ r. r.1.1) (then_agree (padding_agree a) (λ u. then_agree (last_agree (length xs) (length ys)) (λ l. row_agree R f g each xs ys l)))

  pub fragments_agree : (a : Settings) (k j : ℕ) (xs : List X) (ys : List Y) → Agree (Zip R xs ys) (InFragments a f k xs) (InFragments a g j ys)
  fragments_agree a zero zero xs ys = last_row_agree a xs ys
  fragments_agree a zero (suc j) xs ys = record {
    agree = λ p b c s t x y e.
        let w : Agree (Unit {0} × (⊥ × ⊥)) (InFragments a f zero xs) (Then (AnyPadding a) (Then (Fragment (length y.these)) (Then (OneByOne g y.these) (InFragments a g j y.others))))
        = then_agree (padding_agree a) (λ u. then_agree (turned (λ (e : ⊥). e) (fragment_last (length y.these) (length xs))) (λ l. absurd l)) in
        let r = w.agree p b c s t x y.spelled e in absurd r.0.1.0;
  }
  fragments_agree a (suc k) zero xs ys = record {
    agree = λ p b c s t x y e.
        let w : Agree (Unit {0} × (⊥ × ⊥)) (Then (AnyPadding a) (Then (Fragment (length x.these)) (Then (OneByOne f x.these) (InFragments a f k x.others)))) (InFragments a g zero ys)
        = then_agree (padding_agree a) (λ u. then_agree (fragment_last (length x.these) (length ys)) (λ l. absurd l)) in
        let r = w.agree p b c s t x.spelled y e in absurd r.0.1.0;
  }
  fragments_agree a (suc k) (suc j) xs ys = record {
    agree = λ p b c s t x y e.
        let w = then_agree (padding_agree a) (λ u. then_agree (fragment_agree (length x.these) (length y.these)) (λ l.
        then_agree (row_agree R f g each x.these y.these l) (λ z. fragments_agree a k j x.others y.others))) in
        let r = w.agree p b c s t x.spelled y.spelled e in
        let z = Zip-append R x.these x.others y.these y.others r.0.1.1.0 r.0.1.1.1 in
        (subst (λ v. Zip R v ys) (sym x.all) (subst (λ v. Zip R (x.these ++ x.others) v) (sym y.all) z), r.1);
  }

  pub unsized_agree : (a : Settings) (xs : List X) (ys : List Y) → Agree (Zip R xs ys) (UnconstrainedLength a f xs) (UnconstrainedLength a g ys)
  unsized_agree a xs ys = record {
    agree = λ p b c s t x y e.
        (fragments_agree a x.fragments y.fragments xs ys).agree p b c s t x.spelled y.spelled e;
  }

  padding_if_agree : (a : Settings) (b : Bool) → Agree (Unit {0}) (PaddingIf b a) (PaddingIf b a)
  padding_if_agree a true = padding_agree a
  padding_if_agree a false = empty_agree

  bounded_row_agree : (a : Settings) (lb ub : ℕ) (kind : ItemKind) (xs : List X) (ys : List Y) → lb ≤ length xs → lb ≤ length ys →
      Agree (Zip R xs ys) (Then (IsConstrainedWhole a (ub - lb + 1) (length xs - lb)) (Then (PaddingIf (ltb 0 (length xs) && is_aligned kind lb ub) a) (OneByOne f xs)))
      (Then (IsConstrainedWhole a (ub - lb + 1) (length ys - lb)) (Then (PaddingIf (ltb 0 (length ys) && is_aligned kind lb ub) a) (OneByOne g ys)))
  bounded_row_agree a lb ub kind xs ys h h' = weaken (λ r. r.1.1) (then_agree (bounded_agree a (ub - lb + 1) (length xs - lb) (length ys - lb)) (λ l.
      let same : length xs ≡ length ys = omega arith in
      then_agree (subst (λ n. Agree (Unit {0}) (PaddingIf (ltb 0 (length xs) && is_aligned kind lb ub) a) (PaddingIf (ltb 0 n && is_aligned kind lb ub) a)) same
      (padding_if_agree a (ltb 0 (length xs) && is_aligned kind lb ub)))
      (λ u. row_agree R f g each xs ys same)))

  pub form_agree : (a : Settings) (l u : Option ℕ) (kind : ItemKind) (xs : List X) (ys : List Y) →
      allows (record { least = l; most = u }) (length xs) ≡ true → allows (record { least = l; most = u }) (length ys) ≡ true →
      Agree (Zip R xs ys) (length_form a l u kind f xs) (length_form a l u kind g ys)
  form_agree a None u kind xs ys h h' = unsized_agree a xs ys
  form_agree a (Some lb) None kind xs ys h h' = unsized_agree a xs ys
  form_agree a (Some lb) (Some ub) kind xs ys h h' =
      cond_agree (ltb ub 65536) (bounded_row_agree a lb ub kind xs ys (least_of (length xs) h) (least_of (length ys) h')) (unsized_agree a xs ys)
    where
      least_of : (n : ℕ) → allows (record { least = Some lb; most = Some ub }) n ≡ true → lb ≤ n
      least_of n e = leb-true lb n (and_left (leb lb n) (leb n ub && ltb n (2 ^ 64)) e)

  pub sized_agree : (a : Settings) (size : Size) (kind : ItemKind) (xs : List X) (ys : List Y) → Agree (Zip R xs ys) (Sized a size kind f xs) (Sized a size kind g ys)
  sized_agree a size kind xs ys = record {
    agree = λ p b c s t x y e.
        (form_agree a size.least size.most kind xs ys x.allowed y.allowed).agree p b c s t x.spelled y.spelled e;
  }

  pub lengthy_agree : (a : Settings) (size : Size) (mark : Bool) (kind : ItemKind) (xs : List X) (ys : List Y) →
      Agree (Zip R xs ys) (Counted a size mark kind f xs) (Counted a size mark kind g ys)
  lengthy_agree a size false kind xs ys = sized_agree a size kind xs ys
  lengthy_agree a size true kind xs ys = either_agree (behind (false ∷ []) (sized_agree a size kind xs ys)) (no_yes _ _) (yes_no _ _) (behind (true ∷ []) (sized_agree a any_size kind xs ys))

pub same_octets : (a : Settings) (os os' : List ℕ) → Agree (os ≡ os') (Octets a os) (Octets a os')
same_octets a os os' = weaken (Zip-same os os') (sized_agree (λ x y. x ≡ y) octet octet (field_agree 8) a any_size octet_items os os')
