-- Lengths, seen from the first of their bits (X.691 11.9.3.6 to 11.9.3.8).
use Rattle.std.proofs.Common.{◌≡◌, ◌<◌, ◌≤◌, ◌⊎◌, inl, inr, ℕ, ◌+◌, ◌*◌, Bool, true, false, [], ◌∷◌, ◌++◌, length, refl, sym, ◌∙◌, ap, subst, arith}
use Rattle.rasn_types.specs.Bits.{Bits}
use Rattle.per_core.specs.Spellings.{Settings, exactly, Then, When, BitField, AnyPadding, Took}
use Rattle.per_core.specs.Basic.{LastCount}
use Rattle.per_core.specs.Basic
use Rattle.per_core.proofs.TakenInTurn.{took_then, then_took, took_agree}
use Rattle.per_core.proofs.SpellingsAgree.{field_agree, padding_agree}
use Rattle.per_core.specs.declared.decode_error.DecodeErrorKind.{DecodeErrorKind}
use Rattle.per_core.specs.declared.decode_error.DecodeErrorKind.TheVariants.{ParserFail}
use Rattle.per_core.specs.declared.decode_error.ParserFailCause.TheVariants.{FragmentCode}
use Rattle.per_core.specs.declared.lengths.Length.{Length}
use Rattle.per_core.specs.declared.lengths.Length.TheVariants.{Last, Fragment}
use Rattle.per_core.specs.BitFieldFaults.{IsOfCount, IsOfBitField, count_field}
use Rattle.per_core.specs.Lengths.{CountOf, LengthOf}
use Rattle.per_read.proofs.Fields.{either_took, when_took, exactly_took, took_exactly, field_wide, field_below, took_more, more_took}

-- what the first bits say of a length
pub data Begins (l : Length) (s t : Bits) : Type 0 where
  short : (n : ℕ) (m : Bits) → s ≡ false ∷ m → l ≡ Last n → Took (BitField 7 n) m t → Begins l s t
  long : (n : ℕ) (m : Bits) → s ≡ true ∷ false ∷ m → l ≡ Last n → Took (BitField 14 n) m t → Begins l s t
  fragment : (k : ℕ) (m : Bits) → s ≡ true ∷ true ∷ m → l ≡ Fragment (16384 * k) → 0 < k → k < 5 → Took (BitField 6 k) m t → Begins l s t

pub short_count : {n : ℕ} {s t : Bits} → Took (BitField 7 n) s t → Took (LastCount n) (false ∷ s) t
short_count {n} {s} {t} a =
    let b : Took (BitField 8 n) (false ∷ s) t = subst (λ z. Took (BitField 8 z) (false ∷ s) t) (omega arith) (took_more false a) in
    record { front = b.front; joins = b.joins; spelled = inl (field_below a, b.spelled) }

pub long_count : {n : ℕ} {s t : Bits} → Took (BitField 14 n) s t → Took (LastCount n) (true ∷ false ∷ s) t
long_count {n} {s} {t} a =
    let b = took_then (took_exactly (true ∷ false ∷ []) s) a in
    record { front = b.front; joins = b.joins; spelled = inr b.spelled }

pub fragment_count : {k : ℕ} {s t : Bits} → 0 < k → k < 5 → Took (BitField 6 k) s t → Took (Basic.Fragment (16384 * k)) (true ∷ true ∷ s) t
fragment_count {k} {s} {t} h i a =
    let b : Took (BitField 8 (192 + k)) (true ∷ true ∷ s) t = subst (λ z. Took (BitField 8 z) (true ∷ true ∷ s) t) (omega arith) (took_more true (took_more true a)) in
    record { front = b.front; joins = b.joins; spelled = record { times = k; some = h; few = i; is = refl; spelled = b.spelled } }

-- the first bits of a field of eight
small_begins : (n : ℕ) (s t : Bits) → n < 128 → Took (BitField 8 n) s t → (m : Bits) × (s ≡ false ∷ m) × Took (BitField 7 n) m t
small_begins n [] t h a = absurd (omega (arith, field_wide a))
small_begins n (true ∷ m) t h a = let r = more_took a in absurd (omega (arith, r.1))
small_begins n (false ∷ m) t h a = let r = more_took a in (m, refl, subst (λ z. Took (BitField 7 z) m t) (omega (arith, r.1)) r.2)

great_begins : (k : ℕ) (s t : Bits) → Took (BitField 8 (192 + k)) s t → (m : Bits) × (s ≡ true ∷ true ∷ m) × Took (BitField 6 k) m t
great_begins k [] t a = absurd (omega (arith, field_wide a))
great_begins k (b ∷ []) t a = absurd (omega (arith, field_wide a))
great_begins k (false ∷ c ∷ m) t a = let r = more_took a in absurd (omega (arith, r.1, field_below r.2))
great_begins k (true ∷ false ∷ m) t a = let r = more_took a in let q = more_took r.2 in absurd (omega (arith, r.1, q.1, field_below q.2))
great_begins k (true ∷ true ∷ m) t a = let r = more_took a in let q = more_took r.2 in (m, refl, subst (λ z. Took (BitField 6 z) m t) (omega (arith, r.1, q.1)) q.2)

pub count_begins : (l : Length) (s t : Bits) → Took (CountOf l) s t → Begins l s t
count_begins (Last n) s t a = go (either_took a)
  where
    go : Took (When (n < 128) (BitField 8 n)) s t ⊎ Took (Then (exactly (true ∷ false ∷ [])) (BitField 14 n)) s t → Begins (Last n) s t
    go (inl b) = let h = when_took b in let r = small_begins n s t h.0 h.1 in short n r.0 r.1 refl r.2
    go (inr b) = let r = then_took b in long n r.0 (exactly_took r.1) refl r.2
count_begins (Fragment n) s t a =
    let f = a.spelled in
    let r = great_begins f.times s t (record { front = a.front; joins = a.joins; spelled = f.spelled }) in
    fragment f.times r.0 r.1 (ap Fragment f.is) f.some f.few r.2

-- no length begins so
pub no_bits : (l : Length) (t : Bits) → Took (CountOf l) [] t → ⊥
no_bits l t a = go (count_begins l [] t a)
  where
    go : Begins l [] t → ⊥
    go (short n m e i f) = cc
    go (long n m e i f) = cc
    go (fragment k m e i h j f) = cc

pub one_bit : (l : Length) (t : Bits) → Took (CountOf l) (true ∷ []) t → ⊥
one_bit l t a = go (count_begins l (true ∷ []) t a)
  where
    go : Begins l (true ∷ []) t → ⊥
    go (short n m e i f) = cc
    go (long n m e i f) = cc
    go (fragment k m e i h j f) = cc

pub short_back : (l : Length) (s t : Bits) → Took (CountOf l) (false ∷ s) t → (n : ℕ) × (l ≡ Last n) × Took (BitField 7 n) s t
short_back l s t a = go (count_begins l (false ∷ s) t a)
  where
    go : Begins l (false ∷ s) t → (n : ℕ) × (l ≡ Last n) × Took (BitField 7 n) s t
    go (short n m e i f) = let h : m ≡ s = cc in (n, i, subst (λ z. Took (BitField 7 n) z t) h f)
    go (long n m e i f) = absurd (cc)
    go (fragment k m e i h j f) = absurd (cc)

pub long_back : (l : Length) (s t : Bits) → Took (CountOf l) (true ∷ false ∷ s) t → (n : ℕ) × (l ≡ Last n) × Took (BitField 14 n) s t
long_back l s t a = go (count_begins l (true ∷ false ∷ s) t a)
  where
    go : Begins l (true ∷ false ∷ s) t → (n : ℕ) × (l ≡ Last n) × Took (BitField 14 n) s t
    go (short n m e i f) = absurd (cc)
    go (long n m e i f) = let h : m ≡ s = cc in (n, i, subst (λ z. Took (BitField 14 n) z t) h f)
    go (fragment k m e i h j f) = absurd (cc)

pub fragment_back : (l : Length) (s t : Bits) → Took (CountOf l) (true ∷ true ∷ s) t → (k : ℕ) × (l ≡ Fragment (16384 * k)) × (0 < k) × (k < 5) × Took (BitField 6 k) s t
fragment_back l s t a = go (count_begins l (true ∷ true ∷ s) t a)
  where
    go : Begins l (true ∷ true ∷ s) t → (k : ℕ) × (l ≡ Fragment (16384 * k)) × (0 < k) × (k < 5) × Took (BitField 6 k) s t
    go (short n m e i f) = absurd (cc)
    go (long n m e i f) = absurd (cc)
    go (fragment k m e i h j f) = let q : m ≡ s = cc in (k, i, h, j, subst (λ z. Took (BitField 6 k) z t) q f)

-- a length is one, and so is what it takes
pub one_count : (l m : Length) (s t u : Bits) → Took (CountOf l) s t → Took (CountOf m) s u → (l ≡ m) × (t ≡ u)
one_count l m s t u a b = go (count_begins l s t a)
  where
    go : Begins l s t → (l ≡ m) × (t ≡ u)
    go (short n r e i f) =
        let q = short_back m r u (subst (λ z. Took (CountOf m) z u) e b) in
        let h = took_agree (field_agree 7 n q.0) f q.2 in
        (i ∙ ap Last h.0 ∙ sym q.1, h.1)
    go (long n r e i f) =
        let q = long_back m r u (subst (λ z. Took (CountOf m) z u) e b) in
        let h = took_agree (field_agree 14 n q.0) f q.2 in
        (i ∙ ap Last h.0 ∙ sym q.1, h.1)
    go (fragment k r e i x y f) =
        let q = fragment_back m r u (subst (λ z. Took (CountOf m) z u) e b) in
        let h = took_agree (field_agree 6 k q.0) f q.4 in
        (i ∙ ap (λ (z : ℕ). Fragment (16384 * z)) h.0 ∙ sym q.1, h.1)

-- what a kind says of a length: of the field after its first bits, or of a fragment's octet
pub of_bits : (front : Bits) {s t : Bits} (k : DecodeErrorKind) → s ≡ front ++ t → IsOfBitField (count_field front) t k → IsOfCount s k
of_bits front {s} {t} k e h = inl (front, (t, record { front = front; joins = e; spelled = refl }, h))

pub miscoded : (n : ℕ) {s m u : Bits} → s ≡ true ∷ true ∷ m → Took (BitField 6 n) m u → (n < 1) ⊎ (4 < n) → IsOfCount s (ParserFail FragmentCode)
miscoded n {s} {m} {u} e b h =
    let c : Took (BitField 8 (192 + n)) (true ∷ true ∷ m) u = subst (λ z. Took (BitField 8 z) (true ∷ true ∷ m) u) (omega arith) (took_more true (took_more true b)) in
    inr (refl, record { times = n; rest = u; other = h; took = subst (λ z. Took (BitField 8 (192 + n)) z u) (sym e) c })

-- why bits begin no length
abbrev pub NoCount : Bits → Type 0
NoCount s = (l : Length) (t : Bits) → Took (CountOf l) s t → ⊥

pub ended_first : (s : Bits) → s ≡ [] → NoCount s
ended_first s e l t a = no_bits l t (subst (λ z. Took (CountOf l) z t) e a)

module _ (s m : Bits) (b : Bool) (e : s ≡ b ∷ m) where
  pub ended_short : b ≡ false → length m < 7 → NoCount s
  ended_short f h l t a =
      let q = short_back l m t (subst (λ z. Took (CountOf l) z t) (e ∙ ap (λ z. z ∷ m) f) a) in omega (arith, field_wide q.2)

  pub ended_second : b ≡ true → m ≡ [] → NoCount s
  ended_second f h l t a = one_bit l t (subst (λ z. Took (CountOf l) z t) (e ∙ ap (λ z. z ∷ m) f ∙ ap (λ z. true ∷ z) h) a)

  module _ (k : Bits) (d : Bool) (i : m ≡ d ∷ k) (f : b ≡ true) where
    both : s ≡ true ∷ d ∷ k
    both = e ∙ ap (λ z. z ∷ m) f ∙ ap (λ z. true ∷ z) i

    pub ended_long : d ≡ false → length k < 14 → NoCount s
    ended_long g h l t a =
        let q = long_back l k t (subst (λ z. Took (CountOf l) z t) (both ∙ ap (λ z. true ∷ z ∷ k) g) a) in omega (arith, field_wide q.2)

    pub ended_fragment : d ≡ true → length k < 6 → NoCount s
    ended_fragment g h l t a =
        let q = fragment_back l k t (subst (λ z. Took (CountOf l) z t) (both ∙ ap (λ z. true ∷ z ∷ k) g) a) in omega (arith, field_wide q.4)

    pub no_fragment : (n : ℕ) (u : Bits) → d ≡ true → Took (BitField 6 n) k u → (n < 1) ⊎ (4 < n) → NoCount s
    no_fragment n u g h x l t a =
        let q = fragment_back l k t (subst (λ z. Took (CountOf l) z t) (both ∙ ap (λ z. true ∷ z ∷ k) g) a) in
        let r = took_agree (field_agree 6 q.0 n) q.4 h in
        go x (omega (arith, q.2, r.0)) (omega (arith, q.3, r.0))
      where
        go : (n < 1) ⊎ (4 < n) → 0 < n → n < 5 → ⊥
        go (inl x) y z = omega arith
        go (inr x) y z = omega arith

    pub counts_long : (n : ℕ) (t : Bits) → d ≡ false → Took (BitField 14 n) k t → Took (LastCount n) s t
    counts_long n t g h = subst (λ z. Took (LastCount n) z t) (sym (both ∙ ap (λ z. true ∷ z ∷ k) g)) (long_count h)

    pub counts_fragment : (n : ℕ) (t : Bits) → d ≡ true → 1 ≤ n → n ≤ 4 → Took (BitField 6 n) k t → Took (Basic.Fragment (16384 * n)) s t
    counts_fragment n t g x y h = subst (λ z. Took (Basic.Fragment (16384 * n)) z t) (sym (both ∙ ap (λ z. true ∷ z ∷ k) g)) (fragment_count (omega arith) (omega arith) h)

  pub counts_short : (n : ℕ) (t : Bits) → b ≡ false → Took (BitField 7 n) m t → Took (LastCount n) s t
  counts_short n t f h = subst (λ z. Took (LastCount n) z t) (sym (e ∙ ap (λ z. z ∷ m) f)) (short_count h)

-- after padding
module _ {a : Settings} {s m : Bits} (p : Took (AnyPadding a) s m) where
  pub unpadded : (l : Length) (t : Bits) → Took (LengthOf a l) s t → Took (CountOf l) m t
  unpadded l t b =
      let q = then_took b in subst (λ z. Took (CountOf l) z t) (took_agree (padding_agree a) q.1 p).1 q.2

  pub no_length : NoCount m → (l : Length) (t : Bits) → Took (LengthOf a l) s t → ⊥
  no_length h l t b = h l t (unpadded l t b)
