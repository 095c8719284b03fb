-- Numbers in fields, and choices of spellings, seen from the bits that are left.
use Rattle.std.proofs.Common.{◌≡◌, ◌<◌, ◌≤◌, ◌⊎◌, inl, inr, ℕ, suc, ◌+◌, ◌^◌, Bool, true, false, cond, nat_eq, [], ◌∷◌, ◌++◌, length, refl, sym, ◌∙◌, ap, arith, length-append}
use Rattle.rasn_types.specs.Bits.{Bits, number_of}
use Rattle.rasn_types.proofs.Bits.{number_below}
use Rattle.per_core.specs.Spellings.{Spelling, exactly, Either, When, BitField, bit_offset, Took}

pub either_took : {f g : Spelling} {s t : Bits} → Took (Either f g) s t → Took f s t ⊎ Took g s t
either_took {f} {g} {s} {t} a = go a.spelled
  where
    go : f (bit_offset s) a.front ⊎ g (bit_offset s) a.front → Took f s t ⊎ Took g s t
    go (inl h) = inl (record { front = a.front; joins = a.joins; spelled = h })
    go (inr h) = inr (record { front = a.front; joins = a.joins; spelled = h })

pub when_took : {A : Type 0} {f : Spelling} {s t : Bits} → Took (When A f) s t → A × Took f s t
when_took a = (a.spelled.0, record { front = a.front; joins = a.joins; spelled = a.spelled.1 })

pub exactly_took : {b s t : Bits} → Took (exactly b) s t → s ≡ b ++ t
exactly_took {t = t} a = a.joins ∙ ap (λ z. z ++ t) a.spelled

pub took_exactly : (b t : Bits) → Took (exactly b) (b ++ t) t
took_exactly b t = record { front = b; joins = refl; spelled = refl }

pub field_wide : {w n : ℕ} {s t : Bits} → Took (BitField w n) s t → w ≤ length s
field_wide {t = t} a = omega (arith, a.spelled.wide, ap length a.joins, length-append a.front t)

pub field_below : {w n : ℕ} {s t : Bits} → Took (BitField w n) s t → n < 2 ^ w
field_below {w} {n} a =
    let h = number_below a.front in
    let e : 2 ^ length a.front ≡ 2 ^ w = ap (λ (z : ℕ). 2 ^ z) a.spelled.wide in
    omega (arith, a.spelled.means)

-- the first bit of a field is its highest
pub took_more : {w n : ℕ} {s t : Bits} (b : Bool) → Took (BitField w n) s t → Took (BitField (suc w) (cond b (2 ^ w) 0 + n)) (b ∷ s) t
took_more {w} {n} b a = record {
  front = b ∷ a.front;
  joins = ap (λ z. b ∷ z) a.joins;
  spelled = record {
    wide = omega (arith, a.spelled.wide);
    means = ap (λ (z : ℕ). cond b (2 ^ z) 0 + number_of a.front) a.spelled.wide ∙ ap (λ (z : ℕ). cond b (2 ^ w) 0 + z) a.spelled.means;
  };
}

pub more_took : {w n : ℕ} {s t : Bits} {b : Bool} → Took (BitField (suc w) n) (b ∷ s) t → (k : ℕ) × (n ≡ cond b (2 ^ w) 0 + k) × Took (BitField w k) s t
more_took {w} {n} {s} {t} {b} a = go a.front a.joins a.spelled.wide a.spelled.means
  where
    go : (f : Bits) → b ∷ s ≡ f ++ t → length f ≡ suc w → number_of f ≡ n → (k : ℕ) × (n ≡ cond b (2 ^ w) 0 + k) × Took (BitField w k) s t
    go [] e l m = absurd (omega arith)
    go (x ∷ f) e l m =
        let h : x ≡ b = cc in
        let r : s ≡ f ++ t = cc in
        let k : length f ≡ w = omega arith in (
          number_of f,
          sym m ∙ ap (λ z. cond z (2 ^ length f) 0 + number_of f) h ∙ ap (λ (z : ℕ). cond b (2 ^ z) 0 + number_of f) k,
          record { front = f; joins = r; spelled = record { wide = k; means = refl } },
        )

-- a field of one bit
pub field_one : {n : ℕ} {s t : Bits} → Took (BitField 1 n) s t → s ≡ nat_eq n 1 ∷ t
field_one {n} {s} {t} a = go a.front a.joins a.spelled.wide a.spelled.means
  where
    go : (f : Bits) → s ≡ f ++ t → length f ≡ 1 → number_of f ≡ n → s ≡ nat_eq n 1 ∷ t
    go [] e l m = absurd (omega arith)
    go (x ∷ y ∷ f) e l m = absurd (omega arith)
    go (true ∷ []) e l m = e ∙ ap (λ z. nat_eq z 1 ∷ t) m
    go (false ∷ []) e l m = e ∙ ap (λ z. nat_eq z 1 ∷ t) m
