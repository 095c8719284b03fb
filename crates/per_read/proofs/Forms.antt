-- The forms of constrained whole numbers (X.691 11.5.6, 11.5.7), and counted octets, seen from the bits that are left.
use Rattle.std.proofs.Common.{◌≡◌, ◌<◌, ◌≤◌, ℕ, suc, ◌+◌, ◌*◌, Bool, true, false, eqb, eqb-true, refl, sym, ap, subst, arith, length, le-leb, pow_mono}
use Rattle.std.proofs.lemmas.Bool.{lt-leb}
use Rattle.rasn_types.specs.Bits.{Bits, width}
use Rattle.rasn_types.specs.Variants.{aligned}
use Rattle.rasn_types.proofs.Bits.{width_least}
use Rattle.per_core.specs.Spellings.{Settings, Spelling, Then, AnyPadding, BitField, Took}
use Rattle.per_core.specs.Basic.{InOctets, constrained_by}
use Rattle.per_core.proofs.SpellingsAgree.{field_agree, padding_agree}
use Rattle.per_core.proofs.TakenInTurn.{took_then, then_took, took_map, took_agree}
use Rattle.per_core.specs.NumberFaults.{count_width}
use Rattle.per_read.proofs.Fields.{field_wide, field_below}

-- a number after padding that isn't there
pub no_padded : {a : Settings} {s m : Bits} (w : ℕ) → Took (AnyPadding a) s m → length m < w → (n : ℕ) (t : Bits) → Took (Then (AnyPadding a) (BitField w n)) s t → ⊥
no_padded {a} {s} {m} w p h n t b =
    let q = then_took b in
    let e : length q.0 ≡ length m = ap length (took_agree (padding_agree a) q.1 p).1 in
    omega (arith, field_wide q.2)

-- counted octets
-- there are at most 16
pub few_octets : (w k : ℕ) {s t : Bits} → w ≤ 16 → Took (BitField (width w) k) s t → k < 16
few_octets w k h b =
    let l : width w ≤ 4 = width_least w 4 h in
    omega (arith, field_below b, pow_mono {i = width w} {j = 4} l)

pub no_count : (a : Settings) (n : ℕ) {s : Bits} → length s < count_width n → (o : ℕ) (t : Bits) → Took (InOctets a n o) s t → ⊥
no_count a n h o t b =
    let q = then_took (record { front = b.front; joins = b.joins; spelled = b.spelled.spelled }) in
    omega (arith, field_wide q.1)

module _ (a : Settings) (n : ℕ) {s m : Bits} where
  pub counted : (k o : ℕ) {t : Bits} → Took (BitField (count_width n) k) s m → Took (Then (AnyPadding a) (BitField (8 * (k + 1)) o)) m t → Took (InOctets a n o) s t
  counted k o {t} b c =
      let d : Took (Then (AnyPadding a) (BitField (8 * suc k) o)) m t = subst (λ (w : ℕ). Took (Then (AnyPadding a) (BitField w o)) m t) (omega arith) c in
      took_map (λ p x i. record { more = k; spelled = i }) (took_then b d)

  pub no_counted : (k : ℕ) → Took (BitField (count_width n) k) s m → ((o : ℕ) (t : Bits) → Took (Then (AnyPadding a) (BitField (8 * (k + 1)) o)) m t → ⊥)
      → (o : ℕ) (t : Bits) → Took (InOctets a n o) s t → ⊥
  no_counted k b none o t c =
      let more = c.spelled.more in
      let q = then_took (record { front = c.front; joins = c.joins; spelled = c.spelled.spelled }) in
      let r = took_agree (field_agree (count_width n) more k) q.1 b in
      let e : more ≡ k = r.0 in
      none o t (subst (λ z. Took (Then (AnyPadding a) (BitField (8 * (k + 1)) o)) z t) r.1
      (subst (λ (w : ℕ). Took (Then (AnyPadding a) (BitField w o)) q.0 t) (omega arith) q.2))

-- what the ALIGNED variant writes, by how many numbers there are
pub differs : (m n : ℕ) → (m ≡ n → ⊥) → eqb m n ≡ false
differs m n d = go (eqb m n) refl
  where
    go : (b : Bool) → eqb m n ≡ b → eqb m n ≡ false
    go false e = e
    go true e = absurd (d (eqb-true m n e))

module _ (a : Settings) (n o : ℕ) where
  pub in_bits : n ≤ 255 → constrained_by aligned a n o ≡ BitField (width n) o
  in_bits h = rw (le-leb n 255 h) refl

  pub in_one_octet : n ≡ 256 → constrained_by aligned a n o ≡ Then (AnyPadding a) (BitField 8 o)
  in_one_octet e = ap (λ (k : ℕ). constrained_by aligned a k o) e

  pub in_two_octets : 256 < n → n ≤ 65536 → constrained_by aligned a n o ≡ Then (AnyPadding a) (BitField 16 o)
  in_two_octets g h = rw (lt-leb n 255 (omega arith), differs n 256 (λ e. omega arith), le-leb n 65536 h) refl

  pub in_octets : 65536 < n → constrained_by aligned a n o ≡ InOctets a n o
  in_octets g = rw (lt-leb n 255 (omega arith), differs n 256 (λ e. omega arith), lt-leb n 65536 g) refl

-- what has no spelling of one form has none of an equal one
pub no_form : {f g : ℕ → Spelling} {s : Bits} → ((o : ℕ) → f o ≡ g o) → ((o : ℕ) (t : Bits) → Took (g o) s t → ⊥) → (o : ℕ) (t : Bits) → Took (f o) s t → ⊥
no_form {s = s} e none o t b = none o t (subst (λ h. Took h s t) (e o) b)

pub as_form : {f g : ℕ → Spelling} {s t : Bits} → ((o : ℕ) → f o ≡ g o) → (o : ℕ) → Took (g o) s t → Took (f o) s t
as_form {s = s} {t = t} e o b = subst (λ h. Took h s t) (sym (e o)) b

pub no_field : {w v : ℕ} {s : Bits} → w ≡ v → length s < w → (o : ℕ) (t : Bits) → Took (BitField v o) s t → ⊥
no_field e h o t b = omega (arith, field_wide b)

-- equal widths
pub as_wide : {v w n : ℕ} {s t : Bits} → v ≡ w → Took (BitField v n) s t → Took (BitField w n) s t
as_wide {n = n} {s = s} {t = t} e b = subst (λ (k : ℕ). Took (BitField k n) s t) e b
