-- Numbers as bounds have them written, seen from the bits that are left.
use Rattle.std.proofs.Common.{◌≡◌, ◌∙◌, sym, ap, subst, ℕ, ◌+◌, ◌^◌, ◌<◌, ◌≤◌, List, [], length, arith, Some, None, ℤ, pos, negsuc, FitsSigned}
use Rattle.std.specs.Int.{w128}
use Rattle.rasn_constraints.specs.Bounds.{above}
use Rattle.rasn_types.specs.Bits.{Bits, signed}
use Rattle.per_core.specs.Spellings.{Settings, Took}
use Rattle.per_core.specs.Basic.{IsUnconstrainedWhole, IsSemiConstrainedWhole, Octets, constrained_form}
use Rattle.per_core.proofs.LengthForms.{same_octets}
use Rattle.per_core.proofs.TakenInTurn.{took_agree, took_map}
use Rattle.per_read.specs.Numbers.{IsAbove, OfRead}
use Rattle.per_core.specs.NumberFaults.{under_bounds}
use Rattle.per_read.specs.declared.numbers.ReadNumber.{ReadNumber}
use Rattle.per_read.specs.declared.numbers.ReadNumber.TheVariants.{Held, Below, Above}
use Rattle.per_read.proofs.Above.{far_above}
use Rattle.per_read.proofs.Fields.{when_took}

-- a fact of the number that was read, from another
pub of_read : (P Q : ℤ → Type 0) (r : ReadNumber) → ((z : ℤ) → P z → Q z) → OfRead P r → OfRead Q r
of_read P Q (Held z) f h = f z h
of_read P Q Below f h = (h.0, h.1, f (negsuc h.0) h.2)
of_read P Q Above f h = (h.0, h.1, f (pos h.0) h.2)

-- a number between two bounds that are d apart
pub between_took : (a : Settings) (l u z : ℤ) {d : ℕ} {s t : Bits} → d ≡ above l u → Took (under_bounds a (Some l) (Some u) z) s t → Took (constrained_form a (d + 1) (above l z)) s t
between_took a l u z {d} {s} {t} e b = subst (λ (k : ℕ). Took (constrained_form a (k + 1) (above l z)) s t) (sym e) (when_took b).1

pub above_took : (a : Settings) (l u : ℤ) (o : ℕ) {d : ℕ} {s t : Bits} → d ≡ above l u → Took (constrained_form a (d + 1) o) s t → (r : ReadNumber) → OfRead (IsAbove l o) r
    → OfRead (λ z. Took (under_bounds a (Some l) (Some u) z) s t) r
above_took a l u o {d} {s} {t} e b r h = of_read (IsAbove l o) (λ z. Took (under_bounds a (Some l) (Some u) z) s t) r one h
  where
    one : (z : ℤ) → IsAbove l o z → Took (under_bounds a (Some l) (Some u) z) s t
    one z i = took_map (λ p c x. (i.0, x)) (subst (λ (k : ℕ). Took (constrained_form a (k + 1) (above l z)) s t) e (subst (λ (k : ℕ). Took (constrained_form a (d + 1) k) s t) (sym i.1) b))

-- the same of a lower bound alone
pub from_took : (a : Settings) (l : ℤ) (o : ℕ) {s t : Bits} → Took (IsSemiConstrainedWhole a o) s t → (r : ReadNumber) → OfRead (IsAbove l o) r → OfRead (λ z. Took (under_bounds a (Some l) None z) s t) r
from_took a l o {s} {t} b r h = of_read (IsAbove l o) (λ z. Took (under_bounds a (Some l) None z) s t) r one h
  where
    one : (z : ℤ) → IsAbove l o z → Took (under_bounds a (Some l) None z) s t
    one z i = took_map (λ p c x. (i.0, x)) (subst (λ (k : ℕ). Took (IsSemiConstrainedWhole a k) s t) (sym i.1) b)

-- a number that is too far above a lower bound
pub far_from : (a : Settings) (l : ℤ) → FitsSigned w128 l → (s t : Bits) → (n : ℕ) × (2 ^ 128 ≤ n) × Took (IsSemiConstrainedWhole a n) s t
    → (k : ℕ) × (2 ^ 127 ≤ k) × Took (under_bounds a (Some l) None (pos k)) s t
far_from a l f s t (n, h, b) =
    let k = far_above l n f h in
    (k.0, k.1, took_map (λ p c i. (k.2.0, subst (λ (m : ℕ). IsSemiConstrainedWhole a m p c) (sym k.2.1) i)) b)

-- octets as a whole number
module _ (a : Settings) (s : Bits) where
  abbrev pub NoWhole : Type 0
  NoWhole = (z : ℤ) (t : Bits) → Took (IsUnconstrainedWhole a z) s t → ⊥

  octets_of : (z : ℤ) (t : Bits) → Took (IsUnconstrainedWhole a z) s t → (os : List ℕ) × (0 < length os) × Took (Octets a os) s t
  octets_of z t b = let i = b.spelled in (i.octets, i.some, record { front = b.front; joins = b.joins; spelled = i.spelled })

  pub no_length_no_whole : ((os : List ℕ) (t : Bits) → Took (Octets a os) s t → ⊥) → NoWhole
  no_length_no_whole none z t b = let q = octets_of z t b in none q.0 t q.2

  pub no_octets_no_whole : (os : List ℕ) (u : Bits) → Took (Octets a os) s u → os ≡ [] → NoWhole
  no_octets_no_whole os u c e z t b =
      let q = octets_of z t b in
      let i : q.0 ≡ os = (took_agree (same_octets a q.0 os) q.2 c).0 in
      omega (arith, q.1, ap length (i ∙ e))

  pub octets_whole : (os : List ℕ) (t : Bits) → Took (Octets a os) s t → 0 < length os → (r : ReadNumber) → OfRead (λ z. z ≡ signed os) r → OfRead (λ z. Took (IsUnconstrainedWhole a z) s t) r
  octets_whole os t b l r h = of_read (λ z. z ≡ signed os) (λ z. Took (IsUnconstrainedWhole a z) s t) r (λ z e. took_map (λ p c i. record { octets = os; some = l; means = sym e; spelled = i }) b) h
