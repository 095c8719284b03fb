-- Numbers without bounds (X.691 11.8, 13).
use Rattle.std.proofs.Common.{◌≡◌, ◌<◌, ℕ, true, false, List, [], length, refl, sym, ◌∙◌, ap, subst, arith, ℤ}
use Rattle.rasn_types.specs.Bits.{Bits, signed}
use Rattle.rasn_constraints.specs.Bounds.{Bounds, unbounded, holds}
use Rattle.per_core.specs.Spellings.{Settings, Took}
use Rattle.per_core.specs.Basic.{Octets, IsNumberOf}
use Rattle.per_core.specs.NumberFaults.{IsUnheld}
use Rattle.per_core.proofs.LengthForms.{same_octets}
use Rattle.per_core.proofs.TakenInTurn.{took_agree, took_map}

-- the octets of a number
pub record NumberOctets (a : Settings) (range : Bounds) (z : ℤ) (s t : Bits) : Type 0 where
  pub octets : List ℕ
  pub some : 0 < length octets
  pub means : signed octets ≡ z
  pub in_range : holds range z ≡ true
  pub took : Took (Octets a octets) s t

pub number_octets : (a : Settings) (range : Bounds) (z : ℤ) (s t : Bits) → Took (IsNumberOf a unbounded false range z) s t → NumberOctets a range z s t
number_octets a range z s t h =
    let w = h.spelled.spelled.spelled in
    record { octets = w.octets; some = w.some; means = w.means; in_range = h.spelled.in_range; took = record { front = h.front; joins = h.joins; spelled = w.spelled } }

pub octets_number : (a : Settings) (range : Bounds) (z : ℤ) (os : List ℕ) (s t : Bits) → Took (Octets a os) s t → 0 < length os → signed os ≡ z → holds range z ≡ true
    → Took (IsNumberOf a unbounded false range z) s t
octets_number a range z os s t h some means fits = took_map
    (λ p b i. record { in_range = fits; spelled = record { within = refl; spelled = record { octets = os; some = some; means = means; spelled = i } } }) h

-- octets of a number that is none of a range
pub unheld_octets : (a : Settings) (range : Bounds) (os : List ℕ) {s t : Bits} → Took (Octets a os) s t → 0 < length os → (Took (IsNumberOf a unbounded false range (signed os)) s t → ⊥)
    → IsUnheld a unbounded false range s
unheld_octets a range os {t = t} h some none = record {
  number = signed os;
  rest = t;
  took = took_map (λ p b i. (refl, record { octets = os; some = some; means = refl; spelled = i })) h;
  none = none;
}

pub none_there : (a : Settings) (s : Bits) (os : List ℕ) (u : Bits) → Took (Octets a os) s u → os ≡ [] → Took (Octets a []) s u
none_there a s os u b e = subst (λ z. Took (Octets a z) s u) e b

module _ (a : Settings) (range : Bounds) (s : Bits) where
  abbrev pub NoNumber : Type 0
  NoNumber = (z : ℤ) (t : Bits) → Took (IsNumberOf a unbounded false range z) s t → ⊥

  pub no_length_no_number : ((os : List ℕ) (t : Bits) → Took (Octets a os) s t → ⊥) → NoNumber
  no_length_no_number none z t h = let q = number_octets a range z s t h in none q.octets t q.took

  pub no_octets_no_number : (os : List ℕ) (u : Bits) → Took (Octets a os) s u → os ≡ [] → NoNumber
  no_octets_no_number os u b e z t h =
      let q = number_octets a range z s t h in
      let i : q.octets ≡ os = (took_agree (same_octets a q.octets os) q.took b).0 in
      omega (arith, q.some, ap length (i ∙ e))

  pub out_of_range_no_number : (os : List ℕ) (u : Bits) → Took (Octets a os) s u → holds range (signed os) ≡ false → NoNumber
  out_of_range_no_number os u b e z t h =
      let q = number_octets a range z s t h in
      let i : q.octets ≡ os = (took_agree (same_octets a q.octets os) q.took b).0 in
      let j : true ≡ false = sym q.in_range ∙ ap (λ x. holds range x) (sym q.means ∙ ap signed i) ∙ e in cc
