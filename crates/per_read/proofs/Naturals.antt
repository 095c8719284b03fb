-- Octets read one by one, highest first, mean what their bits mean without sign (X.691 11.3).
use Rattle.std.proofs.Common.{◌≡◌, ◌∙◌, refl, sym, ap, subst, ℕ, ◌+◌, ◌*◌, ◌^◌, ◌<◌, ◌≤◌, List, [], ◌∷◌, ◌++◌, length, take, drop, get_or, Option, Some, None, arith, append-nil, mod-eq_of_lt, pow_pos}
use Rattle.std.proofs.Math.Nat.{le-mul_of_pos_right}
use Rattle.std.proofs.lemmas.List.{take_more, take-append-drop}
use Rattle.std.specs.Prelude.{MatchOption}
use Rattle.rasn_types.specs.Bits.{Bits, number_of, to_bits, unpack, unsigned}
use Rattle.rasn_types.proofs.Bits.{number-to_bits, unpack-append}
use Rattle.rasn_types.proofs.Reading.{number_of-append}
use Rattle.per_core.specs.Spellings.{Settings, Took}
use Rattle.per_core.specs.Basic.{Octets, IsSemiConstrainedWhole}
use Rattle.per_core.proofs.LengthForms.{same_octets}
use Rattle.per_core.proofs.TakenInTurn.{took_agree, took_map}
use Rattle.per_read.specs.Numbers.{OfNatural}

-- one octet more
pub unsigned_more : (os : List ℕ) (o : ℕ) → o < 256 → unsigned (os ++ o ∷ []) ≡ unsigned os * 256 + o
unsigned_more os o h =
    ap number_of (unpack-append os (o ∷ [])) ∙ number_of-append (unpack os) (unpack (o ∷ []))
    ∙ ap (λ (n : ℕ). unsigned os * 256 + n) (ap number_of (append-nil (to_bits 8 o)) ∙ number-to_bits 8 o ∙ mod-eq_of_lt h)

pub unsigned_so_far : (os : List ℕ) (i : ℕ) → i < length os → get_or os i 0 < 256 → unsigned (take (i + 1) os) ≡ unsigned (take i os) * 256 + get_or os i 0
unsigned_so_far os i l h = ap unsigned (take_more os i 0 l) ∙ unsigned_more (take i os) (get_or os i 0) h

-- octets mean no less than those at their front
unsigned_front : (os qs : List ℕ) → unsigned os ≤ unsigned (os ++ qs)
unsigned_front os qs =
    let e : unsigned (os ++ qs) ≡ unsigned os * 2 ^ length (unpack qs) + unsigned qs = ap number_of (unpack-append os qs) ∙ number_of-append (unpack os) (unpack qs) in
    let m : unsigned os ≤ unsigned os * 2 ^ length (unpack qs) = le-mul_of_pos_right (unsigned os) (pow_pos (length (unpack qs))) in
    omega arith

pub too_great : (os : List ℕ) (i n : ℕ) → i < length os → get_or os i 0 < 256 → n ≡ unsigned (take i os) → 2 ^ 128 ≤ n * 256 → 2 ^ 128 ≤ unsigned os
too_great os i n l h e g =
    let f : unsigned (take (i + 1) os) ≤ unsigned os = subst (λ z. unsigned (take (i + 1) os) ≤ unsigned z) (take-append-drop (i + 1) os) (unsigned_front (take (i + 1) os) (drop (i + 1) os)) in
    let m = unsigned_so_far os i l h in
    omega arith

-- octets as a number
module _ (a : Settings) (s : Bits) where
  abbrev pub NoNatural : Type 0
  NoNatural = (n : ℕ) (t : Bits) → Took (IsSemiConstrainedWhole a n) s t → ⊥

  octets_of : (n : ℕ) (t : Bits) → Took (IsSemiConstrainedWhole a n) s t → (os : List ℕ) × (0 < length os) × (unsigned os ≡ n) × Took (Octets a os) s t
  octets_of n t b = let i = b.spelled in (i.octets, i.some, i.means, record { front = b.front; joins = b.joins; spelled = i.spelled })

  pub no_length_no_natural : ((os : List ℕ) (t : Bits) → Took (Octets a os) s t → ⊥) → NoNatural
  no_length_no_natural none n t b = let q = octets_of n t b in none q.0 t q.3

  pub no_octets_no_natural : (os : List ℕ) (u : Bits) → Took (Octets a os) s u → os ≡ [] → NoNatural
  no_octets_no_natural os u c e n t b =
      let q = octets_of n t b in
      let i : q.0 ≡ os = (took_agree (same_octets a q.0 os) q.3 c).0 in
      omega (arith, q.1, ap length (i ∙ e))

  -- octets that mean a number, and octets whose number was read where a `u128` holds it
  pub octets_natural : (os : List ℕ) (n : ℕ) (t : Bits) → Took (Octets a os) s t → 0 < length os → unsigned os ≡ n → Took (IsSemiConstrainedWhole a n) s t
  octets_natural os n t b some means = took_map (λ p c i. record { octets = os; some = some; means = means; spelled = i }) b

  pub natural_of : (os : List ℕ) (r : Option ℕ) (t : Bits) → Took (Octets a os) s t → 0 < length os → MatchOption r (2 ^ 128 ≤ unsigned os) (λ n. n ≡ unsigned os) → OfNatural (λ n. Took (IsSemiConstrainedWhole a n) s t) r
  natural_of os (Some n) t b some e = octets_natural os n t b some (sym e)
  natural_of os None t b some g = (unsigned os, g, octets_natural os (unsigned os) t b some refl)
