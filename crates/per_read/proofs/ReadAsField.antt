-- Numbers in few octets, which are read as one field (X.691 11.3, 11.4).
use Rattle.std.proofs.Common.{◌≡◌, ◌∙◌, ◌<◌, ◌≤◌, ◌*◌, ◌-◌, ◌^◌, sym, ap, subst, arith, pow_mono, pow-suc, to_z, of_z, ◌-ℤ◌, ◌%◌, ℕ, suc, Bool, true, false, inl, List, [], ◌∷◌, ◌++◌, length, take, drop, length-take, length-drop, length-append, append_assoc, ◌+◌, ◌/◌, ◌⊎◌, refl, inr, Option, pos, negsuc}
use Rattle.std.specs.Int.{w64, w128}
use Rattle.std.proofs.lemmas.Int.{ints, to_z-of_z, to_z_pos}
use Rattle.std.specs.Prelude.{Result, Ok, Err, IsErrAnd}
use Rattle.std.proofs.lemmas.Bool.{cases_lt, lt-ltb}
use Rattle.std.proofs.lemmas.List.{take-append-drop}
use Rattle.std.proofs.lemmas.Nat.{field_of, mod_low, shl-shr, shr_split, shr-shr}
use Rattle.std.proofs.Math.Nat.{div-eq_of_lt}
use Rattle.std.proofs.Common.{mod-lt, pow_pos}
use Rattle.rasn_types.specs.Bits.{Bits, number_of, unpack, pack, signed, signed_bits}
use Rattle.rasn_types.proofs.Bits.{length-unpack, number_below}
use Rattle.rasn_types.proofs.Octets.{length-pack, unpack-pack}
use Rattle.rasn_types.proofs.Reading.{number_of-append}
use Rattle.rasn_constraints.specs.Bounds.{allows, any_size}
use Rattle.per_core.specs.Basic.{LastCount, Octets, OneByOne, octet}
use Rattle.per_core.specs.Counts.{octet_items}
use Rattle.per_core.specs.Spellings.{AnyPadding, Settings, BitField, ZeroIf, bit_offset, Took, NoneIn}
use Rattle.per_core.specs.Writers.{pad}
use Rattle.per_core.proofs.TakenInTurn.{took_map, took_then, then_took}
use Rattle.per_read.specs.OctetFields.{AreOctetsOf, AtOnce, TookOctetField, TakesOctetField}
use Rattle.per_core.specs.BitFieldFaults.{IsOfUnconstrained}
use Rattle.per_core.specs.Lengths.{LengthOf, count_of}
use Rattle.per_read.specs.ReaderState.{ReaderState, settings_of}
use Rattle.per_core.specs.declared.decode_error.DecodeErrorKind.{DecodeErrorKind}
use Rattle.per_read.specs.declared.octet_fields.OctetField.{OctetField}
use Rattle.per_core.specs.declared.lengths.Length.{Length}
use Rattle.per_core.specs.declared.lengths.Length.TheVariants.{Last}
use Rattle.per_read.proofs.OneByOne.{items_wide, octets_one_by_one, took_within}
use Rattle.per_read.proofs.FirstWords.{BeginsAs, front_number, short_last}
use Rattle.per_read.proofs.FragmentItems.{items_begin, last_part, no_items_length, no_items_short}

-- ---- what is read

-- the octets of a field, which other bits follow
octets_of_field : (c : ℕ) {n : ℕ} {s t : Bits} (b : Took (BitField (8 * c) n) s t) → Took (OneByOne (BitField 8) (pack c b.front)) s t
octets_of_field c b = took_within 8 (pack c b.front) (octets_one_by_one c b.front b.spelled.wide) b.joins

pub few_took : {a : Settings} {l : Length} (c n : ℕ) {s m t : Bits} → Took (LengthOf a l) s m → l ≡ Last c → 0 < c → c ≤ 16 → Took (BitField (8 * c) n) m t
    → TookOctetField a (record { number = n; count = c }) s t
few_took {a} c n {s} {m} {t} b e some few d = record {
  octets = pack c d.front;
  are = record {
    count = length-pack c d.front;
    some = some;
    few = few;
    means = ap number_of (unpack-pack c d.front d.spelled.wide) ∙ d.spelled.means;
  };
  took =
      let last : Took (LengthOf a (Last c)) s m = subst (λ z. Took (LengthOf a z) s m) e b in
      let allowed : allows any_size (length (pack c d.front)) ≡ true = lt-ltb (length (pack c d.front)) (2 ^ 64) (omega (arith, length-pack c d.front)) in
      took_map (λ p x y. record { allowed = allowed; spelled = y }) (last_part (BitField 8) last (length-pack c d.front) (octets_of_field c d));
}

-- padding of no bits
pub no_padding_there : {a : Settings} {s : Bits} → pad a.variant (bit_offset s) ≡ 0 → Took (AnyPadding a) s s
no_padding_there {a} {s} h = record { front = []; joins = refl; spelled = record { fits = sym h; zeros = none a.strict } }
  where
    none : (strict : Bool) → ZeroIf strict []
    none true = refl
    none false = tt

-- the octets behind the length in a word
octets_number : (w c n : ℕ) → 0 < c → c ≤ 6 → n ≡ w * 2 ^ 8 % 2 ^ 64 / 2 ^ (64 - 8 * c) → n ≡ w / 2 ^ (56 - 8 * c) % 2 ^ (8 * c)
octets_number w c n some few e = e ∙ ap (λ (k : ℕ). w * 2 ^ 8 % 2 ^ k / 2 ^ (64 - 8 * c)) (let i : 64 ≡ 8 * c + (64 - 8 * c) = omega arith in i) ∙ field_of (w * 2 ^ 8) (8 * c) (64 - 8 * c)
    ∙ ap (λ (m : ℕ). m % 2 ^ (8 * c)) (ap (λ (k : ℕ). w * 2 ^ 8 / 2 ^ k) (let i : 64 - 8 * c ≡ 8 + (56 - 8 * c) = omega arith in i) ∙ sym (shr-shr (w * 2 ^ 8) 8 (56 - 8 * c)) ∙ ap (λ (m : ℕ). m / 2 ^ (56 - 8 * c)) (shl-shr w 8))

-- a word of the length c, as many octets, and what is after them
pub at_once : {a : Settings} (w c n : ℕ) {s t : Bits} (f : Bits) → BeginsAs w s → c ≤ 6 → s ≡ f ++ t → length f ≡ 8 + 8 * c
    → pad a.variant (bit_offset s) ≡ 0 → c ≡ w / 2 ^ 56 → 0 < c → n ≡ w * 2 ^ 8 % 2 ^ 64 / 2 ^ (64 - 8 * c) → TookOctetField a (record { number = n; count = c }) s t
at_once {a} w c n {s} {t} f is few joins wide unpadded e some i =
    few_took c n (took_then (no_padding_there {a = a} {s = s} unpadded) counted) refl some (omega arith) (record { front = octets; joins = refl; spelled = record { wide = octets_wide; means = number_is } })
  where
    first : Bits
    first = take 8 f

    octets : Bits
    octets = drop 8 f

    octets_wide : length octets ≡ 8 * c
    octets_wide = length-drop 8 f ∙ omega arith

    parts : s ≡ first ++ (octets ++ t)
    parts = joins ∙ ap (λ z. z ++ t) (sym (take-append-drop 8 f)) ∙ append_assoc first octets t

    counted : Took (LastCount c) s (octets ++ t)
    counted = subst (λ (k : ℕ). Took (LastCount k) s (octets ++ t)) (sym e) (short_last first (octets ++ t) is parts (length-take 8 f ∙ omega arith) (omega (arith, e)))

    number_is : number_of octets ≡ n
    number_is =
        let whole : number_of f ≡ number_of first * 2 ^ (8 * c) + number_of octets = ap number_of (sym (take-append-drop 8 f)) ∙ number_of-append first octets ∙ ap (λ (k : ℕ). number_of first * 2 ^ k + number_of octets) octets_wide in
        let below : number_of octets < 2 ^ (8 * c) = subst (λ (k : ℕ). number_of octets < 2 ^ k) octets_wide (number_below octets) in
        sym (mod_low (number_of first) (8 * c) (number_of octets) below) ∙ ap (λ (m : ℕ). m % 2 ^ (8 * c)) (sym whole ∙ front_number f t is joins (8 + 8 * c) wide (omega arith) ∙ ap (λ (k : ℕ). w / 2 ^ k) (let l : 64 - (8 + 8 * c) ≡ 56 - 8 * c = omega arith in l))
        ∙ sym (octets_number w c n some few i)

-- the same, where their count is said by the word
pub taken_at_once : {a : Settings} (w c n : ℕ) {s t : Bits} (f : Bits) → BeginsAs w s → c ≡ w / 2 ^ 56 → 0 < w / 2 ^ 56 → w / 2 ^ 56 ≤ 6 → s ≡ f ++ t → length f ≡ 8 + 8 * (w / 2 ^ 56)
    → pad a.variant (bit_offset s) ≡ 0 → n ≡ w * 2 ^ 8 % 2 ^ 64 / 2 ^ (64 - 8 * (w / 2 ^ 56)) → TookOctetField a (record { number = n; count = c }) s t
taken_at_once w c n f is e some few joins wide unpadded i = at_once w c n f is (omega (arith, e, few)) joins (wide ∙ ap (λ (k : ℕ). 8 + 8 * k) (sym e)) unpadded e (omega (arith, e, some))
    (i ∙ ap (λ (k : ℕ). w * 2 ^ 8 % 2 ^ 64 / 2 ^ (64 - 8 * k)) (sym e))

-- octets that are there so
module _ {a : Settings} {os : List ℕ} {s t : Bits} (b : Took (AtOnce a os) s t) where
  once_parts : (m : Bits) × Took (BitField 8 (length os)) s m × Took (OneByOne octet os) m t
  once_parts = then_took (record { front = b.front; joins = b.joins; spelled = b.spelled.spelled })

  pub once_wide : 8 + 8 * length os ≤ length s
  once_wide = let q = once_parts in omega (arith, items_wide 8 os q.2, q.1.spelled.wide, ap length q.1.joins, length-append q.1.front q.0)

  -- their count is the first octet
  pub once_counted : {w : ℕ} → BeginsAs w s → w / 2 ^ 56 ≡ length os
  once_counted h = let c = once_parts.1 in sym (front_number c.front once_parts.0 h c.joins 8 c.spelled.wide (omega arith)) ∙ c.spelled.means

module _ (a : Settings) (s : Bits) where
  -- nothing is there where there is no length, or where its octets end early
  pub few_no_length : NoneIn (LengthOf a) s → NoneIn (Octets a) s
  few_no_length none = no_items_length (items_begin (λ x y zs. Unit {0}) a 8 s (tt {0})) octet_items none

  pub few_short : {l : Length} (c : ℕ) {m : Bits} → Took (LengthOf a l) s m → l ≡ Last c → length m < 8 * c → NoneIn (Octets a) s
  few_short {l} c {m} b e h = no_items_short (items_begin (λ x y zs. Unit {0}) a 8 s (tt {0})) octet_items l m b
      (λ few. subst (λ (n : ℕ). length m < 8 * n) (sym (ap count_of e)) h)

pub few_refused : {x y : ReaderState} (r : Result (Option OctetField) DecodeErrorKind) (k : DecodeErrorKind) → IsErrAnd r (λ e. e ≡ k) → y.options ≡ x.options
    → IsOfUnconstrained (settings_of x) 8 x.bits k × NoneIn (Octets (settings_of x)) x.bits → TakesOctetField x r y
few_refused (Ok v) k h e i = absurd h
few_refused {x} (Err f) k h e i = record { ok = tt; err = subst (λ z. IsOfUnconstrained (settings_of x) 8 x.bits z × NoneIn (Octets (settings_of x)) x.bits) (sym h) i; kept = e }

-- a call where nothing was taken before
pub few_after : {x m y : ReaderState} {r : Result (Option OctetField) DecodeErrorKind} → m.bits ≡ x.bits → m.options ≡ x.options → TakesOctetField m r y → TakesOctetField x r y
few_after {x} {m} {y} {r} e f h = subst (λ z. TakesOctetField z r y) same h
  where
    same : m ≡ x
    same = ap (λ b. record { bits = b; options = m.options }) e ∙ ap (λ o. record { bits = x.bits; options = o }) f

-- ---- what it means in two's complement

pub few_below : {f : OctetField} {os : List ℕ} → AreOctetsOf os f → f.number < 2 ^ (8 * f.count)
few_below {f} {os} h =
    let l : length (unpack os) ≡ 8 * f.count = length-unpack os ∙ ap (λ (n : ℕ). 8 * n) h.count in
    subst (λ (n : ℕ). f.number < 2 ^ n) l (omega (arith, h.means, number_below (unpack os)))

abbrev pub AreSigned : ℕ → ℕ → Bits → Type 0
AreSigned w n bs = (length bs ≡ suc w) × (number_of bs ≡ n)

few_bits : {f : OctetField} {os : List ℕ} → AreOctetsOf os f → AreSigned (8 * f.count - 1) f.number (unpack os)
few_bits {f} {os} h = (omega (arith, length-unpack os, h.count, h.some), h.means)

natural_bits : (w n : ℕ) (bs : Bits) → AreSigned w n bs → n < 2 ^ w → pos n ≡ signed_bits bs
natural_bits w n [] h l = absurd (omega (arith, h.0))
natural_bits w n (false ∷ bs) h l = ap pos (omega (arith, h.1))
natural_bits w n (true ∷ bs) h l =
    let e : 2 ^ length bs ≡ 2 ^ w = ap (λ (k : ℕ). 2 ^ k) (let i : length bs ≡ w = omega (arith, h.0) in i) in
    absurd (omega (arith, h.1, e))

negative_bits : (w n : ℕ) (bs : Bits) → AreSigned w n bs → 2 ^ w ≤ n → negsuc (2 ^ w - 1 - (n - 2 ^ w)) ≡ signed_bits bs
negative_bits w n [] h l = absurd (omega (arith, h.0))
negative_bits w n (false ∷ bs) h l =
    let e : 2 ^ length bs ≡ 2 ^ w = ap (λ (k : ℕ). 2 ^ k) (let i : length bs ≡ w = omega (arith, h.0) in i) in
    absurd (omega (arith, h.1, e, number_below bs))
negative_bits w n (true ∷ bs) h l =
    let e : 2 ^ length bs ≡ 2 ^ w = ap (λ (k : ℕ). 2 ^ k) (let i : length bs ≡ w = omega (arith, h.0) in i) in
    ap negsuc (omega (arith, h.1, e))

pub signed_natural : {f : OctetField} {os : List ℕ} → AreOctetsOf os f → f.number < 2 ^ (8 * f.count - 1) → pos f.number ≡ signed os
signed_natural {f} {os} h l = natural_bits (8 * f.count - 1) f.number (unpack os) (few_bits h) l

pub signed_negative : {f : OctetField} {os : List ℕ} → AreOctetsOf os f → 2 ^ (8 * f.count - 1) ≤ f.number
    → negsuc (2 ^ (8 * f.count - 1) - 1 - (f.number - 2 ^ (8 * f.count - 1))) ≡ signed os
signed_negative {f} {os} h l = negative_bits (8 * f.count - 1) f.number (unpack os) (few_bits h) l

-- half of the numbers of a field, as the program has it
pub half_is : {f : OctetField} {os : List ℕ} → AreOctetsOf os f → (1 * 2 ^ (8 * f.count - 1) % 2 ^ 128 ≡ 2 ^ (8 * f.count - 1)) × (2 ^ (8 * f.count - 1) ≤ 2 ^ 127)
half_is {f} h =
    let m : 2 ^ (8 * f.count - 1) ≤ 2 ^ 127 = pow_mono {i = 8 * f.count - 1} {j = 127} (omega (arith, h.few)) in
    (omega (arith, m), m)

pub twice_half : {f : OctetField} {os : List ℕ} → AreOctetsOf os f → 2 ^ (8 * f.count) ≡ 2 * 2 ^ (8 * f.count - 1)
twice_half {f} h = ap (λ (n : ℕ). 2 ^ n) (let e : 8 * f.count ≡ suc (8 * f.count - 1) = omega (arith, h.some) in e) ∙ (let i : 2 ^ suc (8 * f.count - 1) ≡ 2 * 2 ^ (8 * f.count - 1) = omega (arith, pow-suc 2 (8 * f.count - 1)) in i)

pub negative_is : {f : OctetField} {os : List ℕ} → AreOctetsOf os f → (half : ℕ) → half ≡ 2 ^ (8 * f.count - 1) → half ≤ 2 ^ 127 → 0 < half → half ≤ f.number
    → to_z w128 (of_z w128 (negsuc 0 -ℤ to_z w128 (half - 1 - (f.number - half)))) ≡ signed os
negative_is {f} {os} h half e few some l =
    ap (λ z. to_z w128 (of_z w128 (negsuc 0 -ℤ z))) (to_z_pos w128 k (omega (arith, few, some)))
    ∙ ap (λ z. to_z w128 (of_z w128 z)) (let i : negsuc 0 -ℤ pos k ≡ negsuc k = omega (arith, ints) in i)
    ∙ to_z-of_z w128 (negsuc k) (record { sfits = omega (arith, few, some) })
    ∙ ap (λ (m : ℕ). negsuc (m - 1 - (f.number - m))) e
    ∙ signed_negative h (omega (arith, e, l))
  where
    k : ℕ
    k = half - 1 - (f.number - half)

-- a bit that is zero, and none above it
below_half : (n k : ℕ) → n / 2 ^ k ≡ 0 → n < 2 ^ k
below_half n k h = let m = mod-lt n (pow_pos k) in omega (arith, sym (shr_split n k) ∙ ap (λ (q : ℕ). q * 2 ^ k + n % 2 ^ k) h, m)

from_half : (n k : ℕ) → ¬ (n / 2 ^ k ≡ 0) → 2 ^ k ≤ n
from_half n k h = go (cases_lt n (2 ^ k))
  where
    go : (n < 2 ^ k) ⊎ (2 ^ k ≤ n) → 2 ^ k ≤ n
    go (inl l) = absurd (h (div-eq_of_lt l))
    go (inr l) = l

-- the same in a word
pub half_word_is : {f : OctetField} {os : List ℕ} → AreOctetsOf os f → f.count ≤ 6
    → (1 * 2 ^ (8 * f.count - 1) % 2 ^ 64 ≡ 2 ^ (8 * f.count - 1)) × (2 ^ (8 * f.count - 1) ≤ 2 ^ 47)
half_word_is {f} h few =
    let m : 2 ^ (8 * f.count - 1) ≤ 2 ^ 47 = pow_mono {i = 8 * f.count - 1} {j = 47} (omega (arith, few)) in
    (omega (arith, m), m)

doubled : {f : OctetField} {os : List ℕ} → AreOctetsOf os f → f.count ≤ 6 → f.number * 2 % 2 ^ 64 ≡ f.number * 2
doubled h few = omega (arith, few_below h, twice_half h, (half_word_is h few).1)

pub below_word : {f : OctetField} {os : List ℕ} → AreOctetsOf os f → f.count ≤ 6 → f.number * 2 % 2 ^ 64 / 2 ^ (8 * f.count) ≡ 0 → f.number < 2 ^ (8 * f.count - 1)
below_word {f} h few e = omega (arith, doubled h few, below_half (f.number * 2 % 2 ^ 64) (8 * f.count) e, twice_half h)

pub from_word : {f : OctetField} {os : List ℕ} → AreOctetsOf os f → f.count ≤ 6 → ¬ (f.number * 2 % 2 ^ 64 / 2 ^ (8 * f.count) ≡ 0) → 2 ^ (8 * f.count - 1) ≤ f.number
from_word {f} h few e = omega (arith, doubled h few, from_half (f.number * 2 % 2 ^ 64) (8 * f.count) e, twice_half h)

pub negative_word_is : {f : OctetField} {os : List ℕ} → AreOctetsOf os f → (half : ℕ) → half ≡ 2 ^ (8 * f.count - 1) → half ≤ 2 ^ 47 → 0 < half → half ≤ f.number
    → to_z w64 (of_z w64 (negsuc 0 -ℤ to_z w64 (half - 1 - (f.number - half)))) ≡ signed os
negative_word_is {f} {os} h half e few some l =
    ap (λ z. to_z w64 (of_z w64 (negsuc 0 -ℤ z))) (to_z_pos w64 k (omega (arith, few, some)))
    ∙ ap (λ z. to_z w64 (of_z w64 z)) (let i : negsuc 0 -ℤ pos k ≡ negsuc k = omega (arith, ints) in i)
    ∙ to_z-of_z w64 (negsuc k) (record { sfits = omega (arith, few, some) })
    ∙ ap (λ (m : ℕ). negsuc (m - 1 - (f.number - m))) e
    ∙ signed_negative h (omega (arith, e, l))
  where
    k : ℕ
    k = half - 1 - (f.number - half)
