-- One bit of octets that is set.
use mir.Val.{bool_byte}
use Rattle.std.proofs.Common.{◌≡◌, refl, sym, ap, ap₂, ◌∙◌, subst, ℕ, suc, ◌+◌, ◌-◌, ◌*◌, ◌/◌, ◌%◌, ◌^◌, ◌<◌, ◌≤◌, Bool, true, false, inl, inr, List, [], ◌∷◌, ◌++◌, length, take, drop, replicate, get_or, nat_le, arith, pow_pos, mod-eq_of_lt, mod-lt, append_assoc, bit_or}
use Rattle.std.proofs.Math.ListN.{set}
use Rattle.std.proofs.Math.Nat.{div-add-mod, mul_comm}
use Rattle.std.proofs.Math.Seq.{drop-cons, set-append_seam}
use Rattle.std.proofs.lemmas.Bool.{cases_lt}
use Rattle.std.proofs.lemmas.List.{drop-drop, drop_at, set-append_left, set-append_right, take-replicate, take_at}
use Rattle.std.proofs.lemmas.Nat.{or_shifted, shl_whole, shr_below, shr-shr}
use Rattle.rasn_types.specs.Bits.{Bits, number_of, to_bits, unpack}
use Rattle.rasn_types.proofs.Bits.{length-to_bits, number-to_bits, to_bits-same, to_bits-split}
use Rattle.per_bits.specs.Octets.{filled, AreKept, HaveRoom}
use Rattle.per_bits.proofs.Joins.{behind, put_after}
use Rattle.per_bits.proofs.Readers.{filled_length, room_there}
use Rattle.per_bits.proofs.Words.{to_bits-join, to_bits-zeros, unpack-drop}

-- a bit as a number
pub bit_below : {n : ℕ} (b : Bool) → n ≡ bool_byte b → n < 2 ^ 1
bit_below true e = omega arith
bit_below false e = omega arith

pub bit_is : {n : ℕ} (b : Bool) → n ≡ bool_byte b → to_bits 1 n ≡ b ∷ []
bit_is true e = ap (λ (m : ℕ). to_bits 1 m) e
bit_is false e = ap (λ (m : ℕ). to_bits 1 m) e

-- an octet with another bit: what is in front, the bit, and what is behind
module _ (p s o bit front low v : ℕ) (b : Bool) (e : p + (1 + s) ≡ 8) (below : o < 256) (small : bit < 2 ^ 1) (is_bit : to_bits 1 bit ≡ b ∷ [])
    (is_front : front ≡ bit_or (o / 2 ^ s / 2 * 2 % 2 ^ 64) bit) (is_low : low ≡ o % 2 ^ s) (is : v ≡ bit_or (front * 2 ^ s % 2 ^ 64) low) where
  abbrev high : ℕ
  high = o / 2 ^ s / 2

  high_below : high < 2 ^ p
  high_below = subst (λ (n : ℕ). n < 2 ^ p) (sym (shr-shr o s 1)) (shr_below o p (s + 1) (subst (λ (n : ℕ). o < 2 ^ n) (let i : 8 ≡ p + (s + 1) = omega arith in i) below))

  front_is : front ≡ high * 2 ^ 1 + bit
  front_is = is_front ∙ put_after 64 high bit p 1 high_below small (omega arith)

  front_below : front < 2 ^ (p + 1)
  front_below = subst (λ (n : ℕ). n < 2 ^ (p + 1)) (sym front_is) (behind high bit p 1 high_below small)

  low_below : low < 2 ^ s
  low_below = let m = mod-lt o (pow_pos s) in omega arith

  v_is : v ≡ front * 2 ^ s + low
  v_is = is ∙ put_after 64 front low (p + 1) s front_below low_below (omega arith)

  pub octet_fits : v < 256
  octet_fits = subst (λ (n : ℕ). n < 256) (sym v_is) (subst (λ (n : ℕ). front * 2 ^ s + low < 2 ^ n) (let i : p + 1 + s ≡ 8 = omega arith in i) (behind front low (p + 1) s front_below low_below))

  made : to_bits 8 v ≡ to_bits p high ++ b ∷ to_bits s o
  made = ap₂ (λ (n m : ℕ). to_bits n m) (let i : 8 ≡ p + 1 + s = omega arith in i) v_is ∙ to_bits-join (p + 1) s front low low_below
      ∙ ap₂ (λ bs cs. bs ++ cs) (ap (λ (n : ℕ). to_bits (p + 1) n) front_is ∙ to_bits-join p 1 high bit small ∙ ap (λ bs. to_bits p high ++ bs) is_bit)
      (to_bits-same s low o (ap (λ (n : ℕ). n % 2 ^ s) is_low ∙ mod-eq_of_lt (mod-lt o (pow_pos s))))
      ∙ append_assoc (to_bits p high) (b ∷ []) (to_bits s o)

  was : (x : Bool) → to_bits 1 (o / 2 ^ s) ≡ x ∷ [] → to_bits 8 o ≡ to_bits p high ++ x ∷ to_bits s o
  was x i = ap (λ (n : ℕ). to_bits n o) (sym e) ∙ to_bits-split p (1 + s) o
      ∙ ap₂ (λ (n : ℕ) bs. to_bits p n ++ bs) (let j : o / 2 ^ (1 + s) ≡ o / 2 ^ (s + 1) = ap (λ (n : ℕ). o / 2 ^ n) (omega arith) in j ∙ sym (shr-shr o s 1)) (to_bits-split 1 s o ∙ ap (λ bs. bs ++ to_bits s o) i)

  abbrev old : Bool
  old = nat_le (2 ^ 0) (o / 2 ^ s % 2 ^ 1)

  pub octet_set : to_bits 8 v ≡ set (to_bits 8 o) p b
  octet_set = made ∙ sym (ap (λ bs. set bs p b) (was old refl)
      ∙ ap (λ (n : ℕ). set (to_bits p high ++ old ∷ to_bits s o) n b) (sym (length-to_bits p high)) ∙ set-append_seam (to_bits p high) old (to_bits s o) b)

-- the bits of octets, of which one has another bit
pub unpack-set : (os : List ℕ) (i v : ℕ) (b : Bool) → i < 8 * length os → to_bits 8 v ≡ set (to_bits 8 (get_or os (i / 8) 0)) (i % 8) b → unpack (set os (i / 8) v) ≡ set (unpack os) i b
unpack-set [] i v b h e = absurd (omega arith)
unpack-set (o ∷ os) i v b h e = elim (cases_lt i 8) [
  | inl l ↦ in_first (let z : i / 8 ≡ 0 = omega arith in z) (let z : i % 8 ≡ i = omega arith in z) l
  | inr l ↦ in_later (unpack-set os (i - 8) v b) (let z : i / 8 ≡ suc ((i - 8) / 8) = omega arith in z) (let z : i % 8 ≡ (i - 8) % 8 = omega arith in z) l
]
  where
    in_first : i / 8 ≡ 0 → i % 8 ≡ i → i < 8 → unpack (set (o ∷ os) (i / 8) v) ≡ set (unpack (o ∷ os)) i b
    in_first z r l = ap (λ (n : ℕ). unpack (set (o ∷ os) n v)) z
        ∙ ap (λ bs. bs ++ unpack os) (e ∙ ap₂ (λ (n m : ℕ). set (to_bits 8 (get_or (o ∷ os) n 0)) m b) z r)
        ∙ sym (set-append_left (to_bits 8 o) (unpack os) i b (subst (λ (n : ℕ). i < n) (sym (length-to_bits 8 o)) l))

    in_later : (i - 8 < 8 * length os → to_bits 8 v ≡ set (to_bits 8 (get_or os ((i - 8) / 8) 0)) ((i - 8) % 8) b → unpack (set os ((i - 8) / 8) v) ≡ set (unpack os) (i - 8) b)
        → i / 8 ≡ suc ((i - 8) / 8) → i % 8 ≡ (i - 8) % 8 → 8 ≤ i → unpack (set (o ∷ os) (i / 8) v) ≡ set (unpack (o ∷ os)) i b
    in_later further z r l = ap (λ (n : ℕ). unpack (set (o ∷ os) n v)) z
        ∙ ap (λ bs. to_bits 8 o ++ bs) (further (omega arith) (e ∙ ap₂ (λ (n m : ℕ). set (to_bits 8 (get_or (o ∷ os) n 0)) m b) z r))
        ∙ sym (set-append_right (to_bits 8 o) (unpack os) 8 i b (length-to_bits 8 o) l)

-- the same of octets with spare bits
pub filled_set : (spare : ℕ) (os : List ℕ) (i v : ℕ) (b : Bool) → AreKept spare os → i < length (filled spare os) → to_bits 8 v ≡ set (to_bits 8 (get_or os (i / 8) 0)) (i % 8) b
    → HaveRoom (set (filled spare os) i b) spare (set os (i / 8) v)
filled_set spare os i v b h l e = record {
  few = h.few;
  zeros = unpack-set os i v b (omega (arith, filled_length spare os)) e ∙ ap (λ bs. set bs i b) h.zeros ∙ set-append_left (filled spare os) (replicate spare false) i b l;
}

-- ---- the first spare bit

-- octets end with zeros: so do the bits of the octet in which these begin
zeros_in : (spare place used left : ℕ) (os : List ℕ) → AreKept spare os → 8 * place + used + spare ≡ 8 * length os → used + (1 + left) ≡ 8 → left < spare →
    to_bits (1 + left) (get_or os place 0) ≡ replicate (1 + left) false
zeros_in spare place used left os h e u l =
    sym (take_at (to_bits (1 + left) o) rest (1 + left) (length-to_bits (1 + left) o)) ∙ ap (λ bs. take (1 + left) bs) (sym from_octet ∙ from_end)
    ∙ take-replicate (1 + left) spare false (omega arith)
  where
    o : ℕ
    o = get_or os place 0

    rest : Bits
    rest = unpack (drop (suc place) os)

    from_octet : drop (8 * place + used) (unpack os) ≡ to_bits (1 + left) o ++ rest
    from_octet = sym (drop-drop used (8 * place) (unpack os)) ∙ ap (λ bs. drop used bs) (unpack-drop place os ∙ ap unpack (drop-cons os place 0 (omega arith))
        ∙ ap (λ bs. bs ++ rest) (ap (λ (n : ℕ). to_bits n o) (sym u) ∙ to_bits-split used (1 + left) o) ∙ append_assoc (to_bits used (o / 2 ^ (1 + left))) (to_bits (1 + left) o) rest)
        ∙ drop_at (to_bits used (o / 2 ^ (1 + left))) (to_bits (1 + left) o ++ rest) used (length-to_bits used (o / 2 ^ (1 + left)))

    from_end : drop (8 * place + used) (unpack os) ≡ replicate spare false
    from_end = ap (λ bs. drop (8 * place + used) bs) h.zeros ∙ drop_at (filled spare os) (replicate spare false) (8 * place + used) (omega (arith, filled_length spare os))

-- an octet with zeros behind `used` bits, and the first of these set
octet_put : (used left o byte v : ℕ) (b : Bool) → used + (1 + left) ≡ 8 → o < 2 ^ 8 → to_bits (1 + left) o ≡ replicate (1 + left) false → byte ≡ bool_byte b → v ≡ bit_or o (byte * 2 ^ left % 2 ^ 8) →
    to_bits 8 v ≡ set (to_bits 8 o) used b
octet_put used left o byte v b u below z i e = made ∙ sym (ap (λ bs. set bs used b) was ∙ ap (λ (n : ℕ). set (to_bits used high ++ false ∷ replicate left false) n b) (sym (length-to_bits used high))
    ∙ set-append_seam (to_bits used high) false (replicate left false) b)
  where
    high : ℕ
    high = o / 2 ^ (1 + left)

    low : ℕ
    low = byte * 2 ^ left

    high_below : high < 2 ^ used
    high_below = shr_below o used (1 + left) (subst (λ (n : ℕ). o < 2 ^ n) (sym u) below)

    low_below : low < 2 ^ (1 + left)
    low_below = subst (λ (n : ℕ). n < 2 ^ (1 + left)) (let s : byte * 2 ^ left + 0 ≡ low = omega arith in s) (behind byte 0 1 left (bit_below b i) (pow_pos left))

    is_low : byte * 2 ^ left % 2 ^ 8 ≡ low
    is_low = shl_whole byte 1 left 8 (bit_below b i) (omega arith)

    none : o % 2 ^ (1 + left) ≡ 0
    none = sym (number-to_bits (1 + left) o) ∙ ap number_of (z ∙ sym (to_bits-zeros (1 + left))) ∙ number-to_bits (1 + left) 0 ∙ mod-eq_of_lt (pow_pos (1 + left))

    o_is : o ≡ high * 2 ^ (1 + left)
    o_is = sym (div-add-mod o (2 ^ (1 + left))) ∙ ap₂ (λ (n m : ℕ). n + m) (mul_comm (2 ^ (1 + left)) high) none ∙ (let s : high * 2 ^ (1 + left) + 0 ≡ high * 2 ^ (1 + left) = omega arith in s)

    v_is : v ≡ high * 2 ^ (1 + left) + low
    v_is = e ∙ ap₂ (λ (n m : ℕ). bit_or n m) o_is is_low ∙ or_shifted high (1 + left) low low_below

    was : to_bits 8 o ≡ to_bits used high ++ false ∷ replicate left false
    was = ap (λ (n : ℕ). to_bits n o) (sym u) ∙ to_bits-split used (1 + left) o ∙ ap (λ bs. to_bits used high ++ bs) (z ∙ ap (λ (n : ℕ). replicate n false) (let j : 1 + left ≡ suc left = omega arith in j))

    made : to_bits 8 v ≡ to_bits used high ++ b ∷ replicate left false
    made = ap₂ (λ (n m : ℕ). to_bits n m) (sym u) v_is ∙ to_bits-join used (1 + left) high low low_below
        ∙ ap (λ bs. to_bits used high ++ bs) (ap (λ (n : ℕ). to_bits (1 + left) n) (let s : low ≡ byte * 2 ^ left + 0 = omega arith in s) ∙ to_bits-join 1 left byte 0 (pow_pos left)
        ∙ ap₂ (λ bs cs. bs ++ cs) (bit_is b i) (to_bits-zeros left))

pub bit_put : (spare behind place left octet byte v : ℕ) (b : Bool) (os : List ℕ) → AreKept spare os → 0 < spare → behind ≡ spare - 1 → left ≡ behind % 8 → place ≡ length os - 1 - behind / 8 →
    octet ≡ get_or os place 0 → octet < 2 ^ 8 → byte ≡ bool_byte b → v ≡ bit_or octet (byte * 2 ^ left % 2 ^ 8) → HaveRoom (filled spare os ++ b ∷ []) behind (set os place v)
bit_put spare behind place left octet byte v b os h s d l p o below i e = record {
  few = omega (arith, h.few);
  zeros = ap (λ (n : ℕ). unpack (set os n v)) (sym at) ∙ unpack-set os first v b (omega (arith, there))
      (octet_put (7 - left) left octet byte v b (omega arith) below (ap (λ (n : ℕ). to_bits (1 + left) n) o ∙ zeros_in spare place (7 - left) left os h (omega (arith, there)) (omega arith) (omega arith)) i e
      ∙ ap₂ (λ (n m : ℕ). set (to_bits 8 n) m b) (o ∙ ap (λ (n : ℕ). get_or os n 0) (sym at)) (let j : 7 - left ≡ first % 8 = omega (arith, there) in j))
      ∙ ap (λ bs. set bs first b) (h.zeros ∙ ap (λ (n : ℕ). filled spare os ++ replicate n false) (let j : spare ≡ suc behind = omega arith in j))
      ∙ ap (λ (n : ℕ). set (filled spare os ++ false ∷ replicate behind false) n b) (sym (filled_length spare os)) ∙ set-append_seam (filled spare os) false (replicate behind false) b
      ∙ sym (append_assoc (filled spare os) (b ∷ []) (replicate behind false));
}
  where
    there : spare ≤ 8 * length os
    there = room_there h

    first : ℕ
    first = 8 * length os - spare

    at : first / 8 ≡ place
    at = omega (arith, there)
