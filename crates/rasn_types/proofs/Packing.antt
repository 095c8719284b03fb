-- Bits kept in octets: one more bit, one bit of them, and the first of them.
use Rattle.std.proofs.Common.{◌≡◌, refl, sym, ap, ap₂, ◌∙◌, subst, ℕ, zero, suc, ◌+◌, ◌-◌, ◌*◌, ◌/◌, ◌%◌, ◌^◌, ◌<◌, ◌≤◌, Bool, true, false, cond, leb, eqb, List, [], ◌∷◌, ◌++◌, length, take, drop, replicate, get_or, arith, inl, inr, pow-suc, pow-add, mod-lt, mod-eq_of_lt, one-add, pow_pos, length-append, length-take, length-drop, append_assoc, append-nil, ◌≢◌, Some, None, slice_get, get_or-take, nat_eq, take-append-drop, le-leb, mul_comm, mul_assoc, pow_mono}
use Rattle.std.proofs.lemmas.Bool.{cases_lt, lt-leb}
use Rattle.std.proofs.lemmas.List.{take-take, take-append-le, drop-append-le, length-replicate, take-replicate, take_all, take_more}
use Rattle.std.proofs.Math.Seq.{take-append-add, take-append_seam, set-append_seam, get_or-append_seam, get_or-append_right}
use Rattle.std.proofs.Math.ListN.{get_or-append, set}
use Rattle.std.proofs.Math.Nat.{add-mul, mul-div_cancel, one-mul, zero-mul, mul-one, div-mul-le_self}
use Rattle.std.proofs.lemmas.Nat.{mod-pow-add, or_disjoint, div_below}
use Rattle.std.specs.Int.Bits.{or_zero_r}
use Rattle.std.specs.Bool.{beq, Decides, one_answer}
use Rattle.std.specs.Cmp.{booleans_Decides, unsigned_Decides}
use Rattle.std.specs.Cmp.Lexicographic.{pointwise, pointwise_decides, bytes_decides}
use Rattle.std.proofs.lemmas.Grind.{get_or_default_zero}
use Rattle.std.proofs.lemmas.Option.{slice_get-get_or, slice_get_past}
use Rattle.std.specs.Int.{div_ceil}
use Rattle.std.proofs.lemmas.Nat.Bits.{shr_and_one, and_pow}
use Rattle.std.specs.Prelude.{bit_and, bit_or}
use mir.Val.{bool_byte}
use Rattle.rasn_types.specs.Bits.{Bits, to_bits, number_of, pack, unpack, AreOctets}
use Rattle.rasn_types.specs.Packed.{packed, ArePacked}
use Rattle.rasn_types.proofs.Bits.{length-to_bits, length-unpack, number-to_bits, to_bits-split}
use Rattle.rasn_types.proofs.Octets.{length-pack, unpack-pack}
use Rattle.rasn_types.proofs.Fewest.{pack-unpack}
use Rattle.rasn_types.proofs.Reading.{number_of-append}

zeros : ℕ → Bits
zeros n = replicate n false

-- the octet that some bits are, zeros after them
abbrev pub octet : Bits → ℕ
octet bs = number_of (take 8 (bs ++ replicate 8 false))

-- ---- octets, and bits after them

pub number-zeros : (n : ℕ) → number_of (replicate n false) ≡ 0
number-zeros zero = refl
number-zeros (suc n) = omega (arith, number-zeros n)

padded : (bs : Bits) → length bs ≤ 8 → take 8 (bs ++ replicate 8 false) ≡ bs ++ replicate (8 - length bs) false
padded bs h = ap (λ (n : ℕ). take n (bs ++ replicate 8 false)) (let e : 8 ≡ length bs + (8 - length bs) = omega arith in e)
    ∙ take-append-add bs (replicate 8 false) (8 - length bs) ∙ ap (λ cs. bs ++ cs) (take-replicate (8 - length bs) 8 false (omega arith))

pub octet_is : (bs : Bits) → length bs ≤ 8 → octet bs ≡ number_of bs * 2 ^ (8 - length bs)
octet_is bs h = ap number_of (padded bs h) ∙ number_of-append bs (replicate (8 - length bs) false)
    ∙ ap₂ (λ (n m : ℕ). number_of bs * 2 ^ n + m) (length-replicate (8 - length bs) false) (number-zeros (8 - length bs)) ∙ omega arith

pub pack-append : (k m : ℕ) (xs ys : Bits) → length xs ≡ 8 * k → pack (k + m) (xs ++ ys) ≡ pack k xs ++ pack m ys
pack-append zero m [] ys e = ap (λ (n : ℕ). pack n ys) (omega arith)
pack-append zero m (x ∷ xs) ys e = absurd (omega arith)
pack-append (suc k) m xs ys e = ap (λ (n : ℕ). pack n (xs ++ ys)) (let s : suc k + m ≡ suc (k + m) = omega arith in s)
    ∙ ap₂ (λ bs cs. number_of (take 8 bs) ∷ pack (k + m) cs) (append_assoc xs ys (replicate 8 false)) (drop-append-le 8 xs ys (omega arith))
    ∙ ap₂ (λ bs cs. number_of bs ∷ cs) front (pack-append k m (drop 8 xs) ys (length-drop 8 xs ∙ omega arith))
  where
    front : take 8 (xs ++ (ys ++ replicate 8 false)) ≡ take 8 (xs ++ replicate 8 false)
    front = take-append-le 8 xs (ys ++ replicate 8 false) (omega arith) ∙ sym (take-append-le 8 xs (replicate 8 false) (omega arith))

-- the octets before the one that bit 8 * k is in, and that one
pub pack-last : (k : ℕ) (xs ys : Bits) → length xs ≡ 8 * k → pack (k + 1) (xs ++ ys) ≡ pack k xs ++ octet ys ∷ []
pack-last k xs ys e = pack-append k 1 xs ys e

-- ---- one more bit

octet-push : (ys : Bits) (b : Bool) → length ys < 8 → octet (ys ++ b ∷ []) ≡ octet ys + cond b 1 0 * 2 ^ (7 - length ys)
octet-push ys b h = octet_is (ys ++ b ∷ []) (omega (arith, longer)) ∙ ap₂ (λ (n m : ℕ). n * 2 ^ m) (number_of-append ys (b ∷ [])) fewer ∙ bit b
  where
    longer : length (ys ++ b ∷ []) ≡ length ys + 1
    longer = length-append ys (b ∷ [])

    fewer : 8 - length (ys ++ b ∷ []) ≡ 7 - length ys
    fewer = omega (arith, longer)

    power : 2 * 2 ^ (7 - length ys) ≡ 2 ^ (8 - length ys)
    power = mul_comm 2 (2 ^ (7 - length ys)) ∙ sym (pow-suc 2 (7 - length ys)) ∙ ap (λ (n : ℕ). 2 ^ n) (let e : suc (7 - length ys) ≡ 8 - length ys = omega arith in e)

    octet_scaled : number_of ys * 2 * 2 ^ (7 - length ys) ≡ octet ys
    octet_scaled = mul_assoc (number_of ys) 2 (2 ^ (7 - length ys)) ∙ ap (λ (n : ℕ). number_of ys * n) power ∙ sym (octet_is ys (omega arith))

    bit : (b : Bool) → (number_of ys * 2 ^ 1 + number_of (b ∷ [])) * 2 ^ (7 - length ys) ≡ octet ys + cond b 1 0 * 2 ^ (7 - length ys)
    bit true = add-mul (number_of ys * 2) 1 (2 ^ (7 - length ys)) ∙ omega (arith, octet_scaled)
    bit false = add-mul (number_of ys * 2) 0 (2 ^ (7 - length ys)) ∙ omega (arith, octet_scaled)

-- the place of the bit is free
free : (ys : Bits) → length ys < 8 → bit_and (octet ys) (2 ^ (7 - length ys)) ≡ 0
free ys h = and_pow (octet ys) (7 - length ys) ∙ ap (λ (n : ℕ). n % 2 * 2 ^ (7 - length ys)) halves ∙ ap (λ (n : ℕ). n * 2 ^ (7 - length ys)) even ∙ omega arith
  where
    halves : octet ys / 2 ^ (7 - length ys) ≡ number_of ys * 2
    halves = ap (λ (n : ℕ). n / 2 ^ (7 - length ys)) (octet_is ys (omega arith) ∙ ap (λ (n : ℕ). number_of ys * n) (sym power) ∙ sym (mul_assoc (number_of ys) 2 (2 ^ (7 - length ys))))
        ∙ mul-div_cancel (number_of ys * 2) (pow_pos (7 - length ys))
      where
        power : 2 * 2 ^ (7 - length ys) ≡ 2 ^ (8 - length ys)
        power = mul_comm 2 (2 ^ (7 - length ys)) ∙ sym (pow-suc 2 (7 - length ys)) ∙ ap (λ (n : ℕ). 2 ^ n) (let e : suc (7 - length ys) ≡ 8 - length ys = omega arith in e)

    even : number_of ys * 2 % 2 ≡ 0
    even = omega arith

octet-or : (ys : Bits) (b : Bool) → length ys < 8 → bit_or (octet ys) (cond b 1 0 * 2 ^ (7 - length ys) % 256) ≡ octet (ys ++ b ∷ [])
octet-or ys true h = ap (λ (n : ℕ). bit_or (octet ys) n) (ap (λ (n : ℕ). n % 256) (one-mul (2 ^ (7 - length ys))) ∙ mod-eq_of_lt small)
    ∙ or_disjoint (octet ys) (2 ^ (7 - length ys)) (free ys h) ∙ omega (arith, octet-push ys true h)
  where
    small : 2 ^ (7 - length ys) < 256
    small = let l : 2 ^ (7 - length ys) ≤ 2 ^ 7 = pow_mono {i = 7 - length ys} {j = 7} (omega arith) in omega arith
octet-or ys false h = ap (λ (n : ℕ). bit_or (octet ys) (n % 256)) (zero-mul (2 ^ (7 - length ys))) ∙ or_zero_r (octet ys) ∙ omega (arith, octet-push ys false h)

-- room for the bit behind 8 * k + length ys others, made and filled
filled : (k : ℕ) (xs ys : Bits) (b : Bool) → length xs ≡ 8 * k → length ys < 8 →
    set (pack (k + 1) (xs ++ ys)) k (bit_or (get_or (pack (k + 1) (xs ++ ys)) k 0) (cond b 1 0 * 2 ^ (7 - length ys) % 256)) ≡ pack (k + 1) (xs ++ (ys ++ b ∷ []))
filled k xs ys b e h = ap (λ os. set os k (bit_or (get_or os k 0) x)) (pack-last k xs ys e) ∙ ap (λ (n : ℕ). set os n (bit_or (get_or os n 0) x)) (sym (length-pack k xs))
    ∙ ap (λ (o : ℕ). set os (length (pack k xs)) (bit_or o x)) (get_or-append_seam (pack k xs) (octet ys) [] 0)
    ∙ set-append_seam (pack k xs) (octet ys) [] (bit_or (octet ys) x) ∙ ap (λ (o : ℕ). pack k xs ++ o ∷ []) (octet-or ys b h) ∙ sym (pack-last k xs (ys ++ b ∷ []) e)
  where
    os : List ℕ
    os = pack k xs ++ octet ys ∷ []

    x : ℕ
    x = cond b 1 0 * 2 ^ (7 - length ys) % 256

-- ---- where bits stand

-- bits are those of whole octets and those of the last one
front_length : (bs : Bits) → length (take (8 * (length bs / 8)) bs) ≡ 8 * (length bs / 8)
front_length bs = length-take (8 * (length bs / 8)) bs ∙ omega arith

back_length : (bs : Bits) → length (drop (8 * (length bs / 8)) bs) ≡ length bs % 8
back_length bs = length-drop (8 * (length bs / 8)) bs ∙ omega arith

pub pushed : (os : List ℕ) (bs : Bits) (b : Bool) → os ≡ pack (length bs / 8 + 1) bs →
    set os (length bs / 8) (bit_or (get_or os (length bs / 8) 0) (cond b 1 0 * 2 ^ (7 - length bs % 8) % 256)) ≡ packed (bs ++ b ∷ [])
pushed os bs b e = ap (λ qs. set qs k (bit_or (get_or qs k 0) (cond b 1 0 * 2 ^ (7 - length bs % 8) % 256))) (e ∙ ap (λ cs. pack (k + 1) cs) (sym split))
    ∙ ap (λ (n : ℕ). set (pack (k + 1) (xs ++ ys)) k (bit_or (get_or (pack (k + 1) (xs ++ ys)) k 0) (cond b 1 0 * 2 ^ (7 - n) % 256))) (sym (back_length bs))
    ∙ filled k xs ys b (front_length bs) (omega (arith, back_length bs)) ∙ ap (λ cs. pack (k + 1) cs) (sym (append_assoc xs ys (b ∷ [])) ∙ ap (λ cs. cs ++ b ∷ []) split)
    ∙ ap (λ (n : ℕ). pack n (bs ++ b ∷ [])) (let l : length (bs ++ b ∷ []) ≡ length bs + 1 = length-append bs (b ∷ []) in omega arith)
  where
    k : ℕ
    k = length bs / 8

    xs : Bits
    xs = take (8 * k) bs

    ys : Bits
    ys = drop (8 * k) bs

    split : xs ++ ys ≡ bs
    split = take-append-drop (8 * k) bs

-- ---- packed bits are the bits

octet-zeros : (ys : Bits) → length ys ≤ 8 → octet (ys ++ replicate (8 - length ys) false) ≡ octet ys
octet-zeros ys h = octet_is (ys ++ zs) (omega (arith, eight)) ∙ ap (λ (n : ℕ). number_of (ys ++ zs) * 2 ^ (8 - n)) eight ∙ mul-one (number_of (ys ++ zs))
    ∙ ap number_of (sym (padded ys h))
  where
    zs : Bits
    zs = replicate (8 - length ys) false

    eight : length (ys ++ zs) ≡ 8
    eight = length-append ys zs ∙ ap (λ (n : ℕ). length ys + n) (length-replicate (8 - length ys) false) ∙ omega arith

packed_whole : (k : ℕ) (bs : Bits) → length bs ≡ 8 * k → packed bs ≡ pack k bs
packed_whole k bs e = ap (λ (n : ℕ). pack n bs) (let i : (length bs + 7) / 8 ≡ k = omega arith in i)

packed_part : (k : ℕ) (bs : Bits) → 8 * k < length bs → length bs < 8 * k + 8 → packed bs ≡ pack (k + 1) bs
packed_part k bs h l = ap (λ (n : ℕ). pack n bs) (let i : (length bs + 7) / 8 ≡ k + 1 = omega arith in i)

pub unpack-packed : (bs : Bits) → take (length bs) (unpack (packed bs)) ≡ bs
unpack-packed bs = elim (cases_lt 0 (length bs % 8)) [ inl h ↦ part h | inr h ↦ whole (omega arith) ]
  where
    whole : length bs ≡ 8 * (length bs / 8) → take (length bs) (unpack (packed bs)) ≡ bs
    whole e = ap (λ os. take (length bs) (unpack os)) (packed_whole (length bs / 8) bs e) ∙ ap (λ cs. take (length bs) cs) (unpack-pack (length bs / 8) bs e)
        ∙ take_all (length bs) bs (omega arith)

    part : 0 < length bs % 8 → take (length bs) (unpack (packed bs)) ≡ bs
    part h = ap (λ os. take (length bs) (unpack os)) (packed_part k bs (omega arith) (omega arith) ∙ longer)
        ∙ ap (λ cs. take (length bs) cs) (unpack-pack (k + 1) (xs ++ (ys ++ zs)) full_octets ∙ sym (append_assoc xs ys zs) ∙ ap (λ cs. cs ++ zs) split)
        ∙ take-append_seam bs zs
      where
        k : ℕ
        k = length bs / 8

        xs : Bits
        xs = take (8 * k) bs

        ys : Bits
        ys = drop (8 * k) bs

        zs : Bits
        zs = replicate (8 - length ys) false

        split : xs ++ ys ≡ bs
        split = take-append-drop (8 * k) bs

        short : length ys ≤ 8
        short = omega (arith, back_length bs)

        longer : pack (k + 1) bs ≡ pack (k + 1) (xs ++ (ys ++ zs))
        longer = ap (λ cs. pack (k + 1) cs) (sym split) ∙ pack-last k xs ys (front_length bs) ∙ ap (λ (o : ℕ). pack k xs ++ o ∷ []) (sym (octet-zeros ys short))
            ∙ sym (pack-last k xs (ys ++ zs) (front_length bs))

        full_octets : length (xs ++ (ys ++ zs)) ≡ 8 * (k + 1)
        full_octets = length-append xs (ys ++ zs) ∙ ap₂ (λ (n m : ℕ). n + m) (front_length bs) (length-append ys zs ∙ ap (λ (n : ℕ). length ys + n) (length-replicate (8 - length ys) false)) ∙ omega (arith, short)

-- octets that are some bits, packed
pub kept : (n : ℕ) (os : List ℕ) (bs : Bits) → length bs ≡ n → os ≡ packed bs → ArePacked n os
kept n os bs l e = subst (λ (m : ℕ). ArePacked m os) l (subst (λ qs. ArePacked (length bs) qs) (sym e) (record {
  enough = (let c : length (packed bs) ≡ (length bs + 7) / 8 = length-pack ((length bs + 7) / 8) bs in omega arith);
  only = ap packed (sym (unpack-packed bs));
}))

pub viewed : (n : ℕ) (os : List ℕ) (bs : Bits) → length bs ≡ n → os ≡ packed bs → take n (unpack os) ≡ bs
viewed n os bs l e = ap₂ (λ (m : ℕ) qs. take m (unpack qs)) (sym l) e ∙ unpack-packed bs

pub view_length : (n : ℕ) (os : List ℕ) → n ≤ 8 * length os → length (take n (unpack os)) ≡ n
view_length n os h = length-take n (unpack os) ∙ omega (arith, length-unpack os)

-- ---- room for one more bit

pub room_made : (n : ℕ) (os : List ℕ) → ArePacked n os → n % 8 ≡ 0 → os ++ 0 ∷ [] ≡ pack (n / 8 + 1) (take n (unpack os))
room_made n os h z = ap (λ qs. qs ++ 0 ∷ []) (h.only ∙ packed_whole (n / 8) bs e) ∙ sym (pack-last (n / 8) bs [] e) ∙ ap (λ cs. pack (n / 8 + 1) cs) (append-nil bs)
  where
    bs : Bits
    bs = take n (unpack os)

    e : length bs ≡ 8 * (n / 8)
    e = view_length n os h.enough ∙ omega arith

pub room_there : (n : ℕ) (os : List ℕ) → ArePacked n os → n % 8 ≢ 0 → os ≡ pack (n / 8 + 1) (take n (unpack os))
room_there n os h z = h.only ∙ packed_part (n / 8) (take n (unpack os)) (omega (arith, view_length n os h.enough)) (omega (arith, view_length n os h.enough))

pub bit_pushed : (n : ℕ) (os qs : List ℕ) (b : Bool) (v r : ℕ) → ArePacked n os → qs ≡ pack (n / 8 + 1) (take n (unpack os)) → v ≡ get_or qs (n / 8) v → r ≡ bool_byte b →
    set qs (n / 8) (bit_or v (r * 2 ^ (7 - n % 8) % 256)) ≡ packed (take n (unpack os) ++ b ∷ [])
bit_pushed n os qs b v r h e f g = ap₂ (λ (w s : ℕ). set qs (n / 8) (bit_or w (s * 2 ^ (7 - n % 8) % 256))) (f ∙ get_or_default_zero qs (n / 8) v within) (g ∙ byte b)
    ∙ ap (λ (m : ℕ). set qs (m / 8) (bit_or (get_or qs (m / 8) 0) (cond b 1 0 * 2 ^ (7 - m % 8) % 256))) (sym l)
    ∙ pushed qs bs b (subst (λ (m : ℕ). qs ≡ pack (m / 8 + 1) bs) (sym l) e)
  where
    bs : Bits
    bs = take n (unpack os)

    l : length bs ≡ n
    l = view_length n os h.enough

    within : n / 8 < length qs
    within = let i : length qs ≡ n / 8 + 1 = ap length e ∙ length-pack (n / 8 + 1) bs in omega arith

    byte : (b : Bool) → bool_byte b ≡ cond b 1 0
    byte true = refl
    byte false = refl

pub one_longer : (n : ℕ) (os : List ℕ) (b : Bool) → ArePacked n os → length (take n (unpack os) ++ b ∷ []) ≡ n + 1
one_longer n os b h = length-append (take n (unpack os)) (b ∷ []) ∙ ap (λ (m : ℕ). m + 1) (view_length n os h.enough)

-- ---- one bit

-- the highest of the lowest w + 1 bits is bit w, as a program tests it
pub top_bit : (w n : ℕ) → leb (2 ^ w) (n % 2 ^ suc w) ≡ eqb (bit_and (n / 2 ^ w) 1) 1
top_bit w n = go (n / 2 ^ w % 2) (mod-lt (n / 2 ^ w) (omega arith)) refl ∙ ap (λ (k : ℕ). eqb k 1) (sym (shr_and_one n w))
  where
    at : (b : ℕ) → n / 2 ^ w % 2 ≡ b → n % 2 ^ suc w ≡ b * 2 ^ w + n % 2 ^ w
    at b e = ap (λ (k : ℕ). n % 2 ^ k) (sym (one-add w)) ∙ mod-pow-add n 1 w ∙ ap (λ (k : ℕ). k * 2 ^ w + n % 2 ^ w) e

    go : (b : ℕ) → b < 2 → n / 2 ^ w % 2 ≡ b → leb (2 ^ w) (n % 2 ^ suc w) ≡ eqb (n / 2 ^ w % 2) 1
    go zero h e = let s = at 0 e in let l : n % 2 ^ w < 2 ^ w = mod-lt n (pow_pos w) in
        lt-leb (2 ^ w) (n % 2 ^ suc w) (omega arith) ∙ ap (λ (k : ℕ). eqb k 1) (sym e)
    go (suc zero) h e = let s = at 1 e in le-leb (2 ^ w) (n % 2 ^ suc w) (omega arith) ∙ ap (λ (k : ℕ). eqb k 1) (sym e)
    go (suc (suc b)) h e = absurd (omega arith)

-- a bit of a number, the first highest, as a program tests it
bit_of : (w n i : ℕ) (d : Bool) → i < w → get_or (to_bits w n) i d ≡ eqb (bit_and (n / 2 ^ (w - 1 - i)) 1) 1
bit_of zero n i d h = absurd (omega arith)
bit_of (suc w) n zero d h = top_bit w n ∙ ap (λ (k : ℕ). eqb (bit_and (n / 2 ^ k) 1) 1) (let e : w ≡ suc w - 1 - 0 = omega arith in e)
bit_of (suc w) n (suc i) d h = bit_of w n i d (omega arith) ∙ ap (λ (k : ℕ). eqb (bit_and (n / 2 ^ k) 1) 1) (let e : w - 1 - i ≡ suc w - 1 - suc i = omega arith in e)

bit_of_octets : (os : List ℕ) (i : ℕ) (d : Bool) → i < 8 * length os → get_or (unpack os) i d ≡ eqb (bit_and (get_or os (i / 8) 0 / 2 ^ (7 - i % 8)) 1) 1
bit_of_octets [] i d h = absurd (omega arith)
bit_of_octets (o ∷ os) i d h = elim (cases_lt i 8) [
  | inl l ↦ first l
  | inr l ↦ later l (bit_of_octets os (i - 8) d (omega arith))
]
  where
    first : i < 8 → get_or (to_bits 8 o ++ unpack os) i d ≡ eqb (bit_and (get_or (o ∷ os) (i / 8) 0 / 2 ^ (7 - i % 8)) 1) 1
    first l = get_or-append (to_bits 8 o) (unpack os) d i l ∙ bit_of 8 o i d l
        ∙ ap₂ (λ (q r : ℕ). eqb (bit_and (get_or (o ∷ os) q 0 / 2 ^ (7 - r)) 1) 1) (let e : 0 ≡ i / 8 = omega arith in e) (let e : i ≡ i % 8 = omega arith in e)

    later : 8 ≤ i → get_or (unpack os) (i - 8) d ≡ eqb (bit_and (get_or os ((i - 8) / 8) 0 / 2 ^ (7 - (i - 8) % 8)) 1) 1 → get_or (to_bits 8 o ++ unpack os) i d ≡ eqb (bit_and (get_or (o ∷ os) (i / 8) 0 / 2 ^ (7 - i % 8)) 1) 1
    later l r = get_or-append_right (to_bits 8 o) (unpack os) i d l ∙ r
        ∙ ap₂ (λ (q r : ℕ). eqb (bit_and (get_or (o ∷ os) q 0 / 2 ^ (7 - r)) 1) 1) (let e : suc ((i - 8) / 8) ≡ i / 8 = omega arith in e) (let e : (i - 8) % 8 ≡ i % 8 = omega arith in e)

pub bit_there : (n : ℕ) (os : List ℕ) (i o : ℕ) → n ≤ 8 * length os → i < n → o ≡ get_or os (i / 8) o → Some (eqb (bit_and (o / 2 ^ (7 - i % 8)) 1) 1) ≡ slice_get (take n (unpack os)) i
bit_there n os i o h l e = ap (λ (q : ℕ). Some (eqb (bit_and (q / 2 ^ (7 - i % 8)) 1) 1)) (e ∙ get_or_default_zero os (i / 8) o (omega arith)) ∙ ap Some (sym (bit_of_octets os i false (omega arith)) ∙ sym (get_or-take n (unpack os) i false l)) ∙ sym (slice_get-get_or (take n (unpack os)) i false (omega (arith, view_length n os h)))

pub no_bit : (n : ℕ) (os : List ℕ) (i : ℕ) → n ≤ 8 * length os → n ≤ i → None ≡ slice_get (take n (unpack os)) i
no_bit n os i h l = sym (slice_get_past (take n (unpack os)) i (omega (arith, view_length n os h)))

-- ---- the first bits of octets

pub first_bits_are : (o n : ℕ) → n ≤ 8 → o < 256 → o / 2 ^ (8 - n) * 2 ^ (8 - n) % 256 ≡ number_of (take n (to_bits 8 o) ++ replicate (8 - n) false)
first_bits_are o n l k = mod-eq_of_lt (omega (arith, div-mul-le_self o (2 ^ (8 - n)))) ∙ ap (λ (m : ℕ). m * 2 ^ (8 - n)) high
    ∙ omega arith ∙ ap₂ (λ (m i : ℕ). number_of (take n (to_bits 8 o)) * 2 ^ m + i) (sym (length-replicate (8 - n) false)) (sym (number-zeros (8 - n)))
    ∙ sym (number_of-append (take n (to_bits 8 o)) (replicate (8 - n) false))
  where
    front : take n (to_bits 8 o) ≡ to_bits n (o / 2 ^ (8 - n))
    front = ap₂ (λ (m w : ℕ). take m (to_bits w o)) (sym (length-to_bits n (o / 2 ^ (8 - n)))) (let e : 8 ≡ n + (8 - n) = omega arith in e)
        ∙ ap (λ bs. take (length (to_bits n (o / 2 ^ (8 - n)))) bs) (to_bits-split n (8 - n) o)
        ∙ take-append_seam (to_bits n (o / 2 ^ (8 - n))) (to_bits (8 - n) o)

    whole : 2 ^ n * 2 ^ (8 - n) ≡ 256
    whole = sym (pow-add 2 n (8 - n)) ∙ ap (λ (m : ℕ). 2 ^ m) (let e : n + (8 - n) ≡ 8 = omega arith in e)

    high : o / 2 ^ (8 - n) ≡ number_of (take n (to_bits 8 o))
    high = sym (ap number_of front ∙ number-to_bits n (o / 2 ^ (8 - n)) ∙ mod-eq_of_lt (div_below o (2 ^ (8 - n)) (2 ^ n) (pow_pos (8 - n)) (omega (arith, whole))))

-- the bits of the first octets
pub unpack-take : (k : ℕ) (os : List ℕ) → take (8 * k) (unpack os) ≡ unpack (take k os)
unpack-take zero os = refl
unpack-take (suc k) [] = ap (λ (n : ℕ). take n (unpack [])) (let e : 8 * suc k ≡ suc (8 * k + 7) = omega arith in e)
unpack-take (suc k) (o ∷ os) = ap (λ (n : ℕ). take n (unpack (o ∷ os))) (let e : 8 * suc k ≡ 8 + 8 * k = omega arith in e)
    ∙ take-append-add (to_bits 8 o) (unpack os) (8 * k) ∙ ap (λ bs. to_bits 8 o ++ bs) (unpack-take k os)

unpack-take-part : (k p : ℕ) (os : List ℕ) → k < length os → p ≤ 8 → take (8 * k + p) (unpack os) ≡ unpack (take k os) ++ take p (to_bits 8 (get_or os k 0))
unpack-take-part k p [] h l = absurd (omega arith)
unpack-take-part zero p (o ∷ os) h l = ap (λ (n : ℕ). take n (unpack (o ∷ os))) (let e : 8 * 0 + p ≡ p = omega arith in e) ∙ take-append-le p (to_bits 8 o) (unpack os) l
unpack-take-part (suc k) p (o ∷ os) h l = ap (λ (n : ℕ). take n (unpack (o ∷ os))) (let e : 8 * suc k + p ≡ 8 + (8 * k + p) = omega arith in e)
    ∙ take-append-add (to_bits 8 o) (unpack os) (8 * k + p) ∙ ap (λ bs. to_bits 8 o ++ bs) (unpack-take-part k p os (omega arith) l)

-- the first bits, of as few octets as hold them
pub front_kept : (n : ℕ) (os : List ℕ) → take n (unpack (take (div_ceil n 8) os)) ≡ take n (unpack os)
front_kept n os = ap (λ bs. take n bs) (sym (unpack-take (div_ceil n 8) os)) ∙ take-take n (8 * div_ceil n 8) (unpack os) (omega arith)

octets_taken : (n : ℕ) (os : List ℕ) → AreOctets os → AreOctets (take n os)
octets_taken zero os h = tt
octets_taken (suc n) [] h = tt
octets_taken (suc n) (o ∷ os) h = (h.0, octets_taken n os h.1)

taken_again : (k : ℕ) (os : List ℕ) → AreOctets os → k ≤ length os → pack k (unpack (take k os)) ≡ take k os
taken_again k os h l = ap (λ (n : ℕ). pack n (unpack (take k os))) (sym (length-take k os ∙ omega arith)) ∙ pack-unpack (take k os) (octets_taken k os h)

pub whole_kept : (n : ℕ) (os : List ℕ) → AreOctets os → n ≤ 8 * length os → n % 8 ≡ 0 → take (div_ceil n 8) os ≡ packed (take n (unpack os))
whole_kept n os h l z = ap (λ (m : ℕ). take m os) (let e : div_ceil n 8 ≡ k = omega arith in e) ∙ sym (taken_again k os h (omega arith)) ∙ ap (λ bs. pack k bs) (sym front)
    ∙ sym (packed_whole k (take n (unpack os)) (view_length n os l ∙ omega arith))
  where
    k : ℕ
    k = n / 8

    front : take n (unpack os) ≡ unpack (take k os)
    front = ap (λ (m : ℕ). take m (unpack os)) (let e : n ≡ 8 * k = omega arith in e) ∙ unpack-take k os

pub part_kept : (n : ℕ) (os : List ℕ) (v : ℕ) → AreOctets os → n ≤ 8 * length os → 0 < n % 8 → v ≡ number_of (take (n % 8) (to_bits 8 (get_or os (n / 8) 0)) ++ replicate (8 - n % 8) false) →
    set (take (div_ceil n 8) os) (n / 8) v ≡ packed (take n (unpack os))
part_kept n os v h l z e = ap₂ (λ qs (w : ℕ). set qs k w) (ap (λ (m : ℕ). take m os) (let d : div_ceil n 8 ≡ k + 1 = omega arith in d) ∙ take_more os k 0 (omega arith)) (e ∙ last)
    ∙ ap (λ (m : ℕ). set (take k os ++ get_or os k 0 ∷ []) m (octet ys)) (sym (length-take k os ∙ omega arith)) ∙ set-append_seam (take k os) (get_or os k 0) [] (octet ys)
    ∙ ap (λ qs. qs ++ octet ys ∷ []) (sym (taken_again k os h (omega arith))) ∙ sym (pack-last k (unpack (take k os)) ys front_octets)
    ∙ ap (λ bs. pack (k + 1) bs) (sym bits) ∙ sym (packed_part k (take n (unpack os)) (omega (arith, view_length n os l)) (omega (arith, view_length n os l)))
  where
    k : ℕ
    k = n / 8

    ys : Bits
    ys = take (n % 8) (to_bits 8 (get_or os k 0))

    ys_long : length ys ≡ n % 8
    ys_long = length-take (n % 8) (to_bits 8 (get_or os k 0)) ∙ omega arith

    last : number_of (ys ++ replicate (8 - n % 8) false) ≡ octet ys
    last = ap number_of (ap (λ (m : ℕ). ys ++ replicate (8 - m) false) (sym ys_long) ∙ sym (padded ys (omega (arith, ys_long))))

    front_octets : length (unpack (take k os)) ≡ 8 * k
    front_octets = length-unpack (take k os) ∙ ap (λ (m : ℕ). 8 * m) (length-take k os ∙ omega arith)

    bits : take n (unpack os) ≡ unpack (take k os) ++ ys
    bits = ap (λ (m : ℕ). take m (unpack os)) (let d : n ≡ 8 * k + n % 8 = omega arith in d) ∙ unpack-take-part k (n % 8) os (omega arith) (omega arith)

-- ---- equality

pub views_same : (n : ℕ) (os qs : List ℕ) → ArePacked n os → ArePacked n qs → pointwise nat_eq os qs ≡ pointwise beq (take n (unpack os)) (take n (unpack qs))
views_same n os qs h g = one_answer (pointwise nat_eq os qs) (pointwise beq vs ws) (bytes_decides os qs) (back, forth)
  where
    vs : Bits
    vs = take n (unpack os)

    ws : Bits
    ws = take n (unpack qs)

    decided : Decides (pointwise beq vs ws) (vs ≡ ws)
    decided = pointwise_decides booleans_Decides vs ws

    back : pointwise beq vs ws ≡ true → os ≡ qs
    back e = h.only ∙ ap packed (decided.0 e) ∙ sym g.only

    forth : os ≡ qs → pointwise beq vs ws ≡ true
    forth e = decided.1 (ap (λ os. take n (unpack os)) e)

pub views_other : (n m : ℕ) (os qs : List ℕ) → ArePacked n os → ArePacked m qs → n ≢ m → nat_eq n m ≡ pointwise beq (take n (unpack os)) (take m (unpack qs))
views_other n m os qs h g d = one_answer (nat_eq n m) (pointwise beq vs ws) (unsigned_Decides n m) (λ e. absurd (d (longs (decided.0 e))), λ e. absurd (d e))
  where
    vs : Bits
    vs = take n (unpack os)

    ws : Bits
    ws = take m (unpack qs)

    decided : Decides (pointwise beq vs ws) (vs ≡ ws)
    decided = pointwise_decides booleans_Decides vs ws

    longs : vs ≡ ws → n ≡ m
    longs e = sym (view_length n os h.enough) ∙ ap length e ∙ view_length m qs g.enough
