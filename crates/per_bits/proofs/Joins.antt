-- What one octet more, or one number more, makes of a word and of octets.
use Rattle.std.proofs.Common.{Fits, w8, zero, suc, ◌≡◌, sym, ap, ap₂, ◌∙◌, subst, ℕ, ◌+◌, ◌-◌, ◌*◌, ◌/◌, ◌%◌, ◌^◌, ◌<◌, ◌≤◌, false, List, [], ◌∷◌, ◌++◌, length, take, drop, replicate, get_or, arith, pow_pos, pow-add, mod-eq_of_lt, mod-lt, append_assoc, append-nil, length-append, bit_or, mul_assoc, length-take}
use Rattle.std.proofs.lemmas.List.{set_split, drop_all, drop_at, drop-drop, get_or-drop, length-drop, take_at, take-replicate, take_more, take_all, take-append-le, take-take, take-append-drop}
use Rattle.std.proofs.lemmas.Nat.{field_of, mul-le, shl_whole, shl-shr, or_shifted, shl_below, shr_below, shr-shr, be_bytes_4}
use Rattle.std.proofs.Math.Seq.{take-append-add}
use Rattle.std.proofs.Math.Nat.{add-mul}
use Rattle.std.specs.Int.{w32, w64, to_be_bytes, from_be_bytes}
use Rattle.std.proofs.Math.ListN.{set}
use Rattle.rasn_types.specs.Bits.{AreOctets, Bits, to_bits, unpack}
use Rattle.rasn_types.proofs.Bits.{length-to_bits, length-unpack, unpack-append, to_bits-same, to_bits-split}
use Rattle.rasn_types.proofs.Packing.{unpack-take}
use Rattle.per_bits.specs.Octets.{word_size, first_word, filled, AreFilledBy}
use Rattle.per_bits.proofs.Readers.{filled_all}
use Rattle.per_bits.proofs.Words.{word_size-is, to_bits-join, to_bits-zeros, unpack-bytes, octets_taken, first_word-short, inner-first_word, part_bits, to_bits-inner, unpack-drop}

-- ---- a number below a power, and another after it

pub behind : (x y i k : ℕ) → x < 2 ^ i → y < 2 ^ k → x * 2 ^ k + y < 2 ^ (i + k)
behind x y i k h l = let m : (x + 1) * 2 ^ k ≤ 2 ^ i * 2 ^ k = mul-le (x + 1) (2 ^ k) (2 ^ i) (2 ^ k) (omega arith) (omega arith) in
    let a : (x + 1) * 2 ^ k ≡ x * 2 ^ k + 1 * 2 ^ k = add-mul x 1 (2 ^ k) in omega (arith, pow-add 2 i k)

pub put_after : (w x y i k : ℕ) → x < 2 ^ i → y < 2 ^ k → i + k ≤ w → bit_or (x * 2 ^ k % 2 ^ w) y ≡ x * 2 ^ k + y
put_after w x y i k h l e = ap (λ (m : ℕ). bit_or m y) (shl_whole x i k w h e) ∙ or_shifted x k y l

-- ---- fewer octets than a word has

pub octet_more : (os : List ℕ) (i w o : ℕ) → i < length os → o ≡ get_or os i 0 → w < 2 ^ (8 * i) → o < 2 ^ 8 → to_bits (8 * i) w ≡ unpack (take i os) →
    (to_bits (8 * (i + 1)) (w * 2 ^ 8 + o) ≡ unpack (take (i + 1) os)) × (w * 2 ^ 8 + o < 2 ^ (8 * (i + 1)))
octet_more os i w o h e l s b = (bits, subst (λ (n : ℕ). w * 2 ^ 8 + o < 2 ^ n) further (behind w o (8 * i) 8 l s))
  where
    further : 8 * i + 8 ≡ 8 * (i + 1)
    further = omega arith

    bits : to_bits (8 * (i + 1)) (w * 2 ^ 8 + o) ≡ unpack (take (i + 1) os)
    bits = ap (λ (n : ℕ). to_bits n (w * 2 ^ 8 + o)) (sym further) ∙ to_bits-join (8 * i) 8 w o s ∙ ap₂ (λ bs (m : ℕ). bs ++ to_bits 8 m) b e
        ∙ ap (λ bs. unpack (take i os) ++ bs) (sym (append-nil (to_bits 8 (get_or os i 0)))) ∙ sym (unpack-append (take i os) (get_or os i 0 ∷ [])) ∙ ap unpack (sym (take_more os i 0 h))

pub octets_all : (os : List ℕ) (n w : ℕ) → n ≡ length os → n < 8 → w < 2 ^ (8 * n) → to_bits (8 * n) w ≡ unpack (take n os) → to_bits word_size (w * 2 ^ 8 % 2 ^ 64 * 2 ^ (56 - 8 * n) % 2 ^ 64) ≡ first_word os
octets_all os n w e h l b = ap (λ (m : ℕ). to_bits word_size (m * 2 ^ (56 - 8 * n) % 2 ^ 64)) (shl_whole w (8 * n) 8 64 l (omega arith))
    ∙ ap (to_bits word_size) (shl_whole (w * 2 ^ 8) (8 * n + 8) (56 - 8 * n) 64 (shl_below w (8 * n) 8 l) (omega arith) ∙ moved)
    ∙ ap (λ (m : ℕ). to_bits m (w * 2 ^ (64 - 8 * n) + 0)) (let i : word_size ≡ 8 * n + (64 - 8 * n) = omega (arith, word_size-is) in i)
    ∙ to_bits-join (8 * n) (64 - 8 * n) w 0 (pow_pos (64 - 8 * n)) ∙ ap₂ (λ bs cs. bs ++ cs) (b ∙ ap unpack (take_all n os (omega arith))) (to_bits-zeros (64 - 8 * n) ∙ ap (λ (m : ℕ). replicate (64 - 8 * m) false) e)
    ∙ sym (first_word-short os (omega arith))
  where
    moved : w * 2 ^ 8 * 2 ^ (56 - 8 * n) ≡ w * 2 ^ (64 - 8 * n) + 0
    moved = mul_assoc w (2 ^ 8) (2 ^ (56 - 8 * n)) ∙ ap (λ (m : ℕ). w * m) (sym (pow-add 2 8 (56 - 8 * n)) ∙ ap (λ (m : ℕ). 2 ^ m) (let i : 8 + (56 - 8 * n) ≡ 64 - 8 * n = omega arith in i)) ∙ omega arith

-- ---- the first octets and a word of those after them

-- the number n of the first k octets, and r after it in a word
pub front_word : (k n r : ℕ) (os : List ℕ) → k ≤ 8 → r < 2 ^ (64 - 8 * k) → to_bits (8 * k) n ≡ unpack (take k os) → to_bits word_size (n * 2 ^ (64 - 8 * k) + r) ≡ unpack (take k os) ++ to_bits (64 - 8 * k) r
front_word k n r os h l b = ap (λ (m : ℕ). to_bits m (n * 2 ^ (64 - 8 * k) + r)) (let i : word_size ≡ 8 * k + (64 - 8 * k) = omega (arith, word_size-is) in i)
    ∙ to_bits-join (8 * k) (64 - 8 * k) n r l ∙ ap (λ bs. bs ++ to_bits (64 - 8 * k) r) b

-- where no bit after the first k octets is asked for
pub front_alone : (k n c : ℕ) (os : List ℕ) → k ≤ 8 → k ≤ length os → c ≤ 8 * k → to_bits (8 * k) n ≡ unpack (take k os) → take c (to_bits word_size (n * 2 ^ (64 - 8 * k) + 0)) ≡ take c (first_word os)
front_alone k n c os h l f b = ap (λ bs. take c bs) (front_word k n 0 os h (pow_pos (64 - 8 * k)) b ∙ ap (λ bs. bs ++ to_bits (64 - 8 * k) 0) (sym (unpack-take k os)))
    ∙ take-append-le c (take (8 * k) (unpack os)) (to_bits (64 - 8 * k) 0) (omega (arith, length-take (8 * k) (unpack os), length-unpack os)) ∙ take-take c (8 * k) (unpack os) f
    ∙ sym (inner-first_word 0 c os (omega arith) (omega arith))

-- where the word r is that of the octets after the first k
pub front_and_rest : (k n r : ℕ) (os : List ℕ) → k ≤ 8 → k ≤ length os → r < 2 ^ 64 → to_bits (8 * k) n ≡ unpack (take k os) → to_bits word_size r ≡ first_word (drop k os) →
    to_bits word_size (n * 2 ^ (64 - 8 * k) + r / 2 ^ (8 * k)) ≡ first_word os
front_and_rest k n r os h l f b e = front_word k n (r / 2 ^ (8 * k)) os h (shr_below r left (8 * k) (subst (λ (m : ℕ). r < 2 ^ m) (let i : 64 ≡ left + 8 * k = omega arith in i) f)) b
    ∙ ap (λ bs. unpack (take k os) ++ bs) high ∙ sym both
  where
    left : ℕ
    left = 64 - 8 * k

    zeros : Bits
    zeros = replicate word_size false

    high : to_bits left (r / 2 ^ (8 * k)) ≡ take left (unpack (drop k os) ++ zeros)
    high = sym (take_at (to_bits left (r / 2 ^ (8 * k))) (to_bits (8 * k) r) left (length-to_bits left (r / 2 ^ (8 * k)))) ∙ ap (λ bs. take left bs) (sym (to_bits-split left (8 * k) r) ∙ ap (λ (m : ℕ). to_bits m r) (let i : left + 8 * k ≡ word_size = omega (arith, word_size-is) in i) ∙ e)
        ∙ take-take left word_size (unpack (drop k os) ++ zeros) (omega (arith, word_size-is))

    both : first_word os ≡ unpack (take k os) ++ take left (unpack (drop k os) ++ zeros)
    both = ap₂ (λ (m : ℕ) bs. take m (bs ++ zeros)) (let i : word_size ≡ length (unpack (take k os)) + left = omega (arith, word_size-is, length-unpack (take k os), length-take k os) in i)
        (sym (ap unpack (take-append-drop k os)) ∙ unpack-append (take k os) (drop k os))
        ∙ ap (λ bs. take (length (unpack (take k os)) + left) bs) (append_assoc (unpack (take k os)) (unpack (drop k os)) zeros) ∙ take-append-add (unpack (take k os)) (unpack (drop k os) ++ zeros) left

-- the number of four octets
pub unpack-half : (n : ℕ) (os qs : List ℕ) → 4 ≤ length os → qs ≡ take 4 os → ((i : ℕ) → Fits w8 (get_or os i 0)) → n ≡ from_be_bytes w32 qs → to_bits (8 * 4) n ≡ unpack (take 4 os)
unpack-half n os qs h e f i = sym (unpack-bytes 4 n) ∙ ap unpack (be_bytes_4 qs n (ap length e ∙ length-take 4 os ∙ omega arith) (octets_taken 4 os qs h e f) i ∙ e)

-- the number of the last four octets of fewer than eight, moved up, has the bits of those after the first four
pub last_four : (n : ℕ) (os qs : List ℕ) → 4 ≤ length os → length os < 8 → qs ≡ drop (length os - 4) os → ((i : ℕ) → Fits w8 (get_or os i 0)) → n ≡ from_be_bytes w32 qs
    → to_bits word_size (n * 2 ^ (96 - 8 * length os) % 2 ^ 64) ≡ first_word (drop 4 os)
last_four n os qs h l e f i = to_bits-same word_size (moved % 2 ^ 64) moved (ap (λ (m : ℕ). moved % 2 ^ 64 % 2 ^ m) word_size-is ∙ mod-eq_of_lt (mod-lt moved (pow_pos 64)) ∙ ap (λ (m : ℕ). moved % 2 ^ m) (sym word_size-is))
    ∙ ap₂ to_bits (let j : word_size ≡ mine + left = omega (arith, word_size-is) in j) (let j : moved ≡ n * 2 ^ left + 0 = omega arith in j)
    ∙ to_bits-join mine left n 0 (pow_pos left) ∙ ap₂ (λ bs cs. bs ++ cs) low (to_bits-zeros left ∙ ap (λ (m : ℕ). replicate m false) (let j : left ≡ 64 - 8 * length (drop 4 os) = omega (arith, length-drop 4 os) in j))
    ∙ sym (first_word-short (drop 4 os) (omega (arith, length-drop 4 os)))
  where
    left : ℕ
    left = 96 - 8 * length os

    mine : ℕ
    mine = 8 * length os - 32

    gone : ℕ
    gone = 8 - length os

    moved : ℕ
    moved = n * 2 ^ left

    small : (i : ℕ) → get_or qs i 0 < 256
    small i = subst (λ (m : ℕ). m < 256) (sym (ap (λ ps. get_or ps i 0) e ∙ get_or-drop (length os - 4) os i 0)) (omega (arith, f (length os - 4 + i)))

    whole : to_bits (8 * gone + mine) n ≡ unpack qs
    whole = ap (λ (m : ℕ). to_bits m n) (let j : 8 * gone + mine ≡ 8 * 4 = omega arith in j) ∙ sym (unpack-bytes 4 n) ∙ ap unpack (be_bytes_4 qs n (ap length e ∙ length-drop (length os - 4) os ∙ omega arith) small i)

    low : to_bits mine n ≡ unpack (drop 4 os)
    low = sym (drop_at (to_bits (8 * gone) (n / 2 ^ mine)) (to_bits mine n) (8 * gone) (length-to_bits (8 * gone) (n / 2 ^ mine))) ∙ ap (λ bs. drop (8 * gone) bs) (sym (to_bits-split (8 * gone) mine n) ∙ whole)
        ∙ unpack-drop gone qs ∙ ap unpack (ap (λ ps. drop gone ps) e ∙ drop-drop gone (length os - 4) os ∙ ap (λ (m : ℕ). drop m os) (let j : length os - 4 + gone ≡ 4 = omega arith in j))

-- ---- what `part` answers

-- c bits of a word after the first s, which are moved up, and then down as a field
pub moved_field : (s c w r : ℕ) → s < 8 → c ≤ 56 → r ≡ w * 2 ^ s % 2 ^ 64 / 2 / 2 ^ (63 - c) → r ≡ w / 2 ^ (64 - s - c) % 2 ^ c
moved_field s c w r h f e = e ∙ shr-shr (w * 2 ^ s % 2 ^ 64) 1 (63 - c) ∙ ap₂ (λ (m n : ℕ). w * 2 ^ s % 2 ^ m / 2 ^ n) (let i : 64 ≡ c + (64 - c) = omega arith in i) (let i : 1 + (63 - c) ≡ 64 - c = omega arith in i)
    ∙ field_of (w * 2 ^ s) c (64 - c) ∙ ap (λ (m : ℕ). w * 2 ^ s / 2 ^ m % 2 ^ c) (let i : 64 - c ≡ s + (64 - s - c) = omega arith in i)
    ∙ ap (λ (m : ℕ). m % 2 ^ c) (sym (shr-shr (w * 2 ^ s) s (64 - s - c)) ∙ ap (λ (m : ℕ). m / 2 ^ (64 - s - c)) (shl-shr w s))

pub moved_below : (s c w r : ℕ) → s < 8 → c ≤ 56 → r ≡ w * 2 ^ s % 2 ^ 64 / 2 / 2 ^ (63 - c) → r < 2 ^ c
moved_below s c w r h f e = let m = mod-lt (w / 2 ^ (64 - s - c)) (pow_pos c) in omega (arith, moved_field s c w r h f e, m)

pub part_is : (s c w r : ℕ) (os : List ℕ) → s < 8 → c ≤ 56 → s + c ≤ 8 * length os → take (s + c) (to_bits word_size w) ≡ take (s + c) (first_word os) → r ≡ w * 2 ^ s % 2 ^ 64 / 2 / 2 ^ (63 - c) → to_bits c r ≡ take c (drop s (unpack os))
part_is s c w r os h f l e i = to_bits-same c r (w / 2 ^ (64 - s - c)) (ap (λ (m : ℕ). m % 2 ^ c) (moved_field s c w r h f i) ∙ mod-eq_of_lt (mod-lt (w / 2 ^ (64 - s - c)) (pow_pos c))) ∙ part_bits s c w os (omega arith) l e

-- the first bits of a word that octets have
pub front_is : (s w r : ℕ) (os : List ℕ) → s < 8 → to_bits word_size w ≡ first_word os → r ≡ w * 2 ^ s % 2 ^ 64 / 2 ^ 8 → to_bits 56 r ≡ take 56 (drop s (first_word os))
front_is s w r os h e i = to_bits-same 56 r (w / 2 ^ (8 - s)) (ap (λ (m : ℕ). m % 2 ^ 56) (moved_field s 56 w r h (omega arith) (i ∙ sym (shr-shr (w * 2 ^ s % 2 ^ 64) 1 7))) ∙ mod-eq_of_lt (mod-lt (w / 2 ^ (64 - s - 56)) (pow_pos 56)) ∙ ap (λ (m : ℕ). w / 2 ^ m % 2 ^ 56) (let j : 64 - s - 56 ≡ 8 - s = omega arith in j))
    ∙ sym (to_bits-inner s 56 (8 - s) w) ∙ ap (λ (m : ℕ). take 56 (drop s (to_bits m w))) (let j : s + (56 + (8 - s)) ≡ word_size = omega (arith, word_size-is) in j) ∙ ap (λ bs. take 56 (drop s bs)) e

-- ---- one number more

-- the last octet has the last of the bits
pub last_filled : (spare : ℕ) (ps : List ℕ) (last : ℕ) → spare < 8 → filled spare (ps ++ last ∷ []) ≡ unpack ps ++ to_bits (8 - spare) (last / 2 ^ spare)
last_filled spare ps last h = ap₂ (λ (n : ℕ) bs. take n bs) (let e : 8 * length (ps ++ last ∷ []) - spare ≡ length (unpack ps) + (8 - spare) = omega (arith, length-append ps (last ∷ []), length-unpack ps) in e) (unpack-append ps (last ∷ []))
    ∙ take-append-add (unpack ps) (unpack (last ∷ [])) (8 - spare) ∙ ap (λ bs. unpack ps ++ bs) high
  where
    high : take (8 - spare) (to_bits 8 last ++ []) ≡ to_bits (8 - spare) (last / 2 ^ spare)
    high = ap (λ bs. take (8 - spare) bs) (append-nil (to_bits 8 last) ∙ ap (λ (n : ℕ). to_bits n last) (let e : 8 ≡ (8 - spare) + spare = omega arith in e) ∙ to_bits-split (8 - spare) spare last)
        ∙ take_at (to_bits (8 - spare) (last / 2 ^ spare)) (to_bits spare last) (8 - spare) (length-to_bits (8 - spare) (last / 2 ^ spare))

-- the word of some bits, a number after them, and zeros
pub word_bits : (used width value bits low word : ℕ) → used < 8 → width ≤ 56 → bits < 2 ^ used → low ≡ value % 2 ^ width →
    word ≡ bit_or (bits * 2 ^ width % 2 ^ 64) low * 2 % 2 ^ 64 * 2 ^ (63 - (used + width)) % 2 ^ 64 →
    to_bits word_size word ≡ (to_bits used bits ++ to_bits width value) ++ replicate (64 - (used + width)) false
word_bits used width value bits low word h f l e w = ap (to_bits word_size) (w ∙ ap (λ (m : ℕ). m * 2 % 2 ^ 64 * 2 ^ (63 - all) % 2 ^ 64) (put_after 64 bits low used width l small (omega arith))
    ∙ ap (λ (m : ℕ). m * 2 ^ (63 - all) % 2 ^ 64) (shl_whole both all 1 64 below (omega arith)) ∙ shl_whole (both * 2) (all + 1) (63 - all) 64 (shl_below both all 1 below) (omega arith) ∙ moved)
    ∙ ap (λ (m : ℕ). to_bits m (both * 2 ^ (64 - all) + 0)) (let i : word_size ≡ all + (64 - all) = omega (arith, word_size-is) in i)
    ∙ to_bits-join all (64 - all) both 0 (pow_pos (64 - all)) ∙ ap₂ (λ bs cs. bs ++ cs) (to_bits-join used width bits low small ∙ ap (λ bs. to_bits used bits ++ bs) low_bits) (to_bits-zeros (64 - all))
  where
    all : ℕ
    all = used + width

    both : ℕ
    both = bits * 2 ^ width + low

    small : low < 2 ^ width
    small = let m = mod-lt value (pow_pos width) in omega arith

    below : both < 2 ^ all
    below = behind bits low used width l small

    low_bits : to_bits width low ≡ to_bits width value
    low_bits = to_bits-same width low value (ap (λ (m : ℕ). m % 2 ^ width) e ∙ mod-eq_of_lt (mod-lt value (pow_pos width)))

    moved : both * 2 * 2 ^ (63 - all) ≡ both * 2 ^ (64 - all) + 0
    moved = mul_assoc both 2 (2 ^ (63 - all)) ∙ ap (λ (m : ℕ). both * m) (sym (pow-add 2 1 (63 - all)) ∙ ap (λ (m : ℕ). 2 ^ m) (let i : 1 + (63 - all) ≡ 64 - all = omega arith in i)) ∙ omega arith

-- the octets ps, after which the octets of a word were written and cut back to those in use
pub appended : (ps qs bytes : List ℕ) (used width value bits low word count n : ℕ) → used < 8 → width ≤ 56 → bits < 2 ^ used → low ≡ value % 2 ^ width →
    word ≡ bit_or (bits * 2 ^ width % 2 ^ 64) low * 2 % 2 ^ 64 * 2 ^ (63 - (used + width)) % 2 ^ 64 → bytes ≡ to_be_bytes w64 word →
    used + width ≤ 8 * count → count ≤ 8 → n ≡ length ps → qs ≡ take (n + count) (ps ++ bytes) →
    unpack qs ≡ (unpack ps ++ to_bits used bits ++ to_bits width value) ++ replicate (8 * count - (used + width)) false
appended ps qs bytes used width value bits low word count n h f l e w b a z k t = ap unpack (t ∙ ap (λ (m : ℕ). take (m + count) (ps ++ bytes)) k ∙ take-append-add ps bytes count) ∙ unpack-append ps (take count bytes)
    ∙ ap (λ bs. unpack ps ++ bs) (sym (unpack-take count bytes) ∙ ap (λ bs. take (8 * count) bs) (ap unpack b ∙ unpack-bytes 8 word ∙ ap (λ (m : ℕ). to_bits m word) (sym word_size-is) ∙ word_bits used width value bits low word h f l e w)
    ∙ ap (λ (m : ℕ). take m (mine ++ replicate (64 - all) false)) (let i : 8 * count ≡ length mine + (8 * count - all) = omega (arith, mine_length) in i)
    ∙ take-append-add mine (replicate (64 - all) false) (8 * count - all) ∙ ap (λ bs. mine ++ bs) (take-replicate (8 * count - all) (64 - all) false (omega arith)))
    ∙ sym (append_assoc (unpack ps) mine (replicate (8 * count - all) false)) ∙ ap (λ bs. bs ++ replicate (8 * count - all) false) (sym (append_assoc (unpack ps) (to_bits used bits) (to_bits width value)))
  where
    all : ℕ
    all = used + width

    mine : Bits
    mine = to_bits used bits ++ to_bits width value

    mine_length : length mine ≡ all
    mine_length = length-append (to_bits used bits) (to_bits width value) ∙ ap₂ (λ (i j : ℕ). i + j) (length-to_bits used bits) (length-to_bits width value)

-- full octets and a word's first bits are what octets are filled with
pub record AreFront (spare used bits : ℕ) (ps os : List ℕ) : Type 0 where
  pub same : unpack ps ++ to_bits used bits ≡ filled spare os
  pub few : used < 8
  pub below : bits < 2 ^ used

pub front_popped : (spare used bits last : ℕ) (ps os : List ℕ) → 0 < spare → spare < 8 → last < 2 ^ 8 → os ≡ ps ++ last ∷ [] → used ≡ 8 - spare → bits ≡ last / 2 ^ spare → AreFront spare used bits ps os
front_popped spare used bits last ps os h l f e u b = record {
  same = ap₂ (λ (m n : ℕ). unpack ps ++ to_bits m n) u b ∙ sym (ap (filled spare) e ∙ last_filled spare ps last l);
  few = omega arith;
  below = subst (λ (n : ℕ). bits < 2 ^ n) (sym u) (subst (λ (n : ℕ). n < 2 ^ (8 - spare)) (sym b) (shr_below last (8 - spare) spare (subst (λ (n : ℕ). last < 2 ^ n) (let i : 8 ≡ 8 - spare + spare = omega arith in i) f)));
}

pub front_full : (spare used bits : ℕ) (ps os : List ℕ) → spare ≡ 0 → used ≡ 0 → bits ≡ 0 → ps ≡ os → AreFront spare used bits ps os
front_full spare used bits ps os h u b e = record {
  same = ap₂ (λ (m n : ℕ). unpack ps ++ to_bits m n) u b ∙ append-nil (unpack ps) ∙ ap unpack e ∙ sym (ap (λ (n : ℕ). filled n os) h ∙ filled_all os);
  few = omega arith;
  below = subst (λ (n : ℕ). bits < 2 ^ n) (sym u) (omega arith);
}

-- ---- a number put into the last octet

last_is : (os : List ℕ) (n : ℕ) → length os ≡ n + 1 → os ≡ take n os ++ get_or os n 0 ∷ []
last_is os n e = sym (sym (take_more os n 0 (omega arith)) ∙ take_all (n + 1) os (omega arith))

set_last : (os : List ℕ) (n v : ℕ) → length os ≡ n + 1 → set os n v ≡ take n os ++ v ∷ []
set_last os n v e = set_split os n v (omega arith) ∙ ap (λ qs. take n os ++ v ∷ qs) (drop_all (suc n) os (omega arith))

pub record Put (spare width value v n : ℕ) (os : List ℕ) : Type 0 where
  pub fits : v < 2 ^ 8
  pub bits : AreFilledBy (filled spare os ++ to_bits width value) (spare - width) (set os n v)

pub put_last : (spare width value used low v n : ℕ) (os : List ℕ) → spare < 8 → width ≤ spare → length os ≡ n + 1 → get_or os n 0 < 2 ^ 8 → used ≡ get_or os n 0 / 2 ^ spare → low ≡ value % 2 ^ width →
    v ≡ bit_or (used * 2 ^ width % 2 ^ 64) low * 2 ^ (spare - width) % 2 ^ 64 → Put spare width value v n os
put_last spare width value used low v n os h f l s u e w = record {
  fits = subst (λ (m : ℕ). m < 2 ^ 8) (sym is) (subst (λ (m : ℕ). both * 2 ^ rest < 2 ^ m) eight (shl_below both (mine + width) rest below));
  bits = record {
    few = omega arith;
    zeros = ap unpack (set_last os n v l) ∙ unpack-append (take n os) (v ∷ []) ∙ ap (λ bs. unpack (take n os) ++ bs) (append-nil (to_bits 8 v) ∙ octet)
        ∙ sym (append_assoc (unpack (take n os)) (to_bits mine used ++ to_bits width value) (replicate rest false))
        ∙ ap (λ bs. bs ++ replicate rest false) (sym (append_assoc (unpack (take n os)) (to_bits mine used) (to_bits width value)) ∙ ap (λ bs. bs ++ to_bits width value) front);
  };
}
  where
    mine : ℕ
    mine = 8 - spare

    rest : ℕ
    rest = spare - width

    both : ℕ
    both = used * 2 ^ width + low

    eight : mine + width + rest ≡ 8
    eight = omega arith

    used_below : used < 2 ^ mine
    used_below = subst (λ (m : ℕ). m < 2 ^ mine) (sym u) (shr_below (get_or os n 0) mine spare (subst (λ (m : ℕ). get_or os n 0 < 2 ^ m) (let i : 8 ≡ mine + spare = omega arith in i) s))

    small : low < 2 ^ width
    small = let m = mod-lt value (pow_pos width) in omega arith

    below : both < 2 ^ (mine + width)
    below = behind used low mine width used_below small

    is : v ≡ both * 2 ^ rest
    is = w ∙ ap (λ (m : ℕ). m * 2 ^ rest % 2 ^ 64) (put_after 64 used low mine width used_below small (omega arith)) ∙ shl_whole both (mine + width) rest 64 below (omega arith)

    low_same : to_bits width low ≡ to_bits width value
    low_same = to_bits-same width low value (ap (λ (m : ℕ). m % 2 ^ width) e ∙ mod-eq_of_lt (mod-lt value (pow_pos width)))

    octet : to_bits 8 v ≡ (to_bits mine used ++ to_bits width value) ++ replicate rest false
    octet = ap₂ to_bits (sym eight) (is ∙ (let i : both * 2 ^ rest ≡ both * 2 ^ rest + 0 = omega arith in i)) ∙ to_bits-join (mine + width) rest both 0 (pow_pos rest)
        ∙ ap₂ (λ bs cs. bs ++ cs) (to_bits-join mine width used low small ∙ ap (λ bs. to_bits mine used ++ bs) low_same) (to_bits-zeros rest)

    front : unpack (take n os) ++ to_bits mine used ≡ filled spare os
    front = ap (λ (m : ℕ). unpack (take n os) ++ to_bits mine m) u ∙ sym (ap (filled spare) (last_is os n l) ∙ last_filled spare (take n os) (get_or os n 0) h)

pub octet_below : (os : List ℕ) (i : ℕ) → AreOctets os → i < length os → get_or os i 0 < 2 ^ 8
octet_below [] i h l = absurd (omega arith)
octet_below (o ∷ os) zero h l = h.0
octet_below (o ∷ os) (suc i) h l = octet_below os i h.1 (omega arith)
