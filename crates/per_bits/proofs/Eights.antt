-- The low bits of eight octets at a time.
use Rattle.std.proofs.Common.{◌≡◌, refl, sym, ap, ap₂, ◌∙◌, subst, ℕ, zero, suc, ◌+◌, ◌-◌, ◌*◌, ◌/◌, ◌%◌, ◌^◌, ◌<◌, ◌≤◌, false, List, [], ◌∷◌, ◌++◌, length, take, drop, replicate, get_or, arith, pow_pos, pow-add, mod-eq_of_lt, mod-lt, mul_assoc, mul_comm, append_assoc, append-nil, length-append, length-drop, length-take, bit_or}
use borrow.Rule.Slice.PartMut.{put_mid}
use Rattle.std.proofs.lemmas.List.{drop_all, drop_at, drop-append-le, replicate-append-replicate, take-take, length-replicate, nil_from_length, take_all, take_at, take_more, take-append-drop, take-append-le, take-replicate}
use Rattle.std.proofs.lemmas.Nat.{mul-le, mod_low, mod-pow-add, or_shifted, shl-shr, shl_below, shl_whole, shr_below, shr_high, shr_split}
use Rattle.std.proofs.Math.Nat.{add-mul}
use Rattle.std.proofs.Math.Seq.{take-append-add}
use Rattle.std.specs.Int.{w64, to_be_bytes}
use Rattle.rasn_types.specs.Bits.{Bits, number_of, to_bits, unpack}
use Rattle.rasn_types.proofs.Bits.{length-to_bits, length-unpack, number-to_bits, to_bits-same, to_bits-split, unpack-append}
use Rattle.rasn_types.proofs.Packing.{unpack-take}
use Rattle.per_bits.specs.Lanes.{low_of_each}
use Rattle.per_bits.specs.Octets.{word_size, first_word, filled, low_bits_of, AreFilledBy, ArePadded, HaveZeros}
use Rattle.per_bits.proofs.Joins.{behind}
use Rattle.per_bits.proofs.Lanes.{low_of_low}
use Rattle.per_bits.proofs.LowBits.{length-low, low-append, low-split}
use Rattle.per_bits.proofs.Loops.{filled_more}
use Rattle.per_bits.proofs.Readers.{filled_by, filled_length, spare_there}
use Rattle.per_bits.proofs.Room.{unpack-zeros}
use Rattle.per_bits.proofs.Words.{first_word-long, to_bits-join, to_bits-zeros, unpack-bytes, unpack-drop, word_size-is}

-- ---- octets as fields of a word

-- bits that are the same in two parts, of which the first are as many
parts_same : (xs ys zs ws : Bits) → length xs ≡ length zs → xs ++ ys ≡ zs ++ ws → (xs ≡ zs) × (ys ≡ ws)
parts_same xs ys zs ws l e = (sym (take_at xs ys (length xs) refl) ∙ ap (take (length xs)) e ∙ take_at zs ws (length xs) (sym l), sym (drop_at xs ys (length xs) refl) ∙ ap (drop (length xs)) e ∙ drop_at zs ws (length xs) (sym l))

-- a number's low bits are those of an octet with its last eight
low_same : (w x o : ℕ) → w ≤ 8 → to_bits 8 x ≡ to_bits 8 o → to_bits w x ≡ to_bits w o
low_same w x o h e = to_bits-same w x o (sym (low_of_low w 8 x h) ∙ ap (λ (m : ℕ). m % 2 ^ w) (sym (number-to_bits 8 x) ∙ ap number_of e ∙ number-to_bits 8 o) ∙ low_of_low w 8 o h)

pub octets_low : (w n x : ℕ) (os : List ℕ) → w ≤ 8 → length os ≡ n → to_bits (8 * n) x ≡ unpack os → low_of_each w 8 n x ≡ low_bits_of w os
octets_low w zero x os h l e = ap (low_bits_of w) (sym (nil_from_length os l))
octets_low w (suc n) x os h l e =
    let last = get_or os n 0 in
    let split : os ≡ take n os ++ last ∷ [] = sym (take_all (n + 1) os (omega arith)) ∙ take_more os n 0 (omega arith) in
    let both = parts_same (to_bits (8 * n) (x / 2 ^ 8)) (to_bits 8 x) (unpack (take n os)) (unpack (last ∷ [])) (length-to_bits (8 * n) (x / 2 ^ 8) ∙ omega (arith, length-unpack (take n os), length-take n os))
    (sym (to_bits-split (8 * n) 8 x) ∙ ap (λ (m : ℕ). to_bits m x) (let i : 8 * n + 8 ≡ 8 * suc n = omega arith in i) ∙ e ∙ ap unpack split ∙ unpack-append (take n os) (last ∷ [])) in
    ap₂ (λ bs cs. bs ++ cs) (octets_low w n (x / 2 ^ 8) (take n os) h (length-take n os ∙ omega arith) both.0) (low_same w x last h (both.1 ∙ append-nil (to_bits 8 last)) ∙ sym (append-nil (to_bits w last)))
    ∙ sym (low-append w (take n os) (last ∷ [])) ∙ ap (low_bits_of w) (sym split)

-- what a word of all eight is
pub word_is : (x : ℕ) (os : List ℕ) → 8 ≤ length os → to_bits word_size x ≡ first_word os → to_bits word_size x ≡ unpack (take 8 os)
word_is x os l e = e ∙ first_word-long os (take 8 os) l refl

-- the word of the first eight octets
pub eight_low : (w x : ℕ) (os : List ℕ) → w ≤ 8 → 8 ≤ length os → to_bits word_size x ≡ first_word os → low_of_each w 8 8 x ≡ low_bits_of w (take 8 os)
eight_low w x os h l e = octets_low w 8 x (take 8 os) h (length-take 8 os ∙ omega arith) (ap (λ (m : ℕ). to_bits m x) (sym word_size-is) ∙ word_is x os l e)

-- ---- the bits that go on to the next word

-- a number f in the highest `used` bits of a word, zeros after it
pub record AreFirst (used front : ℕ) (bits : Bits) : Type 0 where
  pub zeros : front % 2 ^ (64 - used) ≡ 0
  pub are : to_bits used (front / 2 ^ (64 - used)) ≡ bits

-- the first word of octets after whose first bits only zeros stand
pub first_bits : (used front : ℕ) (os : List ℕ) → used < 8 → 8 ≤ length os → HaveZeros used os → to_bits word_size front ≡ first_word os → AreFirst used front (take used (unpack os))
first_bits used front os h l z e = record {
  zeros = sym (number-to_bits (64 - used) front) ∙ ap number_of (both.1 ∙ sym (to_bits-zeros (64 - used))) ∙ number-to_bits (64 - used) 0 ∙ mod-eq_of_lt (pow_pos (64 - used));
  are = both.0;
}
  where
    bits : Bits
    bits = take used (unpack os)

    few : length bits ≡ used
    few = length-take used (unpack os) ∙ omega (arith, length-unpack os)

    whole : unpack (take 8 os) ≡ bits ++ replicate (64 - used) false
    whole = sym (unpack-take 8 os) ∙ ap (take 64) z ∙ ap (λ (n : ℕ). take n (bits ++ replicate (8 * length os - used) false)) (let i : 64 ≡ length bits + (64 - used) = omega (arith, few) in i)
        ∙ take-append-add bits (replicate (8 * length os - used) false) (64 - used) ∙ ap (λ bs. bits ++ bs) (take-replicate (64 - used) (8 * length os - used) false (omega arith))

    both : (to_bits used (front / 2 ^ (64 - used)) ≡ bits) × (to_bits (64 - used) front ≡ replicate (64 - used) false)
    both = parts_same (to_bits used (front / 2 ^ (64 - used))) (to_bits (64 - used) front) bits (replicate (64 - used) false) (length-to_bits used (front / 2 ^ (64 - used)) ∙ sym few)
        (sym (to_bits-split used (64 - used) front) ∙ ap (λ (n : ℕ). to_bits n front) (let i : used + (64 - used) ≡ word_size = omega (arith, word_size-is) in i) ∙ word_is front os l e ∙ whole)

-- the bits of such a word
pub first_word_bits : (used front : ℕ) → used < 8 → front % 2 ^ (64 - used) ≡ 0 → to_bits word_size front ≡ to_bits used (front / 2 ^ (64 - used)) ++ replicate (64 - used) false
first_word_bits used front h z = ap (λ (n : ℕ). to_bits n front) (let i : word_size ≡ used + (64 - used) = omega (arith, word_size-is) in i) ∙ to_bits-split used (64 - used) front
    ∙ ap (λ bs. to_bits used (front / 2 ^ (64 - used)) ++ bs) (to_bits-same (64 - used) front 0 (z ∙ sym (mod-eq_of_lt (pow_pos (64 - used)))) ∙ to_bits-zeros (64 - used))

-- a field of `size` bits after them: the word, its first `size` bits, and those that go on
pub record Goes (used size front field word next : ℕ) : Type 0 where
  pub written : take size (to_bits word_size word) ++ to_bits used (next / 2 ^ (64 - used)) ≡ to_bits used (front / 2 ^ (64 - used)) ++ to_bits size field
  pub zeros : next % 2 ^ (64 - used) ≡ 0

pub goes_on : (used size front field word next : ℕ) → used < 8 → size ≤ 56 → front < 2 ^ 64 → front % 2 ^ (64 - used) ≡ 0 → field < 2 ^ size →
    word ≡ bit_or front (field * 2 % 2 ^ 64 * 2 ^ (63 - used - size) % 2 ^ 64) → next ≡ word * 2 ^ size % 2 ^ 64 → Goes used size front field word next
goes_on used size front field word next h l f z b w n = record {
  written = ap₂ (λ bs (m : ℕ). bs ++ to_bits used m) high (ap (λ (m : ℕ). m / 2 ^ (64 - used)) next_is ∙ shr_high (both % 2 ^ used) (64 - used) 0 (pow_pos (64 - used)))
      ∙ ap (λ bs. to_bits size (both / 2 ^ used) ++ bs) (to_bits-same used (both % 2 ^ used) both (mod-eq_of_lt (mod-lt both (pow_pos used)))) ∙ sym (to_bits-split size used both)
      ∙ ap (λ (m : ℕ). to_bits m both) (let i : size + used ≡ used + size = omega arith in i) ∙ to_bits-join used size first field b;
  zeros = ap (λ (m : ℕ). m % 2 ^ (64 - used)) next_is ∙ mod_low (both % 2 ^ used) (64 - used) 0 (pow_pos (64 - used));
}
  where
    up : ℕ
    up = 64 - used - size

    first : ℕ
    first = front / 2 ^ (64 - used)

    both : ℕ
    both = first * 2 ^ size + field

    sum : size + up ≡ 64 - used
    sum = omega arith

    small : first < 2 ^ used
    small = shr_below front used (64 - used) (subst (λ (m : ℕ). front < 2 ^ m) (let i : 64 ≡ used + (64 - used) = omega arith in i) f)

    below : both < 2 ^ (used + size)
    below = behind first field used size small b

    front_is : front ≡ first * 2 ^ (size + up)
    front_is = sym (shr_split front (64 - used)) ∙ ap (λ (m : ℕ). first * 2 ^ (64 - used) + m) z ∙ ap (λ (m : ℕ). first * 2 ^ m + 0) (sym sum) ∙ omega arith

    field_is : field * 2 % 2 ^ 64 * 2 ^ (63 - used - size) % 2 ^ 64 ≡ field * 2 ^ up
    field_is = ap (λ (m : ℕ). m * 2 ^ (63 - used - size) % 2 ^ 64) (shl_whole field size 1 64 b (omega arith)) ∙ shl_whole (field * 2) (size + 1) (63 - used - size) 64 (shl_below field size 1 b) (omega arith)
        ∙ mul_assoc field 2 (2 ^ (63 - used - size)) ∙ ap (λ (m : ℕ). field * m) (sym (pow-add 2 1 (63 - used - size)) ∙ ap (λ (m : ℕ). 2 ^ m) (let i : 1 + (63 - used - size) ≡ up = omega arith in i))

    word_sum : word ≡ both * 2 ^ up
    word_sum = w ∙ ap₂ bit_or front_is field_is ∙ or_shifted first (size + up) (field * 2 ^ up) (shl_below field size up b)
        ∙ ap (λ (m : ℕ). m + field * 2 ^ up) (ap (λ (m : ℕ). first * m) (pow-add 2 size up) ∙ sym (mul_assoc first (2 ^ size) (2 ^ up))) ∙ sym (add-mul (first * 2 ^ size) field (2 ^ up))

    high : take size (to_bits word_size word) ≡ to_bits size (both / 2 ^ used)
    high = ap₂ (λ (m k : ℕ). take size (to_bits m k)) (let i : word_size ≡ used + size + up = omega (arith, word_size-is) in i) (word_sum ∙ (let i : both * 2 ^ up ≡ both * 2 ^ up + 0 = omega arith in i))
        ∙ ap (take size) (to_bits-join (used + size) up both 0 (pow_pos up) ∙ ap (λ bs. bs ++ to_bits up 0) (ap (λ (m : ℕ). to_bits m both) (let i : used + size ≡ size + used = omega arith in i) ∙ to_bits-split size used both)
        ∙ append_assoc (to_bits size (both / 2 ^ used)) (to_bits used both) (to_bits up 0)) ∙ take_at (to_bits size (both / 2 ^ used)) (to_bits used both ++ to_bits up 0) size (length-to_bits size (both / 2 ^ used))

    next_is : next ≡ both % 2 ^ used * 2 ^ (64 - used) + 0
    next_is = n ∙ ap (λ (m : ℕ). m * 2 ^ size % 2 ^ 64) word_sum ∙ ap (λ (m : ℕ). m % 2 ^ 64) (mul_assoc both (2 ^ up) (2 ^ size) ∙ ap (λ (m : ℕ). both * m) (sym (pow-add 2 up size) ∙ ap (λ (m : ℕ). 2 ^ m) (let i : up + size ≡ 64 - used = omega arith in i)))
        ∙ ap (λ (m : ℕ). both * 2 ^ (64 - used) % 2 ^ m) (let i : 64 ≡ used + (64 - used) = omega arith in i) ∙ mod-pow-add (both * 2 ^ (64 - used)) used (64 - used)
        ∙ ap₂ (λ (m k : ℕ). m % 2 ^ used * 2 ^ (64 - used) + k) (shl-shr both (64 - used)) (ap (λ (m : ℕ). m % 2 ^ (64 - used)) (let i : both * 2 ^ (64 - used) ≡ both * 2 ^ (64 - used) + 0 = omega arith in i) ∙ mod_low both (64 - used) 0 (pow_pos (64 - used)))

-- ---- a word that is written

-- octets in which a word of eight was written
pub middle : (place k : ℕ) (octets bytes : List ℕ) → k ≡ 8 → place + 8 ≤ length octets → put_mid place k octets bytes ≡ take place octets ++ (bytes ++ drop 8 (drop place octets))
middle place k octets bytes e h = ap (λ (n : ℕ). take place octets ++ (bytes ++ drop n (drop place octets))) e

pub bytes_bits : (word : ℕ) (bytes : List ℕ) → bytes ≡ to_be_bytes w64 word → unpack bytes ≡ to_bits word_size word
bytes_bits word bytes e = ap unpack e ∙ unpack-bytes 8 word ∙ ap (λ (n : ℕ). to_bits n word) (sym word_size-is)

pub bytes_eight : (word : ℕ) (bytes : List ℕ) → bytes ≡ to_be_bytes w64 word → length bytes ≡ 8
bytes_eight word bytes e = let l : length (unpack bytes) ≡ word_size = ap length (bytes_bits word bytes e) ∙ length-to_bits word_size word in omega (arith, length-unpack bytes, word_size-is)

pub length_put : (place k word : ℕ) (octets bytes : List ℕ) → k ≡ 8 → place + 8 ≤ length octets → bytes ≡ to_be_bytes w64 word → length (put_mid place k octets bytes) ≡ length octets
length_put place k word octets bytes e h b = ap length (middle place k octets bytes e h) ∙ length-append (take place octets) (bytes ++ drop 8 (drop place octets))
    ∙ omega (arith, length-take place octets, length-append bytes (drop 8 (drop place octets)), length-drop 8 (drop place octets), length-drop place octets, bytes_eight word bytes b)

-- the first octets of those
front_put : (place k w word : ℕ) (octets bytes : List ℕ) → k ≡ 8 → w ≤ 8 → place + 8 ≤ length octets → bytes ≡ to_be_bytes w64 word → unpack (take (place + w) (put_mid place k octets bytes)) ≡ unpack (take place octets) ++ take (8 * w) (to_bits word_size word)
front_put place k w word octets bytes e l h b = ap (λ os. unpack (take (place + w) os)) (middle place k octets bytes e h)
    ∙ ap (λ (n : ℕ). unpack (take (n + w) (take place octets ++ behind))) (let i : place ≡ length (take place octets) = omega (arith, length-take place octets) in i)
    ∙ ap unpack (take-append-add (take place octets) behind w) ∙ unpack-append (take place octets) (take w behind)
    ∙ ap (λ bs. unpack (take place octets) ++ bs) (ap unpack (take-append-le w bytes (drop 8 (drop place octets)) (omega (arith, bytes_eight word bytes b))) ∙ sym (unpack-take w bytes) ∙ ap (take (8 * w)) (bytes_bits word bytes b))
  where
    behind : List ℕ
    behind = bytes ++ drop 8 (drop place octets)

-- eight octets more
pub eight_more : (used w place k front loaded field word next : ℕ) (octets bytes rest left : List ℕ) (all : Bits) → left ≡ drop 8 rest → used < 8 → w < 8 → k ≡ 8 → place + 8 ≤ length octets → 8 ≤ length rest → front < 2 ^ 64 → front % 2 ^ (64 - used) ≡ 0 →
    to_bits word_size loaded ≡ first_word rest → to_bits (8 * w) field ≡ low_of_each w 8 8 loaded → field < 2 ^ (8 * w) →
    word ≡ bit_or front (field * 2 % 2 ^ 64 * 2 ^ (63 - used - 8 * w) % 2 ^ 64) → bytes ≡ to_be_bytes w64 word → next ≡ word * 2 ^ (8 * w) % 2 ^ 64 →
    (unpack (take place octets) ++ to_bits used (front / 2 ^ (64 - used))) ++ low_bits_of w rest ≡ all →
    (next % 2 ^ (64 - used) ≡ 0) × ((unpack (take (place + w) (put_mid place k octets bytes)) ++ to_bits used (next / 2 ^ (64 - used))) ++ low_bits_of w left ≡ all)
eight_more used w place k front loaded field word next octets bytes rest left all i h f e l m fits z load squeezed below wd b n whole = (goes.zeros, ap (λ os. (unpack (take (place + w) (put_mid place k octets bytes)) ++ to_bits used (next / 2 ^ (64 - used))) ++ low_bits_of w os) i ∙ bits)
  where
    goes : Goes used (8 * w) front field word next
    goes = goes_on used (8 * w) front field word next h (omega arith) fits z below wd n

    there : Bits
    there = unpack (take place octets)

    first : Bits
    first = to_bits used (front / 2 ^ (64 - used))

    field_is : to_bits (8 * w) field ≡ low_bits_of w (take 8 rest)
    field_is = squeezed ∙ eight_low w loaded rest (omega arith) m load

    bits : (unpack (take (place + w) (put_mid place k octets bytes)) ++ to_bits used (next / 2 ^ (64 - used))) ++ low_bits_of w (drop 8 rest) ≡ all
    bits = ap (λ bs. (bs ++ to_bits used (next / 2 ^ (64 - used))) ++ low_bits_of w (drop 8 rest)) (front_put place k w word octets bytes e (omega arith) l b)
        ∙ ap (λ bs. bs ++ low_bits_of w (drop 8 rest)) (append_assoc there (take (8 * w) (to_bits word_size word)) (to_bits used (next / 2 ^ (64 - used))) ∙ ap (λ bs. there ++ bs) (goes.written ∙ ap (λ bs. first ++ bs) field_is)
        ∙ sym (append_assoc there first (low_bits_of w (take 8 rest)))) ∙ append_assoc (there ++ first) (low_bits_of w (take 8 rest)) (low_bits_of w (drop 8 rest))
        ∙ ap (λ bs. (there ++ first) ++ bs) (sym (low-split w 8 rest)) ∙ whole

-- the last bits that go on
pub last_put : (used w place k front : ℕ) (octets bytes rest : List ℕ) (all : Bits) → used < 8 → k ≡ 8 → length octets ≡ place + 8 → length rest ≡ 0 → front % 2 ^ (64 - used) ≡ 0 → bytes ≡ to_be_bytes w64 front →
    (unpack (take place octets) ++ to_bits used (front / 2 ^ (64 - used))) ++ low_bits_of w rest ≡ all → unpack (put_mid place k octets bytes) ≡ all ++ replicate (64 - used) false
last_put used w place k front octets bytes rest all h e l m z b whole =
    ap unpack (sym (take_all (place + 8) (put_mid place k octets bytes) (omega (arith, length_put place k front octets bytes e (omega arith) b)))) ∙ front_put place k 8 front octets bytes e (omega arith) (omega arith) b
    ∙ ap (λ bs. unpack (take place octets) ++ bs) (take_all 64 (to_bits word_size front) (omega (arith, length-to_bits word_size front, word_size-is)) ∙ first_word_bits used front h z)
    ∙ sym (append_assoc (unpack (take place octets)) (to_bits used (front / 2 ^ (64 - used))) (replicate (64 - used) false))
    ∙ ap (λ bs. bs ++ replicate (64 - used) false) (sym (append-nil (unpack (take place octets) ++ to_bits used (front / 2 ^ (64 - used))))
    ∙ ap (λ os. (unpack (take place octets) ++ to_bits used (front / 2 ^ (64 - used))) ++ low_bits_of w os) (sym (nil_from_length rest m)) ∙ whole)

-- eight fewer are left
pub eight_less : (w n m : ℕ) → n ≡ m + 8 → n / 8 * w ≡ m / 8 * w + w
eight_less w n m e = ap (λ (k : ℕ). k * w) (let i : n / 8 ≡ m / 8 + 1 = omega arith in i) ∙ add-mul (m / 8) 1 w ∙ omega arith

pub none_left : (w n : ℕ) → n ≡ 0 → n / 8 * w ≡ 0
none_left w n e = ap (λ (k : ℕ). k / 8 * w) e ∙ omega arith

-- ---- zeros that are put after octets, and cut back

-- octets after which zeros were put, from the first octet on in which a bit is spare
pub record AreBegun (spare begun begin : ℕ) (os part : List ℕ) : Type 0 where
  pub zeros : HaveZeros (8 * begun - spare) part
  pub bits : unpack (take begin os) ++ take (8 * begun - spare) (unpack part) ≡ filled spare os

pub begun_zeros : (spare begun begin k : ℕ) (os now part : List ℕ) → ArePadded spare os → spare ≤ 8 * begun → 8 * begun < spare + 8 → begin ≡ length os - begun → now ≡ os ++ replicate k 0 → part ≡ drop begin now → AreBegun spare begun begin os part
begun_zeros spare begun begin k os now part h l m b n p = record {
  zeros = there ∙ ap₂ (λ bs (m : ℕ). bs ++ replicate m false) (sym first_is) (let i : spare + 8 * k ≡ 8 * length part - used = omega (arith, part_length, enough) in i);
  bits = ap₂ (λ bs cs. bs ++ cs) (sym (unpack-take begin os) ∙ sym (take-take (8 * begin) (8 * length os - spare) (unpack os) (omega (arith, enough)))) first_is ∙ take-append-drop (8 * begin) (filled spare os);
}
  where
    used : ℕ
    used = 8 * begun - spare

    first : Bits
    first = drop (8 * begin) (filled spare os)

    enough : spare ≤ 8 * length os
    enough = spare_there spare os h

    first_length : length first ≡ used
    first_length = length-drop (8 * begin) (filled spare os) ∙ omega (arith, filled_length spare os, enough)

    part_length : length part ≡ length os + k - begin
    part_length = ap length p ∙ length-drop begin now ∙ ap (λ qs. length qs - begin) n ∙ ap (λ (m : ℕ). m - begin) (length-append os (replicate k 0) ∙ ap (λ (m : ℕ). length os + m) (length-replicate k 0))

    there : unpack part ≡ first ++ replicate (spare + 8 * k) false
    there = ap unpack p ∙ sym (unpack-drop begin now) ∙ ap (λ qs. drop (8 * begin) (unpack qs)) n
        ∙ ap (drop (8 * begin)) (unpack-append os (replicate k 0) ∙ ap₂ (λ bs cs. bs ++ cs) h.zeros (unpack-zeros k) ∙ append_assoc (filled spare os) (replicate spare false) (replicate (8 * k) false)
        ∙ ap (λ bs. filled spare os ++ bs) (replicate-append-replicate spare (8 * k) false)) ∙ drop-append-le (8 * begin) (filled spare os) (replicate (spare + 8 * k) false) (omega (arith, filled_length spare os, enough))

    first_is : take used (unpack part) ≡ first
    first_is = ap (take used) there ∙ take_at first (replicate (spare + 8 * k) false) used first_length

-- how many bits some eights have
whole_low : (w n : ℕ) → n % 8 ≡ 0 → w * n ≡ 8 * (n / 8 * w)
whole_low w n e = ap (λ (m : ℕ). w * m) (let i : n ≡ 8 * (n / 8) = omega arith in i) ∙ mul_comm w (8 * (n / 8)) ∙ mul_assoc 8 (n / 8) w

-- the octets that are left once what was put there is cut back
pub eights_put : (spare begun begin w len k n m : ℕ) (os now part ys rest from new : List ℕ) → ArePadded spare os → spare ≤ 8 * begun → 8 * begun < spare + 8 → begin ≡ length os - begun → now ≡ os ++ replicate k 0 → part ≡ drop begin now → AreBegun spare begun begin os part →
    unpack ys ≡ (take (8 * begun - spare) (unpack part) ++ low_bits_of w from) ++ replicate (64 - (8 * begun - spare)) false → length from % 8 ≡ 0 →
    n ≡ length now → len ≡ length now - begin → length ys ≡ length now - begin → m ≡ begin + length from / 8 * w + begun → new ≡ take m (take n (put_mid begin len now ys ++ rest)) →
    AreFilledBy (filled spare os ++ low_bits_of w from) spare new
eights_put spare begun begin w len k n m os now part ys rest from new h l f b e p a y z c d g i t = record {
  few = h.few;
  zeros = ap unpack (t ∙ ap (take m) there) ∙ ap (λ (j : ℕ). unpack (take j (take begin now ++ ys))) (let j : m ≡ length (take begin now) + more = omega (arith, i, front_length) in j)
      ∙ ap unpack (take-append-add (take begin now) ys more) ∙ unpack-append (take begin now) (take more ys) ∙ ap₂ (λ qs bs. unpack qs ++ bs) front_is cut
      ∙ sym (append_assoc (unpack (take begin os)) (first ++ low) (replicate spare false)) ∙ ap (λ bs. bs ++ replicate spare false) (sym (append_assoc (unpack (take begin os)) first low) ∙ ap (λ bs. bs ++ low) a.bits);
}
  where
    used : ℕ
    used = 8 * begun - spare

    more : ℕ
    more = length from / 8 * w + begun

    first : Bits
    first = take used (unpack part)

    low : Bits
    low = low_bits_of w from

    enough : spare ≤ 8 * length os
    enough = spare_there spare os h

    long : length now ≡ length os + k
    long = ap length e ∙ length-append os (replicate k 0) ∙ ap (λ (j : ℕ). length os + j) (length-replicate k 0)

    front_length : length (take begin now) ≡ begin
    front_length = length-take begin now ∙ omega (arith, long)

    front_is : take begin now ≡ take begin os
    front_is = ap (take begin) e ∙ take-append-le begin os (replicate k 0) (omega arith)

    there : take n (put_mid begin len now ys ++ rest) ≡ take begin now ++ ys
    there = ap (λ (j : ℕ). take n ((take begin now ++ (ys ++ drop j (drop begin now))) ++ rest)) d
        ∙ ap (λ qs. take n ((take begin now ++ (ys ++ qs)) ++ rest)) (drop_all (length now - begin) (drop begin now) (omega (arith, length-drop begin now)))
        ∙ ap (λ qs. take n ((take begin now ++ qs) ++ rest)) (append-nil ys) ∙ take_at (take begin now ++ ys) rest n (length-append (take begin now) ys ∙ omega (arith, front_length, g, c, long))

    first_length : length first ≡ used
    first_length = length-take used (unpack part) ∙ omega (arith, length-unpack part, (let j : length part ≡ length now - begin = ap length p ∙ length-drop begin now in j), long, enough)

    cut : unpack (take more ys) ≡ (first ++ low) ++ replicate spare false
    cut = sym (unpack-take more ys) ∙ ap (take (8 * more)) y
        ∙ ap (λ (j : ℕ). take j ((first ++ low) ++ replicate (64 - used) false)) (let j : 8 * more ≡ length (first ++ low) + spare = omega (arith, length-append first low, first_length, length-low w from, whole_low w (length from) z) in j)
        ∙ take-append-add (first ++ low) (replicate (64 - used) false) spare ∙ ap (λ bs. (first ++ low) ++ bs) (take-replicate spare (64 - used) false (omega (arith, h.few)))

-- the eights and what is left
pub both_put : (spare unused w n : ℕ) (os ps qs from rest : List ℕ) (field : ℕ) → AreFilledBy (filled spare os ++ low_bits_of w (take n from)) spare ps → rest ≡ drop n from → to_bits (w * length rest) field ≡ low_bits_of w rest →
    AreFilledBy (filled spare ps ++ to_bits (w * length rest) field) unused qs → AreFilledBy (filled spare os ++ low_bits_of w from) unused qs
both_put spare unused w n os ps qs from rest field h r b f =
    subst (λ bs. AreFilledBy bs unused qs) (ap₂ (λ bs cs. bs ++ cs) (filled_by h) (b ∙ ap (low_bits_of w) r) ∙ append_assoc (filled spare os) (low_bits_of w (take n from)) (low_bits_of w (drop n from)) ∙ ap (λ bs. filled spare os ++ bs) (sym (low-split w n from))) f

-- how long the octets are after the eights
pub eights_length : (spare w : ℕ) (os ps from : List ℕ) → ArePadded spare os → w ≤ 8 → AreFilledBy (filled spare os ++ low_bits_of w from) spare ps → length ps ≤ length os + length from
eights_length spare w os ps from h l f = let m : w * length from ≤ 8 * length from = mul-le w (length from) 8 (length from) l (omega arith) in omega (arith, filled_more spare spare os ps (low_bits_of w from) h f, length-low w from, m)

-- octets after which zeros were put
pub with_zeros : (n len : ℕ) (os qs : List ℕ) → len ≡ length os → len ≤ n → qs ≡ take n os ++ replicate (n - len) 0 → qs ≡ os ++ replicate (n - len) 0
with_zeros n len os qs l h e = e ∙ ap (λ ps. ps ++ replicate (n - len) 0) (take_all n os (omega arith))
