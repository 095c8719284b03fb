-- Fields that are put in the place of spare bits.
use Rattle.std.proofs.Common.{zero, suc, ◌≡◌, refl, sym, ap, ap₂, ◌∙◌, subst, ℕ, ◌+◌, ◌-◌, ◌*◌, ◌/◌, ◌%◌, ◌^◌, ◌<◌, ◌≤◌, false, List, ◌∷◌, ◌++◌, length, take, drop, replicate, get_or, arith, append_assoc, append-nil, length-append, length-drop, length-take, bit_or}
use borrow.Rule.Slice.PartMut.{put_mid}
use Rattle.std.proofs.lemmas.List.{drop-drop, drop-replicate, replicate-append-replicate, take-append-le, take-replicate, take_at}
use Rattle.std.proofs.lemmas.Nat.{shr_below}
use Rattle.std.proofs.Math.Seq.{drop-append-add, drop-cons, take-append-add}
use Rattle.std.specs.Int.{w64, to_be_bytes}
use Rattle.rasn_types.specs.Bits.{Bits, to_bits, unpack}
use Rattle.rasn_types.proofs.Bits.{length-to_bits, length-unpack, to_bits-split, unpack-append}
use Rattle.rasn_types.proofs.Packing.{unpack-take}
use Rattle.per_bits.specs.Octets.{filled, AreFilledBy, AreKept, HaveRoom}
use Rattle.per_bits.proofs.Joins.{word_bits}
use Rattle.per_bits.proofs.Readers.{filled_length, room_there, split_at}
use Rattle.per_bits.proofs.Words.{to_bits-zeros, unpack-bytes, unpack-drop, word_size-is}

-- ---- octets all bits of which are spare

zeros_after : (spare k : ℕ) (os : List ℕ) → AreKept spare os → 8 * length os - spare ≤ 8 * k → unpack (drop k os) ≡ replicate (8 * length os - 8 * k) false
zeros_after spare k os h l = sym (unpack-drop k os) ∙ ap (λ bs. drop (8 * k) bs) h.zeros
    ∙ ap (λ (n : ℕ). drop n (filled spare os ++ replicate spare false)) (let e : 8 * k ≡ length (filled spare os) + more = omega (arith, filled_length spare os) in e)
    ∙ drop-append-add (filled spare os) (replicate spare false) more ∙ drop-replicate more spare false
    ∙ ap (λ (n : ℕ). replicate n false) (let e : spare - more ≡ 8 * length os - 8 * k = omega (arith, filled_length spare os, room_there h) in e)
  where
    more : ℕ
    more = 8 * k - length (filled spare os)

-- they are cut off
pub cut : (spare n : ℕ) (os qs : List ℕ) → AreKept spare os → n ≡ length os - spare / 8 → qs ≡ take n os → AreFilledBy (filled spare os) (spare % 8) qs
cut spare n os qs h e q = record {
  few = omega arith;
  zeros = ap unpack q ∙ sym (unpack-take n os) ∙ ap (λ bs. take (8 * n) bs) h.zeros
      ∙ ap (λ (m : ℕ). take m (filled spare os ++ replicate spare false)) (let i : 8 * n ≡ length (filled spare os) + spare % 8 = omega (arith, filled_length spare os, room_there h) in i)
      ∙ take-append-add (filled spare os) (replicate spare false) (spare % 8) ∙ ap (λ bs. filled spare os ++ bs) (take-replicate (spare % 8) spare false (omega arith));
}

pub unpack-zeros : (k : ℕ) → unpack (replicate k 0) ≡ replicate (8 * k) false
unpack-zeros zero = refl
unpack-zeros (suc k) = ap₂ (λ bs cs. bs ++ cs) (to_bits-zeros 8) (unpack-zeros k) ∙ replicate-append-replicate 8 (8 * k) false ∙ ap (λ (n : ℕ). replicate n false) (let e : 8 + 8 * k ≡ 8 * suc k = omega arith in e)

-- zeros are put after them
pub zeros_added : (spare more k : ℕ) (os qs : List ℕ) → AreKept spare os → spare < 192 → k ≡ 40 → more ≡ spare + 320 → qs ≡ os ++ replicate k 0 → HaveRoom (filled spare os) more qs
zeros_added spare more k os qs h l f m q = record {
  few = omega arith;
  zeros = ap unpack q ∙ unpack-append os (replicate k 0) ∙ ap₂ (λ bs cs. bs ++ cs) h.zeros (unpack-zeros k) ∙ append_assoc (filled spare os) (replicate spare false) (replicate (8 * k) false)
      ∙ ap (λ bs. filled spare os ++ bs) (replicate-append-replicate spare (8 * k) false ∙ ap (λ (n : ℕ). replicate n false) (let e : spare + 8 * k ≡ more = omega arith in e));
}

-- some of them are taken
pub zeros_taken : {bits : Bits} {spare count : ℕ} {os : List ℕ} → HaveRoom bits spare os → count ≤ spare → HaveRoom (bits ++ replicate count false) (spare - count) os
zeros_taken {bits} {spare} {count} h l = record {
  few = omega (arith, h.few);
  zeros = h.zeros ∙ ap (λ bs. bits ++ bs) (ap (λ (n : ℕ). replicate n false) (let e : spare ≡ count + (spare - count) = omega arith in e) ∙ sym (replicate-append-replicate count (spare - count) false))
      ∙ sym (append_assoc bits (replicate count false) (replicate (spare - count) false));
}

-- ---- a field

-- the bits of octets in front of a place
front_is : (used place octet : ℕ) (os : List ℕ) → used ≤ 8 → place < length os → octet ≡ get_or os place 0 →
    take (8 * place + used) (unpack os) ≡ unpack (take place os) ++ to_bits used (octet / 2 ^ (8 - used))
front_is used place octet os h l e = split_at (8 * place) (8 * place + used) (unpack os) (omega arith)
    ∙ ap₂ (λ bs cs. bs ++ cs) (unpack-take place os) (ap (λ (n : ℕ). take n (drop (8 * place) (unpack os))) (let i : 8 * place + used - 8 * place ≡ used = omega arith in i)
    ∙ ap (λ bs. take used bs) (unpack-drop place os ∙ ap unpack (drop-cons os place 0 l ∙ ap (λ (n : ℕ). n ∷ drop (suc place) os) (sym e)))
    ∙ take-append-le used (to_bits 8 octet) (unpack (drop (suc place) os)) (omega (arith, length-to_bits 8 octet))
    ∙ ap (λ bs. take used bs) (ap (λ (n : ℕ). to_bits n octet) (let i : 8 ≡ used + (8 - used) = omega arith in i) ∙ to_bits-split used (8 - used) octet)
    ∙ take_at (to_bits used (octet / 2 ^ (8 - used))) (to_bits (8 - used) octet) used (length-to_bits used (octet / 2 ^ (8 - used))))

-- a word of eight octets is put in the middle of others
mid_put : (n place len : ℕ) (now ys rest : List ℕ) → n ≡ length now → len ≡ 8 → length ys ≡ 8 → place + 8 ≤ length now → take n (put_mid place len now ys ++ rest) ≡ take place now ++ (ys ++ drop 8 (drop place now))
mid_put n place len now ys rest e l y h = take_at (put_mid place len now ys) rest n (length-append (take place now) (ys ++ drop len (drop place now))
    ∙ omega (arith, length-take place now, length-append ys (drop len (drop place now)), length-drop len (drop place now), length-drop place now, e, l, y))
    ∙ ap (λ (k : ℕ). take place now ++ (ys ++ drop k (drop place now))) l

word_length : (word : ℕ) (bytes : List ℕ) → bytes ≡ to_be_bytes w64 word → length bytes ≡ 8
word_length word bytes e = let l : length (unpack bytes) ≡ 8 * 8 = ap length (ap unpack e ∙ unpack-bytes 8 word) ∙ length-to_bits (8 * 8) word in omega (arith, length-unpack bytes)

pub field_put : (n len spare width value free used place octet front low word : ℕ) (os now bytes rest : List ℕ) → AreKept spare os → 64 ≤ spare → width ≤ 56 → spare ≤ 8 * free → 8 * free < spare + 8 →
    used ≡ 8 * free - spare → place ≡ length os - free → octet ≡ get_or os place 0 → octet < 2 ^ 8 → front ≡ octet / 2 ^ (8 - used) → low ≡ value % 2 ^ width →
    word ≡ bit_or (front * 2 ^ width % 2 ^ 64) low * 2 % 2 ^ 64 * 2 ^ (63 - (used + width)) % 2 ^ 64 → bytes ≡ to_be_bytes w64 word →
    n ≡ length now → len ≡ 8 → now ≡ os → HaveRoom (filled spare os ++ to_bits width value) (spare - width) (take n (put_mid place len now bytes ++ rest))
field_put n len spare width value free used place octet front low word os now bytes rest h m l a b u p o s f v w y c k i = record {
  few = omega (arith, h.few);
  zeros = ap unpack put ∙ unpack-append (take place os) (bytes ++ drop 8 (drop place os)) ∙ ap (λ bs. before ++ bs) behind
      ∙ sym (append_assoc before (mine ++ field) zeros) ∙ ap (λ bs. bs ++ zeros) (sym (append_assoc before mine field) ∙ ap (λ bs. bs ++ field) (sym same));
}
  where
    before : Bits
    before = unpack (take place os)

    mine : Bits
    mine = to_bits used front

    field : Bits
    field = to_bits width value

    zeros : Bits
    zeros = replicate (spare - width) false

    put : take n (put_mid place len now bytes ++ rest) ≡ take place os ++ (bytes ++ drop 8 (drop place os))
    put = mid_put n place len now bytes rest c k (word_length word bytes y) (let j : length now ≡ length os = ap length i in omega (arith, room_there h))
        ∙ ap (λ ps. take place ps ++ (bytes ++ drop 8 (drop place ps))) i

    same : filled spare os ≡ before ++ mine
    same = ap (λ (n : ℕ). take n (unpack os)) (let i : 8 * length os - spare ≡ 8 * place + used = omega (arith, room_there h) in i)
        ∙ front_is used place octet os (omega arith) (omega (arith, room_there h)) o ∙ ap (λ (n : ℕ). before ++ to_bits used n) (sym f)

    below : front < 2 ^ used
    below = subst (λ (n : ℕ). n < 2 ^ used) (sym f) (shr_below octet used (8 - used) (subst (λ (n : ℕ). octet < 2 ^ n) (let i : 8 ≡ used + (8 - used) = omega arith in i) s))

    written : unpack bytes ≡ (mine ++ field) ++ replicate (64 - (used + width)) false
    written = ap unpack y ∙ unpack-bytes 8 word ∙ ap (λ (n : ℕ). to_bits n word) (sym word_size-is) ∙ word_bits used width value front low word (omega arith) l below v w

    others : unpack (drop 8 (drop place os)) ≡ replicate (8 * length os - 8 * (place + 8)) false
    others = ap unpack (drop-drop 8 place os) ∙ zeros_after spare (place + 8) os h (omega (arith, room_there h))

    behind : unpack (bytes ++ drop 8 (drop place os)) ≡ (mine ++ field) ++ zeros
    behind = unpack-append bytes (drop 8 (drop place os)) ∙ ap₂ (λ bs cs. bs ++ cs) written others
        ∙ append_assoc (mine ++ field) (replicate (64 - (used + width)) false) (replicate (8 * length os - 8 * (place + 8)) false)
        ∙ ap (λ bs. (mine ++ field) ++ bs) (replicate-append-replicate (64 - (used + width)) (8 * length os - 8 * (place + 8)) false
        ∙ ap (λ (n : ℕ). replicate n false) (let i : 64 - (used + width) + (8 * length os - 8 * (place + 8)) ≡ spare - width = omega (arith, room_there h) in i))

-- ---- a number that is put in parts

pub parts_put : (spare width left value : ℕ) (os qs : List ℕ) → left ≡ 0 → AreKept (spare - (width - left)) qs →
    filled (spare - (width - left)) qs ++ to_bits left value ≡ filled spare os ++ to_bits width value → HaveRoom (filled spare os ++ to_bits width value) (spare - width) qs
parts_put spare width left value os qs z h e = record {
  few = subst (λ (n : ℕ). n < 512) is h.few;
  zeros = h.zeros ∙ ap₂ (λ bs (n : ℕ). bs ++ replicate n false) (sym (append-nil (filled (spare - (width - left)) qs)) ∙ ap (λ (n : ℕ). filled (spare - (width - left)) qs ++ to_bits n value) (sym z) ∙ e) is;
}
  where
    is : spare - (width - left) ≡ spare - width
    is = omega arith
