-- The bits that a reader has left, and the bits that octets are filled with.
use Rattle.std.proofs.Common.{◌≡◌, refl, sym, ap, ap₂, ◌∙◌, ℕ, ◌+◌, ◌-◌, ◌*◌, ◌/◌, ◌%◌, ◌≤◌, ◌<◌, false, IsTrue, nat_eq, eqb-true, eq-eqb, List, [], ◌++◌, length, take, drop, replicate, arith, length-append, length-take, length-drop}
use Rattle.std.proofs.Common.{◌⊎◌, inl, inr}
use Rattle.std.specs.Prelude.{Result, Ok, Err, IsOk, OnErr}
use Rattle.std.proofs.lemmas.Bool.{cases_lt}
use Rattle.std.proofs.lemmas.List.{append-nil, take-take, drop-take, drop-drop, take-append-drop, nil_from_length, take_all, take_at, length-replicate}
use Rattle.std.proofs.lemmas.Slice.{between_to_end}
use Rattle.std.specs.List.{between}
use Rattle.rasn_types.specs.Bits.{Bits, unpack}
use Rattle.rasn_types.proofs.Bits.{length-unpack}
use Rattle.rasn_types.proofs.Packing.{unpack-take}
use Rattle.per_bits.specs.Octets.{filled, first_word, word_size, AreFilledBy, AreKept, ArePadded, AreWithin, AreWholeOctets, HaveRoom, Reading}
use Rattle.per_bits.proofs.Words.{inner-append, inner-front, unpack-drop, word_size-is}

-- ---- readers

pub bits_are : {x y : Reading} → x ≡ y → x.bits ≡ y.bits
bits_are e = ap (λ (x : Reading). x.bits) e

pub place_is : {x y : Reading} → x ≡ y → x.place ≡ y.place
place_is e = ap (λ (x : Reading). x.place) e

pub left_length : (s n : ℕ) (os : List ℕ) → s + n ≤ 8 * length os → length (take n (drop s (unpack os))) ≡ n
left_length s n os h = length-take n (drop s (unpack os)) ∙ omega (arith, length-drop s (unpack os), length-unpack os)

-- how many bits a reader has
pub left_is : (s n : ℕ) (os : List ℕ) (now : Bits) → take n (drop s (unpack os)) ≡ now → AreWithin s n os → length now ≡ n
left_is s n os now e h = ap length (sym e) ∙ left_length s n os h.enough

pub all_left : (os : List ℕ) → take (8 * length os) (unpack os) ≡ unpack os
all_left os = take_all (8 * length os) (unpack os) (omega (arith, length-unpack os))

pub split_at : (k n : ℕ) (xs : Bits) → k ≤ n → take n xs ≡ take k xs ++ take (n - k) (drop k xs)
split_at k n xs h = sym (take-append-drop k (take n xs)) ∙ ap₂ (λ bs cs. bs ++ cs) (take-take k n xs h) (ap (λ (m : ℕ). drop k (take m xs)) (let e : n ≡ k + (n - k) = omega arith in e) ∙ drop-take k (n - k) xs)

-- the bits from place p on, from the octet on in which it stands
pub from_place : (s k p : ℕ) (os : List ℕ) → p ≡ s + k → drop (p % 8) (unpack (between (p / 8) (length os) os)) ≡ drop k (drop s (unpack os))
from_place s k p os e = ap (λ qs. drop (p % 8) (unpack qs)) (between_to_end os (p / 8) (length os) (omega arith)) ∙ ap (λ bs. drop (p % 8) bs) (sym (unpack-drop (p / 8) os))
    ∙ drop-drop (p % 8) (8 * (p / 8)) (unpack os) ∙ ap (λ (n : ℕ). drop n (unpack os)) (let i : 8 * (p / 8) + p % 8 ≡ s + k = omega arith in i) ∙ sym (drop-drop k s (unpack os))

pub taken : (s n k m p : ℕ) (os : List ℕ) → m + k ≡ n → p ≡ s + k →
    take n (drop s (unpack os)) ≡ take k (drop s (unpack os)) ++ take m (drop (p % 8) (unpack (between (p / 8) (length os) os)))
taken s n k m p os h e = split_at k n (drop s (unpack os)) (omega (arith, h)) ∙ ap₂ (λ (i : ℕ) bs. take k (drop s (unpack os)) ++ take i bs) (let i : n - k ≡ m = omega (arith, h) in i) (sym (from_place s k p os e))

-- m bits after the first k of a reader's
pub part_taken : (s n k m p : ℕ) (os : List ℕ) → k + m ≤ n → p ≡ s + k → take m (drop (p % 8) (unpack (between (p / 8) (length os) os))) ≡ take m (drop k (take n (drop s (unpack os))))
part_taken s n k m p os h e =
    let bits = drop s (unpack os) in
    let rest : take m (drop k (take n bits)) ≡ take m (drop k bits) = ap (λ (i : ℕ). take m (drop k (take i bits))) (let i : n ≡ k + (n - k) = omega arith in i) ∙ ap (λ bs. take m bs) (drop-take k (n - k) bits) ∙ take-take m (n - k) (drop k bits) (omega arith) in
    ap (λ bs. take m bs) (from_place s k p os e) ∙ sym rest

-- the front of a front
take_less : (m n : ℕ) (xs : Bits) → m ≤ n → take m (take n xs) ≡ take n (take m xs)
take_less m n xs h = take-take m n xs h ∙ sym (take_all n (take m xs) (omega (arith, length-take m xs)))

pub take_both : (m n : ℕ) (xs : Bits) → take m (take n xs) ≡ take n (take m xs)
take_both m n xs = go (cases_lt m n)
  where
    go : (m < n) ⊎ (n ≤ m) → take m (take n xs) ≡ take n (take m xs)
    go (inl h) = take_less m n xs (omega arith)
    go (inr h) = sym (take_less n m xs h)

-- as many of the first bits as a reader has
pub front_left : (s n : ℕ) (os : List ℕ) (front now : Bits) → take n (drop s (unpack os)) ≡ now → AreWithin s n os → front ≡ take 56 (drop s (first_word os)) → take (length now) front ≡ take 56 now
front_left s n os front now e h f = ap₂ (λ (m : ℕ) bs. take m bs) (left_is s n os now e h) (f ∙ inner-front s 56 word_size all (omega (arith, word_size-is, h.few)))
    ∙ take_both n 56 (drop s all) ∙ ap (λ bs. take 56 bs) (inner-append s n (unpack os) (replicate word_size false) (omega (arith, length-unpack os, h.enough)) ∙ e)
  where
    all : Bits
    all = unpack os ++ replicate word_size false

-- the first bit that is left is in the first octet
pub first_of_octet : (s : ℕ) (os : List ℕ) → s < 8 → take 1 (drop s (unpack (take 1 os))) ≡ take 1 (drop s (unpack os))
first_of_octet s os h = ap (λ bs. take 1 (drop s bs)) (sym (unpack-take 1 os) ∙ ap (λ (n : ℕ). take n (unpack os)) (let e : 8 * 1 ≡ s + (8 - s) = omega arith in e))
    ∙ ap (λ bs. take 1 bs) (drop-take s (8 - s) (unpack os)) ∙ take-take 1 (8 - s) (drop s (unpack os)) (omega arith)

pub empty_iff : (n : ℕ) (xs : Bits) → length xs ≡ n → (IsTrue (nat_eq n 0) → xs ≡ []) × (xs ≡ [] → IsTrue (nat_eq n 0))
empty_iff n xs e = (λ t. nil_from_length xs (e ∙ eqb-true n 0 t), λ t. eq-eqb n 0 (sym e ∙ ap length t))

-- what a reader keeps, where its bits are whole octets
pub are_whole : {s n : ℕ} {os : List ℕ} {now : Reading} → record { bits = take n (drop s (unpack os)); place = s } ≡ now → AreWithin s n os → s ≡ 0 → n % 8 ≡ 0 → AreWholeOctets now
are_whole {s} {n} {os} {now} e h z w = record {
  begins = sym (place_is e) ∙ z;
  ends = ap (λ (k : ℕ). k % 8) (left_is s n os now.bits (bits_are e) h) ∙ w;
}

pub not_begun : (s n : ℕ) (os : List ℕ) {now : Reading} → record { bits = take n (drop s (unpack os)); place = s } ≡ now → ¬ (s ≡ 0) → ¬ AreWholeOctets now
not_begun s n os e h w = h (place_is e ∙ w.begins)

pub not_ended : {s n : ℕ} {os : List ℕ} {now : Reading} → record { bits = take n (drop s (unpack os)); place = s } ≡ now → AreWithin s n os → ¬ (n % 8 ≡ 0) → ¬ AreWholeOctets now
not_ended {s} {n} {os} {now} e h i w = i (ap (λ (k : ℕ). k % 8) (sym (left_is s n os now.bits (bits_are e) h)) ∙ w.ends)

pub whole_octets : (s n : ℕ) (os : List ℕ) {now : Reading} → record { bits = take n (drop s (unpack os)); place = s } ≡ now → s ≡ 0 → n % 8 ≡ 0 → unpack (take (n / 8) os) ≡ now.bits
whole_octets s n os e z w = sym (unpack-take (n / 8) os) ∙ ap (λ (k : ℕ). take k (unpack os)) (let i : 8 * (n / 8) ≡ n = omega arith in i) ∙ ap (λ (k : ℕ). take n (drop k (unpack os))) (sym z) ∙ bits_are e

-- ---- filled octets

pub filled_length : (spare : ℕ) (os : List ℕ) → length (filled spare os) ≡ 8 * length os - spare
filled_length spare os = length-take (8 * length os - spare) (unpack os) ∙ omega (arith, length-unpack os)

pub filled_all : (os : List ℕ) → filled 0 os ≡ unpack os
filled_all os = take_all (8 * length os - 0) (unpack os) (omega (arith, length-unpack os))

-- octets that some bits and zeros after them fill
pub filled_zeros : (spare : ℕ) (os : List ℕ) (bs : Bits) → unpack os ≡ bs ++ replicate spare false → filled spare os ≡ bs
filled_zeros spare os bs h = ap (λ cs. take (8 * length os - spare) cs) h ∙ take_at bs (replicate spare false) (8 * length os - spare) (let l : 8 * length os ≡ length bs + spare = sym (length-unpack os) ∙ ap length h ∙ length-append bs (replicate spare false) ∙ ap (λ (n : ℕ). length bs + n) (length-replicate spare false) in omega arith)

pub filled_by : {spare : ℕ} {os : List ℕ} {bs : Bits} → AreFilledBy bs spare os → filled spare os ≡ bs
filled_by {spare} {os} {bs} h = filled_zeros spare os bs h.zeros

pub padded_by : {spare : ℕ} {os : List ℕ} {bs : Bits} → AreFilledBy bs spare os → ArePadded spare os
padded_by {spare} h = record { few = h.few; zeros = h.zeros ∙ ap (λ cs. cs ++ replicate spare false) (sym (filled_by h)) }

pub zeros_there : (spare : ℕ) (os : List ℕ) → unpack os ≡ filled spare os ++ replicate spare false → spare ≤ 8 * length os
zeros_there spare os h = let l : 8 * length os ≡ length (filled spare os) + spare = sym (length-unpack os) ∙ ap length h ∙ length-append (filled spare os) (replicate spare false) ∙ ap (λ (n : ℕ). length (filled spare os) + n) (length-replicate spare false) in omega arith

pub spare_there : (spare : ℕ) (os : List ℕ) → ArePadded spare os → spare ≤ 8 * length os
spare_there spare os h = zeros_there spare os h.zeros

-- the same of octets with room
pub filled_room : {spare : ℕ} {os : List ℕ} {bs : Bits} → HaveRoom bs spare os → filled spare os ≡ bs
filled_room {spare} {os} {bs} h = filled_zeros spare os bs h.zeros

pub kept_by : {spare : ℕ} {os : List ℕ} {bs : Bits} → HaveRoom bs spare os → AreKept spare os
kept_by {spare} h = record { few = h.few; zeros = h.zeros ∙ ap (λ cs. cs ++ replicate spare false) (sym (filled_room h)) }

pub room_there : {spare : ℕ} {os : List ℕ} → AreKept spare os → spare ≤ 8 * length os
room_there {spare} {os} h = zeros_there spare os h.zeros

-- fewer than eight spare bits are room too
pub room_by : {spare : ℕ} {os : List ℕ} {bs : Bits} → AreFilledBy bs spare os → AreKept spare os
room_by h = kept_by (record { few = omega (arith, h.few); zeros = h.zeros })

-- ---- octets in one piece

-- where no bit is spare
pub padded_full : (spare : ℕ) (os : List ℕ) → spare ≡ 0 → ArePadded spare os
padded_full spare os z = padded_by {bs = unpack os} (record { few = omega arith; zeros = sym (append-nil (unpack os)) ∙ ap (λ (n : ℕ). unpack os ++ replicate n false) (sym z) })

pub filled_full : (spare : ℕ) (os : List ℕ) → spare ≡ 0 → filled spare os ≡ unpack os
filled_full spare os z = ap (λ (n : ℕ). filled n os) z ∙ filled_all os

pub moved_length : (os qs : List ℕ) (left reader : Bits) → unpack qs ++ left ≡ unpack os ++ reader → 8 * length qs + length left ≡ 8 * length os + length reader
moved_length os qs left reader e = let l : length (unpack qs ++ left) ≡ length (unpack os ++ reader) = ap length e in omega (arith, length-append (unpack qs) left, length-append (unpack os) reader, length-unpack os, length-unpack qs)

-- a call is Ok where the reason to refuse isn't there
pub ok_unless : {A E P : Type 0} (r : Result A E) → OnErr r P → ¬ P → IsOk r
ok_unless (Ok x) h n = refl
ok_unless (Err e) h n = absurd (n h)
