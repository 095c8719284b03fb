-- What one turn of each loop keeps.
use Rattle.std.proofs.Common.{◌≡◌, sym, ap, ap₂, ◌∙◌, subst, ℕ, ◌+◌, ◌-◌, ◌*◌, ◌/◌, ◌%◌, ◌^◌, ◌<◌, ◌≤◌, false, List, ◌++◌, length, take, drop, replicate, arith, mod-eq_of_lt, append_assoc, append-nil, length-append, length-drop, bit_or}
use Rattle.std.proofs.lemmas.List.{length-replicate}
use Rattle.std.proofs.lemmas.Slice.{between_to_end}
use Rattle.std.proofs.Math.Pow.{mod-mod-pow}
use Rattle.std.specs.List.{between}
use Rattle.rasn_types.specs.Bits.{Bits, to_bits, number_of, unpack}
use Rattle.rasn_types.proofs.Bits.{length-unpack, number-to_bits, to_bits-same, to_bits-split}
use Rattle.per_bits.specs.Octets.{filled, AreFilledBy, ArePadded, AreWithin}
use Rattle.per_bits.proofs.Joins.{behind, put_after}
use Rattle.per_bits.proofs.Readers.{split_at, from_place, filled_by, filled_length, spare_there}
use Rattle.per_bits.proofs.Words.{to_bits-join}

-- ---- a number that is read in parts

pub number_is : (c r : ℕ) (bs : Bits) → to_bits c r ≡ bs → r < 2 ^ c → r ≡ number_of bs
number_is c r bs e h = sym (sym (ap number_of e) ∙ number-to_bits c r ∙ mod-eq_of_lt h)

pub within_more : (s left k p : ℕ) (os : List ℕ) → AreWithin s left os → k ≤ left → p ≡ s + k → AreWithin (p % 8) (left - k) (between (p / 8) (length os) os)
within_more s left k p os h l e = record {
  few = omega arith;
  enough = let i : length (between (p / 8) (length os) os) ≡ length os - p / 8 = ap length (between_to_end os (p / 8) (length os) (omega arith)) ∙ length-drop (p / 8) os in omega (arith, h.enough);
}

pub wide_more : (k s left count value part p new : ℕ) (os : List ℕ) (all : Bits) → k ≤ left → left ≤ count → count ≤ 128 → p ≡ s + k → value < 2 ^ (count - left) → part < 2 ^ k →
    to_bits k part ≡ take k (drop s (unpack os)) → to_bits (count - left) value ++ take left (drop s (unpack os)) ≡ all → new ≡ bit_or (value * 2 ^ k % 2 ^ 128) part →
    (new < 2 ^ (count - (left - k))) × (to_bits (count - (left - k)) new ++ take (left - k) (drop (p % 8) (unpack (between (p / 8) (length os) os))) ≡ all)
wide_more k s left count value part p new os all h l m e b f r i n = (subst (λ (x : ℕ). x < 2 ^ (count - (left - k))) (sym is) (subst (λ (x : ℕ). value * 2 ^ k + part < 2 ^ x) further (behind value part (count - left) k b f)), bits)
  where
    further : count - left + k ≡ count - (left - k)
    further = omega arith

    is : new ≡ value * 2 ^ k + part
    is = n ∙ put_after 128 value part (count - left) k b f (omega arith)

    bits : to_bits (count - (left - k)) new ++ take (left - k) (drop (p % 8) (unpack (between (p / 8) (length os) os))) ≡ all
    bits = ap₂ (λ (x y : ℕ). to_bits x y ++ take (left - k) (drop (p % 8) (unpack (between (p / 8) (length os) os)))) (sym further) is
        ∙ ap₂ (λ bs cs. bs ++ take (left - k) cs) (to_bits-join (count - left) k value part f ∙ ap (λ bs. to_bits (count - left) value ++ bs) r) (from_place s k p os e)
        ∙ append_assoc (to_bits (count - left) value) (take k (drop s (unpack os))) (take (left - k) (drop k (drop s (unpack os))))
        ∙ ap (λ bs. to_bits (count - left) value ++ bs) (sym (split_at k left (drop s (unpack os)) h)) ∙ i

pub wide_done : (left count value : ℕ) (bs all : Bits) → left ≡ 0 → value < 2 ^ (count - left) → to_bits (count - left) value ++ take left bs ≡ all → value ≡ number_of all
wide_done left count value bs all z h e = number_is (count - left) value all (sym (append-nil (to_bits (count - left) value)) ∙ ap (λ (n : ℕ). to_bits (count - left) value ++ take n bs) (sym z) ∙ e) h

-- ---- a number that is written in parts

pub low_bits : (k value v : ℕ) → k ≤ 56 → v ≡ value % 2 ^ 56 → to_bits k v ≡ to_bits k value
low_bits k value v h e = to_bits-same k v value (ap (λ (n : ℕ). n % 2 ^ k) e ∙ ap (λ (n : ℕ). value % 2 ^ n % 2 ^ k) (let i : 56 ≡ 56 - k + k = omega arith in i) ∙ mod-mod-pow value (56 - k) k)

pub part_written : (k left value v : ℕ) → k ≤ left → k ≤ 56 → v ≡ value / 2 ^ (left - k) % 2 ^ 56 → to_bits k v ++ to_bits (left - k) value ≡ to_bits left value
part_written k left value v h l e = ap (λ bs. bs ++ to_bits (left - k) value) (low_bits k (value / 2 ^ (left - k)) v l e) ∙ sym (to_bits-split k (left - k) value) ∙ ap (λ (n : ℕ). to_bits n value) (omega arith)

-- how long octets are after which bits were put
pub filled_more : (spare unused : ℕ) (os qs : List ℕ) (bs : Bits) → ArePadded spare os → AreFilledBy (filled spare os ++ bs) unused qs → 8 * length qs + spare ≡ 8 * length os + length bs + unused
filled_more spare unused os qs bs h f =
    let l : 8 * length qs ≡ length (filled spare os ++ bs) + unused = sym (length-unpack qs) ∙ ap length f.zeros ∙ length-append (filled spare os ++ bs) (replicate unused false) ∙ ap (λ (n : ℕ). length (filled spare os ++ bs) + n) (length-replicate unused false) in
    omega (arith, length-append (filled spare os) bs, filled_length spare os, spare_there spare os h)

-- what follows the bits that were put, and those
pub put_on : (spare unused : ℕ) (os qs : List ℕ) (front rest all total : Bits) → filled unused qs ≡ filled spare os ++ front → front ++ rest ≡ all → filled spare os ++ all ≡ total → filled unused qs ++ rest ≡ total
put_on spare unused os qs front rest all total h f i = ap (λ bs. bs ++ rest) h ∙ append_assoc (filled spare os) front rest ∙ ap (λ bs. filled spare os ++ bs) f ∙ i

pub put_before : (spare unused : ℕ) (os qs : List ℕ) (front rest all total : Bits) → AreFilledBy (filled spare os ++ front) unused qs → front ++ rest ≡ all → filled spare os ++ all ≡ total → filled unused qs ++ rest ≡ total
put_before spare unused os qs front rest all total h = put_on spare unused os qs front rest all total (filled_by h)
