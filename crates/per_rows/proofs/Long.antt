-- A long list of bytes, without computing with its bits.
use Rattle.std.proofs.Common.{◌≡◌, refl, sym, ap, ◌∙◌, ℕ, zero, suc, ◌+◌, ◌/◌, ◌%◌, ◌<◌, ◌^◌, true, false, ltb, List, [], ◌∷◌, ◌++◌, length, replicate, drop, map, Some, cond, arith, lit<}
use Rattle.std.proofs.lemmas.List.{length-replicate, take-replicate, drop-replicate}
use Rattle.rasn_types.specs.Bits.{Bits, unpack, pack, AreOctets}
use Rattle.rasn_types.proofs.Bits.{length-unpack, unpack-append}
use Rattle.rasn_types.proofs.Fewest.{pack-unpack}
use Rattle.rasn_types.specs.Variants.{unaligned}
use Rattle.rasn_types.specs.Values.{Value, truth, values, as_values}
use Rattle.rasn_constraints.specs.Bounds.{any_size}
use Rattle.per_core.specs.Writers.{Writer, just, padding, go_on, join, complete, after, written_if, ◌▹◌, one_by_one}
use Rattle.per_core.specs.Counts.{determinant, fragment_sizes, in_fragments, counted, list_items}
use Rattle.per_core.specs.Canon.{bytes, canon, completed}
use Rattle.per_rows.specs.Build.{with_all, list_of, list}
use Rattle.per_rows.specs.Samples.{byte}

abbrev zero_byte : Value
zero_byte = with_all (replicate 8 (truth false))

abbrev written : Writer
written = canon unaligned byte zero_byte

-- n bytes in a row
run : (n p : ℕ) → one_by_one (replicate n written) p ≡ Some (unpack (replicate n 0))
unfolding canon
run zero p = refl
run (suc n) p = ap (join (replicate 8 false)) (run n ((p + 8) % 8))

-- the octets of a row's count and of its bytes
abbrev pub count_octets : ℕ → List ℕ
count_octets m = cond (ltb m 128) (m ∷ []) (cond (ltb m 16384) ((128 + m / 256) ∷ m % 256 ∷ []) ((192 + m / 16384) ∷ []))

abbrev pub row_octets : List ℕ → List ℕ
row_octets [] = []
row_octets (m ∷ ms) = count_octets m ++ (replicate m 0 ++ row_octets ms)

abbrev pub total : List ℕ → ℕ
total [] = 0
total (m ∷ ms) = m + total ms

abbrev pub AreCoded : List ℕ → Type 0
AreCoded [] = Unit {0}
AreCoded (m ∷ ms) = (determinant m ≡ unpack (count_octets m)) × AreOctets (count_octets m) × AreCoded ms

zeros-append : (n : ℕ) (os : List ℕ) → AreOctets os → AreOctets (replicate n 0 ++ os)
zeros-append zero os h = h
zeros-append (suc n) os h = (lit< tt, zeros-append n os h)

octets-append : (os ps : List ℕ) → AreOctets os → AreOctets ps → AreOctets (os ++ ps)
octets-append [] ps h k = k
octets-append (o ∷ os) ps h k = (h.0, octets-append os ps h.1 k)

row_octets-are : (ms : List ℕ) → AreCoded ms → AreOctets (row_octets ms)
row_octets-are [] k = tt
row_octets-are (m ∷ ms) k = octets-append (count_octets m) (replicate m 0 ++ row_octets ms) k.1 (zeros-append m (row_octets ms) (row_octets-are ms k.2))

one_row : (d : Bits) (m k p : ℕ) (w : Writer) (os : List ℕ) → ((q : ℕ) → w q ≡ Some (unpack os)) →
    (padding unaligned ▹ (just d ▹ (one_by_one (replicate m written) ▹ w))) p ≡ Some (d ++ (unpack (replicate m 0) ++ unpack os))
one_row d m k p w os h = ap (λ z. join [] (join d z)) (ap (λ z. go_on z w (after (after p []) d)) (run m (after (after p []) d)) ∙ ap (join (unpack (replicate m 0))) (h (after (after (after p []) d) (unpack (replicate m 0)))))

rows_written : (ms : List ℕ) → AreCoded ms → (p : ℕ) → in_fragments unaligned ms (replicate (total ms) written) p ≡ Some (unpack (row_octets ms))
rows_written [] k p = refl
rows_written (m ∷ ms) k p =
    ap (λ z. (padding unaligned ▹ (just (determinant m) ▹ (one_by_one z ▹ in_fragments unaligned ms (drop m (replicate (m + total ms) written))))) p) (take-replicate m (m + total ms) written (omega arith))
    ∙ ap (λ z. (padding unaligned ▹ (just (determinant m) ▹ (one_by_one (replicate m written) ▹ in_fragments unaligned ms z))) p) (drop-replicate m (m + total ms) written ∙ ap (λ (n : ℕ). replicate n written) (omega arith))
    ∙ one_row (determinant m) m 0 p (in_fragments unaligned ms (replicate (total ms) written)) (row_octets ms) (rows_written ms k.2)
    ∙ ap (λ z. Some (z ++ (unpack (replicate m 0) ++ unpack (row_octets ms)))) k.0
    ∙ ap (λ z. Some (unpack (count_octets m) ++ z)) (sym (unpack-append (replicate m 0) (row_octets ms)))
    ∙ ap (λ z. Some z) (sym (unpack-append (count_octets m) (replicate m 0 ++ row_octets ms)))

-- whole octets are complete
complete_octets : (os : List ℕ) → 0 < length os → AreOctets os → complete (unpack os) ≡ os
complete_octets os l h = ap (λ (n : ℕ). pack n (unpack os)) (omega (arith, length-unpack os)) ∙ pack-unpack os h

-- the same elements one by one
each : (n : ℕ) → map (canon unaligned byte) (values (as_values (replicate n zero_byte))) ≡ replicate n written
each zero = refl
each (suc n) = ap (λ z. written ∷ z) (each n)

pub long_bytes : (n : ℕ) → ltb n (2 ^ 64) ≡ true → total (fragment_sizes n) ≡ n → AreCoded (fragment_sizes n) → 0 < length (row_octets (fragment_sizes n)) →
    bytes unaligned (list_of byte any_size) (list (replicate n zero_byte)) ≡ Some (row_octets (fragment_sizes n))
unfolding bytes
long_bytes n l s c m =
    ap (λ z. completed (counted unaligned any_size false list_items z 0)) (each n)
    ∙ ap (λ (k : ℕ). completed (written_if (ltb k (2 ^ 64)) (in_fragments unaligned (fragment_sizes k) (replicate n written)) 0)) (length-replicate n written)
    ∙ ap (λ z. completed (written_if z (in_fragments unaligned (fragment_sizes n) (replicate n written)) 0)) l
    ∙ ap (λ (k : ℕ). completed (in_fragments unaligned (fragment_sizes n) (replicate k written) 0)) (sym s)
    ∙ ap completed (rows_written (fragment_sizes n) c 0)
    ∙ ap (λ z. Some z) (complete_octets (row_octets (fragment_sizes n)) m (row_octets-are (fragment_sizes n) c))
