-- Octets that stand some bits into others.
use Rattle.std.proofs.Common.{suc, ◌≡◌, ◌≤◌, sym, ap, ap₂, ◌∙◌, ℕ, ◌+◌, ◌-◌, ◌*◌, ◌/◌, ◌%◌, ◌^◌, ◌<◌, List, [], ◌∷◌, ◌++◌, length, take, drop, get_or, arith, append_assoc, append-nil, length-append, length-take, bit_or}
use Rattle.std.proofs.lemmas.List.{set_split, take_at, drop-drop, drop_all, length-drop}
use borrow.Rule.Slice.PartMut.{put_mid}
use Rattle.std.proofs.Math.ListN.{set}
use Rattle.std.proofs.Math.Seq.{drop-cons}
use Rattle.rasn_types.specs.Bits.{Bits, to_bits, unpack}
use Rattle.rasn_types.proofs.Bits.{length-to_bits, length-unpack, to_bits-same, unpack-append}
use Rattle.per_bits.proofs.Joins.{put_after}
use Rattle.per_bits.proofs.Readers.{split_at}
use Rattle.per_bits.proofs.Words.{to_bits-inner, to_bits-join, inner-append, unpack-drop}

-- eight bits of two octets
pub pair_bits : (s a b : ℕ) → s < 8 → a < 2 ^ 8 → b < 2 ^ 8 → to_bits 8 (bit_or (a * 2 ^ 8 % 2 ^ 16) b / 2 ^ (8 - s) % 256) ≡ take 8 (drop s (to_bits 8 a ++ to_bits 8 b))
pair_bits s a b h f g = to_bits-same 8 (p / 2 ^ (8 - s) % 256) (p / 2 ^ (8 - s)) (omega arith) ∙ sym (to_bits-inner s 8 (8 - s) p)
    ∙ ap (λ bs. take 8 (drop s bs)) (ap₂ to_bits (let e : s + (8 + (8 - s)) ≡ 8 + 8 = omega arith in e) (put_after 16 a b 8 8 f g (omega arith)) ∙ to_bits-join 8 8 a b g)
  where
    p : ℕ
    p = bit_or (a * 2 ^ 8 % 2 ^ 16) b

-- the same bits, of all octets
pub pair_there : (s i : ℕ) (os : List ℕ) → s < 8 → i + 1 < length os → take 8 (drop (8 * i) (drop s (unpack os))) ≡ take 8 (drop s (to_bits 8 (get_or os i 0) ++ to_bits 8 (get_or os (i + 1) 0)))
pair_there s i os h l = ap (take 8) (drop-drop (8 * i) s (unpack os) ∙ ap (λ (n : ℕ). drop n (unpack os)) (let e : s + 8 * i ≡ 8 * i + s = omega arith in e) ∙ sym (drop-drop s (8 * i) (unpack os)) ∙ ap (drop s) (unpack-drop i os ∙ ap unpack both ∙ sym (append_assoc (to_bits 8 a) (to_bits 8 b) (unpack rest))))
    ∙ inner-append s 8 (to_bits 8 a ++ to_bits 8 b) (unpack rest) (omega (arith, length-append (to_bits 8 a) (to_bits 8 b), length-to_bits 8 a, length-to_bits 8 b))
  where
    a : ℕ
    a = get_or os i 0

    b : ℕ
    b = get_or os (i + 1) 0

    rest : List ℕ
    rest = drop (suc (i + 1)) os

    both : drop i os ≡ a ∷ b ∷ rest
    both = drop-cons os i 0 (omega arith) ∙ ap (λ qs. a ∷ qs) (ap (λ (n : ℕ). drop n os) (let e : suc i ≡ i + 1 = omega arith in e) ∙ drop-cons os (i + 1) 0 l)

-- one octet more
pub shift_more : (s i v : ℕ) (os from : List ℕ) → s < 8 → i + 1 < length from → i < length os →
    to_bits 8 v ≡ take 8 (drop s (to_bits 8 (get_or from i 0) ++ to_bits 8 (get_or from (i + 1) 0))) → unpack (take i os) ≡ take (8 * i) (drop s (unpack from)) →
    unpack (take (i + 1) (set os i v)) ≡ take (8 * (i + 1)) (drop s (unpack from))
shift_more s i v os from h l k e b = ap unpack cut ∙ unpack-append (take i os) (v ∷ []) ∙ ap₂ (λ bs cs. bs ++ cs) b (append-nil (to_bits 8 v) ∙ e ∙ sym (pair_there s i from h l))
    ∙ ap (λ (n : ℕ). take (8 * i) all ++ take n (drop (8 * i) all)) (let n : 8 ≡ 8 * (i + 1) - 8 * i = omega arith in n) ∙ sym (split_at (8 * i) (8 * (i + 1)) all (omega arith))
  where
    all : Bits
    all = drop s (unpack from)

    here : List ℕ
    here = take i os ++ v ∷ []

    cut : take (i + 1) (set os i v) ≡ here
    cut = ap (take (i + 1)) (set_split os i v k ∙ sym (append_assoc (take i os) (v ∷ []) (drop (suc i) os)))
        ∙ take_at here (drop (suc i) os) (i + 1) (length-append (take i os) (v ∷ []) ∙ omega (arith, length-take i os))

-- octets that were appended, and then filled with the bits of others
pub filled_after : (n start count s : ℕ) (now old ys from rest : List ℕ) → n ≡ length now → start ≡ length old → now ≡ old ++ take count from → s + 8 * count ≤ 8 * length from →
    unpack ys ≡ take (8 * length (take (length now - start) (drop start now))) (drop s (unpack from)) →
    unpack (take n (put_mid start (length now - start) now ys ++ rest)) ≡ unpack old ++ take (8 * count) (drop s (unpack from))
filled_after n start count s now old ys from rest e l h w f = ap unpack cut ∙ unpack-append old ys ∙ ap (λ bs. unpack old ++ bs) bits
  where
    long : length now ≡ start + count
    long = ap length h ∙ length-append old (take count from) ∙ omega (arith, length-take count from, w, l)

    part : length (take (length now - start) (drop start now)) ≡ count
    part = omega (arith, length-take (length now - start) (drop start now), length-drop start now, long)

    bits : unpack ys ≡ take (8 * count) (drop s (unpack from))
    bits = f ∙ ap (λ (k : ℕ). take (8 * k) (drop s (unpack from))) part

    filled : length ys ≡ count
    filled = omega (arith, length-unpack ys, ap length bits, length-take (8 * count) (drop s (unpack from)), length-drop s (unpack from), length-unpack from, w)

    whole : put_mid start (length now - start) now ys ≡ old ++ ys
    whole = ap₂ (λ ps qs. ps ++ (ys ++ qs)) (ap (take start) h ∙ take_at old (take count from) start (sym l)) (drop_all (length now - start) (drop start now) (omega (arith, length-drop start now))) ∙ ap (λ qs. old ++ qs) (append-nil ys)

    cut : take n (put_mid start (length now - start) now ys ++ rest) ≡ old ++ ys
    cut = take_at (put_mid start (length now - start) now ys) rest n (ap length whole ∙ length-append old ys ∙ omega (arith, filled, long, e, l)) ∙ whole
