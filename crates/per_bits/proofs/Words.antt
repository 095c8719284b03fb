-- Words, and bits kept in octets.
use Rattle.std.proofs.Common.{Fits, w8, ◌≡◌, refl, sym, ap, ap₂, ◌∙◌, subst, ℕ, zero, suc, ◌+◌, ◌-◌, ◌*◌, ◌/◌, ◌%◌, ◌^◌, ◌<◌, ◌≤◌, false, List, [], ◌∷◌, ◌++◌, length, take, drop, replicate, get_or, arith, pow_pos, mod-eq_of_lt, length-drop}
use Rattle.std.proofs.Common.{inl, inr}
use Rattle.std.proofs.lemmas.Bool.{cases_lt, lt-leb}
use Rattle.std.proofs.lemmas.List.{get_or-take, get_or_past, take_at, drop_at, take-take, drop-take, drop-drop, take-append-le, drop-append-le, take-replicate, length-take-le}
use Rattle.std.proofs.lemmas.Nat.{shr_high, mod_low, be_bytes_8}
use Rattle.std.proofs.Math.Seq.{take-append-add}
use Rattle.std.specs.Int.{w64, from_be_bytes, bytes_high_first, byte_at}
use Rattle.rasn_types.specs.Bits.{Bits, to_bits, unpack}
use Rattle.rasn_types.proofs.Packing.{unpack-take}
use Rattle.rasn_types.proofs.Bits.{length-to_bits, length-unpack, to_bits-same, to_bits-split, octet_power}
use Rattle.per_bits.specs.Octets.{word_size, first_word}

pub word_size-is : word_size ≡ 64
unfolding word_size
word_size-is = refl

-- ---- numbers

-- the bits of a number that is made of two
pub to_bits-join : (a b x y : ℕ) → y < 2 ^ b → to_bits (a + b) (x * 2 ^ b + y) ≡ to_bits a x ++ to_bits b y
to_bits-join a b x y h = to_bits-split a b (x * 2 ^ b + y)
    ∙ ap₂ (λ (m : ℕ) bs. to_bits a m ++ bs) (shr_high x b y h) (to_bits-same b (x * 2 ^ b + y) y (mod_low x b y h ∙ sym (mod-eq_of_lt h)))

pub to_bits-zeros : (w : ℕ) → to_bits w 0 ≡ replicate w false
to_bits-zeros zero = refl
to_bits-zeros (suc w) = ap₂ (λ b bs. b ∷ bs) (lt-leb (2 ^ w) (0 % 2 ^ suc w) (let e : 0 % 2 ^ suc w ≡ 0 = mod-eq_of_lt (pow_pos (suc w)) in omega (arith, pow_pos w))) (to_bits-zeros w)

-- bits of a number from the middle
pub to_bits-inner : (s c r n : ℕ) → take c (drop s (to_bits (s + (c + r)) n)) ≡ to_bits c (n / 2 ^ r)
to_bits-inner s c r n = ap (λ bs. take c (drop s bs)) (to_bits-split s (c + r) n)
    ∙ ap (λ bs. take c bs) (drop_at (to_bits s (n / 2 ^ (c + r))) (to_bits (c + r) n) s (length-to_bits s (n / 2 ^ (c + r))) ∙ to_bits-split c r n)
    ∙ take_at (to_bits c (n / 2 ^ r)) (to_bits r n) c (length-to_bits c (n / 2 ^ r))

-- ---- octets

byte_bits : (k n : ℕ) → to_bits 8 (byte_at k n) ≡ to_bits 8 (n / 2 ^ (8 * k))
byte_bits zero n = to_bits-same 8 (n % 256) (n / 1) (omega arith)
byte_bits (suc k) n = to_bits-same 8 (n / 256 ^ suc k % 256) (n / 2 ^ (8 * suc k)) (ap (λ (m : ℕ). n / m % 256 % 256) (octet_power (suc k)) ∙ omega arith)

-- the octets of a number have its bits
pub unpack-bytes : (k n : ℕ) → unpack (bytes_high_first k n) ≡ to_bits (8 * k) n
unpack-bytes zero n = refl
unpack-bytes (suc k) n = ap₂ (λ bs cs. bs ++ cs) (byte_bits k n) (unpack-bytes k n) ∙ sym (to_bits-split 8 (8 * k) n) ∙ ap (λ (w : ℕ). to_bits w n) (let e : 8 + 8 * k ≡ 8 * suc k = omega arith in e)

pub unpack-word : (os : List ℕ) (n : ℕ) → length os ≡ 8 → ((i : ℕ) → get_or os i 0 < 256) → n ≡ from_be_bytes w64 os → to_bits word_size n ≡ unpack os
unpack-word os n l small e = ap (λ (w : ℕ). to_bits w n) word_size-is ∙ sym (unpack-bytes 8 n) ∙ ap unpack (be_bytes_8 os n l small e)

pub unpack-drop : (k : ℕ) (os : List ℕ) → drop (8 * k) (unpack os) ≡ unpack (drop k os)
unpack-drop zero os = refl
unpack-drop (suc k) [] = ap (λ (n : ℕ). drop n (unpack [])) (let e : 8 * suc k ≡ suc (8 * k + 7) = omega arith in e)
unpack-drop (suc k) (o ∷ os) = ap (λ (n : ℕ). drop n (unpack (o ∷ os))) (let e : 8 * suc k ≡ 8 + 8 * k = omega arith in e)
    ∙ sym (drop-drop (8 * k) 8 (unpack (o ∷ os))) ∙ unpack-drop k os

pub octets_taken : (n : ℕ) (os qs : List ℕ) → n ≤ length os → qs ≡ take n os → ((i : ℕ) → Fits w8 (get_or os i 0)) → (i : ℕ) → get_or qs i 0 < 256
octets_taken n os qs h e f i = subst (λ (k : ℕ). k < 256) (sym (ap (λ ps. get_or ps i 0) e)) (elim (cases_lt i n) [
  | inl l ↦ subst (λ (k : ℕ). k < 256) (sym (get_or-take n os i 0 l)) (omega (arith, f i))
  | inr l ↦ subst (λ (k : ℕ). k < 256) (sym (get_or_past (take n os) i 0 (omega (arith, length-take-le n os h)))) (omega arith)
])

-- ---- the first word

-- bits from the middle of a longer list
pub inner-front : (s c n : ℕ) (xs : Bits) → s + c ≤ n → take c (drop s (take n xs)) ≡ take c (drop s xs)
inner-front s c n xs h = ap (λ (m : ℕ). take c (drop s (take m xs))) (let e : n ≡ s + (n - s) = omega arith in e)
    ∙ ap (λ bs. take c bs) (drop-take s (n - s) xs) ∙ take-take c (n - s) (drop s xs) (omega arith)

pub inner-append : (s c : ℕ) (xs ys : Bits) → s + c ≤ length xs → take c (drop s (xs ++ ys)) ≡ take c (drop s xs)
inner-append s c xs ys h = ap (λ bs. take c bs) (drop-append-le s xs ys (omega arith)) ∙ take-append-le c (drop s xs) ys (omega (arith, length-drop s xs))

pub first_word-long : (os qs : List ℕ) → 8 ≤ length os → qs ≡ take 8 os → first_word os ≡ unpack qs
first_word-long os qs h e = ap (λ (n : ℕ). take n (unpack os ++ replicate word_size false)) word_size-is
    ∙ take-append-le (8 * 8) (unpack os) (replicate word_size false) (omega (arith, length-unpack os)) ∙ unpack-take 8 os ∙ ap unpack (sym e)

pub first_word-short : (os : List ℕ) → length os ≤ 8 → first_word os ≡ unpack os ++ replicate (64 - 8 * length os) false
first_word-short os h = ap (λ (n : ℕ). take n (unpack os ++ replicate word_size false)) (let e : word_size ≡ length (unpack os) + (64 - 8 * length os) = omega (arith, word_size-is, length-unpack os) in e)
    ∙ take-append-add (unpack os) (replicate word_size false) (64 - 8 * length os)
    ∙ ap (λ bs. unpack os ++ bs) (take-replicate (64 - 8 * length os) word_size false (omega (arith, word_size-is)))

pub inner-first_word : (s c : ℕ) (os : List ℕ) → s + c ≤ 64 → s + c ≤ 8 * length os → take c (drop s (first_word os)) ≡ take c (drop s (unpack os))
inner-first_word s c os h l = inner-front s c word_size (unpack os ++ replicate word_size false) (omega (arith, word_size-is))
    ∙ inner-append s c (unpack os) (replicate word_size false) (omega (arith, length-unpack os))

-- what `part` reads: w begins as the first word does
pub part_bits : (s c w : ℕ) (os : List ℕ) → s + c ≤ 63 → s + c ≤ 8 * length os → take (s + c) (to_bits word_size w) ≡ take (s + c) (first_word os) → to_bits c (w / 2 ^ (64 - s - c)) ≡ take c (drop s (unpack os))
part_bits s c w os h l e = sym (to_bits-inner s c (64 - s - c) w) ∙ ap (λ (n : ℕ). take c (drop s (to_bits n w))) (let i : s + (c + (64 - s - c)) ≡ word_size = omega (arith, word_size-is) in i)
    ∙ sym (inner-front s c (s + c) (to_bits word_size w) (omega arith)) ∙ ap (λ bs. take c (drop s bs)) e ∙ inner-front s c (s + c) (first_word os) (omega arith) ∙ inner-first_word s c os (omega arith) l
