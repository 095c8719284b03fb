-- Fields of one size that are side by side in a number.
use Rattle.std.proofs.Common.{◌≡◌, refl, sym, ap, ap₂, ◌∙◌, subst, ℕ, zero, suc, ◌+◌, ◌-◌, ◌*◌, ◌/◌, ◌%◌, ◌^◌, ◌<◌, ◌≤◌, ◌++◌, arith, pow_pos, pow_mono, pow-add, mod-lt, mod-eq_of_lt, mul_assoc, mul_comm, append_assoc, bit_and}
use Rattle.std.proofs.Math.Nat.{add-mul, mul-add}
use Rattle.std.proofs.Math.Pow.{mod-mod-pow}
use Rattle.std.proofs.lemmas.Nat.{field_of, shr_below, one_shl, and_block, and_mask, and_comm, mod_low, mod-pow-add, shr-shr, shr_high, shr_split}
use Rattle.rasn_types.specs.Bits.{to_bits}
use Rattle.rasn_types.proofs.Bits.{to_bits-same}
use Rattle.per_bits.specs.Lanes.{low_of_each, ones_of, AreNarrow, Joined, Parted}
use Rattle.per_bits.proofs.Words.{to_bits-join}
use Rattle.per_bits.proofs.Joins.{behind}

-- ---- one field

pub low_of_low : (w k x : ℕ) → w ≤ k → x % 2 ^ k % 2 ^ w ≡ x % 2 ^ w
low_of_low w k x h = ap (λ (m : ℕ). x % 2 ^ m % 2 ^ w) (let e : k ≡ k - w + w = omega arith in e) ∙ mod-mod-pow x (k - w) w

below_size : (w k x : ℕ) → w ≤ k → x < 2 ^ w → x < 2 ^ k
below_size w k x h l = let p : 2 ^ w ≤ 2 ^ k = pow_mono {i = w} {j = k} h in omega (arith, p, l)

-- the low bits of a number are those of its last field
bits_of_last : (w k a b : ℕ) → w ≤ k → b < 2 ^ k → to_bits w (a * 2 ^ k + b) ≡ to_bits w b
bits_of_last w k a b h l = to_bits-same w (a * 2 ^ k + b) b (sym (low_of_low w k (a * 2 ^ k + b) h) ∙ ap (λ (m : ℕ). m % 2 ^ w) (mod_low a k b l))

-- ---- the low bits of each field, and zeros in place of the others

abbrev pub kept : ℕ → ℕ → ℕ → ℕ → ℕ
kept w k zero x = 0
kept w k (suc n) x = kept w k n (x / 2 ^ k) * 2 ^ k + x % 2 ^ w

pub and_ones : (w k n x : ℕ) → w ≤ k → bit_and x (ones_of w k n) ≡ kept w k n x
and_ones w k zero x h = and_comm x 0
and_ones w k (suc n) x h = ap (λ (m : ℕ). bit_and m (ones_of w k n * 2 ^ k + (2 ^ w - 1))) (sym (shr_split x k))
    ∙ and_block k (x / 2 ^ k) (ones_of w k n) (x % 2 ^ k) (2 ^ w - 1) (mod-lt x (pow_pos k)) (below_size w k (2 ^ w - 1) h (omega (arith, pow_pos w)))
    ∙ ap₂ (λ (a b : ℕ). a * 2 ^ k + b) (and_ones w k n (x / 2 ^ k) h) (and_mask (x % 2 ^ k) w ∙ low_of_low w k x h)

pub ones_times : (w k n : ℕ) → ones_of w k n ≡ ones_of 1 k n * (2 ^ w - 1)
ones_times w k zero = omega arith
ones_times w k (suc n) =
    let c = 2 ^ w - 1 in
    let o = ones_of 1 k n in
    let moved : o * c * 2 ^ k ≡ o * 2 ^ k * c = mul_assoc o c (2 ^ k) ∙ ap (λ (m : ℕ). o * m) (mul_comm c (2 ^ k)) ∙ sym (mul_assoc o (2 ^ k) c) in
    let more : (o * 2 ^ k + 1) * c ≡ o * 2 ^ k * c + 1 * c = add-mul (o * 2 ^ k) 1 c in
    ap (λ (m : ℕ). m * 2 ^ k + c) (ones_times w k n) ∙ omega (arith, moved, more)

pub low_kept : (w k n x : ℕ) → w ≤ k → low_of_each w k n (kept w k n x) ≡ low_of_each w k n x
low_kept w k zero x h = refl
low_kept w k (suc n) x h =
    let rest = kept w k n (x / 2 ^ k) in
    let small = below_size w k (x % 2 ^ w) h (mod-lt x (pow_pos w)) in
    ap₂ (λ bs cs. bs ++ cs) (ap (low_of_each w k n) (shr_high rest k (x % 2 ^ w) small) ∙ low_kept w k n (x / 2 ^ k) h)
    (bits_of_last w k rest (x % 2 ^ w) h small ∙ to_bits-same w (x % 2 ^ w) x (mod-eq_of_lt (mod-lt x (pow_pos w))))

pub kept_narrow : (w k n x : ℕ) → w ≤ k → AreNarrow w k n (kept w k n x)
kept_narrow w k zero x h = tt
kept_narrow w k (suc n) x h =
    let rest = kept w k n (x / 2 ^ k) in
    let small = below_size w k (x % 2 ^ w) h (mod-lt x (pow_pos w)) in (
      subst (AreNarrow w k n) (sym (shr_high rest k (x % 2 ^ w) small)) (kept_narrow w k n (x / 2 ^ k) h),
      subst (λ (m : ℕ). m < 2 ^ w) (sym (mod_low rest k (x % 2 ^ w) small)) (mod-lt x (pow_pos w)),
    )

-- ---- fields moved together in pairs

-- a number with each pair's upper field right above the w bits of the lower one
abbrev joins : ℕ → ℕ → ℕ → ℕ → ℕ
joins w k zero x = x
joins w k (suc n) x = joins w k n (x / 2 ^ (2 * k)) * 2 ^ (2 * k) + (x / 2 ^ k % 2 ^ k * 2 ^ w + x % 2 ^ k)

-- the lower fields of the pairs, and the upper ones
abbrev pub uppers : ℕ → ℕ → ℕ → ℕ
uppers k n x = kept k (2 * k) n (x / 2 ^ k)

-- a number made of fields in pairs
as_pair : (k x : ℕ) → x ≡ x / 2 ^ (2 * k) * 2 ^ (2 * k) + (x / 2 ^ k % 2 ^ k * 2 ^ k + x % 2 ^ k)
as_pair k x = sym (shr_split x (2 * k)) ∙ ap (λ (m : ℕ). x / 2 ^ (2 * k) * 2 ^ (2 * k) + m) (ap (λ (m : ℕ). x % 2 ^ m) (let e : 2 * k ≡ k + k = omega arith in e) ∙ mod-pow-add x k k)

-- what the fields moved down by, d for each of the upper ones, and the number that is left are the whole
one_pair : (j a d k2 h w k l q x : ℕ) → j + a * d ≡ q → d + w ≡ k → x ≡ q * k2 + (h * k + l) → j * k2 + (h * w + l) + (a * k2 + h) * d ≡ x
one_pair j a d k2 h w k l q x e f g =
    let more : (a * k2 + h) * d ≡ a * k2 * d + h * d = add-mul (a * k2) h d in
    let moved : a * k2 * d ≡ a * d * k2 = mul_assoc a k2 d ∙ ap (λ (m : ℕ). a * m) (mul_comm k2 d) ∙ sym (mul_assoc a d k2) in
    let front : j * k2 + a * d * k2 ≡ q * k2 = sym (add-mul j (a * d) k2) ∙ ap (λ (m : ℕ). m * k2) e in
    let upper : h * d + h * w ≡ h * k = sym (mul-add h d w) ∙ ap (λ (m : ℕ). h * m) f in
    omega (arith, more, moved, front, upper, g)

uppers_more : (k n x : ℕ) → uppers k (suc n) x ≡ uppers k n (x / 2 ^ (2 * k)) * 2 ^ (2 * k) + x / 2 ^ k % 2 ^ k
uppers_more k n x = ap (λ (m : ℕ). kept k (2 * k) n m * 2 ^ (2 * k) + x / 2 ^ k % 2 ^ k) (shr-shr x k (2 * k) ∙ ap (λ (m : ℕ). x / 2 ^ m) (let e : k + 2 * k ≡ 2 * k + k = omega arith in e) ∙ sym (shr-shr x (2 * k) k))

joins_and_rest : (w k n x : ℕ) → w ≤ k → joins w k n x + uppers k n x * (2 ^ k - 2 ^ w) ≡ x
joins_and_rest w k zero x h = omega arith
joins_and_rest w k (suc n) x h =
    let q = x / 2 ^ (2 * k) in
    let d = 2 ^ k - 2 ^ w in
    let p : 2 ^ w ≤ 2 ^ k = pow_mono {i = w} {j = k} h in
    ap (λ (m : ℕ). joins w k (suc n) x + m * d) (uppers_more k n x)
    ∙ one_pair (joins w k n q) (uppers k n q) d (2 ^ (2 * k)) (x / 2 ^ k % 2 ^ k) (2 ^ w) (2 ^ k) (x % 2 ^ k) q x (joins_and_rest w k n q h) (omega (arith, p)) (as_pair k x)

-- twice as many fields
abbrev twice : ℕ → ℕ
twice zero = zero
twice (suc n) = suc (suc (twice n))

twice_is : (n : ℕ) → twice n ≡ 2 * n
twice_is zero = refl
twice_is (suc n) = let e = twice_is n in omega (arith, e)

-- the numbers of a pair
pair_below : (w h l : ℕ) → h < 2 ^ w → l < 2 ^ w → h * 2 ^ w + l < 2 ^ (2 * w)
pair_below w h l f g = subst (λ (m : ℕ). h * 2 ^ w + l < 2 ^ m) (let e : w + w ≡ 2 * w = omega arith in e) (behind h l w w f g)

-- what is shown of the numbers that are moved together
abbrev JoinsTwice : ℕ → ℕ → ℕ → ℕ → Type 0
JoinsTwice w k n x = (low_of_each (2 * w) (2 * k) n (joins w k n x) ≡ low_of_each w k (twice n) x) × AreNarrow (2 * w) (2 * k) n (joins w k n x)

joins_more : (w k n x : ℕ) → w ≤ k → AreNarrow w k (twice (suc n)) x → (AreNarrow w k (twice n) (x / 2 ^ (2 * k)) → JoinsTwice w k n (x / 2 ^ (2 * k))) → JoinsTwice w k (suc n) x
joins_more w k n x h a r = (bits, (subst (AreNarrow (2 * w) (2 * k) n) (sym front_is) before.1, subst (λ (m : ℕ). m < 2 ^ (2 * w)) (sym last_is) small))
  where
    q : ℕ
    q = x / 2 ^ (2 * k)

    upper : ℕ
    upper = x / 2 ^ k % 2 ^ k

    lower : ℕ
    lower = x % 2 ^ k

    pair : ℕ
    pair = upper * 2 ^ w + lower

    here : x / 2 ^ k / 2 ^ k ≡ q
    here = shr-shr x k k ∙ ap (λ (m : ℕ). x / 2 ^ m) (let e : k + k ≡ 2 * k = omega arith in e)

    before : JoinsTwice w k n q
    before = r (subst (AreNarrow w k (twice n)) here a.0.0)

    small : pair < 2 ^ (2 * w)
    small = pair_below w upper lower a.0.1 a.1

    fits : pair < 2 ^ (2 * k)
    fits = below_size (2 * w) (2 * k) pair (omega arith) small

    front_is : joins w k (suc n) x / 2 ^ (2 * k) ≡ joins w k n q
    front_is = shr_high (joins w k n q) (2 * k) pair fits

    last_is : joins w k (suc n) x % 2 ^ (2 * k) ≡ pair
    last_is = mod_low (joins w k n q) (2 * k) pair fits

    -- the low bits of a field in a number
    low_is : (y : ℕ) → to_bits w (y % 2 ^ k) ≡ to_bits w y
    low_is y = to_bits-same w (y % 2 ^ k) y (low_of_low w k y h)

    last : to_bits (2 * w) (joins w k (suc n) x) ≡ to_bits w (x / 2 ^ k) ++ to_bits w x
    last = bits_of_last (2 * w) (2 * k) (joins w k n q) pair (omega arith) fits ∙ ap (λ (m : ℕ). to_bits m pair) (let e : 2 * w ≡ w + w = omega arith in e)
        ∙ to_bits-join w w upper lower a.1 ∙ ap₂ (λ bs cs. bs ++ cs) (low_is (x / 2 ^ k)) (low_is x)

    bits : low_of_each (2 * w) (2 * k) (suc n) (joins w k (suc n) x) ≡ low_of_each w k (twice (suc n)) x
    bits = ap₂ (λ bs cs. bs ++ cs) (ap (low_of_each (2 * w) (2 * k) n) front_is ∙ before.0 ∙ ap (low_of_each w k (twice n)) (sym here)) last
        ∙ sym (append_assoc (low_of_each w k (twice n) (x / 2 ^ k / 2 ^ k)) (to_bits w (x / 2 ^ k)) (to_bits w x))

joins_twice : (w k n x : ℕ) → w ≤ k → AreNarrow w k (twice n) x → JoinsTwice w k n x
joins_twice w k zero x h a = (refl, tt)
joins_twice w k (suc n) x h a = joins_more w k n x h a (joins_twice w k n (x / 2 ^ (2 * k)) h)

pub uppers_below : (w k n x : ℕ) → w ≤ k → uppers k n x * (2 ^ k - 2 ^ w) ≤ x
uppers_below w k n x h = let e = joins_and_rest w k n x h in omega (arith, e)

pub are_joined : (w k n x : ℕ) → w ≤ k → AreNarrow w k (2 * n) x → Joined w k n x (x - uppers k n x * (2 ^ k - 2 ^ w))
are_joined w k n x h a =
    let is : joins w k n x ≡ x - uppers k n x * (2 ^ k - 2 ^ w) = let e = joins_and_rest w k n x h in omega (arith, e) in
    let both = joins_twice w k n x h (subst (λ (m : ℕ). AreNarrow w k m x) (sym (twice_is n)) a) in
    record {
      bits = ap (low_of_each (2 * w) (2 * k) n) (sym is) ∙ both.0 ∙ ap (λ (m : ℕ). low_of_each w k m x) (twice_is n);
      narrow = subst (AreNarrow (2 * w) (2 * k) n) is both.1;
    }

-- what the code takes away
pub moved_down : (w k lower x : ℕ) → w ≤ k → k ≤ 32 → lower ≡ ones_of k (2 * k) (32 / k) → bit_and (x / 2 ^ k) lower * (1 * 2 ^ k % 2 ^ 64 - 1 * 2 ^ w % 2 ^ 64) ≡ uppers k (32 / k) x * (2 ^ k - 2 ^ w)
moved_down w k lower x h l e =
    ap₂ (λ (m n : ℕ). m * n) (ap (bit_and (x / 2 ^ k)) e ∙ and_ones k (2 * k) (32 / k) (x / 2 ^ k) (omega arith)) (ap₂ (λ (m n : ℕ). m - n) (one_shl k 64 (omega arith)) (one_shl w 64 (omega arith)))

pub octets_kept : (w x : ℕ) → w ≤ 8 → bit_and x (72340172838076673 * (1 * 2 ^ w % 2 ^ 64 - 1)) ≡ kept w 8 8 x
octets_kept w x h = ap (λ (m : ℕ). bit_and x (72340172838076673 * (m - 1))) (one_shl w 64 (omega arith)) ∙ ap (bit_and x) (sym (ones_times w 8 8)) ∙ and_ones w 8 8 x h

-- the octets of a word moved together three times
pub all_joined : (w x octets pairs fours result : ℕ) → w ≤ 8 → octets ≡ kept w 8 8 x → Joined w 8 4 octets pairs → Joined (2 * w) 16 2 pairs fours → Joined (4 * w) 32 1 fours result → to_bits (8 * w) result ≡ low_of_each w 8 8 x
all_joined w x octets pairs fours result h e p q r =
    ap (λ (m : ℕ). to_bits m result) (let i : 8 * w ≡ 2 * (4 * w) = omega arith in i) ∙ r.bits
    ∙ ap (λ (m : ℕ). low_of_each m 32 2 fours) (let i : 4 * w ≡ 2 * (2 * w) = omega arith in i) ∙ q.bits ∙ p.bits ∙ ap (low_of_each w 8 8) e ∙ low_kept w 8 8 x h

-- ---- fields parted in two

-- a number with the upper bits of each field moved up to a field of their own
abbrev parts : ℕ → ℕ → ℕ → ℕ → ℕ
parts w k zero x = x
parts w k (suc n) x = parts w k n (x / 2 ^ (2 * k)) * 2 ^ (2 * k) + (x % 2 ^ (2 * k) / 2 ^ w * 2 ^ k + x % 2 ^ w)

-- the upper bits of each field
abbrev pub upper_bits : ℕ → ℕ → ℕ → ℕ → ℕ
upper_bits w k n x = kept k (2 * k) n (x / 2 ^ w)

-- the numbers that a field has
upper_below : (w p : ℕ) → p < 2 ^ (2 * w) → p / 2 ^ w < 2 ^ w
upper_below w p h = shr_below p w w (subst (λ (m : ℕ). p < 2 ^ m) (let e : 2 * w ≡ w + w = omega arith in e) h)

upper_of_last : (w k x : ℕ) → w ≤ k → x % 2 ^ (2 * k) < 2 ^ (2 * w) → x / 2 ^ w % 2 ^ k ≡ x % 2 ^ (2 * k) / 2 ^ w
upper_of_last w k x h l = sym (low_of_low k (2 * k - w) (x / 2 ^ w) (omega arith)) ∙ ap (λ (m : ℕ). m % 2 ^ k) (sym (field_of x (2 * k - w) w) ∙ ap (λ (m : ℕ). x % 2 ^ m / 2 ^ w) (let e : 2 * k - w + w ≡ 2 * k = omega arith in e))
    ∙ mod-eq_of_lt (below_size w k (x % 2 ^ (2 * k) / 2 ^ w) h (upper_below w (x % 2 ^ (2 * k)) l))

upper_bits_more : (w k n x : ℕ) → w ≤ k → x % 2 ^ (2 * k) < 2 ^ (2 * w) → upper_bits w k (suc n) x ≡ upper_bits w k n (x / 2 ^ (2 * k)) * 2 ^ (2 * k) + x % 2 ^ (2 * k) / 2 ^ w
upper_bits_more w k n x h l = ap₂ (λ (m p : ℕ). kept k (2 * k) n m * 2 ^ (2 * k) + p) (shr-shr x w (2 * k) ∙ ap (λ (m : ℕ). x / 2 ^ m) (let e : w + 2 * k ≡ 2 * k + w = omega arith in e) ∙ sym (shr-shr x (2 * k) w)) (upper_of_last w k x h l)

-- a number made of fields that have two numbers each
as_two : (w k x : ℕ) → w ≤ k → x / 2 ^ (2 * k) * 2 ^ (2 * k) + (x % 2 ^ (2 * k) / 2 ^ w * 2 ^ w + x % 2 ^ w) ≡ x
as_two w k x h = ap (λ (m : ℕ). x / 2 ^ (2 * k) * 2 ^ (2 * k) + m) (ap (λ (m : ℕ). x % 2 ^ (2 * k) / 2 ^ w * 2 ^ w + m) (sym (low_of_low w (2 * k) x (omega arith))) ∙ shr_split (x % 2 ^ (2 * k)) w) ∙ shr_split x (2 * k)

pub parts_sum : (w k n x : ℕ) → w ≤ k → AreNarrow (2 * w) (2 * k) n x → x + upper_bits w k n x * (2 ^ k - 2 ^ w) ≡ parts w k n x
parts_sum w k zero x h a = omega (arith, (let e : 0 * (2 ^ k - 2 ^ w) ≡ 0 = omega arith in e))
parts_sum w k (suc n) x h a =
    let q = x / 2 ^ (2 * k) in
    let upper = x % 2 ^ (2 * k) / 2 ^ w in
    let d = 2 ^ k - 2 ^ w in
    let p : 2 ^ w ≤ 2 ^ k = pow_mono {i = w} {j = k} h in
    ap₂ (λ (m j : ℕ). m + j * d) (sym (as_two w k x h)) (upper_bits_more w k n x h a.1)
    ∙ one_pair q (upper_bits w k n q) d (2 ^ (2 * k)) upper (2 ^ w) (2 ^ k) (x % 2 ^ w) (parts w k n q) (parts w k (suc n) x) (parts_sum w k n q h a.0) (omega (arith, p)) refl

times_suc : (a n : ℕ) → a * suc n ≡ a * n + a
times_suc a n = ap (λ (m : ℕ). a * m) (let e : suc n ≡ n + 1 = omega arith in e) ∙ mul-add a n 1 ∙ omega arith

-- what is shown of the numbers that are parted
record AreParts (w k n x : ℕ) : Type 0 where
  pub bits : low_of_each w k (twice n) (parts w k n x) ≡ low_of_each (2 * w) (2 * k) n x
  pub narrow : AreNarrow w k (twice n) (parts w k n x)
  pub below : parts w k n x < 2 ^ (2 * k * n)

parts_more : (w k n x : ℕ) → w ≤ k → x % 2 ^ (2 * k) < 2 ^ (2 * w) → AreParts w k n (x / 2 ^ (2 * k)) → AreParts w k (suc n) x
parts_more w k n x h a before = record {
  bits = ap₂ (λ bs cs. (bs ++ cs) ++ to_bits w whole) (ap (low_of_each w k (twice n)) (ap (λ (m : ℕ). m / 2 ^ k) front_is ∙ shr_high rest k upper upper_fits) ∙ before.bits) (ap (to_bits w) front_is ∙ bits_of_last w k rest upper h upper_fits)
      ∙ append_assoc (low_of_each (2 * w) (2 * k) n (x / 2 ^ (2 * k))) (to_bits w upper) (to_bits w whole) ∙ ap (λ bs. low_of_each (2 * w) (2 * k) n (x / 2 ^ (2 * k)) ++ bs) last;
  narrow = (
    (
      subst (AreNarrow w k (twice n)) (sym (ap (λ (m : ℕ). m / 2 ^ k) front_is ∙ shr_high rest k upper upper_fits)) before.narrow,
      subst (λ (m : ℕ). m < 2 ^ w) (sym (ap (λ (m : ℕ). m % 2 ^ k) front_is ∙ mod_low rest k upper upper_fits)) (upper_below w (x % 2 ^ (2 * k)) a),
    ),
    subst (λ (m : ℕ). m < 2 ^ w) (sym (ap (λ (m : ℕ). m % 2 ^ k) as_three ∙ mod_low (rest * 2 ^ k + upper) k lower lower_fits)) (mod-lt x (pow_pos w)),
  );
  below = subst (λ (m : ℕ). whole < 2 ^ m) (sym (times_suc (2 * k) n)) (behind rest pair (2 * k * n) (2 * k) before.below pair_fits);
}
  where
    rest : ℕ
    rest = parts w k n (x / 2 ^ (2 * k))

    upper : ℕ
    upper = x % 2 ^ (2 * k) / 2 ^ w

    lower : ℕ
    lower = x % 2 ^ w

    pair : ℕ
    pair = upper * 2 ^ k + lower

    whole : ℕ
    whole = parts w k (suc n) x

    upper_fits : upper < 2 ^ k
    upper_fits = below_size w k upper h (upper_below w (x % 2 ^ (2 * k)) a)

    lower_fits : lower < 2 ^ k
    lower_fits = below_size w k lower h (mod-lt x (pow_pos w))

    pair_fits : pair < 2 ^ (2 * k)
    pair_fits = pair_below k upper lower upper_fits lower_fits

    as_three : whole ≡ (rest * 2 ^ k + upper) * 2 ^ k + lower
    as_three = let e : rest * 2 ^ (2 * k) ≡ rest * 2 ^ k * 2 ^ k = ap (λ (m : ℕ). rest * 2 ^ m) (let i : 2 * k ≡ k + k = omega arith in i) ∙ ap (λ (m : ℕ). rest * m) (pow-add 2 k k) ∙ sym (mul_assoc rest (2 ^ k) (2 ^ k)) in
        omega (arith, e, add-mul (rest * 2 ^ k) upper (2 ^ k))

    front_is : whole / 2 ^ k ≡ rest * 2 ^ k + upper
    front_is = ap (λ (m : ℕ). m / 2 ^ k) as_three ∙ shr_high (rest * 2 ^ k + upper) k lower lower_fits

    last : to_bits w upper ++ to_bits w whole ≡ to_bits (2 * w) x
    last = ap (λ bs. to_bits w upper ++ bs) (ap (to_bits w) as_three ∙ bits_of_last w k (rest * 2 ^ k + upper) lower h lower_fits) ∙ sym (to_bits-join w w upper lower (mod-lt x (pow_pos w)))
        ∙ ap₂ to_bits (let i : w + w ≡ 2 * w = omega arith in i) (ap (λ (m : ℕ). upper * 2 ^ w + m) (sym (low_of_low w (2 * k) x (omega arith))) ∙ shr_split (x % 2 ^ (2 * k)) w)
        ∙ to_bits-same (2 * w) (x % 2 ^ (2 * k)) x (low_of_low (2 * w) (2 * k) x (omega arith))

are_parts : (w k n x : ℕ) → w ≤ k → x < 2 ^ (2 * k * n) → AreNarrow (2 * w) (2 * k) n x → AreParts w k n x
are_parts w k zero x h l a = record { bits = refl; narrow = tt; below = l }
are_parts w k (suc n) x h l a = parts_more w k n x h a.1 (are_parts w k n (x / 2 ^ (2 * k)) h (shr_below x (2 * k * n) (2 * k) (subst (λ (m : ℕ). x < 2 ^ m) (times_suc (2 * k) n) l)) a.0)

-- what the code adds, and what it makes
pub record Adds (w k n x more : ℕ) : Type 0 where
  pub parted : Parted w k n x (x + more)
  pub below : x + more < 2 ^ 64

pub moved_up : (w k lower x : ℕ) → w ≤ k → k ≤ 32 → k * (32 / k) ≡ 32 → x < 2 ^ 64 → lower ≡ ones_of k (2 * k) (32 / k) → AreNarrow (2 * w) (2 * k) (32 / k) x →
    Adds w k (32 / k) x (bit_and (x / 2 ^ w) lower * (1 * 2 ^ k % 2 ^ 64 - 1 * 2 ^ w % 2 ^ 64))
moved_up w k lower x h l f b e a =
    let whole : 64 ≡ 2 * k * (32 / k) = omega (arith, f, mul_assoc 2 k (32 / k)) in
    let fine = are_parts w k (32 / k) x h (subst (λ (m : ℕ). x < 2 ^ m) whole b) a in
    let is : parts w k (32 / k) x ≡ x + bit_and (x / 2 ^ w) lower * (1 * 2 ^ k % 2 ^ 64 - 1 * 2 ^ w % 2 ^ 64) = sym (parts_sum w k (32 / k) x h a)
    ∙ ap (λ (m : ℕ). x + m) (sym (ap₂ (λ (m n : ℕ). m * n) (ap (bit_and (x / 2 ^ w)) e ∙ and_ones k (2 * k) (32 / k) (x / 2 ^ w) (omega arith)) (ap₂ (λ (m n : ℕ). m - n) (one_shl k 64 (omega arith)) (one_shl w 64 (omega arith))))) in
    record {
      parted = record {
        bits = ap₂ (λ (m y : ℕ). low_of_each w k m y) (sym (twice_is (32 / k))) (sym is) ∙ fine.bits;
        narrow = subst (λ (y : ℕ). AreNarrow w k (2 * (32 / k)) y) is (subst (λ (m : ℕ). AreNarrow w k m (parts w k (32 / k) x)) (twice_is (32 / k)) fine.narrow);
      };
      below = subst (λ (m : ℕ). m < 2 ^ 64) is (subst (λ (m : ℕ). parts w k (32 / k) x < 2 ^ m) (sym whole) fine.below);
    }

-- a number parted three times
pub all_parted : (w x fours pairs result : ℕ) → Parted (4 * w) 32 1 x fours → Parted (2 * w) 16 2 fours pairs → Parted w 8 4 pairs result → low_of_each w 8 8 result ≡ to_bits (8 * w) x
all_parted w x fours pairs result p q r = r.bits ∙ q.bits ∙ ap (λ (m : ℕ). low_of_each m 32 2 fours) (let i : 2 * (2 * w) ≡ 4 * w = omega arith in i) ∙ p.bits ∙ ap (λ (m : ℕ). to_bits m x) (let i : 2 * (4 * w) ≡ 8 * w = omega arith in i)
