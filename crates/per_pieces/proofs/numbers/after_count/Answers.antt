use Rattle.std.proofs.Common.{◌≡◌, refl, ◌∙◌, ap, ap₂, ◌+◌, ◌-◌, ◌*◌, ◌^◌, ◌≤◌, ◌%◌, bit_and, ℕ, arith, mod-lt, pow_mono, pow_pos}
use Rattle.std.proofs.lemmas.Nat.{one_shl, and_mask, mul-le}
use Rattle.per_pieces.proofs.numbers.after_count.Goals as goal

-- the low bits of a number, by a mask of up to 48
mask_is : (k n w m : ℕ) → k ≤ 6 → w ≡ 1 * 2 ^ (8 * k) % 2 ^ 64 → m ≡ w - 1 → bit_and n m ≡ n % 2 ^ (8 * k)
mask_is k n w m few e d =
    ap (λ (q : ℕ). bit_and n q) (d ∙ ap (λ (q : ℕ). q - 1) (e ∙ one_shl (8 * k) 64 (omega (arith, few)))) ∙ and_mask n (8 * k)

-- what up to six octets are below
few_below : (k : ℕ) → k ≤ 6 → 2 ^ (8 * k) ≤ 2 ^ 48
few_below k few = pow_mono {i = 8 * k} {j = 48} (omega (arith, few))

counted_below : (k m : ℕ) → k ≤ 6 → m ≤ 6 → m * (1 * 2 ^ (8 * k) % 2 ^ 64) ≤ 6 * 2 ^ 48
counted_below k m few l = mul-le m (1 * 2 ^ (8 * k) % 2 ^ 64) 6 (2 ^ 48) l (omega (arith, one_shl (8 * k) 64 (omega (arith, few)), few_below k few))

pub overflow_cast-low : goal.overflow_cast-low
overflow_cast-low c =
    let m = mask_is c.args.octets c.args.number _ c.from.result c.requires refl c.from.ensures in
    omega (arith, m, mod-lt c.args.number (pow_pos (8 * c.args.octets)), few_below c.args.octets c.requires)

pub overflow_mul-result : goal.overflow_mul-result
overflow_mul-result c =
    let h = counted_below c.args.octets c.from-2.result c.requires (omega (arith, c.requires, c.from-2.ensures)) in
    omega (arith, h)

pub overflow_add-result : goal.overflow_add-result
overflow_add-result c =
    let h = counted_below c.args.octets c.from-2.result c.requires (omega (arith, c.requires, c.from-2.ensures)) in
    let m = mask_is c.args.octets c.args.number _ c.from.result c.requires refl c.from.ensures in
    omega (arith, h, m, mod-lt c.args.number (pow_pos (8 * c.args.octets)), few_below c.args.octets c.requires)

pub returns : goal.returns
returns c =
    ap (λ (k : ℕ). k * (1 * 2 ^ (8 * c.args.octets) % 2 ^ 64) + bit_and c.args.number c.from.result) c.from-2.ensures
    ∙ ap₂ (λ (m n : ℕ). c.args.octets * m + n) (one_shl (8 * c.args.octets) 64 (omega (arith, c.requires)))
    (mask_is c.args.octets c.args.number _ c.from.result c.requires refl c.from.ensures)
