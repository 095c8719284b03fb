use Rattle.std.proofs.Common.{◌≡◌, ◌∙◌, ◌+◌, ◌-◌, ◌*◌, ◌%◌, ◌^◌, ℕ, ap, arith, mul_assoc, pow-add, mod-eq_of_lt}
use Rattle.per_bits.proofs.bit_fields.load_last.Goals as goal

pub returns : goal.returns
returns c =
    let n = c.from.result in
    let s = 64 - 8 * c.args.count in
    let w : n * 2 ^ 32 % 2 ^ 64 ≡ n * 2 ^ 32 = mod-eq_of_lt (omega (arith, c.from.ensures, c.ranges.last.fits)) in
    ap (λ (m : ℕ). m * 2 ^ s % 2 ^ 64) w
    ∙ ap (λ (m : ℕ). m % 2 ^ 64) (mul_assoc n (2 ^ 32) (2 ^ s) ∙ ap (λ (m : ℕ). n * m) (let e : 2 ^ 32 * 2 ^ s ≡ 2 ^ (32 + s) = omega (arith, pow-add 2 32 s) in e)
    ∙ ap (λ (m : ℕ). c.from.result * 2 ^ m) (let e : 32 + s ≡ 96 - 8 * c.args.count = omega (arith, c.requires.few) in e) ∙ ap (λ (m : ℕ). m * 2 ^ (96 - 8 * c.args.count)) c.from.ensures)
