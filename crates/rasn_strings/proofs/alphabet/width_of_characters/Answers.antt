use Rattle.std.proofs.Common.{◌≡◌, ◌∙◌, sym, ap, ℕ, ◌^◌, ◌<◌, ◌≤◌, length, arith}
use Rattle.rasn_types.specs.Alphabets.{char_width}
use Rattle.rasn_types.specs.Bits.{width}
use Rattle.rasn_types.specs.Variants.{variant_when}
use Rattle.rasn_strings.proofs.Codes.{few_bits, few_bits_of_bits, few_aligned, width_shifted, width_aligned}
use Rattle.rasn_strings.proofs.alphabet.width_of_characters.Goals as goal

-- the width of the width
twice : (n a b d e : ℕ) → a ≡ n → b ≡ width a → d ≡ b → e ≡ width d → e ≡ width (width n)
twice n a b d e h i j k = k ∙ ap width (j ∙ i ∙ ap width h)

pub overflow_shl-result : goal.overflow_shl-result
overflow_shl-result c = let t = twice _ _ _ _ _ c.from.ensures c.width_of-width.ensures.width c.from-else-count-le1.ensures c.width_of.ensures.width in let f = few_bits_of_bits c.args.count c.requires in omega arith

pub returns-then-not-aligned-clause-few : goal.returns-then-not-aligned-clause-few
returns-then-not-aligned-clause-few c = let w = c.width_of-width.ensures.width ∙ ap width c.from.ensures in let f = few_bits c.args.count c.requires in omega arith

pub returns-else-count-le1-clause-width : goal.returns-else-count-le1-clause-width
returns-else-count-le1-clause-width c alphabet e =
    let t = twice _ _ _ _ _ c.from.ensures c.width_of-width.ensures.width c.from-else-count-le1.ensures c.width_of.ensures.width in
    let f = few_bits_of_bits c.args.count c.requires in
    let l : c.width_of.result ≤ 4 = omega arith in
    let m : 1 < length alphabet = (let n = c.if-count-le1.false in omega arith) in
    width_shifted c.width_of.result l
    ∙ ap (λ n. 2 ^ n) (t ∙ ap (λ n. width (width n)) (sym e))
    ∙ sym (width_aligned alphabet m)
    ∙ ap (λ b. char_width (variant_when b) alphabet) (sym c.if-not-aligned.false)

pub returns-else-count-le1-clause-few : goal.returns-else-count-le1-clause-few
returns-else-count-le1-clause-few c =
    let t = twice _ _ _ _ _ c.from.ensures c.width_of-width.ensures.width c.from-else-count-le1.ensures c.width_of.ensures.width in
    let f = few_bits_of_bits c.args.count c.requires in
    let l : c.width_of.result ≤ 4 = omega arith in
    let s = width_shifted c.width_of.result l in let w = few_aligned c.width_of.result l in omega arith
