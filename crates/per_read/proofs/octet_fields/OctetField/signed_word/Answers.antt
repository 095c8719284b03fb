use Rattle.std.proofs.Common.{◌∙◌, ◌-◌, ◌*◌, arith, pow_pos}
use Rattle.std.specs.Int.{w64}
use Rattle.std.proofs.lemmas.Int.{to_z_pos}
use Rattle.per_read.proofs.ReadAsField.{below_word, few_below, from_word, half_word_is, negative_word_is, signed_natural, twice_half}
use Rattle.per_read.proofs.octet_fields.OctetField.signed_word.Goals as goal

pub overflow_cast-number : goal.overflow_cast-number
overflow_cast-number c =
    let h = half_word_is c.requires.octets.1 c.requires.few in
    omega (arith, h.1, few_below c.requires.octets.1, twice_half c.requires.octets.1)

pub overflow_cast-result : goal.overflow_cast-result
overflow_cast-result c =
    let h = half_word_is c.requires.octets.1 c.requires.few in
    record { sfits = omega (arith, h.1, below_word c.requires.octets.1 c.requires.few c.if-number-width-eq0.true) }

pub overflow_sub-result-3 : goal.overflow_sub-result-3
overflow_sub-result-3 c =
    let h = half_word_is c.requires.octets.1 c.requires.few in
    omega (arith, h.0, few_below c.requires.octets.1, twice_half c.requires.octets.1, from_word c.requires.octets.1 c.requires.few c.if-number-width-eq0.false)

pub returns-then-number-width-eq0 : goal.returns-then-number-width-eq0
returns-then-number-width-eq0 c os a =
    let h = half_word_is a c.requires.few in
    let l = below_word a c.requires.few c.if-number-width-eq0.true in
    to_z_pos w64 c.args.self.now.number (omega (arith, h.1, l)) ∙ signed_natural a l

pub returns : goal.returns
returns c os a =
    let h = half_word_is a c.requires.few in
    let l = from_word a c.requires.few c.if-number-width-eq0.false in
    negative_word_is a _ h.0 (omega (arith, h.0, h.1)) (omega (arith, h.0, pow_pos (8 * c.args.self.now.count - 1))) (omega (arith, h.0, l))
