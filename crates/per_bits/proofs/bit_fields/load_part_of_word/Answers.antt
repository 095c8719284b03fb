use Rattle.std.proofs.Common.{◌≡◌, ◌∙◌, ◌+◌, ◌-◌, ◌*◌, ◌/◌, ◌%◌, ◌^◌, ℕ, ap, length, drop, subst, arith, mod-lt, pow_pos}
use Rattle.std.proofs.lemmas.Nat.{shr_below}
use Rattle.rasn_types.specs.Bits.{to_bits}
use Rattle.per_bits.specs.Octets.{word_size, first_word}
use Rattle.per_bits.proofs.Joins.{front_and_rest, last_four, put_after, unpack-half}
use Rattle.per_bits.proofs.bit_fields.load_part_of_word.Goals as goal

pub returns-in-Some-Some : goal.returns-in-Some-Some
returns-in-Some-Some c =
    let os = c.args.octets.now in
    let front = c.from.result in
    let rest = c.load_last-behind.result in
    let first = c.in-Some-Some.ensures.cases in
    let last = c.in-Some-Some.ensures'.cases in
    let below = c.load_last-behind.type_inv in
    ap (to_bits word_size) (put_after 64 front (rest / 2 ^ 32) 32 32 (omega (arith, c.from.ensures, c.from_be_bytes-in-Some-Some.type_inv)) (shr_below rest 32 32 below) (omega arith))
    ∙ front_and_rest 4 front rest os (omega arith) first.enough below
    (unpack-half front os c.in-Some-Some.first.now first.enough first.same c.type_inv.octets (c.from.ensures ∙ c.from_be_bytes-in-Some-Some.ensures))
    (ap (to_bits word_size) c.load_last-behind.ensures ∙ last_four c.from_be_bytes.result os c.in-Some-Some.last.now first.enough c.requires last.1.same c.type_inv.octets c.from_be_bytes.ensures)
