use Rattle.std.proofs.Common.{◌≡◌, ◌∙◌, sym, ap, length, take, arith, ◌≤◌, length-take}
use Rattle.per_bits.proofs.Words.{unpack-word, first_word-long, octets_taken}
use Rattle.per_bits.proofs.bit_fields.load_word.Goals as goal

pub returns-in-Some : goal.returns-in-Some
returns-in-Some c =
    let h : 8 ≤ length c.args.octets.now = c.in-Some.ensures.cases.enough in
    let s : c.in-Some.chunk.now ≡ take 8 c.args.octets.now = c.in-Some.ensures.cases.same in
    unpack-word c.in-Some.chunk.now c.from_be_bytes.result (ap length s ∙ length-take 8 c.args.octets.now ∙ omega arith) (octets_taken 8 c.args.octets.now c.in-Some.chunk.now h s c.type_inv.octets) c.from_be_bytes.ensures
    ∙ sym (first_word-long c.args.octets.now c.in-Some.chunk.now h s)
