use Rattle.std.proofs.Common.{◌∙◌, ◌++◌, ap, ap₂, take}
use Rattle.std.proofs.Math.Seq.{take-length}
use Rattle.rasn_types.specs.Bits.{to_bits, number_of}
use Rattle.rasn_types.proofs.Bits.{to_bits-number}
use Rattle.per_bits.specs.Octets.{filled}
use Rattle.per_bits.proofs.Readers.{bits_are, filled_by, padded_by, room_by}
use Rattle.per_bits.proofs.BitList.push_reader.Goals as goal

pub invariant_of-self-2 : goal.invariant_of-self-2
invariant_of-self-2 g c = room_by c.append_reader.ensures

pub returns-clause-ok : goal.returns-clause-ok
returns-clause-ok g c =
    let same = bits_are (rw c.unwrap.ensures at c.clone.ensures.cases) in
    filled_by c.append_reader.ensures
    ∙ ap₂ (λ bs cs. bs ++ cs) (filled_by c.cut_back-spare.ensures.bits ∙ ap (λ os. filled c.self.inside.spare os) c.reserve.ensures.items ∙ c.self.view_is) same

pub returns-then-width-from-clause-ok : goal.returns-then-width-from-clause-ok
returns-then-width-from-clause-ok g c =
    let bits = c.args.reader.now.bits in
    let all = c.first_bits.ensures ∙ ap (λ n. number_of (take n bits)) c.len-width.ensures ∙ ap number_of (take-length bits) in
    let same = ap₂ to_bits c.len-width.ensures all ∙ to_bits-number bits in
    rw same at c.push_bits.ensures.ok

pub append_reader-requires-clause-padded : goal.append_reader-requires-clause-padded
append_reader-requires-clause-padded g c = padded_by c.cut_back-spare.ensures.bits
