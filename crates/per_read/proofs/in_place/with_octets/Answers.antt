use Rattle.std.proofs.Common.{sym}
use Rattle.std.proofs.lemmas.List.{append-nil}
use Rattle.per_read.proofs.OneByOne.{field_taken, first_go_on, first_end}
use Rattle.per_read.proofs.in_place.with_octets.Goals as goal

pub loop-preserved : goal.loop-preserved
loop-preserved c =
    let taken = rw c.unwrap-octet.ensures at c.take.ensures in
    let f = field_taken 8 c.first_bits.result c.loop.left.bits c.unwrap-octet.result.bits c.take.new.self.bits taken.ok taken.count c.first_bits.ensures in
    first_go_on _ c.loop.invariant c.loop-test.true f c.with_octet-number.ensures

pub returns : goal.returns
returns c = first_end c.loop.invariant c.loop-test.false (sym (append-nil c.args.octets.bits))
