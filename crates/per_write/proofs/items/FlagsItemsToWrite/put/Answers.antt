use Rattle.std.specs.Prelude.{Some, slice_range}
use Rattle.std.proofs.Common.{◌≡◌, ◌∙◌, sym, ap, length, length-append, take, rules, arith}
use Rattle.std.proofs.Math.Seq.{take-length}
use Rattle.std.proofs.lemmas.Result.{on_ok_weaker}
use Rattle.rasn_types.specs.Variants.{unaligned}
use Rattle.per_core.specs.Counts.{bit_writers}
use Rattle.per_core.specs.Writers.{just, one_by_one}
use Rattle.per_bits.proofs.Readers.{ok_unless}
use Rattle.per_write.proofs.Steps.{bits_between, bits_one_by_one, length-bit_writers, taken_between}
use Rattle.per_write.proofs.Writing.{wrote_same}
use Rattle.per_write.proofs.items.FlagsItemsToWrite.put.Goals as goal

pub unwrap-bits-requires : goal.unwrap-bits-requires
unwrap-bits-requires g c =
    let within = c.requires.within unaligned in
    let counted = length-bit_writers c.args.self.now.bits.now in
    let long = ap length c.new-rest.ensures.bits in
    ok_unless c.take.result c.take.ensures.short (λ h. omega arith)

pub unwrap-bits-requires-2 : goal.unwrap-bits-requires-2
unwrap-bits-requires-2 g c =
    let within = c.requires.within unaligned in
    let counted = length-bit_writers c.args.self.now.bits.now in
    let first = rw c.unwrap-bits.ensures at c.take.ensures in
    let long = ap length c.new-rest.ensures.bits in
    let left = ap length first.ok ∙ length-append c.unwrap-bits.result.bits c.take.new.self.bits in
    ok_unless c.take-2.result c.take-2.ensures.short (λ h. omega (arith, first.count))

pub returns : goal.returns
returns g c =
    let bs = c.args.self.now.bits.now in
    let start = c.args.start in
    let end = c.args.end in
    let within = c.requires.within unaligned in
    let counted = length-bit_writers bs in
    let first = rw c.unwrap-bits.ensures at c.take.ensures in
    let second = rw c.unwrap-bits-2.ensures at c.take-2.ensures in
    let these : c.unwrap-bits-2.result.bits ≡ slice_range bs start end = taken_between bs c.new-rest.result.bits c.unwrap-bits.result.bits c.take.new.self.bits c.unwrap-bits-2.result.bits c.take-2.new.self.bits start end
    (ap (take (length bs)) c.new-rest.ensures.bits ∙ take-length bs) (omega arith) c.requires.ordered first.ok first.count second.ok second.count in
    record {
      ok = on_ok_weaker _ (wrote_same c.args.writer.now c.put_reader.new.self (just c.unwrap-bits-2.result.bits) (one_by_one (slice_range (bit_writers bs) start end))
          (λ p. ap Some these ∙ sym (ap (λ ws. one_by_one ws p) (bits_between bs start end) ∙ bits_one_by_one (slice_range bs start end) p))) c.put_reader.ensures.ok;
      err = search rules;
      fails = search rules;
      kept = search rules;
    }
