use Rattle.std.proofs.Common.{ap, ◌∙◌, length}
use Rattle.per_de.proofs.Calls.{reads}
use Rattle.per_de.proofs.Calls.{faulty_whole, reads_whole}
use Rattle.per_de.proofs.Decoder.read_integer.Goals as goal

pub returns : goal.returns
returns g c =
    reads c.args.self.now _ _ c.in_ok-check_unfailed.ensures.ok (λ v. reads_whole _ _ _ _ _ _ _) c.reader-reader.ensures c.take_integer-taken.ensures (c.len-left.ensures ∙ ap length c.bits.ensures) c.answer.ensures (λ k. faulty_whole _ _ _ _ _ k)
