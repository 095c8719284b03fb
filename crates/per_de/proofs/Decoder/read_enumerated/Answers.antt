use Rattle.std.proofs.Common.{ap, ◌∙◌, length}
use Rattle.per_de.proofs.Calls.{reads_freely}
use Rattle.per_de.proofs.Enumerations.{no_item, reads_item}
use Rattle.per_de.proofs.Decoder.read_enumerated.Goals as goal

pub returns : goal.returns
returns g c =
    reads_freely c.args.self.now _ _ c.in_ok-check_unfailed.ensures.ok (λ v. reads_item _ _ _ _ _) c.reader-reader.ensures c.take_enumerated-taken.ensures (c.len-left.ensures ∙ ap length c.bits.ensures) c.answer.ensures (λ k h. (h.0, no_item _ _ _ _ h.1))
