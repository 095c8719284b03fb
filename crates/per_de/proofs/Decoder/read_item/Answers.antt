use Rattle.std.proofs.Common.{ap, ◌∙◌, length}
use Rattle.per_de.proofs.AtPlaces.{reads_placed}
use Rattle.per_de.proofs.Calls.{reads_freely}
use Rattle.per_de.proofs.Enumerations.{no_item}
use Rattle.per_de.proofs.Decoder.read_item.Goals as goal

pub returns : goal.returns
returns c =
    reads_freely c.args.self.now _ _ c.in_ok-check_unfailed.ensures.ok (λ p. reads_placed _ c.args.items p) c.reader-reader.ensures c.take_item-taken.ensures (c.len-left.ensures ∙ ap length c.bits.ensures) c.answer.ensures (λ k h. (h.0, no_item _ _ _ _ h.1))
