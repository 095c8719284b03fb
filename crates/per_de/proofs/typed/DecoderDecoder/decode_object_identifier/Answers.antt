use Rattle.std.proofs.Common.{ap, ◌∙◌, length}
use Rattle.per_de.proofs.Calls.{reads}
use Rattle.per_de.proofs.MomentCalls.{reads_identifier, faulty_identifier}
use Rattle.per_de.proofs.InTurn.{begun, still}
use Rattle.per_de.proofs.typed.DecoderDecoder.decode_object_identifier.Goals as goal

pub returns : goal.returns
returns c =
    begun _ c.in_ok-begin_value.ensures.noted (reads c.begin_value.new.self _ _ (still c.args.self.now c.in_ok-begin_value.ensures.noted c.in_ok-begin_value.ensures.ok) (λ v. reads_identifier _ _) c.reader-reader.ensures c.take_object_identifier-taken.ensures (c.len-left.ensures ∙ ap length c.bits.ensures) c.answer.ensures (λ k. faulty_identifier _ _ k))
