use Rattle.std.proofs.Common.{ap, ◌∙◌, length}
use Rattle.per_de.proofs.Calls.{reads}
use Rattle.per_de.proofs.StringCalls.{reads_utf8, faulty_utf8}
use Rattle.per_de.proofs.InTurn.{begun, still}
use Rattle.per_de.proofs.typed.DecoderDecoder.decode_utf8_string.Goals as goal

pub returns : goal.returns
returns c =
    begun _ c.in_ok-begin_value.ensures.noted (reads c.begin_value.new.self _ _ (still c.args.self.now c.in_ok-begin_value.ensures.noted c.in_ok-begin_value.ensures.ok) (λ v. reads_utf8 _ _) c.reader-reader.ensures c.take_utf8-taken.ensures (c.len-left.ensures ∙ ap length c.bits.ensures) c.answer.ensures (λ k. faulty_utf8 _ _ k))
