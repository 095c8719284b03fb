use Rattle.std.proofs.Common.{ap, ◌∙◌, false, length}
use Rattle.per_de.proofs.Calls.{reads}
use Rattle.per_de.proofs.StringCalls.{reads_bits, faulty_bits}
use Rattle.per_de.proofs.InTurn.{begun, still}
use Rattle.per_de.proofs.typed.DecoderDecoder.decode_bit_string.Goals as goal

pub returns : goal.returns
returns c =
    begun _ c.in_ok-begin_value.ensures.noted (reads c.begin_value.new.self _ _ (still c.args.self.now c.in_ok-begin_value.ensures.noted c.in_ok-begin_value.ensures.ok) (λ v. reads_bits _ _ _ false _) c.reader-reader.ensures c.take_bit_string-taken.ensures (c.len-left.ensures ∙ ap length c.bits.ensures) c.answer.ensures (λ k. faulty_bits _ _ _ false _ k))
